-- Several returns are foreign, and a single one gives what it names, or is foreign where it names nothing.
use Rattle.cs_lex.specs.Actions.Views.{named_of}
use Rattle.cs_lex.proofs.OnActions.KindsFound.{several, one_named, one_unnamed}
use Rattle.cs_lex.proofs.actions.kind.by_words.Goals as goal

pub returns-in-Several : goal.returns-in-Several
returns-in-Several c = several c.args.action.now c.in-Several.ensures

pub returns-in-Some : goal.returns-in-Some
returns-in-Some c = one_named c.args.action.now c.from_offset.result.now c.in-One.to (named_of c.in-Some.named) _ c.in-One.ensures c.from_offset.ensures c.in-Some.ensures c.of_named.ensures

pub returns-in-None-returned : goal.returns-in-None-returned
returns-in-None-returned c = one_unnamed c.args.action.now c.from_offset.result.now c.in-One.to c.in-One.ensures c.from_offset.ensures c.in-None-returned.ensures
