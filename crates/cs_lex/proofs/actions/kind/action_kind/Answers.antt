-- An action that isn't `|` alone has the kind of its first mark, or without one the kind that its words give.
use Rattle.cs_lex.specs.Actions.Kinds.{is_marked, by_words}
use Rattle.cs_lex.specs.Actions.MarkViews.{mark_of}
use Rattle.cs_lex.proofs.actions.kind.action_kind.Goals as goal

pub returns-in-Some : goal.returns-in-Some
returns-in-Some c = is_marked (mark_of c.in-Some.mark) (c.is_bar.ensures.no c.if-is_bar.false) c.in-Some.ensures c.of_mark.ensures

pub returns-in-None : goal.returns-in-None
returns-in-None c = by_words c.by_words.ensures.0 (c.is_bar.ensures.no c.if-is_bar.false) c.in-None.ensures c.by_words.ensures.1 c.by_words.ensures.2
