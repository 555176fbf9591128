-- The place that is known is that of the list.
use Rattle.std.proofs.Common.{List, ℕ, subst, sym}
use Rattle.cs_grammar.specs.Sentence.{framed}
use Rattle.cs_mutate.specs.Poison.{TellsPlace}
use Rattle.cs_wrong.specs.Classes.Coming.{TellsAt}
use Rattle.cs_wrong.specs.declared.slips.lists.SlipList.{SlipList}
use Rattle.cs_wrong.proofs.writing.judging.WrongWork.class.Goals as goal

pub class_of-requires-clause-found : goal.class_of-requires-clause-found
class_of-requires-clause-found c =
    let g = c.args.self.now.recognizer.now in
    let item = c.args.item.now in
    subst (λ (l : List ℕ). TellsPlace g (framed l) item.at) (sym c.deref.ensures.value) (subst (λ (l : SlipList). TellsAt g l item.at) c.in-Tokens.is c.requires.at)
