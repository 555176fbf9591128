-- The place that was found is that of the list.
use Rattle.std.proofs.Common.{List, ℕ, subst, sym}
use Rattle.cs_grammar.specs.Sentence.{framed}
use Rattle.cs_mutate.specs.Poison.{TellsPlace}
use Rattle.cs_wrong.specs.Classes.Coming.{TellsAt}
use Rattle.cs_wrong.specs.declared.slips.lists.SlipList.{SlipList}
use Rattle.cs_wrong.proofs.classes.coming.place_in.Goals as goal

pub returns-in-Tokens : goal.returns-in-Tokens
returns-in-Tokens c =
    let g = c.args.pairs.now.grammar in
    subst (λ (l : SlipList). TellsAt g l c.poison.result) (sym c.in-Tokens.is) (subst (λ (l : List ℕ). TellsPlace g (framed l) c.poison.result) c.deref.ensures.value c.poison.ensures.first)
