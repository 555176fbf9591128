-- A change leaves symbols of the grammar.
use Rattle.std.proofs.Common.{ap, sym, ◌∙◌, subst, List}
use Rattle.std.specs.Prelude.{All}
use Rattle.cs_grammar.specs.Grammar.{IsSymbolOf, PlainGrammar}
use Rattle.cs_grammar.specs.declared.symbol.Symbol.{Symbol}
use Rattle.cs_wrong.proofs.OnSlips.Placing.{changed_within}
use Rattle.cs_wrong.specs.Slips.Slips.{changed}
use Rattle.cs_wrong.proofs.slips.lists.list_of.Goals as goal

pub list_by-requires-clause-symbols : goal.list_by-requires-clause-symbols
list_by-requires-clause-symbols c =
    let g = c.args.embeds.now.grammar in
    let is = subst (λ (h : PlainGrammar). All (IsSymbolOf h) c.rule.result.now.right) c.grammar.ensures c.rule.ensures.fits.right in
    subst (λ (l : List Symbol). All (IsSymbolOf g) l) (sym (c.deref.ensures.value ∙ c.in_ok-symbols-in-Of.ensures ∙ ap (λ (l : List Symbol). changed c.in-Of.change l) c.right.ensures))
    (changed_within (IsSymbolOf g) c.in-Of.change c.rule.result.now.right is)
