-- The rule at the root is written, and its children stand in front with the kinds that the chosen tree gives.
use Rattle.std.proofs.Common.{List, [], ◌∷◌, refl, sym, ap, subst, ◌∙◌}
use Rattle.std.specs.Prelude.{All}
use Rattle.std.proofs.lemmas.Result.{on_ok_weaker}
use Rattle.cs_grammar.specs.declared.symbol.Symbol.{Symbol}
use Rattle.cs_grammar.specs.Grammar.{Production, PlainGrammar, IsRule, IsSymbolOf}
use Rattle.cs_grammar.proofs.OneTree.{one_rule}
use Rattle.cs_grammar.proofs.Measures.{rule_number}
use Rattle.cs_pairs.specs.Kinds.Clauses.{IsPlaceIn}
use Rattle.cs_pairs.proofs.OnKinds.Written.{takes_root}
use Rattle.cs_pairs.proofs.kinds.writing.open_part.Goals as goal

pub rule-requires : goal.rule-requires
rule-requires c =
    let whole = c.chosen_root-root.ensures in
    let root = whole.is_root in
    rule_number c.args.kinds.now.grammar c.grammar.result.now _ root.rule c.grammar.ensures root.number

pub returns-clause-ok : goal.returns-clause-ok
returns-clause-ok c =
    let g = c.args.kinds.now.grammar in
    let whole = c.chosen_root-root.ensures in
    let root = whole.is_root in
    let r = c.chosen_root-root.result.number in
    let p = c.rule.result.now in
    let same = one_rule g r r p root.rule refl (subst (λ (s : PlainGrammar). IsRule s r p) c.grammar.ensures c.rule.ensures.rule) root.number in
    let right = c.right-right.ensures ∙ ap (λ (o : Production). o.right) same in
    let fits = subst (λ (s : PlainGrammar). All (IsSymbolOf s) p.right) c.grammar.ensures c.rule.ensures.fits.right in
    let each = subst (λ (l : List Symbol). All (IsSymbolOf g) l) (sym c.right-right.ensures) fits in
    on_ok_weaker c.put_first.result
    (λ e. takes_root c.args.kinds.now.weights g c.args.kind c.args.left _ _ _ root right (subst (λ (l : List Symbol). IsPlaceIn c.args.kinds.now c.args.kind l c.chosen_root-root.result.place) (sym right) whole.is_place) _ _ _ _ c.requires.kind each c.in_ok-push.ensures.ok e)
    c.put_first.ensures

pub returns-clause-grown : goal.returns-clause-grown
returns-clause-grown c = (c.chosen_root-root.result.number ∷ [], c.in_ok-push.ensures.ok)
