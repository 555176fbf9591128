-- No rule that is passed has the root, and some rule has it, so it is the first that has a place.
use Rattle.std.proofs.Common.{◌≡◌, ℕ, ◌-◌, ◌<◌, ◌≤◌, List, Some, length, get_or, refl, sym, ap, subst, ◌∙◌, arith}
use Rattle.std.specs.Prelude.{slice_get}
use Rattle.std.proofs.lemmas.Option.{slice_get-get_or}
use Rattle.cs_grammar.specs.declared.symbol.Symbol.{Symbol}
use Rattle.cs_grammar.specs.declared.symbol.Symbol.TheVariants.{Nonterminal}
use Rattle.cs_grammar.specs.Grammar.{Production, PlainGrammar, IsRule, IsSymbolOf}
use Rattle.std.specs.Prelude.{All}
use Rattle.cs_grammar.specs.Tree.{size}
use Rattle.cs_grammar.proofs.OneTree.{one_rule}
use Rattle.cs_least.proofs.OnCost.Ranks.{cost_low, cost_capped}
use Rattle.cs_pairs.specs.Kinds.Kinds.{IsTreeOfKind}
use Rattle.cs_pairs.specs.Kinds.Clauses.{IsNodeCost}
use Rattle.cs_pairs.specs.Kinds.Beside.{IsAbove}
use Rattle.cs_pairs.proofs.OnKinds.Roots.{no_root_none, no_root_more, no_root_below, no_root_at_all, root_here, root_number, root_place, some_root}
use Rattle.cs_pairs.proofs.kinds.roots.root_of.Goals as goal
use Rattle.cs_pairs.proofs.kinds.roots.root_of.Goals.{After-place_within}

-- the number at hand, which is that of the rule that is read
abbrev number : After-place_within → ℕ
number c = get_or c.rules_with-number-items.result.now c.loop-number.number-index 0

here : (c : After-place_within) → slice_get c.rules_with-number-items.result.now c.loop-number.number-index ≡ Some (number c)
here c = slice_get-get_or c.rules_with-number-items.result.now c.loop-number.number-index 0 c.loop-number-test.true

is_rule : (c : After-place_within) → IsRule c.args.kinds.now.grammar (number c) c.rule.result.now
is_rule c = subst (λ (s : PlainGrammar). IsRule s (number c) c.rule.result.now) c.grammar.ensures c.rule.ensures.rule

pub loop-number-init : goal.loop-number-init
loop-number-init c = no_root_none c.args.kinds.now.weights c.args.kinds.now.grammar c.args.rows.now.kind _ _

pub rule-requires : goal.rule-requires
rule-requires c =
    let i = c.loop-number.number-index in
    let here = slice_get-get_or c.rules_with-number-items.result.now i 0 c.loop-number-test.true in
    let v = c.rules_with-number-items.ensures.each i (get_or c.rules_with-number-items.result.now i 0) here in
    subst (λ (g : PlainGrammar). (0 < get_or c.rules_with-number-items.result.now i 0) × (get_or c.rules_with-number-items.result.now i 0 ≤ length g.rules)) (sym c.grammar.ensures) (v.1.above_zero, v.3)

pub place_within-requires-clause-right : goal.place_within-requires-clause-right
place_within-requires-clause-right c =
    let fits = subst (λ (s : PlainGrammar). All (IsSymbolOf s) c.rule.result.now.right) c.grammar.ensures c.rule.ensures.fits.right in
    subst (λ (l : List Symbol). All (IsSymbolOf c.args.kinds.now.grammar) l) (sym c.right-right.ensures) fits

pub place_within-requires-clause-cost : goal.place_within-requires-clause-cost
place_within-requires-clause-cost c = cost_capped c.args.kinds.now.weights.limit (IsTreeOfKind c.args.kinds.now.grammar c.args.rows.now.kind (Nonterminal c.args.left)) (size c.args.kinds.now.weights) c.told_by-cost.result c.told_by-cost.ensures

pub returns-in-Some : goal.returns-in-Some
returns-in-Some c =
    let at = (goal.at.returns-in-Some c).After-place_within in
    let v = c.args.kinds.now in
    let w = v.weights in
    let g = v.grammar in
    let k = c.args.rows.now.kind in
    let r = number at in
    let q = c.rule.result.now in
    let rule = is_rule at in
    let o = c.rules_with-number-items.ensures.each c.loop-number.number-index r (here at) in
    let of_left = ap (λ (p : Production). p.left) (one_rule g r r q o.0 refl rule o.1) ∙ o.2 in
    let t = c.requires.small in
    let low = cost_low w.limit (IsTreeOfKind g k (Nonterminal c.args.left)) (size w) c.told_by-cost.result c.told_by-cost.ensures t.0 t.1 in
    let below = no_root_below w g k c.args.left c.rules_with-number-items.result.now c.rules_with-number-items.ensures _ c.loop-number.number-index r (here at) c.loop-number.invariant in
    let node = c.in-Some.ensures.0 in
    let is_node = subst (λ (l : List Symbol). IsNodeCost v k l node.0) c.right-right.ensures node.1 in
    root_place v k c.args.left r c.in-Some.place q _ rule c.right-right.ensures c.in-Some.ensures.1
    (root_number w g k c.args.left r rule.above_zero
    (root_here w g k c.args.left (r - 1) q rule.at c.told_by-cost.result below node.0 of_left c.told_by-cost.ensures (omega (arith, low, t.2)) is_node node.2))

pub loop-number-preserved : goal.loop-number-preserved
loop-number-preserved c =
    let at = (goal.at.loop-number-preserved c).After-place_within in
    let v = c.args.kinds.now in
    let k = c.args.rows.now.kind in
    no_root_more v.weights v.grammar k c.rules_with-number-items.result.now _ c.loop-number.number-index (number at) c.rule.result.now
    (here at) (is_rule at) (subst (λ (l : List Symbol). IsAbove v k l c.told_by-cost.result) c.right-right.ensures c.in_default.ensures) c.loop-number.invariant

pub unreachable-requires : goal.unreachable-requires
unreachable-requires c =
    let w = c.args.kinds.now.weights in
    let g = c.args.kinds.now.grammar in
    let k = c.args.rows.now.kind in
    let t = c.requires.small in
    let low = cost_low w.limit (IsTreeOfKind g k (Nonterminal c.args.left)) (size w) c.told_by-cost.result c.told_by-cost.ensures t.0 t.1 in
    let none = no_root_at_all w g k c.args.left c.rules_with-number-items.result.now c.rules_with-number-items.ensures _ c.loop-number.number-index c.loop-number-test.false c.loop-number.invariant in
    some_root w g k c.args.left (length g.rules) c.told_by-cost.result (omega arith) none c.told_by-cost.ensures (omega (arith, low, t.2))
