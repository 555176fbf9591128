-- The node that is next has a rule of the grammar, whose open children go in front of the other open ones.
use Rattle.std.proofs.Common.{ℕ, ◌+◌, ◌++◌, ◌≡◌, List, get_or, reverse, refl, sym, ap, subst, ◌∙◌}
use Rattle.std.proofs.lemmas.List.{drop_all, take_all}
use Rattle.cs_grammar.specs.declared.symbol.Symbol.{Symbol}
use Rattle.cs_grammar.specs.Grammar.{Production}
use Rattle.cs_grammar.proofs.Measures.{IsNumberOf-rule}
use Rattle.cs_grammar.proofs.OneTree.{one_rule}
use Rattle.cs_verdicts.specs.declared.cases.met.Spot.{Spot}
use Rattle.cs_verdicts.specs.Cases.Met.{AreInsideAdded, below, spots_from}
use Rattle.cs_verdicts.proofs.OnCases.Inside.{IsInside, inside_all, inside_next, turn_at}
use Rattle.cs_verdicts.proofs.cases.met.add_inside.Goals as goal

pub rule-requires : goal.rule-requires
rule-requires c =
    let g = c.args.grammar.now in
    let t = turn_at g c.rules-number-items.result.now c.args.case c.args.firsts.now c.loop-number.number-index c.loop-number-test.true (reverse c.loop-number.spots.items) c.loop-number.firsts c.loop-number.invariant in
    IsNumberOf-rule g _ t.rule t.number

pub loop-number-preserved : goal.loop-number-preserved
loop-number-preserved c =
    let g = c.args.grammar.now in
    let rules = c.rules-number-items.result.now in
    let at = c.loop-number.number-index in
    let old = c.args.firsts.now in
    let number = get_or rules at 0 in
    let pending = reverse c.loop-number.spots.items in
    let t = turn_at g rules c.args.case old at c.loop-number-test.true pending c.loop-number.firsts c.loop-number.invariant in
    let rule = one_rule g number number t.rule c.rule.result.now refl t.number c.rule.ensures.rule in
    let same : spots_from number 1 t.rule.right ++ below pending ≡ reverse c.open_children.new.spots.items =
    ap (λ (p : Production). spots_from number 1 p.right ++ below pending) rule
    ∙ ap (λ (xs : List Symbol). spots_from number 1 xs ++ below pending) (sym c.right.ensures)
    ∙ ap (λ (l : List Spot). spots_from number 1 c.right.result.now ++ l) (sym c.add_node.ensures.spots)
    ∙ sym c.in_ok-open_children.ensures in
    subst (λ (l : List Spot). IsInside g rules (at + 1) l c.args.case old c.add_node.new.firsts) same
    (inside_next g rules c.args.case old at c.loop-number-test.true pending c.loop-number.firsts c.loop-number.invariant c.add_node.new.firsts c.in_ok-add_node.ensures.added)

pub returns-clause-added : goal.returns-clause-added
returns-clause-added c =
    let g = c.args.grammar.now in
    let rules = c.rules-number-items.result.now in
    let at = c.loop-number.number-index in
    let all = inside_all g rules c.args.case c.args.firsts.now at (reverse c.loop-number.spots.items) c.loop-number.firsts (drop_all at rules c.loop-number-test.false) (take_all at rules c.loop-number-test.false) c.loop-number.invariant in
    subst (λ (r : List ℕ). AreInsideAdded g r c.args.case c.args.firsts.now c.loop-number.firsts) c.rules-number-items.ensures all
