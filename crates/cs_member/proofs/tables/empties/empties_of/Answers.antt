-- Each round keeps a rule for one nonterminal more, until no rule leads further.
use Rattle.std.proofs.Common.{◌≡◌, ℕ, ◌+◌, ◌≤◌, eqb, List, Some, length, refl, sym, ap, ◌∙◌, subst, arith}
use Rattle.std.specs.Prelude.{slice_get}
use Rattle.std.specs.List.{count_by}
use Rattle.std.proofs.Math.ListN.{set, length-set}
use Rattle.std.proofs.lemmas.List.Sums.{count_by-le-length}
use Rattle.std.proofs.lemmas.Option.{slice_get_within}
use Rattle.cs_grammar.specs.Grammar.{Production}
use Rattle.cs_grammar.proofs.OneTree.{one_rule}
use Rattle.cs_member.specs.Tables.Tables.{AreTrue, IsFurther, IsSaturated}
use Rattle.cs_member.proofs.OnTables.Emptying.{are_empties, fewer, rounds_more, true_set}
use Rattle.cs_member.proofs.tables.empties.empties_of.Goals as goal

pub loop-found-init : goal.loop-found-init
loop-found-init c =
    let none = c.in_ok-rules.ensures.none in
    let size = c.in_ok-rules.ensures.size ∙ ap (λ n. n + 1) c.nonterminals.ensures in
    record {
      are_true = record {
        size = size;
        some = λ a r at above. absurd (let zero = none a r at in omega arith);
        rules = λ a r at above. absurd (let zero = none a r at in omega arith);
      };
      rounds = record {
        size = c.in_ok-rounds.ensures.size ∙ sym c.in_ok-rules.ensures.size;
        below = λ a h. absurd (let zero = none a h.0 h.1 in let above = h.2 in omega arith);
        earlier = λ a r p at above rule. absurd (let zero = none a r at in omega arith);
      };
      few = (let h : count_by (λ n. eqb n 0) c.in_ok-rules.rules.items ≤ length c.in_ok-rules.rules.items = count_by-le-length (λ n. eqb n 0) c.in_ok-rules.rules.items in omega arith);
      sizes = (let ok = c.in_ok-sizes.sizes.ok.0 in let len = c.in_ok-sizes.ensures.len in let many = c.nonterminals.ensures in omega arith);
    }

pub overflow_add-round : goal.overflow_add-round
overflow_add-round c =
    let few = c.loop-found.invariant.few in
    let size = c.loop-found.invariant.are_true.size in
    let low = c.rules-well_formed.ensures.well_formed.nonterminals in
    omega arith

pub loop-found-smaller : goal.loop-found-smaller
loop-found-smaller c =
    let g = c.args.grammar.now in
    let rules = c.loop-found.rules.items in
    let further : IsFurther g rules c.in-Some.found.rule = subst (λ (l : List ℕ). IsFurther g l c.in-Some.found.rule) c.deref.ensures.value c.in-Some.ensures.some in
    let one : further.rule ≡ c.rule.result.now = one_rule g c.in-Some.found.rule c.in-Some.found.rule further.rule c.rule.result.now refl further.number c.rule.ensures.rule in
    let left : further.rule.left ≡ c.left-left.result = ap (λ (p : Production). p.left) one ∙ sym c.left-left.ensures in
    fewer rules c.left-left.result c.in-Some.found.rule (ap (λ n. slice_get rules n) (sym left) ∙ further.none) further.number.above_zero

pub loop-found-preserved : goal.loop-found-preserved
loop-found-preserved c =
    let g = c.args.grammar.now in
    let rules = c.loop-found.rules.items in
    let r = c.in-Some.found.rule in
    let a = c.left-left.result in
    let inv = c.loop-found.invariant in
    let further : IsFurther g rules r = subst (λ (l : List ℕ). IsFurther g l r) c.deref.ensures.value c.in-Some.ensures.some in
    let one : further.rule ≡ c.rule.result.now = one_rule g r r further.rule c.rule.result.now refl further.number c.rule.ensures.rule in
    let left : further.rule.left ≡ a = ap (λ (p : Production). p.left) one ∙ sym c.left-left.ensures in
    let none : slice_get rules a ≡ Some 0 = ap (λ n. slice_get rules n) (sym left) ∙ further.none in
    let less = fewer rules a r none further.number.above_zero in
    let size = length-set rules a r in
    let few = inv.few in
    record {
      are_true = subst (λ n. AreTrue g (set rules n r)) left (true_set g rules inv.are_true r further.rule further.number (slice_get_within rules further.rule.left 0 further.none) further.all);
      rounds = rounds_more g rules c.loop-found.rounds.items c.loop-found.round inv.are_true inv.rounds a r further.rule further.number left none further.all;
      few = omega arith;
      sizes = length-set c.loop-found.sizes.items a c.in-Some.found.size ∙ inv.sizes;
    }

pub returns : goal.returns
returns c =
    let g = c.args.grammar.now in
    let rules = c.loop-found.rules.items in
    let inv = c.loop-found.invariant in
    let few = inv.few in
    let saturated : IsSaturated g rules = subst (λ (l : List ℕ). IsSaturated g l) c.deref.ensures.value c.in_default.ensures.none in
    record {
      empties = are_empties g rules saturated inv.are_true;
      rounds = record { size = inv.rounds.size; below = λ a h. (let low = inv.rounds.below a h in omega arith); earlier = inv.rounds.earlier };
    }
