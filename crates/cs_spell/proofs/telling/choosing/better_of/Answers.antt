-- The best so far stays, unless the rule at the place is the first candidate, or a better one.
use Rattle.std.proofs.Common.{◌≡◌, true, false, refl, sym, subst, arith}
use Rattle.cs_spell.specs.Telling.Chosen.{IsBetter, RuleVerdict}
use Rattle.cs_spell.specs.Telling.Choosing.{IsBestAt, IsBestBelow, verdict_at}
use Rattle.cs_spell.proofs.OnTelling.Choosing.{at_index, best_first, best_new, best_old, best_skip}
use Rattle.cs_spell.proofs.telling.choosing.better_of.Goals as goal

pub returns-then-not-is_candidate : goal.returns-then-not-is_candidate
returns-then-not-is_candidate c =
    best_skip c.args.grammar.now c.args.judged.now c.args.wanted c.args.place c.args.best c.requires.best
    (λ is. let yes : false ≡ true = c.if-not-is_candidate.ensures.1 is in cc)

pub returns-in_default : goal.returns-in_default
returns-in_default c =
    let g = c.args.grammar.now in
    let judged = c.args.judged.now in
    best_first g judged c.args.wanted c.args.place (subst (IsBestBelow g judged c.args.wanted c.args.place) c.in_default.is c.requires.best) (c.if-not-is_candidate.ensures.0 refl)

pub returns-then-is_better : goal.returns-then-is_better
returns-then-is_better c =
    let g = c.args.grammar.now in
    let judged = c.args.judged.now in
    let wanted = c.args.wanted in
    let so_far : IsBestAt g judged wanted c.args.place c.in-Some.known = subst (IsBestBelow g judged wanted c.args.place) c.in-Some.is c.requires.best in
    let first = at_index judged c.args.place c.index-judged-place.result c.requires.place c.index-judged-place.is in
    let second = at_index judged c.in-Some.known c.index-judged-known.result (omega (arith, so_far.below, c.requires.place)) c.index-judged-known.is in
    let better = c.if-is_better.ensures.0 refl in
    let moved = subst (λ (a : RuleVerdict). IsBetter wanted a c.index-judged-known.result) (sym first) better in
    best_new g judged wanted c.args.place c.in-Some.known so_far (c.if-not-is_candidate.ensures.0 refl) (subst (λ (b : RuleVerdict). IsBetter wanted (verdict_at judged c.args.place) b) (sym second) moved)

pub returns-else-is_better : goal.returns-else-is_better
returns-else-is_better c =
    let g = c.args.grammar.now in
    let judged = c.args.judged.now in
    let wanted = c.args.wanted in
    let so_far : IsBestAt g judged wanted c.args.place c.in-Some.known = subst (IsBestBelow g judged wanted c.args.place) c.in-Some.is c.requires.best in
    let first = at_index judged c.args.place c.index-judged-place.result c.requires.place c.index-judged-place.is in
    let second = at_index judged c.in-Some.known c.index-judged-known.result (omega (arith, so_far.below, c.requires.place)) c.index-judged-known.is in
    best_old g judged wanted c.args.place c.in-Some.known so_far
    (λ better.
    let moved = subst (λ (a : RuleVerdict). IsBetter wanted a (verdict_at judged c.in-Some.known)) first better in
    let yes : false ≡ true = c.if-is_better.ensures.1 (subst (λ (b : RuleVerdict). IsBetter wanted c.index-judged-place.result b) second moved) in
    cc)
