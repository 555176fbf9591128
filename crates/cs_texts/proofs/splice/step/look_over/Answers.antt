-- One byte more, or no rule goes on.
use Rattle.std.proofs.Common.{◌≡◌, ℕ, ◌+◌, ◌<◌, ◌++◌, ◌∷◌, [], List, take, get_or, arith, sym, subst, length, length-append, ap, ◌∙◌}
use Rattle.std.proofs.lemmas.List.{take_more}
use Rattle.cs_scanner.specs.Automaton.Machine.{IsBegun, StateOf, patterns_of}
use Rattle.cs_scanner.proofs.OnScan.Matching.{best_now, best_kept, best_stops, best_ends}
use Rattle.cs_texts.proofs.OnSplice.Settling.{dies_settled}
use Rattle.cs_texts.proofs.splice.step.look_over.Goals as goal
use Rattle.cs_texts.proofs.splice.step.look_over.Goals.{in-Some-first_rule, in_default-first_rule}

one_more : (near far : List ℕ) (i byte : ℕ) → i < length near + length far → byte ≡ get_or (near ++ far) i 0 → (i < length (near ++ far)) × (take (i + 1) (near ++ far) ≡ take i (near ++ far) ++ byte ∷ [])
one_more near far i byte lt is =
    let text = near ++ far in
    let within : i < length text = omega (arith, length-append near far, lt) in
    (within, take_more text i 0 within ∙ ap (λ b. take i text ++ b ∷ []) (sym is))

pub returns-in_default : goal.returns-in_default
returns-in_default c =
    let text = c.args.near.now ++ c.args.far.now in
    let rs = patterns_of c.args.automaton.now in
    let i = c.loop-i.i in
    let more = one_more c.args.near.now c.args.far.now i c.byte_at.result c.loop-i-test.true c.byte_at.ensures in
    let stop : IsBegun rs (take (i + 1) text) → ⊥ = λ b. c.in_default.ensures.next (take i text) c.loop-i.invariant.stands (subst (λ t. IsBegun rs t) more.1 b) in
    record {
      longest = best_stops rs text i c.loop-i.found (omega (arith, more.0)) c.loop-i.invariant.best stop;
      settled = dies_settled rs text i c.loop-i.found more.0 c.loop-i.invariant.best stop;
    }

pub loop-i-preserved : goal.loop-i-preserved
loop-i-preserved c =
    let text = c.args.near.now ++ c.args.far.now in
    let rs = patterns_of c.args.automaton.now in
    let i = c.loop-i.i in
    let more = one_more c.args.near.now c.args.far.now i c.byte_at.result c.loop-i-test.true c.byte_at.ensures in
    let P : List ℕ → Type 0 = λ t. StateOf c.args.automaton.now c.in-Some.next t in
    let stands = subst P (sym more.1) (c.in-Some.ensures.next (take i text) c.loop-i.invariant.stands).1 in
    record {
      within = c.in-Some.ensures.within;
      stands = stands;
      best =
          elim c.match-first_rule.branch [
            | in-Some-first_rule w ↦ rw w.found-is (best_now rs text i _ (w.in-Some-first_rule.ensures (take (i + 1) text) stands))
            | in_default-first_rule w ↦ rw w.found-is (best_kept rs text i c.loop-i.found c.loop-i.invariant.best (w.in_default-first_rule.ensures (take (i + 1) text) stands))
          ];
    }

pub returns : goal.returns
returns c = record {
  longest = best_ends (patterns_of c.args.automaton.now) (c.args.near.now ++ c.args.far.now) c.loop-i.i c.loop-i.found (omega (arith, length-append c.args.near.now c.args.far.now)) c.loop-i.invariant.best;
  settled = tt;
}
