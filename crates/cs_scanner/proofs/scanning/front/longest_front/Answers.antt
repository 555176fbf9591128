-- One byte more, or no rule goes on.
use Rattle.std.proofs.Common.{◌≡◌, ℕ, ◌+◌, ◌++◌, ◌∷◌, [], List, take, get_or, arith, sym, subst}
use Rattle.std.proofs.lemmas.List.{take_more}
use Rattle.cs_scanner.specs.Automaton.Machine.{IsBegun}
use Rattle.cs_scanner.specs.Automaton.Machine.{StateOf, patterns_of}
use Rattle.cs_scanner.proofs.OnScan.Matching.{best_now, best_kept, best_stops, best_ends}
use Rattle.cs_scanner.proofs.scanning.front.longest_front.Goals as goal
use Rattle.cs_scanner.proofs.scanning.front.longest_front.Goals.{in-Some-first_rule, in_default-first_rule}

pub returns-in_default : goal.returns-in_default
returns-in_default c =
    let text = c.args.text.now in
    let i = c.loop-i.i in
    let more : take (i + 1) text ≡ take i text ++ get_or text i 0 ∷ [] = take_more text i 0 c.loop-i-test.true in
    best_stops (patterns_of c.args.automaton.now) text i c.loop-i.best (omega arith) c.loop-i.invariant.best
    (λ b. c.in_default.ensures.next (take i text) c.loop-i.invariant.stands (subst (λ t. IsBegun (patterns_of c.args.automaton.now) t) more b))

pub loop-i-preserved : goal.loop-i-preserved
loop-i-preserved c =
    let text = c.args.text.now in
    let i = c.loop-i.i in
    let rs = patterns_of c.args.automaton.now in
    let more : take (i + 1) text ≡ take i text ++ get_or text i 0 ∷ [] = take_more text i 0 c.loop-i-test.true in
    let P : List ℕ → Type 0 = λ t. StateOf c.args.automaton.now c.in-Some.next t in
    let stands = subst P (sym more) (c.in-Some.ensures.next (take i text) c.loop-i.invariant.stands).1 in
    record {
      within = c.in-Some.ensures.within;
      stands = stands;
      best =
          elim c.match-first_rule.branch [
            | in-Some-first_rule w ↦ rw w.best-is (best_now rs text i _ (w.in-Some-first_rule.ensures (take (i + 1) text) stands))
            | in_default-first_rule w ↦ rw w.best-is (best_kept rs text i c.loop-i.best c.loop-i.invariant.best (w.in_default-first_rule.ensures (take (i + 1) text) stands))
          ];
    }

pub returns : goal.returns
returns c = best_ends (patterns_of c.args.automaton.now) c.args.text.now c.loop-i.i c.loop-i.best (omega arith) c.loop-i.invariant.best
