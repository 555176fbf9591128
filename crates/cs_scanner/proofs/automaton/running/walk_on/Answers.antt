-- One step more.
use Rattle.std.proofs.Common.{◌≡◌, List, ℕ, Bool, sym, ap, ◌∙◌, subst, take, get_or}
use Rattle.cs_scanner.specs.declared.automaton.op.Op.TheVariants.{Place}
use Rattle.cs_scanner.specs.Automaton.Bits.{bit, Puts}
use Rattle.cs_scanner.specs.Automaton.Runs.{start_on}
use Rattle.cs_scanner.specs.Automaton.Walks.{go, go_all, put, put_all}
use Rattle.cs_scanner.proofs.OnAutomaton.BitLemmas.{puts_on}
use Rattle.cs_scanner.proofs.OnAutomaton.Walking.{go_more, put_more}
use Rattle.cs_scanner.proofs.automaton.running.walk_on.Goals as goal

pub loop-i-preserved : goal.loop-i-preserved
loop-i-preserved c =
    let S = bit c.args.set.now in
    let ops = c.args.ops.now in
    let i = c.loop-i.i in
    let g = start_on c.args.entered c.args.finals.items in
    let op = get_or ops i (Place 0) in
    let old = c.loop-i.invariant in
    let live : c.loop-i.walk.live ≡ (go_all S (take i ops) g).live = ap (λ t. t.live) old.walked in
    let P : List ℕ → Type 0 = λ t. Puts c.args.next.now c.go.new.next t in
    let Q : Bool → Type 0 = λ t. Puts c.loop-i.next c.go.new.next (put S op t) in
    let one = subst Q live c.in_ok-go.ensures.next in
    record {
      walked = c.in_ok-go.ensures.state ∙ ap (go S op) old.walked ∙ sym (go_more S ops i (Place 0) g c.loop-i-test.true);
      puts = subst P (sym (put_more S ops i (Place 0) g c.loop-i-test.true)) (puts_on c.args.next.now c.loop-i.next c.go.new.next (put_all S (take i ops) g) (put S op (go_all S (take i ops) g).live) old.puts one);
    }
