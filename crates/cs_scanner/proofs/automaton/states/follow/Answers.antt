-- The words that were made hold what was put.
use Rattle.std.proofs.Common.{◌∙◌, ℕ, List, sym, subst, arith}
use Rattle.cs_scanner.specs.Automaton.Programs.{rules_of}
use Rattle.cs_scanner.specs.Automaton.States.{IsAfter, IsWalkedAll}
use Rattle.cs_scanner.proofs.OnAutomaton.Columning.{written}
use Rattle.cs_scanner.proofs.OnAutomaton.Stating.{after_walk}
use Rattle.cs_scanner.proofs.automaton.states.follow.Goals as goal

pub returns : goal.returns
returns c =
    let new = c.walk_all.new.next in
    let rs = rules_of c.args.program.now in
    let rules = c.in_ok-rules.rules.items in
    let made = c.in_ok-next.ensures.items_if_clones_equal (λ y e. e) in
    let w = c.in_ok-rules.ensures in
    let Q : List ℕ → Type 0 = λ t. IsWalkedAll rs c.args.entered c.args.set.now t new rules in
    let walked = subst Q (c.deref_mut.ensures.value ∙ made) w in
    let is = written c.in_ok-next.next.len new c.in_ok-next.next.items (omega (arith, c.in_ok-next.next.ok.0)) (omega (arith, c.in_ok-next.ensures.len, c.deref_mut.ensures.len, w.puts.long)) in
    let P : List ℕ → Type 0 = λ t. IsAfter rs c.args.entered c.args.set.now t rules in
    subst P (sym is) (after_walk rs c.args.entered c.args.set.now new rules walked)
