-- One rule more.
use Rattle.std.proofs.Common.{◌+◌, ℕ, List, refl, sym, subst, arith, length, map}
use Rattle.std.proofs.lemmas.Option.{slice_get_read}
use Rattle.cs_pattern_parts.specs.Tree.Pattern.{regex}
use Rattle.cs_scanner.specs.Automaton.Bits.{bit}
use Rattle.cs_scanner.specs.Automaton.Programs.{rules_of}
use Rattle.cs_scanner.specs.Automaton.States.{AreEnding}
use Rattle.cs_scanner.proofs.OnAutomaton.Stating.{walked_more, walked_all, rules_length}
use Rattle.cs_scanner.proofs.automaton.states.walk_all.Goals as goal

pub loop-i-preserved : goal.loop-i-preserved
loop-i-preserved c =
    let rules = c.args.program.now.rules.items in
    let rs = map regex c.args.program.now.patterns.now in
    let h = c.loop-i.invariant in
    let at = slice_get_read rules (length rules) c.loop-i.i c.index.result.now refl (omega (arith, c.loop-i-test.true, c.len-i-end.ensures, c.args.program.now.rules.ok.0)) c.index.ensures in
    let both = walked_more rules rs c.loop-i.i c.index.result.now c.args.entered c.in_ok-ends.ends c.args.set.now c.args.next.now c.loop-i.next c.walk.new.next c.loop-i.ending.items c.requires.program at c.in_ok-ends.ensures h.puts h.are_ending in
    let P : List ℕ → Type 0 = λ t. AreEnding (rules_of c.args.program.now) (bit c.args.set.now) c.args.entered (c.loop-i.i + 1) t in
    record { puts = both.0; are_ending = subst P (sym c.in_ok-note.ensures) both.1 }

pub returns : goal.returns
returns c =
    let rules = c.args.program.now.rules.items in
    let rs = map regex c.args.program.now.patterns.now in
    let h = c.loop-i.invariant in
    walked_all (rules_of c.args.program.now) (length rules) c.loop-i.i c.args.entered c.args.set.now c.args.next.now c.loop-i.next c.loop-i.ending.items
    (rules_length rules 0 rs c.requires.program) (omega (arith, c.loop-i-test.false, c.loop-i.auto.i-end, c.len-i-end.ensures, c.args.program.now.rules.ok.0)) h.puts h.are_ending
