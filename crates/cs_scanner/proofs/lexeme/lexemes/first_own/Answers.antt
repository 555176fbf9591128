-- One place more that doesn't give its own byte, or the first that does.
use Rattle.std.proofs.Common.{arith, rules, ◌≡◌, Some, ℕ, List, Option, subst}
use Rattle.cs_pattern_parts.specs.declared.kind.Kind.{Kind}
use Rattle.cs_scanner.specs.Automaton.Machine.{StateOf}
use Rattle.cs_scanner.specs.Scan.Compared.{scanning}
use Rattle.cs_scanner.specs.Lexeme.Kinds.{own_byte, IsKindOf}
use Rattle.cs_scanner.proofs.OnLexeme.Standing.{visit_at, is_visit}
use Rattle.cs_scanner.proofs.OnLexeme.Winning.{reached, won_at, lost_at, lost_more}
use Rattle.cs_scanner.proofs.lexeme.lexemes.first_own.Goals as goal

pub kind_at-requires-clause-reached : goal.kind_at-requires-clause-reached
kind_at-requires-clause-reached c =
    let visits = c.args.visits.now in
    let at = c.loop-place.place in
    reached (scanning c.args.table.now.scanner) c.args.table.now.scanner.automaton.now visits c.requires.visits at (visit_at visits at) (is_visit visits at c.loop-place-test.true)

pub loop-place-preserved : goal.loop-place-preserved
loop-place-preserved c =
    let visits = c.args.visits.now in
    let at = c.loop-place.place in
    let v = visit_at visits at in
    let here = is_visit visits at c.loop-place-test.true in
    let s = scanning c.args.table.now.scanner in
    let m = c.args.table.now.scanner.automaton.now in
    lost_more s m visits at own_byte c.loop-place.invariant (lost_at s m visits at v c.kind_at.result own_byte here c.kind_at.ensures (λ e. let f = c.if-is_own.ensures.1 e in search rules))

pub returns-then-is_own : goal.returns-then-is_own
returns-then-is_own c =
    let visits = c.args.visits.now in
    let at = c.loop-place.place in
    let v = visit_at visits at in
    let here = is_visit visits at c.loop-place-test.true in
    let s = scanning c.args.table.now.scanner in
    let m = c.args.table.now.scanner.automaton.now in
    let K : Option Kind → Type 0 = λ k. (x : List ℕ) → StateOf m v.state x → IsKindOf s x k in
    let e : c.kind_at.result ≡ Some own_byte = c.if-is_own.ensures.0 (search rules) in
    (c.loop-place-test.true, record { behind = omega arith; won = won_at s m visits at v own_byte here (subst K e c.kind_at.ensures); lost = c.loop-place.invariant })
