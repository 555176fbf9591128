-- The number is that of the case at its place, or no case has it.
use Rattle.std.proofs.Common.{◌<◌, ◌-◌, [], length, get_or, refl, ap, arith, ◌↔◌}
use Rattle.std.specs.Prelude.{IsTrue}
use Rattle.std.proofs.lemmas.Option.{slice_get_within, slice_get-get_or}
use Rattle.std.proofs.lemmas.Result.{IfOk-weaker}
use Rattle.cs_check.specs.Checking.Cases.{PlainCases, case_of, DecidesMeeting, Meets}
use Rattle.cs_check.proofs.OnChecking.Cases.{meets_one}
use Rattle.cs_check.proofs.checking.cases.Cases.is_met_by.Goals as goal

pub is_met_at-requires : goal.is_met_at-requires
is_met_at-requires c =
    let long = ap (λ (s : PlainCases). length s.list) c.self.view_is in
    let within = c.in-Some.ensures c.args.number (omega arith) in
    omega (arith, c.self.inside.list.ok.0)

pub returns-in-Some : goal.returns-in-Some
returns-in-Some c = λ n read.
    let g = c.args.self.now.grammar in
    let list = c.args.self.now.list in
    let place = c.in-Some.place in
    let goal = c.args.goal.now in
    let long = ap (λ (s : PlainCases). length s.list) c.self.view_is in
    let is = c.in-Some.ensures n read in
    let low : place < length list = omega (arith, c.self.inside.list.ok.0) in
    let case = get_or list place (case_of 0 []) in
    IfOk-weaker c.is_met_at.result (DecidesMeeting c.args.self.now goal case) (λ met. IsTrue met ↔ Meets g list goal n)
    (λ met h. let one = meets_one g list goal n place is.0 low (case_of 0 []) case.rules refl in (λ e. one.0 (h.0 e), λ m. h.1 (one.1 m)))
    (c.is_met_at.ensures case (slice_get-get_or list place (case_of 0 []) low))

pub returns-in-None : goal.returns-in-None
returns-in-None c = λ n read. (
  λ e. absurd cc,
  λ met.
      let long = ap (λ (s : PlainCases). length s.list) c.self.view_is in
      let within = slice_get_within c.args.self.now.list (n - 1) met.0 met.1.1 in
      let some = met.1.0 in
      absurd (c.in-None.ensures n read (omega arith, omega (arith, c.self.inside.list.ok.0))),
)
