-- All goals were told, and the base has the tokens of its goal's case, or that goal has none.
use Rattle.std.proofs.Common.{[], ◌+◌, get_or, refl, arith}
use Rattle.std.proofs.lemmas.Option.{slice_get-get_or}
use Rattle.cs_check.specs.Passing.Above.{base_in, goals_in}
use Rattle.cs_check.specs.Checking.Cases.{case_of}
use Rattle.cs_check.proofs.OnChecking.Told.{few_told}
use Rattle.cs_check.proofs.OnChecking.Negatives.{base_taken}
use Rattle.cs_check.proofs.checking.entries.Entries.take_base.Goals as goal

pub returns-in_default : goal.returns-in_default
returns-in_default c = λ file lines n goal t follows few read. (
  (c.are_finished.ensures file.grammar (goals_in lines) t.due).0 c.if-not-are_finished.false,
  λ h. c.in_default.ensures.finds file lines goal t read h.0 h.1,
)

pub returns : goal.returns
returns c = λ file lines n goal t follows few read.
    let e = c.args.self.now in
    let place = c.in-Some.place in
    let has = c.in-Some.ensures.finds file lines goal t read in
    let case = get_or e.cases.list place (case_of 0 []) in
    let at = slice_get-get_or e.cases.list place (case_of 0 []) c.in-Some.ensures.within in
    let told = few_told base_in lines in
    let bases = t.bases in (
      (c.are_finished.ensures file.grammar (goals_in lines) t.due).0 c.if-not-are_finished.false,
      (place + 1, has),
      base_taken file lines e t few n goal (place + 1) place has refl case at c.in_ok-self.field-0 (c.in_ok-self.ensures case at)
          c.more-self.result follows (c.more-self.ensures (omega arith)),
    )
