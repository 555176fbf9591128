-- The case of a goal is that whose number was told with its verdict; a goal that wasn't told has none.
use Rattle.std.proofs.Common.{◌≡◌, ◌-◌, ◌<◌, Some, length, sym, ap, ◌∙◌, arith}
use Rattle.std.specs.Prelude.{slice_get}
use Rattle.std.proofs.lemmas.Option.{slice_get_within, slice_get-get_or}
use Rattle.cs_check.proofs.OnChecking.Negatives.{case_told, place_is, place_within}
use Rattle.cs_check.proofs.checking.entries.Entries.case_of_goal.Goals as goal

pub returns-in_default-clause-finds : goal.returns-in_default-clause-finds
returns-in_default-clause-finds c = λ file lines goal t read case h.
    let items = c.args.self.now.goal_cases.items in
    let told = case_told file lines c.args.self.now t goal case h in
    let within = slice_get_within items (goal - 1) case told.0 in
    let more = h.2.0 in
    c.in_default.ensures goal read (more, omega (arith, c.args.self.now.goal_cases.ok.0))

pub index-requires : goal.index-requires
index-requires c = let low = c.in-Some.ensures c.args.goal (omega arith) in omega arith

pub returns-clause-finds : goal.returns-clause-finds
returns-clause-finds c = λ file lines goal t read.
    let items = c.args.self.now.goal_cases.items in
    let place = c.in-Some.place in
    let number = c.index.result.now in
    let is = c.in-Some.ensures goal read in
    let low : place < length items = omega (arith, c.args.self.now.goal_cases.ok.0) in
    let back : goal - 1 ≡ place = omega arith in
    let at : slice_get items (goal - 1) ≡ Some number = ap (slice_get items) back ∙ slice_get-get_or items place number low ∙ ap Some (sym c.index.ensures) in
    place_is file lines c.args.self.now t goal number (omega arith) at c.find.result (c.find.ensures number (omega arith))

pub returns-clause-within : goal.returns-clause-within
returns-clause-within c =
    let number = c.index.result.now in
    place_within number (length c.args.self.now.cases.list) c.find.result (c.find.ensures number (omega arith))
