-- The visit at a place.
use Rattle.std.proofs.Common.{◌≡◌, ℕ, ◌<◌, List, length, None, Some}
use Rattle.std.specs.Prelude.{slice_get, slice_index_or}
use Rattle.std.proofs.lemmas.Option.{slice_get-get_or}
use Rattle.cs_scanner.specs.declared.lexeme.search.Visit.{Visit}

abbrev pub visit_at : List Visit → ℕ → Visit
visit_at visits place = slice_index_or visits place (record { state = 0; origin = None })

pub is_visit : (visits : List Visit) (place : ℕ) → place < length visits → slice_get visits place ≡ Some (visit_at visits place)
is_visit visits place within = slice_get-get_or visits place (record { state = 0; origin = None }) within
