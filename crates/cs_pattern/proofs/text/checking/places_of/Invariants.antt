use Rattle.std.proofs.Common.{◌≡◌, ◌<◌, ℕ, length, get_or}
use Rattle.cs_pattern.specs.Text.Needed.{place_of}
use Rattle.cs_pattern.proofs.text.checking.places_of.Given as goal

abbrev pub invariant-loop-place : goal.invariant-loop-place
invariant-loop-place l =
    (length l.places.items ≡ length l.texts.entries)
    × ((k : ℕ) → k < l.place → place_of l.places.items (get_or l.order k 0) ≡ k)
