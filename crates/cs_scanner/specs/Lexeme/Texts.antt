-- What contracts see of lexemes.
use Rattle.std.specs.Prelude.{ℕ, List, Option, map, option_map}
use Rattle.std.proofs.Common.{Vec, Global}

abbrev pub text_of : Option (Vec ℕ Global) → Option (List ℕ)
text_of = option_map (λ v. v.items)

abbrev pub texts_of : List (Option (Vec ℕ Global)) → List (Option (List ℕ))
texts_of = map text_of
