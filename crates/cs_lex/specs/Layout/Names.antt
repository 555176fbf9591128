-- What the code's names are.
use denote.Ref.{Bor}
use Rattle.std.specs.Prelude.{◌≡◌, ℕ, Bool, List, [], ◌∷◌, ◌++◌, map, not, IsTrue}
use Rattle.cs_lex.specs.Layout.Layout.{has_name}

-- the bytes of each name
abbrev pub texts_of : List (Bor (List ℕ)) → List (List ℕ)
texts_of = map (λ k. k.now)

-- none of the names is this one
abbrev pub lacks : List (Bor (List ℕ)) → List ℕ → Bool
lacks names name = not (has_name (texts_of names) name)

-- the name comes behind the others, where it is new
abbrev pub AddsName : List (Bor (List ℕ)) → List (Bor (List ℕ)) → List ℕ → Bool → Type 0
AddsName old new name is_new = IsTrue is_new → texts_of new ≡ texts_of old ++ name ∷ []
