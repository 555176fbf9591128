-- The first of a list's partners, and partners of what comes of the members.
use Rattle.std.proofs.Common.{◌≡◌, List, [], ◌∷◌, map, refl}
use Rattle.std.specs.List.{AllZip}

module _ {A B : Type 0} (R : A → B → Type 0) where
  -- the partner of a list that isn't empty
  pub record HasFirst (x : A) (xs : List A) (all : List B) : Type 0 where
    pub next : B
    pub rest : List B
    pub whole : all ≡ next ∷ rest
    pub first : R x next
    pub others : AllZip R xs rest

  pub zip_first : (x : A) (xs : List A) (all : List B) → AllZip R (x ∷ xs) all → HasFirst x xs all
  zip_first x xs [] zip = absurd zip
  zip_first x xs (u ∷ us) zip = record { next = u; rest = us; whole = refl; first = zip.0; others = zip.1 }

-- partners of what comes of the members
pub zip_of : {A C B : Type 0} (f : A → C) (R : C → B → Type 0) (xs : List A) (us : List B) → AllZip (λ x u. R (f x) u) xs us → AllZip R (map f xs) us
zip_of f R [] [] zip = tt
zip_of f R [] (u ∷ us) zip = absurd zip
zip_of f R (x ∷ xs) [] zip = absurd zip
zip_of f R (x ∷ xs) (u ∷ us) zip = (zip.0, zip_of f R xs us zip.1)
