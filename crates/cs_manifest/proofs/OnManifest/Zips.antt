-- Lists of partners, place by place.
use Rattle.std.proofs.Common.{◌≡◌, suc, List, [], ◌∷◌, ◌++◌, length, ap, inl, inr, refl}
use Rattle.std.specs.List.{AllZip}
use Rattle.cs_goals.proofs.Members.{Among}
use Rattle.cs_io.specs.Asked.{IsNotWithout}

-- where no member is without a partner, no list is without one
pub some_zip : {A B : Type 0} {R : A → B → Type 0} (xs : List A) → ((x : A) → Among x xs → IsNotWithout (R x)) → IsNotWithout (AllZip R xs)
some_zip [] each none = none [] tt
some_zip {R = R} (x ∷ xs) each none =
    each x (inl refl) (λ y is. some_zip {R = R} xs (λ z among. each z (inr among)) (λ ys all. none (y ∷ ys) (is, all)))

module _ {A B : Type 0} (R : A → B → Type 0) where
  pub zip_both : (xs more : List A) (us others : List B) → AllZip R xs us → AllZip R more others → AllZip R (xs ++ more) (us ++ others)
  zip_both [] more [] others first second = second
  zip_both [] more (u ∷ us) others first second = absurd first
  zip_both (x ∷ xs) more [] others first second = absurd first
  zip_both (x ∷ xs) more (u ∷ us) others first second = (first.0, zip_both xs more us others first.1 second)

  -- the partners of the first list, and those of the second
  pub record AreParted (xs more : List A) (all : List B) : Type 0 where
    pub front : List B
    pub behind : List B
    pub whole : all ≡ front ++ behind
    pub first : AllZip R xs front
    pub second : AllZip R more behind

  pub zip_split : (xs more : List A) (all : List B) → AllZip R (xs ++ more) all → AreParted xs more all
  zip_split [] more all zip = record { front = []; behind = all; whole = refl; first = tt; second = zip }
  zip_split (x ∷ xs) more [] zip = absurd zip
  zip_split (x ∷ xs) more (u ∷ us) zip =
      let rest = zip_split xs more us zip.1 in
      record {
        front = u ∷ rest.front;
        behind = rest.behind;
        whole = ap (λ (l : List B). u ∷ l) rest.whole;
        first = (zip.0, rest.first);
        second = rest.second;
      }

  pub length_zip : (xs : List A) (us : List B) → AllZip R xs us → length us ≡ length xs
  length_zip [] [] zip = refl
  length_zip [] (u ∷ us) zip = absurd zip
  length_zip (x ∷ xs) [] zip = absurd zip
  length_zip (x ∷ xs) (u ∷ us) zip = ap suc (length_zip xs us zip.1)
