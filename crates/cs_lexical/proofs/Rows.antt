-- What the numbers of one more rule are in a row, and in all rows.
use Rattle.std.proofs.Common.{◌≡◌, ℕ, zero, suc, ◌+◌, ◌-◌, ◌<◌, ◌≤◌, arith, List, [], ◌∷◌, ◌++◌, length, length-append, take, sym, ◌∙◌, ap, subst, refl, ⊎_elim, Some}
use Rattle.std.specs.Prelude.{slice_get, slice_index, slice_index_or, slice_set, Contains, replicate}
use Rattle.std.proofs.Common.{Vec, Global}
use Rattle.std.proofs.lemmas.Bool.{cases_lt, cases_eq}
use Rattle.std.proofs.lemmas.List.{get_or-set_same, get_or-set_other, get_or_append_left, get_or_push, length-set, take_more}
use Rattle.std.proofs.lemmas.List.Elements.{Contains-append_left, Contains-push, Contains-push_cases}
use Rattle.std.proofs.lemmas.Option.{slice_get_within, slice_get-get_or, slice_get_past}
use Rattle.cs_grammar.specs.Grammar.{IsNumberOf}
use Rattle.cs_lexical.specs.Noting.{AreBlank, AreRows, NotesRow, NotesRows, noted}
use Rattle.cs_lexical.specs.Least.{lists}
use Rattle.cs_lexical.proofs.Noted.{is_in}

noted_twice : (entry n : ℕ) → noted (noted entry n) n ≡ noted entry n
noted_twice zero zero = refl
noted_twice zero (suc n) = refl
noted_twice (suc k) n = refl

module _ (rule n : ℕ) (old : List ℕ) where
  pub row_first : NotesRow rule n [] old old
  row_first = record { same = refl; listed = λ k less c. absurd (omega (arith, c.1)); others = λ k less not. refl }

  module _ (done : List ℕ) (other : ℕ) (new : List ℕ) (notes : NotesRow rule n done old new) where
    -- it isn't behind the rule
    pub row_skipped : other ≤ rule → NotesRow rule n (done ++ other ∷ []) old new
    row_skipped before = record {
      same = notes.same;
      listed = λ k less c. ⊎_elim
          (λ (d : Contains done (rule + 1 + k)). notes.listed k less d)
          (λ (e : other ≡ rule + 1 + k). absurd (omega (arith, e, before)))
          (Contains-push_cases done other (rule + 1 + k) c);
      others = λ k less not. notes.others k less (λ d. not (Contains-append_left done (other ∷ []) (rule + 1 + k) d));
    }

    -- it is
    pub row_more : (j : ℕ) → rule + 1 + j ≡ other → j < length old → NotesRow rule n (done ++ other ∷ []) old (slice_set new j (noted (slice_index new j) n))
    row_more j is within = record {
      same = length-set new j (noted (slice_index new j) n) ∙ notes.same;
      listed = λ k less c. ⊎_elim
          (λ (same : k ≡ j).
          let P : ℕ → Type 0 = λ q. slice_index (slice_set new j (noted (slice_index new j) n)) q ≡ noted (slice_index old q) n in
          subst P (sym same) (get_or-set_same new j (noted (slice_index new j) n) 0 (omega (arith, within, notes.same)) ∙ now))
          (λ (ne : k ≡ j → ⊥). get_or-set_other new j k (noted (slice_index new j) n) 0 ne ∙ ⊎_elim
          (λ (d : Contains done (rule + 1 + k)). notes.listed k less d)
          (λ (e : other ≡ rule + 1 + k). absurd (ne (omega (arith, e, is))))
          (Contains-push_cases done other (rule + 1 + k) c))
          (cases_eq k j);
      others = λ k less not.
          let ne : k ≡ j → ⊥ = λ same. not (let C : ℕ → Type 0 = λ q. Contains (done ++ other ∷ []) q in subst C (omega (arith, same, is)) (Contains-push done other)) in
          get_or-set_other new j k (noted (slice_index new j) n) 0 ne ∙ notes.others k less (λ d. not (Contains-append_left done (other ∷ []) (rule + 1 + k) d));
    }
      where
        now : noted (slice_index new j) n ≡ noted (slice_index old j) n
        now = ⊎_elim
            (λ (d : Contains done (rule + 1 + j)). ap (λ e. noted e n) (notes.listed j within d) ∙ noted_twice (slice_index old j) n)
            (λ (not : Contains done (rule + 1 + j) → ⊥). ap (λ e. noted e n) (notes.others j within not))
            (is_in done (rule + 1 + j))

-- the same rules noted twice
row_twice : (rule n : ℕ) (rules a b c : List ℕ) → NotesRow rule n rules a b → NotesRow rule n rules b c → NotesRow rule n rules a c
row_twice rule n rules a b c first second = record {
  same = second.same ∙ first.same;
  listed = λ k less d. second.listed k (omega (arith, less, first.same)) d ∙ ap (λ e. noted e n) (first.listed k less d) ∙ noted_twice (slice_index a k) n;
  others = λ k less not. second.others k (omega (arith, less, first.same)) not ∙ first.others k less not;
}

module _ (n : ℕ) (rules : List ℕ) (old : List (List ℕ)) where
  pub rows_first : NotesRows n [] rules old old
  rows_first = record { same = refl; listed = λ k before after c is to. absurd (omega (arith, c.1)); others = λ k not. refl }

  module _ (done : List ℕ) (rule : ℕ) (new : List (List ℕ)) (notes : NotesRows n done rules old new) (from_1 : 0 < rule) (within : rule ≤ length old) (row : List ℕ) (more : NotesRow rule n rules (slice_index_or new (rule - 1) []) row) where
    at_same : (k : ℕ) → k + 1 ≡ rule → slice_get (slice_set new (rule - 1) row) k ≡ Some row
    at_same k is =
        let e : rule - 1 ≡ k = omega (arith, is) in
        let less : k < length (slice_set new (rule - 1) row) = omega (arith, length-set new (rule - 1) row, notes.same, is, within) in
        let P : ℕ → Type 0 = λ q. slice_index_or (slice_set new (rule - 1) row) q [] ≡ row in
        slice_get-get_or (slice_set new (rule - 1) row) k [] less ∙ ap Some (subst P e (get_or-set_same new (rule - 1) row [] (omega (arith, notes.same, within, from_1))))

    at_other : (k : ℕ) → (k + 1 ≡ rule → ⊥) → slice_get (slice_set new (rule - 1) row) k ≡ slice_get new k
    at_other k ne = ⊎_elim
        (λ (less : k < length new).
        slice_get-get_or (slice_set new (rule - 1) row) k [] (omega (arith, less, length-set new (rule - 1) row)) ∙ ap Some (get_or-set_other new (rule - 1) k row [] (λ e. ne (omega (arith, e, from_1)))) ∙ sym (slice_get-get_or new k [] less))
        (λ (past : length new ≤ k). slice_get_past (slice_set new (rule - 1) row) k (omega (arith, past, length-set new (rule - 1) row)) ∙ sym (slice_get_past new k past))
        (cases_lt k (length new))

    pub rows_more : NotesRows n (done ++ rule ∷ []) rules old (slice_set new (rule - 1) row)
    rows_more = record {
      same = length-set new (rule - 1) row ∙ notes.same;
      listed = λ k before after c is to. ⊎_elim
          (λ (here : k + 1 ≡ rule). now k before after here is to)
          (λ (ne : k + 1 ≡ rule → ⊥). ⊎_elim
          (λ (d : Contains done (k + 1)). notes.listed k before after d is (sym (at_other k ne) ∙ to))
          (λ (e : rule ≡ k + 1). absurd (ne (sym e)))
          (Contains-push_cases done rule (k + 1) c))
          (cases_eq (k + 1) rule);
      others = λ k not.
          let ne : k + 1 ≡ rule → ⊥ = λ e. not (let C : ℕ → Type 0 = λ q. Contains (done ++ rule ∷ []) q in subst C (sym e) (Contains-push done rule)) in
          at_other k ne ∙ notes.others k (λ d. not (Contains-append_left done (rule ∷ []) (k + 1) d));
    }
      where
        now : (k : ℕ) (before after : List ℕ) → k + 1 ≡ rule → slice_get old k ≡ Some before → slice_get (slice_set new (rule - 1) row) k ≡ Some after → NotesRow (k + 1) n rules before after
        now k before after here is to =
            let after_is : row ≡ after = cc (sym (at_same k here) ∙ to) in
            let mid = slice_index_or new k [] in
            let mid_at = slice_get-get_or new k [] (omega (arith, here, notes.same, within)) in
            let e : rule - 1 ≡ k = omega (arith, here) in
            let R : ℕ → ℕ → List ℕ → Type 0 = λ q p l. NotesRow q n rules (slice_index_or new p []) l in
            let AtRule : ℕ → Type 0 = λ q. R q (rule - 1) row in
            let AtNumber : ℕ → Type 0 = λ p. R (k + 1) p row in
            let AtRow : List ℕ → Type 0 = λ l. R (k + 1) k l in
            let added = subst AtRow after_is (subst AtNumber e (subst AtRule (sym here) more)) in
            ⊎_elim
            (λ (d : Contains done (k + 1)). row_twice (k + 1) n rules before mid after (notes.listed k before mid d is mid_at) added)
            (λ (not : Contains done (k + 1) → ⊥).
            let same : mid ≡ before = cc (sym mid_at ∙ notes.others k not ∙ is) in
            let B : List ℕ → Type 0 = λ l. NotesRow (k + 1) n rules l after in
            subst B same added)
            (is_in done (k + 1))

-- one more row of zeros
pub blank_more : (rules place : ℕ) (rows : List (List ℕ)) (row : List ℕ) → row ≡ replicate (rules - place - 1) 0 → AreBlank rules place rows → AreBlank rules (place + 1) (rows ++ row ∷ [])
blank_more rules place rows row is blank = record {
  all = length-append rows (row ∷ []) ∙ omega (arith, blank.all);
  each = λ k other at.
      let within = slice_get_within (rows ++ row ∷ []) k other at in
      ⊎_elim
      (λ (before : k < length rows).
      let old = slice_get-get_or rows k [] before in
      let new = slice_get-get_or (rows ++ row ∷ []) k [] within in
      let same = get_or_append_left rows (row ∷ []) [] k before in
      let e : other ≡ slice_index_or rows k [] = cc (sym at ∙ new ∙ ap Some same) in
      e ∙ blank.each k (slice_index_or rows k []) old)
      (λ (last : length rows ≤ k).
      let e : k ≡ length rows = omega (arith, last, within, length-append rows (row ∷ [])) in
      let new = slice_get-get_or (rows ++ row ∷ []) k [] within in
      let f : other ≡ row = cc (sym at ∙ new ∙ ap Some (get_or_push rows row [] k (sym e))) in
      f ∙ is ∙ ap (λ n. replicate (rules - n - 1) 0) (omega (arith, e, blank.all)))
      (cases_lt k (length rows));
}

-- ---- at the places of loops

pub row_skipped_at : (rule n : ℕ) (old rules new : List ℕ) (i : ℕ) → i < length rules → slice_index rules i ≤ rule → NotesRow rule n (take i rules) old new → NotesRow rule n (take (i + 1) rules) old new
row_skipped_at rule n old rules new i less before notes =
    let D : List ℕ → Type 0 = λ done. NotesRow rule n done old new in
    subst D (sym (take_more rules i 0 less)) (row_skipped rule n old (take i rules) (slice_index rules i) new notes before)

pub row_more_at : (rule n : ℕ) (old rules new after : List ℕ) (i : ℕ) → i < length rules → rule < slice_index rules i → slice_index rules i ≤ rule + length old
    → after ≡ slice_set new (slice_index rules i - rule - 1) (noted (slice_index new (slice_index rules i - rule - 1)) n) → NotesRow rule n (take i rules) old new → NotesRow rule n (take (i + 1) rules) old after
row_more_at rule n old rules new after i less behind within is notes =
    let j = slice_index rules i - rule - 1 in
    let D : List ℕ → Type 0 = λ done. NotesRow rule n done old after in
    let A : List ℕ → Type 0 = λ l. NotesRow rule n (take i rules ++ slice_index rules i ∷ []) old l in
    subst D (sym (take_more rules i 0 less)) (subst A (sym is) (row_more rule n old (take i rules) (slice_index rules i) new notes j (omega (arith, behind)) (omega (arith, behind, within))))

pub rows_more_at : (n : ℕ) (rules : List ℕ) (old new after : List (List ℕ)) (row : List ℕ) (i : ℕ) → i < length rules → IsNumberOf (length old) (slice_index rules i)
    → NotesRow (slice_index rules i) n rules (slice_index_or new (slice_index rules i - 1) []) row → after ≡ slice_set new (slice_index rules i - 1) row
    → NotesRows n (take i rules) rules old new → NotesRows n (take (i + 1) rules) rules old after
rows_more_at n rules old new after row i less number more is notes =
    let D : List ℕ → Type 0 = λ done. NotesRows n done rules old after in
    let A : List (List ℕ) → Type 0 = λ l. NotesRows n (take i rules ++ slice_index rules i ∷ []) rules old l in
    subst D (sym (take_more rules i 0 less)) (subst A (sym is) (rows_more n rules old (take i rules) (slice_index rules i) new notes number.0 number.1 row more))

-- a row that is as long as the one in its place
pub rows_kept : (n : ℕ) (rows after : List (List ℕ)) (k : ℕ) (row : List ℕ) → AreRows n rows → k < length rows → length row ≡ length (slice_index_or rows k []) → after ≡ slice_set rows k row → AreRows n after
rows_kept n rows after k row are within long is =
    let A : List (List ℕ) → Type 0 = λ l. AreRows n l in
    subst A (sym is) (record {
      all = length-set rows k row ∙ are.all;
      behind = λ place other at.
          let inside : place < length rows = omega (arith, slice_get_within (slice_set rows k row) place other at, length-set rows k row) in
          let there = slice_get-get_or (slice_set rows k row) place [] (omega (arith, inside, length-set rows k row)) in
          ⊎_elim
          (λ (same : place ≡ k).
          let e : other ≡ row = cc (sym at ∙ there ∙ ap Some (put place same)) in
          let before = are.behind k (slice_index_or rows k []) (slice_get-get_or rows k [] within) in
          omega (arith, before, same, long, ap (λ (l : List ℕ). length l) e))
          (λ (ne : place ≡ k → ⊥).
          let e : other ≡ slice_index_or rows place [] = cc (sym at ∙ there ∙ ap Some (get_or-set_other rows k place row [] ne)) in
          let before = are.behind place (slice_index_or rows place []) (slice_get-get_or rows place [] inside) in
          omega (arith, before, ap (λ (l : List ℕ). length l) e))
          (cases_eq place k);
    })
  where
    put : (place : ℕ) → place ≡ k → slice_index_or (slice_set rows k row) place [] ≡ row
    put place same =
        let Q : ℕ → Type 0 = λ q. slice_index_or (slice_set rows k row) q [] ≡ row in
        subst Q (sym same) (get_or-set_same rows k row [] within)

-- ---- rows of vectors

pub items_at : (rows : List (Vec ℕ Global)) (k : ℕ) (v : Vec ℕ Global) → k < length rows → v ≡ slice_index_or rows k v → slice_index_or (lists rows) k [] ≡ v.items
items_at [] k v less is = absurd (omega (arith, less))
items_at (w ∷ rows) zero v less is = ap (λ (u : Vec ℕ Global). u.items) (sym is)
items_at (w ∷ rows) (suc k) v less is = items_at rows k v (omega (arith, less)) is

-- the rows of a rule
pub long_behind : (rules : ℕ) (rows : List (List ℕ)) (rule : ℕ) → AreRows rules rows → 0 < rule → rule ≤ rules → rule + length (slice_index_or rows (rule - 1) []) ≡ rules
long_behind rules rows rule are from_1 within =
    let it = are.behind (rule - 1) (slice_index_or rows (rule - 1) []) (slice_get-get_or rows (rule - 1) [] (omega (arith, from_1, within, are.all))) in
    omega (arith, it, from_1)
