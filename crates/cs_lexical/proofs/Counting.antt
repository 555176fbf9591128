-- How many entries have a text.
use Rattle.std.proofs.Common.{◌≡◌, ℕ, ◌+◌, ◌<◌, arith, List, [], ◌∷◌, ◌++◌, length, take, sym, ap, ◌∙◌, refl, Option, None, Some, Vec, Global, cond}
use Rattle.std.specs.Prelude.{count_by, is_none, is_some, map, option_map, slice_index, slice_index_or, sum_by}
use Rattle.std.proofs.lemmas.List.{map_more, map-append}
use Rattle.std.proofs.lemmas.List.Sums.{sum_by-cons, sum_by_push}
use Rattle.cs_lexical.specs.Least.{lists, named}

pub count_more : (texts : List (Option (List ℕ))) (numbers : List ℕ) (i : ℕ) → i < length numbers
    → count_by is_some (named texts (take (i + 1) numbers)) ≡ count_by is_some (named texts (take i numbers)) + cond (is_some (slice_index_or texts (slice_index numbers i) None)) 1 0
count_more texts numbers i less =
    ap (λ (l : List (Option (List ℕ))). count_by is_some l) (map_more (λ n. slice_index_or texts n None) numbers i 0 less)
    ∙ sum_by_push (λ (o : Option (List ℕ)). cond (is_some o) 1 0) (named texts (take i numbers)) (slice_index_or texts (slice_index numbers i) None)

pub some_mapped : {A B : Type 0} (f : A → B) (o : Option A) → is_some (option_map f o) ≡ is_some o
some_mapped {A} {B} f None = refl
some_mapped {A} {B} f (Some x) = refl

pub both_counts : (xs : List (Option (List ℕ))) → count_by is_none xs + count_by is_some xs ≡ length xs
both_counts [] = refl
both_counts (None ∷ xs) = omega (arith, both_counts xs, sum_by-cons (λ (o : Option (List ℕ)). cond (is_none o) 1 0) None xs, sum_by-cons (λ (o : Option (List ℕ)). cond (is_some o) 1 0) None xs)
both_counts (Some x ∷ xs) = omega (arith, both_counts xs, sum_by-cons (λ (o : Option (List ℕ)). cond (is_none o) 1 0) (Some x) xs, sum_by-cons (λ (o : Option (List ℕ)). cond (is_some o) 1 0) (Some x) xs)

-- the sums over one more row
pub sum_more : (f : List (Option (List ℕ)) → ℕ) (texts : List (Option (List ℕ))) (rows : List (Vec ℕ Global)) (i : ℕ) (row : Vec ℕ Global) → i < length rows → row ≡ slice_index_or rows i row
    → sum_by f (map (named texts) (lists (take (i + 1) rows))) ≡ sum_by f (map (named texts) (lists (take i rows))) + f (named texts row.items)
sum_more f texts rows i row less is =
    ap (λ (l : List (List ℕ)). sum_by f (map (named texts) l)) (map_more (λ (v : Vec ℕ Global). v.items) rows i row less)
    ∙ ap (λ (v : Vec ℕ Global). sum_by f (map (named texts) (lists (take i rows) ++ v.items ∷ []))) (sym is)
    ∙ ap (λ (l : List (List (Option (List ℕ)))). sum_by f l) (map-append (named texts) (lists (take i rows)) (row.items ∷ []))
    ∙ sum_by_push f (map (named texts) (lists (take i rows))) (named texts row.items)
