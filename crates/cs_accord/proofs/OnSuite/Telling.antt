-- What lines have told of cases, goals, bases and negatives, with one line more.
use Rattle.std.proofs.Common.{◌≡◌, ℕ, zero, suc, ◌-◌, List, [], ◌∷◌, ◌++◌, Option, Some, None, length, length-append, refl, sym, ap, ◌∙◌, arith}
use Rattle.std.specs.Prelude.{slice_get}
use Rattle.std.specs.List.{filter_map}
use Rattle.cs_lines.specs.Words.Edits.{EditWords, Deletes}
use Rattle.cs_lines.specs.Lines.Line.{GoalWords, OfRule, VerdictWords, Large, Line, CaseLine, DeriveLine, TokensLine, TextLine, GoalLine, BaseLine, NegativeLine, EndLine}
use Rattle.cs_check.specs.Passing.Above.{size_in, derivation_in, goal_in, verdict_in, base_in, edit_in, case_sizes, derivations, goals_in, verdicts, base_goals, edits}
use Rattle.cs_check.specs.Passing.Entries.{IsNumbered, IsLast}
use Rattle.cs_check.specs.Passing.Places.{part_of, last_part}
use Rattle.cs_check.proofs.OnChecking.Told.{kept, added, last_part_more}
use Rattle.cs_accord.proofs.OnSuite.Lists.{seam}

-- lines of which the last stands in this part of a manifest
abbrev pub in_head : List Line
in_head = []

abbrev pub of_case : List Line
of_case = CaseLine 0 0 ∷ []

abbrev pub of_derivation : List Line
of_derivation = DeriveLine [] ∷ []

abbrev pub of_tokens : List Line
of_tokens = TokensLine [] ∷ []

abbrev pub of_text : List Line
of_text = TextLine [] ∷ []

abbrev pub of_goal : List Line
of_goal = GoalLine 0 (OfRule 0) Large ∷ []

abbrev pub of_base : List Line
of_base = BaseLine 0 0 ∷ []

abbrev pub of_negative : List Line
of_negative = NegativeLine 0 0 (Deletes 0) [] [] 0 ∷ []

abbrev pub of_negative_tokens : List Line
of_negative_tokens = NegativeLine 0 0 (Deletes 0) [] [] 0 ∷ TokensLine [] ∷ []

abbrev pub of_end : List Line
of_end = EndLine (record { goals = 0; feasible = 0; infeasible = 0; large = 0; negatives = 0; cases = 0 }) ∷ []

abbrev pub of_negative_text : List Line
of_negative_text = NegativeLine 0 0 (Deletes 0) [] [] 0 ∷ TokensLine [] ∷ TextLine [] ∷ []

-- what lines tell: lines whose last stands where theirs does, the cases' sizes and derivations, the goals with their verdicts, the bases' goals, and the edits
pub record Content : Type 0 where
  pub shown : List Line
  pub sizes : List ℕ
  pub codes : List (List ℕ)
  pub goals : List GoalWords
  pub words : List VerdictWords
  pub bases : List ℕ
  pub edits : List EditWords

abbrev pub no_content : Content
no_content = record { shown = []; sizes = []; codes = []; goals = []; words = []; bases = []; edits = [] }

pub record Told (above : List Line) (c : Content) : Type 0 where
  pub part_is : last_part above ≡ last_part c.shown
  pub sizes_are : case_sizes above ≡ c.sizes
  pub codes_are : derivations above ≡ c.codes
  pub goals_are : goals_in above ≡ c.goals
  pub words_are : verdicts above ≡ c.words
  pub bases_are : base_goals above ≡ c.bases
  pub edits_are : edits above ≡ c.edits

-- one more of a kind, where a line tells it
abbrev pub with_told : {X : Type 0} → Option X → List X → List X
with_told None xs = xs
with_told (Some x) xs = xs ++ x ∷ []

-- what is told with one line more, which stands where the last of those does
abbrev pub with_line : Content → Line → List Line → Content
with_line c l shown = record {
  shown = shown;
  sizes = with_told (size_in l) c.sizes;
  codes = with_told (derivation_in l) c.codes;
  goals = with_told (goal_in l) c.goals;
  words = with_told (verdict_in l) c.words;
  bases = with_told (base_in l) c.bases;
  edits = with_told (edit_in l) c.edits;
}

told_with : {X : Type 0} (in_line : Line → Option X) (above : List Line) (l : Line) (xs : List X) (o : Option X) → in_line l ≡ o → filter_map in_line above ≡ xs → filter_map in_line (above ++ l ∷ []) ≡ with_told o xs
told_with in_line above l xs None none are = kept in_line above l none ∙ are
told_with {X} in_line above l xs (Some x) some are = added in_line above l x some ∙ ap (λ (ys : List X). ys ++ x ∷ []) are

pub told_line : (above : List Line) (c : Content) → Told above c → (l : Line) (shown : List Line) → part_of (last_part c.shown) l ≡ last_part shown → Told (above ++ l ∷ []) (with_line c l shown)
told_line above c t l shown is = record {
  part_is = last_part_more above l ∙ ap (λ p. part_of p l) t.part_is ∙ is;
  sizes_are = told_with size_in above l c.sizes (size_in l) refl t.sizes_are;
  codes_are = told_with derivation_in above l c.codes (derivation_in l) refl t.codes_are;
  goals_are = told_with goal_in above l c.goals (goal_in l) refl t.goals_are;
  words_are = told_with verdict_in above l c.words (verdict_in l) refl t.words_are;
  bases_are = told_with base_in above l c.bases (base_in l) refl t.bases_are;
  edits_are = told_with edit_in above l c.edits (edit_in l) refl t.edits_are;
}

-- ---- entries by number

-- the last of a list
pub is_last : {A : Type 0} (xs : List A) (x : A) → IsLast (xs ++ x ∷ []) x
is_last xs x =
    let long = length-append xs (x ∷ []) in
    let back : length xs ≡ length (xs ++ x ∷ []) - 1 = omega (arith, long) in
    (omega (arith, long), ap (slice_get (xs ++ x ∷ [])) (sym back) ∙ seam xs x [])

-- an entry stays where more come
pub still_at : {A : Type 0} (xs ys : List A) (k : ℕ) (x : A) → slice_get xs k ≡ Some x → slice_get (xs ++ ys) k ≡ Some x
still_at [] ys k x e = absurd cc
still_at (y ∷ xs) ys zero x e = e
still_at (y ∷ xs) ys (suc k) x e = still_at xs ys k x e

pub still_numbered : {A : Type 0} (xs ys : List A) (n : ℕ) (x : A) → IsNumbered xs n x → IsNumbered (xs ++ ys) n x
still_numbered xs ys n x h = (h.0, still_at xs ys (n - 1) x h.1)
