-- Entries in the second format, and those of two lists; the lines of cases.
use Rattle.std.proofs.Common.{◌≡◌, ℕ, Bool, false, List, [], ◌∷◌, ◌++◌, length, refl, sym, ap, ◌∙◌, subst, Option, None, Some}
use Rattle.std.specs.Prelude.{if◌then◌else◌, map}
use Rattle.std.proofs.lemmas.List.{length-map}
use Rattle.cs_verdicts.specs.Cases.Cases.{PlainCases}
use Rattle.cs_manifest.specs.declared.manifest.counts.Counts.{Counts}
use Rattle.cs_manifest.specs.declared.manifest.verdict.SharedVerdict.{SharedVerdict}
use Rattle.cs_manifest.specs.declared.manifest.verdict.SharedVerdict.TheVariants as shared
use Rattle.cs_manifest.specs.Manifest.Manifest.{AreShared, GoalEntry, SharedEntry, Texts, case_lines_by, derivation_in, is_new}
use Rattle.cs_manifest.specs.Manifest.SharedLines.{case_lines}
use Rattle.cs_texts.specs.Rendering.Rendering.{Rendering}
use Rattle.cs_writing.specs.Plan.Made.{MadeEntry, case_lines_in, entry_of, has_new_case}
use Rattle.cs_yacc.specs.Reading.File.{File}
use Rattle.cs_writing.specs.Writing.Written.{behind_made}

-- an old case has no lines
old_lines_by : (file : File) (entry : GoalEntry) (rendered : Option Rendering) (verdict : SharedVerdict) → is_new verdict ≡ false → case_lines_by file entry rendered verdict ≡ []
old_lines_by file entry rendered (shared.Feasible size named) old =
    ap (λ (b : Bool). if b then case_lines file named.case size (derivation_in entry.verdict) entry.tokens rendered else []) old
old_lines_by file entry rendered shared.Infeasible old = refl
old_lines_by file entry rendered shared.Large old = refl

old_lines_in : (file : File) (m : MadeEntry) (verdict : Option SharedVerdict) → has_new_case verdict ≡ false → case_lines_in file m verdict ≡ []
old_lines_in file m None old = refl
old_lines_in file m (Some verdict) old = old_lines_by file (entry_of m) m.rendered verdict old

pub old_case_lines : (file : File) (m : MadeEntry) → has_new_case m.shared ≡ false → case_lines_in file m m.shared ≡ []
old_case_lines file m old = old_lines_in file m m.shared old

-- the counts behind an entry, by the file and the number as they are told
pub behind_at : {now file : File} {number told : ℕ} {after : Counts} (counts : Counts) (m : MadeEntry) → now ≡ file → number ≡ told → after ≡ behind_made now number counts m
    → after ≡ behind_made file told counts m
behind_at {now} {file} {number} counts m same at is = is ∙ ap (λ (f : File). behind_made f number counts m) same ∙ ap (λ (n : ℕ). behind_made file n counts m) at

-- ---- entries in the second format

module _ (texts : Option Texts) (lexemes : Option (List (Option (List ℕ)))) where
  -- one list behind another
  pub shared_append : (old mid new : PlainCases) (entries others : List GoalEntry) (list more : List SharedEntry) → AreShared texts lexemes old entries mid list → AreShared texts lexemes mid others new more
      → AreShared texts lexemes old (entries ++ others) new (list ++ more)
  shared_append old mid new [] others list more first second =
      subst (λ (l : List SharedEntry). AreShared texts lexemes old others new (l ++ more)) (sym first.0) (subst (λ (c : PlainCases). AreShared texts lexemes c others new more) first.1 second)
  shared_append old mid new (e ∷ rest) others list more first second =
      (first.0, first.1, first.2 ++ more, ap (λ (l : List SharedEntry). l ++ more) first.3, first.4, shared_append first.0 mid new rest others first.2 more first.5 second)

  -- the list is of these entries
  shared_entries : (old new : PlainCases) (entries : List GoalEntry) (list : List SharedEntry) → AreShared texts lexemes old entries new list → map (λ s. s.entry) list ≡ entries
  shared_entries old new [] list are = ap (map (λ (s : SharedEntry). s.entry)) are.0
  shared_entries old new (e ∷ rest) list are =
      ap (map (λ (s : SharedEntry). s.entry)) are.3 ∙ ap (λ (x : GoalEntry). x ∷ map (λ (s : SharedEntry). s.entry) are.2) are.4.is_of
      ∙ ap (λ (l : List GoalEntry). e ∷ l) (shared_entries are.0 new rest are.2 are.5)

  -- as many as entries
  pub as_many : (old new : PlainCases) (entries : List GoalEntry) (list : List SharedEntry) → AreShared texts lexemes old entries new list → length list ≡ length entries
  as_many old new entries list are = sym (length-map list (λ (s : SharedEntry). s.entry)) ∙ ap length (shared_entries old new entries list are)

  -- entries of two lists, taken apart
  pub record IsSplit (old : PlainCases) (xs ys : List GoalEntry) (new : PlainCases) (list : List SharedEntry) : Type 0 where
    pub mid : PlainCases
    pub front : List SharedEntry
    pub behind : List SharedEntry
    pub is : list ≡ front ++ behind
    pub first : AreShared texts lexemes old xs mid front
    pub second : AreShared texts lexemes mid ys new behind

  pub shared_split : (old new : PlainCases) (xs ys : List GoalEntry) (list : List SharedEntry) → AreShared texts lexemes old (xs ++ ys) new list → IsSplit old xs ys new list
  shared_split old new [] ys list are = record { mid = old; front = []; behind = list; is = refl; first = (refl, refl); second = are }
  shared_split old new (x ∷ xs) ys list (next, s, rest, is, one, more) =
      let split = shared_split next new xs ys rest more in
      record {
        mid = split.mid;
        front = s ∷ split.front;
        behind = split.behind;
        is = is ∙ ap (λ (l : List SharedEntry). s ∷ l) split.is;
        first = (next, s, split.front, refl, one, split.first);
        second = split.second;
      }
