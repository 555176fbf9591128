-- The bases and negatives of a suite are written line by line, and so is the whole.
use Rattle.std.proofs.Common.{◌≡◌, ℕ, zero, suc, ◌+◌, ◌-◌, ◌*◌, ◌≤◌, Bool, true, false, List, [], ◌∷◌, ◌++◌, Option, Some, map, length, length-append, take, drop, refl, ap, ◌∙◌, subst, append_assoc, arith}
use Rattle.std.specs.Prelude.{slice_get, slice_index, All, not, bytes_eq}
use Rattle.std.specs.List.{AllByRecursion, filter, enumerate_from}
use Rattle.std.proofs.lemmas.List.{length-map, length-take, length-drop}
use Rattle.std.proofs.lemmas.List.Elements.{All-nil, All-cons, All-head, All-tail}
use Rattle.std.proofs.lemmas.List.FromFn.{length-enumerate_from}
use Rattle.std.proofs.lemmas.List.Sums.{sum_by-cons, count_by-le-length, length-filter}
use Rattle.std.proofs.lemmas.Option.{slice_get_within, same_Some}
use Rattle.cs_grammar.specs.declared.symbol.Mark.{Mark}
use Rattle.cs_grammar.specs.declared.symbol.Mark.TheVariants as marks
use Rattle.cs_grammar.specs.Grammar.{IsNumberOf, PlainGrammar}
use Rattle.cs_grammar.specs.Sentence.{framed}
use Rattle.cs_grammar.proofs.Measures.{IsNumberOf-IsYield}
use Rattle.cs_goals.specs.declared.goal.Goal.{Goal}
use Rattle.cs_mutate.specs.declared.edit.Edit.{Edit}
use Rattle.cs_mutate.specs.declared.edit.Edit.TheVariants as edit
use Rattle.cs_mutate.specs.declared.negative.Negative.{Negative}
use Rattle.cs_mutate.specs.Edit.{Fits, edited, patched}
use Rattle.cs_mutate.specs.Edits.{edits}
use Rattle.cs_mutate.proofs.KeptLists.{few_negatives, few_kept_ones}
use Rattle.cs_mutate.proofs.Searching.{edited_tokens}
use Rattle.cs_verdicts.specs.declared.positive.verdict.Verdict.{Verdict}
use Rattle.cs_verdicts.specs.declared.positive.verdict.Verdict.TheVariants as verdict
use Rattle.cs_verdicts.specs.Cases.Cases.{PlainCases, no_cases}
use Rattle.cs_manifest.specs.Output.Words.{numbered_from}
use Rattle.cs_manifest.specs.declared.manifest.verdict.SharedVerdict.{SharedVerdict}
use Rattle.cs_manifest.specs.Manifest.Manifest.{AreNegativesOf, AreShared, BaseEntry, BasesOf, Choice, GoalEntry, IsNegativeOf, IsSharedVerdict, LexemeList, NegativeEntry, SharedEntry, Texts, base_entry_lines, bases, distinct, end_line_with, most_bases, negative_entry_lines, negatives_of, shared_text, yields}
use Rattle.cs_manifest.specs.Manifest.Lines as put
use Rattle.cs_manifest.proofs.OnManifest.Zips.{length_zip}
use Rattle.cs_writing.proofs.OnWriting.Edits.{few_edits}
use Rattle.cs_writing.proofs.OnWriting.Few.{few_goals}
use Rattle.cs_lines.specs.Words.Words.{IsWord}
use Rattle.cs_lines.specs.Words.Names.{token_of, mark_text}
use Rattle.cs_lines.specs.Lines.Line.{Line, VerdictWords, BaseLine, EndLine}
use Rattle.cs_lines.specs.Lines.Texts.{edit_names}
use Rattle.cs_accord.specs.Suite.{numbered, tokens_line, edit_of, negative_line, negative_lines, base_lines, suite_lines, verdict_of}
use Rattle.cs_accord.proofs.OnSuite.Digits.{IsSmall}
use Rattle.cs_accord.proofs.OnSuite.Entries.{fresh_codes, same_codes}
use Rattle.cs_accord.proofs.OnSuite.Inner.{IsSayable}
use Rattle.cs_accord.proofs.OnSuite.BaseGoals.{bases_known}
use Rattle.cs_accord.proofs.OnSuite.Bases.{all_negatives}
use Rattle.cs_accord.proofs.OnSuite.Naming.{token_is_word, mark_is_word, IsMark}
use Rattle.cs_accord.proofs.OnSuite.Negatives.{IsKnownNegative, IsKnownBase, known_negatives}
use Rattle.cs_accord.proofs.OnSuite.Saying.{Writes, writes_none, writes_one, writes_both, writes_more, writes_as, writes_texts, says_base, says_negative, says_tokens, says_end, IsSmallEdit}
use Rattle.cs_accord.proofs.OnSuite.Setting.{Setting, IsSetting, Body, IsBody, counts_in, words_told}
use Rattle.cs_accord.proofs.OnSuite.WritingBody.{AreWritten, tokens_sayable, rendering_written, plain_line, entries_written}
use Rattle.cs_accord.proofs.OnSuite.WritingHead.{no_bytes, head_written}

-- ---- how long edited lists are

patched_few : (w : List ℕ) (i : ℕ) (put : List ℕ) (gone : ℕ) → length (patched w i put gone) ≤ length w + length put
patched_few w i put gone =
    omega (
      arith,
      length-append (take i w ++ put) (drop (i + gone) w),
      length-append (take i w) put,
      length-take i w,
      length-drop (i + gone) w,
    )

edited_few : (w : List ℕ) (e : Edit) → length (edited w e) ≤ length w + 2
edited_few w (edit.Delete i) = omega (arith, patched_few w i [] 1)
edited_few w (edit.Insert i t) = omega (arith, patched_few w i (t ∷ []) 0)
edited_few w (edit.Replace i t) = omega (arith, patched_few w i (t ∷ []) 1)
edited_few w (edit.Swap i) = omega (arith, patched_few w i (slice_index w (i + 1) ∷ slice_index w i ∷ []) 2)

framed_long : (y : List ℕ) → length (framed y) ≡ length y + 2
framed_long y = omega (arith, length-append (map marks.Token y) (marks.End ∷ []), length-map y marks.Token)

-- ---- how many bases there are

few_taken : {A : Type 0} (n : ℕ) (xs : List A) → length (take n xs) ≤ length xs
few_taken n xs = omega (arith, length-take n xs)

few_filtered : {A : Type 0} (test : A → Bool) (xs : List A) → length (filter test xs) ≤ length xs
few_filtered test xs = omega (arith, length-filter test xs, count_by-le-length test xs)

few_distinct : (xs : List (ℕ × List ℕ)) → length (distinct xs) ≤ length xs
few_distinct [] = omega arith
few_distinct (x ∷ xs) = omega (arith, few_filtered (λ (y : ℕ × List ℕ). not (bytes_eq y.1 x.1)) (distinct xs), few_distinct xs)

few_yields : (entries : List GoalEntry) → length (yields entries) ≤ length entries
few_yields entries =
    omega (
      arith,
      length-map {B = ℕ × List ℕ} (filter (λ (e : ℕ × GoalEntry). put.is_feasible e.1.verdict) (enumerate_from 1 entries)) (λ (e : ℕ × GoalEntry). (e.0, e.1.tokens)),
      few_filtered (λ (e : ℕ × GoalEntry). put.is_feasible e.1.verdict) (enumerate_from 1 entries),
      length-enumerate_from 1 entries,
    )

few_bases : (most : ℕ) (entries : List GoalEntry) → length (bases most entries) ≤ length entries
few_bases most entries = omega (arith, few_taken most (distinct (yields entries)), few_distinct (yields entries), few_yields entries)

-- ---- how many cases there are

one_case : (old new : PlainCases) (goal : Goal) (v : Verdict) (sv : SharedVerdict) → IsSharedVerdict old goal v new sv → length new.codes ≤ length old.codes + 1
one_case old new goal (verdict.Feasible m derivation) sv h = at h.0.fresh refl
  where
    at : (so : Bool) → h.0.fresh ≡ so → length new.codes ≤ length old.codes + 1
    at true is = omega (arith, ap (λ (l : List (List ℕ)). length l) (fresh_codes h.2 is), length-append old.codes (derivation ∷ []))
    at false is = omega (arith, ap (λ (l : List (List ℕ)). length l) (same_codes h.2 is))
one_case old new goal verdict.Infeasible sv h = omega (arith, ap (λ (c : PlainCases). length c.codes) h.1)
one_case old new goal verdict.Large sv h = omega (arith, ap (λ (c : PlainCases). length c.codes) h.1)

few_cases : (texts : Option Texts) (lexemes : Option LexemeList) (old : PlainCases) (entries : List GoalEntry) (new : PlainCases) (list : List SharedEntry) → AreShared texts lexemes old entries new list → length new.codes ≤ length old.codes + length entries
few_cases texts lexemes old [] new list h = omega (arith, ap (λ (c : PlainCases). length c.codes) h.1)
few_cases texts lexemes old (e ∷ entries) new list h = omega (arith, one_case old h.0 e.goal e.verdict h.1.verdict h.4.verdict, few_cases texts lexemes h.0 entries new h.2 h.5)

same_list : (texts : Option Texts) (lexemes : Option LexemeList) (old : PlainCases) (entries : List GoalEntry) (new : PlainCases) (list : List SharedEntry) → AreShared texts lexemes old entries new list → length list ≡ length entries
same_list texts lexemes old [] new list h = ap (λ (l : List SharedEntry). length l) h.0
same_list texts lexemes old (e ∷ entries) new list h = ap (λ (l : List SharedEntry). length l) h.3 ∙ ap suc (same_list texts lexemes h.0 entries new h.2 h.5)

same_bases : (g : PlainGrammar) (choice : Choice) (lexemes : Option LexemeList) (before : List Negative) (list : List (ℕ × List ℕ)) (mutants : List BaseEntry) → BasesOf g choice lexemes before list mutants → length mutants ≡ length list
same_bases g choice lexemes before [] mutants h = ap (λ (l : List BaseEntry). length l) h
same_bases g choice lexemes before (base ∷ list) mutants h = ap (λ (l : List BaseEntry). length l) h.2 ∙ ap suc (same_bases g choice lexemes (before ++ negatives_of h.0.negatives) list h.1 h.4)

module _ {s : Setting} (is : IsSetting s) where
  mark_in : (y : List ℕ) → All (IsNumberOf s.file.grammar.tokens) y → (k : ℕ) (m : Mark) → slice_get (map marks.Token y ++ marks.End ∷ []) k ≡ Some m → IsMark s.file is.named m
  mark_in [] all zero m at = subst (IsMark s.file is.named) (same_Some marks.End m at) tt
  mark_in [] all (suc k) m at = absurd cc
  mark_in (t ∷ y) all zero m at = subst (IsMark s.file is.named) (same_Some (marks.Token t) m at) (All-head (IsNumberOf s.file.grammar.tokens) t y all)
  mark_in (t ∷ y) all (suc k) m at = mark_in y (All-tail (IsNumberOf s.file.grammar.tokens) t y all) k m at

  framed_mark : (y : List ℕ) → All (IsNumberOf s.file.grammar.tokens) y → (k : ℕ) (m : Mark) → slice_get (framed y) k ≡ Some m → IsMark s.file is.named m
  framed_mark y all zero m at = subst (IsMark s.file is.named) (same_Some marks.Begin m at) tt
  framed_mark y all (suc k) m at = mark_in y all k m at

  small_edit : (w : List ℕ) (e : Edit) → length w ≤ 1000000 → Fits (length w) s.file.grammar.tokens e → IsSmallEdit s.file e
  small_edit w (edit.Delete i) few fits = omega (arith, fits.0, few)
  small_edit w (edit.Insert i t) few fits = omega (arith, fits.0, few)
  small_edit w (edit.Replace i t) few fits = omega (arith, fits.0, few)
  small_edit w (edit.Swap i) few fits = omega (arith, fits.0, few)

  edit_words : (many : ℕ) (e : Edit) → Fits many s.file.grammar.tokens e → All IsWord (edit_names (edit_of s.file e))
  edit_words many (edit.Delete i) fits = All-nil IsWord
  edit_words many (edit.Insert i t) fits = All-cons IsWord (token_of s.file t) [] (token_is_word s.file is.named t fits.1) (All-nil IsWord)
  edit_words many (edit.Replace i t) fits = All-cons IsWord (token_of s.file t) [] (token_is_word s.file is.named t fits.1) (All-nil IsWord)
  edit_words many (edit.Swap i) fits = All-nil IsWord

  module _ (tokens : List ℕ) (numbers : All (IsNumberOf s.file.grammar.tokens) tokens) (few : length tokens ≤ 1000000) (base : ℕ) (small_base : IsSmall base) where
    negative_written : (number : ℕ) (entry : NegativeEntry) → IsSmall number → IsKnownNegative s tokens entry → Writes (negative_entry_lines s.file base tokens number entry) (negative_lines s.file base tokens number entry)
    negative_written number entry small known =
        let n = entry.negative in
        let y = edited tokens n.edit in
        let fits = known.known.fits in
        let all = edited_tokens s.file.grammar.tokens tokens numbers n.edit fits in
        let long = edited_few tokens n.edit in
        let w : AreWritten s y = record { numbers = all; few = omega (arith, long, few) } in
        let r = rendering_written is y entry.rendered w known.text in
        let pair = known.known.poisoned.pair in
        let within = slice_get_within (framed y) n.at n.left pair.left in
        let frame = framed_long y in
        let first : IsSayable (negative_line s.file number base n) = record {
          are_words =
              All-cons IsWord (mark_text s.file n.left) (mark_text s.file n.right ∷ edit_names (edit_of s.file n.edit)) (mark_is_word s.file is.named n.left (framed_mark y all n.at n.left pair.left))
              (All-cons IsWord (mark_text s.file n.right) (edit_names (edit_of s.file n.edit)) (mark_is_word s.file is.named n.right (framed_mark y all (n.at + 1) n.right pair.right)) (edit_words (length tokens) n.edit fits));
          are_bytes = no_bytes;
        } in
        let front = put.base_words number base ++ put.fault_line s.file n in
        writes_as (negative_entry_lines s.file base tokens number entry) (front ++ (put.tokens_line s.file y ++ put.text_lines s.file entry.rendered)) (negative_lines s.file base tokens number entry)
        (append_assoc front (put.tokens_line s.file y) (put.text_lines s.file entry.rendered))
        (writes_more front _ (negative_line s.file number base n) _ (says_negative s.file number base n small small_base (small_edit tokens n.edit few fits) (omega (arith, within, frame, long, few))) first
        (writes_more (put.tokens_line s.file y) _ (tokens_line s.file y) _ (says_tokens s.file y) (tokens_sayable is y w)
        (writes_texts s.file entry.rendered r.small r.sayable)))

    negatives_written : (number : ℕ) (entries : List NegativeEntry) → AllByRecursion (IsKnownNegative s tokens) entries → number + length entries ≤ 12000000000000000000
        → Writes (numbered_from number (negative_entry_lines s.file base tokens) entries) (numbered number (negative_lines s.file base tokens) entries)
    negatives_written number [] known room = writes_none
    negatives_written number (e ∷ entries) known room =
        writes_both (negative_entry_lines s.file base tokens number e) (numbered_from (number + 1) (negative_entry_lines s.file base tokens) entries)
        (negative_lines s.file base tokens number e) (numbered (number + 1) (negative_lines s.file base tokens) entries)
        (negative_written number e (omega (arith, room)) known.0) (negatives_written (number + 1) entries known.1 (omega (arith, room)))

  -- ---- bases

  few_negatives_of : {before : List Negative} {tokens : List ℕ} (entries : List NegativeEntry) → length tokens ≤ 1000000 → AreNegativesOf s.file.grammar s.choice (Some s.lexemes) before tokens entries → length entries ≤ 1100000000
  few_negatives_of {before} {tokens} entries short of =
      let choice = s.choice in
      let each = length_zip (IsNegativeOf choice.texts (Some s.lexemes) tokens) of.kept entries of.each in
      let kept = few_kept_ones s.file.grammar tokens choice.first before of.negatives of.kept of.are_kept in
      let all = few_negatives s.file.grammar tokens (edits s.file.grammar.tokens tokens choice.operators) of.negatives of.all in
      let edits_few = few_edits s.file.grammar.tokens tokens choice.operators is.named.is.grammar.tokens short in
      omega (arith, each, kept, all, edits_few)

  record AreBasesWritten (bytes : List ℕ) (lines : List Line) (mutants : List BaseEntry) : Type 0 where
    written : Writes bytes lines
    few : all_negatives mutants ≤ 1100000000 * length mutants

  module _ (words : List VerdictWords) (codes : List (List ℕ)) (few_words : length words ≤ 10000000000) where
    bases_written : (negatives number : ℕ) (mutants : List BaseEntry) → AllByRecursion (IsKnownBase s words codes) mutants → negatives ≤ 1100000000 * number → number + length mutants ≤ 10000000000
        → AreBasesWritten (base_entry_lines s.file negatives number mutants) (base_lines s.file negatives number mutants) mutants
    bases_written negatives number [] known few room = record { written = writes_none; few = omega arith }
    bases_written negatives number (first ∷ rest) known few room =
        let of = known.0.of in
        let made = known.0.made in
        let numbers = IsNumberOf-IsYield s.file.grammar is.named.is.grammar of.rules first.tokens of.yields in
        let many = few_negatives_of first.negatives of.short made in
        let goal_low = slice_get_within words (first.goal - 1) _ of.verdict.1 in
        let small_base : IsSmall (number + 1) = omega (arith, room) in
        let small_goal : IsSmall first.goal = omega (arith, goal_low, few_words) in
        let line = writes_one (put.base_line (number + 1) first.goal) (BaseLine (number + 1) first.goal) (says_base s.file (number + 1) first.goal small_base small_goal) (plain_line (BaseLine (number + 1) first.goal) refl refl) in
        let negatives_here = negatives_written first.tokens numbers of.short (number + 1) small_base (negatives + 1) first.negatives (known_negatives first.negatives is made) (omega (arith, few, room, many)) in
        let others = bases_written (negatives + length first.negatives) (number + 1) rest known.1 (omega (arith, few, many)) (omega (arith, room)) in
        let sum = sum_by-cons (λ (x : BaseEntry). length x.negatives) first rest in
        let others_few = others.few in
        record {
          written =
              writes_both (put.base_line (number + 1) first.goal ++ numbered_from (negatives + 1) (negative_entry_lines s.file (number + 1) first.tokens) first.negatives) (base_entry_lines s.file (negatives + length first.negatives) (number + 1) rest)
              (BaseLine (number + 1) first.goal ∷ numbered (negatives + 1) (negative_lines s.file (number + 1) first.tokens) first.negatives) (base_lines s.file (negatives + length first.negatives) (number + 1) rest)
              (writes_both (put.base_line (number + 1) first.goal) (numbered_from (negatives + 1) (negative_entry_lines s.file (number + 1) first.tokens) first.negatives)
              (BaseLine (number + 1) first.goal ∷ []) (numbered (negatives + 1) (negative_lines s.file (number + 1) first.tokens) first.negatives) line negatives_here)
              others.written;
          few = omega (arith, sum, many, others_few);
        }

  -- ---- the whole

  module _ (b : Body) (body : IsBody s b) where
    few_entries : length b.entries ≤ 10000000000
    few_entries =
        let same = ap (λ (l : List Goal). length l) body.goals_are in
        let many = length-map b.entries (λ (e : GoalEntry). e.goal) in
        omega (arith, same, many, few_goals s.file.grammar is.named.is.grammar s.choice.criteria)

    few_mutants : length b.mutants ≤ 10000000000
    few_mutants =
        let same = same_bases s.file.grammar s.choice (Some s.lexemes) [] (bases (most_bases s.choice) b.entries) b.mutants body.bases_are in
        let low = few_bases (most_bases s.choice) b.entries in
        omega (arith, same, low, few_entries)

    pub whole_written : Writes (shared_text s.file s.choice.weigh (Some s.lexemes) s.closed b.entries b.list (length b.cases.codes) b.mutants)
        (suite_lines s.file s.choice.weigh s.lexemes s.closed b.entries b.list (length b.cases.codes) b.mutants)
    whole_written =
        let room = few_entries in
        let head = head_written is in
        let goals_written = entries_written is 0 (no_cases s.file.grammar) b.cases (omega arith) b.entries (omega (arith, room)) body.known b.list body.shared in
        let as_many = same_list (Some s.texts) (Some s.lexemes) (no_cases s.file.grammar) b.entries b.cases b.list body.shared in
        let words_few : length (words_told b.list) ≤ 10000000000 = omega (arith, length-map b.list (λ (x : SharedEntry). verdict_of x.verdict), as_many, room) in
        let bases_room = few_mutants in
        let all = bases_written (words_told b.list) b.cases.codes words_few 0 0 b.mutants (bases_known s b body) (omega arith) (omega (arith, bases_room)) in
        let counts = counts_in b in
        let cases_low = few_cases (Some s.texts) (Some s.lexemes) (no_cases s.file.grammar) b.entries b.cases b.list body.shared in
        let sum_low = all.few in
        let end = writes_one (end_line_with (Some (length b.cases.codes)) b.entries b.mutants) (EndLine counts)
        (says_end counts (
          omega (arith, room),
          omega (arith, room, count_by-le-length (λ (e : GoalEntry). put.is_feasible e.verdict) b.entries),
          omega (arith, room, count_by-le-length (λ (e : GoalEntry). put.is_infeasible e.verdict) b.entries),
          omega (arith, room, count_by-le-length (λ (e : GoalEntry). put.is_large e.verdict) b.entries),
          omega (arith, sum_low, bases_room),
          omega (arith, cases_low, room),
        ))
        (plain_line (EndLine counts) refl refl) in
        writes_both _ _ _ _ (writes_both _ _ _ _ (writes_both _ _ _ _ head goals_written) all.written) end
