-- The goals, bases and negatives of a suite are written line by line.
use Rattle.std.proofs.Common.{◌≡◌, ℕ, suc, ◌+◌, ◌-◌, ◌<◌, ◌≤◌, Bool, true, false, List, [], ◌∷◌, ◌++◌, Option, Some, None, length, length-append, refl, sym, ap, subst, inl, ⊎_elim, arith}
use Rattle.std.specs.Prelude.{All, cond, ◌==◌}
use Rattle.std.specs.List.{AllByRecursion, AllZip, Contains}
use Rattle.std.proofs.lemmas.Bool.{cases_lt}
use Rattle.std.proofs.lemmas.List.Elements.{All-nil, All-cons, All-head, All-tail, All-map, All-weaker, All-append, All-contains}
use Rattle.std.proofs.lemmas.Option.{slice_get_within, same_Some}
use Rattle.cs_grammar.specs.declared.symbol.Mark.{Mark}
use Rattle.cs_grammar.specs.declared.symbol.Mark.TheVariants as marks
use Rattle.cs_grammar.specs.Grammar.{Production, IsNumberOf, IsRule}
use Rattle.cs_grammar.proofs.Measures.{IsNumberOf-rule, IsNumberOf-IsYield, IsRuleOf-rule}
use Rattle.cs_goals.specs.declared.goal.Goal.{Goal}
use Rattle.cs_goals.specs.declared.goal.Goal.TheVariants as goals
use Rattle.cs_goals.specs.Goal.{IsGoal, IsLeft, IsRight}
use Rattle.cs_goals.proofs.Members.{Contains-from_Among, Among-right}
use Rattle.cs_scanner.specs.Lexeme.Lexeme.{IsLexemeOf, lexeme_in}
use Rattle.cs_scanner.specs.Scan.Scan.{in_common}
use Rattle.cs_scanner.proofs.OnScan.SomeScan.{runs_some}
use Rattle.cs_pattern_parts.specs.Items.StandsFor.{AreBytes}
use Rattle.cs_texts.specs.Rendering.Joined.{joined}
use Rattle.cs_texts.specs.Rendering.Rendering.{Rendering, Text, NoLexeme, Differs, IsRuleText}
use Rattle.cs_verdicts.specs.declared.positive.verdict.Verdict.{Verdict}
use Rattle.cs_verdicts.specs.declared.positive.verdict.Verdict.TheVariants as verdict
use Rattle.cs_verdicts.specs.Positive.Verdict.{IsVerdict}
use Rattle.cs_verdicts.specs.Cases.Cases.{PlainCases}
use Rattle.cs_manifest.specs.Output.Words.{numbered_from}
use Rattle.cs_manifest.specs.declared.manifest.verdict.SharedVerdict.{SharedVerdict}
use Rattle.cs_manifest.specs.declared.manifest.verdict.SharedVerdict.TheVariants as shared
use Rattle.cs_manifest.specs.Manifest.Manifest.{AreShared, AreTokensOf, GoalEntry, IsRenderedBy, IsRenderedIf, IsShared, IsSharedVerdict, SharedEntry, case_lines_by, is_new, shared_entry_lines}
use Rattle.cs_manifest.specs.Manifest.SharedLines as put_shared
use Rattle.cs_manifest.proofs.OnManifest.Rendered.{few_tokens}
use Rattle.cs_lines.specs.Words.Words.{IsWord}
use Rattle.cs_lines.specs.Words.Names.{token_of, mark_text}
use Rattle.cs_lines.specs.Lines.Line.{Line, VerdictWords, CaseLine, DeriveLine, NoScanLine, GoalLine}
use Rattle.cs_lines.specs.Lines.Texts.{names, text_in, goal_names}
use Rattle.cs_check.specs.Passing.Goals.{words_of}
use Rattle.cs_accord.specs.Suite.{numbered, text_lines, tokens_line, case_lines, new_case_by, entry_lines, verdict_of}
use Rattle.cs_accord.proofs.OnSuite.Digits.{IsSmall}
use Rattle.cs_accord.proofs.OnSuite.Entries.{Picked, IsPicked, rules_of_tree, shown_by, fresh_codes, same_codes, case_within, first_within}
use Rattle.cs_accord.proofs.OnSuite.Inner.{IsSayable, AreSayable}
use Rattle.cs_accord.proofs.OnSuite.Measures.{is_measure, few_limit}
use Rattle.cs_accord.proofs.OnSuite.Naming.{token_is_word, mark_is_word, IsMark}
use Rattle.cs_accord.proofs.OnSuite.Setting.{Setting, IsSetting, IsKnownEntry, measure}
use Rattle.cs_accord.proofs.OnSuite.Saying.{Writes, writes_none, writes_one, writes_both, writes_case, says_goal, IsSmallRendering, IsSmallGoal, IsSmallVerdict}
use Rattle.cs_accord.proofs.OnSuite.WritingHead.{no_bytes}

weaker : {A : Type 0} (P Q : A → Type 0) → ((x : A) → P x → Q x) → (xs : List A) → AllByRecursion P xs → AllByRecursion Q xs
weaker P Q each [] all = tt
weaker P Q each (x ∷ xs) all = (each x all.0, weaker P Q each xs all.1)

-- a line without names and texts
pub plain_line : (l : Line) → names l ≡ [] → text_in l ≡ [] → IsSayable l
plain_line l e f = record { are_words = subst (All IsWord) (sym e) (All-nil IsWord); are_bytes = subst AreBytes (sym f) no_bytes }

one_more : (b : Bool) (n m : ℕ) → n ≤ m → cond b (suc n) 0 ≤ suc m
one_more true n m low = omega (arith, low)
one_more false n m low = omega arith

in_common_low : (xs ys : List ℕ) → in_common xs ys ≤ length xs
in_common_low [] ys = omega arith
in_common_low (x ∷ xs) [] = omega arith
in_common_low (x ∷ xs) (y ∷ ys) = one_more (x == y) (in_common xs ys) (length xs) (in_common_low xs ys)

-- ---- texts

module _ {s : Setting} (is : IsSetting s) where
  text_of : (token : ℕ) (text : List ℕ) (o : Option (List ℕ)) → o ≡ Some text → IsLexemeOf s.texts.scanning token o → AreBytes text
  text_of token text None e h = absurd cc
  text_of token text (Some t) e h = subst AreBytes (same_Some t text e) h.bytes

  -- the bytes of a rule's text
  texts_bytes : (tokens : List ℕ) (list : List (List ℕ)) → AllZip (λ token lexeme. lexeme_in s.lexemes token ≡ Some lexeme) tokens list → All (IsNumberOf s.file.grammar.tokens) tokens → AreBytes (joined s.texts.separator list)
  texts_bytes [] [] zip all = no_bytes
  texts_bytes [] (t ∷ list) zip all = absurd zip
  texts_bytes (t ∷ tokens) [] zip all = absurd zip
  texts_bytes (t ∷ []) (x ∷ []) zip all =
      let low = All-head (IsNumberOf s.file.grammar.tokens) t [] all in text_of t x (lexeme_in s.lexemes t) zip.0 (is.lexemes.each t low.0 low.1)
  texts_bytes (t ∷ []) (x ∷ y ∷ list) zip all = absurd zip.1
  texts_bytes (t ∷ u ∷ tokens) (x ∷ []) zip all = absurd zip.1
  texts_bytes (t ∷ u ∷ tokens) (x ∷ y ∷ list) zip all =
      let low = All-head (IsNumberOf s.file.grammar.tokens) t (u ∷ tokens) all in
      let here = text_of t x (lexeme_in s.lexemes t) zip.0 (is.lexemes.each t low.0 low.1) in
      let rest = texts_bytes (u ∷ tokens) (y ∷ list) zip.1 (All-tail (IsNumberOf s.file.grammar.tokens) t (u ∷ tokens) all) in
      All-append (λ (b : ℕ). b < 256) (x ++ s.texts.separator) (joined s.texts.separator (y ∷ list)) (All-append (λ (b : ℕ). b < 256) x s.texts.separator here is.separator) rest

  rule_text : (tokens text : List ℕ) → IsRuleText s.lexemes s.texts.separator tokens text → All (IsNumberOf s.file.grammar.tokens) tokens → AreBytes text
  rule_text tokens text h all = subst AreBytes (sym h.is) (texts_bytes tokens h.texts h.each all)

-- tokens that may be named, and are few
pub record AreWritten (s : Setting) (tokens : List ℕ) : Type 0 where
  pub numbers : All (IsNumberOf s.file.grammar.tokens) tokens
  pub few : length tokens ≤ 1000002

pub record IsRenderingWritten (s : Setting) (rendered : Option Rendering) : Type 0 where
  pub small : IsSmallRendering rendered
  pub sayable : AreSayable (text_lines s.file rendered)

module _ {s : Setting} (is : IsSetting s) where
  pub tokens_sayable : (tokens : List ℕ) → AreWritten s tokens → IsSayable (tokens_line s.file tokens)
  tokens_sayable tokens w = record {
    are_words = All-map IsWord (token_of s.file) tokens (All-weaker (IsNumberOf s.file.grammar.tokens) (λ t. IsWord (token_of s.file t)) (token_is_word s.file is.named) tokens w.numbers);
    are_bytes = no_bytes;
  }

  pub rendering_written : (tokens : List ℕ) (rendered : Option Rendering) → AreWritten s tokens → IsRenderedBy (Some s.texts) (Some s.lexemes) tokens rendered → IsRenderingWritten s rendered
  rendering_written tokens None w of = absurd of
  rendering_written tokens (Some (Text text)) w of = record {
    small = tt;
    sayable = (record { are_words = All-nil IsWord; are_bytes = rule_text is tokens text of.0 w.numbers }, tt);
  }
  rendering_written tokens (Some (NoLexeme token)) w of =
      let among : Contains tokens token =
      subst (λ (l : List ℕ). Contains l token) (sym of.list) (Contains-from_Among token (of.front ++ token ∷ of.behind) (Among-right token of.front (token ∷ of.behind) (inl refl))) in
      let number = All-contains (IsNumberOf s.file.grammar.tokens) tokens token w.numbers among in
      record {
        small = tt;
        sayable = (record { are_words = All-cons IsWord (token_of s.file token) [] (token_is_word s.file is.named token number) (All-nil IsWord); are_bytes = no_bytes }, tt);
      }
  rendering_written tokens (Some (Differs after)) w of =
      let common = of.3 in
      let low : after ≤ length tokens =
      ⊎_elim
      (λ (past : length tokens < after).
      absurd (runs_some s.texts.scanning of.0 (λ given whole run.
      let same = common given whole run in let most = in_common_low tokens given in omega (arith, past, same, most))))
      (λ (within : after ≤ length tokens). within)
      (cases_lt (length tokens) after) in
      let few = w.few in
      record { small = omega (arith, low, few); sayable = (plain_line (NoScanLine after) refl refl, tt) }

  -- ---- goals

  small_rule : (r : ℕ) (p : Production) → IsRule s.file.grammar r p → IsSmall r
  small_rule r p rule = let n = IsNumberOf-rule s.file.grammar r p rule in let few = is.named.is.grammar.few in omega (arith, n.1, few)

  small_goal : (goal : Goal) → IsGoal s.file.grammar goal → IsSmallGoal s.file goal
  small_goal (goals.Rule r) of = small_rule r of.0 of.1
  small_goal (goals.Context p i q) of =
      let short = (IsRuleOf-rule s.file.grammar p of.outer is.named.is.grammar of.is_outer).short in
      let within = slice_get_within of.outer.right (i - 1) _ of.at in
      (small_rule p of.outer of.is_outer, omega (arith, within, short), small_rule q of.inner of.is_inner)
  small_goal (goals.Pair a b) of = tt

  left_mark : (a : Mark) → IsLeft s.file.grammar.tokens a → IsMark s.file is.named a
  left_mark marks.Begin of = tt
  left_mark (marks.Token t) of = of
  left_mark marks.End of = absurd of

  right_mark : (b : Mark) → IsRight s.file.grammar.tokens b → IsMark s.file is.named b
  right_mark marks.Begin of = absurd of
  right_mark (marks.Token t) of = of
  right_mark marks.End of = tt

  goal_names_words : (goal : Goal) → IsGoal s.file.grammar goal → All IsWord (goal_names (words_of s.file goal))
  goal_names_words (goals.Rule r) of = All-nil IsWord
  goal_names_words (goals.Context p i q) of = All-nil IsWord
  goal_names_words (goals.Pair a b) of =
      All-cons IsWord (mark_text s.file a) (mark_text s.file b ∷ []) (mark_is_word s.file is.named a (left_mark a of.0))
      (All-cons IsWord (mark_text s.file b) [] (mark_is_word s.file is.named b (right_mark b of.1)) (All-nil IsWord))

  goal_sayable : (n : ℕ) (goal : Goal) (v : VerdictWords) → IsGoal s.file.grammar goal → IsSayable (GoalLine n (words_of s.file goal) v)
  goal_sayable n goal v of = record { are_words = goal_names_words goal of; are_bytes = no_bytes }

  case_sayable : (number size : ℕ) (rules tokens : List ℕ) (rendered : Option Rendering) → AreWritten s tokens → AreSayable (text_lines s.file rendered) → AreSayable (case_lines s.file number size rules tokens rendered)
  case_sayable number size rules tokens rendered w text = (plain_line (CaseLine number size) refl refl, (plain_line (DeriveLine rules) refl refl, (tokens_sayable tokens w, text)))

-- so many entries stand before, and no more cases
record IsRoom (k : ℕ) (old : PlainCases) : Type 0 where
  few : length old.codes ≤ k
  room : k ≤ 10000000000

-- what is written of an entry, behind so many others
record IsEntryWritten (k : ℕ) (new : PlainCases) (bytes : List ℕ) (lines : List Line) : Type 0 where
  written : Writes bytes lines
  few : length new.codes ≤ k + 1

module _ {s : Setting} (is : IsSetting s) {k : ℕ} {old : PlainCases} (before : IsRoom k old) {e : GoalEntry} (known : IsKnownEntry s e) where
  -- an entry's bytes and lines, where these are those of its case
  abbrev Entry : PlainCases → List ℕ → List Line → SharedVerdict → Type 0
  Entry new bytes lines sv = IsEntryWritten k new (bytes ++ put_shared.shared_goal_line s.file (k + 1) e.goal sv) (lines ++ GoalLine (k + 1) (words_of s.file e.goal) (verdict_of sv) ∷ [])

  with_goal : (new : PlainCases) {bytes : List ℕ} {lines : List Line} (sv : SharedVerdict) → Writes bytes lines → IsSmallVerdict s.file sv → length new.codes ≤ k + 1 → Entry new bytes lines sv
  with_goal new {bytes} {lines} sv written small short = record {
    written =
        let room = before.room in
        writes_both bytes (put_shared.shared_goal_line s.file (k + 1) e.goal sv) lines (GoalLine (k + 1) (words_of s.file e.goal) (verdict_of sv) ∷ []) written
        (writes_one (put_shared.shared_goal_line s.file (k + 1) e.goal sv) (GoalLine (k + 1) (words_of s.file e.goal) (verdict_of sv))
        (says_goal s.file (k + 1) e.goal sv (omega (arith, room)) (small_goal is e.goal known.is_goal) small) (goal_sayable is (k + 1) e.goal (verdict_of sv) known.is_goal));
    few = short;
  }

  module _ {new : PlainCases} {q : Picked} (pick : IsPicked s old new e.goal q) where
    small_verdict : length new.codes ≤ k + 1 → IsSmallVerdict s.file (shared.Feasible q.size q.name)
    small_verdict short =
        let few = (shown_by (measure s) s.file.grammar e.goal q.size q.derivation pick.verdict).few in
        let limit = few_limit s.choice.weigh s.file.grammar.tokens s.lexemes in
        let room = before.room in
        (omega (arith, few, limit), omega (arith, case_within pick.placed, short, room), omega (arith, first_within pick.placed, short, room))

    fresh_written : (rendered : Option Rendering) (b : Bool) → q.name.fresh ≡ b → IsRenderedIf b (Some s.texts) (Some s.lexemes) q.tokens rendered
        → Entry new (cond b (put_shared.case_lines s.file q.name.case q.size q.derivation q.tokens rendered) []) (cond b (case_lines s.file q.name.case q.size q.derivation q.tokens rendered) []) (shared.Feasible q.size q.name)
    fresh_written rendered true fresh text =
        let more = ap (λ (l : List (List ℕ)). length l) (fresh_codes pick.placed fresh) in
        let longer = length-append old.codes (q.derivation ∷ []) in
        let few = before.few in
        let short : length new.codes ≤ k + 1 = omega (arith, more, longer, few) in
        let small = small_verdict short in
        let shown = shown_by (measure s) s.file.grammar e.goal q.size q.derivation pick.verdict in
        let most = few_tokens (measure s) (is_measure s.choice.weigh s.file.grammar.tokens s.lexemes) s.file.grammar e.goal q.size q.derivation q.tokens pick.verdict pick.yields in
        let w : AreWritten s q.tokens = record { numbers = IsNumberOf-IsYield s.file.grammar is.named.is.grammar q.derivation q.tokens pick.yields; few = omega (arith, most) } in
        let r = rendering_written is q.tokens rendered w text in
        let rules : AllByRecursion IsSmall q.derivation =
        weaker (IsNumberOf (length s.file.grammar.rules)) IsSmall (λ x number. let rules_few = is.named.is.grammar.few in omega (arith, number.1, rules_few)) q.derivation
        (subst (AllByRecursion (IsNumberOf (length s.file.grammar.rules))) (sym shown.code_is) (rules_of_tree s.file.grammar shown.tree _ shown.is_tree)) in
        with_goal new (shared.Feasible q.size q.name)
        (writes_case s.file q.name.case q.size q.derivation q.tokens rendered (record { number = small.1; fits = small.0; few = rules; text = r.small })
        (case_sayable is q.name.case q.size q.derivation q.tokens rendered w r.sayable))
        small short
    fresh_written rendered false fresh text =
        let same = ap (λ (l : List (List ℕ)). length l) (same_codes pick.placed fresh) in
        let few = before.few in
        let short : length new.codes ≤ k + 1 = omega (arith, same, few) in
        with_goal new (shared.Feasible q.size q.name) writes_none (small_verdict short) short

module _ {s : Setting} (is : IsSetting s) {k : ℕ} {old : PlainCases} (before : IsRoom k old) {e : GoalEntry} (known : IsKnownEntry s e) (sh : SharedEntry) where
  -- what is written, if this is its verdict, and that in the second format
  abbrev Comes : PlainCases → Verdict → SharedVerdict → Type 0
  Comes new v sv =
      IsEntryWritten k new (case_lines_by s.file (record e { verdict = v }) sh.rendered sv ++ put_shared.shared_goal_line s.file (k + 1) e.goal sv)
      (new_case_by s.file (record e { verdict = v }) sh.rendered sv ++ GoalLine (k + 1) (words_of s.file e.goal) (verdict_of sv) ∷ [])

  step_written : (new : PlainCases) (v : Verdict) → IsVerdict (measure s) s.file.grammar e.goal v → AreTokensOf s.file.grammar v e.tokens → IsSharedVerdict old e.goal v new sh.verdict
      → IsRenderedIf (is_new sh.verdict) (Some s.texts) (Some s.lexemes) e.tokens sh.rendered → Comes new v sh.verdict
  step_written new (verdict.Feasible m derivation) v yields h text =
      let q : Picked = record { size = m; derivation = derivation; tokens = e.tokens; name = h.0 } in
      let pick : IsPicked s old new e.goal q = record { verdict = v; placed = h.2; yields = yields } in
      let text_here = subst (λ (x : SharedVerdict). IsRenderedIf (is_new x) (Some s.texts) (Some s.lexemes) e.tokens sh.rendered) h.1 text in
      subst (λ (x : SharedVerdict). Comes new (verdict.Feasible m derivation) x) (sym h.1) (fresh_written is before known pick sh.rendered h.0.fresh refl text_here)
  step_written new verdict.Infeasible v yields h text =
      let same = ap (λ (c : PlainCases). length c.codes) h.1 in
      let few = before.few in
      subst (λ (x : SharedVerdict). Comes new verdict.Infeasible x) (sym h.0) (with_goal is before known new shared.Infeasible writes_none tt (omega (arith, same, few)))
  step_written new verdict.Large v yields h text =
      let same = ap (λ (c : PlainCases). length c.codes) h.1 in
      let few = before.few in
      subst (λ (x : SharedVerdict). Comes new verdict.Large x) (sym h.0) (with_goal is before known new shared.Large writes_none tt (omega (arith, same, few)))

  entry_written : {new : PlainCases} → IsShared (Some s.texts) (Some s.lexemes) old e new sh → IsEntryWritten k new (shared_entry_lines s.file (k + 1) sh) (entry_lines s.file (k + 1) sh)
  entry_written {new} h =
      subst (λ (x : GoalEntry). IsEntryWritten k new (case_lines_by s.file x sh.rendered sh.verdict ++ put_shared.shared_goal_line s.file (k + 1) x.goal sh.verdict)
      (new_case_by s.file x sh.rendered sh.verdict ++ GoalLine (k + 1) (words_of s.file x.goal) (verdict_of sh.verdict) ∷ []))
      (sym h.is_of) (step_written new e.verdict known.verdict known.tokens h.verdict h.text)

module _ {s : Setting} (is : IsSetting s) where
  pub entries_written : (k : ℕ) (old new : PlainCases) → length old.codes ≤ k → (entries : List GoalEntry) → k + length entries ≤ 10000000000 → AllByRecursion (IsKnownEntry s) entries
      → (list : List SharedEntry) → AreShared (Some s.texts) (Some s.lexemes) old entries new list → Writes (numbered_from (k + 1) (shared_entry_lines s.file) list) (numbered (k + 1) (entry_lines s.file) list)
  entries_written k old new few [] room known list h = subst (λ (l : List SharedEntry). Writes (numbered_from (k + 1) (shared_entry_lines s.file) l) (numbered (k + 1) (entry_lines s.file) l)) (sym h.0) writes_none
  entries_written k old new few (e ∷ entries) room known list h =
      let mid = h.0 in
      let sh = h.1 in
      let others = h.2 in
      let before : IsRoom k old = record { few = few; room = omega (arith, room) } in
      let one = entry_written is before known.0 sh h.4 in
      let rest = entries_written (k + 1) mid new one.few entries (omega (arith, room)) known.1 others h.5 in
      subst (λ (l : List SharedEntry). Writes (numbered_from (k + 1) (shared_entry_lines s.file) l) (numbered (k + 1) (entry_lines s.file) l)) (sym h.3)
      (writes_both (shared_entry_lines s.file (k + 1) sh) (numbered_from (k + 1 + 1) (shared_entry_lines s.file) others) (entry_lines s.file (k + 1) sh) (numbered (k + 1 + 1) (entry_lines s.file) others) one.written rest)
