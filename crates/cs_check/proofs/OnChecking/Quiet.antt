-- Lines that tell no more than of what the lines above speak: of tokens, texts and the end.
use Rattle.std.proofs.Common.{◌≡◌, ℕ, ◌+◌, ◌<◌, List, [], ◌∷◌, ◌++◌, None, length, refl, sym, ap, ◌∙◌, subst, arith}
use Rattle.std.specs.List.{AllZip, Contains}
use Rattle.std.proofs.lemmas.Bool.{false≢true}
use Rattle.std.proofs.lemmas.List.{length-append}
use Rattle.cs_yacc.specs.Reading.File.{File}
use Rattle.cs_check.specs.declared.checking.entries.Entries.{Entries}
use Rattle.cs_lines.specs.Words.Edits.{EditWords}
use Rattle.cs_lines.specs.Lines.Line.{GoalWords, VerdictWords, Line, TokensLine, TextLine, NoLexemeLine, NoScanLine, EndLine, Counts}
use Rattle.cs_check.specs.Passing.Above.{size_in, derivation_in, goal_in, verdict_in, base_in, edit_in, case_sizes}
use Rattle.cs_check.specs.Passing.Places.{Part, InHead, OfCase, OfDerivation, OfCaseTokens, OfCaseText, OfGoal, OfBase, OfNegative, OfNegativeTokens, OfNegativeText, OfEnd, tokens_part, text_part, part_of, last_part, next_parts}
use Rattle.cs_check.specs.Passing.DueGoals.{KnowsGoals}
use Rattle.cs_check.specs.Checking.Cases.{PlainCase}
use Rattle.cs_check.specs.Checking.Told.{sizes_of, AreSized, IsCaseOf, HasTold, HasBase, AreEntries}
use Rattle.cs_check.proofs.OnChecking.Told.{kept, counts_with, last_part_more, among_true, case_kept, base_kept, negative_kept, plain_sizes}

sized_plain : (p : Part) (sizes : List ℕ) (cases : List PlainCase) (read : ℕ) → (p ≡ OfCase → ⊥) → sizes ≡ sizes_of cases → AreSized p sizes cases read
sized_plain InHead sizes cases read other h = h
sized_plain OfCase sizes cases read other h = absurd (other refl)
sized_plain OfDerivation sizes cases read other h = h
sized_plain OfCaseTokens sizes cases read other h = h
sized_plain OfCaseText sizes cases read other h = h
sized_plain OfGoal sizes cases read other h = h
sized_plain OfBase sizes cases read other h = h
sized_plain OfNegative sizes cases read other h = h
sized_plain OfNegativeTokens sizes cases read other h = h
sized_plain OfNegativeText sizes cases read other h = h
sized_plain OfEnd sizes cases read other h = h

-- a line that tells nothing of its own
pub record IsQuiet (l : Line) : Type 0 where
  pub size : size_in l ≡ None
  pub derivation : derivation_in l ≡ None
  pub goal : goal_in l ≡ None
  pub verdict : verdict_in l ≡ None
  pub base : base_in l ≡ None
  pub edit : edit_in l ≡ None

module _ (file : File) (lines : List Line) (e : Entries) (t : AreEntries file lines e) (few : length lines + 1 < 4294967296) where
  module _ (l : Line) (quiet : IsQuiet l) (before : last_part lines ≡ OfCase → ⊥) (p : Part) (is : part_of (last_part lines) l ≡ p) (after : p ≡ OfCase → ⊥) where
    pub quiet_taken : HasTold file (lines ++ l ∷ []) p e.tokens.items → HasBase file.grammar (lines ++ l ∷ []) p e.base.items → AreEntries file (lines ++ l ∷ []) e
    quiet_taken told base =
        let lines' = lines ++ l ∷ [] in
        let long = length-append lines (l ∷ []) in
        let rules_same = kept derivation_in lines l quiet.derivation in
        let verdicts_same = kept verdict_in lines l quiet.verdict in
        let goals_same = kept goal_in lines l quiet.goal in
        let bases_same = kept base_in lines l quiet.base in
        let edits_same = kept edit_in lines l quiet.edit in
        let sizes_same = kept size_in lines l quiet.size in
        let part = last_part_more lines l ∙ is in
        record {
          few = omega arith;
          grammar = t.grammar;
          rules = t.rules ∙ sym rules_same;
          sizes =
              subst (λ (q : Part). AreSized q (case_sizes lines') e.cases.list e.size) (sym part)
              (sized_plain p (case_sizes lines') e.cases.list e.size after
              (sizes_same ∙ plain_sizes (last_part lines) (case_sizes lines) e.cases.list e.size before t.sizes));
          small = t.small;
          verdicts = subst (λ (v : List VerdictWords). AllZip IsCaseOf v e.goal_cases.items) (sym verdicts_same) t.verdicts;
          shown = t.shown;
          due = subst (λ (x : List GoalWords). KnowsGoals file.grammar x e.due) (sym goals_same) t.due;
          told = subst (λ (q : Part). HasTold file lines' q e.tokens.items) (sym part) told;
          bases = t.bases ∙ sym (ap (λ (x : List ℕ). length x) bases_same);
          base = subst (λ (q : Part). HasBase file.grammar lines' q e.base.items) (sym part) base;
          counts =
              counts_with lines lines' e.counts t.counts goals_same verdicts_same e.counts.negatives e.counts.cases
              (t.counts.negatives ∙ sym (ap (λ (x : List EditWords). length x) edits_same))
              (t.counts.cases ∙ sym (ap (λ (x : List ℕ). length x) sizes_same));
        }

  -- ---- a tokens line

  module _ (names : List (List ℕ)) where
    told_tokens : (p : Part) → Contains (next_parts p) (tokens_part p) → HasTold file lines p e.tokens.items → HasTold file (lines ++ TokensLine names ∷ []) (tokens_part p) e.tokens.items
    told_tokens InHead h t = absurd (false≢true (among_true (next_parts InHead) OfCaseTokens h))
    told_tokens OfCase h t = absurd (false≢true (among_true (next_parts OfCase) OfCaseTokens h))
    told_tokens OfDerivation h t =
        case_kept file lines (lines ++ TokensLine names ∷ []) (kept derivation_in lines (TokensLine names) refl) e.tokens.items t
    told_tokens OfCaseTokens h t = absurd (false≢true (among_true (next_parts OfCaseTokens) OfCaseTokens h))
    told_tokens OfCaseText h t = absurd (false≢true (among_true (next_parts OfCaseText) OfCaseTokens h))
    told_tokens OfGoal h t = absurd (false≢true (among_true (next_parts OfGoal) OfCaseTokens h))
    told_tokens OfBase h t = absurd (false≢true (among_true (next_parts OfBase) OfCaseTokens h))
    told_tokens OfNegative h t =
        negative_kept file lines (lines ++ TokensLine names ∷ []) (kept derivation_in lines (TokensLine names) refl)
        (kept verdict_in lines (TokensLine names) refl) (kept base_in lines (TokensLine names) refl) (kept edit_in lines (TokensLine names) refl) e.tokens.items t
    told_tokens OfNegativeTokens h t = absurd (false≢true (among_true (next_parts OfNegativeTokens) OfCaseTokens h))
    told_tokens OfNegativeText h t = absurd (false≢true (among_true (next_parts OfNegativeText) OfCaseTokens h))
    told_tokens OfEnd h t = absurd (false≢true (among_true (next_parts OfEnd) OfCaseTokens h))

    base_tokens : (p : Part) → HasBase file.grammar lines p e.base.items → HasBase file.grammar (lines ++ TokensLine names ∷ []) (tokens_part p) e.base.items
    base_tokens InHead b = tt
    base_tokens OfCase b = tt
    base_tokens OfDerivation b = tt
    base_tokens OfCaseTokens b = tt
    base_tokens OfCaseText b = tt
    base_tokens OfGoal b = tt
    base_tokens OfBase b = tt
    base_tokens OfNegative b =
        base_kept file lines (lines ++ TokensLine names ∷ []) (kept derivation_in lines (TokensLine names) refl)
        (kept verdict_in lines (TokensLine names) refl) (kept base_in lines (TokensLine names) refl) e.base.items b
    base_tokens OfNegativeTokens b = tt
    base_tokens OfNegativeText b = tt
    base_tokens OfEnd b = tt

    not_case : (p : Part) → Contains (next_parts p) (tokens_part p) → p ≡ OfCase → ⊥
    not_case p h same =
        false≢true (among_true (next_parts OfCase) OfCaseTokens (subst (λ (q : Part). Contains (next_parts q) (tokens_part q)) same h))

    other_part : (p : Part) → tokens_part p ≡ OfCase → ⊥
    other_part OfNegative same = absurd cc
    other_part InHead same = absurd cc
    other_part OfCase same = absurd cc
    other_part OfDerivation same = absurd cc
    other_part OfCaseTokens same = absurd cc
    other_part OfCaseText same = absurd cc
    other_part OfGoal same = absurd cc
    other_part OfBase same = absurd cc
    other_part OfNegativeTokens same = absurd cc
    other_part OfNegativeText same = absurd cc
    other_part OfEnd same = absurd cc

    pub tokens_taken : Contains (next_parts (last_part lines)) (tokens_part (last_part lines)) → AreEntries file (lines ++ TokensLine names ∷ []) e
    tokens_taken follows =
        quiet_taken (TokensLine names) (record { size = refl; derivation = refl; goal = refl; verdict = refl; base = refl; edit = refl })
        (not_case (last_part lines) follows) (tokens_part (last_part lines)) refl (other_part (last_part lines))
        (told_tokens (last_part lines) follows t.told) (base_tokens (last_part lines) t.base)

  -- ---- a line of a text, or that there is none

  module _ (l : Line) (quiet : IsQuiet l) (is : part_of (last_part lines) l ≡ text_part (last_part lines)) where
    told_text : (p : Part) → HasTold file (lines ++ l ∷ []) (text_part p) e.tokens.items
    told_text InHead = tt
    told_text OfCase = tt
    told_text OfDerivation = tt
    told_text OfCaseTokens = tt
    told_text OfCaseText = tt
    told_text OfGoal = tt
    told_text OfBase = tt
    told_text OfNegative = tt
    told_text OfNegativeTokens = tt
    told_text OfNegativeText = tt
    told_text OfEnd = tt

    base_text : (p : Part) → HasBase file.grammar lines p e.base.items → HasBase file.grammar (lines ++ l ∷ []) (text_part p) e.base.items
    base_text InHead b = tt
    base_text OfCase b = tt
    base_text OfDerivation b = tt
    base_text OfCaseTokens b = tt
    base_text OfCaseText b = tt
    base_text OfGoal b = tt
    base_text OfBase b = tt
    base_text OfNegative b = tt
    base_text OfNegativeTokens b =
        base_kept file lines (lines ++ l ∷ []) (kept derivation_in lines l quiet.derivation)
        (kept verdict_in lines l quiet.verdict) (kept base_in lines l quiet.base) e.base.items b
    base_text OfNegativeText b = tt
    base_text OfEnd b = tt

    not_case_text : (p : Part) → Contains (next_parts p) (text_part p) → p ≡ OfCase → ⊥
    not_case_text p h same =
        false≢true (among_true (next_parts OfCase) OfCaseText (subst (λ (q : Part). Contains (next_parts q) (text_part q)) same h))

    other_part_text : (p : Part) → text_part p ≡ OfCase → ⊥
    other_part_text OfNegativeTokens same = absurd cc
    other_part_text InHead same = absurd cc
    other_part_text OfCase same = absurd cc
    other_part_text OfDerivation same = absurd cc
    other_part_text OfCaseTokens same = absurd cc
    other_part_text OfCaseText same = absurd cc
    other_part_text OfGoal same = absurd cc
    other_part_text OfBase same = absurd cc
    other_part_text OfNegative same = absurd cc
    other_part_text OfNegativeText same = absurd cc
    other_part_text OfEnd same = absurd cc

    text_taken_of : Contains (next_parts (last_part lines)) (text_part (last_part lines)) → AreEntries file (lines ++ l ∷ []) e
    text_taken_of follows =
        quiet_taken l quiet (not_case_text (last_part lines) follows) (text_part (last_part lines)) is (other_part_text (last_part lines))
        (told_text (last_part lines)) (base_text (last_part lines) t.base)

  pub text_taken : (text : List ℕ) → Contains (next_parts (last_part lines)) (text_part (last_part lines)) → AreEntries file (lines ++ TextLine text ∷ []) e
  text_taken text =
      text_taken_of (TextLine text) (record { size = refl; derivation = refl; goal = refl; verdict = refl; base = refl; edit = refl }) refl

  pub no_lexeme_taken : (name : List ℕ) → Contains (next_parts (last_part lines)) (text_part (last_part lines)) → AreEntries file (lines ++ NoLexemeLine name ∷ []) e
  no_lexeme_taken name =
      text_taken_of (NoLexemeLine name) (record { size = refl; derivation = refl; goal = refl; verdict = refl; base = refl; edit = refl }) refl

  pub no_scan_taken : (after : ℕ) → Contains (next_parts (last_part lines)) (text_part (last_part lines)) → AreEntries file (lines ++ NoScanLine after ∷ []) e
  no_scan_taken after =
      text_taken_of (NoScanLine after) (record { size = refl; derivation = refl; goal = refl; verdict = refl; base = refl; edit = refl }) refl

  -- ---- the end line

  not_case_end : (p : Part) → Contains (next_parts p) OfEnd → p ≡ OfCase → ⊥
  not_case_end p h same =
      false≢true (among_true (next_parts OfCase) OfEnd (subst (λ (q : Part). Contains (next_parts q) OfEnd) same h))

  end_other : OfEnd ≡ OfCase → ⊥
  end_other same = absurd cc

  pub end_taken : (counts : Counts) → Contains (next_parts (last_part lines)) OfEnd → AreEntries file (lines ++ EndLine counts ∷ []) e
  end_taken counts follows =
      quiet_taken (EndLine counts) (record { size = refl; derivation = refl; goal = refl; verdict = refl; base = refl; edit = refl })
      (not_case_end (last_part lines) follows) OfEnd refl end_other tt tt
