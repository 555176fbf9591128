-- Derive lines and text lines.
use Rattle.std.proofs.Common.{◌≡◌, ℕ, ◌+◌, ◌<◌, ◌≤◌, ◌↔◌, Bool, List, [], ◌∷◌, ◌++◌, length, refl, sym, ap, ◌∙◌, subst, arith}
use Rattle.std.specs.Prelude.{IsTrue}
use Rattle.std.specs.Global.{Vec}
use Rattle.std.specs.List.{AllZip, Contains}
use Rattle.std.proofs.lemmas.Bool.{false≢true}
use Rattle.std.proofs.lemmas.List.{length-append, length_push, map_push}
use Rattle.std.proofs.lemmas.List.Elements.{All-push, All-weaker, All-contains}
use Rattle.cs_choices.specs.declared.weigh.Weigh.{Weigh}
use Rattle.cs_grammar.specs.declared.symbol.Symbol.{Symbol}
use Rattle.cs_grammar.specs.declared.symbol.Symbol.TheVariants.{Nonterminal}
use Rattle.cs_grammar.specs.Grammar.{PlainGrammar, IsGrammar}
use Rattle.cs_grammar.specs.Leftmost.{IsYield}
use Rattle.cs_grammar.specs.Tree.{Tree, IsTree, code, IsPrefixFree, IsDerivationOf}
use Rattle.cs_grammar.specs.Weights.{Measure}
use Rattle.cs_yacc.specs.Reading.File.{File}
use Rattle.cs_scanner.specs.Scan.Scan.{Scans}
use Rattle.cs_check.specs.declared.checking.entries.Entries.{Entries}
use Rattle.cs_lines.specs.Words.Edits.{EditWords}
use Rattle.cs_lines.specs.Lines.Numbers.{IsRead, greatest}
use Rattle.cs_lines.specs.Lines.Line.{GoalWords, VerdictWords, Line, DeriveLine, TextLine}
use Rattle.cs_check.specs.Passing.Above.{size_in, derivation_in, goal_in, verdict_in, base_in, edit_in, weighs, lexemes, case_sizes, derivations}
use Rattle.cs_check.specs.Passing.Places.{Part, InHead, OfCase, OfDerivation, OfCaseTokens, OfCaseText, OfGoal, OfBase, OfNegative, OfNegativeTokens, OfNegativeText, OfEnd, last_part, next_parts}
use Rattle.cs_check.specs.Passing.Entries.{IsLast, IsMeasured, HasSize, AreTold, measured as measured_by}
use Rattle.cs_check.specs.Passing.DueGoals.{KnowsGoals}
use Rattle.cs_check.specs.Passing.Faults.{Checked, HasCaseSize, HasScan}
use Rattle.cs_check.specs.Checking.Cases.{PlainCase, case_of, cases_of}
use Rattle.cs_check.specs.Checking.Told.{sizes_of, AreSized, IsCaseOf, HasTold, HasBase, AreEntries}
use Rattle.cs_check.proofs.OnChecking.Trees.{code_rules}
use Rattle.cs_check.proofs.OnChecking.Once.{one_numbered, last_push, one_told}
use Rattle.cs_check.proofs.OnChecking.Told.{kept, added, counts_with, last_part_more, among_true}

-- ---- a text line

pub scan_told : (c : Checked) (one : (x : Symbol) (t : Tree) → IsTree c.file.grammar x t → IsPrefixFree c.file.grammar x t) (lines : List Line) (text tokens : List ℕ) → AreTold c.file lines tokens → (so : Bool) → IsTrue so ↔ Scans c.scanning text tokens → IsTrue so ↔ HasScan c lines (TextLine text)
scan_told c one lines text tokens told so is = (
  λ e. (tokens, told, is.0 e),
  λ h. is.1 (subst (λ (l : List ℕ). Scans c.scanning text l) (one_told c.file one lines h.0 tokens h.1 told) h.2),
)

-- ---- a derive line

-- only a case line may stand before it
only_case : (p : Part) → Contains (next_parts p) OfDerivation → p ≡ OfCase
only_case InHead h = absurd (false≢true (among_true (next_parts InHead) OfDerivation h))
only_case OfCase h = refl
only_case OfDerivation h = absurd (false≢true (among_true (next_parts OfDerivation) OfDerivation h))
only_case OfCaseTokens h = absurd (false≢true (among_true (next_parts OfCaseTokens) OfDerivation h))
only_case OfCaseText h = absurd (false≢true (among_true (next_parts OfCaseText) OfDerivation h))
only_case OfGoal h = absurd (false≢true (among_true (next_parts OfGoal) OfDerivation h))
only_case OfBase h = absurd (false≢true (among_true (next_parts OfBase) OfDerivation h))
only_case OfNegative h = absurd (false≢true (among_true (next_parts OfNegative) OfDerivation h))
only_case OfNegativeTokens h = absurd (false≢true (among_true (next_parts OfNegativeTokens) OfDerivation h))
only_case OfNegativeText h = absurd (false≢true (among_true (next_parts OfNegativeText) OfDerivation h))
only_case OfEnd h = absurd (false≢true (among_true (next_parts OfEnd) OfDerivation h))

module _ (file : File) (lines : List Line) (e : Entries) (t : AreEntries file lines e) (follows : Contains (next_parts (last_part lines)) OfDerivation) where
  told_size : (s : ℕ) × (case_sizes lines ≡ sizes_of e.cases.list ++ s ∷ []) × IsRead s e.size
  told_size = subst (λ (p : Part). AreSized p (case_sizes lines) e.cases.list e.size) (only_case (last_part lines) follows) t.sizes

  last_size : (s : ℕ) → case_sizes lines ≡ sizes_of e.cases.list ++ s ∷ [] → IsLast (case_sizes lines) s
  last_size s is = subst (λ (l : List ℕ). IsLast l s) (sym is) (last_push (sizes_of e.cases.list) s)

  module _ (rules : List ℕ) (size : ℕ) (low : size < greatest) (w : Measure) (measured : IsMeasured lines w) (has : (n : ℕ) → HasSize file.grammar w rules n ↔ (n ≡ size)) where
    -- the size that was told is that of the tree, or it isn't
    pub size_right : size ≡ e.size → HasCaseSize file.grammar lines (DeriveLine rules)
    size_right same =
        let told = told_size in
        let read = told.2 in
        let is : told.0 ≡ size = omega arith in
        (w, told.0, measured, last_size told.0 told.1, (has told.0).1 is)

    pub size_wrong : (size ≡ e.size → ⊥) → HasCaseSize file.grammar lines (DeriveLine rules) → ⊥
    size_wrong other h =
        let told = told_size in
        let read = told.2 in
        let weigh = one_numbered (weighs lines) 1 h.2.0 measured.0 h.2.1 measured.1 in
        let same_measure : h.0 ≡ w = h.2.2 ∙ ap (λ (x : Weigh). measured_by x (lexemes lines)) weigh ∙ sym measured.2 in
        let sizes = one_numbered (case_sizes lines) (length (case_sizes lines)) h.1 told.0 h.3 (last_size told.0 told.1) in
        let is = (has h.1).0 (subst (λ (m : Measure). HasSize file.grammar m rules h.1) same_measure h.4) in
        other (omega arith)

    pub derivation_taken : (tokens : Vec ℕ) → IsYield file.grammar rules tokens.items → size ≡ e.size → length lines + 1 < 4294967296 → AreEntries file (lines ++ DeriveLine rules ∷ []) (record e { cases = cases_of e.cases.grammar (e.cases.list ++ case_of size rules ∷ []); tokens = tokens })
    derivation_taken tokens yields same few =
        let l : Line = DeriveLine rules in
        let lines' = lines ++ l ∷ [] in
        let told = told_size in
        let read = told.2 in
        let is : told.0 ≡ size = omega arith in
        let long = length-append lines (l ∷ []) in
        let rules_more = added derivation_in lines l rules refl in
        let verdicts_same = kept verdict_in lines l refl in
        let goals_same = kept goal_in lines l refl in
        let bases_same = kept base_in lines l refl in
        let edits_same = kept edit_in lines l refl in
        let sizes_same = kept size_in lines l refl in
        let part = last_part_more lines l in
        let new = case_of size rules in
        record {
          few = omega arith;
          grammar = t.grammar;
          rules =
              map_push (λ (c : PlainCase). c.rules) e.cases.list new
              ∙ ap (λ (x : List (List ℕ)). x ++ rules ∷ []) t.rules
              ∙ sym rules_more;
          sizes =
              subst (λ (p : Part). AreSized p (case_sizes lines') (e.cases.list ++ new ∷ []) e.size) (sym part)
              (sizes_same ∙ told.1 ∙ ap (λ (n : ℕ). sizes_of e.cases.list ++ n ∷ []) is ∙ sym (map_push (λ (c : PlainCase). c.size) e.cases.list new));
          small = All-push (λ (c : PlainCase). c.size < greatest) e.cases.list new t.small low;
          verdicts = subst (λ (v : List VerdictWords). AllZip IsCaseOf v e.goal_cases.items) (sym verdicts_same) t.verdicts;
          shown =
              let more = length_push e.cases.list new in
              All-weaker (λ (number : ℕ). number ≤ length e.cases.list) (λ (number : ℕ). number ≤ length (e.cases.list ++ new ∷ []))
              (λ number low. omega arith) e.goal_cases.items t.shown;
          due = subst (λ (x : List GoalWords). KnowsGoals file.grammar x e.due) (sym goals_same) t.due;
          told =
              subst (λ (p : Part). HasTold file lines' p tokens.items) (sym part)
              (rules, subst (λ (x : List (List ℕ)). IsLast x rules) (sym rules_more) (last_push (derivations lines) rules), yields);
          bases = t.bases ∙ sym (ap (λ (x : List ℕ). length x) bases_same);
          base = subst (λ (p : Part). HasBase file.grammar lines' p e.base.items) (sym part) tt;
          counts =
              counts_with lines lines' e.counts t.counts goals_same verdicts_same e.counts.negatives e.counts.cases
              (t.counts.negatives ∙ sym (ap (λ (x : List EditWords). length x) edits_same))
              (t.counts.cases ∙ sym (ap (λ (x : List ℕ). length x) sizes_same));
        }

-- no derivation has a number above all rules'
pub high_rule : (g : PlainGrammar) → IsGrammar g → (rules : List ℕ) (r : ℕ) → Contains rules r → 65535 < r → IsDerivationOf g rules → ⊥
high_rule g well rules r has high d =
    let all = code_rules g well d.0 (Nonterminal g.start) d.1 in
    let low = All-contains (λ (n : ℕ). n ≤ length g.rules) (code d.0) r all (subst (λ (l : List ℕ). Contains l r) d.2 has) in
    let few = well.few in
    omega arith
