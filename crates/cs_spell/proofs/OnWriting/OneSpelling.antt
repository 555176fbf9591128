-- There is at most one text of spellings.
use Rattle.std.proofs.Common.{◌≡◌, ◌⊎◌, ℕ, zero, suc, ◌<◌, ◌≤◌, List, [], ◌∷◌, length, Option, None, Some, Ok, inl, inr, refl, sym, ap, ◌∙◌, subst, arith}
use Rattle.std.specs.Prelude.{slice_get}
use Rattle.std.specs.List.{AllZip}
use Rattle.std.proofs.lemmas.Bool.{cases_lt}
use Rattle.std.proofs.lemmas.Option.{slice_get_within}
use Rattle.cs_grammar.specs.Grammar.{PlainGrammar}
use Rattle.cs_choices.specs.declared.weigh.Weigh.{Weigh}
use Rattle.cs_grammar.specs.Weights.{Weighed}
use Rattle.cs_io.specs.Asked.{IsOne}
use Rattle.cs_grammar.proofs.OneOutcome.{one_outcome}
use Rattle.cs_goals.specs.declared.goal.Goal.TheVariants.{Rule}
use Rattle.cs_lexical.specs.Winning.{Wins}
use Rattle.cs_lexical.proofs.LawProofs.{one_entry}
use Rattle.cs_manifest.specs.Manifest.Manifest.{AreTokensOf, Texts}
use Rattle.cs_pattern_parts.specs.declared.kind.Kind.{Kind}
use Rattle.cs_pattern_parts.specs.declared.kind.Kind.TheVariants as kinds
use Rattle.cs_scanner.specs.Lexeme.Lexeme.{lexeme_in}
use Rattle.cs_scanner.specs.Scan.Compared.{IsInCommon}
use Rattle.cs_scanner.specs.Scan.Scan.{HasScan, Scanning}
use Rattle.cs_scanner.proofs.OnLexeme.LawProofs.{one_list}
use Rattle.cs_scanner.proofs.OnScan.SomeScan.{runs_some}
use Rattle.cs_spell.specs.Telling.Chosen.{AreRuleVerdicts, IsChosen, IsRuleVerdict, RuleVerdict}
use Rattle.cs_spell.specs.Telling.Lines.{spell_text}
use Rattle.cs_spell.specs.Telling.Spelling.{AreTold, IsShowing, IsSpelling, IsTold, IsToldBy, IsToldIf, IsToldOf, Making, making_with, weighed_by}
use Rattle.cs_spell.specs.Texts.Texts.{IsFirstPlace, IsRenderedWith, IsSpelledText, IsWayOf, ShowsSpelling, spelled}
use Rattle.cs_spell.specs.Telling.Told.{Showing, Told, Shadowed, Foreign, Literal, Infeasible, Large, Shown}
use Rattle.cs_spell.specs.declared.texts.way.Way.{Way}
use Rattle.cs_spell.specs.declared.texts.way.Way.TheVariants.{Gives}
use Rattle.cs_texts.specs.Rendering.Joined.{joined}
use Rattle.cs_texts.specs.Rendering.Rendering.{IsFirstWithout, IsRuleText, Rendering, Text, NoLexeme, Differs}
use Rattle.cs_texts.proofs.OnRendering.OneRendering.{rendering_one, text_or_none}
use Rattle.cs_verdicts.specs.declared.positive.verdict.Verdict.{Verdict}
use Rattle.cs_verdicts.specs.declared.positive.verdict.Verdict.TheVariants as verdicts
use Rattle.cs_verdicts.proofs.OnPositive.Verdicts.{one_verdict_of}
use Rattle.cs_yacc.specs.Reading.File.{File}

-- lists whose entries are the same at each place are the same
same_lists : {A : Type 0} (xs ys : List A) → length xs ≡ length ys → ((k : ℕ) (x y : A) → slice_get xs k ≡ Some x → slice_get ys k ≡ Some y → x ≡ y) → xs ≡ ys
same_lists [] [] all each = refl
same_lists [] (y ∷ ys) all each = absurd (omega (arith, all))
same_lists (x ∷ xs) [] all each = absurd (omega (arith, all))
same_lists {A} (x ∷ xs) (y ∷ ys) all each =
    let first : x ≡ y = each 0 x y refl refl in
    let rest : xs ≡ ys = same_lists xs ys (omega (arith, all)) (λ k a b. each (suc k) a b) in
    ap (λ (l : List A). x ∷ l) rest ∙ ap (λ (a : A). a ∷ ys) first

-- ---- verdicts

one_tokens : (g : PlainGrammar) (verdict : Verdict) (a b : List ℕ) → AreTokensOf g verdict a → AreTokensOf g verdict b → a ≡ b
one_tokens g (verdicts.Feasible n derivation) a b ha hb = let e = one_outcome g derivation (Ok a) (Ok b) ha hb in cc
one_tokens g verdicts.Infeasible a b ha hb = ha ∙ sym hb
one_tokens g verdicts.Large a b ha hb = ha ∙ sym hb

one_rule_verdict : (v : Weighed) (rule : ℕ) (a b : RuleVerdict) → IsRuleVerdict v rule a → IsRuleVerdict v rule b → a ≡ b
one_rule_verdict v rule a b ha hb =
    let same : a.verdict ≡ b.verdict = one_verdict_of v.weights v.grammar (Rule rule) a.verdict b.verdict ha.verdict hb.verdict in
    let moved = subst (λ (x : Verdict). AreTokensOf v.grammar x b.tokens) (sym same) hb.tokens in
    let tokens : a.tokens ≡ b.tokens = one_tokens v.grammar a.verdict a.tokens b.tokens ha.tokens moved in
    ap (λ (x : Verdict). record { verdict = x; tokens = a.tokens }) same ∙ ap (λ (t : List ℕ). record { verdict = b.verdict; tokens = t }) tokens

one_judged : (v : Weighed) (a b : List RuleVerdict) → AreRuleVerdicts v a → AreRuleVerdicts v b → a ≡ b
one_judged v a b ha hb = same_lists a b (ha.all ∙ sym hb.all) (λ k x y at there. one_rule_verdict v (suc k) x y (ha.each k x at) (hb.each k y there))

-- ---- the chosen rule

record IsOneChoice (p q : ℕ) (j k : RuleVerdict) : Type 0 where
  pub place : p ≡ q
  pub verdict : j ≡ k

one_chosen : (g : PlainGrammar) (judged : List RuleVerdict) (wanted : Option ℕ) (p q : ℕ) (j k : RuleVerdict) → IsChosen g judged wanted p j → IsChosen g judged wanted q k → IsOneChoice p q j k
one_chosen g judged wanted p q j k a b = by (cases_lt p q) (cases_lt q p)
  where
    by : (p < q) ⊎ (q ≤ p) → (q < p) ⊎ (p ≤ q) → IsOneChoice p q j k
    by (inl less) other = absurd (a.best q k b.is (b.first p j a.is less))
    by (inr most) (inl less) = absurd (b.best p j a.is (a.first q k b.is less))
    by (inr most) (inr least) =
        let e : p ≡ q = omega (arith, most, least) in
        let at = a.is.0.at in
        let there = b.is.0.at in
        record { place = e; verdict = cc }

-- ---- how the spelling stands

one_place : (tokens : List ℕ) (t p q : ℕ) → IsFirstPlace tokens t p → IsFirstPlace tokens t q → p ≡ q
one_place tokens t p q a b = by (cases_lt p q) (cases_lt q p)
  where
    by : (p < q) ⊎ (q ≤ p) → (q < p) ⊎ (p ≤ q) → p ≡ q
    by (inl less) other = absurd (b.first p less (a.at (omega (arith, less, b.within))))
    by (inr most) (inl less) = absurd (a.first q less (b.at (omega (arith, less, a.within))))
    by (inr most) (inr least) = omega (arith, most, least)

one_way : (wanted : Option ℕ) (tokens : List ℕ) (w u : Way) → IsWayOf wanted tokens w → IsWayOf wanted tokens u → w ≡ u
one_way None tokens w u a b = a ∙ sym b
one_way (Some t) tokens w u a b = a.1 ∙ ap (λ (p : ℕ). Gives t p) (one_place tokens t a.0 b.0 a.2 b.2) ∙ sym b.1

-- ---- texts

module _ (lexemes : List (Option (List ℕ))) where
  abbrev Has : ℕ → List ℕ → Type 0
  Has token lexeme = lexeme_in lexemes token ≡ Some lexeme

  one_texts : (tokens : List ℕ) (xs ys : List (List ℕ)) → AllZip Has tokens xs → AllZip Has tokens ys → xs ≡ ys
  one_texts [] [] [] p q = refl
  one_texts [] [] (y ∷ ys) p q = absurd q
  one_texts [] (x ∷ xs) ys p q = absurd p
  one_texts (t ∷ tokens) [] ys p q = absurd p
  one_texts (t ∷ tokens) (x ∷ xs) [] p q = absurd q
  one_texts (t ∷ tokens) (x ∷ xs) (y ∷ ys) p q =
      let one = p.0 in
      let other = q.0 in
      let first : x ≡ y = cc in
      let rest : xs ≡ ys = one_texts tokens xs ys p.1 q.1 in
      cc

  one_text : (separator : List ℕ) (way : Way) (spelling tokens x y : List ℕ) → IsSpelledText lexemes separator way spelling tokens x → IsSpelledText lexemes separator way spelling tokens y → x ≡ y
  one_text separator way spelling tokens x y p q =
      p.is ∙ ap (λ (t : List (List ℕ)). spelled way separator spelling t) (one_texts tokens p.texts q.texts p.each q.each) ∙ sym q.is

  text_or_first : (separator : List ℕ) (way : Way) (spelling tokens x : List ℕ) (token : ℕ) → IsSpelledText lexemes separator way spelling tokens x → IsFirstWithout lexemes tokens token → ⊥
  text_or_first separator way spelling tokens x token p q =
      let rule : IsRuleText lexemes separator tokens (joined separator p.texts) = record { texts = p.texts; each = p.each; is = refl } in
      text_or_none lexemes separator tokens (joined separator p.texts) token rule q

one_common : (s : Scanning) (text tokens : List ℕ) (n m : ℕ) → IsInCommon s text tokens n → IsInCommon s text tokens m → n ≡ m
one_common s text tokens n m p q = by (cases_lt n m) (cases_lt m n)
  where
    scan : HasScan s text
    scan = runs_some s text

    by : (n < m) ⊎ (m ≤ n) → (m < n) ⊎ (n ≤ m) → n ≡ m
    by (inl less) other = absurd (scan (λ given whole runs. omega (arith, less, p given whole runs, q given whole runs)))
    by (inr most) (inl less) = absurd (scan (λ given whole runs. omega (arith, less, p given whole runs, q given whole runs)))
    by (inr most) (inr least) = omega (arith, most, least)

module _ (s : Scanning) (lexemes : List (Option (List ℕ))) (separator : List ℕ) (way : Way) (rule : ℕ) (spelling tokens : List ℕ) where
  abbrev Is : Rendering → Type 0
  Is r = IsRenderedWith s lexemes separator way rule spelling tokens r

  apart : (text : List ℕ) (n : ℕ) → Is (Text text) → Is (Differs n) → ⊥
  apart text n p q = q.2 (subst (λ t. ShowsSpelling s rule spelling tokens t) (one_text lexemes separator way spelling tokens text q.0 p.0 q.1) p.1)

  one_rendered : (x y : Rendering) → Is x → Is y → x ≡ y
  one_rendered (Text x) (Text y) p q = ap Text (one_text lexemes separator way spelling tokens x y p.0 q.0)
  one_rendered (Text x) (NoLexeme token) p q = absurd (text_or_first lexemes separator way spelling tokens x token p.0 q)
  one_rendered (Text x) (Differs n) p q = absurd (apart x n p q)
  one_rendered (NoLexeme token) (Text x) p q = absurd (text_or_first lexemes separator way spelling tokens x token q.0 p)
  one_rendered (NoLexeme x) (NoLexeme y) p q = rendering_one s (runs_some s) lexemes separator tokens (NoLexeme x) (NoLexeme y) p q
  one_rendered (NoLexeme token) (Differs n) p q = absurd (text_or_first lexemes separator way spelling tokens q.0 token q.1 p)
  one_rendered (Differs n) (Text x) p q = absurd (apart x n q p)
  one_rendered (Differs n) (NoLexeme token) p q = absurd (text_or_first lexemes separator way spelling tokens p.0 token p.1 q)
  one_rendered (Differs n) (Differs m) p q =
      let same : q.0 ≡ p.0 = one_text lexemes separator way spelling tokens q.0 p.0 q.1 p.1 in
      ap Differs (one_common s p.0 tokens n m p.3 (subst (λ t. IsInCommon s t tokens m) same q.3))

-- ---- what is told

module _ (m : Making) where
  one_showing : (wanted : Option ℕ) (rule : ℕ) (spelling : List ℕ) (a b : Showing) → IsShowing m wanted rule spelling a → IsShowing m wanted rule spelling b → a ≡ b
  one_showing wanted rule spelling a b ha hb =
      let one = one_chosen m.file.grammar m.judged wanted ha.place hb.place (record { verdict = verdicts.Feasible a.size a.derivation; tokens = a.tokens }) (record { verdict = verdicts.Feasible b.size b.derivation; tokens = b.tokens }) ha.chosen hb.chosen in
      let numbers : a.rule ≡ b.rule = ha.number ∙ ap suc one.place ∙ sym hb.number in
      let feasible : verdicts.Feasible a.size a.derivation ≡ verdicts.Feasible b.size b.derivation = ap (λ (j : RuleVerdict). j.verdict) one.verdict in
      let sizes : a.size ≡ b.size = cc in
      let derivations : a.derivation ≡ b.derivation = cc in
      let tokens : a.tokens ≡ b.tokens = ap (λ (j : RuleVerdict). j.tokens) one.verdict in
      let ways : a.way ≡ b.way = one_way wanted a.tokens a.way b.way ha.way (subst (λ (t : List ℕ). IsWayOf wanted t b.way) (sym tokens) hb.way) in
      let text = subst (λ (t : List ℕ). IsRenderedWith m.scanning m.lexemes m.separator b.way rule spelling t b.rendering) (sym tokens) hb.text in
      let moved = subst (λ (w : Way). IsRenderedWith m.scanning m.lexemes m.separator w rule spelling a.tokens b.rendering) (sym ways) text in
      let renderings : a.rendering ≡ b.rendering = one_rendered m.scanning m.lexemes m.separator a.way rule spelling a.tokens a.rendering b.rendering ha.text moved in
      ap (λ (w : Way). record { way = w; rule = a.rule; size = a.size; derivation = a.derivation; tokens = a.tokens; rendering = a.rendering }) ways
      ∙ ap (λ (r : ℕ). record { way = b.way; rule = r; size = a.size; derivation = a.derivation; tokens = a.tokens; rendering = a.rendering }) numbers
      ∙ ap (λ (n : ℕ). record { way = b.way; rule = b.rule; size = n; derivation = a.derivation; tokens = a.tokens; rendering = a.rendering }) sizes
      ∙ ap (λ (d : List ℕ). record { way = b.way; rule = b.rule; size = b.size; derivation = d; tokens = a.tokens; rendering = a.rendering }) derivations
      ∙ ap (λ (t : List ℕ). record { way = b.way; rule = b.rule; size = b.size; derivation = b.derivation; tokens = t; rendering = a.rendering }) tokens
      ∙ ap (λ (x : Rendering). record { way = b.way; rule = b.rule; size = b.size; derivation = b.derivation; tokens = b.tokens; rendering = x }) renderings

  one_told_of : (wanted : Option ℕ) (rule : ℕ) (spelling : List ℕ) (a b : Told) → IsToldOf m wanted rule spelling a → IsToldOf m wanted rule spelling b → a ≡ b
  one_told_of wanted rule spelling Shadowed b ha hb = absurd ha
  one_told_of wanted rule spelling Foreign b ha hb = absurd ha
  one_told_of wanted rule spelling Literal b ha hb = absurd ha
  one_told_of wanted rule spelling Infeasible Shadowed ha hb = absurd hb
  one_told_of wanted rule spelling Infeasible Foreign ha hb = absurd hb
  one_told_of wanted rule spelling Infeasible Literal ha hb = absurd hb
  one_told_of wanted rule spelling Infeasible Infeasible ha hb = refl
  one_told_of wanted rule spelling Infeasible Large ha hb = absurd (ha.1 hb.1)
  one_told_of wanted rule spelling Infeasible (Shown y) ha hb = absurd (ha.0 hb.place (record { verdict = verdicts.Feasible y.size y.derivation; tokens = y.tokens }) hb.chosen.is)
  one_told_of wanted rule spelling Large Shadowed ha hb = absurd hb
  one_told_of wanted rule spelling Large Foreign ha hb = absurd hb
  one_told_of wanted rule spelling Large Literal ha hb = absurd hb
  one_told_of wanted rule spelling Large Infeasible ha hb = absurd (hb.1 ha.1)
  one_told_of wanted rule spelling Large Large ha hb = refl
  one_told_of wanted rule spelling Large (Shown y) ha hb = absurd (ha.0 hb.place (record { verdict = verdicts.Feasible y.size y.derivation; tokens = y.tokens }) hb.chosen.is)
  one_told_of wanted rule spelling (Shown x) Shadowed ha hb = absurd hb
  one_told_of wanted rule spelling (Shown x) Foreign ha hb = absurd hb
  one_told_of wanted rule spelling (Shown x) Literal ha hb = absurd hb
  one_told_of wanted rule spelling (Shown x) Infeasible ha hb = absurd (hb.0 ha.place (record { verdict = verdicts.Feasible x.size x.derivation; tokens = x.tokens }) ha.chosen.is)
  one_told_of wanted rule spelling (Shown x) Large ha hb = absurd (hb.0 ha.place (record { verdict = verdicts.Feasible x.size x.derivation; tokens = x.tokens }) ha.chosen.is)
  one_told_of wanted rule spelling (Shown x) (Shown y) ha hb = ap Shown (one_showing wanted rule spelling x y ha hb)

  one_told_by : (kind : Kind) (rule : ℕ) (spelling : List ℕ) (a b : Told) → IsToldBy m kind rule spelling a → IsToldBy m kind rule spelling b → a ≡ b
  one_told_by kinds.Foreign rule spelling a b ha hb = ha ∙ sym hb
  one_told_by kinds.OwnByte rule spelling a b ha hb = ha ∙ sym hb
  one_told_by (kinds.Token token) rule spelling a b ha hb = one_told_of (Some token) rule spelling a b ha hb
  one_told_by kinds.Skip rule spelling a b ha hb = one_told_of None rule spelling a b ha hb

  one_told_if : (kind : Kind) (rule : ℕ) (spelling : Option (List ℕ)) (a b : Told) → IsToldIf m kind rule spelling a → IsToldIf m kind rule spelling b → a ≡ b
  one_told_if kind rule None a b ha hb = ha ∙ sym hb
  one_told_if kind rule (Some spelling) a b ha hb = one_told_by kind rule spelling a b ha hb

module _ (m : Making) where
  one_told : (rule : ℕ) (kind : Kind) (a b : Told) → IsTold m rule kind a → IsTold m rule kind b → a ≡ b
  one_told rule kind a b ha hb =
      let same = one_entry (Wins m.scanning.patterns rule) ha.spelling hb.spelling ha.least hb.least in
      one_told_if m kind rule ha.spelling a b ha.is (subst (λ (x : Option (List ℕ)). IsToldIf m kind rule x b) (sym same) hb.is)

  one_all : (a b : List Told) → AreTold m a → AreTold m b → a ≡ b
  one_all a b ha hb = same_lists a b (ha.all ∙ sym hb.all) (λ k x y at there. by k x y at there (kind_at m.scanning.kinds k (omega (arith, within k x at, ha.all))))
    where
      within : (k : ℕ) (x : Told) → slice_get a k ≡ Some x → k < length a
      within k x at = slice_get_within a k x at

      kind_at : (list : List Kind) (k : ℕ) → k < length list → (kind : Kind) × (slice_get list k ≡ Some kind)
      kind_at [] k less = absurd (omega (arith, less))
      kind_at (x ∷ list) zero less = (x, refl)
      kind_at (x ∷ list) (suc k) less = kind_at list k (omega (arith, less))

      by : (k : ℕ) (x y : Told) → slice_get a k ≡ Some x → slice_get b k ≡ Some y → (kind : Kind) × (slice_get m.scanning.kinds k ≡ Some kind) → x ≡ y
      by k x y at there kind = one_told (suc k) kind.0 x y (ha.each k kind.0 x kind.1 at) (hb.each k kind.0 y kind.1 there)

pub one_spelling_by : (file : File) (texts : Texts) (weigh : Weigh) → IsOne (IsSpelling file texts weigh)
one_spelling_by file texts weigh a b ha hb =
    let lexemes = one_list texts.scanning file.grammar.tokens ha.lexemes hb.lexemes ha.are_lexemes hb.are_lexemes in
    let here = subst (λ (l : List (Option (List ℕ))). AreRuleVerdicts (weighed_by weigh file l) hb.judged) (sym lexemes) hb.are_judged in
    let judged = one_judged (weighed_by weigh file ha.lexemes) ha.judged hb.judged ha.are_judged here in
    let first = subst (λ (l : List (Option (List ℕ))). AreTold (making_with file texts l hb.judged) hb.told) (sym lexemes) hb.are_told in
    let second = subst (λ (j : List RuleVerdict). AreTold (making_with file texts ha.lexemes j) hb.told) (sym judged) first in
    let told = one_all (making_with file texts ha.lexemes ha.judged) ha.told hb.told ha.are_told second in
    ha.lines ∙ ap (spell_text file) told ∙ sym hb.lines
