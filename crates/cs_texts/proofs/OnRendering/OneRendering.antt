-- A list of tokens has at most one rendering.
use Rattle.std.proofs.Common.{◌≡◌, ℕ, ◌<◌, ◌≤◌, List, [], ◌∷◌, ◌++◌, Option, Some, None, refl, sym, ◌∙◌, ap, subst, arith, ⊎_elim}
use Rattle.std.specs.Prelude.{All}
use Rattle.std.specs.List.{AllZip}
use Rattle.std.proofs.lemmas.Bool.{cases_lt}
use Rattle.std.proofs.lemmas.List.Elements.{All-head, All-tail}
use Rattle.cs_scanner.specs.Scan.Scan.{Scanning, HasScan, Scans}
use Rattle.cs_scanner.specs.Scan.Compared.{IsInCommon}
use Rattle.cs_scanner.specs.Lexeme.Lexeme.{lexeme_in}
use Rattle.cs_texts.specs.Rendering.Joined.{joined}
use Rattle.cs_texts.specs.Rendering.Rendering.{Rendering, Text, NoLexeme, Differs, HasLexeme, IsFirstWithout, IsRendered, IsRuleText}

-- a text and a list of tokens have one count in common
common_one : (s : Scanning) (text tokens : List ℕ) (n m : ℕ) → HasScan s text → IsInCommon s text tokens n → IsInCommon s text tokens m → n ≡ m
common_one s text tokens n m scan p q = ⊎_elim
    (λ (less : n < m). absurd (scan (λ given whole runs. omega (arith, less, p given whole runs, q given whole runs))))
    (λ (most : m ≤ n). ⊎_elim
    (λ (less : m < n). absurd (scan (λ given whole runs. omega (arith, less, p given whole runs, q given whole runs))))
    (λ (least : n ≤ m). omega (arith, most, least))
    (cases_lt m n))
    (cases_lt n m)

module _ (lexemes : List (Option (List ℕ))) where
  abbrev Has : ℕ → List ℕ → Type 0
  Has token lexeme = lexeme_in lexemes token ≡ Some lexeme

  texts_one : (tokens : List ℕ) (xs ys : List (List ℕ)) → AllZip Has tokens xs → AllZip Has tokens ys → xs ≡ ys
  texts_one [] [] [] p q = refl
  texts_one [] [] (y ∷ ys) p q = absurd q
  texts_one [] (x ∷ xs) ys p q = absurd p
  texts_one (t ∷ tokens) [] ys p q = absurd p
  texts_one (t ∷ tokens) (x ∷ xs) [] p q = absurd q
  texts_one (t ∷ tokens) (x ∷ xs) (y ∷ ys) p q =
      let one = p.0 in
      let other = q.0 in
      let first : x ≡ y = cc in
      let rest : xs ≡ ys = texts_one tokens xs ys p.1 q.1 in
      cc

  pub text_one : (separator tokens x y : List ℕ) → IsRuleText lexemes separator tokens x → IsRuleText lexemes separator tokens y → x ≡ y
  text_one separator tokens x y p q = p.is ∙ ap (λ t. joined separator t) (texts_one tokens p.texts q.texts p.each q.each) ∙ sym q.is

  -- where each token has a lexeme, none is the first without
  all_have : (front behind : List ℕ) (token : ℕ) (texts : List (List ℕ)) → AllZip Has (front ++ token ∷ behind) texts → lexeme_in lexemes token ≡ None → ⊥
  all_have [] behind token [] all none = absurd all
  all_have [] behind token (x ∷ texts) all none = let has = all.0 in cc
  all_have (f ∷ front) behind token [] all none = absurd all
  all_have (f ∷ front) behind token (x ∷ texts) all none = all_have front behind token texts all.1 none

  pub text_or_none : (separator tokens text : List ℕ) (token : ℕ) → IsRuleText lexemes separator tokens text → IsFirstWithout lexemes tokens token → ⊥
  text_or_none separator tokens text token p q = all_have q.front q.behind token p.texts (subst (λ t. AllZip Has t p.texts) q.list p.each) q.none

  first_same : (front others behind more : List ℕ) (x y : ℕ) → front ++ x ∷ behind ≡ others ++ y ∷ more → All (HasLexeme lexemes) front → All (HasLexeme lexemes) others → lexeme_in lexemes x ≡ None → lexeme_in lexemes y ≡ None → x ≡ y
  first_same [] [] behind more x y e has also none lacks = cc
  first_same [] (o ∷ others) behind more x y e has also none lacks =
      let same : x ≡ o = cc in
      let its = All-head (HasLexeme lexemes) o others also in
      let found : lexeme_in lexemes x ≡ Some its.0 = subst (λ k. lexeme_in lexemes k ≡ Some its.0) (sym same) its.1 in
      absurd (cc)
  first_same (f ∷ front) [] behind more x y e has also none lacks =
      let same : f ≡ y = cc in
      let its = All-head (HasLexeme lexemes) f front has in
      let found : lexeme_in lexemes y ≡ Some its.0 = subst (λ k. lexeme_in lexemes k ≡ Some its.0) same its.1 in
      absurd (cc)
  first_same (f ∷ front) (o ∷ others) behind more x y e has also none lacks =
      let rest : front ++ x ∷ behind ≡ others ++ y ∷ more = cc in
      first_same front others behind more x y rest (All-tail (HasLexeme lexemes) f front has) (All-tail (HasLexeme lexemes) o others also) none lacks

  first_one : (tokens : List ℕ) (x y : ℕ) → IsFirstWithout lexemes tokens x → IsFirstWithout lexemes tokens y → x ≡ y
  first_one tokens x y p q = first_same p.front q.front p.behind q.behind x y (sym p.list ∙ q.list) p.front_has q.front_has p.none q.none

module _ (s : Scanning) (some_scan : (text : List ℕ) → HasScan s text) (lexemes : List (Option (List ℕ))) (separator tokens : List ℕ) where
  -- a text and a difference have one text, which scans to the tokens or doesn't
  apart : (text : List ℕ) (n : ℕ) → IsRendered s lexemes separator tokens (Text text) → IsRendered s lexemes separator tokens (Differs n) → ⊥
  apart text n p q = q.2 (subst (λ t. Scans s t tokens) (text_one lexemes separator tokens text q.0 p.0 q.1) p.1)

  pub rendering_one : (x y : Rendering) → IsRendered s lexemes separator tokens x → IsRendered s lexemes separator tokens y → x ≡ y
  rendering_one (Text x) (Text y) p q = ap Text (text_one lexemes separator tokens x y p.0 q.0)
  rendering_one (Text x) (NoLexeme token) p q = absurd (text_or_none lexemes separator tokens x token p.0 q)
  rendering_one (Text x) (Differs n) p q = absurd (apart x n p q)
  rendering_one (NoLexeme token) (Text x) p q = absurd (text_or_none lexemes separator tokens x token q.0 p)
  rendering_one (NoLexeme x) (NoLexeme y) p q = ap NoLexeme (first_one lexemes tokens x y p q)
  rendering_one (NoLexeme token) (Differs n) p q = absurd (text_or_none lexemes separator tokens q.0 token q.1 p)
  rendering_one (Differs n) (Text x) p q = absurd (apart x n q p)
  rendering_one (Differs n) (NoLexeme token) p q = absurd (text_or_none lexemes separator tokens p.0 token p.1 q)
  rendering_one (Differs n) (Differs m) p q =
      let same : q.0 ≡ p.0 = text_one lexemes separator tokens q.0 p.0 q.1 p.1 in
      ap Differs (common_one s p.0 tokens n m (some_scan p.0) p.3 (subst (λ t. IsInCommon s t tokens m) same q.3))
