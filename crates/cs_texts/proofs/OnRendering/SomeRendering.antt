-- A list of tokens isn't without a rendering.
use Rattle.std.proofs.Common.{◌≡◌, ◌⊎◌, ℕ, List, [], ◌∷◌, Option, Some, None, inl, inr, refl, ap, ⊎_elim}
use Rattle.std.specs.List.{AllZip}
use Rattle.std.proofs.lemmas.List.Elements.{All-cons, All-nil}
use Rattle.cs_scanner.specs.Scan.Scan.{Scanning, AreOneScan, HasScan, in_common}
use Rattle.cs_scanner.specs.Lexeme.Lexeme.{lexeme_in}
use Rattle.cs_texts.specs.Rendering.Joined.{joined}
use Rattle.cs_texts.specs.Rendering.Rendering.{Rendering, Text, NoLexeme, Differs, HasLexeme, IsFirstWithout, IsRendered, IsRuleText}

module _ (lexemes : List (Option (List ℕ))) where
  abbrev Has : ℕ → List ℕ → Type 0
  Has token lexeme = lexeme_in lexemes token ≡ Some lexeme

  abbrev HaveTexts : List ℕ → Type 0
  HaveTexts tokens = (texts : List (List ℕ)) × AllZip Has tokens texts

  abbrev HasFirst : List ℕ → Type 0
  HasFirst tokens = (token : ℕ) × IsFirstWithout lexemes tokens token

  entry : (found : Option (List ℕ)) → (found ≡ None) ⊎ ((text : List ℕ) × (found ≡ Some text))
  entry None = inl refl
  entry (Some text) = inr (text, refl)

  behind_one : (t : ℕ) (tokens text : List ℕ) → Has t text → HaveTexts tokens ⊎ HasFirst tokens → HaveTexts (t ∷ tokens) ⊎ HasFirst (t ∷ tokens)
  behind_one t tokens text has (inl all) = inl (text ∷ all.0, (has, all.1))
  behind_one t tokens text has (inr first) =
      let it = first.1 in
      inr (
        first.0,
        record {
          front = t ∷ it.front;
          behind = it.behind;
          list = ap (λ r. t ∷ r) it.list;
          front_has = All-cons (HasLexeme lexemes) t it.front (text, has) it.front_has;
          none = it.none;
        },
      )

  -- all tokens have lexemes, or there is a first one that has none
  pub all_or_first : (tokens : List ℕ) → HaveTexts tokens ⊎ HasFirst tokens
  all_or_first [] = inl ([], tt)
  all_or_first (t ∷ tokens) = ⊎_elim
      (λ (none : lexeme_in lexemes t ≡ None). inr (t, record { front = []; behind = tokens; list = refl; front_has = All-nil (HasLexeme lexemes); none = none }))
      (λ (some : (text : List ℕ) × Has t text). behind_one t tokens some.0 some.1 (all_or_first tokens))
      (entry (lexeme_in lexemes t))

module _ (s : Scanning) (one_scan : (text : List ℕ) → AreOneScan s text) (some_scan : (text : List ℕ) → HasScan s text) (lexemes : List (Option (List ℕ))) (separator tokens : List ℕ) where
  abbrev HasNone : Type 0
  HasNone = (x : Rendering) → IsRendered s lexemes separator tokens x → ⊥

  -- the rule's text scans to the tokens, or else has a count in common with them
  by_text : (text : List ℕ) → IsRuleText lexemes separator tokens text → HasNone → ⊥
  by_text text rule none = some_scan text (λ given whole runs.
      none (Differs (in_common tokens given)) (
        text,
        rule,
        (λ scans. none (Text text) (rule, scans)),
        (λ other covers also. ap (λ g. in_common tokens g) (one_scan text given other whole covers runs also).0),
      ))

  pub rendering_some : HasNone → ⊥
  rendering_some none = ⊎_elim
      (λ (all : HaveTexts lexemes tokens). by_text (joined separator all.0) (record { texts = all.0; each = all.1; is = refl }) none)
      (λ (first : HasFirst lexemes tokens). none (NoLexeme first.0) first.1)
      (all_or_first lexemes tokens)
