-- By any texts tokens have one list of lexemes and one rendering.
use Rattle.std.proofs.Common.{◌≡◌, ℕ, List, refl, sym, ap, ◌∙◌, Option, None, Some}
use Rattle.cs_scanner.specs.Lexeme.Laws.{AreOneList, HaveSomeList}
use Rattle.cs_manifest.specs.Manifest.Manifest.{AreLexemesBy, HasOneText, IsRenderedBy, Texts}
use Rattle.cs_io.specs.Asked.{IsNotWithout}
use Rattle.cs_texts.specs.Rendering.Rendering.{Rendering}
use Rattle.cs_texts.specs.Rendering.Laws.{HasOneRendering, HasSomeRendering}
use Rattle.cs_scanner.specs.Scan.Scan.{Scanning}

module _ (one_list : (s : Scanning) (tokens : ℕ) (x y : List (Option (List ℕ))) → AreOneList s tokens x y)
    (one_rendering : (s : Scanning) (tokens : List ℕ) → HasOneRendering s tokens) where
  one_rendering_by : (texts : Option Texts) (lexemes : Option (List (Option (List ℕ)))) (tokens : List ℕ) (a b : Option Rendering) → IsRenderedBy texts lexemes tokens a → IsRenderedBy texts lexemes tokens b → a ≡ b
  one_rendering_by None lexemes tokens a b ha hb = ha ∙ sym hb
  one_rendering_by (Some texts) None tokens a b ha hb = ha ∙ sym hb
  one_rendering_by (Some texts) (Some lexemes) tokens None b ha hb = absurd ha
  one_rendering_by (Some texts) (Some lexemes) tokens (Some a) None ha hb = absurd hb
  one_rendering_by (Some texts) (Some lexemes) tokens (Some a) (Some b) ha hb =
      ap Some (one_rendering texts.scanning tokens lexemes texts.separator a b ha hb)

  one_lexemes_by : (texts : Option Texts) (tokens : ℕ) (a b : Option (List (Option (List ℕ)))) → AreLexemesBy texts tokens a → AreLexemesBy texts tokens b → a ≡ b
  one_lexemes_by None tokens a b ha hb = ha ∙ sym hb
  one_lexemes_by (Some texts) tokens None b ha hb = absurd ha
  one_lexemes_by (Some texts) tokens (Some a) None ha hb = absurd hb
  one_lexemes_by (Some texts) tokens (Some a) (Some b) ha hb = ap Some (one_list texts.scanning tokens a b ha hb)

  pub text_is_one : (texts : Option Texts) → HasOneText texts
  text_is_one texts = record { lexemes = one_lexemes_by texts; rendered = one_rendering_by texts }

pub some_lexemes_by : ((s : Scanning) (tokens : ℕ) → HaveSomeList s tokens) → (texts : Option Texts) (tokens : ℕ) → IsNotWithout (AreLexemesBy texts tokens)
some_lexemes_by some None tokens none = none None refl
some_lexemes_by some (Some texts) tokens none = some texts.scanning tokens (λ lexemes are. none (Some lexemes) are)

pub some_rendering_by : ((s : Scanning) (tokens : List ℕ) → HasSomeRendering s tokens) → (texts : Option Texts) (lexemes : Option (List (Option (List ℕ)))) (tokens : List ℕ) → IsNotWithout (IsRenderedBy texts lexemes tokens)
some_rendering_by some None lexemes tokens none = none None refl
some_rendering_by some (Some texts) None tokens none = none None refl
some_rendering_by some (Some texts) (Some lexemes) tokens none = some texts.scanning tokens lexemes texts.separator (λ (r : Rendering) is. none (Some r) is)
