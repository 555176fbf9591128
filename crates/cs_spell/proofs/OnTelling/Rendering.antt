-- What came of a text with a spelling.
use Rattle.std.proofs.Common.{◌≡◌, ℕ, List, [], ◌∷◌, Option, refl, sym, ap, ◌∙◌, subst, arith, length}
use Rattle.std.proofs.lemmas.Bool.Decides.{nat_tests}
use Rattle.cs_scanner.specs.Scan.Compared.{IsInCommon, scanning}
use Rattle.cs_scanner.specs.Scan.Scan.{Scanning, Scans, in_common}
use Rattle.cs_scanner.specs.declared.scanning.scanner.Scanner.{Scanner}
use Rattle.cs_scanner.proofs.OnScan.OneMatch.{runs_one}
use Rattle.cs_spell.specs.Telling.Telling.{IsJudgedText}
use Rattle.cs_spell.specs.Texts.Texts.{IsRenderedWith, IsSpelledText, ShowsSpelling}
use Rattle.cs_spell.specs.declared.texts.way.Way.{Way}
use Rattle.cs_texts.specs.Rendering.Rendering.{Rendering, Text, NoLexeme, Differs}

in_common_self : (xs : List ℕ) → in_common xs xs ≡ length xs
in_common_self [] = refl
in_common_self (x ∷ xs) = grind (arith, nat_tests, in_common_self xs)

-- a text that scans to the tokens has all in common with them
pub whole_common : (s : Scanning) (text tokens : List ℕ) → Scans s text tokens → IsInCommon s text tokens (length tokens)
whole_common s text tokens scans given whole runs =
    let one : tokens ≡ given = (runs_one s scans given whole runs).0 in
    sym (in_common_self tokens) ∙ ap (in_common tokens) one

pub rendered_by : (scanner : Scanner) (lexemes : List (Option (List ℕ))) (separator : List ℕ) (way : Way) (rule : ℕ) (spelling tokens text : List ℕ) (r : Rendering) → IsSpelledText lexemes separator way spelling tokens text → IsJudgedText scanner text tokens rule spelling r → IsRenderedWith (scanning scanner) lexemes separator way rule spelling tokens r
rendered_by scanner lexemes separator way rule spelling tokens text (Text shown) spelled h =
    (subst (λ (t : List ℕ). IsSpelledText lexemes separator way spelling tokens t) (sym h.0) spelled, subst (λ (t : List ℕ). ShowsSpelling (scanning scanner) rule spelling tokens t) (sym h.0) h.1)
rendered_by scanner lexemes separator way rule spelling tokens text (NoLexeme token) spelled h = absurd h
rendered_by scanner lexemes separator way rule spelling tokens text (Differs after) spelled h = (text, spelled, h.0, h.1)
