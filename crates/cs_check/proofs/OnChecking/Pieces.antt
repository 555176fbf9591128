-- A line of a manifest by its bytes: what it says can be counted, and its judgement is that of the bytes.
use Rattle.std.proofs.Common.{◌≡◌, ℕ, ◌<◌, ◌≤◌, List, [], ◌∷◌, ◌++◌, Option, Some, None, length, map, refl, sym, ap, ◌∙◌, subst, inl, inr, arith}
use Rattle.std.specs.Prelude.{codes, IfOk, Result}
use Rattle.std.specs.List.{flat_map}
use Rattle.std.proofs.lemmas.List.{length-append, length-map}
use Rattle.std.proofs.lemmas.Result.{IfOk-weaker}
use Rattle.cs_lines.specs.declared.lines.line.Line as held
use Rattle.cs_lines.specs.declared.lines.line.Line.TheVariants as lines
use Rattle.cs_lines.specs.Lines.Line.{Line, DeriveLine, TextLine}
use Rattle.cs_lines.specs.Words.Words.{text_byte, numeral, quoted}
use Rattle.cs_lines.specs.Lines.Texts.{joined, words, Says}
use Rattle.cs_lines.specs.Lines.Spelled.{Spells}
use Rattle.cs_lines.specs.Lines.Read.{Tells, IsReadAs, SaysNone}
use Rattle.cs_lines.proofs.OnLines.Forms.{says_text}
use Rattle.cs_lines.proofs.OnTexts.Quotes.{some_bytes}
use Rattle.cs_check.specs.declared.passing.fault.ClaimFault.{ClaimFault}
use Rattle.cs_check.specs.declared.passing.fault.ClaimFault.TheVariants.{Form}
use Rattle.cs_check.specs.declared.checking.above.Above.{Above}
use Rattle.cs_check.specs.Passing.Faults.{Checked}
use Rattle.cs_check.specs.Checking.Running.{IsShort, IsLineJudged, IsPieceJudged, IsUnended, IsEnded}

-- ---- how long it is

-- there is a space between any two words
joined_long : (w : List ℕ) (ws : List (List ℕ)) → length ws ≤ length (joined (w ∷ ws))
joined_long w [] = omega arith
joined_long w (v ∷ ws) =
    let long = length-append w (32 ∷ joined (v ∷ ws)) in
    let more = joined_long v ws in
    omega arith

some_byte : (spelled : List ℕ) (b : ℕ) → ([] ≡ text_byte b ++ [] → ⊥) → spelled ≡ text_byte b → 0 < length spelled
some_byte [] b some is = absurd (some (is ∙ nothing (text_byte b)))
  where
    nothing : (l : List ℕ) → l ≡ l ++ []
    nothing [] = refl
    nothing (x ∷ l) = ap (λ (m : List ℕ). x ∷ m) (nothing l)
some_byte (x ∷ spelled) b some is = omega arith

spelled_long : (text : List ℕ) → length text ≤ length (flat_map text_byte text)
spelled_long [] = omega arith
spelled_long (b ∷ text) =
    let here = some_byte (text_byte b) b (some_bytes b []) refl in
    let later = spelled_long text in
    let long = length-append (text_byte b) (flat_map text_byte text) in
    omega arith

derivation_long : (text : List ℕ) (rules : List ℕ) → text ≡ joined (words (DeriveLine rules)) → length rules ≤ length text
derivation_long text rules is =
    let words_long = joined_long [] ([] ∷ codes "derive" ∷ map numeral rules) in
    let many = length-map rules numeral in
    let same = ap (λ (l : List ℕ). length l) is in
    omega arith

text_long : (text said : List ℕ) → text ≡ joined (words (TextLine said)) → length (flat_map text_byte said) ≤ length text
text_long text said is =
    let same = ap (λ (l : List ℕ). length l) is in
    let long = length-append (flat_map text_byte said) (34 ∷ []) in
    omega arith

spelled_short : (spelled a b : List ℕ) → Spells spelled a → Spells spelled b → (most : ℕ) → length (flat_map text_byte a) < most → length b < most
spelled_short spelled a b h k most low =
    let same = ap (λ (l : List ℕ). length l) (sym k.is ∙ h.is) in
    let long = spelled_long b in
    omega arith

short_line : (told : held.Line) (l : Line) (text : List ℕ) → text ≡ joined (words l) → Tells told l → length text < 4294967296 → IsShort told
short_line (lines.Derive numbers) (DeriveLine rules) text is tells low =
    let long = derivation_long text rules is in
    let same = ap (λ (l : List ℕ). length l) tells in
    omega arith
short_line (lines.Derive numbers) l text is tells low = absurd tells
short_line (lines.Text quoted) (TextLine said) text is tells low =
    λ other spells. spelled_short quoted.spelled.now said other tells spells 4294967296 (let long = text_long text said is in omega arith)
short_line (lines.Text quoted) l text is tells low = absurd tells
short_line told l text is tells low = tt

pub short_told : (text : List ℕ) (told : held.Line) → IsReadAs text told → length text < 4294967296 → IsShort told
short_told text told h low = short_line told h.0 text (says_text text h.0 h.1) h.2 low

pub text_low : (bytes text : List ℕ) → IsEnded bytes text → length bytes < 4294967296 → length text < 4294967296
text_low bytes text is low =
    let same = ap (λ (l : List ℕ). length l) is in
    let long = length-append text (10 ∷ []) in
    omega arith

-- ---- its judgement

module _ (c : Checked) (above : List Line) (bytes : List ℕ) (new : Above) where
  pub piece_judged : (l : Line) → Says bytes l → (o : Option ClaimFault) → IsLineJudged c above l new o → IsPieceJudged c above bytes new o
  piece_judged l says None j = (l, says, j.0, j.1)
  piece_judged l says (Some f) j = inl (l, says, j)

  pub unended_judged : IsUnended bytes → IsPieceJudged c above bytes new (Some Form)
  unended_judged never = inr (refl, λ l says. never (joined (words l)) says.text)

  pub unsaid_judged : (text : List ℕ) → IsEnded bytes text → SaysNone text → IsPieceJudged c above bytes new (Some Form)
  unsaid_judged text is none = inr (refl, λ l says. none l (subst (λ (b : List ℕ). Says b l) is says))

  pub read_judged : {E : Type 0} (text : List ℕ) → IsEnded bytes text → (told : held.Line) → IsReadAs text told → (result : Result (Option ClaimFault) E) → ((l : Line) → Tells told l → IfOk result (IsLineJudged c above l new)) → IfOk result (IsPieceJudged c above bytes new)
  read_judged text is told read result judged =
      IfOk-weaker result (IsLineJudged c above read.0 new) (IsPieceJudged c above bytes new)
      (piece_judged read.0 (subst (λ (b : List ℕ). Says b read.0) (sym is) read.1))
      (judged read.0 read.2)
