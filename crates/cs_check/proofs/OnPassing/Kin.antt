-- Parts that are the same, or behind which negatives may come.
use Rattle.std.proofs.Common.{◌≡◌, refl, sym, ap, ◌∙◌, ⊎_elim, ◌⊎◌}
use Rattle.std.specs.List.{Contains}
use Rattle.std.proofs.lemmas.Bool.{false≢true}
use Rattle.cs_lines.specs.Lines.Line.{Line, TokensLine, TextLine, NoLexemeLine, NoScanLine}
use Rattle.cs_check.specs.Passing.Places.{Part, OfCaseTokens, OfCaseText, OfBase, OfNegative, OfNegativeTokens, OfNegativeText, OfEnd, tokens_part, text_part, part_of, next_parts}
use Rattle.cs_check.proofs.OnChecking.Told.{among_true}

-- a negative may come behind it
abbrev pub IsOpen : Part → Type 0
IsOpen OfBase = Unit {0}
IsOpen OfNegativeText = Unit {0}
IsOpen p = ⊥

-- the tokens are of a negative behind it
abbrev pub IsWithin : Part → Type 0
IsWithin OfNegative = Unit {0}
IsWithin OfNegativeTokens = Unit {0}
IsWithin p = ⊥

-- the part is the same, or negatives may come behind both
abbrev pub AreKin : Part → Part → Type 0
AreKin p q = (q ≡ p) ⊎ (IsOpen p × IsOpen q)

open_next : (p q : Part) → IsOpen p → IsOpen q → next_parts q ≡ next_parts p
open_next OfBase OfBase h k = refl
open_next OfBase OfNegativeText h k = refl
open_next OfNegativeText OfBase h k = refl
open_next OfNegativeText OfNegativeText h k = refl
open_next OfBase q h k = absurd k
open_next OfNegativeText q h k = absurd k
open_next p q h k = absurd h

open_tokens : (p : Part) → IsOpen p → tokens_part p ≡ OfCaseTokens
open_tokens OfBase h = refl
open_tokens OfNegativeText h = refl
open_tokens p h = absurd h

open_text : (p : Part) → IsOpen p → text_part p ≡ OfCaseText
open_text OfBase h = refl
open_text OfNegativeText h = refl
open_text p h = absurd h

open_part : (p q : Part) → IsOpen p → IsOpen q → (l : Line) → part_of q l ≡ part_of p l
open_part p q h k (TokensLine names) = open_tokens q k ∙ sym (open_tokens p h)
open_part p q h k (TextLine text) = open_text q k ∙ sym (open_text p h)
open_part p q h k (NoLexemeLine name) = open_text q k ∙ sym (open_text p h)
open_part p q h k (NoScanLine after) = open_text q k ∙ sym (open_text p h)
open_part p q h k l = refl

pub kin_next : (p q : Part) → AreKin p q → next_parts q ≡ next_parts p
kin_next p q h = ⊎_elim (λ (e : q ≡ p). ap next_parts e) (λ (o : IsOpen p × IsOpen q). open_next p q o.0 o.1) h

pub kin_part : (p q : Part) → AreKin p q → (l : Line) → part_of q l ≡ part_of p l
kin_part p q h l = ⊎_elim (λ (e : q ≡ p). ap (λ (x : Part). part_of x l) e) (λ (o : IsOpen p × IsOpen q). open_part p q o.0 o.1 l) h

-- behind what a negative may come
pub opens : (p : Part) → Contains (next_parts p) OfNegative → IsOpen p
opens OfBase h = tt
opens OfNegativeText h = tt
opens p h = absurd (false≢true (among_true (next_parts p) OfNegative h))

pub kin_end : (q : Part) → AreKin OfEnd q → q ≡ OfEnd
kin_end q h = ⊎_elim (λ (e : q ≡ OfEnd). e) (λ (o : IsOpen OfEnd × IsOpen q). absurd o.0) h
