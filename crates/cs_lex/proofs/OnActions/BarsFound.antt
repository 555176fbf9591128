-- Whether an action is `|`.
use Rattle.std.proofs.Common.{◌≡◌, ℕ, ◌+◌, ◌≤◌, false, eqb, List, length, drop, refl, sym, ap, subst, ◌∙◌, arith, eq-eqb}
use Rattle.std.proofs.lemmas.Bool.{false≢true}
use Rattle.std.proofs.lemmas.List.{length-drop}
use Rattle.cs_lex.specs.Actions.Gaps.{IsGap, IsSign}
use Rattle.cs_lex.specs.Actions.Kinds.{IsBar}
use Rattle.cs_lex.proofs.OnActions.GapEnds.{gap_same, sign_same}
use Rattle.cs_bytes.specs.Classes.{is_blank}

pub no_bar_sign : (text : List ℕ) → ((n : ℕ) → ¬ IsSign is_blank 124 text n) → ¬ IsBar text
no_bar_sign text none b = none b.size b.signed

pub more_than_bar : (text rest : List ℕ) (size gap : ℕ) → IsSign is_blank 124 text size → size ≤ length text → rest ≡ drop size text → IsGap is_blank rest gap → gap ≤ length rest → eqb gap (length rest) ≡ false → ¬ IsBar text
more_than_bar text rest size gap s le e g few no_end b =
    let p : b.size ≡ size = sign_same is_blank refl 124 text b.size size b.signed s in
    let q : b.rest ≡ gap = gap_same is_blank refl rest b.rest gap (subst (λ (t : List ℕ). IsGap is_blank t b.rest) (ap (λ (k : ℕ). drop k text) p ∙ sym e) b.is_gap) g in
    let left : length (drop (b.size + b.rest) text) ≡ 0 = ap length b.ends in
    let same : gap ≡ length rest = omega (arith, p, q, left, length-drop (b.size + b.rest) text, ap length e, length-drop size text, few, le) in
    false≢true (sym no_end ∙ eq-eqb gap (length rest) same)
