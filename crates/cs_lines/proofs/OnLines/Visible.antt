-- Names behind a space each, told byte by byte.
use Rattle.std.proofs.Common.{◌≡◌, ◌↔◌, ℕ, ◌-◌, ◌<◌, ◌≤◌, Bool, true, false, not, cond, List, [], ◌∷◌, length, get_or, take, drop, refl, sym, ap, ◌∙◌, subst, arith}
use Rattle.std.specs.Prelude.{◌==◌, All, IsTrue}
use Rattle.std.specs.Bool.{MatchBool}
use Rattle.std.proofs.lemmas.Bool.{false≢true}
use Rattle.std.proofs.lemmas.List.{take_all}
use Rattle.std.proofs.lemmas.List.Elements.{All-head, All-tail, All-cons, All-nil}
use Rattle.cs_lines.specs.Words.Words.{IsVisible, IsWord}
use Rattle.cs_lines.specs.Lines.Pieces.{onto}
use Rattle.cs_lines.specs.Lines.Splits.{split}
use Rattle.cs_lines.specs.Lines.Taken.{MayFollow}
use Rattle.cs_lines.proofs.OnLines.Splits.{HasWord, split_some}

-- the first word is of visible bytes, and those behind it are names
abbrev pub GoesOn : List (List ℕ) → Type 0
GoesOn [] = ⊥
GoesOn (w ∷ ws) = All IsVisible w × All IsWord ws

-- the words are names; where no byte of the first is due, it may be empty, as it has bytes in front
abbrev pub AreLeft : Bool → List (List ℕ) → Type 0
AreLeft true ws = All IsWord ws
AreLeft false ws = GoesOn ws

first_some : (ws : List (List ℕ)) → All IsWord ([] ∷ ws) → ⊥
first_some ws h = let some = (All-head IsWord [] ws h).some in absurd (omega (arith, some))

pub none_left : (due : Bool) → IsTrue (not due) ↔ AreLeft due (split [])
none_left true = (λ t. absurd (false≢true t), λ h. absurd (first_some [] h))
none_left false = (λ t. (All-nil IsVisible, All-nil IsWord), λ h. refl)

-- ---- one byte in front

space_more : (due : Bool) (ws : List (List ℕ)) → due ≡ false → AreLeft true ws ↔ AreLeft due ([] ∷ ws)
space_more true ws is = absurd (false≢true (sym is))
space_more false ws is = (λ h. (All-nil IsVisible, h), λ h. h.1)

byte_more : (due : Bool) (b : ℕ) (ws : List (List ℕ)) → HasWord ws → IsVisible b → AreLeft false ws ↔ AreLeft due (onto b ws)
byte_more due b [] some is = absurd (let none : [] ≡ some.word ∷ some.others = some.is in absurd cc)
byte_more true b (w ∷ ws) some is = (
  λ h. All-cons IsWord (b ∷ w) ws (record { some = omega arith; visible = All-cons IsVisible b w is h.0 }) h.1,
  λ h. (All-tail IsVisible b w (All-head IsWord (b ∷ w) ws h).visible, All-tail IsWord (b ∷ w) ws h),
)
byte_more false b (w ∷ ws) some is = (λ h. (All-cons IsVisible b w is h.0, h.1), λ h. (All-tail IsVisible b w h.0, h.1))

-- a byte that may follow leaves what is left as it is
more : (due : Bool) (b : ℕ) (ws : List (List ℕ)) (t : Bool) → HasWord ws → MatchBool t (due ≡ false) (IsVisible b) → AreLeft t ws ↔ AreLeft due (cond t ([] ∷ ws) (onto b ws))
more due b ws true some is = space_more due ws is
more due b ws false some is = byte_more due b ws some is

pub names_more : (due : Bool) (b : ℕ) (text : List ℕ) → MayFollow due b → AreLeft (b == 32) (split text) ↔ AreLeft due (split (b ∷ text))
names_more due b text is = more due b (split text) (b == 32) (split_some text) is

-- another byte has no names behind it
less : (due : Bool) (b : ℕ) (ws : List (List ℕ)) (t : Bool) → HasWord ws → AreLeft due (cond t ([] ∷ ws) (onto b ws)) → MatchBool t (due ≡ false) (IsVisible b)
less true b ws true some h = absurd (first_some ws h)
less false b ws true some h = refl
less due b [] false some h = absurd (let none : [] ≡ some.word ∷ some.others = some.is in absurd cc)
less true b (w ∷ ws) false some h = All-head IsVisible b w (All-head IsWord (b ∷ w) ws h).visible
less false b (w ∷ ws) false some h = All-head IsVisible b w h.0

pub names_less : (due : Bool) (b : ℕ) (text : List ℕ) → AreLeft due (split (b ∷ text)) → MayFollow due b
names_less due b text h = less due b (split text) (b == 32) (split_some text) h

-- ---- in a walk over the bytes of a text

pub walk_step : (text left rest : List ℕ) (due next : Bool) (b : ℕ) → left ≡ b ∷ rest → next ≡ (b == 32) → MayFollow due b → AreLeft due (split left) ↔ All IsWord (split text) → AreLeft next (split rest) ↔ All IsWord (split text)
walk_step text left rest due next b is same may h =
    let more = names_more due b rest may in
    let whole = subst (λ (t : List ℕ). AreLeft due (split t) ↔ All IsWord (split text)) is h in
    subst (λ (n : Bool). AreLeft n (split rest) ↔ All IsWord (split text)) (sym same) (λ l. whole.0 (more.0 l), λ a. more.1 (whole.1 a))

pub walk_stop : (text left rest : List ℕ) (due : Bool) (b : ℕ) → left ≡ b ∷ rest → (MayFollow due b → ⊥) → AreLeft due (split left) ↔ All IsWord (split text) → All IsWord (split text) → ⊥
walk_stop text left rest due b is may_not h are = may_not (names_less due b rest (subst (λ (t : List ℕ). AreLeft due (split t)) is (h.1 are)))

pub walk_end : (text left : List ℕ) (due result : Bool) → left ≡ [] → result ≡ not due → AreLeft due (split left) ↔ All IsWord (split text) → IsTrue result ↔ All IsWord (split text)
walk_end text left due result is same h =
    let none = none_left due in
    let whole = subst (λ (t : List ℕ). AreLeft due (split t) ↔ All IsWord (split text)) is h in
    (λ t. whole.0 (none.0 (sym same ∙ t)), λ a. same ∙ none.1 (whole.1 a))

-- the first element of a list, and those behind it
pub first_and_rest : (left : List ℕ) (d : ℕ) → 1 ≤ length left → left ≡ get_or left 0 d ∷ take (length left - 1) (drop 1 left)
first_and_rest [] d some = absurd (omega arith)
first_and_rest (b ∷ rest) d some = ap (λ (l : List ℕ). b ∷ l) (sym (take_all (length (b ∷ rest) - 1) rest (omega arith)))

pub none_where_short : (left : List ℕ) → length left < 1 → left ≡ []
none_where_short [] low = refl
none_where_short (b ∷ rest) low = absurd (omega (arith, low))
