-- A text that is put run by run: the bytes that stand for themselves in one piece.
use Rattle.std.proofs.Common.{◌≡◌, refl, subst, cond, arith, ℕ, suc, ◌+◌, ◌/◌, ◌%◌, List, [], ◌∷◌, ◌++◌, take, drop, ap, sym, ◌∙◌, append_assoc, true, false, Bool}
use Rattle.std.proofs.Math.Seq.{take-add}
use Rattle.std.specs.Prelude.{◌&&◌}
use Rattle.std.specs.List.{flat_map, list_all, prefix_len}
use Rattle.std.proofs.lemmas.Grind.{flat_map-append}
use Rattle.cs_io.specs.declared.sink.Sink as Sink
use Rattle.cs_manifest.specs.declared.output.output.Output.{Output}
use Rattle.cs_manifest.specs.Output.Putting.{Puts}
use Rattle.cs_manifest.specs.Output.Words.{hexadecimal_digit, is_plain_literal, is_plain_text, literal, text_byte}
use Rattle.cs_manifest.proofs.OnOutput.Pieces.{spelled, then}

-- one more byte that stands for itself
plain_more : (b : ℕ) (text : List ℕ) (n : ℕ) → is_plain_text b ≡ true
    → take n text ≡ flat_map text_byte (take n text) → take (1 + n) (b ∷ text) ≡ flat_map text_byte (take (1 + n) (b ∷ text))
plain_more b text n plain rest =
    subst (λ (m : ℕ). take m (b ∷ text) ≡ flat_map text_byte (take m (b ∷ text))) (the_same n)
    (rw plain (ap (λ (bs : List ℕ). b ∷ bs) rest))
  where
    the_same : (n : ℕ) → suc n ≡ 1 + n
    the_same n = omega arith

-- the bytes in front that stand for themselves are their own text
pub plain_run : (text : List ℕ) → take (prefix_len is_plain_text text) text ≡ flat_map text_byte (take (prefix_len is_plain_text text) text)
plain_run [] = refl
plain_run (b ∷ text) = by (is_plain_text b) refl (plain_run text)
  where
    by : (plain : Bool) → is_plain_text b ≡ plain
        → take (prefix_len is_plain_text text) text ≡ flat_map text_byte (take (prefix_len is_plain_text text) text)
        → take (prefix_len is_plain_text (b ∷ text)) (b ∷ text) ≡ flat_map text_byte (take (prefix_len is_plain_text (b ∷ text)) (b ∷ text))
    by true e rest =
        subst (λ (n : ℕ). take n (b ∷ text) ≡ flat_map text_byte (take n (b ∷ text)))
        (sym (ap (λ (plain : Bool). cond plain (1 + prefix_len is_plain_text text) 0) e))
        (plain_more b text (prefix_len is_plain_text text) e rest)
    by false e rest = rw e refl

-- a text whose bytes all stand for themselves is its own text
pub plain_all : (text : List ℕ) → list_all is_plain_text text ≡ true → text ≡ flat_map text_byte text
plain_all [] all = refl
plain_all (b ∷ text) all = by (is_plain_text b) refl (plain_all text)
  where
    by : (plain : Bool) → is_plain_text b ≡ plain → (list_all is_plain_text text ≡ true → text ≡ flat_map text_byte text) → b ∷ text ≡ flat_map text_byte (b ∷ text)
    by true e rest = rw e (ap (λ (bs : List ℕ). b ∷ bs) (rest (subst (λ (t : Bool). (t && list_all is_plain_text text) ≡ true) e all)))
    by false e rest = let none : false ≡ true = subst (λ (t : Bool). (t && list_all is_plain_text text) ≡ true) e all in absurd (cc)

-- a byte that stands for itself between single quotes, and one that doesn't
pub plain_literal : (b : ℕ) → is_plain_literal b ≡ true → 39 ∷ b ∷ 39 ∷ [] ≡ literal b
plain_literal b plain = rw plain refl

pub other_literal : {high low : ℕ} (b : ℕ) → is_plain_literal b ≡ false → high ≡ hexadecimal_digit (b / 16) → low ≡ hexadecimal_digit (b % 16)
    → 39 ∷ 92 ∷ 120 ∷ high ∷ low ∷ 39 ∷ [] ≡ literal b
other_literal b plain first second = rw first (rw second (rw plain refl))

-- a text spelled part by part, and what stands behind it
pub parts_spelled : (front middle back : List ℕ)
    → ((flat_map text_byte front ++ flat_map text_byte middle) ++ flat_map text_byte back) ++ (34 ∷ 10 ∷ [])
    ≡ (flat_map text_byte ((front ++ middle) ++ back) ++ 34 ∷ []) ++ 10 ∷ []
parts_spelled front middle back =
    ap (λ (t : List ℕ). t ++ (34 ∷ 10 ∷ []))
    (ap (λ (t : List ℕ). t ++ flat_map text_byte back) (sym (flat_map-append text_byte front middle)) ∙ sym (flat_map-append text_byte (front ++ middle) back))
    ∙ sym (append_assoc (flat_map text_byte ((front ++ middle) ++ back)) (34 ∷ []) (10 ∷ []))

module _ {S : Type 0} {g : Sink.Ghosts S} where
  -- so many more bytes of a text
  pub more_bytes : {old mid new : Output S} (text : List ℕ) (at count : ℕ)
      → Puts g (flat_map text_byte (take at text)) old mid → Puts g (flat_map text_byte (take count (drop at text))) mid new
      → Puts g (flat_map text_byte (take (at + count) text)) old new
  more_bytes text at count so_far more = spelled (flat_map text_byte (take (at + count) text)) whole (then so_far more)
    where
      whole : flat_map text_byte (take at text) ++ flat_map text_byte (take count (drop at text)) ≡ flat_map text_byte (take (at + count) text)
      whole =
          sym (flat_map-append text_byte (take at text) (take count (drop at text)))
          ∙ ap (flat_map text_byte) (sym (take-add at count text))
