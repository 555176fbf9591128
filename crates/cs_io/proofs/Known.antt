-- What a sink has taken, where it tells it, after one text and another. A function that writes piece
-- after piece names the ruleset: `#[tactic(auto, using(cs_io::proofs::Known::known_pieces))]`.
use Rattle.std.proofs.Common.{◌≡◌, ℕ, ◌+◌, ◌-◌, ◌≤◌, min, ap, sym, ◌∙◌, length, length-drop, List, [], ◌++◌, Option, None, Some, refl, take, drop, arith}
use Rattle.std.specs.Io.KnownBytes.{append_known}
use Rattle.std.proofs.lemmas.Grind.{common_steps}
use Rattle.std.proofs.Math.Seq.{take-add, take-append-add, take-length, take-take}
use Rattle.std.proofs.lemmas.List.{take_min, take-append-le}
use Rattle.cs_io.specs.Sink.{GrewByPrefix, known_length}

-- no text
pub known_none : (known : Option (List ℕ)) → append_known known [] ≡ known
known_none None = refl
known_none (Some bytes) = grind (arith, common_steps)

-- two texts, one after the other, are one text
pub known_twice : (known : Option (List ℕ)) (first second : List ℕ) → append_known (append_known known first) second ≡ append_known known (first ++ second)
known_twice None first second = refl
known_twice (Some bytes) first second = grind (arith, common_steps)

-- `&text[at..]` is the text from that place on
rest_is_drop : (text : List ℕ) (at : ℕ) → take (length text - at) (drop at text) ≡ drop at text
rest_is_drop text at = grind (arith, common_steps, length-drop at text)

-- a first part, and then the first bytes of `&text[at..]`
pub known_next : (known : Option (List ℕ)) (text : List ℕ) (at count : ℕ) → append_known (append_known known (take at text)) (take count (take (length text - at) (drop at text))) ≡ append_known known (take (at + count) text)
known_next None text at count = refl
known_next (Some bytes) text at count = rw rest_is_drop (grind (arith, common_steps, take-add at count text))

-- a text, and then the first bytes of another
pub known_then_part : (old mid new : Option (List ℕ)) (first second : List ℕ) → mid ≡ append_known old first → GrewByPrefix mid new second → GrewByPrefix old new (first ++ second)
known_then_part old mid new first second whole part =
    record {
      count = length first + part.count;
      grew = part.grew ∙ ap (λ (known : Option (List ℕ)). append_known known (take part.count second)) whole ∙ known_twice old first (take part.count second)
          ∙ ap (λ (text : List ℕ). append_known old text) (sym (take-append-add first second part.count));
    }

-- the first bytes of a text are the first bytes of a longer one
pub known_part : (old new : Option (List ℕ)) (first second : List ℕ) → GrewByPrefix old new first → GrewByPrefix old new (first ++ second)
known_part old new first second part = record {
  count = min part.count (length first);
  grew = part.grew ∙ ap (λ (text : List ℕ). append_known old text) (shorter part.count);
}
  where
    shorter : (count : ℕ) → take count first ≡ take (min count (length first)) (first ++ second)
    shorter count =
        let within : min count (length first) ≤ length first = omega arith in
        sym (take_min count first) ∙ sym (take-append-le (min count (length first)) first second within)

-- What a sink over a lent one got is a prefix of a text: then what the lent one got is a prefix too, where it took no byte
-- back.
pub lent_prefix : (old new : Option (List ℕ)) (waiting text : List ℕ) → GrewByPrefix old (append_known new waiting) text → known_length old ≤ known_length new → GrewByPrefix old new text
lent_prefix None None waiting text part longer = record { count = 0; grew = refl }
lent_prefix None (Some b) waiting text part longer = absurd (let e = part.grew in cc)
lent_prefix (Some a) None waiting text part longer = absurd (let e = part.grew in cc)
lent_prefix (Some a) (Some b) waiting text part longer = record { count = length b - length a; grew = ap Some whole }
  where
    same : b ++ waiting ≡ a ++ take part.count text
    same = let e = part.grew in cc

    within : length b - length a ≤ part.count
    within = grind (arith, common_steps, ap length same)

    whole : b ≡ a ++ take (length b - length a) text
    whole =
        let front : take (length b) (b ++ waiting) ≡ b = take-append-le (length b) b waiting (omega arith) ∙ take-length b in
        let split : length b ≡ length a + (length b - length a) = omega (arith, longer) in
        sym front ∙ ap (take (length b)) same ∙ ap (λ (n : ℕ). take n (a ++ take part.count text)) split
        ∙ take-append-add a (take part.count text) (length b - length a)
        ∙ ap (λ (t : List ℕ). a ++ t) (take-take (length b - length a) part.count text within)

-- for a function that writes pieces, one after another
pub ruleset known_pieces = (known_twice, known_then_part, known_part)
