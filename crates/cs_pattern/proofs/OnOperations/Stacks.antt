-- Stacks of patterns.
use Rattle.std.proofs.Common.{◌≡◌, ℕ, ◌-◌, List, [], ◌∷◌, length, map, take, drop, refl, sym, ap, ◌∙◌, arith}
use Rattle.std.proofs.lemmas.List.{length-map, take-map, drop-map}
use Rattle.cs_pattern_parts.specs.declared.tree.pattern.Pattern.{Pattern}
use Rattle.cs_pattern_parts.specs.Tree.Pattern.{alone_or}
use Rattle.cs_pattern_parts.specs.Tree.Pattern.{Regex, Parts, parts_of, regex}

left : (xs : List Pattern) (n count : ℕ) → n ≡ length xs - count → n ≡ length (map regex xs) - count
left xs n count e = omega (arith, length-map xs regex)

pub taken : (xs ys : List Pattern) (n count : ℕ) → ys ≡ drop n xs → n ≡ length xs - count → map regex ys ≡ drop (length (map regex xs) - count) (map regex xs)
taken xs ys n count e f = ap (map regex) e ∙ sym (drop-map regex n xs) ∙ ap (λ m. drop m (map regex xs)) (left xs n count f)

pub kept : (xs ys : List Pattern) (n count : ℕ) → ys ≡ take n xs → n ≡ length xs - count → map regex ys ≡ take (length (map regex xs) - count) (map regex xs)
kept xs ys n count e f = ap (map regex) e ∙ sym (take-map regex n xs) ∙ ap (λ m. take m (map regex xs)) (left xs n count f)

pub several_parts : (several : Parts → Regex) (xs : List Pattern) → (length xs ≡ 1 → ⊥) → several (parts_of (map regex xs)) ≡ alone_or several (parts_of (map regex xs))
several_parts several [] ne = refl
several_parts several (x ∷ []) ne = absurd (ne (omega arith))
several_parts several (x ∷ y ∷ xs) ne = refl
