-- A word of a pattern's numbered classes, read as numbers, is matched by the pattern.
use Rattle.std.proofs.Common.{◌≡◌, ℕ, ◌+◌, List, [], ◌∷◌, ◌++◌, refl, ap, ◌∙◌, arith, inl, inr}
use Rattle.std.proofs.lemmas.List.{map-append}
use Rattle.cs_pattern_parts.specs.Tree.Pattern.{Regex, Empty, Class, Join, Either, Many, Parts, Nothing, Then, Repeats, no_more, one_more, Matches, MatchInOrder, SomeMatches}
use Rattle.cs_scanner.specs.Automaton.Re as tree
use Rattle.cs_scanner.specs.Automaton.Re.{Spells}
use Rattle.cs_scanner.specs.Automaton.Meaning.{re, cat_of, alt_of}
use Rattle.cs_scanner.specs.Automaton.Places.{NumberedClass, Itself, letters, with_places}
use Rattle.cs_scanner.specs.Automaton.Numbered.{numbered, numbered_parts, numbers}

joined : (x y w : List NumberedClass) → w ≡ x ++ y → numbers w ≡ numbers x ++ numbers y
joined x y w e = ap numbers e ∙ map-append (λ (c : NumberedClass). c.number) x y

repeats_of : (P : List NumberedClass → Type 0) (Q : List ℕ → Type 0) → ((x : List NumberedClass) → P x → Q (numbers x)) → {x : List NumberedClass} → tree.Parts P x → Repeats Q (numbers x)
repeats_of P Q f tree.no_parts = no_more
repeats_of P Q f (tree.one_more x y w p ps e) = one_more (numbers x) (numbers y) (numbers w) (f x p) (repeats_of P Q f ps) (joined x y w e)

mutual
  pub word_matches : (rule from : ℕ) (r : Regex) (w : List NumberedClass) → Spells Itself (with_places rule from (re r)) w → Matches (numbered from r) (numbers w)
  word_matches rule from Empty w h = ap numbers h
  word_matches rule from (Class set) w h = (from, (0, omega arith, refl), ap numbers h.2 ∙ ap (λ (c : NumberedClass). c.number ∷ []) h.1)
  word_matches rule from (Join ps) w h = word_in_order rule from ps w h
  word_matches rule from (Either ps) w h = word_somewhere rule from ps w h
  word_matches rule from (Many r) w h = repeats_of (Spells Itself (with_places rule from (re r))) (Matches (numbered from r)) (λ y p. word_matches rule from r y p) h

  word_in_order : (rule from : ℕ) (ps : Parts) (w : List NumberedClass) → Spells Itself (with_places rule from (cat_of ps)) w → MatchInOrder (numbered_parts from ps) (numbers w)
  word_in_order rule from Nothing w h = ap numbers h
  word_in_order rule from (Then r ps) w h = (
    numbers h.0,
    numbers h.1,
    joined h.0 h.1 w h.4,
    word_matches rule from r h.0 h.2,
    word_in_order rule (from + letters (re r)) ps h.1 h.3,
  )

  word_somewhere : (rule from : ℕ) (ps : Parts) (w : List NumberedClass) → Spells Itself (with_places rule from (alt_of ps)) w → SomeMatches (numbered_parts from ps) (numbers w)
  word_somewhere rule from Nothing w h = h
  word_somewhere rule from (Then r ps) w (inl h) = inl (word_matches rule from r w h)
  word_somewhere rule from (Then r ps) w (inr h) = inr (word_somewhere rule (from + letters (re r)) ps w h)
