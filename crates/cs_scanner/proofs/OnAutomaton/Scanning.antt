-- Patterns of which an automaton can be made have no empty class and no empty choice, and few classes.
use Rattle.std.proofs.Common.{suc, ◌≤◌, List, [], ◌∷◌, arith, All}
use Rattle.std.specs.Prelude.{sum_by}
use Rattle.std.proofs.lemmas.List.Sums.{sum_by-cons}
use Rattle.cs_pattern_parts.specs.Tree.Pattern.{Regex, Empty, Class, Join, Either, Many, Parts, Nothing, Then, leaves, all_leaves}
use Rattle.cs_pattern_parts.specs.Tree.Scannable.{HasNoEmptyClass, EachClassOf, HasNoEmptyEither, HaveNoEmptyEither, HasPart, IsScannable, AreScannable}
use Rattle.cs_pattern_parts.specs.Items.StandsFor.{HasSomeByte}
use Rattle.cs_scanner.specs.Automaton.Meaning.{re, cat_of, alt_of, res}
use Rattle.cs_scanner.specs.Automaton.Places.{letters, all_letters, IsFull}
use Rattle.cs_scanner.specs.Automaton.States.{HasSome, AreFull}

mutual
  full_of : (r : Regex) → HasNoEmptyClass r → HasNoEmptyEither r → IsFull HasSome (re r)
  full_of Empty c e = tt
  full_of (Class set) c e = (c.0, c.2)
  full_of (Join ps) c e = full_join ps c e
  full_of (Either ps) c e = full_either ps c e.0 e.1
  full_of (Many r) c e = full_of r c e

  full_join : (ps : Parts) → EachClassOf HasSomeByte ps → HaveNoEmptyEither ps → IsFull HasSome (cat_of ps)
  full_join Nothing c e = tt
  full_join (Then r ps) c e = (full_of r c.0 e.0, full_join ps c.1 e.1)

  full_either : (ps : Parts) → EachClassOf HasSomeByte ps → HasPart ps → HaveNoEmptyEither ps → IsFull HasSome (alt_of ps)
  full_either Nothing c some e = absurd some
  full_either (Then r Nothing) c some e = full_of r c.0 e.0
  full_either (Then r (Then s ps)) c some e = (full_of r c.0 e.0, full_either (Then s ps) c.1 tt e.1)

mutual
  few_of : (r : Regex) → letters (re r) ≤ leaves r
  few_of Empty = omega arith
  few_of (Class set) = omega arith
  few_of (Join ps) = few_join ps
  few_of (Either ps) = few_either ps
  few_of (Many r) = few_of r

  few_join : (ps : Parts) → letters (cat_of ps) ≤ all_leaves ps
  few_join Nothing = omega arith
  few_join (Then r ps) = omega (arith, few_of r, few_join ps)

  few_either : (ps : Parts) → letters (alt_of ps) ≤ all_leaves ps
  few_either Nothing = omega arith
  few_either (Then r ps) = omega (arith, few_of r, few_either ps)

all_full : (rs : List Regex) → All IsScannable rs → AreFull (res rs)
all_full [] h = tt
all_full (r ∷ rs) h = let s = h 0 r (omega arith) in (full_of r s.classes s.eithers, all_full rs (λ k d lt. h (suc k) d (omega (arith, lt))))

all_few : (rs : List Regex) → all_letters (res rs) ≤ sum_by leaves rs
all_few [] = omega arith
all_few (r ∷ rs) = omega (arith, few_of r, all_few rs, sum_by-cons leaves r rs)

pub full : (rs : List Regex) → AreScannable rs → AreFull (res rs)
full rs h = all_full rs h.each

pub few_letters : (rs : List Regex) → AreScannable rs → all_letters (res rs) ≤ 16384
few_letters rs h = omega (arith, all_few rs, h.positions)
