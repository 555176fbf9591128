-- Each slip stands in the list of slips once, and nothing else stands there.
use Rattle.std.proofs.Common.{◌≡◌, ◌≢◌, ◌⊎◌, ℕ, ◌-◌, ◌<◌, Bool, true, false, cond, not, List, [], ◌++◌, length, get_or, Some, refl, sym, ap, ◌∙◌, subst, ⊎_elim, inl, inr, arith}
use Rattle.std.specs.Prelude.{IsTrue, slice_get}
use Rattle.std.specs.List.{enumerate_from, filter, flat_map, range_with_len}
use Rattle.std.proofs.lemmas.Option.{slice_get-get_or}
use Rattle.cs_goals.proofs.Members.{AllPairs-from_Apart, Among, Among-cases, Among-chosen, Among-cond, Among-enumerate_from, Among-enumerated, Among-filter, Among-flat_map, Among-from_Contains, Among-in_range, Among-joined, Among-left, Among-map, Among-mapped, Among-passes, Among-range, Among-right, Apart, Apart-append, Apart-cond, Apart-flat_map, Apart-map, Apart-map-filter, Apart-numbers, Apart-range, Contains-from_Among}
use Rattle.cs_grammar.specs.Grammar.{IsNumberOf, IsRule, PlainGrammar, Production}
use Rattle.cs_grammar.specs.declared.symbol.Symbol.{Symbol}
use Rattle.cs_grammar.specs.declared.symbol.Symbol.TheVariants.{Token, Nonterminal}
use Rattle.cs_wrong.specs.Slips.Slips.{HasEachSlip, HasNoSlipTwice, IsChangeOf, IsOfChosen, IsSlip, changes_of, differ_at, doubles_of, drops_of, same_symbol, slips, slips_in, swaps_of}
use Rattle.cs_wrong.specs.declared.slips.slip.Change.{Change}
use Rattle.cs_wrong.specs.declared.slips.slip.Change.TheVariants.{Drop, Double, Swap}
use Rattle.cs_choices.specs.declared.slips.Slips.{Slips}
use Rattle.cs_wrong.specs.declared.slips.slip.Slip.{Slip}
use Rattle.cs_wrong.specs.declared.slips.slip.Slip.TheVariants.{Empty, Of}

-- ---- neighbours that differ

pub same_symbols : (a b : Symbol) → same_symbol a b ≡ true → a ≡ b
same_symbols (Token a) (Token b) e = let h : a ≡ b = grind (arith, e) in ap Token h
same_symbols (Token a) (Nonterminal b) e = absurd cc
same_symbols (Nonterminal a) (Token b) e = absurd cc
same_symbols (Nonterminal a) (Nonterminal b) e = let h : a ≡ b = grind (arith, e) in ap Nonterminal h

pub same_itself : (a : Symbol) → same_symbol a a ≡ true
same_itself (Token a) = grind arith
same_itself (Nonterminal a) = grind arith

-- a test is true or false
data Tested (b : Bool) : Type 0 where
  Yes : b ≡ true → Tested b
  No : b ≡ false → Tested b

tested : (b c : Bool) → b ≡ c → Tested b
tested true c e = Yes refl
tested false c e = No refl

pub symbols_differ : (a b : Symbol) → (a ≡ b → ⊥) → same_symbol a b ≡ false
symbols_differ a b other = elim (tested (same_symbol a b) (same_symbol a b) refl) [
  | Yes e ↦ absurd (other (same_symbols a b e))
  | No e ↦ e
]

module _ (xs : List Symbol) (i : ℕ) (is : IsNumberOf (length xs - 1) i) where
  low : i - 1 < length xs
  low = let a = is.0 in let b = is.1 in omega arith

  high : i < length xs
  high = let a = is.0 in let b = is.1 in omega arith

  -- a test of neighbours tells whether they are the same
  differ_seen : differ_at xs i ≡ true → slice_get xs (i - 1) ≢ slice_get xs i
  differ_seen e same =
      let here : slice_get xs (i - 1) ≡ Some (get_or xs (i - 1) (Token 0)) = slice_get-get_or xs (i - 1) (Token 0) low in
      let there : slice_get xs i ≡ Some (get_or xs i (Token 0)) = slice_get-get_or xs i (Token 0) high in
      let equal : get_or xs (i - 1) (Token 0) ≡ get_or xs i (Token 0) = cc in
      let told : same_symbol (get_or xs (i - 1) (Token 0)) (get_or xs i (Token 0)) ≡ true = subst (λ (s : Symbol). same_symbol (get_or xs (i - 1) (Token 0)) s ≡ true) equal (same_itself (get_or xs (i - 1) (Token 0))) in
      let none : differ_at xs i ≡ false = ap not told in
      cc

  differ_told : slice_get xs (i - 1) ≢ slice_get xs i → differ_at xs i ≡ true
  differ_told other =
      let here : slice_get xs (i - 1) ≡ Some (get_or xs (i - 1) (Token 0)) = slice_get-get_or xs (i - 1) (Token 0) low in
      let there : slice_get xs i ≡ Some (get_or xs i (Token 0)) = slice_get-get_or xs i (Token 0) high in
      let told : same_symbol (get_or xs (i - 1) (Token 0)) (get_or xs i (Token 0)) ≡ false =
      symbols_differ (get_or xs (i - 1) (Token 0)) (get_or xs i (Token 0)) (λ same. other (here ∙ ap Some same ∙ sym there)) in
      ap not told

module _ (c : Slips) (xs : List Symbol) where
  abbrev first : List Change
  first = cond c.drops (drops_of xs) []

  abbrev second : List Change
  second = cond c.doubles (doubles_of xs) []

  abbrev third : List Change
  third = cond c.swaps (swaps_of xs) []

  in_first : (e : Change) → Among e first → (i : ℕ) × (e ≡ Drop i) × (c.drops ≡ true) × IsNumberOf (length xs) i
  in_first e h =
      let chosen = Among-cond e c.drops (drops_of xs) h in
      let m = Among-map Drop e (range_with_len 1 (length xs)) chosen.1 in
      let r = Among-range m.0 1 (length xs) m.1 in
      (m.0, m.2, chosen.0, (omega (arith, r.0), omega (arith, r.1)))

  in_second : (e : Change) → Among e second → (i : ℕ) × (e ≡ Double i) × (c.doubles ≡ true) × IsNumberOf (length xs) i
  in_second e h =
      let chosen = Among-cond e c.doubles (doubles_of xs) h in
      let m = Among-map Double e (range_with_len 1 (length xs)) chosen.1 in
      let r = Among-range m.0 1 (length xs) m.1 in
      (m.0, m.2, chosen.0, (omega (arith, r.0), omega (arith, r.1)))

  in_third : (e : Change) → Among e third → (i : ℕ) × (e ≡ Swap i) × (c.swaps ≡ true) × IsChangeOf xs (Swap i)
  in_third e h =
      let chosen = Among-cond e c.swaps (swaps_of xs) h in
      let m = Among-map Swap e (filter (differ_at xs) (range_with_len 1 (length xs - 1))) chosen.1 in
      let f = Among-filter (differ_at xs) m.0 (range_with_len 1 (length xs - 1)) m.1 in
      let r = Among-range m.0 1 (length xs - 1) f.0 in
      let placed : IsNumberOf (length xs - 1) m.0 = (omega (arith, r.0), omega (arith, r.1)) in
      (m.0, m.2, chosen.0, (placed, differ_seen xs m.0 placed f.1))

  in_changes : (e : Change) → Among e (changes_of c xs) → IsChangeOf xs e × IsOfChosen c e
  in_changes e h =
      ⊎_elim
      (λ ab.
      ⊎_elim
      (λ a. let r = in_first e a in subst (λ (k : Change). IsChangeOf xs k × IsOfChosen c k) (sym r.1) (r.3, is_true c.drops r.2))
      (λ b. let r = in_second e b in subst (λ (k : Change). IsChangeOf xs k × IsOfChosen c k) (sym r.1) (r.3, is_true c.doubles r.2))
      (Among-cases e first second ab))
      (λ s. let r = in_third e s in subst (λ (k : Change). IsChangeOf xs k × IsOfChosen c k) (sym r.1) (r.3, is_true c.swaps r.2))
      (Among-cases e (first ++ second) third h)
    where
      is_true : (b : Bool) → b ≡ true → IsTrue b
      is_true b e = e

  changes_in : (e : Change) → IsChangeOf xs e → IsOfChosen c e → Among e (changes_of c xs)
  changes_in (Drop i) is chosen =
      let a = is.0 in
      let b = is.1 in
      Among-left (Drop i) (first ++ second) third
      (Among-left (Drop i) first second
      (Among-chosen (Drop i) c.drops (drops_of xs) chosen (Among-mapped Drop i (range_with_len 1 (length xs)) (Among-in_range i 1 (length xs) (omega arith) (omega arith)))))
  changes_in (Double i) is chosen =
      let a = is.0 in
      let b = is.1 in
      Among-left (Double i) (first ++ second) third
      (Among-right (Double i) first second
      (Among-chosen (Double i) c.doubles (doubles_of xs) chosen (Among-mapped Double i (range_with_len 1 (length xs)) (Among-in_range i 1 (length xs) (omega arith) (omega arith)))))
  changes_in (Swap i) is chosen =
      let a = is.0.0 in
      let b = is.0.1 in
      Among-right (Swap i) (first ++ second) third
      (Among-chosen (Swap i) c.swaps (swaps_of xs) chosen
      (Among-mapped Swap i (filter (differ_at xs) (range_with_len 1 (length xs - 1)))
      (Among-passes (differ_at xs) i (range_with_len 1 (length xs - 1)) (Among-in_range i 1 (length xs - 1) (omega arith) (omega arith)) (differ_told xs i is.0 is.1))))

  two : (e : Change) (i j : ℕ) → e ≡ Drop i → e ≡ Double j → ⊥
  two e i j a b = cc

  three : (e : Change) (i j : ℕ) → e ≡ Drop i ⊎ e ≡ Double i → e ≡ Swap j → ⊥
  three e i j a b = ⊎_elim (λ h. cc) (λ h. cc) a

  early : (e : Change) → Among e (first ++ second) → (i : ℕ) × (e ≡ Drop i ⊎ e ≡ Double i)
  early e h =
      ⊎_elim (λ a. let r = in_first e a in (r.0, inl r.1)) (λ b. let r = in_second e b in (r.0, inr r.1)) (Among-cases e first second h)

  Apart-changes : Apart (changes_of c xs)
  Apart-changes =
      Apart-append (first ++ second) third
      (Apart-append first second
      (Apart-cond c.drops (drops_of xs) (Apart-map Drop (λ x y e. cc) (range_with_len 1 (length xs)) (Apart-range 1 (length xs))))
      (Apart-cond c.doubles (doubles_of xs) (Apart-map Double (λ x y e. cc) (range_with_len 1 (length xs)) (Apart-range 1 (length xs))))
      (λ e a b. let r = in_first e a in let s = in_second e b in two e r.0 s.0 r.1 s.1))
      (Apart-cond c.swaps (swaps_of xs) (Apart-map-filter Swap (differ_at xs) (range_with_len 1 (length xs - 1)) (Apart-map Swap (λ x y e. cc) (range_with_len 1 (length xs - 1)) (Apart-range 1 (length xs - 1)))))
      (λ e a b. let r = early e a in let s = in_third e b in three e r.0 s.0 r.1 s.1)

-- the rule of a slip
rule_in : Slip → ℕ
rule_in Empty = 0
rule_in (Of r change) = r

module _ (g : PlainGrammar) (c : Slips) where
  in_rule : (e : ℕ × Production) (s : Slip) → Among s (slips_in c e) → (change : Change) × (s ≡ Of e.0 change) × Among change (changes_of c e.1.right)
  in_rule e s h = let m = Among-map (Of e.0) s (changes_of c e.1.right) h in (m.0, m.2, m.1)

  of_rule : (e : ℕ × Production) (s : Slip) → Among s (slips_in c e) → rule_in s ≡ e.0
  unfolding rule_in
  of_rule e s h = let m = in_rule e s h in ap rule_in m.1

  in_rules : (s : Slip) → Among s (flat_map (slips_in c) (enumerate_from 1 g.rules)) → (s ≡ Empty → ⊥) × IsSlip g c s
  in_rules s h =
      let under = Among-flat_map (slips_in c) s (enumerate_from 1 g.rules) h in
      let e = under.0 in
      let placed = Among-enumerate_from e 1 g.rules under.1 in
      let m = in_rule e s under.2 in
      let is = in_changes c e.1.right m.0 m.2 in
      let number : IsRule g e.0 e.1 = record { above_zero = omega (arith, placed.0); at = placed.1 } in (
        (λ none. let shape = m.1 in cc),
        subst (λ (k : Slip). IsSlip g c k) (sym m.1) (e.1, number, is.0, is.1),
      )

  pub once : HasNoSlipTwice g c
  once =
      AllPairs-from_Apart (slips g c) (
        (λ again. (in_rules Empty again).0 refl),
        Apart-flat_map (slips_in c) (λ (e : ℕ × Production). e.0) rule_in
            (λ e. Apart-map (Of e.0) (λ x y same. cc) (changes_of c e.1.right) (Apart-changes c e.1.right))
            of_rule (enumerate_from 1 g.rules) (Apart-numbers 1 g.rules),
      )

  is_slip : (s : Slip) → Among s (slips g c) → IsSlip g c s
  is_slip s h = ⊎_elim (λ same. subst (λ (k : Slip). IsSlip g c k) (sym same) tt) (λ later. (in_rules s later).1) h

  slip_in : (s : Slip) → IsSlip g c s → Among s (slips g c)
  slip_in Empty is = inl refl
  slip_in (Of r change) is =
      let number = is.1 in
      let low = number.above_zero in
      inr (Among-joined (slips_in c) (Of r change) (r, is.0) (enumerate_from 1 g.rules)
      (Among-enumerated r 1 is.0 g.rules (omega arith) number.at)
      (Among-mapped (Of r) change (changes_of c is.0.right) (changes_in c is.0.right change is.2 is.3)))

  pub all : HasEachSlip g c
  all s = (λ there. is_slip s (Among-from_Contains s (slips g c) there), λ is. Contains-from_Among s (slips g c) (slip_in s is))
