-- Matching, by the pattern's parts or by two parts at each join and either.
use Rattle.std.proofs.Common.{◌≡◌, ℕ, zero, suc, List, [], ◌∷◌, ◌++◌, inl, inr, Some, refl, sym, ap, subst}
use Rattle.std.specs.Prelude.{slice_get}
use Rattle.cs_pattern_parts.specs.Tree.Pattern.{Regex, Empty, Class, Join, Either, Many, Parts, Nothing, Then, Repeats, no_more, one_more, Matches, MatchInOrder, SomeMatches}
use Rattle.cs_scanner.specs.Automaton.Re as tree
use Rattle.cs_scanner.specs.Automaton.Re.{Re, Spells}
use Rattle.cs_scanner.specs.Automaton.Meaning.{re, cat_of, alt_of, res, Has}
use Rattle.cs_scanner.specs.Automaton.Rules.{SpellsRule, AreSpelled, IsBegunSpelled}
use Rattle.cs_scanner.specs.Automaton.Machine.{MatchesRule, AreMatching, IsBegun}
use Rattle.cs_scanner.proofs.OnAutomaton.Listing.{lists_same}

to_parts : (P Q : List ℕ → Type 0) → ((x : List ℕ) → P x → Q x) → {x : List ℕ} → Repeats P x → tree.Parts Q x
to_parts P Q f no_more = tree.no_parts
to_parts P Q f (one_more x y xs p ps e) = tree.one_more x y xs (f x p) (to_parts P Q f ps) e

to_repeats : (P Q : List ℕ → Type 0) → ((x : List ℕ) → P x → Q x) → {x : List ℕ} → tree.Parts P x → Repeats Q x
to_repeats P Q f tree.no_parts = no_more
to_repeats P Q f (tree.one_more x y xs p ps e) = one_more x y xs (f x p) (to_repeats P Q f ps) e

mutual
  pub spells : (r : Regex) (x : List ℕ) → Matches r x → Spells Has (re r) x
  spells Empty x h = h
  spells (Class set) x h = h
  spells (Join ps) x h = spells_join ps x h
  spells (Either ps) x h = spells_either ps x h
  spells (Many r) x h = to_parts (Matches r) (Spells Has (re r)) (λ y p. spells r y p) h

  spells_join : (ps : Parts) (x : List ℕ) → MatchInOrder ps x → Spells Has (cat_of ps) x
  spells_join Nothing x h = h
  spells_join (Then r ps) x h = (h.0, h.1, spells r h.0 h.3, spells_join ps h.1 h.4, h.2)

  spells_either : (ps : Parts) (x : List ℕ) → SomeMatches ps x → Spells Has (alt_of ps) x
  spells_either Nothing x h = h
  spells_either (Then r ps) x (inl h) = inl (spells r x h)
  spells_either (Then r ps) x (inr h) = inr (spells_either ps x h)

mutual
  pub matches : (r : Regex) (x : List ℕ) → Spells Has (re r) x → Matches r x
  matches Empty x h = h
  matches (Class set) x h = h
  matches (Join ps) x h = matches_join ps x h
  matches (Either ps) x h = matches_either ps x h
  matches (Many r) x h = to_repeats (Spells Has (re r)) (Matches r) (λ y p. matches r y p) h

  matches_join : (ps : Parts) (x : List ℕ) → Spells Has (cat_of ps) x → MatchInOrder ps x
  matches_join Nothing x h = h
  matches_join (Then r ps) x h = (h.0, h.1, h.4, matches r h.0 h.2, matches_join ps h.1 h.3)

  matches_either : (ps : Parts) (x : List ℕ) → Spells Has (alt_of ps) x → SomeMatches ps x
  matches_either Nothing x h = h
  matches_either (Then r ps) x (inl h) = inl (matches r x h)
  matches_either (Then r ps) x (inr h) = inr (matches_either ps x h)

-- ---- rules

there : (ps : List Regex) (i : ℕ) (r : Regex) → slice_get ps i ≡ Some r → slice_get (res ps) i ≡ Some (re r)
there [] i r e = absurd cc
there (p ∷ ps) zero r e = let same : p ≡ r = cc in ap (λ t. Some (re t)) same
there (p ∷ ps) (suc i) r e = there ps i r e

back : (ps : List Regex) (i : ℕ) (q : Re (List ℕ)) → slice_get (res ps) i ≡ Some q → (r : Regex) × (slice_get ps i ≡ Some r) × (re r ≡ q)
back [] i q e = absurd cc
back (p ∷ ps) zero q e = (p, refl, cc)
back (p ∷ ps) (suc i) q e = back ps i q e

pub rule_spelled : (ps : List Regex) (rule : ℕ) (x : List ℕ) → MatchesRule ps rule x → SpellsRule (res ps) rule x
rule_spelled ps rule x m = record { index = m.index; pattern = re m.pattern; number = m.number; at = there ps m.index m.pattern m.at; spelled = spells m.pattern x m.matched }

pub rule_matched : (ps : List Regex) (rule : ℕ) (x : List ℕ) → SpellsRule (res ps) rule x → MatchesRule ps rule x
rule_matched ps rule x m =
    let b = back ps m.index m.pattern m.at in
    record { index = m.index; pattern = b.0; number = m.number; at = b.1; matched = matches b.0 x (subst (λ t. Spells Has t x) (sym b.2) m.spelled) }

pub all_matched : (ps : List Regex) (x rules : List ℕ) → AreSpelled (res ps) x rules → AreMatching ps x rules
all_matched ps x rules h = lists_same (λ rule. SpellsRule (res ps) rule x) (λ rule. MatchesRule ps rule x) rules (λ rule m. rule_matched ps rule x m) (λ rule m. rule_spelled ps rule x m) h

pub begun_spelled : (ps : List Regex) (x : List ℕ) → IsBegun ps x → IsBegunSpelled (res ps) x
begun_spelled ps x b = (b.0, b.1, rule_spelled ps b.0 (x ++ b.1) b.2)

pub begun_matched : (ps : List Regex) (x : List ℕ) → IsBegunSpelled (res ps) x → IsBegun ps x
begun_matched ps x b = (b.0, b.1, rule_matched ps b.0 (x ++ b.1) b.2)
