-- Refused bytes are refused with one error, and aren't accepted.
use Rattle.std.proofs.Common.{◌≡◌, ℕ, ◌<◌, ◌≤◌, List, [], ◌∷◌, ◌++◌, Some, length, slice_get, refl, sym, ap, subst, ◌∙◌, ◌⊎◌, inl, inr, arith}
use Rattle.cs_pattern.specs.declared.text.fault.PatternFault.{PatternFault}
use Rattle.cs_pattern.specs.Text.Answers.{IsPatternOf, IsFault}
use Rattle.cs_pattern.specs.Text.Checking.{AreAccepted}
use Rattle.cs_pattern.specs.Operations.Definitions as definitions
use Rattle.cs_pattern_parts.specs.Tree.Pattern.{Regex}
use Rattle.cs_pattern.proofs.OnText.OneAnswer.{one_fault, no_fault}
use Rattle.cs_pattern.proofs.OnText.OneRefusal as patterns
use Rattle.cs_yacc.specs.Reading.File as tokens
use Rattle.cs_lex.specs.declared.layout.parts.Definition.{Definition}
use Rattle.cs_lex.specs.declared.layout.parts.Rule.{Rule}
use Rattle.cs_lex.proofs.OnLayout.Uniqueness as layout
use Rattle.cs_lex.specs.declared.reading.error.LexError.{LexError}
use Rattle.cs_lex.specs.declared.reading.error.LexError.TheVariants.{NoRules, DanglingBar, Limit, Pattern}
use Rattle.cs_lex.specs.declared.reading.error.LexLimit.TheVariants.{Rules, Positions}
use Rattle.cs_lex.specs.Reading.Errors.{error_of}
use Rattle.std.proofs.lemmas.Option.{same_Some}
use Rattle.cs_lex.specs.Reading.Kinds.{IsBarRule}
use Rattle.cs_lex.specs.Reading.Laws.{AreRefusedOnce, AreNotAcceptedWhereRefused}
use Rattle.cs_lex.specs.Reading.Patterns.{all_spelled, pattern_of, HavePatterns, positions}
use Rattle.cs_lex.specs.Reading.Reading.{IsLast, EndsWithKind, AreRules, IsFirstFaulty, IsFaultyDefinition, IsFaulty, no_rules, dangling_bar, many_rules, definition, rule, many_positions, stops, faulty}
use Rattle.cs_lex.proofs.OnReading.LastRules.{last_same, no_last, none_ends, bar_ends}
use Rattle.cs_lex.proofs.OnReading.OneMeaning.{one_list_of_patterns}

module _ (ds : List definitions.Definition) (bytes : List ℕ) where
  -- the first rule whose pattern is refused, seen from the front
  abbrev FaultyFrom : List Rule → Rule → PatternFault → Type 0
  FaultyFrom [] r f = ⊥
  FaultyFrom (x ∷ xs) r f = ((x ≡ r) × IsFault (pattern_of bytes x) ds f) ⊎ ((p : Regex) × IsPatternOf ds (pattern_of bytes x) p × FaultyFrom xs r f)

  from_front : (before behind : List Rule) (r : Rule) (f : PatternFault) (ps : List Regex) → HavePatterns ds bytes before ps → IsFault (pattern_of bytes r) ds f → FaultyFrom (before ++ r ∷ behind) r f
  from_front [] behind r f ps h bad = inl (refl, bad)
  from_front (x ∷ before) behind r f [] h bad = absurd h
  from_front (x ∷ before) behind r f (p ∷ ps) h bad = inr (p, h.0, from_front before behind r f ps h.1 bad)

  pub faulty_from : (rs : List Rule) (r : Rule) (f : PatternFault) → IsFirstFaulty ds bytes rs r f → FaultyFrom rs r f
  faulty_from rs r f h = subst (λ (qs : List Rule). FaultyFrom qs r f) (sym h.stands) (from_front h.before h.behind r f h.patterns h.have h.refused)

  one_faulty : (rs : List Rule) (r q : Rule) (f g : PatternFault) → FaultyFrom rs r f → FaultyFrom rs q g → (r ≡ q) × (f ≡ g)
  one_faulty [] r q f g x y = absurd x
  one_faulty (s ∷ rs) r q f g (inl x) (inl y) = (sym x.0 ∙ y.0, one_fault (pattern_of bytes s) ds f g x.1 y.1)
  one_faulty (s ∷ rs) r q f g (inl x) (inr y) = absurd (no_fault (pattern_of bytes s) ds y.0 f y.1 x.1)
  one_faulty (s ∷ rs) r q f g (inr x) (inl y) = absurd (no_fault (pattern_of bytes s) ds x.0 g x.1 y.1)
  one_faulty (s ∷ rs) r q f g (inr x) (inr y) = one_faulty rs r q f g x.2 y.2

  faulty_or_not : (rs : List Rule) (r : Rule) (f : PatternFault) (ps : List Regex) → FaultyFrom rs r f → HavePatterns ds bytes rs ps → ⊥
  faulty_or_not [] r f ps x h = x
  faulty_or_not (s ∷ rs) r f [] x h = h
  faulty_or_not (s ∷ rs) r f (p ∷ ps) (inl x) h = no_fault (pattern_of bytes s) ds p f h.0 x.1
  faulty_or_not (s ∷ rs) r f (p ∷ ps) (inr x) h = faulty_or_not rs r f ps x.2 h.1

too_many : (bytes : List ℕ) (rs : List Rule) → 2048 < length rs → AreRules bytes rs → ⊥
too_many bytes rs lt h = omega (arith, h.few)

module _ (bytes : List ℕ) (ds : List Definition) (rs : List Rule) where
  -- what each fault says, without its error
  no_rules_there : rs ≡ [] → (r : Rule) (before : List Rule) → rs ≡ before ++ r ∷ [] → ⊥
  no_rules_there n r before l = no_last before r (sym n ∙ l)

  -- faults that are tried later say that there are rules which end well
  apart_from_none : (e : LexError) → rs ≡ [] → (IsFaulty bytes ds rs e → (e ≡ NoRules))
  apart_from_none e n (no_rules m q) = q
  apart_from_none e n (dangling_bar r l b q) = absurd (no_rules_there n r l.0 l.1)
  apart_from_none e n (many_rules w lt q) = absurd (none_ends bytes rs n w)
  apart_from_none e n (definition d g w h q) = absurd (none_ends bytes rs n w.ends)
  apart_from_none e n (rule r g w a h q) = absurd (none_ends bytes rs n w.ends)
  apart_from_none e n (many_positions ps w a h lt q) = absurd (none_ends bytes rs n w.ends)

  apart_from_bar : (e : LexError) (r : Rule) → IsLast rs r → IsBarRule bytes r → IsFaulty bytes ds rs e → e ≡ DanglingBar r.at
  apart_from_bar e r l b (no_rules m q) = absurd (no_rules_there m r l.0 l.1)
  apart_from_bar e r l b (dangling_bar s m c q) = q ∙ ap (λ (x : Rule). DanglingBar x.at) (last_same m.0 l.0 s r (sym m.1 ∙ l.1))
  apart_from_bar e r l b (many_rules w lt q) = absurd (bar_ends bytes rs r l b w)
  apart_from_bar e r l b (definition d g w h q) = absurd (bar_ends bytes rs r l b w.ends)
  apart_from_bar e r l b (rule s g w a h q) = absurd (bar_ends bytes rs r l b w.ends)
  apart_from_bar e r l b (many_positions ps w a h lt q) = absurd (bar_ends bytes rs r l b w.ends)

  apart_from_many : (e : LexError) → EndsWithKind bytes rs → 2048 < length rs → IsFaulty bytes ds rs e → e ≡ Limit Rules (length rs) 2048
  apart_from_many e v gt (no_rules m q) = absurd (none_ends bytes rs m v)
  apart_from_many e v gt (dangling_bar s m c q) = absurd (bar_ends bytes rs s m c v)
  apart_from_many e v gt (many_rules w lt q) = q
  apart_from_many e v gt (definition d g w h q) = absurd (too_many bytes rs gt w)
  apart_from_many e v gt (rule s g w a h q) = absurd (too_many bytes rs gt w)
  apart_from_many e v gt (many_positions ps w a h lt q) = absurd (too_many bytes rs gt w)

  apart_from_definition : (e : LexError) (d : Definition) (f : PatternFault) → AreRules bytes rs → IsFaultyDefinition bytes ds d f → IsFaulty bytes ds rs e → e ≡ Pattern d.substitute.from f
  apart_from_definition e d f v bad (no_rules m q) = absurd (none_ends bytes rs m v.ends)
  apart_from_definition e d f v bad (dangling_bar s m c q) = absurd (bar_ends bytes rs s m c v.ends)
  apart_from_definition e d f v bad (many_rules w lt q) = absurd (too_many bytes rs lt v)
  apart_from_definition e d f v bad (definition c g w h q) =
      let same = patterns.one_refusal (all_spelled bytes ds) bad.index h.index f g bad.refused h.refused in
      let there : slice_get ds bad.index ≡ Some c = subst (λ (i : ℕ). slice_get ds i ≡ Some c) (sym same.0) h.stands in
      let is : d ≡ c = same_Some d c (sym bad.stands ∙ there) in
      let fault : f ≡ g = same.1 in
      q ∙ (ap (λ (x : Definition). Pattern x.substitute.from g) (sym is) ∙ ap (λ (x : PatternFault). Pattern d.substitute.from x) (sym fault))
  apart_from_definition e d f v bad (rule s g w a h q) = absurd (patterns.no_refusal (all_spelled bytes ds) bad.index f a bad.refused)
  apart_from_definition e d f v bad (many_positions ps w a h lt q) = absurd (patterns.no_refusal (all_spelled bytes ds) bad.index f a bad.refused)

  apart_from_rule : (e : LexError) (r : Rule) (f : PatternFault) → AreRules bytes rs → AreAccepted (all_spelled bytes ds) → IsFirstFaulty (all_spelled bytes ds) bytes rs r f → IsFaulty bytes ds rs e → e ≡ Pattern r.pattern.from f
  apart_from_rule e r f v ok bad (no_rules m q) = absurd (none_ends bytes rs m v.ends)
  apart_from_rule e r f v ok bad (dangling_bar s m c q) = absurd (bar_ends bytes rs s m c v.ends)
  apart_from_rule e r f v ok bad (many_rules w lt q) = absurd (too_many bytes rs lt v)
  apart_from_rule e r f v ok bad (definition c g w h q) = absurd (patterns.no_refusal (all_spelled bytes ds) h.index g ok h.refused)
  apart_from_rule e r f v ok bad (rule s g w a h q) =
      let same = one_faulty (all_spelled bytes ds) bytes rs s r g f (faulty_from (all_spelled bytes ds) bytes rs s g h) (faulty_from (all_spelled bytes ds) bytes rs r f bad) in
      let is : s ≡ r = same.0 in
      let fault : g ≡ f = same.1 in
      q ∙ (ap (λ (x : Rule). Pattern x.pattern.from g) is ∙ ap (λ (x : PatternFault). Pattern r.pattern.from x) fault)
  apart_from_rule e r f v ok bad (many_positions ps w a h lt q) = absurd (faulty_or_not (all_spelled bytes ds) bytes rs r f ps (faulty_from (all_spelled bytes ds) bytes rs r f bad) h)

  apart_from_positions : (e : LexError) (ps : List Regex) → AreRules bytes rs → AreAccepted (all_spelled bytes ds) → HavePatterns (all_spelled bytes ds) bytes rs ps → IsFaulty bytes ds rs e → e ≡ Limit Positions (positions ps) 16384
  apart_from_positions e ps v ok has (no_rules m q) = absurd (none_ends bytes rs m v.ends)
  apart_from_positions e ps v ok has (dangling_bar s m c q) = absurd (bar_ends bytes rs s m c v.ends)
  apart_from_positions e ps v ok has (many_rules w lt q) = absurd (too_many bytes rs lt v)
  apart_from_positions e ps v ok has (definition c g w h q) = absurd (patterns.no_refusal (all_spelled bytes ds) h.index g ok h.refused)
  apart_from_positions e ps v ok has (rule s g w a h q) = absurd (faulty_or_not (all_spelled bytes ds) bytes rs s g ps (faulty_from (all_spelled bytes ds) bytes rs s g h) has)
  apart_from_positions e ps v ok has (many_positions qs w a h lt q) = q ∙ ap (λ (xs : List Regex). Limit Positions (positions xs) 16384) (one_list_of_patterns (all_spelled bytes ds) bytes rs qs ps h has)

  one_fault_of : (e f : LexError) → IsFaulty bytes ds rs e → IsFaulty bytes ds rs f → e ≡ f
  one_fault_of e f (no_rules n p) y = p ∙ sym (apart_from_none f n y)
  one_fault_of e f (dangling_bar r l b p) y = p ∙ sym (apart_from_bar f r l b y)
  one_fault_of e f (many_rules w lt p) y = p ∙ sym (apart_from_many f w lt y)
  one_fault_of e f (definition d g w h p) y = p ∙ sym (apart_from_definition f d g w h y)
  one_fault_of e f (rule r g w a h p) y = p ∙ sym (apart_from_rule f r g w a h y)
  one_fault_of e f (many_positions ps w a h lt p) y = p ∙ sym (apart_from_positions f ps w a h y)

  no_fault_of : (e : LexError) (ps : List Regex) → AreRules bytes rs → AreAccepted (all_spelled bytes ds) → HavePatterns (all_spelled bytes ds) bytes rs ps → positions ps ≤ 16384 → IsFaulty bytes ds rs e → ⊥
  no_fault_of e ps v ok has few (no_rules m q) = none_ends bytes rs m v.ends
  no_fault_of e ps v ok has few (dangling_bar s m c q) = bar_ends bytes rs s m c v.ends
  no_fault_of e ps v ok has few (many_rules w lt q) = too_many bytes rs lt v
  no_fault_of e ps v ok has few (definition c g w h q) = patterns.no_refusal (all_spelled bytes ds) h.index g ok h.refused
  no_fault_of e ps v ok has few (rule s g w a h q) = faulty_or_not (all_spelled bytes ds) bytes rs s g ps (faulty_from (all_spelled bytes ds) bytes rs s g h) has
  no_fault_of e ps v ok has few (many_positions qs w a h lt q) = omega (arith, few, lt, ap positions (one_list_of_patterns (all_spelled bytes ds) bytes rs qs ps h has))

-- ---- the whole file

move_faulty : (bytes : List ℕ) (ds es : List Definition) (rs qs : List Rule) (e : LexError) → ds ≡ es → rs ≡ qs → IsFaulty bytes es qs e → IsFaulty bytes ds rs e
move_faulty bytes ds es rs qs e p q h = subst (λ (xs : List Definition). IsFaulty bytes xs rs e) (sym p) (subst (λ (xs : List Rule). IsFaulty bytes es xs e) (sym q) h)

pub one_refusal : (bytes : List ℕ) → AreRefusedOnce bytes
one_refusal bytes e f (stops s x p) (stops t y q) = p ∙ (ap error_of (layout.one_stop bytes s t x y) ∙ sym q)
one_refusal bytes e f (stops s x p) (faulty ds rs h y) = absurd (layout.stopped_has_no_layout bytes s ds rs x h)
one_refusal bytes e f (faulty ds rs h x) (stops t y q) = absurd (layout.stopped_has_no_layout bytes t ds rs y h)
one_refusal bytes e f (faulty ds rs h x) (faulty es qs i y) =
    let same = layout.one_layout bytes ds es rs qs h i in
    one_fault_of bytes ds rs e f x (move_faulty bytes ds es rs qs f same.0 same.1 y)

pub refused_is_not_accepted : (bytes : List ℕ) (yacc : tokens.File) → AreNotAcceptedWhereRefused bytes yacc
refused_is_not_accepted bytes yacc file e (stops s x p) a = layout.stopped_has_no_layout bytes s a.definitions a.rules x a.layout
refused_is_not_accepted bytes yacc file e (faulty es qs i y) a =
    let same = layout.one_layout bytes a.definitions es a.rules qs a.layout i in
    no_fault_of bytes a.definitions a.rules e file.patterns a.are_rules a.accepted a.patterns a.few (move_faulty bytes a.definitions es a.rules qs e same.0 same.1 y)
