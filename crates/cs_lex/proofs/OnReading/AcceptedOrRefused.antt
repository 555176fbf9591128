-- Bytes are accepted or refused.
use Rattle.std.proofs.Common.{◌≡◌, ◌⊎◌, ℕ, List, [], ◌∷◌, ◌++◌, length, refl, ap, subst, inl, inr}
use Rattle.std.specs.List.{AllByRecursion}
use Rattle.std.proofs.lemmas.Bool.{cases_lt}
use Rattle.cs_pattern.specs.declared.text.fault.PatternFault.{PatternFault}
use Rattle.cs_pattern.specs.Text.Checking.{AreAccepted}
use Rattle.cs_pattern.specs.Operations.Definitions as definitions
use Rattle.cs_pattern_parts.specs.Tree.Pattern.{Regex}
use Rattle.cs_pattern.proofs.OnText.DefinitionsSettled as checked
use Rattle.cs_pattern.proofs.OnText.Existing.{has_answer}
use Rattle.cs_yacc.specs.Reading.File as tokens
use Rattle.cs_lex.specs.declared.layout.parts.Definition.{Definition}
use Rattle.cs_lex.specs.declared.layout.parts.Rule.{Rule}
use Rattle.cs_lex.specs.Layout.Layout.{HasLayout, in_rules}
use Rattle.cs_lex.specs.Layout.Settled.{Stops, EndsOrStops}
use Rattle.cs_lex.specs.declared.reading.error.LexError.{LexError}
use Rattle.cs_lex.specs.declared.reading.error.LexError.TheVariants.{NoRules, DanglingBar, Limit, Pattern}
use Rattle.cs_lex.specs.declared.reading.error.LexLimit.TheVariants.{Rules, Positions}
use Rattle.cs_lex.specs.Reading.Errors.{error_of}
use Rattle.cs_lex.specs.Reading.Kinds.{IsBarRule}
use Rattle.cs_lex.specs.Reading.Laws.{IsAcceptedOrRefused}
use Rattle.cs_lex.specs.Reading.Patterns.{all_spelled, pattern_of, HavePatterns, positions}
use Rattle.cs_lex.specs.Reading.Reading.{AreRules, IsFirstFaulty, IsFaulty, no_rules, dangling_bar, many_rules, definition, rule, many_positions, stops, faulty}
use Rattle.cs_lex.specs.Reading.Settled.{HasActionKind, KindsEndOrStop}
use Rattle.cs_lex.proofs.OnReading.DefinitionsFound.{refused_there}
use Rattle.cs_lex.proofs.OnReading.KindsSettled.{literals_of, kinds_of, bar_or_not}

-- the rules have patterns, or a first one is refused
module _ (ds : List definitions.Definition) (accepted : AreAccepted ds) (bytes : List ℕ) where
  abbrev FirstFaulty : List Rule → Type 0
  FirstFaulty rs = (r : Rule) × (f : PatternFault) × IsFirstFaulty ds bytes rs r f

  patterns_or_fault : (rs : List Rule) → ((ps : List Regex) × HavePatterns ds bytes rs ps) ⊎ FirstFaulty rs
  patterns_or_fault [] = inl ([], refl)
  patterns_or_fault (r ∷ rs) = elim (has_answer ds (pattern_of bytes r) accepted) [
    | inl p ↦ elim (patterns_or_fault rs) [
      | inl ps ↦ inl (p.0 ∷ ps.0, (p.1, ps.1))
      | inr bad ↦
          let h = bad.2 in
          inr (bad.0, bad.1, record { before = r ∷ h.before; behind = h.behind; stands = ap (λ (qs : List Rule). r ∷ qs) h.stands; patterns = p.0 ∷ h.patterns; have = (p.1, h.have); refused = h.refused })
    ]
    | inr bad ↦ inr (r, bad.0, record { before = []; behind = rs; stands = refl; patterns = []; have = refl; refused = bad.1 })
  ]

-- the last of rules
record LastOf (bytes : List ℕ) (rs : List Rule) : Type 0 where
  before : List Rule
  last : Rule
  is : rs ≡ before ++ last ∷ []
  kind : HasActionKind bytes last

last_of : (bytes : List ℕ) (r : Rule) (rs : List Rule) → AllByRecursion (HasActionKind bytes) (r ∷ rs) → LastOf bytes (r ∷ rs)
last_of bytes r [] have = record { before = []; last = r; is = refl; kind = have.0 }
last_of bytes r (q ∷ rs) have =
    let l = last_of bytes q rs have.1 in
    record { before = r ∷ l.before; last = l.last; is = ap (λ (qs : List Rule). r ∷ qs) l.is; kind = l.kind }

a_definition : Definition
a_definition = record { at = 0; name = record { from = 0; to = 0 }; substitute = record { from = 0; to = 0 } }

module _ (bytes : List ℕ) (yacc : tokens.File) where
  module _ (ds : List Definition) (rs : List Rule) (has : HasLayout bytes ds rs) (have : AllByRecursion (HasActionKind bytes) rs) where
    refused : (e : LexError) → IsFaulty bytes ds rs e → IsAcceptedOrRefused bytes yacc
    refused e f = inr (e, faulty ds rs has f)

    module _ (before : List Rule) (last : Rule) (is : rs ≡ before ++ last ∷ []) where
      by_positions : AreRules bytes rs → AreAccepted (all_spelled bytes ds) → (IsBarRule bytes last → ⊥) → (ps : List Regex) → HavePatterns (all_spelled bytes ds) bytes rs ps → IsAcceptedOrRefused bytes yacc
      by_positions are ok ends ps have_patterns = elim (cases_lt 16384 (positions ps)) [
        | inl many ↦ refused (Limit Positions (positions ps) 16384) (many_positions ps are ok have_patterns many refl)
        | inr few ↦
            let k = kinds_of yacc bytes before last (subst (AllByRecursion (HasActionKind bytes)) is have) ends in
            let l = literals_of yacc in
            inl (
              record { patterns = ps; kinds = k.0 ∷ k.1; literals = l.0 },
              record {
                definitions = ds;
                rules = rs;
                layout = has;
                are_rules = are;
                accepted = ok;
                patterns = have_patterns;
                few = few;
                kinds = rw is k.2;
                literals = l.1;
              },
            )
      ]

      by_patterns : AreRules bytes rs → (IsBarRule bytes last → ⊥) → AreAccepted (all_spelled bytes ds) → IsAcceptedOrRefused bytes yacc
      by_patterns are ends ok = elim (patterns_or_fault (all_spelled bytes ds) ok bytes rs) [
        | inl ps ↦ by_positions are ok ends ps.0 ps.1
        | inr r ↦ refused (Pattern r.0.pattern.from r.1) (rule r.0 r.1 are ok r.2 refl)
      ]

      by_definitions : AreRules bytes rs → (IsBarRule bytes last → ⊥) → IsAcceptedOrRefused bytes yacc
      by_definitions are ends = elim (checked.accepted_or_refused (all_spelled bytes ds)) [
        | inl ok ↦ by_patterns are ends ok
        | inr h ↦
            let d = refused_there bytes ds (all_spelled bytes ds) h.0.0 h.0.1 a_definition refl h.1 in
            refused (Pattern d.0.substitute.from h.0.1) (definition d.0 h.0.1 are d.1 refl)
      ]

      by_count : (IsBarRule bytes last → ⊥) → IsAcceptedOrRefused bytes yacc
      by_count ends = elim (cases_lt 2048 (length rs)) [
        | inl many ↦ refused (Limit Rules (length rs) 2048) (many_rules (last, (before, is), ends) many refl)
        | inr few ↦ by_definitions (record { ends = (last, (before, is), ends); few = few }) ends
      ]

      by_last : HasActionKind bytes last → IsAcceptedOrRefused bytes yacc
      by_last kind = elim (bar_or_not bytes last kind) [
        | inl b ↦ refused (DanglingBar last.at) (dangling_bar last (before, is) b refl)
        | inr ends ↦ by_count ends
      ]

  by_rules : (ds : List Definition) (rs : List Rule) → HasLayout bytes ds rs → AllByRecursion (HasActionKind bytes) rs → IsAcceptedOrRefused bytes yacc
  by_rules ds [] has have = refused ds [] has have NoRules (no_rules refl refl)
  by_rules ds (r ∷ rs) has have = let l = last_of bytes r rs have in by_last ds (r ∷ rs) has have l.before l.last l.is l.kind

  pub stopped : Stops bytes → IsAcceptedOrRefused bytes yacc
  stopped s = inr (error_of s.0, stops s.0 s.1 refl)

  pub settled : (from : ℕ) → EndsOrStops bytes from → KindsEndOrStop bytes from → IsAcceptedOrRefused bytes yacc
  settled from (inl s) rules = stopped s
  settled from (inr h) (inl r) = by_rules h.0 r.0 (record { from = from; definitions = h.1; rules = r.1 }) r.2
  settled from (inr h) (inr r) = stopped (r.0, in_rules h.0 from h.1 r.1.0 r.1.1 r.1.2)
