-- The whole of reading.
use Rattle.std.proofs.Common.{◌≡◌, ℕ, suc, ◌≤◌, List, [], ◌∷◌, length, refl, sym, ap, subst, ◌∙◌, arith}
use Rattle.std.specs.Prelude.{All}
use Rattle.cs_pattern_parts.specs.declared.kind.Kind.{Kind}
use Rattle.cs_pattern.specs.Text.Checking.{AreAccepted}
use Rattle.cs_pattern.specs.Operations.Definitions as definitions
use Rattle.cs_pattern_parts.specs.Tree.Pattern.{Regex, regexes}
use Rattle.cs_yacc.specs.Reading.File as tokens
use Rattle.cs_lex.specs.declared.layout.error.LayoutError as layout
use Rattle.cs_lex.specs.declared.layout.error.LayoutError.TheVariants as kinds
use Rattle.cs_lex.specs.declared.layout.parts.Definition.{Definition}
use Rattle.cs_lex.specs.declared.layout.parts.Rule.{Rule}
use Rattle.cs_lex.specs.Layout.Answers.{AnswersError}
use Rattle.cs_lex.specs.Layout.Layout.{HasLayout}
use Rattle.cs_lex.specs.declared.reading.error.LexError.{LexError}
use Rattle.cs_lex.specs.declared.reading.error.LexError.TheVariants.{Unended, Layout, UnknownDirective, UnknownOption, StartCondition, NoRules, DanglingBar, Limit, Memory}
use Rattle.cs_lex.specs.declared.reading.error.LexError.TheVariants as errors
use Rattle.cs_lex.specs.declared.reading.error.LexLimit.TheVariants.{Positions}
use Rattle.cs_lex.specs.declared.reading.patterns.Collected as code
use Rattle.cs_lex.specs.Reading.Errors.{error_of}
use Rattle.cs_lex.specs.Reading.File.{File, IsFile, HasTokensOf}
use Rattle.cs_lex.specs.Reading.Found.{RulesRefused, RefusesSubstitute, RefusesSome, RefusesPositions, HasCollected}
use Rattle.cs_lex.specs.Reading.Kinds.{HaveKinds}
use Rattle.cs_lex.specs.Reading.Patterns.{all_spelled, HavePatterns, positions}
use Rattle.cs_lex.specs.Reading.Reading.{AreRules, IsLexFile, definition, rule, many_positions, Refuses, stops, faulty, RefusesOrMemory}
use Rattle.cs_pattern_parts.specs.Tree.Scannable.{IsScannable}
use Rattle.cs_lex.specs.Reading.Tokens.{AreLiterals}
use Rattle.cs_lex.proofs.OnReading.TokensNamed.{has_tokens}

pub refuses : (bytes : List ℕ) (e : LexError) → Refuses e bytes → RefusesOrMemory bytes e
refuses bytes (Unended at) r = r
refuses bytes (Layout at) r = r
refuses bytes (UnknownDirective at) r = r
refuses bytes (UnknownOption at) r = r
refuses bytes (StartCondition at) r = r
refuses bytes NoRules r = r
refuses bytes (DanglingBar at) r = r
refuses bytes (Limit which found most) r = r
refuses bytes (errors.Pattern at f) r = r
refuses bytes Memory r = tt

pub layout_refused : (bytes : List ℕ) (e : layout.LayoutError) → AnswersError bytes e → RefusesOrMemory bytes (error_of e)
layout_refused bytes (kinds.Unended at) s = stops (kinds.Unended at) s refl
layout_refused bytes (kinds.Layout at) s = stops (kinds.Layout at) s refl
layout_refused bytes (kinds.UnknownDirective at) s = stops (kinds.UnknownDirective at) s refl
layout_refused bytes (kinds.UnknownOption at) s = stops (kinds.UnknownOption at) s refl
layout_refused bytes (kinds.StartCondition at) s = stops (kinds.StartCondition at) s refl
layout_refused bytes kinds.Memory s = tt

module _ (bytes : List ℕ) (ds : List Definition) (rs : List Rule) (has : HasLayout bytes ds rs) where
  pub rules_refused : (e : LexError) → RulesRefused bytes rs e → RefusesOrMemory bytes e
  rules_refused e r = refuses bytes e (faulty ds rs has (r ds))

  module _ (are : AreRules bytes rs) where
    pub definitions_refused : (e : LexError) → RefusesSubstitute bytes ds e → RefusesOrMemory bytes e
    definitions_refused (errors.Pattern at f) r = faulty ds rs has (definition r.0 f are r.1 (ap (λ (n : ℕ). errors.Pattern n f) r.2))
    definitions_refused Memory r = tt
    definitions_refused (Unended at) r = absurd r
    definitions_refused (Layout at) r = absurd r
    definitions_refused (UnknownDirective at) r = absurd r
    definitions_refused (UnknownOption at) r = absurd r
    definitions_refused (StartCondition at) r = absurd r
    definitions_refused NoRules r = absurd r
    definitions_refused (DanglingBar at) r = absurd r
    definitions_refused (Limit which found most) r = absurd r

    module _ (checked : List definitions.Definition) (is : checked ≡ all_spelled bytes ds) (accepted : AreAccepted (all_spelled bytes ds)) where
      pub pattern_refused : (e : LexError) → RefusesSome checked bytes rs e → RefusesOrMemory bytes e
      pattern_refused e r = by_error e (subst (λ (xs : List definitions.Definition). RefusesSome xs bytes rs e) is r)
        where
          by_error : (f : LexError) → RefusesSome (all_spelled bytes ds) bytes rs f → RefusesOrMemory bytes f
          by_error (errors.Pattern at f) x = faulty ds rs has (rule x.0 f are accepted x.1 (ap (λ (n : ℕ). errors.Pattern n f) x.2))
          by_error Memory x = tt
          by_error (Unended at) x = absurd x
          by_error (Layout at) x = absurd x
          by_error (UnknownDirective at) x = absurd x
          by_error (UnknownOption at) x = absurd x
          by_error (StartCondition at) x = absurd x
          by_error NoRules x = absurd x
          by_error (DanglingBar at) x = absurd x
          by_error (Limit which found most) x = absurd x

      module _ (found : code.Collected) (collected : HasCollected checked bytes rs found) where
        have_there : HavePatterns (all_spelled bytes ds) bytes rs collected.patterns
        have_there = subst (λ (xs : List definitions.Definition). HavePatterns xs bytes rs collected.patterns) is collected.have

        pub positions_refused : (e : LexError) → RefusesPositions found e → RefusesOrMemory bytes e
        positions_refused e r =
            refuses bytes e (faulty ds rs has (many_positions collected.patterns are accepted have_there (omega (arith, r.0, collected.counted)) (r.1 ∙ ap (λ (n : ℕ). Limit Positions n 16384) collected.counted)))

        module _ (yacc : tokens.File) (file : File) (few : found.leaves ≤ 16384) (patterns : file.patterns ≡ regexes found.patterns.items) (have_kinds : HaveKinds yacc bytes rs file.kinds) (literals : AreLiterals yacc file.literals) where
          same : file.patterns ≡ collected.patterns
          same = patterns ∙ collected.are_kept few

          positions_few : positions collected.patterns ≤ 16384
          positions_few = omega (arith, few, collected.counted)

          pub whole_file : IsLexFile bytes yacc file
          whole_file = record {
            definitions = ds;
            rules = rs;
            layout = has;
            are_rules = are;
            accepted = accepted;
            patterns = subst (HavePatterns (all_spelled bytes ds) bytes rs) (sym same) have_there;
            few = subst (λ (ps : List Regex). positions ps ≤ 16384) (sym same) positions_few;
            kinds = have_kinds;
            literals = literals;
          }

          pub whole_tokens : HasTokensOf (length yacc.token_names) file
          whole_tokens = has_tokens yacc bytes rs file have_kinds literals

          kind_count : (qs : List Rule) (ks : List Kind) → HaveKinds yacc bytes qs ks → length ks ≡ length qs
          kind_count [] ks h = ap length h
          kind_count (q ∷ qs) [] h = absurd h
          kind_count (q ∷ qs) (k ∷ ks) h = ap suc (kind_count qs ks h.1)

          pattern_count : (qs : List Rule) (ps : List Regex) → HavePatterns (all_spelled bytes ds) bytes qs ps → length ps ≡ length qs
          pattern_count [] ps h = ap length h
          pattern_count (q ∷ qs) [] h = absurd h
          pattern_count (q ∷ qs) (p ∷ ps) h = ap suc (pattern_count qs ps h.1)

          pub whole_fits : IsFile file
          whole_fits =
              let count : length file.patterns ≡ length rs = ap length same ∙ pattern_count rs collected.patterns have_there in
              record {
                kinds = kind_count rs file.kinds have_kinds ∙ sym count;
                literals = literals.count;
                scannable = record {
                  few = omega (arith, count, are.few);
                  positions = subst (λ (ps : List Regex). positions ps ≤ 16384) (sym same) positions_few;
                  each = subst (All IsScannable) (sym same) collected.scannable;
                };
              }
