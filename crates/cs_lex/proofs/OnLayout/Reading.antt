-- Reading a lex file line by line.
use Rattle.std.proofs.Common.{◌≡◌, ℕ, zero, suc, ◌+◌, ◌-◌, ◌<◌, ◌≤◌, Bool, true, false, cond, not, eqb, List, [], ◌∷◌, ◌++◌, length, take, drop, refl, sym, ap, subst, ◌∙◌, arith}
use Rattle.std.specs.Prelude.{codes}
use Rattle.std.specs.List.{prefix_len, take_while}
use Rattle.std.specs.Str.{bytes_eq}
use Rattle.std.proofs.lemmas.List.{map_push, drop_all}
use Rattle.std.proofs.lemmas.Slice.Eq.{bytes_eq-Decides}
use Rattle.cs_bytes.specs.Places.{begins_with}
use Rattle.cs_lex.specs.declared.layout.line.LineKind.TheVariants as kinds
use Rattle.cs_lex.specs.declared.layout.parts.Definition.{Definition}
use Rattle.cs_lex.specs.declared.layout.parts.Rule.{Rule}
use Rattle.cs_lex.specs.declared.layout.error.LayoutError.{LayoutError}
use Rattle.cs_lex.specs.declared.layout.error.LayoutError.TheVariants.{Unended, Layout, UnknownDirective, UnknownOption, StartCondition, Memory}
use Rattle.cs_lex.specs.Layout.Runs.{IsOpenRun}
use Rattle.cs_lex.specs.Layout.Steps.{Walk, here}
use Rattle.cs_bytes.specs.Places.{line_size, front}
use Rattle.cs_bytes.specs.Classes.{begins_word, is_dashed_word_byte}
use Rattle.cs_lex.specs.Layout.Lines.{is_among, skipped_words, begins_condition, begins_loose, word_kind, percent_kind, definitions_kind, rules_kind}
use Rattle.cs_lex.specs.Layout.Forms.{line_of, IsCodeBlock, IsNoDefinition, IsOpenRule}
use Rattle.cs_lex.specs.Layout.Layout.{bytes_of, names_of, has_name, HasDefinitionAt, IsPassed, DefinitionsLine, passed, definition, no_definitions, HasDefinitions, HasRuleAt, IsPassedRule, RulesLine, rule, no_rules, HasRules, no_form, defined_again, RulesFault, open_action, StopsWith, in_definitions, in_rules}
use Rattle.cs_lex.specs.Layout.Layout as spec
use Rattle.cs_lex.specs.Layout.Answers.{AnswersError}
use Rattle.cs_lex.specs.Layout.Places.{StopsInRulesOr}
use Rattle.cs_lex.proofs.OnLayout.Walks.{walk_push}

-- ---- what a line needs

option_word : (word : List ℕ) → word_kind word ≡ kinds.Options → bytes_eq word (codes "option") ≡ true
option_word word e = by_test (bytes_eq word (codes "option")) refl e
  where
    by_rest : (s c : Bool) → cond s kinds.Skipped (cond c kinds.Conditions kinds.Unknown) ≡ kinds.Options → false ≡ true
    by_rest true c f = absurd cc
    by_rest false true f = absurd cc
    by_rest false false f = absurd cc

    by_test : (t : Bool) → bytes_eq word (codes "option") ≡ t → cond t kinds.Options (cond (is_among skipped_words word) kinds.Skipped (cond (front begins_condition word) kinds.Conditions kinds.Unknown)) ≡ kinds.Options → t ≡ true
    by_test true p f = refl
    by_test false p f = by_rest (is_among skipped_words word) (front begins_condition word) f

option_rest : (rest : List ℕ) → percent_kind rest ≡ kinds.Options → 6 ≤ length rest
option_rest rest e = by_test (begins_with 37 rest) (begins_with 123 rest) e
  where
    long : word_kind (take_while is_dashed_word_byte rest) ≡ kinds.Options → 6 ≤ length rest
    long f =
        let same : take (prefix_len is_dashed_word_byte rest) rest ≡ codes "option" = (bytes_eq-Decides (take_while is_dashed_word_byte rest) (codes "option")).0 (option_word (take_while is_dashed_word_byte rest) f) in
        let size : length (take (prefix_len is_dashed_word_byte rest) rest) ≡ 6 = ap length same in
        omega (arith, size, length_take (prefix_len is_dashed_word_byte rest) rest)
      where
        length_take : (n : ℕ) (xs : List ℕ) → length (take n xs) ≤ length xs
        length_take zero xs = omega arith
        length_take (suc n) [] = omega arith
        length_take (suc n) (x ∷ xs) = omega (arith, length_take n xs)

    by_test : (t u : Bool) → cond t kinds.SectionEnd (cond u kinds.Block (word_kind (take_while is_dashed_word_byte rest))) ≡ kinds.Options → 6 ≤ length rest
    by_test true u f = absurd cc
    by_test false true f = absurd cc
    by_test false false f = long f

-- an `%option` line has seven bytes at least
pub options_long : (text : List ℕ) → definitions_kind text ≡ kinds.Options → 7 ≤ length text
options_long [] e = absurd cc
options_long (b ∷ text) e = by_test (eqb b 37) (begins_loose (b ∷ text)) (front begins_word (b ∷ text)) e
  where
    by_test : (t u v : Bool) → cond t (percent_kind text) (cond u kinds.Loose (cond v kinds.Definition kinds.NoForm)) ≡ kinds.Options → 7 ≤ length (b ∷ text)
    by_test true u v f = omega (arith, option_rest text f)
    by_test false true v f = absurd cc
    by_test false false true f = absurd cc
    by_test false false false f = absurd cc

-- ---- definitions

not_true : (b : Bool) → not b ≡ true → b ≡ false
not_true true e = sym e
not_true false e = refl

not_false : (b : Bool) → not b ≡ false → b ≡ true
not_false true e = refl
not_false false e = sym e

module _ (bytes : List ℕ) (at : ℕ) (ds : List Definition) (so_far : Walk (DefinitionsLine bytes) no_definitions (record { at = at; definitions = ds })) where
  pub passed_more : (to : ℕ) → at < to → IsPassed (drop at bytes) (to - at) → Walk (DefinitionsLine bytes) no_definitions (record { at = to; definitions = ds })
  passed_more to lt p = let e : at + (to - at) ≡ to = omega arith in walk_push so_far (record { at = to; definitions = ds }) (passed (to - at) p (rw e refl))

  same_name : (d : Definition) (names : List (List ℕ)) (name : List ℕ) → names ≡ names_of bytes ds → name ≡ bytes_of bytes d.name → has_name (names_of bytes ds) (bytes_of bytes d.name) ≡ has_name names name
  same_name d names name is at_name = rw (is, at_name) refl

  pub defines_new : (d : Definition) (names : List (List ℕ)) (name : List ℕ) (is_new : Bool) (to : ℕ) (all : List Definition) → names ≡ names_of bytes ds → HasDefinitionAt bytes at d → name ≡ bytes_of bytes d.name → is_new ≡ not (has_name names name) → is_new ≡ true
      → to ≡ at + line_size (drop at bytes) → all ≡ ds ++ d ∷ [] → Walk (DefinitionsLine bytes) no_definitions (record { at = to; definitions = all })
  defines_new d names name is_new to all is def at_name says new e f = walk_push so_far (record { at = to; definitions = all }) (definition d def (same_name d names name is at_name ∙ not_true (has_name names name) (sym says ∙ new)) (rw (e, f) refl))

  pub defined_twice : (d : Definition) (names : List (List ℕ)) (name : List ℕ) (is_new : Bool) → names ≡ names_of bytes ds → HasDefinitionAt bytes at d → name ≡ bytes_of bytes d.name → is_new ≡ not (has_name names name) → is_new ≡ false → StopsWith bytes (Layout at)
  defined_twice d names name is_new is def at_name says old = in_definitions (record { at = at; definitions = ds }) so_far (defined_again d def (same_name d names name is at_name ∙ not_false (has_name names name) (sym says ∙ old)) refl)

  pub never_ends : length bytes ≤ at → StopsWith bytes (Layout at)
  never_ends le = in_definitions (record { at = at; definitions = ds }) so_far (no_form (ap definitions_kind (drop_all at bytes le)) refl)

pub names_more : (bytes : List ℕ) (ds all : List Definition) (d : Definition) (names more : List (List ℕ)) (name : List ℕ) → names ≡ names_of bytes ds → all ≡ ds ++ d ∷ [] → name ≡ bytes_of bytes d.name → more ≡ names ++ name ∷ [] → more ≡ names_of bytes all
names_more bytes ds all d names more name is f e g = rw (g, is, e, f) (sym (map_push (λ (x : Definition). bytes_of bytes x.name) ds d))

pub stop_answers : (bytes : List ℕ) (e : LayoutError) → StopsWith bytes e → AnswersError bytes e
stop_answers bytes (Unended at) s = s
stop_answers bytes (Layout at) s = s
stop_answers bytes (UnknownDirective at) s = s
stop_answers bytes (UnknownOption at) s = s
stop_answers bytes (StartCondition at) s = s
stop_answers bytes Memory s = tt

-- ---- rules

module _ (bytes : List ℕ) (from at : ℕ) (rs : List Rule) (so_far : Walk (RulesLine bytes) (no_rules from) (record { at = at; rules = rs })) where
  pub rule_passed : (to : ℕ) → at < to → IsPassedRule (drop at bytes) (to - at) → Walk (RulesLine bytes) (no_rules from) (record { at = to; rules = rs })
  rule_passed to lt p = let e : at + (to - at) ≡ to = omega arith in walk_push so_far (record { at = to; rules = rs }) (spec.RulesLine.passed (to - at) p (rw e refl))

  pub rule_more : (r : Rule) (to : ℕ) (all : List Rule) → HasRuleAt bytes at r to → all ≡ rs ++ r ∷ [] → Walk (RulesLine bytes) (no_rules from) (record { at = to; rules = all })
  rule_more r to all h e = walk_push so_far (record { at = to; rules = all }) (rule r to h (rw e refl))

  pub has_rules : rules_kind (drop at bytes) ≡ kinds.SectionEnd → HasRules bytes from rs
  has_rules e = record { at = at; lines = so_far; ends = e }

pub rules_stop : (bytes : List ℕ) (ds : List Definition) (from : ℕ) (e : LayoutError) → HasDefinitions bytes ds from → StopsInRulesOr bytes from e → AnswersError bytes e
rules_stop bytes ds from (Unended n) h s = in_rules ds from h s.0 s.1 s.2
rules_stop bytes ds from (Layout n) h s = in_rules ds from h s.0 s.1 s.2
rules_stop bytes ds from (UnknownDirective n) h s = in_rules ds from h s.0 s.1 s.2
rules_stop bytes ds from (UnknownOption n) h s = in_rules ds from h s.0 s.1 s.2
rules_stop bytes ds from (StartCondition n) h s = in_rules ds from h s.0 s.1 s.2
rules_stop bytes ds from Memory h s = tt

-- ---- what the code finds there

pub no_block_there : (bytes text : List ℕ) (at : ℕ) → text ≡ drop at bytes → ((n : ℕ) → ¬ IsCodeBlock text n) → (n : ℕ) → ¬ IsCodeBlock (drop at bytes) n
no_block_there bytes text at e none = subst (λ (t : List ℕ). (n : ℕ) → ¬ IsCodeBlock t n) e none

pub no_definition_there : (bytes text line : List ℕ) (at : ℕ) → text ≡ drop at bytes → line ≡ line_of text → IsNoDefinition line → (d : Definition) → ¬ HasDefinitionAt bytes at d
no_definition_there bytes text line at e f none d h =
    let there : IsNoDefinition (line_of (drop at bytes)) = subst IsNoDefinition (f ∙ ap line_of e) none in
    there h.name_to h.from h.to h.form

pub open_there : (bytes text : List ℕ) (at n : ℕ) → text ≡ drop at bytes → rules_kind (drop at bytes) ≡ kinds.Rule → IsOpenRule text n → RulesFault bytes at (Unended (at + n))
open_there bytes text at n e k h = open_action n k (subst (λ (t : List ℕ). IsOpenRule t n) e h) refl

pub loose_fault : (bytes : List ℕ) (at n : ℕ) (e : LayoutError) → rules_kind (drop at bytes) ≡ kinds.Loose → IsOpenRun false (drop at bytes) n → e ≡ Unended (at + n) → RulesFault bytes at e
loose_fault bytes at n e k h is = spec.RulesFault.open_comment n k h is

pub rules_start : (bytes : List ℕ) (from : ℕ) (rs : List Rule) → rs ≡ [] → Walk (RulesLine bytes) (no_rules from) (record { at = from; rules = rs })
rules_start bytes from rs e = rw e here

pub definitions_start : (bytes : List ℕ) (ds : List Definition) → ds ≡ [] → Walk (DefinitionsLine bytes) no_definitions (record { at = 0; definitions = ds })
definitions_start bytes ds e = rw e here
