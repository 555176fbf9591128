-- A text has one layout, or stops at one place, and not both.
use Rattle.std.proofs.Common.{◌≡◌, ℕ, ◌+◌, true, false, List, [], ◌∷◌, ◌++◌, drop, refl, sym, ap, subst, ◌∙◌, arith}
use Rattle.cs_lex.specs.declared.layout.line.LineKind.{LineKind}
use Rattle.cs_lex.specs.declared.layout.line.LineKind.TheVariants.{SectionEnd, Block, Loose}
use Rattle.cs_lex.specs.declared.layout.line.LineKind.TheVariants as kinds
use Rattle.cs_lex.specs.declared.layout.parts.Definition.{Definition}
use Rattle.cs_lex.specs.declared.layout.parts.Rule.{Rule}
use Rattle.cs_lex.specs.declared.layout.error.LayoutError.{LayoutError}
use Rattle.cs_lex.specs.declared.layout.error.LayoutError.TheVariants.{Unended}
use Rattle.cs_lex.specs.Layout.Steps.{Walk}
use Rattle.cs_bytes.specs.Places.{line_size}
use Rattle.cs_lex.specs.Layout.Lines.{rules_kind}
use Rattle.cs_lex.specs.Layout.Patterns.{IsPattern}
use Rattle.cs_lex.specs.Layout.Runs.{IsCodeRun, IsOpenRun}
use Rattle.cs_lex.specs.Layout.Forms.{blanks, IsCodeBlock, IsLoose, IsRule, IsOpenRule}
use Rattle.cs_lex.specs.Layout.Layout as spec
use Rattle.cs_lex.specs.Layout.Layout.{DefinitionsPlace, DefinitionsLine, no_definitions, HasDefinitions, RulesPlace, HasRuleAt, IsPassedRule, RulesLine, no_rules, HasRules, HasLayout, DefinitionsFault, RulesFault, StopsWith, in_definitions, in_rules}
use Rattle.cs_lex.proofs.OnLayout.Walks.{one_halt, Halts}
use Rattle.cs_lex.proofs.OnLayout.Extents.{pattern_same, run_same, open_run_same, run_not_open}
use Rattle.cs_lex.proofs.OnLayout.KindsOfLines.{code_block_same, loose_same, lines_one, faults_one, fault_halts, end_halts, end_no_fault}

-- ---- rules

rules_same : (bytes : List ℕ) (at : ℕ) (r q : Rule) (b d : ℕ) → HasRuleAt bytes at r b → HasRuleAt bytes at q d → (r ≡ q) × (b ≡ d)
rules_same bytes at r q b d x y =
    let p : x.pattern_to ≡ y.pattern_to = pattern_same (drop at bytes) x.pattern_to y.pattern_to x.form.pattern y.form.pattern in
    let f : x.from ≡ y.from = x.form.blank ∙ (ap (λ (k : ℕ). k + blanks (drop k (drop at bytes))) p ∙ sym y.form.blank) in
    let size : x.form.extent.0 ≡ y.form.extent.0 = run_same true (drop y.from (drop at bytes)) x.form.extent.0 y.form.extent.0 (subst (λ (k : ℕ). IsCodeRun true (drop k (drop at bytes)) x.form.extent.0) f x.form.extent.1) y.form.extent.1 in
    let t : x.to ≡ y.to = omega (arith, x.form.extent.2, y.form.extent.2, f, size) in
    let s : x.size ≡ y.size = x.form.ends ∙ (ap (λ (k : ℕ). k + line_size (drop k (drop at bytes))) t ∙ sym y.form.ends) in
    (x.is ∙ (rw (p, f, t) refl ∙ sym y.is), omega (arith, x.behind_is, y.behind_is, s))

open_from : (text : List ℕ) (n : ℕ) (x : IsOpenRule text n) (m : ℕ) → IsPattern text m → x.from ≡ m + blanks (drop m text)
open_from text n x m p = x.blank ∙ ap (λ (k : ℕ). k + blanks (drop k text)) (pattern_same text x.pattern_to m x.pattern p)

open_rule_same : (text : List ℕ) (n m : ℕ) → IsOpenRule text n → IsOpenRule text m → n ≡ m
open_rule_same text n m x y =
    let f : x.from ≡ y.from = open_from text n x y.pattern_to y.pattern ∙ sym y.blank in
    omega (arith, x.stays.2, y.stays.2, f, open_run_same true (drop y.from text) x.stays.0 y.stays.0 (subst (λ (k : ℕ). IsOpenRun true (drop k text) x.stays.0) f x.stays.1) y.stays.1)

rule_closed : (text : List ℕ) (a b c d n : ℕ) → IsRule text a b c d → IsOpenRule text n → ⊥
rule_closed text a b c d n x y =
    let f : y.from ≡ b = open_from text n y a x.pattern ∙ sym x.blank in
    run_not_open true (drop b text) x.extent.0 y.stays.0 x.extent.1 (subst (λ (k : ℕ). IsOpenRun true (drop k text) y.stays.0) f y.stays.1)

-- a line of this kind leads from the one place to the other
abbrev LineOf : LineKind → List ℕ → RulesPlace → RulesPlace → Type 0
LineOf Block bytes s t = (n : ℕ) × IsCodeBlock (drop s.at bytes) n × (t ≡ record { at = s.at + n; rules = s.rules })
LineOf Loose bytes s t = (n : ℕ) × IsLoose (drop s.at bytes) n × (t ≡ record { at = s.at + n; rules = s.rules })
LineOf kinds.Rule bytes s t = (r : Rule) × (behind : ℕ) × HasRuleAt bytes s.at r behind × (t ≡ record { at = behind; rules = s.rules ++ r ∷ [] })
LineOf k bytes s t = ⊥

abbrev FaultOf : LineKind → List ℕ → ℕ → LayoutError → Type 0
FaultOf Block bytes at e = ((n : ℕ) → ¬ IsCodeBlock (drop at bytes) n) × (e ≡ Unended at)
FaultOf Loose bytes at e = (n : ℕ) × IsOpenRun false (drop at bytes) n × (e ≡ Unended (at + n))
FaultOf kinds.Rule bytes at e = (n : ℕ) × IsOpenRule (drop at bytes) n × (e ≡ Unended (at + n))
FaultOf k bytes at e = ⊥

line_of : (bytes : List ℕ) (s t : RulesPlace) → RulesLine bytes s t → LineOf (rules_kind (drop s.at bytes)) bytes s t
line_of bytes s t (spec.RulesLine.passed n (spec.IsPassedRule.block k b) e) = subst (λ k. LineOf k bytes s t) (sym k) (n, b, e)
line_of bytes s t (spec.RulesLine.passed n (spec.IsPassedRule.loose k l) e) = subst (λ k. LineOf k bytes s t) (sym k) (n, l, e)
line_of bytes s t (spec.RulesLine.rule r behind h e) = subst (λ k. LineOf k bytes s t) (sym h.kind) (r, behind, h, e)

fault_of : (bytes : List ℕ) (at : ℕ) (e : LayoutError) → RulesFault bytes at e → FaultOf (rules_kind (drop at bytes)) bytes at e
fault_of bytes at e (spec.RulesFault.open_block k none is) = subst (λ k. FaultOf k bytes at e) (sym k) (none, is)
fault_of bytes at e (spec.RulesFault.open_comment n k h is) = subst (λ k. FaultOf k bytes at e) (sym k) (n, h, is)
fault_of bytes at e (spec.RulesFault.open_action n k h is) = subst (λ k. FaultOf k bytes at e) (sym k) (n, h, is)

line_same : (k : LineKind) (bytes : List ℕ) (s t u : RulesPlace) → LineOf k bytes s t → LineOf k bytes s u → t ≡ u
line_same Block bytes s t u x y = x.2 ∙ (ap (λ (n : ℕ). record { at = s.at + n; rules = s.rules }) (code_block_same (drop s.at bytes) x.0 y.0 x.1 y.1) ∙ sym y.2)
line_same Loose bytes s t u x y = x.2 ∙ (ap (λ (n : ℕ). record { at = s.at + n; rules = s.rules }) (loose_same (drop s.at bytes) x.0 y.0 x.1 y.1) ∙ sym y.2)
line_same kinds.Rule bytes s t u x y = let e = rules_same bytes s.at x.0 y.0 x.1 y.1 x.2 y.2 in x.3 ∙ (rw (e.0, e.1) refl ∙ sym y.3)
line_same k bytes s t u x y = absurd x

fault_same : (k : LineKind) (bytes : List ℕ) (at : ℕ) (e f : LayoutError) → FaultOf k bytes at e → FaultOf k bytes at f → e ≡ f
fault_same Block bytes at e f x y = x.1 ∙ sym y.1
fault_same Loose bytes at e f x y = x.2 ∙ (ap (λ (n : ℕ). Unended (at + n)) (open_run_same false (drop at bytes) x.0 y.0 x.1 y.1) ∙ sym y.2)
fault_same kinds.Rule bytes at e f x y = x.2 ∙ (ap (λ (n : ℕ). Unended (at + n)) (open_rule_same (drop at bytes) x.0 y.0 x.1 y.1) ∙ sym y.2)
fault_same k bytes at e f x y = absurd x

line_fault : (k : LineKind) (bytes : List ℕ) (s t : RulesPlace) (e : LayoutError) → LineOf k bytes s t → FaultOf k bytes s.at e → ⊥
line_fault Block bytes s t e x y = y.0 x.0 x.1
line_fault Loose bytes s t e x y = run_not_open false (drop s.at bytes) x.1.inside y.0 x.1.run y.1
line_fault kinds.Rule bytes s t e x y = rule_closed (drop s.at bytes) x.2.pattern_to x.2.from x.2.to x.2.size y.0 x.2.form y.1
line_fault k bytes s t e x y = x

rule_lines_one : (bytes : List ℕ) (s t u : RulesPlace) → RulesLine bytes s t → RulesLine bytes s u → t ≡ u
rule_lines_one bytes s t u x y = line_same (rules_kind (drop s.at bytes)) bytes s t u (line_of bytes s t x) (line_of bytes s u y)

rule_fault_halts : (bytes : List ℕ) (s : RulesPlace) (e : LayoutError) → RulesFault bytes s.at e → Halts (RulesLine bytes) s
rule_fault_halts bytes s e f t l = line_fault (rules_kind (drop s.at bytes)) bytes s t e (line_of bytes s t l) (fault_of bytes s.at e f)

rule_end_halts : (bytes : List ℕ) (s : RulesPlace) → rules_kind (drop s.at bytes) ≡ SectionEnd → Halts (RulesLine bytes) s
rule_end_halts bytes s e t l = subst (λ (k : LineKind). LineOf k bytes s t) e (line_of bytes s t l)

rule_end_no_fault : (bytes : List ℕ) (at : ℕ) (e : LayoutError) → rules_kind (drop at bytes) ≡ SectionEnd → RulesFault bytes at e → ⊥
rule_end_no_fault bytes at e k f = subst (λ (k : LineKind). FaultOf k bytes at e) k (fault_of bytes at e f)

-- ---- sections

definitions_same : (bytes : List ℕ) (ds es : List Definition) (a b : ℕ) → HasDefinitions bytes ds a → HasDefinitions bytes es b → (ds ≡ es) × (a ≡ b)
definitions_same bytes ds es a b x y =
    let s : DefinitionsPlace = record { at = x.at; definitions = ds } in
    let t : DefinitionsPlace = record { at = y.at; definitions = es } in
    let same : s ≡ t = one_halt (lines_one bytes) x.lines t y.lines (end_halts bytes s x.ends) (end_halts bytes t y.ends) in
    let at : x.at ≡ y.at = ap (λ (z : DefinitionsPlace). z.at) same in
    (ap (λ (z : DefinitionsPlace). z.definitions) same, x.behind_is ∙ (ap (λ (k : ℕ). k + line_size (drop k bytes)) at ∙ sym y.behind_is))

rules_section_same : (bytes : List ℕ) (from : ℕ) (rs qs : List Rule) → HasRules bytes from rs → HasRules bytes from qs → rs ≡ qs
rules_section_same bytes from rs qs x y =
    let s : RulesPlace = record { at = x.at; rules = rs } in
    let t : RulesPlace = record { at = y.at; rules = qs } in
    let same : s ≡ t = one_halt (rule_lines_one bytes) x.lines t y.lines (rule_end_halts bytes s x.ends) (rule_end_halts bytes t y.ends) in
    ap (λ (z : RulesPlace). z.rules) same

pub one_layout : (bytes : List ℕ) (ds es : List Definition) (rs qs : List Rule) → HasLayout bytes ds rs → HasLayout bytes es qs → (ds ≡ es) × (rs ≡ qs)
one_layout bytes ds es rs qs x y =
    let d = definitions_same bytes ds es x.from y.from x.definitions y.definitions in
    (d.0, rules_section_same bytes y.from rs qs (subst (λ (k : ℕ). HasRules bytes k rs) d.1 x.rules) y.rules)

-- where the definitions section ends, no line of it has a fault
ended_no_fault : (bytes : List ℕ) (ds : List Definition) (a : ℕ) (s : DefinitionsPlace) (e : LayoutError) → HasDefinitions bytes ds a → Walk (DefinitionsLine bytes) no_definitions s → DefinitionsFault bytes s e → ⊥
ended_no_fault bytes ds a s e x l f =
    let t : DefinitionsPlace = record { at = x.at; definitions = ds } in
    let same : s ≡ t = one_halt (lines_one bytes) l t x.lines (fault_halts bytes s e f) (end_halts bytes t x.ends) in
    end_no_fault bytes t e x.ends (subst (λ (z : DefinitionsPlace). DefinitionsFault bytes z e) same f)

pub one_stop : (bytes : List ℕ) (e f : LayoutError) → StopsWith bytes e → StopsWith bytes f → e ≡ f
one_stop bytes e f (in_definitions s l x) (in_definitions t m y) =
    let same : s ≡ t = one_halt (lines_one bytes) l t m (fault_halts bytes s e x) (fault_halts bytes t f y) in
    faults_one bytes t e f (subst (λ (z : DefinitionsPlace). DefinitionsFault bytes z e) same x) y
one_stop bytes e f (in_definitions s l x) (in_rules ds from h t m y) = absurd (ended_no_fault bytes ds from s e h l x)
one_stop bytes e f (in_rules ds from h s l x) (in_definitions t m y) = absurd (ended_no_fault bytes ds from t f h m y)
one_stop bytes e f (in_rules ds a h s l x) (in_rules es b i t m y) =
    let d = definitions_same bytes ds es a b h i in
    let there : Walk (RulesLine bytes) (no_rules b) s = subst (λ (k : ℕ). Walk (RulesLine bytes) (no_rules k) s) d.1 l in
    let same : s ≡ t = one_halt (rule_lines_one bytes) there t m (rule_fault_halts bytes s e x) (rule_fault_halts bytes t f y) in
    fault_same (rules_kind (drop t.at bytes)) bytes t.at e f (fault_of bytes t.at e (subst (λ (z : RulesPlace). RulesFault bytes z.at e) same x)) (fault_of bytes t.at f y)

pub stopped_has_no_layout : (bytes : List ℕ) (e : LayoutError) (ds : List Definition) (rs : List Rule) → StopsWith bytes e → HasLayout bytes ds rs → ⊥
stopped_has_no_layout bytes e ds rs (in_definitions s l x) h = ended_no_fault bytes ds h.from s e h.definitions l x
stopped_has_no_layout bytes e ds rs (in_rules es b i t m y) h =
    let d = definitions_same bytes ds es h.from b h.definitions i in
    let u : RulesPlace = record { at = h.rules.at; rules = rs } in
    let there : Walk (RulesLine bytes) (no_rules b) u = subst (λ (k : ℕ). Walk (RulesLine bytes) (no_rules k) u) d.1 h.rules.lines in
    let same : t ≡ u = one_halt (rule_lines_one bytes) m u there (rule_fault_halts bytes t e y) (rule_end_halts bytes u h.rules.ends) in
    rule_end_no_fault bytes u.at e h.rules.ends (subst (λ (z : RulesPlace). RulesFault bytes z.at e) same y)
