-- Lines by their kinds: each place has one next line, or one fault, or ends its section.
use Rattle.std.proofs.Common.{◌≡◌, ℕ, zero, suc, ◌+◌, ◌<◌, true, false, List, [], ◌∷◌, ◌++◌, drop, refl, sym, ap, subst, ◌∙◌, ◌⊎◌, inl, inr, arith, IsTrue}
use Rattle.std.proofs.lemmas.Bool.{false≢true}
use Rattle.cs_lex.specs.declared.layout.line.LineKind.{LineKind}
use Rattle.cs_lex.specs.declared.layout.line.LineKind.TheVariants.{SectionEnd, Block, Options, Skipped, Conditions, Unknown, Loose, NoForm}
use Rattle.cs_lex.specs.declared.layout.line.LineKind.TheVariants as kinds
use Rattle.cs_lex.specs.declared.layout.parts.Definition.{Definition}
use Rattle.cs_lex.specs.declared.layout.error.LayoutError.{LayoutError}
use Rattle.cs_lex.specs.declared.layout.error.LayoutError.TheVariants.{Unended, Layout, UnknownDirective, UnknownOption, StartCondition}
use Rattle.cs_lex.specs.Layout.Steps.{HasSize}
use Rattle.cs_bytes.specs.Places.{line_size, front}
use Rattle.cs_lex.specs.Layout.Lines.{definitions_kind, option_size, is_option_byte}
use Rattle.cs_lex.specs.Layout.Patterns.{IsPattern}
use Rattle.cs_lex.specs.Layout.Runs.{IsOpenRun}
use Rattle.cs_lex.specs.Layout.Forms as forms
use Rattle.cs_lex.specs.Layout.Forms.{blanks, options_of, IsCodeBlock, AreOptions, IsFirstUnknown, IsLoose}
use Rattle.cs_lex.specs.Layout.Layout as spec
use Rattle.cs_lex.specs.Layout.Layout.{bytes_of, names_of, has_name, DefinitionsPlace, HasDefinitionAt, IsPassed, DefinitionsLine, DefinitionsFault}
use Rattle.cs_lex.proofs.OnLayout.Walks.{StopsBefore, covers_same, covers_apart, sized_unique, sized_none, Halts}
use Rattle.cs_lex.proofs.OnLayout.Extents.{pattern_same, run_same, open_run_same, run_not_open}

-- ---- forms have one end

order : (a b : ℕ) → (a < b) ⊎ ((a ≡ b) ⊎ (b < a))
order zero zero = inr (inl refl)
order zero (suc b) = inl (omega arith)
order (suc a) zero = inr (inr (omega arith))
order (suc a) (suc b) = up (order a b)
  where
    up : (a < b) ⊎ ((a ≡ b) ⊎ (b < a)) → (suc a < suc b) ⊎ ((suc a ≡ suc b) ⊎ (suc b < suc a))
    up (inl h) = inl (omega arith)
    up (inr (inl h)) = inr (inl (omega arith))
    up (inr (inr h)) = inr (inr (omega arith))

pub code_block_same : (text : List ℕ) (n m : ℕ) → IsCodeBlock text n → IsCodeBlock text m → n ≡ m
code_block_same text n m x y = by_order (order x.inside y.inside)
  where
    by_order : (x.inside < y.inside) ⊎ ((x.inside ≡ y.inside) ⊎ (y.inside < x.inside)) → n ≡ m
    by_order (inl lt) = absurd (false≢true (sym (y.first x.inside lt) ∙ x.closed))
    by_order (inr (inl e)) = x.ends ∙ (ap (λ (k : ℕ). k + 1 + line_size (drop (k + 1) text)) e ∙ sym y.ends)
    by_order (inr (inr gt)) = absurd (false≢true (sym (x.first y.inside gt) ∙ y.closed))

pub loose_same : (text : List ℕ) (n m : ℕ) → IsLoose text n → IsLoose text m → n ≡ m
loose_same text n m x y = x.ends ∙ (ap (λ (k : ℕ). k + line_size (drop k text)) (run_same false text x.inside y.inside x.run y.run) ∙ sym y.ends)

nothing_ends : StopsBefore (HasSize option_size) (λ rest. rest ≡ [])
nothing_ends text n e u = sized_none option_size text (ap option_size e) n u

unknown_ends : StopsBefore (HasSize option_size) (λ rest. IsTrue (front is_option_byte rest) × (option_size rest ≡ 0))
unknown_ends text n e u = sized_none option_size text e.1 n u

options_apart : (text : List ℕ) → text ≡ [] → (IsTrue (front is_option_byte text) × (option_size text ≡ 0)) → ⊥
options_apart text e h = let here : front is_option_byte text ≡ true = h.0 in false≢true (sym (ap (front is_option_byte) e) ∙ here)

unknown_same : (text : List ℕ) (n m : ℕ) → IsFirstUnknown text n → IsFirstUnknown text m → n ≡ m
unknown_same text n m x y =
    covers_same (HasSize option_size) (λ rest. IsTrue (front is_option_byte rest) × (option_size rest ≡ 0)) (λ rest. IsTrue (front is_option_byte rest) × (option_size rest ≡ 0)) (sized_unique option_size) unknown_ends unknown_ends (options_of text) n m x y

options_known : (text : List ℕ) (n : ℕ) → AreOptions text → IsFirstUnknown text n → ⊥
options_known text n x y =
    covers_apart (HasSize option_size) (λ rest. rest ≡ []) (λ rest. IsTrue (front is_option_byte rest) × (option_size rest ≡ 0)) (sized_unique option_size) nothing_ends unknown_ends options_apart (options_of text) x.0 n x.1 y

defines_same : (bytes : List ℕ) (at : ℕ) (d e : Definition) → HasDefinitionAt bytes at d → HasDefinitionAt bytes at e → d ≡ e
defines_same bytes at d e x y =
    let line : List ℕ = forms.line_of (drop at bytes) in
    let p : x.name_to ≡ y.name_to = x.form.name ∙ sym y.form.name in
    let q : x.from ≡ y.from = x.form.blank ∙ (ap (λ (k : ℕ). k + blanks (drop k line)) p ∙ sym y.form.blank) in
    let size : x.form.extent.0 ≡ y.form.extent.0 = pattern_same (drop y.from line) x.form.extent.0 y.form.extent.0 (subst (λ (k : ℕ). IsPattern (drop k line) x.form.extent.0) q x.form.extent.1) y.form.extent.1 in
    let r : x.to ≡ y.to = omega (arith, x.form.extent.2, y.form.extent.2, q, size) in
    x.is ∙ (rw (p, q, r) refl ∙ sym y.is)

-- ---- the definitions section

-- a line of this kind leads from the one place to the other
abbrev LineOf : LineKind → List ℕ → DefinitionsPlace → DefinitionsPlace → Type 0
LineOf Block bytes s t = (n : ℕ) × IsCodeBlock (drop s.at bytes) n × (t ≡ record { at = s.at + n; definitions = s.definitions })
LineOf Options bytes s t = AreOptions (drop s.at bytes) × (t ≡ record { at = s.at + line_size (drop s.at bytes); definitions = s.definitions })
LineOf Skipped bytes s t = t ≡ record { at = s.at + line_size (drop s.at bytes); definitions = s.definitions }
LineOf Loose bytes s t = (n : ℕ) × IsLoose (drop s.at bytes) n × (t ≡ record { at = s.at + n; definitions = s.definitions })
LineOf kinds.Definition bytes s t = (d : Definition) × HasDefinitionAt bytes s.at d × (has_name (names_of bytes s.definitions) (bytes_of bytes d.name) ≡ false) × (t ≡ record { at = s.at + line_size (drop s.at bytes); definitions = s.definitions ++ d ∷ [] })
LineOf k bytes s t = ⊥

-- a line of this kind has the fault
abbrev FaultOf : LineKind → List ℕ → DefinitionsPlace → LayoutError → Type 0
FaultOf Block bytes s e = ((n : ℕ) → ¬ IsCodeBlock (drop s.at bytes) n) × (e ≡ Unended s.at)
FaultOf Options bytes s e = (n : ℕ) × IsFirstUnknown (drop s.at bytes) n × (e ≡ UnknownOption (s.at + 7 + n))
FaultOf Loose bytes s e = (n : ℕ) × IsOpenRun false (drop s.at bytes) n × (e ≡ Unended (s.at + n))
FaultOf kinds.Definition bytes s e = (((d : Definition) → ¬ HasDefinitionAt bytes s.at d) ⊎ ((d : Definition) × HasDefinitionAt bytes s.at d × (has_name (names_of bytes s.definitions) (bytes_of bytes d.name) ≡ true))) × (e ≡ Layout s.at)
FaultOf NoForm bytes s e = e ≡ Layout s.at
FaultOf Unknown bytes s e = e ≡ UnknownDirective s.at
FaultOf Conditions bytes s e = e ≡ StartCondition s.at
FaultOf k bytes s e = ⊥

at_kind : (P : LineKind → Type 0) (k l : LineKind) → k ≡ l → P l → P k
at_kind P k l e p = subst P (sym e) p

line_of : (bytes : List ℕ) (s t : DefinitionsPlace) → DefinitionsLine bytes s t → LineOf (definitions_kind (drop s.at bytes)) bytes s t
line_of bytes s t (spec.DefinitionsLine.passed n (spec.IsPassed.block k b) e) = at_kind (λ k. LineOf k bytes s t) _ Block k (n, b, e)
line_of bytes s t (spec.DefinitionsLine.passed n (spec.IsPassed.options k o size) e) = at_kind (λ k. LineOf k bytes s t) _ Options k (o, e ∙ ap (λ (m : ℕ). record { at = s.at + m; definitions = s.definitions }) size)
line_of bytes s t (spec.DefinitionsLine.passed n (spec.IsPassed.skipped k size) e) = at_kind (λ k. LineOf k bytes s t) _ Skipped k (e ∙ ap (λ (m : ℕ). record { at = s.at + m; definitions = s.definitions }) size)
line_of bytes s t (spec.DefinitionsLine.passed n (spec.IsPassed.loose k l) e) = at_kind (λ k. LineOf k bytes s t) _ Loose k (n, l, e)
line_of bytes s t (spec.DefinitionsLine.definition d h new e) = at_kind (λ k. LineOf k bytes s t) _ kinds.Definition h.kind (d, h, new, e)

fault_of : (bytes : List ℕ) (s : DefinitionsPlace) (e : LayoutError) → DefinitionsFault bytes s e → FaultOf (definitions_kind (drop s.at bytes)) bytes s e
fault_of bytes s e (spec.DefinitionsFault.open_block k none is) = at_kind (λ k. FaultOf k bytes s e) _ Block k (none, is)
fault_of bytes s e (spec.DefinitionsFault.open_comment n k h is) = at_kind (λ k. FaultOf k bytes s e) _ Loose k (n, h, is)
fault_of bytes s e (spec.DefinitionsFault.no_form k is) = at_kind (λ k. FaultOf k bytes s e) _ NoForm k is
fault_of bytes s e (spec.DefinitionsFault.no_definition k none is) = at_kind (λ k. FaultOf k bytes s e) _ kinds.Definition k (inl none, is)
fault_of bytes s e (spec.DefinitionsFault.defined_again d h old is) = at_kind (λ k. FaultOf k bytes s e) _ kinds.Definition h.kind (inr (d, h, old), is)
fault_of bytes s e (spec.DefinitionsFault.unknown_directive k is) = at_kind (λ k. FaultOf k bytes s e) _ Unknown k is
fault_of bytes s e (spec.DefinitionsFault.unknown_option n k h is) = at_kind (λ k. FaultOf k bytes s e) _ Options k (n, h, is)
fault_of bytes s e (spec.DefinitionsFault.start_condition k is) = at_kind (λ k. FaultOf k bytes s e) _ Conditions k is

line_same : (k : LineKind) (bytes : List ℕ) (s t u : DefinitionsPlace) → LineOf k bytes s t → LineOf k bytes s u → t ≡ u
line_same Block bytes s t u x y = x.2 ∙ (ap (λ (n : ℕ). record { at = s.at + n; definitions = s.definitions }) (code_block_same (drop s.at bytes) x.0 y.0 x.1 y.1) ∙ sym y.2)
line_same Options bytes s t u x y = x.1 ∙ sym y.1
line_same Skipped bytes s t u x y = x ∙ sym y
line_same Loose bytes s t u x y = x.2 ∙ (ap (λ (n : ℕ). record { at = s.at + n; definitions = s.definitions }) (loose_same (drop s.at bytes) x.0 y.0 x.1 y.1) ∙ sym y.2)
line_same kinds.Definition bytes s t u x y = x.3 ∙ (ap (λ (d : Definition). record { at = s.at + line_size (drop s.at bytes); definitions = s.definitions ++ d ∷ [] }) (defines_same bytes s.at x.0 y.0 x.1 y.1) ∙ sym y.3)
line_same k bytes s t u x y = absurd x

fault_same : (k : LineKind) (bytes : List ℕ) (s : DefinitionsPlace) (e f : LayoutError) → FaultOf k bytes s e → FaultOf k bytes s f → e ≡ f
fault_same Block bytes s e f x y = x.1 ∙ sym y.1
fault_same Options bytes s e f x y = x.2 ∙ (ap (λ (n : ℕ). UnknownOption (s.at + 7 + n)) (unknown_same (drop s.at bytes) x.0 y.0 x.1 y.1) ∙ sym y.2)
fault_same Loose bytes s e f x y = x.2 ∙ (ap (λ (n : ℕ). Unended (s.at + n)) (open_run_same false (drop s.at bytes) x.0 y.0 x.1 y.1) ∙ sym y.2)
fault_same kinds.Definition bytes s e f x y = x.1 ∙ sym y.1
fault_same NoForm bytes s e f x y = x ∙ sym y
fault_same Unknown bytes s e f x y = x ∙ sym y
fault_same Conditions bytes s e f x y = x ∙ sym y
fault_same k bytes s e f x y = absurd x

line_fault : (k : LineKind) (bytes : List ℕ) (s t : DefinitionsPlace) (e : LayoutError) → LineOf k bytes s t → FaultOf k bytes s e → ⊥
line_fault Block bytes s t e x y = y.0 x.0 x.1
line_fault Options bytes s t e x y = options_known (drop s.at bytes) y.0 x.0 y.1
line_fault Loose bytes s t e x y = run_not_open false (drop s.at bytes) x.1.inside y.0 x.1.run y.1
line_fault Skipped bytes s t e x y = y
line_fault kinds.Definition bytes s t e x y = by_case y.0
  where
    by_case : (((d : Definition) → ¬ HasDefinitionAt bytes s.at d) ⊎ ((d : Definition) × HasDefinitionAt bytes s.at d × (has_name (names_of bytes s.definitions) (bytes_of bytes d.name) ≡ true))) → ⊥
    by_case (inl none) = none x.0 x.1
    by_case (inr h) = false≢true (sym x.2 ∙ (ap (λ (d : Definition). has_name (names_of bytes s.definitions) (bytes_of bytes d.name)) (defines_same bytes s.at x.0 h.0 x.1 h.1) ∙ h.2))
line_fault k bytes s t e x y = x

pub lines_one : (bytes : List ℕ) (s t u : DefinitionsPlace) → DefinitionsLine bytes s t → DefinitionsLine bytes s u → t ≡ u
lines_one bytes s t u x y = line_same (definitions_kind (drop s.at bytes)) bytes s t u (line_of bytes s t x) (line_of bytes s u y)

pub faults_one : (bytes : List ℕ) (s : DefinitionsPlace) (e f : LayoutError) → DefinitionsFault bytes s e → DefinitionsFault bytes s f → e ≡ f
faults_one bytes s e f x y = fault_same (definitions_kind (drop s.at bytes)) bytes s e f (fault_of bytes s e x) (fault_of bytes s f y)

pub fault_halts : (bytes : List ℕ) (s : DefinitionsPlace) (e : LayoutError) → DefinitionsFault bytes s e → Halts (DefinitionsLine bytes) s
fault_halts bytes s e f t l = line_fault (definitions_kind (drop s.at bytes)) bytes s t e (line_of bytes s t l) (fault_of bytes s e f)

pub end_halts : (bytes : List ℕ) (s : DefinitionsPlace) → definitions_kind (drop s.at bytes) ≡ SectionEnd → Halts (DefinitionsLine bytes) s
end_halts bytes s e t l = subst (λ (k : LineKind). LineOf k bytes s t) e (line_of bytes s t l)

pub end_no_fault : (bytes : List ℕ) (s : DefinitionsPlace) (e : LayoutError) → definitions_kind (drop s.at bytes) ≡ SectionEnd → DefinitionsFault bytes s e → ⊥
end_no_fault bytes s e k f = subst (λ (k : LineKind). FaultOf k bytes s e) k (fault_of bytes s e f)
