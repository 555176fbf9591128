-- Where the definitions section ends, by its lines' forms.
use Rattle.std.proofs.Common.{◌≡◌, ℕ, ◌+◌, ◌-◌, ◌<◌, ◌≤◌, Bool, true, false, List, [], ◌∷◌, ◌++◌, length, drop, refl, sym, ap, subst, ◌∙◌, ◌⊎◌, inl, inr, arith}
use Rattle.std.proofs.lemmas.List.{drop_all}
use Rattle.cs_lex.specs.declared.layout.line.LineKind.TheVariants.{SectionEnd}
use Rattle.cs_lex.specs.declared.layout.parts.Definition.{Definition}
use Rattle.cs_lex.specs.declared.layout.error.LayoutError.{LayoutError}
use Rattle.cs_lex.specs.declared.layout.error.LayoutError.TheVariants.{Layout}
use Rattle.cs_lex.specs.Layout.Steps.{Walk, here, step}
use Rattle.cs_bytes.specs.Places.{line_size}
use Rattle.cs_lex.specs.Layout.Lines.{definitions_kind}
use Rattle.cs_lex.specs.Layout.Layout as layout
use Rattle.cs_lex.specs.Layout.Layout.{bytes_of, names_of, has_name, DefinitionsPlace, HasDefinitionAt, IsPassed, DefinitionsLine, no_definitions, HasDefinitions, DefinitionsFault, no_form, defined_again, in_definitions}
use Rattle.cs_lex.specs.Layout.Ends.{IsLine, passed, definition, EndsBefore, NeverEnds}
use Rattle.cs_lex.specs.Layout.Settled.{Stops, EndsOrStops}
use Rattle.cs_lex.proofs.OnLayout.Walks.{walk_push, one_halt, Halts}
use Rattle.cs_lex.proofs.OnLayout.KindsOfLines.{lines_one, fault_halts, end_halts, end_no_fault}

module _ (bytes : List ℕ) where
  -- the place with no definition before it
  abbrev bare : ℕ → DefinitionsPlace
  bare at = record { at = at; definitions = [] }

  -- ---- lines by their forms lead to one end

  -- where nothing is defined yet, a line by its form is one with a new name
  bare_line : (at to : ℕ) → IsLine bytes at to → (t : DefinitionsPlace) × DefinitionsLine bytes (bare at) t × (t.at ≡ to)
  bare_line at to (passed size p e) = (bare (at + size), layout.DefinitionsLine.passed size p refl, sym e)
  bare_line at to (definition d h e) = (record { at = at + line_size (drop at bytes); definitions = d ∷ [] }, layout.DefinitionsLine.definition d h refl refl, sym e)

  one_line : (a b c : ℕ) → IsLine bytes a b → IsLine bytes a c → b ≡ c
  one_line a b c x y =
      let p = bare_line a b x in
      let q = bare_line a c y in
      sym p.2 ∙ (ap (λ (z : DefinitionsPlace). z.at) (lines_one bytes (bare a) p.0 q.0 p.1 q.1) ∙ q.2)

  end_stays : (at : ℕ) → definitions_kind (drop at bytes) ≡ SectionEnd → Halts (IsLine bytes) at
  end_stays at e to x = let p = bare_line at to x in end_halts bytes (bare at) e p.0 p.1

  fault_stays : (at : ℕ) (error : LayoutError) → DefinitionsFault bytes (bare at) error → Halts (IsLine bytes) at
  fault_stays at error f to x = let p = bare_line at to x in fault_halts bytes (bare at) error f p.0 p.1

  pub one_end : (a b : ℕ) → EndsBefore bytes a → EndsBefore bytes b → a ≡ b
  one_end a b x y =
      let same : x.at ≡ y.at = one_halt one_line x.lines y.at y.lines (end_stays x.at x.ends) (end_stays y.at y.ends) in
      x.behind_is ∙ (ap (λ (k : ℕ). k + line_size (drop k bytes)) same ∙ sym y.behind_is)

  pub fault_never_ends : (at : ℕ) (error : LayoutError) → Walk (IsLine bytes) 0 at → DefinitionsFault bytes (bare at) error → NeverEnds bytes
  fault_never_ends at error lines f behind x =
      let same : at ≡ x.at = one_halt one_line lines x.at x.lines (fault_stays at error f) (end_stays x.at x.ends) in
      end_no_fault bytes (bare x.at) error x.ends (subst (λ (k : ℕ). DefinitionsFault bytes (bare k) error) same f)

  pub out_never_ends : (at : ℕ) → Walk (IsLine bytes) 0 at → length bytes ≤ at → NeverEnds bytes
  out_never_ends at lines le = fault_never_ends at (Layout at) lines (no_form (ap definitions_kind (drop_all at bytes le)) refl)

  -- ---- lines with new names are lines by their forms

  formed : (s t : DefinitionsPlace) → DefinitionsLine bytes s t → IsLine bytes s.at t.at
  formed s t (layout.DefinitionsLine.passed size p e) = passed size p (ap (λ (z : DefinitionsPlace). z.at) e)
  formed s t (layout.DefinitionsLine.definition d h new e) = definition d h (ap (λ (z : DefinitionsPlace). z.at) e)

  all_formed : {s t : DefinitionsPlace} → Walk (DefinitionsLine bytes) s t → Walk (IsLine bytes) s.at t.at
  all_formed here = here
  all_formed (step {s = s} {t = t} x rest) = step (formed s t x) (all_formed rest)

  pub layout_ends : (ds : List Definition) (behind : ℕ) → HasDefinitions bytes ds behind → EndsBefore bytes behind
  layout_ends ds behind h = record { at = h.at; lines = all_formed h.lines; ends = h.ends; behind_is = h.behind_is }

  -- ---- where a name is defined again, layout stops

  -- layout stops, or lines of the definitions section lead to the offset
  abbrev Walked : ℕ → Type 0
  Walked at = Stops bytes ⊎ ((ds : List Definition) × Walk (DefinitionsLine bytes) no_definitions (record { at = at; definitions = ds }))

  walked_line : (at to : ℕ) → IsLine bytes at to → Walked at → Walked to
  walked_line at to x (inl s) = inl s
  walked_line at to (passed size p e) (inr h) = inr (h.0, walk_push h.1 (record { at = to; definitions = h.0 }) (layout.DefinitionsLine.passed size p (rw e refl)))
  walked_line at to (definition d is e) (inr h) = by_name (has_name (names_of bytes h.0) (bytes_of bytes d.name)) refl
    where
      by_name : (b : Bool) → has_name (names_of bytes h.0) (bytes_of bytes d.name) ≡ b → Walked to
      by_name true old = inl (Layout at, in_definitions (record { at = at; definitions = h.0 }) h.1 (defined_again d is old refl))
      by_name false new = inr (h.0 ++ d ∷ [], walk_push h.1 (record { at = to; definitions = h.0 ++ d ∷ [] }) (layout.DefinitionsLine.definition d is new (rw e refl)))

  walked : {a b : ℕ} → Walk (IsLine bytes) a b → Walked a → Walked b
  walked here w = w
  walked (step {s = a} {t = c} x rest) w = walked rest (walked_line a c x w)

  pub ends_or_stops : (behind : ℕ) → EndsBefore bytes behind → EndsOrStops bytes behind
  ends_or_stops behind x = elim (walked x.lines (inr ([], here))) [
    | inl s ↦ inl s
    | inr h ↦ inr (h.0, record { at = x.at; lines = h.1; ends = x.ends; behind_is = x.behind_is })
  ]

  pub fault_stops : (at : ℕ) (error : LayoutError) → Walk (IsLine bytes) 0 at → ((ds : List Definition) → DefinitionsFault bytes (record { at = at; definitions = ds }) error) → Stops bytes
  fault_stops at error lines f = elim (walked lines (inr ([], here))) [
    | inl s ↦ s
    | inr h ↦ (error, in_definitions (record { at = at; definitions = h.0 }) h.1 (f h.0))
  ]

  pub out_stops : (at : ℕ) → Walk (IsLine bytes) 0 at → length bytes ≤ at → Stops bytes
  out_stops at lines le = fault_stops at (Layout at) lines (λ ds. no_form (ap definitions_kind (drop_all at bytes le)) refl)

  -- ---- one line more

  pub passed_on : (at to : ℕ) → Walk (IsLine bytes) 0 at → at < to → IsPassed (drop at bytes) (to - at) → Walk (IsLine bytes) 0 to
  passed_on at to lines lt p = walk_push lines to (passed (to - at) p (omega (arith, lt)))

  pub defined_on : (at to : ℕ) (d : Definition) → Walk (IsLine bytes) 0 at → HasDefinitionAt bytes at d → to ≡ at + line_size (drop at bytes) → Walk (IsLine bytes) 0 to
  defined_on at to d lines is e = walk_push lines to (definition d is e)
