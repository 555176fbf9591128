-- Where the definitions section ends, by the forms of its lines alone: a name may be defined again.
use Rattle.std.specs.Prelude.{◌≡◌, ℕ, ◌+◌, List, drop}
use Rattle.cs_lex.specs.declared.layout.parts.Definition.{Definition}
use Rattle.cs_lex.specs.declared.layout.line.LineKind.TheVariants as kinds
use Rattle.cs_lex.specs.Layout.Steps.{Walk}
use Rattle.cs_bytes.specs.Places.{line_size}
use Rattle.cs_lex.specs.Layout.Lines.{definitions_kind}
use Rattle.cs_lex.specs.Layout.Layout.{IsPassed, HasDefinitionAt}

-- A line of the definitions section goes from the one offset to the other, and may define a name again.
pub data IsLine (bytes : List ℕ) (at to : ℕ) : Type 0 where
  passed : (size : ℕ) → IsPassed (drop at bytes) size → to ≡ at + size → IsLine bytes at to
  definition : (d : Definition) → HasDefinitionAt bytes at d → to ≡ at + line_size (drop at bytes) → IsLine bytes at to

-- Lines lead from the beginning to the one that ends the section, and that one ends before the offset.
pub record EndsBefore (bytes : List ℕ) (behind : ℕ) : Type 0 where
  pub at : ℕ
  pub lines : Walk (IsLine bytes) 0 at
  pub ends : definitions_kind (drop at bytes) ≡ kinds.SectionEnd
  pub behind_is : behind ≡ at + line_size (drop at bytes)

-- no lines lead to one that ends the section: one of them has a fault, or the file ends before
abbrev pub NeverEnds : List ℕ → Type 0
NeverEnds bytes = (behind : ℕ) → ¬ EndsBefore bytes behind
