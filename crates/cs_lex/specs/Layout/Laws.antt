-- A text has at most one layout, or stops in at most one way, and not both. In a layout no name is defined again. Its definitions
-- section ends at one offset at most.
use Rattle.std.specs.Prelude.{◌≡◌, ℕ, List}
use Rattle.cs_lex.specs.declared.layout.parts.Definition.{Definition}
use Rattle.cs_lex.specs.declared.layout.parts.Rule.{Rule}
use Rattle.cs_lex.specs.declared.layout.error.LayoutError.{LayoutError}
use Rattle.cs_lex.specs.Layout.Layout.{HasDefinitions, HasLayout, HaveNewNames, StopsWith}
use Rattle.cs_lex.specs.Layout.Ends.{EndsBefore}

abbrev pub HasOneLayout : List ℕ → Type 0
HasOneLayout bytes = (ds es : List Definition) (rs qs : List Rule) → HasLayout bytes ds rs → HasLayout bytes es qs → (ds ≡ es) × (rs ≡ qs)

abbrev pub StopsInOneWay : List ℕ → Type 0
StopsInOneWay bytes = (e f : LayoutError) → StopsWith bytes e → StopsWith bytes f → e ≡ f

abbrev pub HasNoLayoutWhereItStops : List ℕ → Type 0
HasNoLayoutWhereItStops bytes = (e : LayoutError) (ds : List Definition) (rs : List Rule) → StopsWith bytes e → HasLayout bytes ds rs → ⊥

abbrev pub DefinesNoNameAgain : List ℕ → Type 0
DefinesNoNameAgain bytes = (ds : List Definition) (rs : List Rule) → HasLayout bytes ds rs → HaveNewNames bytes ds

abbrev pub HasOneEnd : List ℕ → Type 0
HasOneEnd bytes = (a b : ℕ) → EndsBefore bytes a → EndsBefore bytes b → a ≡ b

-- where the section ends with new names, it ends
abbrev pub EndsWithNewNames : List ℕ → Type 0
EndsWithNewNames bytes = (ds : List Definition) (behind : ℕ) → HasDefinitions bytes ds behind → EndsBefore bytes behind
