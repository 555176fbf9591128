-- That a text has a layout, or stops.
use Rattle.std.specs.Prelude.{ℕ, ◌⊎◌, List}
use Rattle.cs_lex.specs.declared.layout.parts.Definition.{Definition}
use Rattle.cs_lex.specs.declared.layout.parts.Rule.{Rule}
use Rattle.cs_lex.specs.declared.layout.error.LayoutError.{LayoutError}
use Rattle.cs_lex.specs.Layout.Layout.{HasDefinitions, HasRules, HasLayout, StopsWith}
use Rattle.cs_lex.specs.Layout.Places.{StopsInRules}

abbrev pub HasSome : List ℕ → Type 0
HasSome bytes = (ds : List Definition) × (rs : List Rule) × HasLayout bytes ds rs

abbrev pub Stops : List ℕ → Type 0
Stops bytes = (error : LayoutError) × StopsWith bytes error

-- the text has a layout, or layout of it stops
abbrev pub IsSettled : List ℕ → Type 0
IsSettled bytes = HasSome bytes ⊎ Stops bytes

-- layout stops, or the definitions section ends before the offset
abbrev pub EndsOrStops : List ℕ → ℕ → Type 0
EndsOrStops bytes from = Stops bytes ⊎ ((ds : List Definition) × HasDefinitions bytes ds from)

-- the rules section that begins at the offset ends, or layout stops in it
abbrev pub RulesEndOrStop : List ℕ → ℕ → Type 0
RulesEndOrStop bytes from = ((rs : List Rule) × HasRules bytes from rs) ⊎ ((error : LayoutError) × StopsInRules bytes from error)
