-- What reading a layout answers: the definitions and rules, or where layout stops and why.
use Rattle.std.specs.Prelude.{ℕ, List, Result, Ok, Err}
use Rattle.cs_lex.specs.declared.layout.layout.Layout.{Layout}
use Rattle.cs_lex.specs.declared.layout.error.LayoutError.{LayoutError}
use Rattle.cs_lex.specs.declared.layout.error.LayoutError.TheVariants.{Memory}
use Rattle.cs_lex.specs.Layout.Layout.{HasLayout, StopsWith}
use Rattle.cs_lex.specs.Layout.Lies.{DefinitionsLie, RulesLie}

-- layout stops with the error; memory may run out
abbrev pub AnswersError : List ℕ → LayoutError → Type 0
AnswersError bytes Memory = Unit {0}
AnswersError bytes error = StopsWith bytes error

-- the layout of the bytes, or why it stops
abbrev pub AnswersLayout : List ℕ → Result Layout LayoutError → Type 0
AnswersLayout bytes (Ok layout) = HasLayout bytes layout.definitions.items layout.rules.items
AnswersLayout bytes (Err error) = AnswersError bytes error

-- The parts of the layout lie within so many bytes, and the names and substitutes take no more than these together.
pub record LayoutLies (size : ℕ) (layout : Layout) : Type 0 where
  pub definitions : DefinitionsLie size size layout.definitions.items
  pub rules : RulesLie size size layout.rules.items
