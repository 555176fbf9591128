-- Where the parts of a layout lie: in the file, and the names and substitutes apart from one another.
use Rattle.std.specs.Prelude.{ℕ, ◌+◌, ◌-◌, ◌≤◌, List, All, length, drop, sum_by}
use Rattle.cs_lex.specs.declared.layout.parts.Part.{Part}
use Rattle.cs_lex.specs.declared.layout.parts.Definition.{Definition}
use Rattle.cs_lex.specs.declared.layout.parts.Rule.{Rule}
use Rattle.cs_bytes.specs.Places.{line_size}

-- the part lies within so many bytes
pub record LiesIn (size : ℕ) (part : Part) : Type 0 where
  pub ordered : part.from ≤ part.to
  pub within : part.to ≤ size

pub record DefinitionLies (size : ℕ) (d : Definition) : Type 0 where
  pub name : LiesIn size d.name
  pub substitute : LiesIn size d.substitute

pub record RuleLies (size : ℕ) (r : Rule) : Type 0 where
  pub at : r.at ≤ size
  pub pattern : LiesIn size r.pattern
  pub action : LiesIn size r.action

-- how many bytes the name and the substitute have
abbrev pub bytes_in : Definition → ℕ
bytes_in d = (d.name.to - d.name.from) + (d.substitute.to - d.substitute.from)

-- The parts of the definitions lie within so many bytes, and take no more than these together.
pub record DefinitionsLie (size within : ℕ) (ds : List Definition) : Type 0 where
  pub each : All (DefinitionLies size) ds
  pub together : sum_by bytes_in ds ≤ within

-- The parts of the rules lie within so many bytes, and there are no more rules than bytes.
pub record RulesLie (size within : ℕ) (rs : List Rule) : Type 0 where
  pub each : All (RuleLies size) rs
  pub few : length rs ≤ within

-- the parts of the definition follow one another on its line
pub record HasRoom (bytes : List ℕ) (at : ℕ) (d : Definition) : Type 0 where
  pub begins : at ≤ d.name.from
  pub name : d.name.from ≤ d.name.to
  pub between : d.name.to ≤ d.substitute.from
  pub substitute : d.substitute.from ≤ d.substitute.to
  pub on_line : d.substitute.to ≤ at + line_size (drop at bytes)
  pub within : d.substitute.to ≤ length bytes
