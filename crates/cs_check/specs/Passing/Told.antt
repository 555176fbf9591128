-- What the code's answers on places tell. Working words of the code's contracts.
use Rattle.std.specs.Prelude.{◌≡◌}
use Rattle.cs_lines.specs.declared.lines.line.Line as held
use Rattle.cs_lines.specs.Lines.Line.{Line}
use Rattle.cs_lines.specs.Lines.Read.{Tells}
use Rattle.cs_check.specs.Passing.Places.{Part, part_of}

-- the line that is read has this part behind that one
abbrev pub IsPartTold : Part → held.Line → Part → Type 0
IsPartTold before told part = (l : Line) → Tells told l → part ≡ part_of before l
