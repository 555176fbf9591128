-- What is found out of a line by the lines above. Working words of proofs.
use Rattle.std.specs.Prelude.{◌<◌, List}
use Rattle.cs_check.specs.declared.passing.fault.ClaimFault.{ClaimFault}
use Rattle.cs_lines.specs.Lines.Line.{Line}
use Rattle.cs_check.specs.Passing.Faults.{Checked, Has}
use Rattle.cs_check.specs.Passing.Passing.{number}

-- the line lacks each fault
abbrev pub IsRight : Checked → List Line → Line → Type 0
IsRight c above l = (f : ClaimFault) → Has c f above l

-- it has this one, and lacks each lower one
pub record IsWrong (c : Checked) (above : List Line) (l : Line) (f : ClaimFault) : Type 0 where
  pub wrong : Has c f above l → ⊥
  pub lower : (g : ClaimFault) → number g < number f → Has c g above l
