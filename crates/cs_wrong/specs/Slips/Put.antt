-- Slips that were put behind others. Working words of proofs.
use Rattle.std.specs.Prelude.{◌≡◌, Bool, ℕ, List, [], ◌++◌, if◌then◌else◌, map}
use Rattle.cs_grammar.specs.declared.symbol.Symbol.{Symbol}
use Rattle.cs_wrong.specs.Slips.Slips.{slips_in}
use Rattle.cs_wrong.specs.declared.slips.slip.Change.{Change}
use Rattle.cs_choices.specs.declared.slips.Slips.{Slips}
use Rattle.cs_wrong.specs.declared.slips.slip.Slip.{Slip}
use Rattle.cs_wrong.specs.declared.slips.slip.Slip.TheVariants.{Of}

-- these changes of the rule were put behind what was there, where they are chosen
abbrev pub PutsIf : ℕ → Bool → List Change → List Slip → List Slip → Type 0
PutsIf r chosen changes old new = new ≡ old ++ map (Of r) (if chosen then changes else [])

-- those of a rule with this right side were
abbrev pub PutsRule : ℕ → Slips → List Symbol → List Slip → List Slip → Type 0
PutsRule r chosen right old new = new ≡ old ++ slips_in chosen (r, record { left = 0; right = right })
