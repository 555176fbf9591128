-- What a suite in the second format says of itself passes the checker.
use Rattle.std.specs.Prelude.{◌≡◌, ℕ, List, Some}
use Rattle.cs_pattern_parts.specs.Items.StandsFor.{AreBytes}
use Rattle.cs_choices.specs.declared.format.Format.TheVariants.{Two}
use Rattle.cs_yacc.specs.Reading.File.{File}
use Rattle.cs_manifest.specs.Manifest.Manifest.{Choice, IsManifest, Texts}
use Rattle.cs_check.specs.Passing.Faults.{Checked}
use Rattle.cs_check.specs.Passing.Passing.{Passes}

-- a choice of the second format, whose texts are made by these; what stands between two lexemes is of bytes
pub record IsSuiteBy (texts : Texts) (choice : Choice) : Type 0 where
  pub format : choice.format ≡ Two
  pub texts_are : choice.texts ≡ Some texts
  pub separator : AreBytes texts.separator

-- what is checked: the file, and what the texts' scanner scans by
abbrev pub checked : File → Texts → Checked
checked file texts = record { file = file; scanning = texts.scanning }

-- each manifest of the file in the second format passes
abbrev pub SuitesPass : File → Type 0
SuitesPass file =
    (texts : Texts) (choice : Choice) (text : List ℕ)
    → IsSuiteBy texts choice → IsManifest choice file text → Passes (checked file texts) text
