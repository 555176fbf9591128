-- Texts with the options' separator are what the options choose.
use Rattle.std.proofs.Common.{◌≡◌, ℕ, List, Some, ap}
use Rattle.cs_manifest.specs.Manifest.Manifest.{Choice, Texts}
use Rattle.cs_scanner.specs.Scan.Scan.{Scanning}
use Rattle.cs_words.specs.declared.options.Options.{Options}
use Rattle.cs_run.specs.Ending.Files.{choice_by}

-- what the options choose, with these texts
abbrev chosen : Options → Texts → Choice
chosen options t = record { criteria = options.criteria; texts = Some t; operators = options.operators; most = options.bases; first = options.first; format = options.format; weigh = options.weigh }

-- the same with this separator
abbrev parted : Options → Scanning → List ℕ → Choice
parted options s separator = chosen options (record { scanning = s; separator = separator })

pub parted_so : (options : Options) (s : Scanning) (separator : List ℕ) → separator ≡ options.separator → parted options s separator ≡ choice_by options s
parted_so options s separator same = ap (λ (x : List ℕ). parted options s x) same
