-- What a clause reads of a head.
use Rattle.std.specs.Prelude.{◌≡◌, ℕ, List, Option, None, Some, IfSome, length}
use Rattle.cs_yacc.specs.Reading.File.{File}
use Rattle.cs_choices.specs.declared.weigh.Weigh.{Weigh}
use Rattle.cs_manifest.specs.declared.manifest.head.Form.{Form}
use Rattle.cs_manifest.specs.declared.manifest.head.Form.TheVariants.{Rules, Suite, Shared}
use Rattle.cs_manifest.specs.declared.manifest.head.Head.{Head}
use Rattle.cs_verdicts.specs.Closed.Closed.{AreClosedSets, ClosedSets}
use Rattle.cs_manifest.specs.Manifest.Lines.{head_lines}
use Rattle.cs_manifest.specs.Manifest.SharedLines.{shared_head_lines}

-- its file, and the texts of its lexemes, if it has some
abbrev pub yacc_of : Head → File
yacc_of head = head.yacc.now

abbrev pub lexemes_in : Form → Option (List (Option (List ℕ)))
lexemes_in Rules = None
lexemes_in (Suite lexemes) = Some lexemes.now
lexemes_in (Shared lexemes weigh closed) = Some lexemes.now

abbrev pub lexemes_of : Head → Option (List (Option (List ℕ)))
lexemes_of head = lexemes_in head.form

-- what the head of the second format has of its own
pub record Sharing : Type 0 where
  pub weigh : Weigh
  pub closed : ClosedSets

abbrev pub sharing_in : Form → Option Sharing
sharing_in Rules = None
sharing_in (Suite lexemes) = None
sharing_in (Shared lexemes weigh closed) = Some (record { weigh = weigh; closed = closed.now })

abbrev pub sharing_of : Head → Option Sharing
sharing_of head = sharing_in head.form

-- the lines of a head with these
abbrev pub head_with : File → Option (List (Option (List ℕ))) → Option Sharing → List ℕ
head_with file lexemes None = head_lines file lexemes
head_with file lexemes (Some sharing) = shared_head_lines file sharing.weigh lexemes sharing.closed

-- the lines of the head
abbrev pub head_of : Head → List ℕ
head_of head = head_with (yacc_of head) (lexemes_of head) (sharing_of head)

-- how many cases there are at first, where it is of the second format
abbrev pub first_cases : Option Sharing → Option ℕ
first_cases None = None
first_cases (Some sharing) = Some 0

-- lexemes are of as many tokens as the file has
abbrev pub AreLexemesOf : File → Option (List (Option (List ℕ))) → Type 0
AreLexemesOf file None = Unit {0}
AreLexemesOf file (Some lexemes) = length lexemes ≡ length file.token_names

-- closed sets are those of the file's grammar
abbrev pub AreSetsOf : File → Option Sharing → Type 0
AreSetsOf file sharing = IfSome sharing (λ s. AreClosedSets file.grammar s.closed)

abbrev pub IsNamedHead : Head → Type 0
IsNamedHead head = AreLexemesOf (yacc_of head) (lexemes_of head) × AreSetsOf (yacc_of head) (sharing_of head)
