-- The contents of files that are asked for, and what they mean. Where the desk tells no files, any bytes count.
use Rattle.std.specs.Prelude.{◌≡◌, ◌⊎◌, ◌≤◌, ℕ, length, List, [], ◌∷◌, Option, None, Some, Result, Err}
use Rattle.cs_bytes.specs.Limits.{most_bytes}
use Rattle.cs_io.specs.Desk.{Files, IsMissing, file_named}
use Rattle.cs_io.specs.Uses.{Change, HasFailed}
use Rattle.cs_yacc.specs.Reading.File as yacc
use Rattle.cs_yacc.specs.Reading.Reading.{IsYaccFile}
use Rattle.cs_lex.specs.Reading.File as lex
use Rattle.cs_lex.specs.Reading.Reading.{IsLexFile}
use Rattle.cs_words.specs.declared.command.Role.{Role}
use Rattle.cs_words.specs.declared.command.Role.TheVariants as roles
use Rattle.cs_words.specs.Commands as taken
use Rattle.cs_words.specs.Requests.{Named, Names, Number, PlainArguments}
use Rattle.cs_run.specs.declared.input.judging.Meant.{Meant}
use Rattle.cs_run.specs.declared.input.judging.Meant.TheVariants.{Grammar, Nothing, Pair, Text}
use Rattle.cs_run.specs.declared.input.refusal.Stop.{Stop}
use Rattle.cs_run.specs.declared.input.refusal.Stop.TheVariants.{NoFile}

-- ---- contents

-- a file's bytes, and what it is to the command
pub record Content : Type 0 where
  pub role : Role
  pub bytes : List ℕ

-- where the desk tells its files, the file of that name has these bytes
abbrev pub HasBytes : Option Files → List ℕ → List ℕ → Type 0
HasBytes None name bytes = Unit {0}
HasBytes (Some files) name bytes = file_named files name ≡ Some bytes

abbrev pub IsContentOf : Option Files → Named → Content → Type 0
IsContentOf files named content = (content.role ≡ named.role) × HasBytes files named.name content.bytes

-- the contents of the files, in their order
abbrev pub AreContents : Option Files → List Named → List Content → Type 0
AreContents files [] [] = Unit {0}
AreContents files [] (content ∷ contents) = ⊥
AreContents files (named ∷ more) [] = ⊥
AreContents files (named ∷ more) (content ∷ contents) = IsContentOf files named content × AreContents files more contents

-- the files are there, and their contents have P
abbrev pub HaveContents : Option Files → List Named → (List Content → Type 0) → Type 0
HaveContents files named P = (contents : List Content) × AreContents files named contents × P contents

-- ---- what they mean

-- at most how many bytes a file may have, by what it is to the command
abbrev pub most_for : Role → ℕ
most_for roles.Yacc = most_bytes
most_for roles.Lex = most_bytes
most_for roles.Text = 65536
most_for roles.Manifest = 67108864

-- a yacc file or a lex file has no more
abbrev pub IsShort : List ℕ → Type 0
IsShort bytes = length bytes ≤ most_bytes

-- a file of any role has no more
abbrev pub IsWithinLength : Content → Type 0
IsWithinLength content = length content.bytes ≤ most_for content.role

-- the bytes are not too many, and mean the yacc file
abbrev pub IsGrammarOf : yacc.File → List ℕ → Type 0
IsGrammarOf file bytes = IsShort bytes × IsYaccFile bytes file

-- the bytes of both are not too many, and mean the yacc file and, beside it, the lex file
abbrev pub IsPairOf : yacc.File → lex.File → List ℕ → List ℕ → Type 0
IsPairOf file scanner bytes more = IsShort bytes × IsShort more × IsYaccFile bytes file × IsLexFile more file scanner

-- The contents mean nothing, a yacc file, a yacc file and a lex file beside it, or both and a third file's bytes. None is too long.
abbrev pub Mean : List Content → Meant → Type 0
Mean [] Nothing = Unit {0}
Mean (one ∷ []) (Grammar file) = IsWithinLength one × IsYaccFile one.bytes file
Mean (one ∷ other ∷ []) (Pair pair) =
    IsWithinLength one × IsWithinLength other × IsYaccFile one.bytes pair.yacc × IsLexFile other.bytes pair.yacc pair.lex
Mean (one ∷ other ∷ third ∷ []) (Text beside) =
    IsWithinLength one × IsWithinLength other × IsWithinLength third × IsYaccFile one.bytes beside.pair.yacc
    × IsLexFile other.bytes beside.pair.yacc beside.pair.lex × (beside.text ≡ third.bytes)
Mean contents meant = ⊥

-- a command is given a yacc file, a pair, or a pair and a third file, by how many files it takes; one that takes a seed nothing
abbrev pub IsMeantFor : taken.Taken → PlainArguments → Meant → Type 0
IsMeantFor (taken.Files (one ∷ [])) (Names names) (Grammar file) = Unit {0}
IsMeantFor (taken.Files (one ∷ other ∷ [])) (Names names) (Pair pair) = Unit {0}
IsMeantFor (taken.Files (one ∷ other ∷ third ∷ [])) (Names names) (Text beside) = Unit {0}
IsMeantFor taken.Seed (Number number) Nothing = Unit {0}
IsMeantFor takes arguments meant = ⊥

-- ---- files that can't be read

-- some bytes count as the file's
abbrev pub IsThere : Option Files → List ℕ → Type 0
IsThere files name = (bytes : List ℕ) × HasBytes files name bytes

-- The first file that can't be read is of that role: a read failed, or the desk tells its files and has none of that name.
abbrev pub HasNoFile : Option Files → Change ℕ → List Named → Role → Type 0
HasNoFile files faults [] role = ⊥
HasNoFile files faults (named ∷ more) role =
    ((named.role ≡ role) × (HasFailed faults ⊎ IsMissing files named.name))
    ⊎ (IsThere files named.name × HasNoFile files faults more role)

-- the answer is that a file can't be read
abbrev pub IsNoFile : {A : Type 0} → Result A Stop → Type 0
IsNoFile result = (role : Role) × (result ≡ Err (NoFile role))

-- how often calls failed, before and after
abbrev pub faults_of : {D : Type 0} → (D → ℕ) → D → D → Change ℕ
faults_of faults old new = record { before = faults old; after = faults new }
