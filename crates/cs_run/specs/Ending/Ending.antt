-- How a run ends: its cause, and what the output holds then; the status and the line on the error output.
use Rattle.std.specs.Prelude.{◌≡◌, ◌⊎◌, ℕ, List, [], ◌++◌, Result, Err, IsOkAnd, IsTrue, codes, decimal}
use Rattle.std.specs.Io.KnownBytes.{append_known}
use Rattle.cs_deep.specs.Membership.{GrewByFront}
use Rattle.cs_io.specs.Sink.{GrewByPrefix}
use Rattle.cs_io.specs.Asked.{GrewByPart}
use Rattle.cs_io.specs.Uses.{DeskUse, SinkUse, HasFailed, IsUnused}
use Rattle.cs_io.specs.declared.halt.Halt.TheVariants.{Failed, Memory}
use Rattle.cs_words.specs.declared.command.Command.{Command}
use Rattle.cs_words.specs.declared.command.Command.TheVariants.{Gen, Member}
use Rattle.cs_words.specs.declared.command.Role.{Role}
use Rattle.cs_words.specs.Requests.{PlainRequest, files_of}
use Rattle.cs_run.specs.Input.Files.{Content, HaveContents}
use Rattle.cs_run.specs.Input.Lines.{refusal_line, role_word}
use Rattle.cs_run.specs.Input.Refusal.{IsTold}
use Rattle.cs_run.specs.declared.ending.ending.Ending.{Ending}
use Rattle.cs_run.specs.declared.ending.ending.Ending.TheVariants.{Written, Denied, Refused, BadWord, NoFile, Halted}
use Rattle.cs_run.specs.Ending.Files.{Accepted, AreRefusedSo, HasNoFileFor}
use Rattle.cs_run.specs.Ending.Texts.{DeniesAsked, HasRoomFor, IsAskedText, IsTextOf}

-- ---- causes

-- the output grew by the whole text that is asked for, and this is no denial
abbrev pub WroteText : Result PlainRequest ℕ → DeskUse → SinkUse → Type 0
WroteText asked desk out =
    (text : List ℕ) × IsAskedText asked desk.files text × (¬ DeniesAsked asked text)
    × (out.written.after ≡ append_known out.written.before text)

-- it grew by the whole text, and this is a denial
abbrev pub WroteDenial : Result PlainRequest ℕ → DeskUse → SinkUse → Type 0
WroteDenial asked desk out =
    (text : List ℕ) × IsAskedText asked desk.files text × DeniesAsked asked text
    × (out.written.after ≡ append_known out.written.before text)

-- The output grew by a prefix of each such text. Of a list with several derivations `member` may write each, and the output grew
-- by nothing, or by a prefix of one that it may write. So it did for `gen`, of whose texts no law says that there is one.
abbrev pub GrewAsAsked : Command → (List ℕ → Type 0) → SinkUse → Type 0
GrewAsAsked Member Is out = GrewByFront Is out.written.before out.written.after
GrewAsAsked Gen Is out = GrewByFront Is out.written.before out.written.after
GrewAsAsked command Is out = GrewByPart Is out.written.before out.written.after

-- by the texts that are asked for by these contents of the files
abbrev pub GrewByFrontOf : PlainRequest → SinkUse → List Content → Type 0
GrewByFrontOf request out contents = GrewAsAsked request.command (IsTextOf request contents) out

-- the files have contents that are accepted, and by these it grew so
abbrev pub WrotePart : Result PlainRequest ℕ → DeskUse → SinkUse → Type 0
WrotePart asked desk out =
    IsOkAnd asked (λ request. HaveContents desk.files (files_of request) (λ contents. Accepted request.command contents × GrewByFrontOf request out contents))

-- What caused an ending, and what the output holds then, by what the words ask for and how desk and output were used.
abbrev pub Ends : Ending → Result PlainRequest ℕ → DeskUse → SinkUse → Type 0
Ends Written asked desk out = WroteText asked desk out × (out.faults.after ≡ out.faults.before)
Ends Denied asked desk out = WroteDenial asked desk out × (out.faults.after ≡ out.faults.before)
Ends (Refused refusal) asked desk out = IsOkAnd asked (λ request. AreRefusedSo desk.files request refusal) × IsUnused out
Ends (BadWord at) asked desk out = (asked ≡ Err at) × IsUnused out
Ends (NoFile role) asked desk out = IsOkAnd asked (λ request. HasNoFileFor desk.files request desk.faults role) × IsUnused out
Ends (Halted Failed) asked desk out = WrotePart asked desk out × HasFailed out.faults
Ends (Halted Memory) asked desk out = IsUnused out ⊎ WrotePart asked desk out

-- want of memory is an ending of its own, and no refusal
abbrev pub HasLine : Ending → Type 0
HasLine (Refused refusal) = IsTold refusal
HasLine Written = Unit {0}
HasLine Denied = Unit {0}
HasLine (BadWord at) = Unit {0}
HasLine (NoFile role) = Unit {0}
HasLine (Halted halt) = Unit {0}

-- A run ended so. Where a read failed, it ended by that.
pub record Performs (ending : Ending) (asked : Result PlainRequest ℕ) (desk : DeskUse) (out : SinkUse) : Type 0 where
  pub ends : Ends ending asked desk out
  pub failed : ¬ (desk.faults.after ≡ desk.faults.before) → (role : Role) × (ending ≡ NoFile role)
  pub steady : IsTrue desk.steady → desk.faults.after ≡ desk.faults.before
  pub room : HasRoomFor out.room asked desk.files → out.faults.after ≡ out.faults.before

-- the ending that is reported: the same, or want of memory for the line, which an output that was written needs none of
abbrev pub IsReported : Ending → Ending → Type 0
IsReported ending reported = (reported ≡ ending) ⊎ ((reported ≡ Halted Memory) × (¬ (ending ≡ Written)) × ¬ (ending ≡ Denied))

-- ---- statuses

abbrev pub status_of : Ending → ℕ
status_of Written = 0
status_of (Refused refusal) = 1
status_of (BadWord at) = 2
status_of (NoFile role) = 3
status_of (Halted Failed) = 4
status_of (Halted Memory) = 5
status_of Denied = 6

-- ---- lines on the error output

abbrev pub line_of : Ending → List ℕ
line_of Written = []
line_of Denied = []
line_of (Refused refusal) = refusal_line refusal
line_of (BadWord at) = codes "conform: usage: word " ++ decimal at ++ codes "\n"
line_of (NoFile role) = codes "conform: read fault: " ++ role_word role ++ codes "\n"
line_of (Halted Failed) = codes "conform: write fault\n"
line_of (Halted Memory) = codes "conform: out of memory\n"

-- The error output grew by a line, or by a prefix of it where a write failed.
abbrev pub Says : List ℕ → SinkUse → Type 0
Says line err =
    (err.written.after ≡ append_known err.written.before line)
    ⊎ (HasFailed err.faults × GrewByPrefix err.written.before err.written.after line)
