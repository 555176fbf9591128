-- What a run promises of its status, by what the words ask for and by how the desk and the two outputs were used. Where a desk
-- tells no files, any contents count as theirs, and where an output tells no bytes, any text: so it is with those of the system.
use Rattle.std.specs.Prelude.{◌≡◌, ◌<◌, ◌≤◌, ◌⊎◌, ℕ, Option, Result, IsErr, IsOkAnd, IsTrue}
use Rattle.cs_io.specs.Desk.{Files}
use Rattle.cs_io.specs.Faults.{greatest}
use Rattle.cs_io.specs.Uses.{DeskUse, SinkUse, HasFailed, IsUnused}
use Rattle.cs_words.specs.declared.command.Role.{Role}
use Rattle.cs_words.specs.Requests.{PlainRequest}
use Rattle.cs_run.specs.declared.ending.ending.Ending.{Ending}
use Rattle.cs_run.specs.Ending.Ending.{Ends, Performs, Says, WroteDenial, WroteText, WrotePart, line_of, status_of}
use Rattle.cs_run.specs.Ending.Files.{AreAccepted, AreRefused, HasNoFileFor}
use Rattle.cs_run.specs.Ending.Texts.{AreTold, HasRoomFor, IsDenied}

-- the status of a whole output: 6 where it is a denial, and else 0
abbrev pub IsWholeStatus : ℕ → Type 0
IsWholeStatus status = (status ≡ 0) ⊎ (status ≡ 6)

abbrev pub IsStatusBy : Result PlainRequest ℕ → Option Files → ℕ → Type 0
IsStatusBy asked files status = ((status ≡ 0) × ¬ IsDenied asked files) ⊎ ((status ≡ 6) × IsDenied asked files)

pub record KeepsPromises (asked : Result PlainRequest ℕ) (desk : DeskUse) (out err : SinkUse) (status : ℕ) : Type 0 where
  -- The headline: on status 0 the output grew by the text that the words ask for, and by nothing else. So it did on status 6,
  -- where the words ask for the check of a manifest, and the text says no.
  pub whole : status ≡ 0 → WroteText asked desk out
  pub denied : status ≡ 6 → WroteDenial asked desk out
  pub silent : IsWholeStatus status → IsUnused err
  -- The status is that of an ending that has its cause, and the error output grew by that ending's line.
  pub ends : (ending : Ending) × (status ≡ status_of ending) × Ends ending asked desk out × Says (line_of ending) err
  -- When each other status comes; below 4, and on 6, no write to the output failed.
  pub range : status ≤ 6
  pub files_refused : status ≡ 1 → IsOkAnd asked (AreRefused desk.files)
  pub bad_words : status ≡ 2 → IsErr asked
  pub read_fault : status ≡ 3 → IsOkAnd asked (λ request. (role : Role) × HasNoFileFor desk.files request desk.faults role)
  pub write_fault : status ≡ 4 → HasFailed out.faults
  pub no_write_fault : (status < 4) ⊎ (status ≡ 6) → out.faults.after ≡ out.faults.before
  pub write_fault_of_accepted : status ≡ 4 → IsOkAnd asked (AreAccepted desk.files)
  -- What the output holds on these.
  pub unused : (0 < status) × (status < 4) → IsUnused out
  pub prefix : (3 < status) × (status < 6) → IsUnused out ⊎ WrotePart asked desk out
  -- Bad words, refused files, a failed read and accepted files end a run so, or want of memory does.
  pub bad_words_end_so : IsErr asked → (status ≡ 2) ⊎ (status ≡ 5)
  pub refused_ends_so :
      AreTold desk.files asked → IsOkAnd asked (AreRefused desk.files) → ¬ HasFailed desk.faults → (status ≡ 1) ⊎ (status ≡ 5)
  pub failed_ends_so : ¬ (desk.faults.after ≡ desk.faults.before) → (status ≡ 3) ⊎ (status ≡ 5)
  pub complete :
      AreTold desk.files asked → IsOkAnd asked (AreAccepted desk.files) → ¬ HasFailed desk.faults → ¬ HasFailed out.faults
      → IsStatusBy asked desk.files status ⊎ (status ≡ 5)
  -- A steady desk has no fault, nor has an output with room for the text.
  pub steady : IsTrue desk.steady → desk.faults.after ≡ desk.faults.before
  pub room : HasRoomFor out.room asked desk.files → out.faults.after ≡ out.faults.before
  pub sure :
      IsTrue desk.steady → AreTold desk.files asked → IsOkAnd asked (AreAccepted desk.files) → HasRoomFor out.room asked desk.files
      → desk.faults.before < greatest → out.faults.before < greatest → IsStatusBy asked desk.files status ⊎ (status ≡ 5)

-- whatever words asked for, and however desk and output were used: where that ended so, the promises are kept
abbrev pub KeepsWhatPerforms : Ending → SinkUse → ℕ → Type 0
KeepsWhatPerforms ending err status =
    (asked : Result PlainRequest ℕ) (desk : DeskUse) (out : SinkUse) → Performs ending asked desk out
    → KeepsPromises asked desk out err status
