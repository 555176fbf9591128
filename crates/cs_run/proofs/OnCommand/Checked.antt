-- How a run ends that writes of a manifest, from what its call did.
use Rattle.std.proofs.Common.{◌≡◌, ℕ, Bool, true, false, List, Result, Ok, Err, refl, sym, subst, inr}
use Rattle.std.specs.Prelude.{IfOk, OnErr, OnOk}
use Rattle.cs_check_text.specs.Text.{Answers, IsCheckText}
use Rattle.cs_io.specs.Asked.{GrewByOne, GrewByPart, HasRoomForAll, Stopped}
use Rattle.cs_io.specs.Uses.{HasFailed, SinkUse}
use Rattle.cs_io.specs.declared.halt.Halt.{Halt}
use Rattle.cs_io.specs.declared.halt.Halt.TheVariants.{Failed, Memory}
use Rattle.cs_scanner.specs.Scan.Scan.{Scanning}
use Rattle.cs_words.specs.declared.command.Command.TheVariants.{Check}
use Rattle.cs_words.specs.declared.options.Options.{Options}
use Rattle.cs_words.specs.Requests.{PlainArguments}
use Rattle.cs_run.specs.declared.ending.ending.Ending.{Ending}
use Rattle.cs_run.specs.declared.input.judging.Meant.TheVariants.{Text}
use Rattle.cs_run.specs.declared.input.judging.PairAndText.{PairAndText}
use Rattle.cs_run.specs.Command.Carrying.{WritesBy, WritingEnds}
use Rattle.cs_run.specs.Command.Scanned.{WritesCheck}
use Rattle.cs_run.specs.Command.Words.{ending_of_check}
use Rattle.cs_run.specs.Ending.Ending.{GrewAsAsked}
use Rattle.cs_run.specs.Ending.Files.{IsBeyond, IsWithin, scanning_of}
use Rattle.cs_run.specs.Ending.Texts.{Denies, IsTextBy}
use Rattle.cs_run.specs.Input.Refusal.{HasManyStates}

-- what the call did, by what it scans by and by the manifest
record Did (beside : PairAndText) (s : Scanning) (manifest : List ℕ) (outcome : Result Bool Halt) (out : SinkUse) : Type 0 where
  ok : IfOk outcome (λ answer. GrewByOne (λ text. IsCheckText beside.pair.yacc s manifest text × Answers answer text) out.written.before out.written.after)
  part : OnErr outcome (GrewByPart (IsCheckText beside.pair.yacc s manifest) out.written.before out.written.after)
  no_fault : OnOk outcome (out.faults.after ≡ out.faults.before)
  failed : Stopped Failed outcome → HasFailed out.faults
  room : HasRoomForAll (IsCheckText beside.pair.yacc s manifest) out.room → out.faults.after ≡ out.faults.before

module _ (beside : PairAndText) (out : SinkUse) (few : ¬ HasManyStates beside.pair.lex) where
  within : IsWithin (Text beside) Check
  within = (few, (λ takes. absurd cc))

  module _ (arguments : PlainArguments) (options : Options) where
    abbrev Is : List ℕ → Type 0
    Is text = IsTextBy Check arguments options (Text beside) text

    abbrev EndsSo : Ending → Type 0
    EndsSo ending =
        WritingEnds (IsWithin (Text beside) Check) (λ refusal. IsBeyond (Text beside) refusal Check) Is (GrewAsAsked Check Is) (Denies Check) ending out

    ends_so : (outcome : Result Bool Halt) → Did beside (scanning_of beside.pair.lex) beside.text outcome out → EndsSo (ending_of_check outcome)
    ends_so (Ok true) did = (within, did.ok, did.no_fault)
    ends_so (Ok false) did = (within, did.ok, did.no_fault)
    ends_so (Err Failed) did = (within, did.part, did.failed refl)
    ends_so (Err Memory) did = inr (within, did.part)

  did_so : (outcome : Result Bool Halt) (ending : Ending) → ending ≡ ending_of_check outcome → Did beside (scanning_of beside.pair.lex) beside.text outcome out → WritesCheck beside ending out
  did_so outcome ending same did = λ arguments options.
      subst (λ (e : Ending). WritesBy Check arguments options (Text beside) e out) (sym same) (record { ends = ends_so arguments options outcome did; room = did.room })

pub checked_so : (beside : PairAndText) (s : Scanning) (manifest : List ℕ) (outcome : Result Bool Halt) (ending : Ending) (out : SinkUse) → ¬ HasManyStates beside.pair.lex
    → s ≡ scanning_of beside.pair.lex → manifest ≡ beside.text → ending ≡ ending_of_check outcome
    → IfOk outcome (λ answer. GrewByOne (λ text. IsCheckText beside.pair.yacc s manifest text × Answers answer text) out.written.before out.written.after)
    → OnErr outcome (GrewByPart (IsCheckText beside.pair.yacc s manifest) out.written.before out.written.after)
    → OnOk outcome (out.faults.after ≡ out.faults.before) → (Stopped Failed outcome → HasFailed out.faults)
    → (HasRoomForAll (IsCheckText beside.pair.yacc s manifest) out.room → out.faults.after ≡ out.faults.before) → WritesCheck beside ending out
checked_so beside s manifest outcome ending out few scans bytes same ok part no_fault failed room =
    did_so beside out few outcome ending same
    (subst (λ (m : List ℕ). Did beside (scanning_of beside.pair.lex) m outcome out) bytes
    (subst (λ (x : Scanning). Did beside x manifest outcome out) scans (record { ok = ok; part = part; no_fault = no_fault; failed = failed; room = room })))
