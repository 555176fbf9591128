-- A writing that stopped: where memory ran out behind lines that were written, and where a write failed.
use Rattle.std.proofs.Common.{ℕ, List, ◌++◌, length, length-append, sym, ap, ◌∙◌, arith}
use Rattle.std.proofs.Math.Seq.{take-length}
use Rattle.std.specs.Io.KnownBytes.{append_known}
use Rattle.cs_io.specs.declared.sink.Sink as Sink
use Rattle.cs_io.proofs.Known.{known_part, known_then_part}
use Rattle.cs_io.specs.Lines.{IsCutShort, IsWritten}
use Rattle.cs_io.specs.declared.halt.Halt.{Halt}
use Rattle.cs_io.specs.declared.halt.Halt.TheVariants.{Failed, Memory}
use Rattle.cs_io.specs.Stops.{IsStopped}

module _ {S : Type 0} {g : Sink.Ghosts S} where
  pub stopped_by_memory : {old new : S} {lines : List ℕ} → IsWritten g lines old new → (more : List ℕ) → IsStopped g (lines ++ more) old new Memory
  stopped_by_memory {old} {new} {lines} a more = record {
    written = known_part (g.written old) (g.written new) lines more
        (record { count = length lines; grew = a.written ∙ ap (λ (l : List ℕ). append_known (g.written old) l) (sym (take-length lines)) });
    failed = λ e. absurd cc;
    faults = omega (arith, a.no_fault);
    no_fault = λ fits. a.no_fault;
    lent = a.lent;
    passed = a.passed;
  }

  pub stopped_by_cut : {old new : S} {lines : List ℕ} → IsCutShort g lines old new → IsStopped g lines old new Failed
  stopped_by_cut {old} {new} {lines} a = record {
    written = a.written;
    failed = λ e. a.fault;
    faults = a.faults;
    no_fault = λ fits. absurd (omega (arith, fits, a.room));
    lent = a.lent;
    passed = a.passed;
  }

  -- more lines would have followed
  pub stopped_longer : {old new : S} {lines : List ℕ} {halt : Halt} → (more : List ℕ) → IsStopped g lines old new halt → IsStopped g (lines ++ more) old new halt
  stopped_longer {old} {new} {lines} more a = record {
    written = known_part (g.written old) (g.written new) lines more a.written;
    failed = a.failed;
    faults = a.faults;
    no_fault = λ fits. a.no_fault (omega (arith, fits, length-append lines more));
    lent = a.lent;
    passed = a.passed;
  }

  -- lines before them were written
  pub stopped_behind : {old mid new : S} {first second : List ℕ} {halt : Halt} → IsWritten g first old mid → IsStopped g second mid new halt → IsStopped g (first ++ second) old new halt
  stopped_behind {old} {mid} {new} {first} {second} a b = record {
    written = known_then_part (g.written old) (g.written mid) (g.written new) first second a.written b.written;
    failed = λ e. omega (arith, a.no_fault, b.failed e);
    faults = omega (arith, a.no_fault, b.faults);
    no_fault = λ fits. b.no_fault (omega (arith, fits, a.room, length-append first second)) ∙ a.no_fault;
    lent = b.lent ∙ a.lent;
    passed = omega (arith, a.passed, b.passed);
  }
