-- Texts that were written to a sink one after another.
use Rattle.std.proofs.Common.{ℕ, List, [], ◌++◌, length-append, ap, sym, ◌∙◌, refl, arith, Option}
use Rattle.std.specs.Io.KnownBytes.{append_known}
use Rattle.cs_io.proofs.Known.{known_none, known_twice, known_then_part, known_part}
use Rattle.cs_io.specs.declared.sink.Sink as Sink
use Rattle.cs_io.specs.Lines.{IsCutShort, IsWritten}

module _ {S : Type 0} {g : Sink.Ghosts S} where
  pub written_none : (s : S) → IsWritten g [] s s
  written_none s = record { written = sym (known_none (g.written s)); no_fault = refl; room = omega arith; lent = refl; passed = omega arith }

  pub written_then : {old mid new : S} {first second : List ℕ} → IsWritten g first old mid → IsWritten g second mid new → IsWritten g (first ++ second) old new
  written_then {old} {mid} {new} {first} {second} a b = record {
    written = b.written ∙ ap (λ (known : Option (List ℕ)). append_known known second) a.written ∙ known_twice (g.written old) first second;
    no_fault = b.no_fault ∙ a.no_fault;
    room = omega (arith, a.room, b.room, length-append first second);
    lent = b.lent ∙ a.lent;
    passed = omega (arith, a.passed, b.passed);
  }

  pub written_cut : {old mid new : S} {first second : List ℕ} → IsWritten g first old mid → IsCutShort g second mid new → IsCutShort g (first ++ second) old new
  written_cut {old} {mid} {new} {first} {second} a b = record {
    written = known_then_part (g.written old) (g.written mid) (g.written new) first second a.written b.written;
    fault = omega (arith, a.no_fault, b.fault);
    faults = omega (arith, a.no_fault, b.faults);
    room = omega (arith, a.room, b.room, length-append first second);
    lent = b.lent ∙ a.lent;
    passed = omega (arith, a.passed, b.passed);
  }

  pub cut_longer : {old new : S} {first : List ℕ} (second : List ℕ) → IsCutShort g first old new → IsCutShort g (first ++ second) old new
  cut_longer {old} {new} {first} second a = record {
    written = known_part (g.written old) (g.written new) first second a.written;
    fault = a.fault;
    faults = a.faults;
    room = omega (arith, a.room, length-append first second);
    lent = a.lent;
    passed = a.passed;
  }
