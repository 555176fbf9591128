-- From the sink over an output to the output, where a text is written through it.
use Rattle.std.proofs.Common.{◌≡◌, ℕ, ◌≤◌, List, [], subst, Option}
use Rattle.std.specs.Io.KnownBytes.{append_known}
use Rattle.cs_io.specs.Asked.{GrewByPart, IsOne}
use Rattle.cs_io.specs.BufferedSink.{buffered_written, lent_sink, lent_taken, waiting_bytes}
use Rattle.cs_io.specs.Sink.{GrewByPrefix}
use Rattle.cs_io.specs.declared.buffered_sink.BufferedSink.{BufferedSink}
use Rattle.cs_io.proofs.Out.{whole_lent}

-- the sink took a whole text, and not all came to the output
pub whole_part : {S : Type 0} (written : S → Option (List ℕ)) (old new : BufferedSink S) (Is : List ℕ → Type 0) (text : List ℕ) → IsOne Is → Is text → waiting_bytes old ≡ []
    → buffered_written written new ≡ append_known (buffered_written written old) text → lent_taken written old ≤ lent_taken written new → GrewByPart Is (written (lent_sink old)) (written (lent_sink new))
whole_part written old new Is text one is empty whole longer other is_other =
    subst (λ (l : List ℕ). GrewByPrefix (written (lent_sink old)) (written (lent_sink new)) l) (one text other is is_other) (whole_lent written old new text empty whole longer)
