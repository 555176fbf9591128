-- What a clause reads of a sink over a writer.
use Rattle.std.specs.Prelude.{ℕ, List, Option}
use Rattle.std.specs.Io.KnownBytes.{Appends, Keeps}
use Rattle.cs_io.specs.declared.stream_sink.StreamSink.{StreamSink}

-- the writer, with all that was written to it
abbrev pub stream_writer : {W : Type 0} → StreamSink W → W
stream_writer sink = sink.writer

-- how many writes failed
abbrev pub stream_faults : {W : Type 0} → StreamSink W → ℕ
stream_faults sink = sink.faults

-- where it is known what the writer holds, this grew by the bytes
abbrev pub WriterGrew : {W : Type 0} → (W → Option (List ℕ)) → StreamSink W → StreamSink W → List ℕ → Type 0
WriterGrew contents old new bytes = Appends (contents (stream_writer old)) (contents (stream_writer new)) bytes

-- where it is known what the writer holds, this stayed
abbrev pub WriterKeeps : {W : Type 0} → (W → Option (List ℕ)) → StreamSink W → StreamSink W → Type 0
WriterKeeps contents old new = Keeps (contents (stream_writer old)) (contents (stream_writer new))
