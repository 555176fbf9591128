-- What a clause reads of a sink over a lent sink.
use Rattle.std.specs.Prelude.{◌≡◌, ℕ, List, Option, ◌+◌, ◌-◌, ◌≤◌, length, min, vec_capacity}
use Rattle.std.specs.Borrow.{GName}
use Rattle.std.specs.Io.KnownBytes.{append_known}
use Rattle.cs_io.specs.Faults.{Rose}
use Rattle.cs_io.specs.Sink.{known_length}
use Rattle.cs_io.specs.declared.buffered_sink.BufferedSink.{BufferedSink}

-- the lent sink as it is now
abbrev pub lent_sink : {S : Type 0} → BufferedSink S → S
lent_sink buffered = buffered.sink.now

-- the reference by which it was lent
abbrev pub lent_name : {S : Type 0} → BufferedSink S → GName
lent_name buffered = buffered.sink.ghost_name

-- the bytes that wait for the lent sink
abbrev pub waiting_bytes : {S : Type 0} → BufferedSink S → List ℕ
waiting_bytes buffered = buffered.waiting.now.items

-- what the lent sink has taken, with what waits behind it
abbrev pub buffered_written : {S : Type 0} → (S → Option (List ℕ)) → BufferedSink S → Option (List ℕ)
buffered_written written buffered = append_known (written (lent_sink buffered)) (waiting_bytes buffered)

-- the byte that may wait though the lent sink has no room for it, where anything can wait
abbrev pub spare : {S : Type 0} → BufferedSink S → ℕ
spare buffered = min 1 (vec_capacity buffered.waiting.now)

-- the lent sink's room and the spare byte, without what waits
abbrev pub buffered_room : {S : Type 0} → (S → ℕ) → BufferedSink S → ℕ
buffered_room room buffered = room (lent_sink buffered) + spare buffered - length (waiting_bytes buffered)

-- the lent sink's faults
abbrev pub lent_faults : {S : Type 0} → (S → ℕ) → BufferedSink S → ℕ
lent_faults faults buffered = faults (lent_sink buffered)

-- how many bytes the lent sink is known to have taken
abbrev pub lent_taken : {S : Type 0} → (S → Option (List ℕ)) → BufferedSink S → ℕ
lent_taken written buffered = known_length (written (lent_sink buffered))

-- the lent sink has room for what waits
abbrev pub HasRoomForWaiting : {S : Type 0} → (S → ℕ) → BufferedSink S → Type 0
HasRoomForWaiting room buffered = length (waiting_bytes buffered) ≤ room (lent_sink buffered)

-- the lent sink's faults rose
abbrev pub LentRose : {S : Type 0} → (S → ℕ) → BufferedSink S → BufferedSink S → Type 0
LentRose faults old new = Rose (lent_faults faults old) (lent_faults faults new)

-- the lent sink met no fault
abbrev pub LentMetNone : {S : Type 0} → (S → ℕ) → BufferedSink S → BufferedSink S → Type 0
LentMetNone faults old new = lent_faults faults new ≡ lent_faults faults old
