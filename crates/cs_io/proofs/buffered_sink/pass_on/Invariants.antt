use Rattle.std.proofs.Common.{length, ◌-◌, ◌≡◌, ◌+◌, ◌≤◌, take}
use Rattle.std.specs.Io.KnownBytes.{append_known}
use Rattle.cs_io.proofs.buffered_sink.pass_on.Given as goal

-- the first bytes are taken, no call failed, and the room fell by no more
abbrev pub invariant-loop-count : goal.invariant-loop-count
invariant-loop-count g l =
    (l.count ≤ length l.bytes)
    × (g.S.Sink.written l.sink ≡ append_known (g.S.Sink.written l.initial.sink) (take l.count l.bytes))
    × (g.S.Sink.faults l.sink ≡ g.S.Sink.faults l.initial.sink)
    × (g.S.Sink.room l.initial.sink ≤ g.S.Sink.room l.sink + l.count)

abbrev pub decreases-loop-count : goal.decreases-loop-count
decreases-loop-count g l = length l.bytes - l.count
