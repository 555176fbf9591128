-- What contracts see of a sink in memory.
use Rattle.std.specs.Prelude.{ℕ, Bool, List, [], ◌-◌, ◌==◌, length, min, if◌then◌else◌}
use Rattle.cs_io.specs.Failing.{fails_at}

pub record SinkState : Type 0 where
  -- the bytes that it has taken
  pub written : List ℕ
  -- how many bytes it takes in all
  pub capacity : ℕ
  -- how many it takes in one call
  pub step : ℕ
  -- the numbers, from 0, of the calls that fail
  pub failing : List ℕ
  -- how many calls were made
  pub calls : ℕ
  -- how many of them failed
  pub faults : ℕ

-- an empty sink of which no call was made yet
abbrev pub new_sink : ℕ → ℕ → List ℕ → SinkState
new_sink capacity step failing =
    record { written = []; capacity = capacity; step = step; failing = failing; calls = 0; faults = 0 }

-- whether the next call is one that fails
abbrev pub fails_next : SinkState → Bool
fails_next sink = fails_at sink.failing sink.calls

-- how many more bytes it can hold
abbrev pub free_capacity : SinkState → ℕ
free_capacity sink = sink.capacity - length sink.written

-- how many more bytes it is sure to take: none where a call is made to fail
abbrev pub sure_room : SinkState → ℕ
sure_room sink = if length sink.failing == 0 then free_capacity sink else 0

-- how many bytes of a piece of that length it takes in one call that doesn't fail
abbrev pub taken_size : SinkState → ℕ → ℕ
taken_size sink size = min (min size sink.step) (free_capacity sink)
