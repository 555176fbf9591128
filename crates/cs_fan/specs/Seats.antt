-- What contracts say of counters and seats.
use Rattle.std.specs.Prelude.{◌≡◌, ◌≤◌, [], length, IsTrue, false}
use Rattle.cs_fan.specs.Seen.{PlainCounter, PlainSeat}
use Rattle.cs_fan.specs.Numbers.{IsDistinct, IsEachOnceBelow}

-- the seat is of the counter
abbrev pub IsOf : PlainCounter → PlainSeat → Type 0
IsOf c s = s.counter ≡ c

abbrev pub HasSeenEnd : PlainSeat → Type 0
HasSeenEnd s = IsTrue s.saw_end

-- the seat has drawn nothing and hasn't seen the end
abbrev pub IsFresh : PlainSeat → Type 0
IsFresh s = (s.drawn ≡ []) × (s.saw_end ≡ false)

-- what the counter's rule says of a seat, whatever the other seats did
pub record DrawsEachOnce (s : PlainSeat) : Type 0 where
  -- its numbers differ
  pub distinct : IsDistinct s.drawn
  pub few : length s.drawn ≤ s.counter.items
  -- a seat that stands for all workers and has seen the end has drawn each number below the items, once
  pub whole : s.workers ≡ s.counter.workers → HasSeenEnd s → IsEachOnceBelow s.counter.items s.drawn
