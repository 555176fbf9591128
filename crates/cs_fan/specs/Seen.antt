-- What contracts see of a counter and of a seat.
use Rattle.std.specs.Prelude.{ℕ, List, Bool}
use Rattle.atomic_table.specs.Seated.{TableId}

pub record PlainCounter : Type 0 where
  pub items : ℕ
  pub workers : ℕ
  -- which counter it is
  pub table : TableId

pub record PlainSeat : Type 0 where
  -- the numbers that the seat has drawn, in order
  pub drawn : List ℕ
  -- how many workers it stands for
  pub workers : ℕ
  -- one of its draws found the end
  pub saw_end : Bool
  -- the counter that it is of
  pub counter : PlainCounter
