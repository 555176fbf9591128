-- How the fields of a counter and of a seat are seen.
use Rattle.std.specs.Prelude.{◌≡◌, ◌<◌, [], nat_lt}
use Rattle.cs_fan.specs.declared.counter.Counter.TheInside.{Inside as CounterInside}
use Rattle.cs_fan.specs.declared.counter.Seat.TheInside.{Inside as SeatInside}
use Rattle.cs_fan.specs.Seen.{PlainCounter, PlainSeat}
use Rattle.cs_fan.specs.Rule.{IsSoundView}

abbrev pub counter_of : CounterInside → PlainCounter
counter_of c = record { items = c.items; workers = c.workers; table = c.table.shared.table_id }

pub record IsCounter (c : CounterInside) : Type 0 where
  pub one_word : c.table.shared.table_id.words ≡ 1
  pub key : c.table.shared.key ≡ (c.items, c.workers)

abbrev pub seat_of : SeatInside → PlainSeat
seat_of s = record {
  drawn = s.place.me.0.drawn;
  workers = s.place.me.0.workers;
  saw_end = nat_lt 0 s.place.me.0.over;
  counter = record { items = s.place.me.0.items; workers = s.place.me.0.all; table = s.place.table_id };
}

pub record IsSeat (s : SeatInside) : Type 0 where
  pub no_slot : s.place.me.1 ≡ []
  pub some_worker : 0 < s.place.me.0.workers
  pub sound : IsSoundView s.place.me.0
