use Rattle.std.proofs.Common.{◌≡◌, ◌-◌, ◌≤◌, length, map}
use Rattle.std.specs.Prelude.{false}
use Rattle.cs_fan.specs.Seats.{IsOf}
use Rattle.cs_fan.specs.Answers.{number_of, AreAnswers}
use Rattle.cs_fan.proofs.fans.work_off.Given as goal

abbrev pub invariant-loop-i : goal.invariant-loop-i
invariant-loop-i g l =
    IsOf l.all.counter.now l.seat
    × (l.seat.workers ≡ l.fn.seat.workers)
    × (l.seat.saw_end ≡ false)
    × (length l.seat.drawn ≤ l.all.counter.now.items)
    × (map number_of l.answers.items ≡ l.seat.drawn)
    × AreAnswers (g.W.Work.answers l.all.work.now) l.all.items.now l.answers.items

abbrev pub decreases-loop-i : goal.decreases-loop-i
decreases-loop-i g l = l.all.counter.now.items - length l.seat.drawn
