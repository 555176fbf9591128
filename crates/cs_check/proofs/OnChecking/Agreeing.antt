-- Sets that the same lines claim have the same members.
use Rattle.std.proofs.Common.{List}
use Rattle.cs_goals.specs.declared.goal.Goal.{Goal}
use Rattle.cs_yacc.specs.Reading.File.{File}
use Rattle.cs_lines.specs.Lines.Line.{Line}
use Rattle.cs_closed.specs.Closed.Sets.{PlainSets}
use Rattle.cs_closed.specs.Closed.Closed.{AreClosed, Excludes}
use Rattle.cs_check.specs.Passing.Head.{AreClaimed}
use Rattle.cs_closed.proofs.OnClosed.Same.{AreWithin, closed_too, excludes_too}

module _ (file : File) (lines : List Line) where
  claimed_within : (s t : PlainSets) → AreClaimed file lines s → AreClaimed file lines t → AreWithin s t
  claimed_within s t h k = record {
    productive = λ n is. (k.productive n).1 ((h.productive n).0 is);
    reachable = λ n is. (k.reachable n).1 ((h.reachable n).0 is);
    empty = λ n is. (k.empty n).1 ((h.empty n).0 is);
    first = λ n b is. (k.first n b).1 ((h.first n b).0 is);
    last = λ n a is. (k.last n a).1 ((h.last n a).0 is);
    next = λ a b is. (k.next a b).1 ((h.next a b).0 is);
  }

  module _ (s t : PlainSets) (h : AreClaimed file lines s) (k : AreClaimed file lines t) where
    pub claimed_closed : AreClosed file.grammar s → AreClosed file.grammar t
    claimed_closed closed = closed_too s t (claimed_within s t h k) (claimed_within t s k h) file.grammar closed

    pub claimed_exclude : (goal : Goal) → Excludes file.grammar s goal → Excludes file.grammar t goal
    claimed_exclude goal excluded =
        excludes_too s t (claimed_within s t h k) (claimed_within t s k h) file.grammar goal excluded
