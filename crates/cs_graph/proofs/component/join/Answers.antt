-- A group that begins behind the place is dropped, and the first that doesn't ends the joining.
use Rattle.std.proofs.Common.{List, sym, subst}
use Rattle.cs_graph.specs.declared.component.Group.{Group}
use Rattle.cs_graph.specs.Groups.{IsJoined}
use Rattle.cs_graph.proofs.Grouping.{joined_here, still_kept, still_from, still_rises, still_fewer}
use Rattle.cs_graph.proofs.component.join.Goals as goal

pub returns-then-last-place : goal.returns-then-last-place
returns-then-last-place c =
    let i = c.loop-last.invariant in
    let P : List Group → Type 0 = λ gs. IsJoined c.args.groups.now.items c.args.place gs in
    subst P (sym c.in_ok-push.ensures.items) (joined_here c.args.groups.now.items c.loop-last.groups.items c.pop.new.self.items c.in-Some.last c.args.place c.in-Some.ensures.items i.kept i.old i.rising i.fewer c.if-last-place.true)

pub loop-last-preserved : goal.loop-last-preserved
loop-last-preserved c =
    let i = c.loop-last.invariant in
    let old = c.args.groups.now.items in
    let gs = c.loop-last.groups.items in
    let front = c.pop.new.self.items in
    record {
      kept = still_kept old gs front c.in-Some.last c.args.place c.in-Some.ensures.items i.kept i.old i.rising i.fewer c.if-last-place.false;
      old = still_from old gs front c.in-Some.last c.args.place c.in-Some.ensures.items i.kept i.old i.rising i.fewer;
      rising = still_rises old gs front c.in-Some.last c.args.place c.in-Some.ensures.items i.kept i.old i.rising i.fewer;
      fewer = still_fewer old gs front c.in-Some.last c.args.place c.in-Some.ensures.items i.kept i.old i.rising i.fewer;
    }
