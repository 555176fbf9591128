use Rattle.cs_graph.specs.Groups.{IsSearchOf, AreSeen, work_of}
use Rattle.cs_graph.proofs.component.finish.Given as goal

abbrev pub invariant-loop-last : goal.invariant-loop-last
invariant-loop-last l = record {
  search : IsSearchOf l.graph l.search;
  seen : AreSeen l.initial.search l.search;
}

abbrev pub decreases-loop-last : goal.decreases-loop-last
decreases-loop-last l = work_of l.graph l.search
