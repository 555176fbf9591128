-- One source more: its beginning is kept where it comes before all that is known of its node.
use Rattle.std.proofs.Common.{get_or, arith, sym, ◌∙◌, subst}
use Rattle.std.proofs.lemmas.Option.{slice_get-get_or}
use Rattle.cs_least.specs.declared.ways.step.Source.{Source}
use Rattle.cs_least.specs.declared.ways.candidate.Candidate.{Candidate}
use Rattle.cs_least.specs.Ways.Ways.{IsNode}
use Rattle.cs_least.specs.Ways.Candidates.{beginning}
use Rattle.cs_least.specs.Ways.Search.{IsKept}
use Rattle.cs_least.proofs.OnWays.Beginnings.{beginnings_more, beginnings_all}
use Rattle.cs_least.proofs.OnWays.Kept.{kept_size}
use Rattle.cs_least.proofs.ways.search.first_beginnings.Goals as goal

pub loop-origin-preserved : goal.loop-origin-preserved
loop-origin-preserved c =
    let sources = c.args.sources.now in
    let i = c.loop-origin.origin in
    let none : Source = record { node = 0; cost = 0 } in
    let s = get_or sources i none in
    let known = c.loop-origin.known.items in
    let last = c.keep.new.known.items in
    let node = subst (λ n. IsNode n s.node) (sym c.loop-origin.invariant.many) (c.requires.nodes i none c.loop-origin-test.true) in
    let kept = subst (λ (d : Candidate). IsKept d known last) c.beginning.ensures c.keep.ensures in
    record {
      many = kept_size (beginning c.args.limit i s) known last kept ∙ c.loop-origin.invariant.many;
      firsts = beginnings_more c.args.limit sources i s known last (slice_get-get_or sources i none c.loop-origin-test.true) node kept c.loop-origin.invariant.firsts;
    }

pub returns : goal.returns
returns c = (c.loop-origin.invariant.many, beginnings_all c.args.limit c.args.sources.now c.loop-origin.origin _ (omega arith) c.loop-origin.invariant.firsts)
