-- A successor on the stack joins the groups behind its place, and a closed one changes nothing.
use Rattle.std.proofs.Common.{◌≡◌, ◌<◌, ◌∙◌, refl, ap, arith, length}
use Rattle.std.specs.Prelude.{Some, slice_get}
use Rattle.std.proofs.lemmas.Option.{slice_get_read}
use Rattle.std.proofs.lemmas.Result.{on_ok_weaker}
use Rattle.cs_graph.specs.declared.component.State.TheVariants.{Open, Closed}
use Rattle.cs_graph.proofs.Grouping.{joins, passes}
use Rattle.cs_graph.proofs.component.look.Goals as goal

pub returns-in-Open : goal.returns-in-Open
returns-in-Open c =
    let g = c.args.graph.now in
    let s = c.args.search.now in
    let size = c.requires.search.size in
    let within : c.args.to < length s.states.items = let lt = c.requires.node in omega arith in
    let is : slice_get s.states.items c.args.to ≡ Some (Open c.in-Open.place) = slice_get_read s.states.items _ c.args.to c.index.result.now refl within c.index.ensures ∙ ap Some c.in-Open.is in
    on_ok_weaker c.join.result (λ j. record {
      search = joins g s.states.items s.stack.items s.pending.items s.groups.items s.closed.items c.args.to c.requires.search c.in-Open.place is c.requires.led_to c.join.new.groups.items j;
      seen = λ x h. h;
      less = let fewer = j.fewer in omega arith;
    }) c.join.ensures

pub returns-in-Closed : goal.returns-in-Closed
returns-in-Closed c =
    let g = c.args.graph.now in
    let s = c.args.search.now in
    let size = c.requires.search.size in
    let within : c.args.to < length s.states.items = let lt = c.requires.node in omega arith in
    let is : slice_get s.states.items c.args.to ≡ Some (Closed c.in-Closed.field-0) = slice_get_read s.states.items _ c.args.to c.index.result.now refl within c.index.ensures ∙ ap Some c.in-Closed.is in
    record {
      search = passes g s.states.items s.stack.items s.pending.items s.groups.items s.closed.items c.args.to c.requires.search c.in-Closed.field-0 is;
      seen = λ x h. h;
      less = omega arith;
    }
