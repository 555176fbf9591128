-- Item by item the reader's state is that of the steps, and after all items of a tree it has the tree's operations.
use Rattle.std.proofs.Common.{◌≡◌, ◌≤◌, ◌∙◌, List, [], length, take, ap, arith}
use Rattle.std.proofs.lemmas.List.{length-map, take_all}
use Rattle.cs_pattern_parts.specs.Items.Items.{items_of}
use Rattle.cs_pattern_parts.specs.Items.Views.{placed_of, placed_all}
use Rattle.cs_pattern_parts.specs.declared.items.item.Placed.{Placed}
use Rattle.cs_pattern.specs.Operations.Definitions.{definitions_of}
use Rattle.cs_pattern.specs.Operations.Operations.{number_of}
use Rattle.cs_pattern.specs.Operations.Postfix.{state_of, state_after, new_level}
use Rattle.cs_pattern.proofs.OnOperations.Postfixed.{steps_more, is_postfix}
use Rattle.cs_pattern.proofs.operations.operations.postfix.Goals as goal

pub loop-placed-preserved : goal.loop-placed-preserved
loop-placed-preserved c =
    steps_more (number_of (definitions_of c.args.names.now.entries)) _ _ _ c.args.items.now c.loop-placed.placed-index c.placed-item.result c.loop-placed-test.true c.placed-item.is c.loop-placed.invariant c.in_ok-take.ensures

pub returns : goal.returns
returns c = λ tree d.
    let whole : take c.loop-placed.placed-index c.args.items.now ≡ c.args.items.now = take_all c.loop-placed.placed-index c.args.items.now (omega arith) in
    let few : length (items_of (placed_all c.args.items.now)) ≤ 18446744073709551615 =
    omega (arith, length-map (placed_all c.args.items.now) (λ p. p.item), length-map c.args.items.now placed_of) in
    c.in_ok-push_end.ensures
    ∙ is_postfix (number_of (definitions_of c.args.names.now.entries)) tree (items_of (placed_all c.args.items.now)) (state_of c.loop-placed.reader) d few
    (c.loop-placed.invariant ∙ ap (λ (l : List Placed). state_after (number_of (definitions_of c.args.names.now.entries)) (record { ops = []; outer = []; level = new_level }) (items_of (placed_all l))) whole)
