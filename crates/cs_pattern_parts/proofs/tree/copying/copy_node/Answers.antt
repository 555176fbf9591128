-- As many copies as the node has parts are on top of the stack, and give way to the node.
use Rattle.std.proofs.Common.{◌≡◌, ◌∙◌, length, map, arith}
use Rattle.std.proofs.lemmas.Result.{on_ok_weaker}
use Rattle.cs_pattern_parts.specs.Tree.Pattern.{regex}
use Rattle.cs_pattern_parts.proofs.OnTree.Listing.{join_put, either_put}
use Rattle.cs_pattern_parts.proofs.tree.copying.copy_node.Goals as goal

pub returns-in_ok-copies-in-Join : goal.returns-in_ok-copies-in-Join
returns-in_ok-copies-in-Join c =
    let fits = c.in-Join.parts.ok in
    let size : c.len.result ≡ length c.in-Join.parts.items = omega (arith, c.len.ensures) in
    let found = c.in_ok-copies-in-Join.ensures in
    let put = join_put c.args.node.now c.in-Join.parts c.in_ok-copies-in-Join.copies (map regex c.args.stack.now.items) (map regex c.take_last.new.stack.items) c.len.result size found.taken found.left c.in-Join.is in
    on_ok_weaker c.push-in-Join.result (λ h. h ∙ put) c.push-in-Join.ensures

pub returns-in_ok-copies-in-Either : goal.returns-in_ok-copies-in-Either
returns-in_ok-copies-in-Either c =
    let fits = c.in-Either.parts.ok in
    let size : c.len-in-Either.result ≡ length c.in-Either.parts.items = omega (arith, c.len-in-Either.ensures) in
    let found = c.in_ok-copies-in-Either.ensures in
    let put = either_put c.args.node.now c.in-Either.parts c.in_ok-copies-in-Either.copies (map regex c.args.stack.now.items) (map regex c.take_last-in-Either.new.stack.items) c.len-in-Either.result size found.taken found.left c.in-Either.is in
    on_ok_weaker c.push-in-Either.result (λ h. h ∙ put) c.push-in-Either.ensures
