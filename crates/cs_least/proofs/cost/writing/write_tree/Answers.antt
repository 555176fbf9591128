-- Behind the number of the root stand the codes of its right side's trees, of which tokens have none.
use Rattle.std.proofs.Common.{◌≡◌, ◌++◌, List, reverse, sym, ap, ◌∙◌, subst, append-nil}
use Rattle.std.specs.Prelude.{All}
use Rattle.std.proofs.lemmas.Result.{on_ok_weaker}
use Rattle.cs_grammar.specs.declared.symbol.Symbol.{Symbol}
use Rattle.cs_least.specs.Cost.Parts.{IsText, IsWithin}
use Rattle.cs_least.specs.Cost.Tables.{HasTables}
use Rattle.cs_least.proofs.OnCost.Written.{left_small, right_within, tree_above_tokens, tree_written}
use Rattle.cs_least.proofs.cost.writing.write_tree.Goals as goal
use Rattle.cs_least.proofs.cost.writing.write_tree.Goals.{In_ok-put_on_top}

-- the symbols that are pending are those of the right side
pending_is : (c : In_ok-put_on_top) → reverse c.put_on_top.new.stack.items ≡ c.in_ok-right.right.now
pending_is c =
    c.in_ok-put_on_top.ensures.ok ∙ ap (λ (l : List Symbol). c.in_ok-right.right.now ++ reverse l) c.in_ok-pending.ensures.items ∙ append-nil c.in_ok-right.right.now

pub push_root-requires-clause-small : goal.push_root-requires-clause-small
push_root-requires-clause-small c =
    (left_small c.args.trees.now.weights _ _ (subst HasTables c.trees.view_is c.trees.invariant).costs c.args.left c.requires).1

pub returns-then-are_tokens-clause-written : goal.returns-then-are_tokens-clause-written
returns-then-are_tokens-clause-written c =
    tree_above_tokens c.args.trees.now.weights _ _ (subst HasTables c.trees.view_is c.trees.invariant).costs c.args.left c.requires _ _ _
    c.in_ok-right.ensures.root (sym c.are_tokens.ensures ∙ c.if-are_tokens.true)

pub write_some-requires : goal.write_some-requires
write_some-requires c =
    let w = c.args.trees.now.weights in
    let g = c.args.trees.now.grammar in
    let within = right_within w g _ (subst HasTables c.trees.view_is c.trees.invariant).costs c.args.left c.requires _ _ _ c.in_ok-right.ensures.root in
    record { small = subst (λ (l : List Symbol). All (IsWithin w g) l) (sym (pending_is (goal.at.write_some-requires c).In_ok-put_on_top)) within }

pub returns-clause-written : goal.returns-clause-written
returns-clause-written c =
    let w = c.args.trees.now.weights in
    let g = c.args.trees.now.grammar in
    let pending = sym (pending_is (goal.at.returns-clause-written c).In_ok-put_on_top) in
    on_ok_weaker c.write_some.result
    (λ e text is. tree_written w g _ (subst HasTables c.trees.view_is c.trees.invariant).costs c.args.left c.requires _ _ _ c.in_ok-right.ensures.root c.write_some.new.out
    (λ more are. e more (subst (λ (l : List Symbol). IsText w g l more) pending are)) text is)
    c.write_some.ensures.written
