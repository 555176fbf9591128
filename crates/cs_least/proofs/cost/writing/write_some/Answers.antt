-- On top is a token, which has no code, or a nonterminal, whose root is written and which leaves less to write.
use Rattle.std.proofs.Common.{◌++◌, [], ◌∷◌, ap, ◌∙◌, subst}
use Rattle.cs_grammar.specs.declared.symbol.Symbol.{Symbol}
use Rattle.cs_least.specs.Cost.Tables.{HasTables}
use Rattle.cs_least.proofs.OnCost.Written.{loop_leaf, loop_node, front_within, node_falls, grown_more}
use Rattle.cs_least.proofs.cost.writing.write_some.Goals as goal

pub open_up-requires-clause-left : goal.open_up-requires-clause-left
open_up-requires-clause-left c =
    (front_within c.args.trees.now.weights _ _ _ _ _ _ _ _ (subst HasTables c.trees.view_is c.trees.invariant).costs (c.in-Some.ensures.items ∙ ap (λ (x : Symbol). c.pop.new.self.items ++ x ∷ []) c.in-Nonterminal.is) c.loop-symbol.invariant.0).0

pub open_up-requires-clause-small : goal.open_up-requires-clause-small
open_up-requires-clause-small c =
    (front_within c.args.trees.now.weights _ _ _ _ _ _ _ _ (subst HasTables c.trees.view_is c.trees.invariant).costs (c.in-Some.ensures.items ∙ ap (λ (x : Symbol). c.pop.new.self.items ++ x ∷ []) c.in-Nonterminal.is) c.loop-symbol.invariant.0).1

pub loop-symbol-preserved-in-Continue-1 : goal.loop-symbol-preserved-in-Continue-1
loop-symbol-preserved-in-Continue-1 c = (
  loop_node c.args.trees.now.weights _ _ _ _ _ _ _ _ _ _ (subst HasTables c.trees.view_is c.trees.invariant).costs (c.in-Some.ensures.items ∙ ap (λ (x : Symbol). c.pop.new.self.items ++ x ∷ []) c.in-Nonterminal.is) c.in_ok-open_up.ensures.opened c.loop-symbol.invariant.0,
  grown_more c.args.out.now c.loop-symbol.out c.open_up.new.out c.loop-symbol.invariant.1 (c.in_ok-open_up.ensures.opened.number ∷ [], c.in_ok-open_up.ensures.opened.text),
)

pub loop-symbol-preserved : goal.loop-symbol-preserved
loop-symbol-preserved c = (
  loop_leaf c.args.trees.now.weights _ _ _ _ _ c.in_default-symbol.field-0 _ _ (c.in-Some.ensures.items ∙ ap (λ (x : Symbol). c.pop.new.self.items ++ x ∷ []) c.in_default-symbol.is) c.loop-symbol.invariant.0,
  c.loop-symbol.invariant.1,
)

pub loop-symbol-smaller-in-Continue-1 : goal.loop-symbol-smaller-in-Continue-1
loop-symbol-smaller-in-Continue-1 c =
    let at_end = c.in-Some.ensures.items ∙ ap (λ (x : Symbol). c.pop.new.self.items ++ x ∷ []) c.in-Nonterminal.is in
    node_falls c.args.trees.now.weights _ _ _ _ _ _ _ _ (subst HasTables c.trees.view_is c.trees.invariant).costs (front_within c.args.trees.now.weights _ _ _ _ _ _ _ _ (subst HasTables c.trees.view_is c.trees.invariant).costs at_end c.loop-symbol.invariant.0).1 at_end c.in_ok-open_up.ensures.opened
