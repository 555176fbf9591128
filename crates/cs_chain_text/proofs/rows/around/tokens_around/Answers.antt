-- The rules before lead from the start to the node, and those behind turn what follows it into tokens.
use Rattle.std.proofs.Common.{ℕ, List, [], ◌∷◌, ◌++◌, map, reverse, ap, ◌∙◌}
use Rattle.cs_grammar.specs.declared.symbol.Symbol.TheVariants.{Token, Nonterminal}
use Rattle.cs_grammar.specs.Walk.{in_hand}
use Rattle.cs_grammar.proofs.Leading.{front_none, front_some}
use Rattle.cs_chain_text.proofs.OnRows.Around.{around_is, opened}
use Rattle.cs_chain_text.proofs.rows.around.tokens_around.Goals as goal

pub returns-in-None : goal.returns-in-None
returns-in-None c =
    let rest = reverse c.settle.new.pending.items in
    let start = opened c.start.result c.new-first.result.items c.new-pending.result.items c.push.new.self.items c.new-first.ensures.items c.new-pending.ensures.items c.in_ok-push.ensures.items
    ∙ ap (λ (n : ℕ). Nonterminal n ∷ []) c.start.ensures in
    around_is c.args.grammar.now c.args.before.now c.args.behind.now c.in-Some.left c.settle.new.done.items c.settle-2.new.done.items
    (in_hand c.new-first.result c.push.new.self) (in_hand c.put_all_in.new.done c.put_all_in.new.pending) rest (in_hand c.new-last.result c.settle.new.pending) (in_hand c.put_all_in-2.new.done c.put_all_in-2.new.pending)
    start (c.in_ok-put_all_in.ensures c.if-not-branch.false) (front_some _ c.settle.new.done c.settle.new.pending _ _ c.in-Some.is c.in_ok-left.ensures)
    (ap (λ (ts : List ℕ). map Token ts ++ rest) c.new-last.ensures.items) (c.in_ok-put_all_in-2.ensures c.if-not-branch-2.false)
    (front_none _ c.settle-2.new.done c.settle-2.new.pending _ c.in-None.is c.in_ok-settle.ensures)
