-- The code starts with the node's nonterminal alone, and when it ends no nonterminal is left.
use Rattle.cs_grammar.specs.Walk.{in_hand}
use Rattle.cs_grammar.proofs.Leading.{front_none}
use Rattle.cs_chain_text.proofs.OnRows.Around.{inside_is, opened}
use Rattle.cs_chain_text.proofs.rows.around.tokens_in.Goals as goal

pub returns-in-None : goal.returns-in-None
returns-in-None c =
    inside_is c.args.grammar.now c.args.left c.args.code.now c.settle.new.done.items (in_hand c.new-tokens.result c.push.new.self) (in_hand c.put_all_in.new.done c.put_all_in.new.pending)
    (opened c.args.left c.new-tokens.result.items c.new-pending.result.items c.push.new.self.items c.new-tokens.ensures.items c.new-pending.ensures.items c.in_ok-push.ensures.items)
    (c.in_ok-put_all_in.ensures c.if-not-branch.false) (front_none _ c.settle.new.done c.settle.new.pending _ c.in-None.is c.in_ok-settle.ensures)
