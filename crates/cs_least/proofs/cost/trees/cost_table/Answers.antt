-- Each cost in the table is one of a tree, and no rule makes a nonterminal cost less than it says.
use Rattle.cs_least.proofs.OnCost.TreeCosts.{exact_table}
use Rattle.cs_least.proofs.cost.trees.cost_table.Goals as goal

pub returns : goal.returns
returns c =
    let table = c.in_ok-table.table.items in
    record {
      weighs = record { grammar = c.rules-rules.ensures.well_formed; weights = c.limit-limit.ensures.well_formed; each = c.requires };
      many = c.in_ok-table.ensures.sound.many;
      each = c.in_ok-table.ensures.sound.holds.each;
      exact = exact_table c.args.weights.now c.args.grammar.now table c.in_ok-table.ensures.sound c.in_ok-table.ensures.closed;
    }
