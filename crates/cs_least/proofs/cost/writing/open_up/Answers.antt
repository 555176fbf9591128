-- The number of the root is written, and its right side stands on top of what was pending.
use Rattle.std.proofs.Common.{◌++◌, List, reverse, ap, ◌∙◌}
use Rattle.std.proofs.lemmas.Result.{on_ok_weaker}
use Rattle.cs_grammar.specs.declared.symbol.Symbol.{Symbol}
use Rattle.cs_least.proofs.cost.writing.open_up.Goals as goal

pub returns-clause-opened : goal.returns-clause-opened
returns-clause-opened c =
    let root = c.in_ok-right.ensures.root in
    on_ok_weaker c.put_on_top.result
    (λ e. record {
      number = root.number;
      first = root.first;
      pending = e ∙ ap (λ (xs : List Symbol). xs ++ reverse c.args.pending.now.items) root.of_rule;
      text = root.text;
    })
    c.put_on_top.ensures.ok
