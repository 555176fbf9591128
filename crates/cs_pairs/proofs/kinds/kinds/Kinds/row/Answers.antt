-- Each kind has its own row, which stands at the token's place where the kind has a token.
use Rattle.std.proofs.Common.{get_or, ap, ◌∙◌}
use Rattle.cs_pairs.specs.declared.kinds.kind.TreeKind.TheVariants.{Any, Empty}
use Rattle.cs_pairs.proofs.OnKinds.KindCosts.{costs_held, begins_held, ends_held}
use Rattle.cs_pairs.proofs.kinds.kinds.Kinds.row.Goals as goal

pub returns-in-Any : goal.returns-in-Any
returns-in-Any c = costs_held _ _ _ _ c.self.view_is c.self.invariant.0 c.requires Any _ c.in-Any.is c.costs.ensures

pub returns-in-Empty : goal.returns-in-Empty
returns-in-Empty c = costs_held _ _ _ _ c.self.view_is c.self.invariant.0 c.requires Empty _ c.in-Empty.is c.costs-in-Empty.ensures

pub returns-in-Begins : goal.returns-in-Begins
returns-in-Begins c =
    begins_held _ _ _ _ c.self.view_is c.self.invariant.0 c.requires c.in-Begins.token _ _ c.in-Begins.is (c.costs-in-Begins.ensures ∙ c.index.ensures ∙ ap (λ i. get_or c.self.inside.rows.begins.items i c.index.result.now) c.place_of.ensures)

pub returns-in-Ends : goal.returns-in-Ends
returns-in-Ends c =
    ends_held _ _ _ _ c.self.view_is c.self.invariant.0 c.requires c.in-Ends.token _ _ c.in-Ends.is (c.costs-in-Ends.ensures ∙ c.index-in-Ends.ensures ∙ ap (λ i. get_or c.self.inside.rows.ends.items i c.index-in-Ends.result.now) c.place_of-in-Ends.ensures)
