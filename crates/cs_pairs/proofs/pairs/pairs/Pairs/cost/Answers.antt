-- Two tokens have their entry in the row of the second, and a pair with an end costs the least tree of a kind.
use Rattle.std.proofs.Common.{get_or, ap, ◌∙◌, arith}
use Rattle.cs_grammar.specs.declared.symbol.Mark.TheVariants.{Begin, Token, End}
use Rattle.cs_grammar.specs.Grammar.{IsNumberOf}
use Rattle.cs_least.specs.declared.cost.cost.Cost.TheVariants.{Never}
use Rattle.cs_pairs.specs.Pairs.Pairs.{ArePairs}
use Rattle.cs_pairs.proofs.OnPairs.Adjacency.{none_pair, first_pair, last_pair, of_marks, row_held, of_tokens}
use Rattle.cs_pairs.proofs.pairs.pairs.Pairs.cost.Goals as goal
use Rattle.cs_pairs.proofs.pairs.pairs.Pairs.cost.Goals.{After-place_of-in-Token-Token}

-- the row of the second token
row : (c : After-place_of-in-Token-Token) → ArePairs c.args.self.now.weights c.args.self.now.grammar c.in-Token-Token.second c.costs.result.now × IsNumberOf c.args.self.now.grammar.tokens c.in-Token-Token.first
row c =
    let is = c.index.ensures ∙ ap (λ i. get_or c.self.inside.rows.costs.items i c.index.result.now) c.place_of.ensures in
    row_held c.args.self.now.weights c.args.self.now.grammar _ c.self.inside.rows.costs.items _ _ c.in-Token-Token.first c.in-Token-Token.second c.costs.result.now _ _ c.self.view_is c.self.invariant.0 c.requires.left c.requires.right c.in-Token-Token.is-0 c.in-Token-Token.is-1 c.costs.ensures is

pub bounds-costs-place_of : goal.bounds-costs-place_of
bounds-costs-place_of c =
    let d = (goal.at.bounds-costs-place_of c).After-place_of-in-Token-Token in
    omega (arith, (row d).0.many, (row d).1, d.place_of-in-Token-Token.ensures)

pub returns-in-Token-Token : goal.returns-in-Token-Token
returns-in-Token-Token c =
    rw c.place_of-in-Token-Token.ensures (of_tokens c.args.self.now.weights c.args.self.now.grammar _ _ c.in-Token-Token.first c.in-Token-Token.second c.costs.result.now Never c.in-Token-Token.is-0 c.in-Token-Token.is-1 (row (goal.at.returns-in-Token-Token c).After-place_of-in-Token-Token))

pub returns-in-Begin-Token : goal.returns-in-Begin-Token
returns-in-Begin-Token c =
    of_marks c.args.self.now.weights c.args.self.now.grammar _ _ Begin (Token c.in-Begin-Token.second) _ c.in-Begin-Token.is-0 c.in-Begin-Token.is-1 (first_pair c.args.self.now.weights c.args.self.now.grammar c.in-Begin-Token.second _ c.whole_cost.ensures)

pub returns-in-Token-End : goal.returns-in-Token-End
returns-in-Token-End c =
    of_marks c.args.self.now.weights c.args.self.now.grammar _ _ (Token c.in-Token-End.first) End _ c.in-Token-End.is-0 c.in-Token-End.is-1 (last_pair c.args.self.now.weights c.args.self.now.grammar c.in-Token-End.first _ c.whole_cost-in-Token-End.ensures)

pub returns-in-Begin-End : goal.returns-in-Begin-End
returns-in-Begin-End c =
    of_marks c.args.self.now.weights c.args.self.now.grammar _ _ Begin End _ c.in-Begin-End.is-0 c.in-Begin-End.is-1 (none_pair c.args.self.now.weights c.args.self.now.grammar _ c.whole_cost-in-Begin-End.ensures)
