-- The symbol is the token that is swept.
use Rattle.std.proofs.Common.{◌∷◌, sym, subst}
use Rattle.cs_grammar.specs.declared.symbol.Symbol.{Symbol}
use Rattle.cs_pairs.specs.Kinds.Sweep.{IsSwept}
use Rattle.cs_pairs.proofs.kinds.sweep.Sweep.over.Goals as goal

pub returns-in-Begins-Token-clause-swept : goal.returns-in-Begins-Token-clause-swept
returns-in-Begins-Token-clause-swept c = λ xs swept.
    subst (λ (x : Symbol). IsSwept c.args.kinds.now.weights c.args.kinds.now.grammar (x ∷ xs) c.over_token.result) (sym c.in-Begins-Token.is-1) (c.over_token.ensures.swept xs swept)
