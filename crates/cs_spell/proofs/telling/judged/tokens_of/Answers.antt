-- The derivation of a feasible goal is one of the grammar.
use Rattle.std.proofs.Common.{sym, subst}
use Rattle.cs_goals.specs.declared.goal.Goal.TheVariants.{Rule}
use Rattle.cs_grammar.specs.Grammar.{PlainGrammar}
use Rattle.cs_grammar.specs.Tree.{IsDerivationOf}
use Rattle.cs_spell.proofs.OnTelling.Judging.{derivation_of}
use Rattle.cs_spell.proofs.telling.judged.tokens_of.Goals as goal

pub yield_of-requires : goal.yield_of-requires
yield_of-requires c =
    subst (λ (g : PlainGrammar). IsDerivationOf g c.in-Feasible.derivation) (sym c.grammar.ensures)
    (derivation_of c.args.embeds.now (Rule c.args.rule) c.args.verdict.now c.in-Feasible.size c.in-Feasible.derivation c.in-Feasible.is c.requires)
