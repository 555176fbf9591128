-- The number of a lexeme is at least 1 and at most 1000000.
use Rattle.std.proofs.Common.{ℕ, List, sym, subst, take}
use Rattle.std.specs.Prelude.{All}
use Rattle.cs_grammar.specs.Grammar.{IsNumberOf}
use Rattle.cs_run.proofs.OnWriter.Numbers.{are_weights}
use Rattle.cs_run.proofs.writer.weights.byte_weights.Goals as goal

pub new-requires-clause-numbers : goal.new-requires-clause-numbers
new-requires-clause-numbers c =
    subst (λ (numbers : List ℕ). All (IsNumberOf 1000000) numbers) (sym c.loop-place.invariant) (are_weights (take c.loop-place.place c.args.lexemes.now))
