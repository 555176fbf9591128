use Rattle.std.proofs.Common.{◌≡◌, ℕ, length}
use Rattle.cs_grammar.specs.Grammar.{IsNumberOf}
use Rattle.cs_pairs.specs.Kinds.Tables.{row_in}
use Rattle.cs_pairs.specs.Pairs.Fronts.{AreFrontsOf, AreBehindsOf}
use Rattle.cs_pairs.proofs.pairs.fronts.around_rules.Given as goal

abbrev pub invariant-loop-rule : goal.invariant-loop-rule
invariant-loop-rule l = record {
  many : length l.around.fronts.items ≡ l.rule-index;
  fronts : (n : ℕ) → IsNumberOf l.rule-index n → AreFrontsOf l.embeds.weights l.embeds.grammar n (row_in l.around.fronts.items n);
  many_behind : length l.around.behinds.items ≡ l.rule-index;
  behinds : (n : ℕ) → IsNumberOf l.rule-index n → AreBehindsOf l.embeds.weights l.embeds.grammar n (row_in l.around.behinds.items n);
}
