use Rattle.std.proofs.Common.{◌≡◌, ◌<◌, ℕ}
use Rattle.std.specs.Prelude.{None, Some, IfSome, All, slice_get}
use Rattle.cs_grammar.specs.declared.symbol.Symbol.TheVariants.{Nonterminal}
use Rattle.cs_grammar.specs.Grammar.{Production}
use Rattle.cs_member.specs.Tables.Tables.{HasEmpty, IsFurther}
use Rattle.cs_member.proofs.tables.empties.find_least.Given as goal

abbrev pub invariant-loop-place : goal.invariant-loop-place
invariant-loop-place l = record {
  some : IfSome l.least (λ found. IsFurther l.grammar l.empties found.rule);
  none : l.least ≡ None → (k : ℕ) (p : Production) → k < l.place → slice_get l.grammar.rules k ≡ Some p → All (HasEmpty l.empties) p.right → HasEmpty l.empties (Nonterminal p.left);
}
