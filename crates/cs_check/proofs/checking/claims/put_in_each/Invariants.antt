use Rattle.std.proofs.Common.{ℕ, List, length}
use Rattle.cs_lines.specs.Lines.Read.{names_in}
use Rattle.cs_check.specs.Passing.Head.{IsTokenName}
use Rattle.cs_check.specs.Checking.Claims.{IsTable, IsWithTokens}
use Rattle.cs_check.proofs.OnChecking.Named.{AreTaken}
use Rattle.cs_check.proofs.checking.claims.put_in_each.Given as goal

abbrev pub invariant-loop-name : goal.invariant-loop-name
invariant-loop-name l = record {
  table : IsTable l.file.grammar.tokens l.file.grammar.nonterminals l.table;
  taken : AreTaken (IsTokenName l.file) (λ (taken : List (List ℕ)). IsWithTokens l.file taken l.nonterminal l.initial.table l.table) (names_in l.names) (names_in l.rest);
}

abbrev pub decreases-loop-name : goal.decreases-loop-name
decreases-loop-name l = length (names_in l.rest)
