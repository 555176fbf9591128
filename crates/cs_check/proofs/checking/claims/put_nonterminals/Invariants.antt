use Rattle.std.proofs.Common.{◌≡◌, ℕ, List, length}
use Rattle.cs_lines.specs.Lines.Read.{names_in}
use Rattle.cs_check.specs.Passing.Head.{IsNonterminalName}
use Rattle.cs_check.specs.Checking.Claims.{IsWithNonterminals}
use Rattle.cs_check.proofs.OnChecking.Named.{AreTaken}
use Rattle.cs_check.proofs.checking.claims.put_nonterminals.Given as goal

abbrev pub invariant-loop-name : goal.invariant-loop-name
invariant-loop-name l = record {
  long : length l.set ≡ l.file.grammar.nonterminals;
  taken : AreTaken (IsNonterminalName l.file) (λ (taken : List (List ℕ)). IsWithNonterminals l.file taken l.initial.set l.set) (names_in l.names) (names_in l.rest);
}

abbrev pub decreases-loop-name : goal.decreases-loop-name
decreases-loop-name l = length (names_in l.rest)
