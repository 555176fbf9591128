-- No line claims nothing.
use Rattle.std.proofs.Common.{◌≡◌, ℕ, zero, suc, Bool, false, List, [], replicate, length}
use Rattle.std.proofs.lemmas.List.{length-replicate}
use Rattle.std.proofs.lemmas.List.Elements.{All-replicate}
use Rattle.cs_grammar.specs.declared.symbol.Mark.{Mark}
use Rattle.cs_grammar.specs.declared.symbol.Mark.TheVariants as marks
use Rattle.cs_yacc.specs.Reading.File.{File}
use Rattle.cs_lines.specs.Words.Names.{IsTokenNamed, IsNonterminalNamed, IsBehindNamed}
use Rattle.cs_closed.specs.Closed.Sets.{IsPair, IsNext, no_sets}
use Rattle.cs_check.specs.Passing.Head.{entry, AreClaimed, ClaimsNext}
use Rattle.cs_check.specs.Checking.Claims.{IsTable, AreWholeSets}
use Rattle.cs_closed.proofs.OnClosed.Members.{none_in_falses}
use Rattle.cs_check.proofs.OnChecking.Named.{Among}
use Rattle.cs_check.proofs.OnChecking.Claimed.{none_among}
use Rattle.cs_check.proofs.OnChecking.Claims.{whole_fits}

none_in_table : (rows last n t : ℕ) → IsPair (replicate rows (replicate last false)) n t → ⊥
none_in_table rows last n zero h = none_in_falses 0 n h
none_in_table zero last n (suc k) h = none_in_falses 0 n h
none_in_table (suc rows) last n (suc zero) h = none_in_falses last n h
none_in_table (suc rows) last n (suc (suc k)) h = none_in_table rows last n (suc k) h

table : (rows last : ℕ) → IsTable rows last (replicate rows (replicate last false))
table rows last = record {
  rows = length-replicate rows (replicate last false);
  each = All-replicate (λ (set : List Bool). length set ≡ last) rows (replicate last false) (length-replicate last false);
}

module _ (file : File) where
  pub whole_none : AreWholeSets file.grammar (no_sets file.grammar)
  whole_none =
      let g = file.grammar in record {
        productive = length-replicate g.nonterminals false;
        reachable = length-replicate g.nonterminals false;
        empty = length-replicate g.nonterminals false;
        first = table g.tokens g.nonterminals;
        last = table g.tokens g.nonterminals;
        begin = length-replicate g.tokens false;
        next = table g.tokens g.tokens;
        end = length-replicate g.tokens false;
      }

  none_next : (a b : Mark) → IsNext (no_sets file.grammar) a b → ⊥
  none_next marks.Begin marks.Begin h = h
  none_next marks.Begin (marks.Token t) h = none_in_falses file.grammar.tokens t h
  none_next marks.Begin marks.End h = absurd cc
  none_next (marks.Token a) marks.Begin h = h
  none_next (marks.Token a) (marks.Token t) h = none_in_table file.grammar.tokens file.grammar.tokens a t h
  none_next (marks.Token a) marks.End h = none_in_falses file.grammar.tokens a h
  none_next marks.End marks.Begin h = h
  none_next marks.End (marks.Token t) h = h
  none_next marks.End marks.End h = h

  none_claimed : (a b : Mark) → ClaimsNext file [] a b → ⊥
  none_claimed marks.Begin b h = none_among (IsBehindNamed file) b h
  none_claimed (marks.Token zero) b h = none_among (IsBehindNamed file) b h
  none_claimed (marks.Token (suc k)) b h = none_among (IsBehindNamed file) b h
  none_claimed marks.End b h = none_among (IsBehindNamed file) b h

  none_row : (n t : ℕ) → Among (IsTokenNamed file) (entry [] n) t → ⊥
  none_row zero t h = none_among (IsTokenNamed file) t h
  none_row (suc k) t h = none_among (IsTokenNamed file) t h

  pub claims_none : AreClaimed file [] (no_sets file.grammar)
  claims_none =
      let g = file.grammar in record {
        fit = whole_fits file (no_sets g) whole_none;
        productive = λ n. (λ h. absurd (none_in_falses g.nonterminals n h), λ h. absurd (none_among (IsNonterminalNamed file) n h));
        reachable = λ n. (λ h. absurd (none_in_falses g.nonterminals n h), λ h. absurd (none_among (IsNonterminalNamed file) n h));
        empty = λ n. (λ h. absurd (none_in_falses g.nonterminals n h), λ h. absurd (none_among (IsNonterminalNamed file) n h));
        first = λ n t. (λ h. absurd (none_in_table g.tokens g.nonterminals n t h), λ h. absurd (none_row n t h));
        last = λ n t. (λ h. absurd (none_in_table g.tokens g.nonterminals n t h), λ h. absurd (none_row n t h));
        next = λ a b. (λ h. absurd (none_next a b h), λ h. absurd (none_claimed a b h));
      }
