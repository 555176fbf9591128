-- Which line is told, where a token or a rule is.
use Rattle.std.proofs.Common.{◌≡◌, ℕ, Bool, List, Bor, ap, ◌↔◌}
use Rattle.std.specs.Prelude.{IsTrue}
use Rattle.cs_lines.specs.declared.lines.names.Names.{Names}
use Rattle.cs_lines.specs.declared.lines.line.Line.TheVariants as lines
use Rattle.cs_lines.specs.Lines.Line.{Line, Opening, Weighing, TokenLine, RuleLine, LexemeLine, SetLine, RowLine, CaseLine, DeriveLine, TokensLine, TextLine, NoLexemeLine, NoScanLine, GoalLine, BaseLine, NegativeLine, EndLine}
use Rattle.cs_lines.specs.Lines.Numbers.{IsRead}
use Rattle.cs_lines.specs.Lines.Read.{Tells}
use Rattle.cs_check.specs.Passing.Head.{TheToken, TheRule, Takes}

module _ (t n : ℕ) (a : Bor (List ℕ)) (so : Bool) (is : (k : ℕ) → IsRead k n → IsTrue so ↔ (k ≡ t)) where
  pub token_taken : (l : Line) → Tells (lines.Token n a) l → IsTrue so ↔ Takes (TheToken t) l
  token_taken Opening h = absurd h
  token_taken (Weighing w) h = absurd h
  token_taken (TokenLine number name) h = (
    λ e. (name, ap (λ (k : ℕ). TokenLine k name) ((is number h.0).0 e)),
    λ takes. let both : TokenLine number name ≡ TokenLine t takes.0 = takes.1 in let same : number ≡ t = cc in (is number h.0).1 same,
  )
  token_taken (RuleLine r left right) h = absurd h
  token_taken (LexemeLine name text) h = absurd h
  token_taken (SetLine kind names) h = absurd h
  token_taken (RowLine kind name names) h = absurd h
  token_taken (CaseLine k size) h = absurd h
  token_taken (DeriveLine rules) h = absurd h
  token_taken (TokensLine names) h = absurd h
  token_taken (TextLine text) h = absurd h
  token_taken (NoLexemeLine name) h = absurd h
  token_taken (NoScanLine after) h = absurd h
  token_taken (GoalLine k goal verdict) h = absurd h
  token_taken (BaseLine k goal) h = absurd h
  token_taken (NegativeLine k base edit left right at) h = absurd h
  token_taken (EndLine counts) h = absurd h

module _ (t n : ℕ) (a : Bor (List ℕ)) (named : Names) (so : Bool) (is : (k : ℕ) → IsRead k n → IsTrue so ↔ (k ≡ t)) where
  pub rule_taken : (l : Line) → Tells (lines.Rule n a named) l → IsTrue so ↔ Takes (TheRule t) l
  rule_taken Opening h = absurd h
  rule_taken (Weighing w) h = absurd h
  rule_taken (TokenLine number name) h = absurd h
  rule_taken (RuleLine number left right) h = (
    λ e. (left, right, ap (λ (k : ℕ). RuleLine k left right) ((is number h.0).0 e)),
    λ takes. let both : RuleLine number left right ≡ RuleLine t takes.0 takes.1 = takes.2 in let same : number ≡ t = cc in (is number h.0).1 same,
  )
  rule_taken (LexemeLine name text) h = absurd h
  rule_taken (SetLine kind names) h = absurd h
  rule_taken (RowLine kind name names) h = absurd h
  rule_taken (CaseLine k size) h = absurd h
  rule_taken (DeriveLine rules) h = absurd h
  rule_taken (TokensLine names) h = absurd h
  rule_taken (TextLine text) h = absurd h
  rule_taken (NoLexemeLine name) h = absurd h
  rule_taken (NoScanLine after) h = absurd h
  rule_taken (GoalLine k goal verdict) h = absurd h
  rule_taken (BaseLine k goal) h = absurd h
  rule_taken (NegativeLine k base edit left right at) h = absurd h
  rule_taken (EndLine counts) h = absurd h
