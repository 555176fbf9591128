-- What membership says: a derivation of a list of tokens, or that no tree of the start symbol yields it.
use Rattle.std.specs.Prelude.{ℕ, ◌≤◌, ◌↔◌, List, Bool, IsTrue, All, length}
use Rattle.cs_grammar.specs.Grammar.{PlainGrammar, IsNumberOf}
use Rattle.cs_grammar.specs.Sentence.{IsSentence}
use Rattle.cs_grammar.specs.Leftmost.{IsYield}
use Rattle.cs_member.specs.declared.membership.membership.Membership.{Membership}
use Rattle.cs_member.specs.declared.membership.membership.Membership.TheVariants.{Inside, Outside}

abbrev pub IsMembership : PlainGrammar → List ℕ → Membership → Type 0
IsMembership g tokens (Inside rules) = IsYield g rules tokens
IsMembership g tokens Outside = IsSentence g tokens → ⊥

-- true exactly where some tree of the start symbol yields the list
abbrev pub TellsMembership : PlainGrammar → List ℕ → Bool → Type 0
TellsMembership g tokens inside = IsTrue inside ↔ IsSentence g tokens

-- the lists that are judged: at most 2,000 of the grammar's tokens
pub record TakesTokens (g : PlainGrammar) (tokens : List ℕ) : Type 0 where
  pub few : length tokens ≤ 2000
  pub tokens_of : All (IsNumberOf g.tokens) tokens
