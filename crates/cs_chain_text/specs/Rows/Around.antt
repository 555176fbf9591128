-- The tokens of a chain's tree in three parts: those before the node with the inner rule, its own, and those behind it. Working
-- words of proofs.
use Rattle.std.specs.Prelude.{ℕ, List, [], ◌∷◌, map, Bool, IsTrue, Option, Result, IfOk, IfSome}
use Rattle.std.specs.Global.{Vec}
use Rattle.cs_grammar.specs.declared.symbol.Symbol.{Symbol}
use Rattle.cs_grammar.specs.declared.symbol.Symbol.TheVariants.{Token, Nonterminal}
use Rattle.cs_grammar.specs.Grammar.{PlainGrammar}
use Rattle.cs_grammar.specs.Leftmost.{Derives, form, from_start}
use Rattle.cs_grammar.specs.Walk.{in_hand}
use Rattle.cs_chain_text.specs.declared.rows.around.Around.{Around}

-- where it ends well, the rule numbers were put in for the leftmost nonterminals
abbrev pub PutsIn : PlainGrammar → List ℕ → Vec ℕ → Vec Symbol → Vec ℕ → Vec Symbol → Bool → Type 0
PutsIn g rules done pending done_then pending_then whole = IsTrue whole → Derives g (in_hand done pending) rules (in_hand done_then pending_then)

-- The rule numbers before the node lead to these tokens and an open nonterminal, and those behind it lead from what is open behind
-- that to these tokens.
pub record AreTokensAround (g : PlainGrammar) (before behind : List ℕ) (left : ℕ) (first last : List ℕ) : Type 0 where
  pub rest : List Symbol
  pub leads : Derives g (from_start g) before (form first left rest)
  pub ends : Derives g rest behind (map Token last)

abbrev pub IsAround : PlainGrammar → List ℕ → List ℕ → Around → Type 0
IsAround g before behind around = AreTokensAround g before behind around.left around.first.items around.last.items

-- where something is found, it is of the kind
abbrev pub Finds : {A E : Type 0} → (A → Type 0) → Result (Option A) E → Type 0
Finds Kind result = IfOk result (λ found. IfSome found Kind)

-- the code of a node of the nonterminal leads to these tokens
abbrev pub AreTokensIn : PlainGrammar → ℕ → List ℕ → List ℕ → Type 0
AreTokensIn g left code tokens = Derives g (Nonterminal left ∷ []) code (map Token tokens)
