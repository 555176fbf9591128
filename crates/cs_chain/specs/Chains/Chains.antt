-- The list of a grammar's chains.
use Rattle.std.specs.Prelude.{ℕ, List, [], ◌∷◌, ◌==◌, if◌then◌else◌}
use Rattle.std.specs.List.{flat_map}
use Rattle.cs_grammar.specs.Grammar.{PlainGrammar}
use Rattle.cs_goals.specs.declared.goal.Goal.{Goal}
use Rattle.cs_goals.specs.declared.goal.Goal.TheVariants.{Rule, Context, Pair}
use Rattle.cs_goals.specs.Goals.{context_goals}
use Rattle.cs_chain.specs.declared.chains.chain.Chain.{Chain}

-- the chain of these numbers
abbrev pub chain_of : ℕ → ℕ → ℕ → ℕ → ℕ → Chain
chain_of p i q j r = record { outer = p; place = i; middle = q; spot = j; inner = r }

-- the context goal (p, i, q) with another one under it: no chain where the outer rule of the other isn't q
abbrev pub chained : ℕ → ℕ → ℕ → Goal → List Chain
chained p i q (Context m j r) = if m == q then chain_of p i q j r ∷ [] else []
chained p i q (Rule r) = []
chained p i q (Pair a b) = []

-- the chains that begin with a context goal, in the order of the context goals under it
abbrev pub chains_from : PlainGrammar → Goal → List Chain
chains_from g (Context p i q) = flat_map (chained p i q) (context_goals g)
chains_from g (Rule r) = []
chains_from g (Pair a b) = []

-- the chains, in the order of the context goals that they begin with
abbrev pub chains : PlainGrammar → List Chain
chains g = flat_map (chains_from g) (context_goals g)
