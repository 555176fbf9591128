-- The rules of a grammar, and the table at the start.
use Rattle.std.proofs.Common.{◌≡◌, ℕ, suc, ◌+◌, ◌-◌, ◌<◌, [], Some, length, get_or, subst, arith, replicate}
use Rattle.std.specs.Prelude.{slice_get}
use Rattle.std.proofs.lemmas.List.{length-replicate}
use Rattle.std.proofs.lemmas.Option.{slice_get_within, slice_get-get_or, get_or_from_slice_get}
use Rattle.cs_grammar.specs.Grammar.{Production, PlainGrammar, IsRule, IsRuleOf, IsGrammar}
use Rattle.cs_grammar.specs.Weights.{Measure}
use Rattle.cs_grammar.specs.Tree.{size}
use Rattle.cs_least.specs.declared.cost.cost.Cost.TheVariants.{Never}
use Rattle.cs_least.specs.Cost.Trees.{IsTreeOf, IsSound}
use Rattle.cs_least.proofs.OnCost.Tables.{Holds-replicate}

-- the rule at an index is one of the grammar's
pub rule_at : (g : PlainGrammar) (i : ℕ) (q : Production) → slice_get g.rules i ≡ Some q → IsRule g (i + 1) q
rule_at g i q at = record { above_zero = omega arith; at = (let e : i + 1 - 1 ≡ i = omega arith in rw e at) }

-- there is a rule behind each index
pub some_rule : (g : PlainGrammar) (i : ℕ) → i < length g.rules → (p : Production) × IsRule g (suc i) p
some_rule g i within =
    let none : Production = record { left = 0; right = [] } in
    let e : suc i - 1 ≡ i = omega arith in
    (get_or g.rules i none, record { above_zero = omega arith; at = rw e (slice_get-get_or g.rules i none within) })

-- and well formed
pub well_formed_at : (g : PlainGrammar) (i : ℕ) (q : Production) → IsGrammar g → slice_get g.rules i ≡ Some q → IsRuleOf g.tokens g.nonterminals q
well_formed_at g i q grammar at =
    subst (IsRuleOf g.tokens g.nonterminals) (get_or_from_slice_get g.rules i q q at) (grammar.rules i q (slice_get_within g.rules i q at))

-- at the start no nonterminal has a cost
pub sound_start : (w : Measure) (g : PlainGrammar) → IsSound w g (replicate g.nonterminals Never)
sound_start w g = record { many = length-replicate g.nonterminals Never; holds = Holds-replicate w.limit (IsTreeOf g) (size w) g.nonterminals }
