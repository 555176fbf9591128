-- The nonterminals of steps.
use Rattle.std.proofs.Common.{◌≡◌, ◌-◌, ◌<◌, List, [], ◌∷◌, ◌++◌, length, get_or, refl, sym, subst, arith}
use Rattle.std.specs.Prelude.{All}
use Rattle.std.proofs.lemmas.List.{length-append}
use Rattle.std.proofs.lemmas.List.Elements.{All-get_or}
use Rattle.cs_grammar.specs.declared.symbol.Symbol.{Symbol}
use Rattle.cs_grammar.specs.declared.symbol.Symbol.TheVariants.{Nonterminal}
use Rattle.cs_grammar.specs.Grammar.{PlainGrammar, IsNumberOf, IsGrammar, IsSymbol}
use Rattle.cs_grammar.specs.Weights.{Measure}
use Rattle.cs_least.specs.declared.embed.inwards.RulePlace.{RulePlace}
use Rattle.cs_least.specs.Embed.Ways.{IsInward}
use Rattle.cs_least.proofs.OnEmbed.Steps.{inward_right}
use Rattle.cs_least.proofs.OnCost.Rules.{well_formed_at}
use Rattle.cs_least.specs.declared.ways.step.Step.{Step}

-- a step's nonterminals are the grammar's
pub inward_from : (w : Measure) (g : PlainGrammar) (a : RulePlace) (s : Step) → IsGrammar g → IsInward w g a s → IsNumberOf g.nonterminals s.from
inward_from w g a s grammar is =
    subst (λ n. IsNumberOf g.nonterminals n) (sym is.from) (well_formed_at g (a.rule - 1) is.here.production grammar is.here.number.at).left

pub inward_to : (w : Measure) (g : PlainGrammar) (a : RulePlace) (s : Step) → IsGrammar g → IsInward w g a s → IsNumberOf g.nonterminals s.to
inward_to w g a s grammar is =
    let each = subst (λ (xs : List Symbol). All (IsSymbol g.tokens g.nonterminals) xs) (inward_right w g a s is) (well_formed_at g (a.rule - 1) is.here.production grammar is.here.number.at).right in
    let within : length is.here.before < length (is.here.before ++ Nonterminal s.to ∷ is.here.behind) = omega (arith, length-append is.here.before (Nonterminal s.to ∷ is.here.behind)) in
    subst (IsSymbol g.tokens g.nonterminals) (there is.here.before is.here.behind) (All-get_or (IsSymbol g.tokens g.nonterminals) (is.here.before ++ Nonterminal s.to ∷ is.here.behind) (length is.here.before) (Nonterminal s.to) within each)
  where
    there : (xs ys : List Symbol) → get_or (xs ++ Nonterminal s.to ∷ ys) (length xs) (Nonterminal s.to) ≡ Nonterminal s.to
    there [] ys = refl
    there (x ∷ xs) ys = there xs ys
