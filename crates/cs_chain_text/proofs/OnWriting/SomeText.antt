-- No file is without a text of its chains, where it isn't so that tokens have no lexemes and no rendering.
use Rattle.std.proofs.Common.{◌<◌, ◌≤◌, ◌⊎◌, ℕ, List, [], inl, inr, refl, Option, None, arith}
use Rattle.std.proofs.lemmas.Bool.{cases_lt}
use Rattle.cs_choices.specs.declared.weigh.Weigh.{Weigh}
use Rattle.cs_grammar.specs.Leftmost.{IsYield}
use Rattle.cs_grammar.specs.Tree.{Tree, code, size, yield}
use Rattle.cs_grammar.specs.Weights.{Weighed}
use Rattle.cs_io.specs.Asked.{IsNotWithout}
use Rattle.cs_yacc.specs.Reading.File.{File}
use Rattle.cs_manifest.specs.Manifest.Manifest.{AreLexemesBy, IsRenderedBy, Texts}
use Rattle.cs_manifest.proofs.OnManifest.Zips.{some_zip}
use Rattle.cs_chain.specs.declared.chains.chain.Chain.{Chain}
use Rattle.cs_chain.specs.declared.judging.verdict.ChainVerdict.{ChainVerdict}
use Rattle.cs_chain.specs.declared.judging.verdict.ChainVerdict.TheVariants.{Feasible, Infeasible, Large}
use Rattle.cs_chain.specs.Chains.Chains.{chains}
use Rattle.cs_chain.specs.Judging.Meets.{IsMet}
use Rattle.cs_chain.specs.Judging.Verdict.{IsChosenOf, IsVerdict}
use Rattle.cs_chain.proofs.OnJudging.Chosen.{chosen_exists, chosen_least, chosen_met}
use Rattle.cs_chain_text.specs.Entries.Text.{IsChainsText, IsEntryOf, chains_lines, weighed_by}

module _ (of : Weighed) where
  -- The chain has no verdict: then no tree meets it, since the chosen one of those that do would give one; and that is a verdict.
  some_verdict : (chain : Chain) → IsNotWithout (IsVerdict of.weights of.grammar chain)
  some_verdict chain none = none Infeasible from_tree
    where
      at_size : (u : Tree) → IsChosenOf of.weights of.grammar chain u → (of.weights.limit < size of.weights u) ⊎ (size of.weights u ≤ of.weights.limit) → ⊥
      at_size u chosen (inl large) = none Large (
        u,
        chosen_met of.weights of.grammar chain u chosen,
        (λ v met. let least = chosen_least of.weights of.grammar chain v u met chosen in omega arith),
      )
      at_size u chosen (inr small) = none (Feasible (size of.weights u) (code u)) (
        small,
        record {
          reached = (u, chosen_met of.weights of.grammar chain u chosen, refl);
          least = λ v met. chosen_least of.weights of.grammar chain v u met chosen;
        },
        (u, chosen, refl),
      )

      from_tree : (t : Tree) → IsMet of.grammar chain t → ⊥
      from_tree t met =
          let u = chosen_exists of.weights of.grammar chain t met in
          at_size u.0 u.1 (cases_lt of.weights.limit (size of.weights u.0))

  module _ (texts : Option Texts) (lexemes : Option (List (Option (List ℕ))))
      (some_rendering : (tokens : List ℕ) → IsNotWithout (IsRenderedBy texts lexemes tokens)) where
    some_entry : (chain : Chain) → IsNotWithout (IsEntryOf of texts lexemes chain)
    some_entry chain none = some_verdict chain with_tokens
      where
        with_tokens : (verdict : ChainVerdict) → IsVerdict of.weights of.grammar chain verdict → ⊥
        with_tokens Infeasible v = none (record { chain = chain; verdict = Infeasible; tokens = []; rendered = None }) (record { is_of = refl; verdict = v; tokens = refl; text = refl })
        with_tokens Large v = none (record { chain = chain; verdict = Large; tokens = []; rendered = None }) (record { is_of = refl; verdict = v; tokens = refl; text = refl })
        with_tokens (Feasible n derivation) v =
            let t = v.2.0 in
            let met = chosen_met of.weights of.grammar chain t v.2.1 in
            let yields : IsYield of.grammar derivation (yield t) = record { tree = t; is_tree = met.0; code = v.2.2; yield = refl } in
            some_rendering (yield t)
            (λ rendered is. none (record { chain = chain; verdict = Feasible n derivation; tokens = yield t; rendered = rendered }) (record { is_of = refl; verdict = v; tokens = yields; text = is }))

pub some_text_of : (file : File) (texts : Option Texts) (weigh : Weigh)
    → ((texts : Option Texts) (lexemes : Option (List (Option (List ℕ)))) (tokens : List ℕ) → IsNotWithout (IsRenderedBy texts lexemes tokens))
    → IsNotWithout (AreLexemesBy texts file.grammar.tokens) → IsNotWithout (IsChainsText file texts weigh)
some_text_of file texts weigh some_rendering some_lexemes none =
    some_lexemes
    (λ lexemes are. some_zip (chains file.grammar) (λ chain among. some_entry (weighed_by weigh file lexemes) texts lexemes (some_rendering texts lexemes) chain)
    (λ entries each. none (chains_lines file lexemes entries)
    (record { lexemes = lexemes; entries = entries; are_lexemes = are; verdicts = each; lines = refl })))
