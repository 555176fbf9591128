-- How the rule of a spelling is looked for. Working words of proofs.
use Rattle.std.specs.Prelude.{◌≡◌, ℕ, ◌<◌, true, List, [], Option, None, Some, length, slice_index_or}
use Rattle.cs_grammar.specs.Grammar.{PlainGrammar}
use Rattle.cs_manifest.specs.Manifest.Lines.{is_large}
use Rattle.cs_spell.specs.Telling.Chosen.{HasNoCandidate, IsBetter, IsCandidate, IsChosen, IsWantedAt, RuleVerdict}
use Rattle.cs_verdicts.specs.declared.positive.verdict.Verdict.TheVariants.{Infeasible}

abbrev pub verdict_at : List RuleVerdict → ℕ → RuleVerdict
verdict_at judged place = slice_index_or judged place (record { verdict = Infeasible; tokens = [] })

module _ (g : PlainGrammar) (judged : List RuleVerdict) (wanted : Option ℕ) where
  abbrev pub IsCandidateAt : ℕ → Type 0
  IsCandidateAt place = IsCandidate g judged wanted place (verdict_at judged place)

  abbrev pub IsLargeAt : ℕ → Type 0
  IsLargeAt place = IsWantedAt g judged wanted place (verdict_at judged place) × (is_large (verdict_at judged place).verdict ≡ true)

  -- of the candidates in front of the limit this is the best, and the first of those
  pub record IsBestAt (limit place : ℕ) : Type 0 where
    pub below : place < limit
    pub is : IsCandidateAt place
    pub best : (other : ℕ) (k : RuleVerdict) → other < limit → IsCandidate g judged wanted other k → IsBetter wanted k (verdict_at judged place) → ⊥
    pub first : (other : ℕ) (k : RuleVerdict) → other < place → IsCandidate g judged wanted other k → IsBetter wanted (verdict_at judged place) k

  abbrev pub IsBestBelow : ℕ → Option ℕ → Type 0
  IsBestBelow limit None = (place : ℕ) (j : RuleVerdict) → place < limit → IsCandidate g judged wanted place j → ⊥
  IsBestBelow limit (Some place) = IsBestAt limit place

  -- the chosen rule's place, or that there is no candidate
  abbrev pub IsChoice : Option ℕ → Type 0
  IsChoice None = HasNoCandidate g judged wanted
  IsChoice (Some place) = (place < length judged) × IsChosen g judged wanted place (verdict_at judged place)
