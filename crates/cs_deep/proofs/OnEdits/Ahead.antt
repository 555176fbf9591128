-- The first negative that stands ahead of the edits of a base.
use Rattle.std.proofs.Common.{◌≡◌, true, false, ℕ, List, [], ◌∷◌, ◌++◌, refl, sym, subst, Option, None, Some}
use Rattle.std.specs.Prelude.{All}
use Rattle.std.proofs.lemmas.List.Elements.{All-head, All-tail}
use Rattle.cs_deep.specs.Edits.Candidates.{TellsAt}
use Rattle.cs_deep.specs.Edits.Classes.{IsPoisoned}
use Rattle.cs_grammar.specs.Grammar.{PlainGrammar}
use Rattle.cs_grammar.specs.Sentence.{framed}
use Rattle.cs_mutate.specs.Edit.{edited}
use Rattle.cs_mutate.specs.Negatives.{Finds, IsHarmless, IsNegative, IsNext}
use Rattle.cs_mutate.specs.Poison.{HasNoPoison}
use Rattle.cs_mutate.specs.declared.edit.Edit.{Edit}
use Rattle.cs_mutate.specs.declared.negative.Negative.{Negative}

module _ (g : PlainGrammar) (w : List ℕ) where
  not_harmless : (n : Negative) (e : Edit) → n.edit ≡ e → IsNegative g w n → IsHarmless g w e → ⊥
  not_harmless n e same negative harmless =
      let here : HasNoPoison g (framed (edited w n.edit)) = subst (λ (x : Edit). HasNoPoison g (framed (edited w x))) (sym same) harmless in
      negative.poisoned (here n.at n.left n.right negative.pair)

  at_negative : (skipped : List Edit) (n : Negative) (behind rest : List Edit) (edit : Edit) → edit ∷ rest ≡ skipped ++ n.edit ∷ behind
      → All (IsHarmless g w) skipped → IsNegative g w n → n.edit ≡ edit → behind ≡ rest
  at_negative [] n behind rest edit split harmless negative same = cc
  at_negative (e ∷ more) n behind rest edit split harmless negative same =
      let first : n.edit ≡ e = cc in
      absurd (not_harmless n e first negative (All-head (IsHarmless g w) e more harmless))

  before_negative : (skipped : List Edit) (n : Negative) (behind rest : List Edit) (edit : Edit) → edit ∷ rest ≡ skipped ++ n.edit ∷ behind
      → All (IsHarmless g w) skipped → IsNegative g w n → (n.edit ≡ edit → ⊥) → IsHarmless g w edit × IsNext g w rest n behind
  before_negative [] n behind rest edit split harmless negative other = absurd (other cc)
  before_negative (e ∷ more) n behind rest edit split harmless negative other =
      let first : e ≡ edit = cc in
      let others : rest ≡ more ++ n.edit ∷ behind = cc in (
        subst (IsHarmless g w) first (All-head (IsHarmless g w) e more harmless),
        record { skipped = more; edits = others; harmless = All-tail (IsHarmless g w) e more harmless; negative = negative },
      )

  -- the edit is the negative that stands ahead
  pub meets : (found : Option Negative) (behind rest : List Edit) (edit : Edit) → Finds g w (edit ∷ rest) found behind → TellsAt found edit true
      → IsPoisoned g (edited w edit) × (behind ≡ rest)
  meets None behind rest edit finds at = absurd cc
  meets (Some n) behind rest edit finds at =
      let same : n.edit ≡ edit = at.0 refl in
      let found : IsPoisoned g (edited w n.edit) = (n.at, (n.left, n.right, finds.negative)) in (
        subst (λ (x : Edit). IsPoisoned g (edited w x)) same found,
        at_negative finds.skipped n behind rest edit finds.edits finds.harmless finds.negative same,
      )

  -- it stands before that, or there is none
  pub passes : (found : Option Negative) (behind rest : List Edit) (edit : Edit) → Finds g w (edit ∷ rest) found behind → TellsAt found edit false
      → IsHarmless g w edit × Finds g w rest found behind
  passes None behind rest edit finds at =
      (All-head (IsHarmless g w) edit rest finds.0, (All-tail (IsHarmless g w) edit rest finds.0, finds.1))
  passes (Some n) behind rest edit finds at =
      before_negative finds.skipped n behind rest edit finds.edits finds.harmless finds.negative (λ same. let e = at.1 same in absurd cc)
