-- Slips that were taken one after another.
use Rattle.std.proofs.Common.{◌≡◌, ◌↔◌, ◌≤◌, ◌<◌, ℕ, ◌+◌, List, [], ◌∷◌, ◌++◌, append_assoc, drop, get_or, length, take, refl, sym, ap, ◌∙◌, subst, arith, Option, None, Some}
use Rattle.std.specs.Prelude.{All}
use Rattle.std.specs.List.{AllZip, Contains}
use Rattle.std.proofs.lemmas.List.{drop_more, map_push, take_more}
use Rattle.std.proofs.lemmas.List.Elements.{All-head, All-tail, Contains-get_or}
use Rattle.cs_goals.specs.Goals.{HasExactly}
use Rattle.cs_grammar.specs.Grammar.{PlainGrammar}
use Rattle.cs_grammar.specs.Weights.{Weighed}
use Rattle.cs_wrong.proofs.OnClasses.Behind.{behind_both}
use Rattle.cs_wrong.proofs.OnClasses.Meeting.{knows_more, tells_again}
use Rattle.cs_manifest.proofs.OnManifest.Zips.{zip_both}
use Rattle.cs_wrong.specs.Classes.Classes.{IsMet, behind}
use Rattle.cs_wrong.specs.Classes.Coming.{CanTake, IsCandidate, Meets, PlainComing, Takes, TakesNext, TakesOne, TellsAt, all_coming, slips_in}
use Rattle.cs_wrong.specs.Slips.Found.{AreTokensOf, IsFitting, TellsList, tokens_in}
use Rattle.cs_wrong.specs.declared.classes.coming.Candidate.{Candidate}
use Rattle.cs_wrong.specs.Slips.Slips.{IsSlip, slips}
use Rattle.cs_choices.specs.declared.slips.Slips.{Slips}
use Rattle.cs_wrong.specs.declared.slips.slip.Slip.{Slip}
use Rattle.cs_wrong.specs.declared.slips.slip.Slip.TheVariants.{Empty, Of}

-- the slips of which so many were taken
abbrev pub coming_at : List Slip → ℕ → List (List ℕ) → PlainComing
coming_at slips i met = record { earlier = take i slips; left = drop i slips; met = met }

-- ---- one slip

module _ (v : Weighed) (slips : List Slip) (i : ℕ) (met new : List (List ℕ)) (c : Candidate) (d : Slip) (within : i < length slips) (is : c.slip ≡ get_or slips i d)
    (can : CanTake v (coming_at slips i met)) (tells : TellsList v c.slip c.list) (meets : Meets met c.list c.again new) where
  left_is : drop i slips ≡ c.slip ∷ drop (i + 1) slips
  left_is = drop_more slips i d within ∙ ap (λ (s : Slip). s ∷ drop (i + 1) slips) (sym is)

  earlier_is : take (i + 1) slips ≡ take i slips ++ c.slip ∷ []
  earlier_is = take_more slips i d within ∙ ap (λ (s : Slip). take i slips ++ s ∷ []) (sym is)

  pub taken_one : AreTokensOf v.grammar c.list → length (tokens_in c.list) ≤ 1000000 → TellsAt v.grammar c.list c.at → TakesOne v (coming_at slips i met) c (coming_at slips (i + 1) new)
  taken_one tokens few at = record {
    left = left_is;
    earlier = earlier_is;
    is = record { slip = refl; list = tells; tokens = tokens; few = few; again = tells_again v (take i slips) c.slip met can.knows c.list c.again new meets; at = at };
  }

  pub can_more : CanTake v (coming_at slips (i + 1) new)
  can_more = record {
    knows = λ list. subst (λ (l : List Slip). Contains new list ↔ IsMet v l list) (sym earlier_is) (knows_more v (take i slips) c.slip met can.knows c.list c.again new tells meets list);
    fitting = All-tail (IsFitting v.grammar) c.slip (drop (i + 1) slips) (subst (λ (l : List Slip). All (IsFitting v.grammar) l) left_is can.fitting);
  }

-- the slip that is next is one of the grammar
pub fits_next : (v : Weighed) (slips : List Slip) (i : ℕ) (met : List (List ℕ)) (d : Slip) → i < length slips → CanTake v (coming_at slips i met) → IsFitting v.grammar (get_or slips i d)
fits_next v slips i met d within can = All-head (IsFitting v.grammar) (get_or slips i d) (drop (i + 1) slips) (subst (λ (l : List Slip). All (IsFitting v.grammar) l) (drop_more slips i d within) can.fitting)

-- ---- a batch

module _ (v : Weighed) where
  pub takes_none : (s : PlainComing) (batch : List Candidate) → batch ≡ [] → Takes v s batch s
  takes_none s batch none = subst (λ (l : List Candidate). Takes v s l s) (sym none) (record { left = refl; earlier = sym (nothing s.earlier); each = tt })
    where
      nothing : (l : List Slip) → l ++ [] ≡ l
      nothing [] = refl
      nothing (x ∷ l) = ap (λ (k : List Slip). x ∷ k) (nothing l)

  pub takes_more : (old mid new : PlainComing) (batch more : List Candidate) (c : Candidate) → Takes v old batch mid → TakesNext v mid (Some c) new → more ≡ batch ++ c ∷ [] → Takes v old more new
  takes_more old mid new batch more c far next is =
      let pushed : slips_in (batch ++ c ∷ []) ≡ slips_in batch ++ c.slip ∷ [] = map_push (λ (x : Candidate). x.slip) batch c in
      let candidate = subst (λ (l : List Slip). IsCandidate v (l, c.slip) c) far.earlier next.is in
      let zipped = zip_both (IsCandidate v) (behind old.earlier (slips_in batch)) (behind (old.earlier ++ slips_in batch) (c.slip ∷ [])) batch (c ∷ []) far.each (candidate, tt) in
      let both = ap (λ (l : List Slip). behind old.earlier l) pushed ∙ behind_both old.earlier (slips_in batch) (c.slip ∷ []) in
      subst (λ (l : List Candidate). Takes v old l new) (sym is) (record {
        left = far.left ∙ ap (λ (l : List Slip). slips_in batch ++ l) next.left ∙ sym (append_assoc (slips_in batch) (c.slip ∷ []) new.left) ∙ ap (λ (l : List Slip). l ++ new.left) (sym pushed);
        earlier = next.earlier ∙ ap (λ (l : List Slip). l ++ c.slip ∷ []) far.earlier ∙ append_assoc old.earlier (slips_in batch) (c.slip ∷ []) ∙ ap (λ (l : List Slip). old.earlier ++ l) (sym pushed);
        each = subst (λ (l : List (List Slip × Slip)). AllZip (IsCandidate v) l (batch ++ c ∷ [])) (sym both) zipped;
      })

  -- no slip was left
  pub takes_last : (old mid new : PlainComing) (batch : List Candidate) → Takes v old batch mid → new ≡ mid → Takes v old batch new
  takes_last old mid new batch far same = subst (λ (s : PlainComing). Takes v old batch s) (sym same) far

  -- nothing was taken where no slip was left
  pub none_taken : (old mid : PlainComing) (batch : List Candidate) → Takes v old batch mid → mid.left ≡ [] → batch ≡ [] → old.left ≡ []
  none_taken old mid batch far none empty = far.left ∙ ap (λ (l : List Slip). slips_in batch ++ l) none ∙ ap (λ (l : List Candidate). slips_in l ++ []) empty

  -- none was given
  pub none_given : (old new : PlainComing) (found : Option Candidate) → ((c : Candidate) → found ≡ Some c → ⊥) → TakesNext v old found new → (old.left ≡ []) × (new ≡ old)
  none_given old new None not_some next = next
  none_given old new (Some c) not_some next = absurd (not_some c refl)

-- ---- all slips of a grammar

slip_fits : (g : PlainGrammar) (c : Slips) (s : Slip) → IsSlip g c s → IsFitting g s
slip_fits g c Empty is = tt
slip_fits g c (Of r change) is = (is.0, is.1, is.2)

-- none was taken
pub can_all : (v : Weighed) (c : Slips) → HasExactly (slips v.grammar c) (IsSlip v.grammar c) → CanTake v (all_coming (slips v.grammar c))
can_all v c exact = record {
  knows = λ list. ((λ there. absurd (let w = there.1 in omega arith)), (λ is. absurd (let w = is.2 in omega arith)));
  fitting = λ k d within. slip_fits v.grammar c (get_or (slips v.grammar c) k d) ((exact (get_or (slips v.grammar c) k d)).0 (Contains-get_or (slips v.grammar c) k d within));
}
