-- A keeper's search for the next negative that is kept.
use Rattle.std.proofs.Common.{◌≡◌, ◌↔◌, ℕ, ◌+◌, ◌≤◌, Bool, List, [], ◌∷◌, ◌++◌, length, length-append, Option, refl, sym, ap, ◌∙◌, subst, append_assoc, inl, inr, arith}
use Rattle.std.specs.Prelude.{IsTrue, None, Some}
use Rattle.std.specs.List.{All}
use Rattle.std.proofs.lemmas.List.Elements.{All-append, All-cons, All-nil, All-same}
use Rattle.cs_grammar.specs.Grammar.{PlainGrammar}
use Rattle.cs_mutate.specs.declared.edit.Edit.{Edit}
use Rattle.cs_mutate.specs.declared.negative.Negative.{Negative}
use Rattle.cs_mutate.specs.Edit.{Fits}
use Rattle.cs_mutate.specs.Negatives.{FindsNext, FitsBase, IsHarmless, IsNegative, IsNext, Search}
use Rattle.cs_mutate.specs.Kept.{IsKept}
use Rattle.cs_mutate.specs.Keeping.{Counters, IsDropped, IsNextKept, KeepsNext, Tells}

-- the old edits that were looked at are dropped, and the new ones are left
pub record Dropped (g : PlainGrammar) (w : List ℕ) (first : Option ℕ) (before : List Negative) (old new : List Edit) : Type 0 where
  pub skipped : List Edit
  pub whole : old ≡ skipped ++ new
  pub dropped : All (IsDropped g w first before) skipped

module _ (g : PlainGrammar) (w : List ℕ) (first : Option ℕ) (before : List Negative) where
  pub dropped_none : (es : List Edit) → Dropped g w first before es es
  dropped_none es = record { skipped = []; whole = refl; dropped = All-nil (IsDropped g w first before) }

  harmless_dropped : (es : List Edit) → All (IsHarmless g w) es → All (IsDropped g w first before) es
  harmless_dropped es each i d within = inl (each i d within)

  -- up to the next negative, and with it
  to_next : (old mid new : List Edit) (n : Negative) → Dropped g w first before old mid → IsNext g w mid n new → All (IsDropped g w first before) (n.edit ∷ []) → Dropped g w first before old new
  to_next old mid new n d next here = record {
    skipped = d.skipped ++ (next.skipped ++ n.edit ∷ []);
    whole = d.whole ∙ ap (λ (l : List Edit). d.skipped ++ l) (next.edits ∙ sym (append_assoc next.skipped (n.edit ∷ []) new)) ∙ sym (append_assoc d.skipped (next.skipped ++ n.edit ∷ []) new);
    dropped = All-append (IsDropped g w first before) d.skipped (next.skipped ++ n.edit ∷ []) d.dropped
        (All-append (IsDropped g w first before) next.skipped (n.edit ∷ []) (harmless_dropped next.skipped next.harmless) here);
  }

  -- a negative that isn't kept
  pub dropped_more : (old mid new : List Edit) (n : Negative) → Dropped g w first before old mid → IsNext g w mid n new → (IsKept g w first before n → ⊥) → Dropped g w first before old new
  dropped_more old mid new n d next not_kept =
      to_next old mid new n d next (All-cons (IsDropped g w first before) n.edit [] (inr (n, refl, next.negative, not_kept)) (All-nil (IsDropped g w first before)))

  -- one that is
  pub kept_behind : (old mid new : List Edit) (n : Negative) → Dropped g w first before old mid → IsNext g w mid n new → IsKept g w first before n → IsNextKept g w first before old n new
  kept_behind old mid new n d next kept = record {
    skipped = d.skipped ++ next.skipped;
    edits = d.whole ∙ ap (λ (l : List Edit). d.skipped ++ l) next.edits ∙ sym (append_assoc d.skipped next.skipped (n.edit ∷ new));
    dropped = All-append (IsDropped g w first before) d.skipped next.skipped d.dropped (harmless_dropped next.skipped next.harmless);
    negative = next.negative;
    kept = kept;
  }

  -- none is left
  pub dropped_all : (old mid : List Edit) → Dropped g w first before old mid → All (IsHarmless g w) mid → All (IsDropped g w first before) old
  dropped_all old mid d harmless =
      All-same (IsDropped g w first before) old (d.skipped ++ mid) d.whole (All-append (IsDropped g w first before) d.skipped mid d.dropped (harmless_dropped mid harmless))

-- a search goes on with the same list by the same grammar
module _ (old mid : Search) (grammar : mid.grammar ≡ old.grammar) (base : mid.base ≡ old.base) where
  pub next_in : (n : Negative) (new : Search) → FindsNext mid (Some n) new → IsNext old.grammar old.base mid.edits n new.edits
  next_in n new is =
      subst (λ (g : PlainGrammar). IsNext g old.base mid.edits n new.edits) grammar (subst (λ (w : List ℕ). IsNext mid.grammar w mid.edits n new.edits) base is)

  pub none_in : (new : Search) → FindsNext mid None new → All (IsHarmless old.grammar old.base) mid.edits × (new.edits ≡ [])
  none_in new is =
      subst (λ (g : PlainGrammar). All (IsHarmless g old.base) mid.edits × (new.edits ≡ [])) grammar (subst (λ (w : List ℕ). All (IsHarmless mid.grammar w) mid.edits × (new.edits ≡ [])) base is)

  pub kept_in_search : (k now : Counters) (n : Negative) (kept : Bool) (before : List Negative) → now.first ≡ k.first → KeepsNext now mid n kept → Tells now before → IsTrue kept ↔ IsKept old.grammar old.base k.first before n
  kept_in_search k now n kept before first keeps told =
      subst (λ (g : PlainGrammar). IsTrue kept ↔ IsKept g old.base k.first before n) grammar
      (subst (λ (w : List ℕ). IsTrue kept ↔ IsKept mid.grammar w k.first before n) base
      (subst (λ (f : Option ℕ). IsTrue kept ↔ IsKept mid.grammar mid.base f before n) first (keeps before told)))

  pub negative_in_search : (n : Negative) → IsNegative mid.grammar mid.base n → IsNegative old.grammar old.base n
  negative_in_search n is =
      subst (λ (g : PlainGrammar). IsNegative g old.base n) grammar (subst (λ (w : List ℕ). IsNegative mid.grammar w n) base is)

  pub fits_in_search : (n : Negative) → FitsBase mid n.edit → FitsBase old n.edit
  fits_in_search n is =
      subst (λ (g : PlainGrammar). Fits (length old.base) g.tokens n.edit) grammar (subst (λ (w : List ℕ). Fits (length w) mid.grammar.tokens n.edit) base is)

-- where a negative came, fewer edits are left
pub fewer_left : (old new : Search) (n : Negative) → FindsNext old (Some n) new → length new.edits + 1 ≤ length old.edits
fewer_left old new n next = omega (arith, ap (λ (l : List Edit). length l) next.edits, length-append next.skipped (n.edit ∷ new.edits))
