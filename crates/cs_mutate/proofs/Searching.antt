-- A search for the negatives of a list.
use Rattle.std.proofs.Common.{◌≡◌, Option, Bool, true, false, not, ℕ, ◌+◌, List, [], ◌∷◌, ◌++◌, take, drop, length, get_or, refl, sym, ap, ◌∙◌, subst, append_assoc, arith}
use Rattle.std.specs.Prelude.{MatchOption, IfSome, Some, None, is_some, IsTrue}
use Rattle.std.specs.List.{All}
use Rattle.std.proofs.lemmas.List.{append-nil}
use Rattle.std.proofs.lemmas.List.Elements.{All-nil, All-cons, All-append, All-push, All-take, All-drop, All-same, All-head, All-tail, All-rest}
use Rattle.cs_grammar.specs.declared.symbol.Mark.{Mark}
use Rattle.cs_grammar.specs.Grammar.{PlainGrammar, IsNumberOf}
use Rattle.cs_goals.proofs.Members.{Among-filter}
use Rattle.cs_mutate.specs.declared.edit.Edit.{Edit}
use Rattle.cs_mutate.specs.declared.edit.Edit.TheVariants.{Delete, Insert, Replace, Swap}
use Rattle.cs_choices.specs.declared.operators.Operators.{Operators}
use Rattle.cs_mutate.specs.declared.negative.Negative.{Negative}
use Rattle.cs_mutate.specs.Edit.{Fits, patched, edited}
use Rattle.cs_mutate.specs.Edits.{is_listed, fitting_edits, edits}
use Rattle.cs_mutate.specs.Poison.{HasNoPoison, IsPoisonedAt}
use Rattle.cs_mutate.specs.Negatives.{IsHarmless, IsNext}
use Rattle.cs_mutate.proofs.Fitting.{All-from_Among, in_fitting}

-- the tokens of an edited list
module _ (tokens : ℕ) (w : List ℕ) (all : All (IsNumberOf tokens) w) where
  with_others : (i : ℕ) (put : List ℕ) (gone : ℕ) → All (IsNumberOf tokens) put → All (IsNumberOf tokens) (patched w i put gone)
  with_others i put gone others =
      All-append (IsNumberOf tokens) (take i w ++ put) (drop (i + gone) w)
      (All-append (IsNumberOf tokens) (take i w) put (All-take (IsNumberOf tokens) i w all) others)
      (All-drop (IsNumberOf tokens) (i + gone) w all)

  one : (t : ℕ) → IsNumberOf tokens t → All (IsNumberOf tokens) (t ∷ [])
  one t is = All-cons (IsNumberOf tokens) t [] is (All-nil (IsNumberOf tokens))

  pub edited_tokens : (e : Edit) → Fits (length w) tokens e → All (IsNumberOf tokens) (edited w e)
  edited_tokens (Delete i) fits = with_others i [] 1 (All-nil (IsNumberOf tokens))
  edited_tokens (Insert i t) fits = with_others i (t ∷ []) 0 (one t fits.1)
  edited_tokens (Replace i t) fits = with_others i (t ∷ []) 1 (one t fits.1)
  edited_tokens (Swap i) fits =
      let within = fits.0 in
      with_others i (get_or w (i + 1) 0 ∷ get_or w i 0 ∷ []) 2
      (All-cons (IsNumberOf tokens) (get_or w (i + 1) 0) (get_or w i 0 ∷ []) (all (i + 1) 0 within) (one (get_or w i 0) (all i 0 (omega arith))))

-- each edit of the list fits
pub edits_fit : (tokens : ℕ) (w : List ℕ) (c : Operators) → All (Fits (length w) tokens) (edits tokens w c)
edits_fit tokens w c =
    All-from_Among (Fits (length w) tokens) (edits tokens w c)
    (λ e h. (in_fitting (length w) tokens c e (Among-filter (is_listed w) e (fitting_edits (length w) tokens c) h).0).1)

-- the old edits that were looked at are harmless, and the new ones are left
pub record Passed (g : PlainGrammar) (w : List ℕ) (old new : List Edit) : Type 0 where
  pub skipped : List Edit
  pub whole : old ≡ skipped ++ new
  pub harmless : All (IsHarmless g w) skipped
  pub fits : All (Fits (length w) g.tokens) new

module _ (g : PlainGrammar) (w : List ℕ) where
  pub passed_more : (old mid new : List Edit) (e : Edit) → mid ≡ e ∷ new → Passed g w old mid → IsHarmless g w e → Passed g w old new
  passed_more old mid new e is p harmless = record {
    skipped = p.skipped ++ e ∷ [];
    whole = p.whole ∙ ap (λ (l : List Edit). p.skipped ++ l) is ∙ sym (append_assoc p.skipped (e ∷ []) new);
    harmless = All-push (IsHarmless g w) p.skipped e p.harmless harmless;
    fits = All-rest (Fits (length w) g.tokens) e new mid is p.fits;
  }

  pub passed_all : (old new : List Edit) → new ≡ [] → Passed g w old new → All (IsHarmless g w) old
  passed_all old new none p =
      All-same (IsHarmless g w) old p.skipped (p.whole ∙ ap (λ (l : List Edit). p.skipped ++ l) none ∙ append-nil p.skipped) p.harmless

  All-behind : {A : Type 0} (P : A → Type 0) (xs : List A) (y : A) (ys : List A) → All P (xs ++ y ∷ ys) → All P ys
  All-behind P [] y ys h = All-tail P y ys h
  All-behind P (x ∷ xs) y ys h = All-behind P xs y ys (All-tail P x (xs ++ y ∷ ys) h)

  -- what is left fits
  pub fits_left : (old : List Edit) (found : Option Negative) (new : List Edit) → All (Fits (length w) g.tokens) old → MatchOption found (All (IsHarmless g w) old × (new ≡ [])) (λ n. IsNext g w old n new) → All (Fits (length w) g.tokens) new
  fits_left old None new fits h = All-same (Fits (length w) g.tokens) new [] h.1 (All-nil (Fits (length w) g.tokens))
  fits_left old (Some n) new fits h =
      All-behind (Fits (length w) g.tokens) h.skipped n.edit new (subst (λ (l : List Edit). All (Fits (length w) g.tokens) l) h.edits fits)

  All-there : {A : Type 0} (P : A → Type 0) (xs : List A) (y : A) (ys : List A) → All P (xs ++ y ∷ ys) → P y
  All-there P [] y ys h = All-head P y ys h
  All-there P (x ∷ xs) y ys h = All-there P xs y ys (All-tail P x (xs ++ y ∷ ys) h)

  pub fits_found : (old : List Edit) (found : Option Negative) (new : List Edit) → All (Fits (length w) g.tokens) old → MatchOption found (All (IsHarmless g w) old × (new ≡ [])) (λ n. IsNext g w old n new) → IfSome found (λ n. Fits (length w) g.tokens n.edit)
  fits_found old None new fits h = tt
  fits_found old (Some n) new fits h =
      All-there (Fits (length w) g.tokens) h.skipped n.edit new (subst (λ (l : List Edit). All (Fits (length w) g.tokens) l) h.edits fits)

  pub fits_first : (old mid new : List Edit) (e : Edit) → mid ≡ e ∷ new → Passed g w old mid → Fits (length w) g.tokens e
  fits_first old mid new e is p =
      All-head (Fits (length w) g.tokens) e new (subst (λ (l : List Edit). All (Fits (length w) g.tokens) l) is p.fits)

-- what the test of the list itself says
pub known_sound : (g : PlainGrammar) (marks : List Mark) (found : Option ℕ) (none : Bool) → MatchOption found (HasNoPoison g marks) (IsPoisonedAt g marks) → is_some found ≡ not none → IsTrue none → HasNoPoison g marks
known_sound g marks None none h is really = h
known_sound g marks (Some at) none h is really = let wrong : true ≡ false = is ∙ ap not really in absurd cc

pub sound_known : (g : PlainGrammar) (marks : List Mark) (found : Option ℕ) (none : Bool) → MatchOption found (HasNoPoison g marks) (IsPoisonedAt g marks) → is_some found ≡ not none → HasNoPoison g marks → IsTrue none
sound_known g marks None true h is sound = refl
sound_known g marks None false h is sound = absurd cc
sound_known g marks (Some at) none h is sound = absurd (h.2.poisoned (sound at h.0 h.1 h.2.pair))
