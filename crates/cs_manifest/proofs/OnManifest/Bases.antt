-- The entries of bases: those of two lists of bases, one behind the other, and how many negatives they have.
use Rattle.std.proofs.Common.{◌≡◌, ℕ, ◌+◌, ◌*◌, ◌≤◌, List, [], ◌∷◌, ◌++◌, length, length-append, refl, sym, ap, ◌∙◌, subst, append_assoc, append-nil, Option, Some, inl, inr, arith}
use Rattle.std.specs.Prelude.{sum_by}
use Rattle.std.specs.List.{All, AllZip}
use Rattle.std.proofs.lemmas.List.{length-map}
use Rattle.std.proofs.lemmas.List.Elements.{All-append, All-head, All-nil, All-tail}
use Rattle.std.proofs.lemmas.List.Sums.{sum_by-cons}
use Rattle.cs_grammar.specs.Grammar.{PlainGrammar, IsNumberOf}
use Rattle.cs_goals.proofs.Members.{Among, Contains-from_Among, Among-from_Contains}
use Rattle.cs_mutate.specs.declared.edit.Edit.{Edit}
use Rattle.cs_mutate.specs.declared.negative.Negative.{Negative}
use Rattle.cs_mutate.specs.Edit.{Fits}
use Rattle.cs_mutate.specs.Edits.{edits}
use Rattle.cs_mutate.specs.Kept.{AreKept, HasFewAlike, HasLeft}
use Rattle.cs_mutate.proofs.Alike.{bounded, stays_few}
use Rattle.cs_mutate.proofs.Behind.{has_left}
use Rattle.cs_mutate.proofs.Fitting.{All-from_Among}
use Rattle.cs_mutate.proofs.KeptLists.{are_of_those}
use Rattle.cs_mutate.proofs.Listed.{members}
use Rattle.cs_mutate.proofs.Searching.{edits_fit}
use Rattle.cs_manifest.specs.Manifest.Manifest.{AreNegativesOf, BaseEntry, BasesOf, Choice, HasFewNegatives, IsNegativeOf, NegativeEntry, Texts, kept_in, negatives_of}

-- the negatives of entries are those that they are of
pub negatives_are : (texts : Option Texts) (lexemes : Option (List (Option (List ℕ)))) (base : List ℕ) (ns : List Negative) (entries : List NegativeEntry) → AllZip (IsNegativeOf texts lexemes base) ns entries → negatives_of entries ≡ ns
negatives_are texts lexemes base [] [] each = refl
negatives_are texts lexemes base [] (e ∷ es) each = absurd each
negatives_are texts lexemes base (n ∷ ns) [] each = absurd each
negatives_are texts lexemes base (n ∷ ns) (e ∷ es) each =
    ap (λ (m : Negative). m ∷ negatives_of es) each.0.is_of ∙ ap (λ (l : List Negative). n ∷ l) (negatives_are texts lexemes base ns es each.1)

-- behind those of a base and of more
kept_first : (before : List Negative) (first : BaseEntry) (rest : List BaseEntry) → before ++ kept_in (first ∷ rest) ≡ (before ++ negatives_of first.negatives) ++ kept_in rest
kept_first before first rest = sym (append_assoc before (negatives_of first.negatives) (kept_in rest))

pub kept_in_both : (xs ys : List BaseEntry) → kept_in (xs ++ ys) ≡ kept_in xs ++ kept_in ys
kept_in_both [] ys = refl
kept_in_both (x ∷ xs) ys = ap (λ (l : List Negative). negatives_of x.negatives ++ l) (kept_in_both xs ys) ∙ sym (append_assoc (negatives_of x.negatives) (kept_in xs) (kept_in ys))

pub kept_length : (bases : List BaseEntry) → length (kept_in bases) ≡ sum_by (λ b. length b.negatives) bases
kept_length [] = refl
kept_length (b ∷ bases) =
    omega (
      arith,
      length-append (negatives_of b.negatives) (kept_in bases),
      length-map b.negatives (λ (e : NegativeEntry). e.negative),
      sum_by-cons (λ (x : BaseEntry). length x.negatives) b bases,
      kept_length bases,
    )

module _ (g : PlainGrammar) (choice : Choice) (lexemes : Option (List (Option (List ℕ)))) where
  pub bases_length : (before : List Negative) (list : List (ℕ × List ℕ)) (entries : List BaseEntry) → BasesOf g choice lexemes before list entries → length entries ≡ length list
  bases_length before [] entries are = ap (λ (l : List BaseEntry). length l) are
  bases_length before (base ∷ list) entries are = omega (arith, ap (λ (l : List BaseEntry). length l) are.2, bases_length (before ++ negatives_of are.0.negatives) list are.1 are.4)

  pub bases_both : (before : List Negative) (xs ys : List (ℕ × List ℕ)) (us vs : List BaseEntry) → BasesOf g choice lexemes before xs us → BasesOf g choice lexemes (before ++ kept_in us) ys vs → BasesOf g choice lexemes before (xs ++ ys) (us ++ vs)
  bases_both before [] ys us vs h k =
      subst (λ (l : List BaseEntry). BasesOf g choice lexemes before ys (l ++ vs)) (sym h)
      (subst (λ (l : List Negative). BasesOf g choice lexemes l ys vs) (ap (λ (l : List BaseEntry). before ++ kept_in l) h ∙ append-nil before) k)
  bases_both before (x ∷ xs) ys us vs h k =
      let behind = ap (λ (l : List BaseEntry). before ++ kept_in l) h.2 ∙ kept_first before h.0 h.1 in (
        h.0,
        h.1 ++ vs,
        ap (λ (l : List BaseEntry). l ++ vs) h.2,
        h.3,
        bases_both (before ++ negatives_of h.0.negatives) xs ys h.1 vs h.4 (subst (λ (l : List Negative). BasesOf g choice lexemes l ys vs) behind k),
      )

  pub bases_split : (before : List Negative) (xs ys : List (ℕ × List ℕ)) (zs : List BaseEntry) → BasesOf g choice lexemes before (xs ++ ys) zs
      → (us : List BaseEntry) × (vs : List BaseEntry) × (zs ≡ us ++ vs) × BasesOf g choice lexemes before xs us × BasesOf g choice lexemes (before ++ kept_in us) ys vs
  bases_split before [] ys zs h = ([], zs, refl, refl, subst (λ (l : List Negative). BasesOf g choice lexemes l ys zs) (sym (append-nil before)) h)
  bases_split before (x ∷ xs) ys zs h =
      let s = bases_split (before ++ negatives_of h.0.negatives) xs ys h.1 h.4 in (
        h.0 ∷ s.0,
        s.1,
        h.2 ∙ ap (λ (l : List BaseEntry). h.0 ∷ l) s.2,
        (h.0, s.0, refl, h.3, s.3),
        subst (λ (l : List Negative). BasesOf g choice lexemes l ys s.1) (sym (kept_first before h.0 s.0)) s.4,
      )

  -- ---- how many negatives there are

  -- a list that was edited has tokens from 1 to the last, so that left marks are the begin mark or tokens
  lefts : (before : List Negative) (base : List ℕ) (entries : List NegativeEntry) → All (IsNumberOf g.tokens) base → AreNegativesOf g choice lexemes before base entries → All (HasLeft g.tokens) (negatives_of entries)
  lefts before base entries tokens are =
      subst (λ (l : List Negative). All (HasLeft g.tokens) l) (sym (negatives_are choice.texts lexemes base are.kept entries are.each))
      (All-from_Among (HasLeft g.tokens) are.kept
      (λ n among.
      let within = (are_of_those g base choice.first before are.negatives are.kept are.are_kept n (Contains-from_Among n are.kept among)).0 in
      let is = (members g base (edits g.tokens base choice.operators) are.negatives n are.all).0 within in
      let fits = each_fits (edits g.tokens base choice.operators) n.edit (edits_fit g.tokens base choice.operators) (Among-from_Contains n.edit (edits g.tokens base choice.operators) is.0) in
      has_left g base n tokens fits is.1))
    where
      each_fits : (es : List Edit) (e : Edit) → All (Fits (length base) g.tokens) es → Among e es → Fits (length base) g.tokens e
      each_fits [] e each among = absurd among
      each_fits (x ∷ es) e each (inl here) = subst (Fits (length base) g.tokens) (sym here) (All-head (Fits (length base) g.tokens) x es each)
      each_fits (x ∷ es) e each (inr later) = each_fits es e (All-tail (Fits (length base) g.tokens) x es each) later

  module _ (most : ℕ) (first : choice.first ≡ Some most) where
    few_in : (before : List Negative) (list : List (ℕ × List ℕ)) (entries : List BaseEntry) → All (λ b. All (IsNumberOf g.tokens) b.1) list → BasesOf g choice lexemes before list entries
        → All (HasLeft g.tokens) before → HasFewAlike most before → length (before ++ kept_in entries) ≤ most * (4 * (g.tokens + 1))
    few_in before [] entries tokens are left few =
        let none : before ++ kept_in entries ≡ before = ap (λ (l : List BaseEntry). before ++ kept_in l) are ∙ append-nil before in
        omega (arith, ap (λ (l : List Negative). length l) none, bounded g.tokens most before left few)
    few_in before (base ∷ list) entries tokens are left few =
        let of = are.3.negatives in
        let mine = are.0.negatives in
        let is = negatives_are choice.texts lexemes base.1 of.kept mine of.each in
        let kept = subst (λ (f : Option ℕ). AreKept g base.1 f before of.negatives of.kept) first of.are_kept in
        let still = subst (λ (l : List Negative). HasFewAlike most (before ++ l)) (sym is) (stays_few g base.1 most before of.negatives of.kept few kept) in
        let own = lefts before base.1 mine (All-head (λ (b : ℕ × List ℕ). All (IsNumberOf g.tokens) b.1) base list tokens) of in
        let others = few_in (before ++ negatives_of mine) list are.1 (All-tail (λ (b : ℕ × List ℕ). All (IsNumberOf g.tokens) b.1) base list tokens) are.4
        (All-append (HasLeft g.tokens) before (negatives_of mine) left own) still in
        let whole = ap (λ (l : List BaseEntry). before ++ kept_in l) are.2 ∙ kept_first before are.0 are.1 in
        omega (arith, ap (λ (l : List Negative). length l) whole, others)

pub few_negatives_in : (g : PlainGrammar) (choice : Choice) → HasFewNegatives g choice
few_negatives_in g choice lexemes bases most first tokens entries are =
    omega (
      arith,
      kept_length entries,
      few_in g choice lexemes most first [] bases entries tokens are (All-nil (HasLeft g.tokens)) (λ n. omega arith),
    )
