-- Each list that is outside the language for sure is written, and none is written twice.
use Rattle.std.proofs.Common.{◌≡◌, ◌⊎◌, ℕ, ◌<◌, ◌≤◌, Bool, true, false, cond, List, [], ◌∷◌, ◌++◌, length, map, refl, sym, ap, ◌∙◌, subst, ⊎_elim, inl, inr, arith, Option}
use Rattle.std.specs.List.{AllZip, Contains}
use Rattle.std.proofs.lemmas.List.Elements.{Contains-append_left, Contains-push}
use Rattle.cs_goals.proofs.Members.{AllPairs-from_Apart, Among, Among-filter, Among-from_Contains, Among-map, Among-passes, Apart, Contains-from_Among}
use Rattle.cs_grammar.specs.Sentence.{IsSentence, framed}
use Rattle.cs_grammar.specs.Weights.{Weighed}
use Rattle.cs_manifest.specs.Manifest.Manifest.{Texts}
use Rattle.cs_mutate.specs.Poison.{HasNoPoison}
use Rattle.cs_wrong.proofs.OnSlips.Exact.{all}
use Rattle.cs_wrong.proofs.OnClasses.Meeting.{large_no_list, met_cases, none_no_list}
use Rattle.cs_wrong.proofs.OnSlips.Placing.{one_list}
use Rattle.cs_wrong.specs.Classes.Classes.{IsMet, IsOutsideForSure, IsTold, behind, is_wrong}
use Rattle.cs_wrong.specs.Slips.Lists.{IsListOf}
use Rattle.cs_wrong.specs.Slips.Slips.{slips}
use Rattle.cs_wrong.specs.Writing.Text.{AreEachOnce, IsEntryOf, SlipEntry, wrong_ones}
use Rattle.cs_wrong.specs.declared.classes.class.SlipClass.{SlipClass}
use Rattle.cs_wrong.specs.declared.classes.class.SlipClass.TheVariants.{Nothing, Large, Again, Pair, Long, Sentence, Outside}
use Rattle.cs_choices.specs.declared.slips.Slips.{Slips}
use Rattle.cs_wrong.specs.declared.slips.slip.Slip.{Slip}

module _ (v : Weighed) where
  -- a list that is outside for sure isn't one of these
  not_harmless : (list : List ℕ) → IsOutsideForSure v.grammar list → HasNoPoison v.grammar (framed list) → length list ≤ 2000 → (IsSentence v.grammar list → ⊥)
  not_harmless list (inl poisoned) harmless short sentence =
      let f = poisoned.1.2 in f.poisoned (harmless poisoned.0 poisoned.1.0 poisoned.1.1 f.pair)
  not_harmless list (inr other) harmless short sentence = other.1 sentence

  not_long : (list : List ℕ) → IsOutsideForSure v.grammar list → HasNoPoison v.grammar (framed list) → 2000 < length list → ⊥
  not_long list (inl poisoned) harmless long =
      let f = poisoned.1.2 in f.poisoned (harmless poisoned.0 poisoned.1.0 poisoned.1.1 f.pair)
  not_long list (inr other) harmless long = let short = other.0 in omega arith

  -- its slip has it again, or it is written
  by_class : (earlier : List Slip) (slip : Slip) (class : SlipClass) (own list : List ℕ) → IsTold v earlier slip class own → IsListOf v slip list → IsOutsideForSure v.grammar list → IsMet v earlier list ⊎ ((is_wrong class ≡ true) × (own ≡ list))
  by_class earlier slip Nothing own list h is sure = absurd (none_no_list v slip h.0 list is)
  by_class earlier slip Large own list h is sure = absurd (large_no_list v slip h.0 list is)
  by_class earlier slip Again own list h is sure = inl (subst (λ (l : List ℕ). IsMet v earlier l) (one_list v slip own list h.0 is) h.1)
  by_class earlier slip (Pair left right at) own list h is sure = inr (refl, one_list v slip own list h.is is)
  by_class earlier slip Long own list h is sure =
      let same = one_list v slip own list h.is is in
      let long = subst (λ (l : List ℕ). HasNoPoison v.grammar (framed l) × (2000 < length l)) same (h.class_is.harmless, h.class_is.long) in
      absurd (not_long list sure long.0 long.1)
  by_class earlier slip Sentence own list h is sure =
      let same = one_list v slip own list h.is is in
      let judged = subst (λ (l : List ℕ). HasNoPoison v.grammar (framed l) × (length l ≤ 2000) × IsSentence v.grammar l) same (h.class_is.0.harmless, h.class_is.0.short, h.class_is.1) in
      absurd (not_harmless list sure judged.0 judged.1 judged.2)
  by_class earlier slip Outside own list h is sure = inr (refl, one_list v slip own list h.is is)

  module _ (texts : Option Texts) (lexemes : Option (List (Option (List ℕ)))) where
    abbrev Of : List Slip × Slip → SlipEntry → Type 0
    Of = IsEntryOf v texts lexemes

    -- an entry that is written
    abbrev Shown : List SlipEntry → List ℕ → Type 0
    Shown entries list = (e : SlipEntry) × Among e (wrong_ones entries) × (e.tokens ≡ list)

    later : (e : SlipEntry) (es : List SlipEntry) (list : List ℕ) → Shown es list → (b : Bool) → is_wrong e.class ≡ b → (x : SlipEntry) × Among x (cond b (e ∷ wrong_ones es) (wrong_ones es)) × (x.tokens ≡ list)
    later e es list h true same = (h.0, inr h.1, h.2)
    later e es list h false same = (h.0, h.1, h.2)

    now : (e : SlipEntry) (es : List SlipEntry) → is_wrong e.class ≡ true → Among e (wrong_ones (e ∷ es))
    now e es wrong = Among-passes (λ (x : SlipEntry). is_wrong x.class) e (e ∷ es) (inl refl) wrong

    first_of_slip : (before : List Slip) (x : Slip) (e : SlipEntry) (es : List SlipEntry) (list : List ℕ) → Of (before, x) e → IsListOf v x list → IsOutsideForSure v.grammar list → IsMet v before list ⊎ Shown (e ∷ es) list
    first_of_slip before x e es list of is sure =
        ⊎_elim (λ met. inl met) (λ here. inr (e, now e es here.0, here.1)) (by_class before x e.class e.tokens list of.told is sure)

    shown : (before xs : List Slip) (entries : List SlipEntry) (slip : Slip) (list : List ℕ) → AllZip Of (behind before xs) entries → Among slip xs → IsListOf v slip list → IsOutsideForSure v.grammar list
        → IsMet v before list ⊎ Shown entries list
    shown before [] entries slip list zip among is sure = absurd among
    shown before (x ∷ xs) [] slip list zip among is sure = absurd zip
    shown before (x ∷ xs) (e ∷ es) slip list zip among is sure =
        ⊎_elim
        (λ same. first_of_slip before x e es list zip.0 (subst (λ (s : Slip). IsListOf v s list) same is) sure)
        (λ there.
        ⊎_elim
        (λ met. ⊎_elim (λ earlier. inl earlier) (λ own. first_of_slip before x e es list zip.0 own sure) (met_cases v before x list met))
        (λ found. inr (later e es list found (is_wrong e.class) refl))
        (shown (before ++ x ∷ []) xs es slip list zip.1 there is sure))
        among

    -- ---- none twice

    -- a slip that stands before some stands before each of them
    abbrev HasBefore : Slip → List Slip → Type 0
    HasBefore x before = Contains before x

    not_again : (before xs : List Slip) (entries : List SlipEntry) (x : Slip) (list : List ℕ) → AllZip Of (behind before xs) entries → HasBefore x before → IsListOf v x list → (e : SlipEntry) → Among e entries → is_wrong e.class ≡ true → e.tokens ≡ list → ⊥
    not_again before [] [] x list zip has is e among wrong same = absurd among
    not_again before [] (u ∷ us) x list zip has is e among wrong same = absurd zip
    not_again before (y ∷ ys) [] x list zip has is e among wrong same = absurd zip
    not_again before (y ∷ ys) (u ∷ us) x list zip has is e among wrong same =
        ⊎_elim
        (λ here.
        let class : is_wrong u.class ≡ true = ap (λ (s : SlipEntry). is_wrong s.class) (sym here) ∙ wrong in
        let tokens : u.tokens ≡ list = ap (λ (s : SlipEntry). s.tokens) (sym here) ∙ same in
        let met : IsMet v before u.tokens = (has.0, x, has.1, has.2, subst (λ (l : List ℕ). IsListOf v x l) (sym tokens) is) in
        is_new before y u.class u.tokens zip.0.told class met)
        (λ there. not_again (before ++ y ∷ []) ys us x list zip.1 (Contains-append_left before (y ∷ []) x has) is e there wrong same)
        among
      where
        is_new : (before : List Slip) (y : Slip) (class : SlipClass) (own : List ℕ) → IsTold v before y class own → is_wrong class ≡ true → IsMet v before own → ⊥
        is_new before y Nothing own h wrong met = cc
        is_new before y Large own h wrong met = cc
        is_new before y Again own h wrong met = cc
        is_new before y (Pair left right at) own h wrong met = h.new met
        is_new before y Long own h wrong met = cc
        is_new before y Sentence own h wrong met = cc
        is_new before y Outside own h wrong met = h.new met

    own_list : (before : List Slip) (x : Slip) (class : SlipClass) (own : List ℕ) → IsTold v before x class own → is_wrong class ≡ true → IsListOf v x own
    own_list before x Nothing own h wrong = absurd cc
    own_list before x Large own h wrong = absurd cc
    own_list before x Again own h wrong = h.0
    own_list before x (Pair left right at) own h wrong = h.is
    own_list before x Long own h wrong = h.is
    own_list before x Sentence own h wrong = h.is
    own_list before x Outside own h wrong = h.is

    abbrev tokens_of : SlipEntry → List ℕ
    tokens_of e = e.tokens

    step : (e : SlipEntry) (es : List SlipEntry) → Apart (map tokens_of (wrong_ones es)) → (b : Bool) → is_wrong e.class ≡ b → (is_wrong e.class ≡ true → Among e.tokens (map tokens_of (wrong_ones es)) → ⊥)
        → Apart (map tokens_of (cond b (e ∷ wrong_ones es) (wrong_ones es)))
    step e es apart true same none = (none same, apart)
    step e es apart false same none = apart

    apart : (before xs : List Slip) (entries : List SlipEntry) → AllZip Of (behind before xs) entries → Apart (map tokens_of (wrong_ones entries))
    apart before [] [] zip = tt
    apart before [] (u ∷ us) zip = absurd zip
    apart before (x ∷ xs) [] zip = absurd zip
    apart before (x ∷ xs) (e ∷ es) zip =
        step e es (apart (before ++ x ∷ []) xs es zip.1) (is_wrong e.class) refl
        (λ wrong twice.
        let m = Among-map tokens_of e.tokens (wrong_ones es) twice in
        let f = Among-filter (λ (y : SlipEntry). is_wrong y.class) m.0 es m.1 in
        not_again (before ++ x ∷ []) xs es x e.tokens zip.1 (Contains-push before x) (own_list before x e.class e.tokens zip.0.told wrong) m.0 f.0 f.1 (sym m.2))

    pub each_once : (chosen : Slips) (entries : List SlipEntry) → AllZip Of (behind [] (slips v.grammar chosen)) entries → AreEachOnce v chosen entries
    each_once chosen entries zip = record {
      once = AllPairs-from_Apart (map tokens_of (wrong_ones entries)) (apart [] (slips v.grammar chosen) entries zip);
      all = λ slip list is_slip is sure.
          let among = Among-from_Contains slip (slips v.grammar chosen) ((all v.grammar chosen slip).1 is_slip) in
          ⊎_elim
          (λ met. absurd (let w = met.2 in omega arith))
          (λ found.
          let there = Contains-from_Among found.0 (wrong_ones entries) found.1 in
          (there.0, found.0, there.1, there.2, found.2))
          (shown [] (slips v.grammar chosen) entries slip list zip among is sure);
    }
