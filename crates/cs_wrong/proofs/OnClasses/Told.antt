-- A slip has one class and one list, and some; no list that is written is a sentence.
use Rattle.std.proofs.Common.{◌≡◌, ◌<◌, ◌⊎◌, ℕ, ◌+◌, List, [], inl, inr, refl, sym, ap, ◌∙◌, subst, ⊎_elim, arith, Some}
use Rattle.std.specs.Prelude.{IsTrue, slice_get}
use Rattle.std.proofs.lemmas.Bool.{cases_lt}
use Rattle.cs_grammar.specs.Context.{Context, plug}
use Rattle.cs_grammar.specs.Grammar.{IsRule, PlainGrammar, Production}
use Rattle.cs_grammar.specs.Sentence.{IsSentence, framed}
use Rattle.cs_grammar.specs.Tree.{Forest, Node, yield}
use Rattle.cs_grammar.specs.Weights.{Weighed}
use Rattle.cs_grammar.specs.declared.symbol.Mark.{Mark}
use Rattle.cs_grammar.specs.declared.symbol.Symbol.TheVariants.{Nonterminal}
use Rattle.cs_io.specs.Asked.{IsNotWithout}
use Rattle.cs_least.proofs.OnCost.ChosenTrees.{AreTrees-chosen, chosen_forest, forest_least}
use Rattle.cs_least.proofs.OnEmbed.ChosenContexts.{IsContext-chosen, chosen_context_exists, chosen_context_least}
use Rattle.cs_manifest.proofs.OnManifest.SomeManifest.{poisoned_or_not}
use Rattle.cs_mutate.proofs.Judging.{some_judged}
use Rattle.cs_mutate.proofs.Marks.{outside}
use Rattle.cs_mutate.specs.Judged.{IsJudged, IsLong}
use Rattle.cs_mutate.specs.Poison.{HasNoPoison, IsFirstPoisoned}
use Rattle.cs_wrong.proofs.OnClasses.Meeting.{large_no_list, none_no_list, none_not_large}
use Rattle.cs_wrong.proofs.OnSlips.Placing.{one_list}
use Rattle.cs_wrong.specs.Classes.Classes.{IsListClass, IsMet, IsNew, IsTold, is_wrong}
use Rattle.cs_wrong.specs.Slips.Lists.{ArePlaced, HasLarge, HasNone, IsListOf, placed_size}
use Rattle.cs_wrong.specs.Slips.Slips.{changed}
use Rattle.cs_wrong.specs.declared.classes.class.SlipClass.{SlipClass}
use Rattle.cs_wrong.specs.declared.classes.class.SlipClass.TheVariants.{Nothing, Large, Again, Pair, Long, Sentence, Outside}
use Rattle.cs_wrong.specs.declared.slips.slip.Change.{Change}
use Rattle.cs_wrong.specs.declared.slips.slip.Slip.{Slip}
use Rattle.cs_wrong.specs.declared.slips.slip.Slip.TheVariants.{Of}

-- ---- the class of a list

data ListAs (g : PlainGrammar) (list : List ℕ) (class : SlipClass) : Type 0 where
  Poisoned : (left right : Mark) → (at : ℕ) → class ≡ Pair left right at → IsFirstPoisoned g (framed list) at left right → ListAs g list class
  TooLong : class ≡ Long → IsLong g list → ListAs g list class
  Inside : class ≡ Sentence → IsJudged g list → IsSentence g list → ListAs g list class
  Beyond : class ≡ Outside → IsJudged g list → (IsSentence g list → ⊥) → ListAs g list class

module _ (g : PlainGrammar) (list : List ℕ) where
  list_as : (class : SlipClass) → IsListClass g list class → ListAs g list class
  list_as (Pair left right at) h = Poisoned left right at refl h
  list_as Long h = TooLong refl h
  list_as Sentence h = Inside refl h.0 h.1
  list_as Outside h = Beyond refl h.0 h.1
  list_as Nothing h = absurd h
  list_as Large h = absurd h
  list_as Again h = absurd h

  -- a poisoned list isn't harmless
  not_both : (at : ℕ) (a b : Mark) → IsFirstPoisoned g (framed list) at a b → HasNoPoison g (framed list) → ⊥
  not_both at a b first harmless = first.poisoned (harmless at a b first.pair)

  not_earlier : (i j : ℕ) (a b x y : Mark) → i < j → IsFirstPoisoned g (framed list) i a b → IsFirstPoisoned g (framed list) j x y → ⊥
  not_earlier i j a b x y less p q = p.poisoned (q.earlier i a b less p.pair)

  same_pair : (i j : ℕ) (a b x y : Mark) → IsFirstPoisoned g (framed list) i a b → IsFirstPoisoned g (framed list) j x y → Pair a b i ≡ Pair x y j
  same_pair i j a b x y p q =
      let at : i ≡ j = ⊎_elim (λ less. absurd (not_earlier i j a b x y less p q)) (λ ge. ⊎_elim (λ more. absurd (not_earlier j i x y a b more q p)) (λ le. omega arith) (cases_lt j i)) (cases_lt i j) in
      let lefts : a ≡ x = (let here = p.pair.left in let there : slice_get (framed list) i ≡ Some x = ap (λ (k : ℕ). slice_get (framed list) k) at ∙ q.pair.left in cc) in
      let rights : b ≡ y = (let here = p.pair.right in let there : slice_get (framed list) (i + 1) ≡ Some y = ap (λ (k : ℕ). slice_get (framed list) (k + 1)) at ∙ q.pair.right in cc) in
      ap (λ (m : Mark). Pair m b i) lefts ∙ ap (λ (m : Mark). Pair x m i) rights ∙ ap (λ (k : ℕ). Pair x y k) at

  both : (a b : SlipClass) → ListAs g list a → ListAs g list b → a ≡ b
  both a b (Poisoned l r i e p) (Poisoned m s j f q) = e ∙ same_pair i j l r m s p q ∙ sym f
  both a b (Poisoned l r i e p) (TooLong f q) = absurd (not_both i l r p q.harmless)
  both a b (Poisoned l r i e p) (Inside f q s) = absurd (not_both i l r p q.harmless)
  both a b (Poisoned l r i e p) (Beyond f q s) = absurd (not_both i l r p q.harmless)
  both a b (TooLong e p) (Poisoned m s j f q) = absurd (not_both j m s q p.harmless)
  both a b (TooLong e p) (TooLong f q) = e ∙ sym f
  both a b (TooLong e p) (Inside f q s) = absurd (omega (arith, p.long, q.short))
  both a b (TooLong e p) (Beyond f q s) = absurd (omega (arith, p.long, q.short))
  both a b (Inside e p t) (Poisoned m s j f q) = absurd (not_both j m s q p.harmless)
  both a b (Inside e p t) (TooLong f q) = absurd (omega (arith, q.long, p.short))
  both a b (Inside e p t) (Inside f q s) = e ∙ sym f
  both a b (Inside e p t) (Beyond f q s) = absurd (s t)
  both a b (Beyond e p t) (Poisoned m s j f q) = absurd (not_both j m s q p.harmless)
  both a b (Beyond e p t) (TooLong f q) = absurd (omega (arith, q.long, p.short))
  both a b (Beyond e p t) (Inside f q s) = absurd (t s)
  both a b (Beyond e p t) (Beyond f q s) = e ∙ sym f

  pub one_list_class : (a b : SlipClass) → IsListClass g list a → IsListClass g list b → a ≡ b
  one_list_class a b p q = both a b (list_as a p) (list_as b q)

  pub some_list_class : IsNotWithout (IsListClass g list)
  some_list_class none = poisoned_or_not g (framed list) known
    where
      known : HasNoPoison g (framed list) ⊎ ((at : ℕ) × (a : Mark) × (b : Mark) × IsFirstPoisoned g (framed list) at a b) → ⊥
      known (inl harmless) = some_judged g list (none Long) (λ is inside. none Sentence (is, inside)) (λ is beyond. none Outside (is, beyond)) harmless
      known (inr found) = none (Pair found.1 found.2 found.0) found.3

-- ---- the class of a slip

data ToldAs (v : Weighed) (earlier : List Slip) (slip : Slip) (class : SlipClass) (list : List ℕ) : Type 0 where
  AsNone : class ≡ Nothing → HasNone v slip → list ≡ [] → ToldAs v earlier slip class list
  AsLarge : class ≡ Large → HasLarge v slip → list ≡ [] → ToldAs v earlier slip class list
  AsAgain : class ≡ Again → IsListOf v slip list → IsMet v earlier list → ToldAs v earlier slip class list
  AsNew : IsNew v earlier slip class list → ToldAs v earlier slip class list

module _ (v : Weighed) (earlier : List Slip) (slip : Slip) where
  told_as : (class : SlipClass) (list : List ℕ) → IsTold v earlier slip class list → ToldAs v earlier slip class list
  told_as Nothing list h = AsNone refl h.0 h.1
  told_as Large list h = AsLarge refl h.0 h.1
  told_as Again list h = AsAgain refl h.0 h.1
  told_as (Pair left right at) list h = AsNew h
  told_as Long list h = AsNew h
  told_as Sentence list h = AsNew h
  told_as Outside list h = AsNew h

  -- what is told of it twice is the same
  pub record Same (a b : SlipClass) (l m : List ℕ) : Type 0 where
    pub class : a ≡ b
    pub list : l ≡ m

  twice : (a b : SlipClass) (l m : List ℕ) → ToldAs v earlier slip a l → ToldAs v earlier slip b m → Same a b l m
  twice a b l m (AsNone e h x) (AsNone f k y) = record { class = e ∙ sym f; list = x ∙ sym y }
  twice a b l m (AsNone e h x) (AsLarge f k y) = absurd (none_not_large v slip h k)
  twice a b l m (AsNone e h x) (AsAgain f k y) = absurd (none_no_list v slip h m k)
  twice a b l m (AsNone e h x) (AsNew k) = absurd (none_no_list v slip h m k.is)
  twice a b l m (AsLarge e h x) (AsNone f k y) = absurd (none_not_large v slip k h)
  twice a b l m (AsLarge e h x) (AsLarge f k y) = record { class = e ∙ sym f; list = x ∙ sym y }
  twice a b l m (AsLarge e h x) (AsAgain f k y) = absurd (large_no_list v slip h m k)
  twice a b l m (AsLarge e h x) (AsNew k) = absurd (large_no_list v slip h m k.is)
  twice a b l m (AsAgain e h x) (AsNone f k y) = absurd (none_no_list v slip k l h)
  twice a b l m (AsAgain e h x) (AsLarge f k y) = absurd (large_no_list v slip k l h)
  twice a b l m (AsAgain e h x) (AsAgain f k y) = record { class = e ∙ sym f; list = one_list v slip l m h k }
  twice a b l m (AsAgain e h x) (AsNew k) = absurd (k.new (subst (IsMet v earlier) (one_list v slip l m h k.is) x))
  twice a b l m (AsNew h) (AsNone f k y) = absurd (none_no_list v slip k l h.is)
  twice a b l m (AsNew h) (AsLarge f k y) = absurd (large_no_list v slip k l h.is)
  twice a b l m (AsNew h) (AsAgain f k y) = absurd (h.new (subst (IsMet v earlier) (one_list v slip m l k h.is) y))
  twice a b l m (AsNew h) (AsNew k) =
      let same = one_list v slip l m h.is k.is in
      record { class = one_list_class v.grammar m a b (subst (λ (t : List ℕ). IsListClass v.grammar t a) same h.class_is) k.class_is; list = same }

  pub one_told : (a b : SlipClass) (l m : List ℕ) → IsTold v earlier slip a l → IsTold v earlier slip b m → Same a b l m
  one_told a b l m h k = twice a b l m (told_as a l h) (told_as b m k)

  -- a list that is written is no sentence
  pub no_sentence : (class : SlipClass) (list : List ℕ) → IsTold v earlier slip class list → IsTrue (is_wrong class) → IsSentence v.grammar list → ⊥
  no_sentence Nothing list h wrong sentence = absurd cc
  no_sentence Large list h wrong sentence = absurd cc
  no_sentence Again list h wrong sentence = absurd cc
  no_sentence (Pair left right at) list h wrong sentence = outside v.grammar list at (left, right, h.class_is) sentence
  no_sentence Long list h wrong sentence = absurd cc
  no_sentence Sentence list h wrong sentence = absurd cc
  no_sentence Outside list h wrong sentence = h.class_is.1 sentence

  -- a new list is told with its class
  new_told : (class : SlipClass) (list : List ℕ) → IsListClass v.grammar list class → IsNew v earlier slip class list → IsTold v earlier slip class list
  new_told (Pair left right at) list c h = h
  new_told Long list c h = h
  new_told Sentence list c h = h
  new_told Outside list c h = h
  new_told Nothing list c h = absurd c
  new_told Large list c h = absurd c
  new_told Again list c h = absurd c

  module _ (none : (class : SlipClass) (list : List ℕ) → IsTold v earlier slip class list → ⊥) where
    -- a slip with a list has a class
    pub with_list : (list : List ℕ) → IsListOf v slip list → ⊥
    with_list list is =
        let new : IsMet v earlier list → ⊥ = λ met. none Again list (is, met) in
        some_list_class v.grammar list (λ class c. none class list (new_told class list c (record { is = is; new = new; class_is = c })))

-- a slip of a rule has a class
pub some_told : (v : Weighed) (earlier : List Slip) (r : ℕ) (change : Change) (p : Production) → IsRule v.grammar r p → ((class : SlipClass) (list : List ℕ) → IsTold v earlier (Of r change) class list → ⊥) → ⊥
some_told v earlier r change p rule none = none Nothing [] ((p, rule, no_trees), refl)
  where
    no_trees : (placed : Context × Forest) → ArePlaced v.grammar p.left (changed change p.right) placed → ⊥
    no_trees placed are =
        let c = chosen_context_exists v.weights v.grammar p.left placed.0 are.0 in
        let f = chosen_forest v.weights v.grammar placed.1 (changed change p.right) are.1 in
        let c_is = IsContext-chosen v.weights v.grammar c.context (Nonterminal p.left) c.chosen in
        let f_are = AreTrees-chosen v.weights v.grammar f.0 (changed change p.right) f.1 in
        ⊎_elim
        (λ large.
        none Large [] (
          (
            p,
            rule,
            (
              (c.context, f.0),
              (c_is, f_are),
              (λ other kind. let a = chosen_context_least v.weights v.grammar (Nonterminal p.left) other.0 c.context kind.0 c.chosen in let b = forest_least v.weights v.grammar f.0 other.1 (changed change p.right) f.1 kind.1 in omega arith),
            ),
          ),
          refl,
        ))
        (λ small.
        with_list v earlier (Of r change) none (yield (plug c.context (Node r f.0)))
        (p, rule, record { context = c.context; trees = f.0; around = c.chosen; chosen = f.1; within = small; tokens = refl }))
        (cases_lt v.weights.limit (placed_size v.weights (c.context, f.0)))
