-- An edited list has exactly one class, and the counts of the classes add up.
use Rattle.std.proofs.Common.{◌≡◌, ◌⊎◌, ℕ, ◌+◌, List, [], ◌∷◌, inl, inr, refl, arith, Option, cond, suc}
use Rattle.std.proofs.lemmas.List.Sums.{sum_by-cons}
use Rattle.cs_deep.specs.Edits.Classes.{IsListClass, IsPoisoned, is_long, is_negative, is_outside, is_sentence}
use Rattle.cs_deep.specs.Writing.Deep.{AddsUp, EditEntry}
use Rattle.cs_deep.specs.declared.edits.class.EditClass.{EditClass}
use Rattle.cs_deep.specs.declared.edits.class.EditClass.TheVariants.{Negative, Long, Sentence, Outside}
use Rattle.cs_grammar.specs.Grammar.{PlainGrammar}
use Rattle.cs_grammar.specs.Sentence.{framed}
use Rattle.cs_grammar.specs.declared.symbol.Mark.{Mark}
use Rattle.cs_io.specs.Asked.{IsNotWithout}
use Rattle.cs_manifest.proofs.OnManifest.SomeManifest.{poisoned_or_not}
use Rattle.cs_mutate.proofs.Judging.{some_judged}
use Rattle.cs_mutate.specs.Poison.{HasNoPoison, IsFirstPoisoned}
use Rattle.cs_mutate.specs.declared.edit.Edit.{Edit}
use Rattle.cs_texts.specs.Rendering.Rendering.{Rendering}

module _ (g : PlainGrammar) (list : List ℕ) where
  -- a poisoned list isn't harmless
  pub not_both : IsPoisoned g list → HasNoPoison g (framed list) → ⊥
  not_both poisoned harmless = let f = poisoned.1.2 in f.poisoned (harmless poisoned.0 poisoned.1.0 poisoned.1.1 f.pair)

  pub one_class_of : (a b : EditClass) → IsListClass g list a → IsListClass g list b → a ≡ b
  one_class_of Negative Negative p q = refl
  one_class_of Negative Long p q = absurd (not_both p q.harmless)
  one_class_of Negative Sentence p q = absurd (not_both p q.0.harmless)
  one_class_of Negative Outside p q = absurd (not_both p q.0.harmless)
  one_class_of Long Negative p q = absurd (not_both q p.harmless)
  one_class_of Long Long p q = refl
  one_class_of Long Sentence p q = let l = p.long in let s = q.0.short in absurd (omega (arith, l, s))
  one_class_of Long Outside p q = let l = p.long in let s = q.0.short in absurd (omega (arith, l, s))
  one_class_of Sentence Negative p q = absurd (not_both q p.0.harmless)
  one_class_of Sentence Long p q = let l = q.long in let s = p.0.short in absurd (omega (arith, l, s))
  one_class_of Sentence Sentence p q = refl
  one_class_of Sentence Outside p q = absurd (q.1 p.1)
  one_class_of Outside Negative p q = absurd (not_both q p.0.harmless)
  one_class_of Outside Long p q = let l = q.long in let s = p.0.short in absurd (omega (arith, l, s))
  one_class_of Outside Sentence p q = absurd (p.1 q.1)
  one_class_of Outside Outside p q = refl

  pub some_class_of : IsNotWithout (IsListClass g list)
  some_class_of none = poisoned_or_not g (framed list) known
    where
      known : HasNoPoison g (framed list) ⊎ ((at : ℕ) × (a : Mark) × (b : Mark) × IsFirstPoisoned g (framed list) at a b) → ⊥
      known (inl harmless) = some_judged g list (none Long) (λ is inside. none Sentence (is, inside)) (λ is outside. none Outside (is, outside)) harmless
      known (inr found) = none Negative (found.0, (found.1, found.2, found.3))

-- the counts of one more, of whichever class
at : (class : EditClass) (n a b c d a_more b_more c_more d_more : ℕ) → n ≡ a + b + c + d → a_more ≡ cond (is_negative class) 1 0 + a → b_more ≡ cond (is_outside class) 1 0 + b
    → c_more ≡ cond (is_sentence class) 1 0 + c → d_more ≡ cond (is_long class) 1 0 + d → suc n ≡ a_more + b_more + c_more + d_more
at Negative n a b c d am bm cm dm sum p q r s = omega arith
at Long n a b c d am bm cm dm sum p q r s = omega arith
at Sentence n a b c d am bm cm dm sum p q r s = omega arith
at Outside n a b c d am bm cm dm sum p q r s = omega arith

-- one entry more
one_more : (edit : Edit) (class : EditClass) (tokens : List ℕ) (rendered : Option Rendering) (rest : List EditEntry)
    → AddsUp rest → AddsUp (record { edit = edit; class = class; tokens = tokens; rendered = rendered } ∷ rest)
one_more edit class tokens rendered rest sum =
    let e : EditEntry = record { edit = edit; class = class; tokens = tokens; rendered = rendered } in
    at class _ _ _ _ _ _ _ _ _ sum (sum_by-cons (λ (x : EditEntry). cond (is_negative x.class) 1 0) e rest) (sum_by-cons (λ (x : EditEntry). cond (is_outside x.class) 1 0) e rest)
    (sum_by-cons (λ (x : EditEntry). cond (is_sentence x.class) 1 0) e rest) (sum_by-cons (λ (x : EditEntry). cond (is_long x.class) 1 0) e rest)

pub add_up : (entries : List EditEntry) → AddsUp entries
add_up [] = refl
add_up (e ∷ rest) = one_more e.edit e.class e.tokens e.rendered rest (add_up rest)
