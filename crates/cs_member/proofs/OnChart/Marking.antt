-- Nonterminals that are marked, and listed as they are.
use Rattle.std.proofs.Common.{◌≡◌, ℕ, ◌+◌, ◌<◌, ◌≤◌, inl, inr, List, [], ◌∷◌, ◌++◌, Bool, true, false, Some, length, take, get_or, refl, sym, ap, ◌∙◌, subst, arith, append_assoc, append-nil}
use Rattle.std.specs.Prelude.{All, Contains, slice_get}
use Rattle.std.specs.Global.{Vec}
use Rattle.std.proofs.Math.ListN.{set, length-set}
use Rattle.std.proofs.lemmas.Bool.{cases_eq}
use Rattle.std.proofs.lemmas.Option.{same_Some, slice_get_within}
use Rattle.std.proofs.lemmas.List.{take_more}
use Rattle.std.proofs.lemmas.List.Elements.{All-nil, All-push, Contains-push, Contains-append_left}
use Rattle.cs_member.specs.Tables.Expecting.{IsMarked, AreMarked, Marks, IsDescended}
use Rattle.cs_member.specs.Chart.Made.{AreAwaited}
use Rattle.cs_grammar.specs.declared.symbol.Symbol.TheVariants.{Token, Nonterminal}
use Rattle.cs_grammar.specs.Grammar.{PlainGrammar}
use Rattle.cs_member.specs.declared.chart.now.Origins.{Origins}
use Rattle.cs_member.specs.Tables.Item.{Awaits}
use Rattle.cs_member.specs.Tables.Sets.{Has}
use Rattle.cs_member.specs.Chart.Chart.{BucketOf}
use Rattle.cs_member.proofs.OnTables.Places.{at_left, at_push_cases, at_set, at_set_cases, at_contains, all_contains, there_at, at_set_other}
use Rattle.cs_member.proofs.OnTables.Entering.{one_awaited}

pub marks_none : (expected : List Bool) (pending : List ℕ) → Marks expected pending expected pending
marks_none expected pending = record { size = refl; stays = λ a h. h; more = []; grown = sym (append-nil pending) }

pub marks_then : (e : List Bool) (p : List ℕ) (f : List Bool) (q : List ℕ) (h : List Bool) (r : List ℕ) → Marks e p f q → Marks f q h r → Marks e p h r
marks_then e p f q h r first second = record {
  size = second.size ∙ first.size;
  stays = λ a m. second.stays a (first.stays a m);
  more = first.more ++ second.more;
  grown = second.grown ∙ (ap (λ (l : List ℕ). l ++ second.more) first.grown ∙ append_assoc p first.more second.more);
}

pub marks_one : (expected : List Bool) (pending listed : List ℕ) (a : ℕ) → a < length expected → listed ≡ pending ++ a ∷ [] → Marks expected pending (set expected a true) listed
marks_one expected pending listed a lt is = record {
  size = length-set expected a true;
  stays = λ b m. elim (cases_eq b a) [
    | inl same ↦ subst (λ n. IsMarked (set expected a true) n) (sym same) (at_set expected a true lt)
    | inr other ↦ at_set_other expected a b true true other m
  ];
  more = a ∷ [];
  grown = is;
}

pub marked_one : (expected : List Bool) (pending listed : List ℕ) (a : ℕ) → a < length expected → listed ≡ pending ++ a ∷ [] → AreMarked expected pending → AreMarked (set expected a true) listed
marked_one expected pending listed a lt is before = record {
  listed = λ b m. subst (λ (l : List ℕ). Contains l b) (sym is) (elim (at_set_cases expected a b true true m) [
    | inl here ↦ subst (λ n. Contains (pending ++ a ∷ []) n) (sym here.0) (Contains-push pending a)
    | inr there ↦ Contains-append_left pending (a ∷ []) b (before.listed b there)
  ]);
  within = subst (λ (l : List ℕ). All (λ b. b < length (set expected a true)) l) (sym is)
      (subst (λ n. All (λ b. b < n) (pending ++ a ∷ [])) (sym (length-set expected a true)) (All-push (λ b. b < length expected) pending a before.within lt));
}

-- the corners of those before a number are marked
abbrev pub AreFollowed : List (Vec ℕ) → List Bool → List ℕ → ℕ → Type 0
AreFollowed corners expected pending i = (n a b : ℕ) (list : Vec ℕ) → n < i → slice_get pending n ≡ Some a → slice_get corners a ≡ Some list → Contains list.items b → IsMarked expected b

pub followed_one : (corners : List (Vec ℕ)) (e f : List Bool) (p q : List ℕ) (i a : ℕ) (list : Vec ℕ) → Marks e p f q → i < length p → slice_get p i ≡ Some a → slice_get corners a ≡ Some list → All (λ b. IsMarked f b) list.items → AreFollowed corners e p i → AreFollowed corners f q (i + 1)
followed_one corners e f p q i a list marks lt at at_list all before n c b other below there at_other has =
    elim (cases_eq n i) [
      | inl same ↦
          let here : slice_get q i ≡ Some a = ap (λ (l : List ℕ). slice_get l i) marks.grown ∙ at_left p marks.more i a at in
          let one : c ≡ a = same_Some c a (sym there ∙ (ap (λ k. slice_get q k) same ∙ here)) in
          let lists : other ≡ list = same_Some other list (sym at_other ∙ (ap (λ k. slice_get corners k) one ∙ at_list)) in
          all_contains (λ b. IsMarked f b) list.items b all (subst (λ (v : Vec ℕ). Contains v.items b) lists has)
      | inr differs ↦
          let early : n < length p = (let low = below in omega arith) in
          let was = there_at p n early in
          let moved : slice_get q n ≡ Some was.0 = ap (λ (l : List ℕ). slice_get l n) marks.grown ∙ at_left p marks.more n was.0 was.1 in
          let one : was.0 ≡ c = same_Some was.0 c (sym moved ∙ there) in
          marks.stays b (before n c b other (omega arith) (was.1 ∙ ap Some one) at_other has)
    ]

pub descended : (corners : List (Vec ℕ)) (expected : List Bool) (pending : List ℕ) (i : ℕ) → length pending ≤ i → AreMarked expected pending → AreFollowed corners expected pending i → IsDescended corners (IsMarked expected)
descended corners expected pending i whole marked followed a b list m at has =
    let place = at_contains pending a (marked.listed a m) in
    let lt = slice_get_within pending place.0 a place.1 in
    followed place.0 a b list (omega arith) place.1 at has

pub all_marked_more : (e f : List Bool) (xs : List ℕ) (k : ℕ) (d : ℕ) → k < length xs → ((a : ℕ) → IsMarked e a → IsMarked f a) → All (λ a. IsMarked e a) (take k xs) → IsMarked f (get_or xs k d) → All (λ a. IsMarked f a) (take (k + 1) xs)
all_marked_more e f xs k d lt stays before now =
    subst (λ (l : List ℕ). All (λ a. IsMarked f a) l) (sym (take_more xs k d lt))
    (All-push (λ a. IsMarked f a) (take k xs) (get_or xs k d) (λ i c low. stays _ (before i c low)) now)

pub none_marked : (expected : List Bool) → ((n : ℕ) (b : Bool) → slice_get expected n ≡ Some b → b ≡ false) → AreMarked expected []
none_marked expected none = record {
  listed = λ a m. absurd (let e = none a true m in cc);
  within = All-nil (λ a. a < length expected);
}

-- one item more
pub awaited_more : (g : PlainGrammar) (origins : List Origins) (i : ℕ) (o : Origins) (b : ℕ) (e f : List ℕ) → i < length origins → o ≡ get_or origins i o → BucketOf g b o.item → ((a : ℕ) → Has e a → Has f a) → Has f b → AreAwaited g (take i origins) e → AreAwaited g (take (i + 1) origins) f
awaited_more g origins i o b e f lt read bucket stays now before =
    let more : take (i + 1) origins ≡ take i origins ++ o ∷ [] = take_more origins i o lt ∙ ap (λ (r : Origins). take i origins ++ r ∷ []) (sym read) in
    subst (λ (l : List Origins). AreAwaited g l f) (sym more)
    (λ k a p at w. elim (at_push_cases (take i origins) o k p at) [
      | inl was ↦ stays a (before k a p was w)
      | inr last ↦
          let here : Awaits g o.item (Nonterminal a) = subst (λ (r : Origins). Awaits g r.item (Nonterminal a)) (sym last.1) w in
          elim bucket [
            | inl some ↦ (let same = one_awaited g o.item (Nonterminal b) (Nonterminal a) some.1 here in let one : b ≡ a = cc in subst (λ n. Has f n) one now)
            | inr none ↦ absurd (let same = one_awaited g o.item (Token none.1) (Nonterminal a) none.2 here in cc)
          ]
    ])
