-- The patterns of needed definitions, in their order.
use Rattle.std.proofs.Common.{◌≡◌, ◌≢◌, ◌⊎◌, ℕ, zero, suc, ◌<◌, Bool, cond, List, [], ◌∷◌, ◌++◌, length, drop, get_or, refl, sym, ap, ◌∙◌, subst, inl, inr, arith}
use Rattle.std.specs.Prelude.{Some, None, Contains, slice_get, position}
use Rattle.std.specs.Global.{Vec}
use Rattle.std.specs.List.{position_or_len}
use Rattle.std.proofs.lemmas.Bool.{cases_eq, cases_lt, le-ltb, lt-ltb}
use Rattle.std.proofs.lemmas.List.Elements.{Contains-append_right}
use Rattle.cs_pattern_parts.specs.declared.tree.pattern.Pattern.{Pattern}
use Rattle.cs_pattern.specs.declared.operations.operations.Op as code
use Rattle.cs_pattern.specs.Operations.Definitions.{Definition}
use Rattle.cs_pattern.specs.Operations.Grammar.{Tree, tree_items}
use Rattle.cs_pattern.specs.Text.Needed.{Substitutes, IsOneOf, AreInOrder, AreOf, ops_at, ops_or_none}
use Rattle.cs_pattern.specs.Operations.Operations.{Op, tree_ops, number_of}
use Rattle.cs_pattern.specs.Text.Substitution.{SpellsTree, IsTreeOf}
use Rattle.cs_pattern.specs.Operations.Depth.{pattern_of}
use Rattle.cs_pattern.specs.Text.Uses.{Uses}
use Rattle.cs_pattern.specs.Operations.Trees.{known_at, HasPattern, IsPatternOf, GiveShallow}
use Rattle.cs_pattern.proofs.OnText.Given.{AreSo, given}
use Rattle.cs_pattern.proofs.OnText.Limited.{limit_depth}
use Rattle.cs_pattern.proofs.OnText.Pending.{IsBehind}
use Rattle.cs_pattern.proofs.OnText.PuttingIn.{one_spelled}
use Rattle.cs_pattern.proofs.OnText.Using.{tree_puts, tree_uses}

pub get_within : {A : Type 0} (xs : List A) (i : ℕ) (x : A) → slice_get xs i ≡ Some x → i < length xs
get_within [] i x e = absurd cc
get_within (y ∷ xs) zero x e = omega arith
get_within (y ∷ xs) (suc i) x e = omega (arith, get_within xs i x e)

pub has_at : {A : Type 0} (xs : List A) (i : ℕ) → i < length xs → (x : A) × (slice_get xs i ≡ Some x)
has_at [] i lt = absurd (omega arith)
has_at (y ∷ xs) zero lt = (y, refl)
has_at (y ∷ xs) (suc i) lt = has_at xs i (omega arith)

pub position_within : {A : Type 0} (p : A → Bool) (xs : List A) (i : ℕ) → position p xs ≡ Some i → i < length xs
position_within p xs i e =
    elim (cases_lt (position_or_len p xs) (length xs)) [
      | inl lt ↦
          let f : position p xs ≡ Some (position_or_len p xs) = ap (λ b. cond b (Some (position_or_len p xs)) None) (lt-ltb (position_or_len p xs) (length xs) lt) in
          let g : position_or_len p xs ≡ i = cc (e, f) in
          omega arith
      | inr ge ↦
          let f : position p xs ≡ None = ap (λ b. cond b (Some (position_or_len p xs)) None) (le-ltb (position_or_len p xs) (length xs) ge) in
          absurd (cc (e, f))
    ]

pub in_middle : (before after : List ℕ) (i : ℕ) → Contains (before ++ i ∷ after) i
in_middle before after i = Contains-append_right before (i ∷ after) i (0, omega arith, refl)

-- the operations of a checked definition
pub ops_is : (ds : List Definition) (bodies : List (Vec code.Op)) (order : List ℕ) (a : AreOf ds bodies order) (i : ℕ) (d : Definition) (t : Tree) → slice_get ds i ≡ Some d → SpellsTree d.text t → ops_at bodies i ≡ tree_ops (number_of ds) t
ops_is ds bodies order a i d t at s =
    let h = a.1.each i d at in
    ap ops_or_none h.ops_at
    ∙ h.is.operations
    ∙ ap (tree_ops (number_of ds)) (one_spelled d.text d.text h.is.spelled t refl h.is.is_spelled s)

pub is_behind : (ds : List Definition) (bodies : List (Vec code.Op)) (order : List ℕ) → AreOf ds bodies order → IsBehind bodies order
is_behind ds bodies order a = record {
  all = λ i lt. a.1.in_order.all i (let e = a.1.body_count in omega arith);
  within = λ i c. let e = a.1.body_count in omega (arith, a.1.in_order.within i c);
  behind = λ before after i j e s lt. behind before after i j e s lt (has_at ds i (a.1.in_order.within i (subst (λ (xs : List ℕ). Contains xs i) (sym e) (in_middle before after i))));
}
  where
    behind : (before after : List ℕ) (i j : ℕ) → order ≡ before ++ i ∷ after → Substitutes (ops_at bodies i) j → j < length bodies → (d : Definition) × (slice_get ds i ≡ Some d) → Contains before j
    behind before after i j e s lt d =
        let h = a.1.each i d.0 d.1 in
        let k = h.is.is_spelled in
        let u = tree_uses ds h.is.spelled j (let c = a.1.body_count in omega arith) (subst (λ (o : List Op). Substitutes o j) (ops_is ds bodies order a i d.0 h.is.spelled d.1 k) s) in
        a.1.in_order.behind before after i j e (record { definition = d.0; is = d.1; items = k.items; read = k.read; uses = subst (λ (xs : List _). Uses ds xs j) (sym k.derived) u })

-- from the place on each is known
abbrev pub AreKnownFrom : List Definition → List ℕ → List (ℕ × Pattern) → ℕ → Type 0
AreKnownFrom ds needed known from =
    (i : ℕ) (d : Definition) (tree : Tree) → IsOneOf (drop from needed) i → slice_get ds i ≡ Some d → IsTreeOf ds d.text tree → known_at known i ≡ pattern_of tree

-- what stands at a place of such an order
at_in_order : (bodies : List (Vec code.Op)) (needed : List ℕ) (k : ℕ) → k < length needed → AreInOrder bodies needed
    → (get_or needed k 0 < length bodies) × ((j : ℕ) → Substitutes (ops_at bodies (get_or needed k 0)) j → j < length bodies → IsOneOf (drop (suc k) needed) j)
at_in_order bodies [] k lt o = absurd (omega arith)
at_in_order bodies (x ∷ xs) zero lt o = (o.0, o.1)
at_in_order bodies (x ∷ xs) (suc k) lt o = at_in_order bodies xs k (omega arith) o.2

one_more : (needed : List ℕ) (k i : ℕ) → k < length needed → IsOneOf (drop k needed) i → (get_or needed k 0 ≡ i) ⊎ IsOneOf (drop (suc k) needed) i
one_more [] k i lt h = absurd (omega arith)
one_more (x ∷ xs) zero i lt h = h
one_more (x ∷ xs) (suc k) i lt h = one_more xs k i (omega arith) h

-- what a needed definition uses is known, where it comes next
built_next : (ds : List Definition) (bodies : List (Vec code.Op)) (order needed : List ℕ) (known : List (ℕ × Pattern)) (k : ℕ) (d : Definition) (tree : Tree) (is : IsTreeOf ds d.text tree)
    → AreOf ds bodies order → AreInOrder bodies needed → k < length needed → slice_get ds (get_or needed k 0) ≡ Some d
    → AreKnownFrom ds needed known (suc k) → AreSo ds (HasPattern known) (tree_items is.spelled)
built_next ds bodies order needed known k d tree is a o lt here so_far j u f other there that =
    let ops = ops_is ds bodies order a (get_or needed k 0) d is.spelled here is.is_spelled in
    let s : Substitutes (ops_at bodies (get_or needed k 0)) j = subst (λ (x : List Op). Substitutes x j) (sym ops) (tree_puts ds is.spelled j u) in
    let inside = get_within ds j f there in
    let below : j < length bodies = (let n = a.1.body_count in omega arith) in
    so_far j f other ((at_in_order bodies needed k lt o).1 j s below) there that

-- so its operations give a tree that is not deep
pub shallow_next : (ds : List Definition) (bodies : List (Vec code.Op)) (order needed : List ℕ) (known : List (ℕ × Pattern)) (k : ℕ)
    → AreOf ds bodies order → AreInOrder bodies needed → k < length needed
    → AreKnownFrom ds needed known (suc k) → GiveShallow known (ops_at bodies (get_or needed k 0))
shallow_next ds bodies order needed known k a o lt so_far =
    let d = has_at ds (get_or needed k 0) (let n = a.1.body_count in omega (arith, (at_in_order bodies needed k lt o).0)) in
    let h = (a.1.each (get_or needed k 0) d.0 d.1).is in
    let is : IsTreeOf ds d.0.text h.tree = record { spelled = h.spelled; is_spelled = h.is_spelled; put_in = h.put_in } in
    record {
      tree = h.tree;
      given = given ds (HasPattern known) (ops_at bodies (get_or needed k 0)) h.tree h.spelled h.put_in (built_next ds bodies order needed known k d.0 h.tree is a o lt d.1 so_far) (ops_is ds bodies order a (get_or needed k 0) d.0 h.spelled d.1 h.is_spelled);
      shallow = limit_depth h.tree h.within;
    }

pub known_step : (ds : List Definition) (bodies : List (Vec code.Op)) (order needed : List ℕ) (old new : List (ℕ × Pattern)) (k : ℕ)
    → AreOf ds bodies order → AreInOrder bodies needed → k < length needed
    → (get_or needed k 0 < length bodies → IsPatternOf old (ops_at bodies (get_or needed k 0)) (known_at new (get_or needed k 0)))
    → ((i : ℕ) → i ≢ get_or needed k 0 → known_at new i ≡ known_at old i)
    → AreKnownFrom ds needed old (suc k) → AreKnownFrom ds needed new k
known_step ds bodies order needed old new k a o lt this others known i d tree c at is =
    elim (cases_eq i (get_or needed k 0)) [
      | inl e ↦
          let here = subst (λ n. slice_get ds n ≡ Some d) e at in
          let ops = ops_is ds bodies order a (get_or needed k 0) d is.spelled here is.is_spelled in
          ap (known_at new) e
          ∙ this (at_in_order bodies needed k lt o).0 tree (given ds (HasPattern old) (ops_at bodies (get_or needed k 0)) tree is.spelled is.put_in (built_next ds bodies order needed old k d tree is a o lt here known) ops)
      | inr ne ↦ others i ne ∙ elim (one_more needed k i lt c) [
        | inl e ↦ absurd (ne (sym e))
        | inr b ↦ known i d tree b at is
      ]
    ]

none_from : (needed : List ℕ) (i : ℕ) → IsOneOf (drop (length needed) needed) i → ⊥
none_from [] i h = h
none_from (x ∷ xs) i h = none_from xs i h

pub known_none : (ds : List Definition) (needed : List ℕ) (known : List (ℕ × Pattern)) → AreKnownFrom ds needed known (length needed)
known_none ds needed known i d tree c at is = absurd (none_from needed i c)
