-- The members of a bracket, and the set that they make.
use Rattle.std.proofs.Common.{◌≡◌, ◌≢◌, ℕ, zero, suc, ◌≤◌, ◌<◌, Bool, true, false, List, [], ◌∷◌, refl, sym, ap, ◌∙◌, arith, inl, inr, subst, ◌⊎◌}
use Rattle.std.specs.Prelude.{Option, Some, None, ◌==◌, ◌||◌, ◌&&◌, not, nat_le, ◌↔◌, if◌then◌else◌, Contains}
use Rattle.std.specs.List.{list_any, AllByRecursion}
use Rattle.std.proofs.lemmas.Bool.{false≢true, eqb-true, eq-eqb, le-leb, leb-true}
use Rattle.std.proofs.lemmas.List.Elements.{Contains-append_right, Contains-append_cases}
use Rattle.cs_bytes.proofs.Fronts.{and_true}
use Rattle.cs_pattern_parts.specs.declared.items.bracket.Class.{Class}
use Rattle.cs_pattern_parts.specs.Items.Members.{has, bytes_where, IsByteSet}
use Rattle.cs_pattern_parts.specs.Items.NamedClasses.{class_of, is_in_class}
use Rattle.cs_pattern_parts.specs.Items.Brackets.{BracketMark, plain, escaped, class, collating, Member, one, range, AreMembers, IsByteOf, IsAllowed, IsIn, IsInAny, IsOf}
use Rattle.cs_pattern_parts.specs.Items.Bracket.{is_dash, begins_range, members, byte_of_mark, within, same, class_by, member_test, or_both, any_test, is_yes, is_refused, member_bytes, unless_empty, turned, is_collating}
use Rattle.cs_pattern_parts.proofs.OnItems.Picked.{has_picked, same_picked, same_set, bytes_where-set}
use Rattle.cs_pattern_parts.proofs.OnItems.Moving.{chosen}
use Rattle.cs_pattern_parts.proofs.OnItems.Membership.{one_first}
use Rattle.cs_pattern_parts.proofs.OnItems.Spelled.{unsome, no_some}

-- ---- which marks are which members

dash_is : (d : BracketMark) → is_dash d ≡ true → d ≡ plain 45
dash_is (plain b) e = ap plain (eqb-true b 45 e)
dash_is (escaped byte) e = absurd (false≢true e)
dash_is (class name) e = absurd (false≢true e)
dash_is collating e = absurd (false≢true e)

no_range : (x : BracketMark) (rest : List BracketMark) → ((y : BracketMark) (more : List BracketMark) → rest ≡ plain 45 ∷ y ∷ more → ⊥) → begins_range (x ∷ rest) ≡ false
no_range x [] never = refl
no_range x (d ∷ []) never = refl
no_range x (d ∷ y ∷ more) never = by_test (is_dash d) refl
  where
    by_test : (v : Bool) → is_dash d ≡ v → v ≡ false
    by_test true e = absurd (never y more (ap (λ (z : BracketMark). z ∷ y ∷ more) (dash_is d e)))
    by_test false e = refl

members_range : (x y : BracketMark) (rest : List BracketMark) → members (x ∷ plain 45 ∷ y ∷ rest) ≡ range x y ∷ members rest
members_range x y rest = refl

pub complete_members : (marks : List BracketMark) (ms : List Member) → AreMembers marks ms → members marks ≡ ms
complete_members _ _ AreMembers.none = refl
complete_members _ _ (AreMembers.ranging x y rest ms t) = members_range x y rest ∙ ap (λ (zs : List Member). range x y ∷ zs) (complete_members rest ms t)
complete_members _ _ (AreMembers.single x rest ms never t) = one_first x rest (no_range x rest never) ∙ ap (λ (zs : List Member). one x ∷ zs) (complete_members rest ms t)

by_dash : (x d y : BracketMark) (rest : List BracketMark) → AreMembers rest (members rest) → AreMembers (d ∷ y ∷ rest) (members (d ∷ y ∷ rest)) → (v : Bool) → is_dash d ≡ v → AreMembers (x ∷ d ∷ y ∷ rest) (members (x ∷ d ∷ y ∷ rest))
by_dash x d y rest t u true e = subst (λ (z : BracketMark). AreMembers (x ∷ z ∷ y ∷ rest) (members (x ∷ z ∷ y ∷ rest))) (sym (dash_is d e)) (AreMembers.ranging x y rest (members rest) t)
by_dash x d y rest t u false e =
    subst (AreMembers (x ∷ d ∷ y ∷ rest)) (sym (one_first x (d ∷ y ∷ rest) e))
    (AreMembers.single x (d ∷ y ∷ rest) (members (d ∷ y ∷ rest)) (λ z more is. false≢true (sym e ∙ dash_test z more is)) u)
  where
    dash_test : (z : BracketMark) (more : List BracketMark) → d ∷ y ∷ rest ≡ plain 45 ∷ z ∷ more → is_dash d ≡ true
    dash_test z more is = let f : d ≡ plain 45 = cc in ap is_dash f

two_marks : (x d : BracketMark) → AreMembers (d ∷ []) (members (d ∷ [])) → AreMembers (x ∷ d ∷ []) (members (x ∷ d ∷ []))
two_marks x d t = subst (AreMembers (x ∷ d ∷ [])) (sym (one_first x (d ∷ []) refl)) (AreMembers.single x (d ∷ []) (members (d ∷ [])) (λ y more is. absurd cc) t)

pub sound_members : (marks : List BracketMark) → AreMembers marks (members marks)
sound_members [] = AreMembers.none
sound_members (x ∷ []) = AreMembers.single x [] [] (λ y more is. absurd cc) AreMembers.none
sound_members (x ∷ d ∷ []) = two_marks x d (sound_members (d ∷ []))
sound_members (x ∷ d ∷ y ∷ rest) = by_dash x d y rest (sound_members rest) (sound_members (d ∷ y ∷ rest)) (is_dash d) refl

-- ---- the bytes of a member

tested : (c b : ℕ) (v : Bool) → (b == c) ≡ v → (v ≡ true) ↔ (c ≡ b)
tested c b v e = (λ t. sym (eqb-true b c (e ∙ t)), λ is. sym e ∙ eq-eqb b c (sym is))

byte_is : (x : BracketMark) (b : ℕ) → byte_of_mark x ≡ Some b → IsByteOf x b
byte_is (plain c) b e = unsome c b e
byte_is (escaped byte) b e = e
byte_is (class name) b e = absurd (no_some b e)
byte_is collating b e = absurd (no_some b e)

is_byte_of : (x : BracketMark) (b : ℕ) → IsByteOf x b → byte_of_mark x ≡ Some b
is_byte_of (plain c) b h = ap Some h
is_byte_of (escaped byte) b h = h
is_byte_of (class name) b h = absurd h
is_byte_of collating b h = absurd h

-- a test of a member and a byte that is told
abbrev Decides : Member → ℕ → Bool → Type 0
Decides m b v = IsAllowed m × ((v ≡ true) ↔ IsIn m b)

tells_class : (name : List ℕ) (b : ℕ) (v : Bool) (o : Option Class) → class_of name ≡ o → class_by o b ≡ Some v → Decides (one (class name)) b v
tells_class name b v None e f = absurd (no_some v f)
tells_class name b v (Some k) e f =
    let is : is_in_class k b ≡ v = unsome (is_in_class k b) v f in
    ((k, e), (λ t. (k, e, is ∙ t), λ h. sym is ∙ ap (λ (j : Class). is_in_class j b) (unsome k h.0 (sym e ∙ h.1)) ∙ h.2))

range_test : (first last b : ℕ) → first ≤ last → within (Some first) (Some last) b ≡ Some (nat_le first b && nat_le b last)
range_test first last b le = ap (λ v. if v then Some (nat_le first b && nat_le b last) else None) (le-leb first last le)

both_true : (p q : Bool) → p ≡ true → q ≡ true → (p && q) ≡ true
both_true p q e f = rw (e, f) refl

tells_range : (x y : BracketMark) (b : ℕ) (v : Bool) (o p : Option ℕ) → byte_of_mark x ≡ o → byte_of_mark y ≡ p → within o p b ≡ Some v → Decides (range x y) b v
tells_range x y b v None p e f g = absurd (no_some v g)
tells_range x y b v (Some first) None e f g = absurd (no_some v g)
tells_range x y b v (Some first) (Some last) e f g =
    elim (chosen (nat_le first last) _ _ _ g) [
      | inl up ↦
          let is : (nat_le first b && nat_le b last) ≡ v = unsome (nat_le first b && nat_le b last) v up.1 in (
            (first, last, byte_is x first e, byte_is y last f, leb-true first last up.0),
            (
              λ t. let both = and_true (nat_le first b) (nat_le b last) (is ∙ t) in (first, last, byte_is x first e, byte_is y last f, leb-true first b both.0, leb-true b last both.1),
              λ h.
                  let a : first ≡ h.0 = unsome first h.0 (sym e ∙ is_byte_of x h.0 h.2) in
                  let z : last ≡ h.1 = unsome last h.1 (sym f ∙ is_byte_of y h.1 h.3) in
                  sym is ∙ both_true (nat_le first b) (nat_le b last) (le-leb first b (omega (arith, a, h.4))) (le-leb b last (omega (arith, z, h.5))),
            ),
          )
      | inr down ↦ absurd (no_some v down.1)
    ]

tells_member : (m : Member) (b : ℕ) (v : Bool) → member_test m b ≡ Some v → Decides m b v
tells_member (one (plain c)) b v e = (tt, tested c b v (unsome (b == c) v e))
tells_member (one (escaped None)) b v e = absurd (no_some v e)
tells_member (one (escaped (Some c))) b v e =
    let t = tested c b v (unsome (b == c) v e) in
    ((c, refl), (λ h. ap Some (t.0 h), λ h. t.1 (unsome c b h)))
tells_member (one (class name)) b v e = tells_class name b v (class_of name) refl e
tells_member (one collating) b v e = absurd (no_some v e)
tells_member (range x y) b v e = tells_range x y b v (byte_of_mark x) (byte_of_mark y) refl refl e

allowed_test : (m : Member) (b : ℕ) → IsAllowed m → (v : Bool) × (member_test m b ≡ Some v)
allowed_test (one (plain c)) b h = (b == c, refl)
allowed_test (one (escaped byte)) b h = (b == h.0, ap (λ o. same o b) h.1)
allowed_test (one (class name)) b h = (is_in_class h.0 b, ap (λ o. class_by o b) h.1)
allowed_test (one collating) b h = absurd h
allowed_test (range x y) b h =
    (nat_le h.0 b && nat_le b h.1, ap (λ o. within o (byte_of_mark y) b) (is_byte_of x h.0 h.2) ∙ ap (λ o. within (Some h.0) o b) (is_byte_of y h.1 h.3) ∙ range_test h.0 h.1 b h.4)

-- ---- the bytes of all members

abbrev TellAll : List Member → ℕ → Bool → Type 0
TellAll ms b v = AllByRecursion IsAllowed ms × ((v ≡ true) ↔ IsInAny ms b)

or_cases : (p q : Bool) → (p || q) ≡ true → (p ≡ true) ⊎ (q ≡ true)
or_cases true q e = inl refl
or_cases false q e = inr e

or_first : (p q : Bool) → p ≡ true → (p || q) ≡ true
or_first p q e = rw e refl

or_last : (p q : Bool) → q ≡ true → (p || q) ≡ true
or_last true q e = refl
or_last false q e = e

tell_all : (ms : List Member) (b : ℕ) (v : Bool) → any_test ms b ≡ Some v → TellAll ms b v
tell_all [] b v e = (tt, (λ t. absurd (false≢true (unsome false v e ∙ t)), λ h. absurd h))
tell_all (m ∷ ms) b v e = by_tests (member_test m b) (any_test ms b) refl refl e (λ w f. tell_all ms b w f)
  where
    by_tests : (o p : Option Bool) → member_test m b ≡ o → any_test ms b ≡ p → or_both o p ≡ Some v → ((w : Bool) → any_test ms b ≡ Some w → TellAll ms b w) → TellAll (m ∷ ms) b v
    by_tests None p f g h rec = absurd (no_some v h)
    by_tests (Some s) None f g h rec = absurd (no_some v h)
    by_tests (Some s) (Some t) f g h rec =
        let is : (s || t) ≡ v = unsome (s || t) v h in
        let first = tells_member m b s f in
        let others = rec t g in (
          (first.0, others.0),
          (
            λ k. elim (or_cases s t (is ∙ k)) [ inl i ↦ inl (first.1.0 i) | inr j ↦ inr (others.1.0 j) ],
            λ k. sym is ∙ (elim k [ inl i ↦ or_first s t (first.1.1 i) | inr j ↦ or_last s t (others.1.1 j) ]),
          ),
        )

all_test : (ms : List Member) (b : ℕ) → AllByRecursion IsAllowed ms → (v : Bool) × (any_test ms b ≡ Some v)
all_test [] b h = (false, refl)
all_test (m ∷ ms) b h =
    let first = allowed_test m b h.0 in
    let others = all_test ms b h.1 in
    (first.0 || others.0, ap (λ o. or_both o (any_test ms b)) first.1 ∙ ap (or_both (Some first.0)) others.1)

-- ---- the set

refused_or : (o : Option Bool) → is_refused o ≡ false → (v : Bool) × (o ≡ Some v)
refused_or None e = absurd (false≢true (sym e))
refused_or (Some v) e = (v, refl)

-- the bytes that the members tell
pub record TellsSet (marks : List BracketMark) (bytes : List ℕ) : Type 0 where
  pub allowed : AllByRecursion IsAllowed (members marks)
  pub is : bytes ≡ bytes_where (λ b. is_yes (any_test (members marks) b))

member_bytes_by : (marks : List BracketMark) → member_bytes marks ≡ (if is_refused (any_test (members marks) 0) then None else Some (bytes_where (λ b. is_yes (any_test (members marks) b))))
unfolding member_bytes
member_bytes_by marks = refl

sound_bytes : (marks : List BracketMark) (bytes : List ℕ) → member_bytes marks ≡ Some bytes → TellsSet marks bytes
sound_bytes marks bytes e =
    elim (chosen (is_refused (any_test (members marks) 0)) _ _ _ (sym (member_bytes_by marks) ∙ e)) [
      | inl refused ↦ absurd (no_some bytes refused.1)
      | inr taken ↦
          let v = refused_or (any_test (members marks) 0) taken.0 in
          record { allowed = (tell_all (members marks) 0 v.0 v.1).0; is = sym (unsome (bytes_where (λ b. is_yes (any_test (members marks) b))) bytes taken.1) }
    ]

complete_bytes : (marks : List BracketMark) → AllByRecursion IsAllowed (members marks) → member_bytes marks ≡ Some (bytes_where (λ b. is_yes (any_test (members marks) b)))
complete_bytes marks h =
    let t = all_test (members marks) 0 h in
    member_bytes_by marks ∙ ap (λ v. if v then None else Some (bytes_where (λ b. is_yes (any_test (members marks) b)))) (ap is_refused t.1)

yes_is : (ms : List Member) (b : ℕ) → AllByRecursion IsAllowed ms → (is_yes (any_test ms b) ≡ true) ↔ IsInAny ms b
yes_is ms b h =
    let t = all_test ms b h in
    let told = tell_all ms b t.0 t.1 in
    (λ e. told.1.0 (sym (ap is_yes t.1) ∙ e), λ i. ap is_yes t.1 ∙ told.1.1 i)

not_true : (v : Bool) → not v ≡ true → v ≡ true → ⊥
not_true true e f = false≢true e
not_true false e f = false≢true f

true_not : (v : Bool) → (v ≡ true → ⊥) → not v ≡ true
true_not true h = absurd (h refl)
true_not false h = refl

-- the set of a bracket, with or without a `^`
abbrev test_of : Bool → List Member → ℕ → Bool
test_of false ms b = is_yes (any_test ms b)
test_of true ms b = not (is_yes (any_test ms b))

test_is : (inverted : Bool) (ms : List Member) (b : ℕ) → AllByRecursion IsAllowed ms → (test_of inverted ms b ≡ true) ↔ IsOf inverted ms b
test_is false ms b h = yes_is ms b h
test_is true ms b h =
    let y = yes_is ms b h in
    (λ e i. not_true (is_yes (any_test ms b)) e (y.1 i), λ never. true_not (is_yes (any_test ms b)) (λ e. never (y.0 e)))

some_set : (xs ys : List ℕ) → unless_empty xs ≡ Some ys → (xs ≡ ys) × (ys ≢ [])
some_set [] ys e = absurd (no_some ys e)
some_set (x ∷ xs) ys e =
    let f : x ∷ xs ≡ ys = unsome (x ∷ xs) ys e in
    (f, λ g. let h : x ∷ xs ≡ [] = f ∙ g in absurd cc)

set_some : (xs : List ℕ) → xs ≢ [] → unless_empty xs ≡ Some xs
set_some [] ne = absurd (ne refl)
set_some (x ∷ xs) ne = refl

same_turned : (marks : List BracketMark) (xs : List ℕ) → xs ≡ bytes_where (λ b. is_yes (any_test (members marks) b)) → bytes_where (λ b. not (has xs b)) ≡ bytes_where (λ b. not (is_yes (any_test (members marks) b)))
same_turned marks xs is =
    same_picked (λ b. not (has xs b)) (λ b. not (is_yes (any_test (members marks) b))) 256 (λ b lt.
    ap not (ap (λ s. has s b) is ∙ has_picked (λ c. is_yes (any_test (members marks) c)) 256 b lt))

-- what the marks of a bracket make
pub record MakesSet (inverted : Bool) (ms : List Member) (set : List ℕ) : Type 0 where
  pub allowed : AllByRecursion IsAllowed ms
  pub is_set : IsByteSet set
  pub each : (b : ℕ) → b < 256 → (has set b ≡ true) ↔ IsOf inverted ms b
  pub some : set ≢ []

makes : (inverted : Bool) (ms : List Member) (set : List ℕ) → AllByRecursion IsAllowed ms → bytes_where (test_of inverted ms) ≡ set → set ≢ [] → MakesSet inverted ms set
makes inverted ms set h is ne = record {
  allowed = h;
  is_set = subst IsByteSet is (bytes_where-set (test_of inverted ms));
  each = λ b lt.
      let t = test_is inverted ms b h in
      let same : has set b ≡ test_of inverted ms b = ap (λ s. has s b) (sym is) ∙ has_picked (test_of inverted ms) 256 b lt in
      (λ e. t.0 (sym same ∙ e), λ i. same ∙ t.1 i);
  some = ne;
}

sound_turned : (inverted : Bool) (marks : List BracketMark) (set : List ℕ) (o : Option (List ℕ)) → member_bytes marks ≡ o → turned inverted o ≡ Some set → MakesSet inverted (members marks) set
sound_turned inverted marks set None e f = absurd (no_some set f)
sound_turned false marks set (Some xs) e f =
    let t = sound_bytes marks xs e in
    let s = some_set xs set f in
    makes false (members marks) set t.allowed (sym t.is ∙ s.0) s.1
sound_turned true marks set (Some xs) e f =
    let t = sound_bytes marks xs e in
    let s = some_set (bytes_where (λ b. not (has xs b))) set f in
    makes true (members marks) set t.allowed (sym (same_turned marks xs t.is) ∙ s.0) s.1

pub sound_set : (inverted : Bool) (marks : List BracketMark) (set : List ℕ) → turned inverted (member_bytes marks) ≡ Some set → MakesSet inverted (members marks) set
sound_set inverted marks set e = sound_turned inverted marks set (member_bytes marks) refl e

set_is : (inverted : Bool) (ms : List Member) (set : List ℕ) → MakesSet inverted ms set → bytes_where (test_of inverted ms) ≡ set
set_is inverted ms set m =
    same_set (bytes_where (test_of inverted ms)) set (bytes_where-set (test_of inverted ms)) m.is_set (λ b lt.
    has_picked (test_of inverted ms) 256 b lt
    ∙ same_truth (test_of inverted ms b) (has set b) (λ e. (m.each b lt).1 ((test_is inverted ms b m.allowed).0 e)) (λ e. (test_is inverted ms b m.allowed).1 ((m.each b lt).0 e)))
  where
    same_truth : (p q : Bool) → (p ≡ true → q ≡ true) → (q ≡ true → p ≡ true) → p ≡ q
    same_truth true q f g = sym (f refl)
    same_truth false true f g = g refl
    same_truth false false f g = refl

pub complete_set : (inverted : Bool) (marks : List BracketMark) (set : List ℕ) → MakesSet inverted (members marks) set → turned inverted (member_bytes marks) ≡ Some set
complete_set false marks set m =
    ap (turned false) (complete_bytes marks m.allowed) ∙ ap unless_empty (set_is false (members marks) set m) ∙ set_some set m.some
complete_set true marks set m =
    ap (turned true) (complete_bytes marks m.allowed)
    ∙ ap unless_empty (same_turned marks (bytes_where (λ b. is_yes (any_test (members marks) b))) refl ∙ set_is true (members marks) set m)
    ∙ set_some set m.some

-- ---- collating parts

any_collating : (marks : List BracketMark) → list_any is_collating marks ≡ true → Contains marks collating
any_collating [] e = absurd (false≢true e)
any_collating (x ∷ marks) e =
    elim (or_cases (is_collating x) (list_any is_collating marks) e) [
      | inl here ↦ (0, omega arith, collates x here)
      | inr there ↦ Contains-append_right (x ∷ []) marks collating (any_collating marks there)
    ]
  where
    collates : (m : BracketMark) → is_collating m ≡ true → m ≡ collating
    collates (plain b) f = absurd (false≢true f)
    collates (escaped byte) f = absurd (false≢true f)
    collates (class name) f = absurd (false≢true f)
    collates collating f = refl

pub sound_collating : (marks : List BracketMark) → list_any is_collating marks ≡ true → Contains marks collating
sound_collating = any_collating

alone : (x : BracketMark) → Contains (x ∷ []) collating → is_collating x ≡ true
alone x (zero, lt, e) = ap is_collating e
alone x (suc k, lt, e) = absurd (omega (arith, lt))

pub complete_collating : (marks : List BracketMark) → Contains marks collating → list_any is_collating marks ≡ true
complete_collating [] h = absurd (omega (arith, h.1))
complete_collating (x ∷ marks) h =
    elim (Contains-append_cases (x ∷ []) marks collating h) [
      | inl here ↦ or_first (is_collating x) (list_any is_collating marks) (alone x here)
      | inr there ↦ or_last (is_collating x) (list_any is_collating marks) (complete_collating marks there)
    ]

byte_collates_not : (x : BracketMark) (b : ℕ) → IsByteOf x b → is_collating x ≡ false
byte_collates_not (plain c) b h = refl
byte_collates_not (escaped byte) b h = refl
byte_collates_not (class name) b h = absurd h
byte_collates_not collating b h = absurd h

one_collates_not : (x : BracketMark) → IsAllowed (one x) → is_collating x ≡ false
one_collates_not (plain c) h = refl
one_collates_not (escaped byte) h = refl
one_collates_not (class name) h = refl
one_collates_not collating h = absurd h

-- members that are allowed are of no collating mark
pub allowed_collates_not : (marks : List BracketMark) (ms : List Member) → AreMembers marks ms → AllByRecursion IsAllowed ms → list_any is_collating marks ≡ false
allowed_collates_not _ _ AreMembers.none h = refl
allowed_collates_not _ _ (AreMembers.ranging x y rest ms t) h =
    let e = byte_collates_not x h.0.0 h.0.2 in
    let f = byte_collates_not y h.0.1 h.0.3 in
    let g = allowed_collates_not rest ms t h.1 in
    rw (e, f, g) refl
allowed_collates_not _ _ (AreMembers.single x rest ms never t) h =
    let e = one_collates_not x h.0 in
    let g = allowed_collates_not rest ms t h.1 in
    rw (e, g) refl
