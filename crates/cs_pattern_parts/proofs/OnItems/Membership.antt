-- Gathering the members of a bracket.
use Rattle.std.proofs.Common.{◌≡◌, ℕ, ◌+◌, ◌≤◌, ◌<◌, Bool, true, false, List, [], ◌∷◌, length, drop, get_or, refl, sym, ap, ◌∙◌, arith}
use Rattle.std.specs.Prelude.{Option, Some, None, ◌||◌, not, if◌then◌else◌}
use Rattle.std.proofs.lemmas.List.{drop_more, drop_all, length-drop}
use Rattle.std.proofs.lemmas.Bool.{false≢true}
use Rattle.cs_pattern_parts.specs.Items.Members.{has, bytes_where}
use Rattle.cs_pattern_parts.specs.Items.Brackets.{BracketMark, collating, one, range}
use Rattle.cs_pattern_parts.specs.Items.Bracket.{members, member_test, any_test, or_both, is_yes, is_refused, begins_range, is_dash, member_bytes, turned, unless_empty}
use Rattle.cs_pattern_parts.specs.Items.Inserting.{Inserts, AreBytesOfMembers, AddsMember, RefusesMember}
use Rattle.cs_pattern_parts.proofs.OnItems.Picked.{has_picked, same_picked, picked_none, picked_by_itself}

-- The set has what was gathered, and with the marks from the index on it is what all marks give.
pub record Gathers (ms : List BracketMark) (set : List ℕ) (index : ℕ) : Type 0 where
  pub within : index ≤ length ms
  pub is : set ≡ bytes_where (has set)
  pub tests : (b : ℕ) → b < 256 → or_both (Some (has set b)) (any_test (members (drop index ms)) b) ≡ any_test (members ms) b

none_yet : (q : Option Bool) → or_both (Some false) q ≡ q
none_yet None = refl
none_yet (Some v) = refl

none_is : (set : List ℕ) → set ≡ [] → set ≡ bytes_where (has set)
none_is set e = e ∙ sym (picked_none (has set) 256 (λ m lt. ap (λ s. has s m) e))

pub gathers_none : (ms : List BracketMark) (set : List ℕ) → set ≡ [] → Gathers ms set 0
gathers_none ms set e = record { within = omega arith; is = none_is set e; tests = λ b lt. ap (λ s. or_both (Some (has s b)) (any_test (members ms) b)) e ∙ none_yet (any_test (members ms) b) }

regroup : (v o q : Bool) → ((v || o) || q) ≡ (o || (v || q))
regroup true true q = refl
regroup true false q = refl
regroup false true q = refl
regroup false false q = refl

added : (t : Option Bool) (o n : Bool) (q : Option Bool) → is_refused t ≡ false → n ≡ (is_yes t || o) → or_both (Some n) q ≡ or_both (Some o) (or_both t q)
added None o n q r e = absurd (false≢true (sym r))
added (Some v) o n None r e = refl
added (Some v) o n (Some q) r e = ap (λ w. Some (w || q)) e ∙ ap Some (regroup v o q)

-- a member more
pub gathers_member : (ms : List BracketMark) (old new : List ℕ) (index next : ℕ) → Gathers ms old index → AddsMember ms index old new next → Gathers ms new next
gathers_member ms old new index next g a = record {
  within = a.within;
  is = picked_by_itself (λ b. is_yes (member_test a.member b) || has old b) 256 new (sym a.adds.1);
  tests = λ b lt.
      added (member_test a.member b) (has old b) (has new b) (any_test (members (drop next ms)) b) (a.adds.0 b)
      (ap (λ s. has s b) a.adds.1 ∙ has_picked (λ x. is_yes (member_test a.member x) || has old x) 256 b lt)
      ∙ sym (ap (λ x. or_both (Some (has old b)) (any_test x b)) a.is)
      ∙ g.tests b lt;
}

pub refuses_member : (ms : List BracketMark) (old : List ℕ) (index : ℕ) → Gathers ms old index → RefusesMember ms index → member_bytes ms ≡ None
unfolding member_bytes
refuses_member ms old index g r =
    let e : any_test (members ms) 0 ≡ None = sym (g.tests 0 (omega arith)) ∙ ap (λ x. or_both (Some (has old 0)) (any_test x 0)) r.is ∙ ap (λ t. or_both (Some (has old 0)) (or_both t (any_test r.more 0))) (r.refused 0) in
    rw e refl

some_yes : (o : Bool) (t : Option Bool) → or_both (Some o) (Some false) ≡ t → (is_refused t ≡ false) × (o ≡ is_yes t)
some_yes true t e = (ap is_refused (sym e), ap is_yes e)
some_yes false t e = (ap is_refused (sym e), ap is_yes e)

pub gathers_all : (ms : List BracketMark) (set : List ℕ) (index : ℕ) → length ms ≤ index → Gathers ms set index → AreBytesOfMembers ms set
gathers_all ms set index le g =
    let rest : drop index ms ≡ [] = drop_all index ms le in
    let each : (b : ℕ) → b < 256 → or_both (Some (has set b)) (Some false) ≡ any_test (members ms) b = λ b lt. sym (ap (λ x. or_both (Some (has set b)) (any_test (members x) b)) rest) ∙ g.tests b lt in
    record {
      accepted = (some_yes (has set 0) (any_test (members ms) 0) (each 0 (omega arith))).0;
      is = g.is ∙ same_picked (has set) (λ b. is_yes (any_test (members ms) b)) 256 (λ b lt. (some_yes (has set b) (any_test (members ms) b) (each b lt)).1);
    }

-- ---- what stands at an index

pub one_first : (x : BracketMark) (more : List BracketMark) → begins_range (x ∷ more) ≡ false → members (x ∷ more) ≡ one x ∷ members more
one_first x [] e = refl
one_first x (d ∷ []) e = by_dash (is_dash d)
  where
    by_dash : (v : Bool) → (if v then one x ∷ one d ∷ [] else one x ∷ one d ∷ []) ≡ one x ∷ one d ∷ []
    by_dash true = refl
    by_dash false = refl
one_first x (d ∷ y ∷ rest) e = rw e refl

module _ (ms : List BracketMark) (index : ℕ) where
  pub begins_short : length ms ≤ index + 2 → begins_range (drop index ms) ≡ false
  begins_short le = short (drop index ms) (omega (arith, length-drop index ms))
    where
      short : (xs : List BracketMark) → length xs ≤ 2 → begins_range xs ≡ false
      short [] p = refl
      short (x ∷ []) p = refl
      short (x ∷ d ∷ []) p = refl
      short (x ∷ d ∷ y ∷ rest) p = absurd (omega arith)

  -- three marks at the index
  three : index + 2 < length ms → drop index ms ≡ get_or ms index collating ∷ get_or ms (index + 1) collating ∷ get_or ms (index + 2) collating ∷ drop (index + 3) ms
  three lt =
      let a = drop_more ms index collating (omega arith) in
      let b : drop (index + 1) ms ≡ get_or ms (index + 1) collating ∷ drop (index + 2) ms = drop_more ms (index + 1) collating (omega arith) ∙ ap (λ n. get_or ms (index + 1) collating ∷ drop n ms) (omega arith) in
      let c : drop (index + 2) ms ≡ get_or ms (index + 2) collating ∷ drop (index + 3) ms = drop_more ms (index + 2) collating (omega arith) ∙ ap (λ n. get_or ms (index + 2) collating ∷ drop n ms) (omega arith) in
      cc

  pub begins_long : index + 2 < length ms → begins_range (drop index ms) ≡ is_dash (get_or ms (index + 1) collating)
  begins_long lt = ap begins_range (three lt)

  pub range_at : index + 2 < length ms → begins_range (drop index ms) ≡ true → members (drop index ms) ≡ range (get_or ms index collating) (get_or ms (index + 2) collating) ∷ members (drop (index + 3) ms)
  range_at lt e = ap members (three lt) ∙ (let f : is_dash (get_or ms (index + 1) collating) ≡ true = sym (begins_long lt) ∙ e in rw f refl)

  pub one_at : index < length ms → begins_range (drop index ms) ≡ false → members (drop index ms) ≡ one (get_or ms index collating) ∷ members (drop (index + 1) ms)
  one_at lt e =
      let here = drop_more ms index collating lt in
      ap members here ∙ one_first (get_or ms index collating) (drop (index + 1) ms) (sym (ap begins_range here) ∙ e)

-- ---- the set of a bracket

pub turned_no : (ms : List BracketMark) (set : List ℕ) → AreBytesOfMembers ms set → unless_empty set ≡ turned false (member_bytes ms)
unfolding member_bytes
turned_no ms set a =
    ap unless_empty a.is ∙ sym (ap (λ v. turned false (if v then None else Some (bytes_where (λ b. is_yes (any_test (members ms) b))))) a.accepted)

pub turned_yes : (ms : List BracketMark) (set others : List ℕ) → AreBytesOfMembers ms set → others ≡ bytes_where (λ b. not (has set b)) → unless_empty others ≡ turned true (member_bytes ms)
unfolding member_bytes
turned_yes ms set others a is =
    ap unless_empty (is ∙ ap (λ s. bytes_where (λ b. not (has s b))) a.is)
    ∙ sym (ap (λ v. turned true (if v then None else Some (bytes_where (λ b. is_yes (any_test (members ms) b))))) a.accepted)

-- ---- the member at an index

module _ (ms : List BracketMark) (index : ℕ) (x : BracketMark) (at : get_or ms index collating ≡ x) where
  range_is : (y : BracketMark) → index + 2 < length ms → begins_range (drop index ms) ≡ true → get_or ms (index + 2) collating ≡ y → members (drop index ms) ≡ range x y ∷ members (drop (index + 3) ms)
  range_is y lt e last = range_at ms index lt e ∙ rw (at, last) refl

  one_is : index < length ms → begins_range (drop index ms) ≡ false → members (drop index ms) ≡ one x ∷ members (drop (index + 1) ms)
  one_is lt e = one_at ms index lt e ∙ rw at refl

  pub adds_range : (y : BracketMark) (old new : List ℕ) → index + 2 < length ms → begins_range (drop index ms) ≡ true → get_or ms (index + 2) collating ≡ y → Inserts old new (member_test (range x y)) true → AddsMember ms index old new (index + 3)
  adds_range y old new lt e last i = record { member = range x y; forward = omega arith; within = omega arith; is = range_is y lt e last; adds = i }

  pub refuses_range : (y : BracketMark) → index + 2 < length ms → begins_range (drop index ms) ≡ true → get_or ms (index + 2) collating ≡ y → ((b : ℕ) → member_test (range x y) b ≡ None) → RefusesMember ms index
  refuses_range y lt e last r = record { member = range x y; more = members (drop (index + 3) ms); is = range_is y lt e last; refused = r }

  pub adds_one : (old new : List ℕ) → index < length ms → begins_range (drop index ms) ≡ false → Inserts old new (member_test (one x)) true → AddsMember ms index old new (index + 1)
  adds_one old new lt e i = record { member = one x; forward = omega arith; within = omega arith; is = one_is lt e; adds = i }

  pub refuses_one : index < length ms → begins_range (drop index ms) ≡ false → ((b : ℕ) → member_test (one x) b ≡ None) → RefusesMember ms index
  refuses_one lt e r = record { member = one x; more = members (drop (index + 1) ms); is = one_is lt e; refused = r }
