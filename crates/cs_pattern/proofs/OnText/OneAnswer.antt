-- A text has one answer.
use Rattle.std.proofs.Common.{◌≡◌, ℕ, false, List, [], ◌∷◌, ◌++◌, map, refl, sym, ap, ◌∙◌, subst, inl, inr}
use Rattle.std.specs.Prelude.{Some, None, is_some, not, if◌then◌else◌}
use Rattle.std.proofs.lemmas.Bool.{false≢true}
use Rattle.std.specs.List.{AllByRecursion}
use Rattle.cs_pattern_parts.specs.declared.items.item.Repetition.{Repetition}
use Rattle.cs_pattern_parts.specs.Items.Items.{Item, closing, bar, repetition, Placed, items_of}
use Rattle.cs_pattern.specs.declared.text.fault.PatternFault.{PatternFault}
use Rattle.cs_pattern.specs.declared.text.fault.PatternFault.TheVariants as faults
use Rattle.cs_pattern.specs.Text.Answers.{limit_of, IsPatternOf, IsUndefinedAt, IsBeyond, IsFault}
use Rattle.cs_pattern.specs.Operations.Definitions.{Definition}
use Rattle.cs_pattern.specs.Operations.Grammar.{Tree, LastBranch, Or, Branch, LastPiece, Beside, Piece, Repeated, Atom, Bytes, Quote, Name, Group, tree_items, branch_items, piece_items, atom_items}
use Rattle.cs_pattern.specs.Text.Names.{is_undefined, first_undefined}
use Rattle.cs_pattern_parts.specs.Tree.Pattern.{Regex}
use Rattle.cs_pattern.specs.Text.Substitution.{PutIn, BranchPutIn, PiecePutIn, AtomPutIn, IsTreeOf}
use Rattle.cs_pattern.specs.Operations.Depth.{pattern_of}
use Rattle.cs_pattern.specs.Text.Table.{Reads, fault_of, IsFirstStop}
use Rattle.cs_pattern.proofs.OnText.PuttingIn.{one_tree_of}
use Rattle.cs_pattern.proofs.OnText.Readings.{one_reading, one_stop, no_stop}

-- ---- where definitions are put in, each name is defined

module _ (ds : List Definition) where
  abbrev AllDefined : List Item → Type 0
  AllDefined = AllByRecursion (λ (i : Item). is_undefined ds i ≡ false)

  both : (xs ys : List Item) → AllDefined xs → AllDefined ys → AllDefined (xs ++ ys)
  both [] ys h k = k
  both (x ∷ xs) ys h k = (h.0, both xs ys h.1 k)

  repetitions : (rs : List Repetition) → AllDefined (map repetition rs)
  repetitions [] = tt
  repetitions (r ∷ rs) = (refl, repetitions rs)

  mutual
    tree_defined : (u t : Tree) → PutIn ds u t → AllDefined (tree_items t)
    tree_defined (LastBranch b) t p = let e = p.1 in subst (λ (x : Tree). AllDefined (tree_items x)) (sym e) (branch_defined b p.0 p.2)
    tree_defined (Or b u) t p =
        let e = p.2 in
        subst (λ (x : Tree). AllDefined (tree_items x)) (sym e) (both (branch_items p.0) (bar ∷ tree_items p.1) (branch_defined b p.0 p.3) (refl, tree_defined u p.1 p.4))

    branch_defined : (b c : Branch) → BranchPutIn ds b c → AllDefined (branch_items c)
    branch_defined (LastPiece q) c p = let e = p.1 in subst (λ (x : Branch). AllDefined (branch_items x)) (sym e) (piece_defined q p.0 p.2)
    branch_defined (Beside q b) c p =
        let e = p.2 in
        subst (λ (x : Branch). AllDefined (branch_items x)) (sym e) (both (piece_items p.0) (branch_items p.1) (piece_defined q p.0 p.3) (branch_defined b p.1 p.4))

    piece_defined : (q w : Piece) → PiecePutIn ds q w → AllDefined (piece_items w)
    piece_defined (Repeated a rs) w p =
        let e = p.1 in
        subst (λ (x : Piece). AllDefined (piece_items x)) (sym e) (both (atom_items p.0) (map repetition rs) (atom_defined a p.0 p.2) (repetitions rs))

    atom_defined : (a w : Atom) → AtomPutIn ds a w → AllDefined (atom_items w)
    atom_defined (Bytes set) w p = subst (λ (x : Atom). AllDefined (atom_items x)) (sym p) (refl, tt)
    atom_defined (Quote bytes) w p = subst (λ (x : Atom). AllDefined (atom_items x)) (sym p) (refl, tt)
    atom_defined (Name name) w p = absurd p
    atom_defined (Group u) w (inl p) =
        let e = p.1 in
        subst (λ (x : Atom). AllDefined (atom_items x)) (sym e) (refl, both (tree_items p.0) (closing ∷ []) (tree_defined u p.0 p.2) (refl, tt))
    atom_defined (Group u) w (inr p) =
        let e = p.1 in let def = p.2.2 in
        subst (λ (x : Atom). AllDefined (atom_items x)) (sym e) (ap (λ o. not (is_some o)) def.found, tt)

  none_undefined : (xs : List Placed) → AllDefined (items_of xs) → first_undefined ds xs ≡ None
  none_undefined [] h = refl
  none_undefined (p ∷ xs) h = ap (λ b. if b then Some p.at else first_undefined ds xs) h.0 ∙ none_undefined xs h.1

  -- a text with a tree uses only names that are defined
  pub tree_is_defined : (text : List ℕ) (tree : Tree) (xs : List Placed) → IsTreeOf ds text tree → Reads text xs → first_undefined ds xs ≡ None
  tree_is_defined text tree xs t r =
      let s = t.is_spelled in
      let same = one_reading text s.items xs s.read r in
      none_undefined xs (subst AllDefined (sym s.derived ∙ ap items_of same) (tree_defined tree t.spelled t.put_in))

-- ---- one stop

pub no_first_stop : (text : List ℕ) (xs : List Placed) (f : PatternFault) → Reads text xs → IsFirstStop text f → ⊥
no_first_stop text xs f r (inl s) = false≢true (sym r.plain ∙ s.0)
no_first_stop text xs f r (inr s) = no_stop text xs s.0 s.1 r s.2

pub one_first_stop : (text : List ℕ) (f g : PatternFault) → IsFirstStop text f → IsFirstStop text g → f ≡ g
one_first_stop text f g (inl p) (inl q) = p.1 ∙ sym q.1
one_first_stop text f g (inl p) (inr q) = let s = q.2 in absurd (false≢true (sym s.plain ∙ p.0))
one_first_stop text f g (inr p) (inl q) = let s = p.2 in absurd (false≢true (sym s.plain ∙ q.0))
one_first_stop text f g (inr p) (inr q) =
    let same = one_stop text p.0 q.0 p.1 q.1 p.2 q.2 in
    p.3 ∙ ap (λ n. fault_of p.1 n) same.0 ∙ ap (λ w. fault_of w q.0) same.1 ∙ sym q.3

-- ---- one answer

data Kind (text : List ℕ) (ds : List Definition) (f : PatternFault) : Type 0 where
  stops : IsFirstStop text f → Kind text ds f
  undefined : (at : ℕ) → f ≡ faults.UndefinedName at → IsUndefinedAt text ds at → Kind text ds f
  beyond : IsBeyond text ds f → Kind text ds f

kind : (text : List ℕ) (ds : List Definition) (f : PatternFault) → IsFault text ds f → Kind text ds f
kind text ds (faults.Anchor at) h = stops h
kind text ds (faults.Trailing at) h = stops h
kind text ds (faults.Condition at) h = stops h
kind text ds (faults.Collation at) h = stops h
kind text ds (faults.Syntax at) h = stops h
kind text ds (faults.UndefinedName at) h = undefined at refl h
kind text ds (faults.DefinitionCycle at) h = absurd h
kind text ds (faults.TooDeep found most) h = beyond h
kind text ds (faults.TooManyPositions most) h = beyond h

module _ (text : List ℕ) (ds : List Definition) where
  no_tree : (tree : Tree) (at : ℕ) → IsTreeOf ds text tree → IsUndefinedAt text ds at → ⊥
  no_tree tree at t u = let e : None ≡ Some at = sym (tree_is_defined ds text tree u.items t u.read) ∙ u.first in cc e

  one_kind : (f g : PatternFault) → Kind text ds f → Kind text ds g → f ≡ g
  one_kind f g (stops p) (stops q) = one_first_stop text f g p q
  one_kind f g (stops p) (undefined bt e q) = absurd (no_first_stop text q.items f q.read p)
  one_kind f g (stops p) (beyond q) = absurd (no_first_stop text q.is_tree.is_spelled.items f q.is_tree.is_spelled.read p)
  one_kind f g (undefined at d p) (stops q) = absurd (no_first_stop text p.items g p.read q)
  one_kind f g (undefined at d p) (undefined bt e q) =
      let same : Some at ≡ Some bt = sym p.first ∙ ap (first_undefined ds) (one_reading text p.items q.items p.read q.read) ∙ q.first in
      let n : at ≡ bt = cc same in
      d ∙ ap faults.UndefinedName n ∙ sym e
  one_kind f g (undefined at d p) (beyond q) = absurd (no_tree q.tree at q.is_tree p)
  one_kind f g (beyond p) (stops q) = absurd (no_first_stop text p.is_tree.is_spelled.items g p.is_tree.is_spelled.read q)
  one_kind f g (beyond p) (undefined bt e q) = absurd (no_tree p.tree bt p.is_tree q)
  one_kind f g (beyond p) (beyond q) =
      let same : Some f ≡ Some g = sym p.passes ∙ ap limit_of (one_tree_of ds text p.tree q.tree p.is_tree q.is_tree) ∙ q.passes in
      cc same

  no_kind : (r : Regex) (f : PatternFault) → IsPatternOf ds text r → Kind text ds f → ⊥
  no_kind r f p (stops q) = no_first_stop text p.is_tree.is_spelled.items f p.is_tree.is_spelled.read q
  no_kind r f p (undefined at d q) = no_tree p.tree at p.is_tree q
  no_kind r f p (beyond q) = let e : None ≡ Some f = sym p.within ∙ ap limit_of (one_tree_of ds text p.tree q.tree p.is_tree q.is_tree) ∙ q.passes in cc e

  pub one_pattern_of : (r s : Regex) → IsPatternOf ds text r → IsPatternOf ds text s → r ≡ s
  one_pattern_of r s p q = p.is ∙ ap pattern_of (one_tree_of ds text p.tree q.tree p.is_tree q.is_tree) ∙ sym q.is

  pub one_fault : (f g : PatternFault) → IsFault text ds f → IsFault text ds g → f ≡ g
  one_fault f g p q = one_kind f g (kind text ds f p) (kind text ds g q)

  pub no_fault : (r : Regex) (f : PatternFault) → IsPatternOf ds text r → IsFault text ds f → ⊥
  no_fault r f p q = no_kind r f p (kind text ds f q)
