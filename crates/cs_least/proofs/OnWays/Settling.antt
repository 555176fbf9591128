-- What settles a node, or finds it settled.
use Rattle.std.proofs.Common.{◌≡◌, ℕ, ◌+◌, ◌≤◌, Bool, true, false, List, ◌++◌, length, take, sym, ap, subst, inl, inr, arith, Option}
use Rattle.std.specs.Prelude.{nat_le, if◌then◌else◌}
use Rattle.std.specs.BinaryHeap.{IsHeap, IsUpperBound}
use Rattle.std.specs.declared.cmp.Reverse.{Reverse}
use Rattle.std.proofs.Math.Seq.{take-append_seam}
use Rattle.cs_least.specs.declared.ways.step.Source.{Source}
use Rattle.cs_least.specs.declared.ways.candidate.Candidate.{Candidate}
use Rattle.cs_least.specs.declared.ways.reach.Reach.{Reach}
use Rattle.cs_least.specs.declared.ways.reach.Reach.TheVariants.{Never, Large, Least}
use Rattle.cs_least.specs.Ways.Ways.{Net, IsNode, IsNet}
use Rattle.cs_least.specs.Ways.Candidates.{order, reach_of}
use Rattle.cs_least.specs.Ways.Search.{IsSearch, IsSettling, unsettled_steps}
use Rattle.cs_least.proofs.OnWays.Holding.{IsRest}
use Rattle.cs_least.proofs.OnWays.Tables.{unsettled-set}
use Rattle.cs_least.proofs.OnWays.Searching.{search_passes, search_settles}

told_written : (limit c o : ℕ) (b : Bool) → (if b then Least c o else Large) ≡ Never → ⊥
told_written limit c o true e = cc
told_written limit c o false e = cc

module _ (limit : ℕ) (net : Net) (c : Candidate) (table : List Reach) (known : List (Option Candidate)) (rest : List (Reverse Candidate)) (table' : List Reach) (known' : List (Option Candidate)) (last : List (Reverse Candidate)) (settling : IsSettling limit net c table known rest table' known' last) where
  pub settling_heap : IsHeap order rest → IsHeap order last
  settling_heap h = elim settling [
    | inl was ↦ subst (IsHeap order) (sym was.waits) h
    | inr now ↦ now.offered.order h
  ]

  pub settling_size : IsNode (length table) c.node → unsettled_steps net.steps table' + length last ≤ unsettled_steps net.steps table + length rest
  settling_size node = elim settling [
    | inl was ↦ omega (arith, ap (unsettled_steps net.steps) was.same, ap length was.waits)
    | inr now ↦
        let fewer = unsettled-set net.steps c.node (reach_of limit c) table node now.was (told_written limit c.cost c.origin (nat_le c.cost limit)) in
        omega (arith, fewer, ap (unsettled_steps net.steps) now.told, now.offered.count)
  ]

  pub settling_search : (sources : List Source) (heap : List (Reverse Candidate)) → IsNet net → IsUpperBound order (record { 0 = c }) rest → IsRest heap c rest → IsSearch limit net sources table known heap → IsSearch limit net sources table' known' last
  settling_search sources heap is_net top left search = elim settling [
    | inl was ↦
        subst (λ (t : List Reach). IsSearch limit net sources t known' last) (sym was.same)
        (subst (λ (k : List (Option Candidate)). IsSearch limit net sources table k last) (sym was.knows)
        (subst (λ (h : List (Reverse Candidate)). IsSearch limit net sources table known h) (sym was.waits) (search_passes limit net sources table known heap rest c search left was.was)))
    | inr now ↦
        subst (λ (t : List Reach). IsSearch limit net sources t known' last) (sym now.told)
        (search_settles limit net sources table known heap rest c search left _ known' last is_net top now.was now.offered)
  ]

-- a table that was written as a part of a longer list
pub written_back : {X : Type 0} (n : ℕ) (xs ys : List X) → length ys ≡ n → take n (ys ++ xs) ≡ ys
written_back n xs ys e = subst (λ m. take m (ys ++ xs) ≡ ys) e (take-append_seam ys xs)
