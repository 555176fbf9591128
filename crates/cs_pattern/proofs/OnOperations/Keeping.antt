-- What holds of each value on the stack.
use Rattle.std.proofs.Common.{◌≡◌, ℕ, zero, suc, ◌≤◌, List, [], ◌∷◌, ◌++◌, length, take, sym, ap, ◌∙◌, subst, arith, length-append}
use Rattle.std.specs.Prelude.{All}
use Rattle.std.proofs.Math.Seq.{get_or-append_seam}
use Rattle.std.proofs.lemmas.List.{length-map, take-map}
use Rattle.cs_pattern.specs.declared.operations.operations.Op as code
use Rattle.cs_pattern.specs.Operations.Operations.{Op, op_of, ops_of}
use Rattle.cs_pattern.specs.Operations.Evaluation.{Algebra, Keeps, run, step}

pub All-last : {V : Type 0} (P : V → Type 0) (xs : List V) (v : V) → All P (xs ++ v ∷ []) → P v
All-last P xs v h = subst P (get_or-append_seam xs v [] v) (h (length xs) v (omega (arith, length-append xs (v ∷ []))))

module _ {V : Type 0} (a : Algebra V) (P : V → Type 0) where
  pub keeps_at : (ops : List Op) (stack : List V) (k : ℕ) → k ≤ length ops → Keeps a P stack ops → All P (run a stack (take k ops))
  keeps_at [] stack zero le h = h
  keeps_at [] stack (suc k) le h = absurd (omega arith)
  keeps_at (op ∷ ops) stack zero le h = h.0
  keeps_at (op ∷ ops) stack (suc k) le h = keeps_at ops (step a stack op) k (omega arith) h.1

  pub keeps-append : (xs ys : List Op) (stack : List V) → Keeps a P stack xs → Keeps a P (run a stack xs) ys → Keeps a P stack (xs ++ ys)
  keeps-append [] ys stack h k = k
  keeps-append (x ∷ xs) ys stack h k = (h.0, keeps-append xs ys (step a stack x) h.1 k)

  -- after so many of the operations
  pub keeps_built : (ops : List code.Op) (k : ℕ) (stack : List V) → k ≤ length ops → Keeps a P [] (ops_of ops) → stack ≡ run a [] (ops_of (take k ops)) → All P stack
  keeps_built ops k stack le h is =
      subst (All P) (sym (is ∙ ap (run a []) (sym (take-map op_of k ops)))) (keeps_at (ops_of ops) [] k (omega (arith, length-map ops op_of)) h)

  pub keeps_end : (ops : List Op) (stack : List V) → Keeps a P stack ops → All P (run a stack ops)
  keeps_end [] stack h = h
  keeps_end (op ∷ ops) stack h = keeps_end ops (step a stack op) h.1
