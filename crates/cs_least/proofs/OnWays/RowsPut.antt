-- Steps put into the rows, one after another.
use Rattle.std.proofs.Common.{◌≡◌, ◌≢◌, ◌==◌, ℕ, ◌+◌, ◌-◌, ◌<◌, Bool, true, false, List, [], ◌∷◌, ◌++◌, Some, length, get_or, refl, sym, ap, ◌∙◌, ⊎_elim, arith, append-nil, subst}
use Rattle.std.specs.Prelude.{slice_get, cond, All}
use Rattle.std.specs.Global.{Vec}
use Rattle.std.proofs.Math.ListN.{set, length-set}
use Rattle.std.proofs.lemmas.Bool.{cases_eq}
use Rattle.std.proofs.lemmas.Bool.Decides.{Decides-eqb}
use Rattle.std.proofs.lemmas.List.{get_or-set_same, get_or-set_other}
use Rattle.std.proofs.lemmas.List.Elements.{filter-append}
use Rattle.std.proofs.lemmas.Option.{slice_get_within, slice_get-get_or, get_or_from_slice_get}
use Rattle.cs_least.specs.declared.ways.step.Step.{Step}
use Rattle.cs_least.specs.Ways.Ways.{Net, IsNode}
use Rattle.cs_least.specs.Ways.Rows.{leaving, AreRows, AreRowsOf}
use Rattle.cs_least.proofs.OnWays.RowLemmas.{leaving_nodes}

leaving_here : (s : Step) (n : ℕ) (b : Bool) → (s.from == n) ≡ b → s.from ≡ n → cond b (s ∷ []) [] ≡ s ∷ []
leaving_here s n true e is = refl
leaving_here s n false e is = let yes : (s.from == n) ≡ true = (Decides-eqb s.from n).1 is in absurd cc

leaving_other : (s : Step) (n : ℕ) (b : Bool) → (s.from == n) ≡ b → (s.from ≡ n → ⊥) → cond b (s ∷ []) [] ≡ []
leaving_other s n true e not = absurd (not ((Decides-eqb s.from n).0 e))
leaving_other s n false e not = refl

pub leaving-push_here : (steps : List Step) (s : Step) (n : ℕ) → s.from ≡ n → leaving (steps ++ s ∷ []) n ≡ leaving steps n ++ s ∷ []
leaving-push_here steps s n is =
    filter-append (λ (t : Step). t.from == n) steps (s ∷ []) ∙ ap (λ (l : List Step). leaving steps n ++ l) (leaving_here s n (s.from == n) refl is)

pub leaving-push_other : (steps : List Step) (s : Step) (n : ℕ) → (s.from ≡ n → ⊥) → leaving (steps ++ s ∷ []) n ≡ leaving steps n
leaving-push_other steps s n not =
    filter-append (λ (t : Step). t.from == n) steps (s ∷ []) ∙ ap (λ (l : List Step). leaving steps n ++ l) (leaving_other s n (s.from == n) refl not) ∙ append-nil (leaving steps n)

pub rows_more : (nodes : ℕ) (steps : List Step) (rows : List (Vec Step)) (s : Step) (row row' : Vec Step) → IsNode nodes s.from → slice_get rows (s.from - 1) ≡ Some row → row'.items ≡ row.items ++ s ∷ [] → AreRows nodes steps rows → AreRows nodes (steps ++ s ∷ []) (set rows (s.from - 1) row')
rows_more nodes steps rows s row row' node at pushed are = record {
  many = length-set rows (s.from - 1) row' ∙ are.many;
  each = λ k v there.
      let within : k < length rows = omega (arith, slice_get_within (set rows (s.from - 1) row') k v there, length-set rows (s.from - 1) row') in
      let read = get_or_from_slice_get (set rows (s.from - 1) row') k v v there in
      ⊎_elim
      (λ same.
      let is : v ≡ row' = sym read ∙ ap (λ j. get_or (set rows (s.from - 1) row') j v) same ∙ get_or-set_same rows (s.from - 1) row' v (omega (arith, within, same)) in
      let here : s.from ≡ k + 1 = omega (arith, same, node.0) in
      ap (λ (w : Vec Step). w.items) is ∙ pushed ∙ ap (λ (l : List Step). l ++ s ∷ []) (are.each (s.from - 1) row at ∙ ap (leaving steps) (let e : s.from - 1 + 1 ≡ k + 1 = omega (arith, same) in e)) ∙ sym (leaving-push_here steps s (k + 1) here))
      (λ other.
      let apart : k ≢ s.from - 1 = other in
      let old : slice_get rows k ≡ Some v = slice_get-get_or rows k v within ∙ ap Some (sym (get_or-set_other rows (s.from - 1) k row' v apart) ∙ read) in
      are.each k v old ∙ sym (leaving-push_other steps s (k + 1) (λ e. other (omega (arith, e)))))
      (cases_eq k (s.from - 1));
}

-- a row's steps lead to nodes
pub row_nodes : (net : Net) (rows : List (Vec Step)) (n : ℕ) (row : Vec Step) → AreRowsOf net rows → IsNode net.nodes n → slice_get rows (n - 1) ≡ Some row → All (λ (s : Step). IsNode net.nodes s.to) row.items
row_nodes net rows n row are node at =
    let same : n - 1 + 1 ≡ n = omega (arith, node.0) in
    let is : row.items ≡ leaving net.steps n = are.kept.each (n - 1) row at ∙ ap (leaving net.steps) same in
    subst (λ (l : List Step). All (λ (s : Step). IsNode net.nodes s.to) l) (sym is) (leaving_nodes net n are.steps)
