-- Tables of costs of any kinds.
use Rattle.std.proofs.Common.{◌≡◌, ℕ, zero, suc, ◌+◌, ◌-◌, ◌≤◌, List, [], ◌∷◌, length, sym, ap, ◌∙◌, subst, ⊎_elim, arith, replicate}
use Rattle.std.specs.Prelude.{All}
use Rattle.std.proofs.Math.ListN.{set}
use Rattle.std.proofs.lemmas.Bool.{cases_eq}
use Rattle.std.proofs.lemmas.List.Elements.{All-head, All-tail, All-set, All-replicate}
use Rattle.cs_grammar.specs.Grammar.{IsNumberOf}
use Rattle.cs_grammar.proofs.Tables.{entry_or-set_same, entry_or-set_other, entry_or-replicate}
use Rattle.cs_least.specs.declared.cost.cost.Cost.{Cost}
use Rattle.cs_least.specs.declared.cost.cost.Cost.TheVariants.{Never}
use Rattle.cs_least.specs.Cost.Least.{IsCost}
use Rattle.cs_least.specs.Cost.Rank.{capped, rank, IsCapped, entry}
use Rattle.cs_least.specs.Cost.Holds.{Holds}
use Rattle.cs_least.proofs.OnCost.Ranks.{IsCost-from}

-- no thing of a number's kind costs less than the table says of the number
pub record IsLow {A : Type 0} (limit : ℕ) (Kind : ℕ → A → Type 0) (measure : A → ℕ) (table : List Cost) : Type 0 where
  pub low : (n : ℕ) → (a : A) → Kind n a → rank limit (entry table n) ≤ capped limit (measure a)

module _ (limit : ℕ) where
  pub IsCapped-entry : (table : List Cost) (n : ℕ) → All (IsCapped limit) table → IsCapped limit (entry table n)
  IsCapped-entry table zero each = tt
  IsCapped-entry [] (suc n) each = tt
  IsCapped-entry (c ∷ table) (suc zero) each = All-head (IsCapped limit) c table each
  IsCapped-entry (c ∷ table) (suc (suc n)) each = IsCapped-entry table (suc n) (All-tail (IsCapped limit) c table each)

module _ {A : Type 0} (limit : ℕ) (Kind : ℕ → A → Type 0) (measure : A → ℕ) where
  -- a table of Never holds
  pub Holds-replicate : (many : ℕ) → Holds limit Kind measure (replicate many Never)
  Holds-replicate many = record {
    each = All-replicate (IsCapped limit) many Never tt;
    reached = λ n h. absurd (omega (arith, h, ap (rank limit) (entry_or-replicate Never many n)));
  }

  -- a number may be given the cost of a thing of its kind
  pub Holds-set : (table : List Cost) (n : ℕ) (c : Cost) → Holds limit Kind measure table → IsNumberOf (length table) n → IsCapped limit c → (rank limit c ≤ limit + 1 → (a : A) × Kind n a × (capped limit (measure a) ≤ rank limit c)) → Holds limit Kind measure (set table (n - 1) c)
  Holds-set table n c holds number is_capped has = record {
    each = All-set (IsCapped limit) table (n - 1) c is_capped holds.each;
    reached = λ m. reached m;
  }
    where
      after : List Cost
      after = set table (n - 1) c

      reached : (m : ℕ) → rank limit (entry after m) ≤ limit + 1 → (a : A) × Kind m a × (capped limit (measure a) ≤ rank limit (entry after m))
      reached m h =
          ⊎_elim
          (λ same.
          let e : entry after m ≡ c = ap (entry after) same ∙ entry_or-set_same Never table n c number in
          let a = has (omega (arith, h, ap (rank limit) e)) in
          (a.0, subst (λ k. Kind k a.0) (sym same) a.1, omega (arith, a.2, ap (rank limit) e)))
          (λ other.
          let e : entry after m ≡ entry table m = entry_or-set_other Never table n m c number.0 other in
          let a = holds.reached m (omega (arith, h, ap (rank limit) e)) in
          (a.0, a.1, omega (arith, a.2, ap (rank limit) e)))
          (cases_eq m n)

  -- a table that holds and is low says what each number's kind costs
  pub exact_entry : (table : List Cost) → Holds limit Kind measure table → IsLow limit Kind measure table → (n : ℕ) → IsCost limit (Kind n) measure (entry table n)
  exact_entry table holds low n =
      IsCost-from limit (Kind n) measure (entry table n) (IsCapped-entry limit table n holds.each) (holds.reached n) (low.low n)
