-- Lists of places of rules, and of what stands at each of them, in order.
use Rattle.std.specs.Prelude.{◌≡◌, ℕ, ◌<◌, List, Some, length, slice_get}
use Rattle.cs_grammar.specs.Places.{IsEarlier}

-- The lists have, in order, places within a part of the rules and what stands at each: all places there that need one.
pub record ArePlaced {P S : Type 0} (rule place : P → ℕ) (Stands : P → S → Type 0) (Needs Within : ℕ → ℕ → Type 0) (places : List P) (items : List S) : Type 0 where
  pub many : length places ≡ length items
  pub each : (i : ℕ) → (a : P) → (s : S) → slice_get places i ≡ Some a → slice_get items i ≡ Some s → Stands a s × Within (rule a) (place a)
  pub every : (r k : ℕ) → Needs r k → Within r k → (i : ℕ) × (a : P) × (s : S) × (slice_get places i ≡ Some a) × (slice_get items i ≡ Some s) × (rule a ≡ r) × (place a ≡ k)
  pub ordered : (i k : ℕ) → (a b : P) → i < k → slice_get places i ≡ Some a → slice_get places k ≡ Some b → IsEarlier (rule a) (place a) (rule b) (place b)
