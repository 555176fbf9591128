-- Answers beside the numbers of their items: what workers keep until all have ended.
use Rattle.std.specs.Prelude.{◌≡◌, ℕ, List, All, Some, slice_get, map, length, IsPermutation, Result, IfOk}
use Rattle.std.specs.Global.{Vec}
use Rattle.std.specs.List.{range_with_len}
use Rattle.cs_fan.specs.Numbers.{IsEachOnceBelow}
use Rattle.cs_fan.specs.Seen.{PlainCounter, PlainSeat}
use Rattle.cs_fan.specs.Seats.{IsOf, IsFresh, HasSeenEnd, DrawsEachOnce}

abbrev pub number_of : {U : Type 0} → ℕ × U → ℕ
number_of p = p.0

abbrev pub answer_of : {U : Type 0} → ℕ × U → U
answer_of p = p.1

-- an answer of the item with this number
abbrev pub IsAnswer : {T U : Type 0} → (T → U → Type 0) → List T → ℕ × U → Type 0
IsAnswer {T} answers items p = (item : T) × (slice_get items p.0 ≡ Some item) × answers item p.1

abbrev pub AreAnswers : {T U : Type 0} → (T → U → Type 0) → List T → List (ℕ × U) → Type 0
AreAnswers answers items pairs = All (IsAnswer answers items) pairs

-- the answers in the order of their numbers, which are those below n
pub record IsInOrder {U : Type 0} (n : ℕ) (pairs : List (ℕ × U)) (answers : List U) : Type 0 where
  pub sorted : List (ℕ × U)
  pub permuted : IsPermutation pairs sorted
  pub numbers : map number_of sorted ≡ range_with_len 0 n
  pub answers_are : answers ≡ map answer_of sorted

-- where the numbers are those below some n, each once, the answers are listed in their order
abbrev pub ListsInOrder : {U : Type 0} → List (ℕ × U) → List U → Type 0
ListsInOrder pairs answers = (n : ℕ) → IsEachOnceBelow n (map number_of pairs) → IsInOrder n pairs answers

-- a fresh seat of a counter of these items, each of which the work takes
pub record IsReady {T : Type 0} (takes : T → Type 0) (items : List T) (counter : PlainCounter) (seat : PlainSeat) : Type 0 where
  pub count : counter.items ≡ length items
  pub of : IsOf counter seat
  pub fresh : IsFresh seat
  pub taken : All takes items

-- the seat has drawn up to the end, and these are the answers of its numbers
pub record HasWorked {T U : Type 0} (answers : T → U → Type 0) (items : List T) (seat : PlainSeat) (pairs : List (ℕ × U)) : Type 0 where
  pub end : HasSeenEnd seat
  pub once : DrawsEachOnce seat
  pub numbers : map number_of pairs ≡ seat.drawn
  pub answers_are : AreAnswers answers items pairs

-- on Ok the seat has worked
abbrev pub Works : {T U E : Type 0} → (T → U → Type 0) → List T → PlainSeat → Result (Vec (ℕ × U)) E → Type 0
Works answers items seat result = IfOk result (λ v. HasWorked answers items seat v.items)
