-- What a writer does to its output, where `Is` says of which texts it is asked for.
use Rattle.std.specs.Prelude.{◌≡◌, ◌≤◌, ℕ, List, Option, Result, Err, length}
use Rattle.std.specs.Io.KnownBytes.{append_known}
use Rattle.cs_io.specs.BufferedSink.{lent_sink}
use Rattle.cs_io.specs.Faults.{Rose}
use Rattle.cs_io.specs.Sink.{GrewByPrefix}
use Rattle.cs_io.specs.declared.buffered_sink.BufferedSink.{BufferedSink}
use Rattle.cs_io.specs.declared.halt.Halt.{Halt}
use Rattle.cs_io.specs.declared.sink.Sink as Sink

-- It isn't so that no value is of the kind.
abbrev pub IsNotWithout : {A : Type 0} → (A → Type 0) → Type 0
IsNotWithout {A} IsOne = ((a : A) → IsOne a → ⊥) → ⊥

-- two values of the kind are the same
abbrev pub IsOne : {A : Type 0} → (A → Type 0) → Type 0
IsOne {A} Is = (a b : A) → Is a → Is b → a ≡ b

-- the output grew by such a text
abbrev pub GrewByOne : (List ℕ → Type 0) → Option (List ℕ) → Option (List ℕ) → Type 0
GrewByOne Is old new = (text : List ℕ) × Is text × (new ≡ append_known old text)

-- the output grew by a prefix of each such text
abbrev pub GrewByPart : (List ℕ → Type 0) → Option (List ℕ) → Option (List ℕ) → Type 0
GrewByPart Is old new = (text : List ℕ) → Is text → GrewByPrefix old new text

-- there is room for each such text
abbrev pub HasRoomForAll : (List ℕ → Type 0) → ℕ → Type 0
HasRoomForAll Is room = (text : List ℕ) → Is text → length text ≤ room

-- The same of a sink, by its meanings.
module _ {S : Type 0} (g : Sink.Ghosts S) where
  -- it took one such text
  abbrev pub TookOne : (List ℕ → Type 0) → S → S → Type 0
  TookOne Is old new = GrewByOne Is (g.written old) (g.written new)

  -- it took a prefix of each such text
  abbrev pub TookFront : (List ℕ → Type 0) → S → S → Type 0
  TookFront Is old new = GrewByPart Is (g.written old) (g.written new)

  -- it met no fault
  abbrev pub MetNone : S → S → Type 0
  MetNone old new = g.faults new ≡ g.faults old

  -- where it had room for each such text, it met no fault
  abbrev pub IsCalmForAll : (List ℕ → Type 0) → S → S → Type 0
  IsCalmForAll Is old new = HasRoomForAll Is (g.room old) → MetNone old new

  -- its faults rose
  abbrev pub MetFault : S → S → Type 0
  MetFault old new = Rose (g.faults old) (g.faults new)

  -- the same of the sink that is lent
  abbrev pub LentOne : (List ℕ → Type 0) → BufferedSink S → BufferedSink S → Type 0
  LentOne Is old new = TookOne Is (lent_sink old) (lent_sink new)

  abbrev pub LentPart : (List ℕ → Type 0) → BufferedSink S → BufferedSink S → Type 0
  LentPart Is old new = TookFront Is (lent_sink old) (lent_sink new)

  abbrev pub LentCalm : (List ℕ → Type 0) → BufferedSink S → BufferedSink S → Type 0
  LentCalm Is old new = IsCalmForAll Is (lent_sink old) (lent_sink new)

-- the answer is that this stopped the writing
abbrev pub Stopped : {A : Type 0} → Halt → Result A Halt → Type 0
Stopped halt result = result ≡ Err halt
