-- How a writing ends: such a text was written, or a prefix of each.
use Rattle.std.specs.Prelude.{◌≡◌, ◌≤◌, ℕ, List, MatchResult, Result}
use Rattle.cs_io.specs.Faults.{Rose}
use Rattle.cs_io.specs.Lines.{HasRoom, IsWritten, TookPart}
use Rattle.cs_io.specs.declared.halt.Halt.{Halt}
use Rattle.cs_io.specs.declared.halt.Halt.TheVariants.{Failed}
use Rattle.cs_io.specs.declared.sink.Sink as Sink

module _ {S : Type 0} (g : Sink.Ghosts S) where
  -- The writing of these lines stopped so: a prefix was written.
  pub record IsStopped (lines : List ℕ) (old new : S) (halt : Halt) : Type 0 where
    pub written : TookPart g.written old new lines
    pub failed : halt ≡ Failed → Rose (g.faults old) (g.faults new)
    pub faults : g.faults old ≤ g.faults new
    pub no_fault : HasRoom g.room old lines → g.faults new ≡ g.faults old
    pub lent : g.lent new ≡ g.lent old
    pub passed : g.passed old ≤ g.passed new

  -- such a text was written
  pub record HasText (Is : List ℕ → Type 0) (old new : S) : Type 0 where
    pub text : List ℕ
    pub is : Is text
    pub written : IsWritten g text old new

  -- whichever such a text is, its writing stopped so
  abbrev pub HasSomeText : (List ℕ → Type 0) → S → S → Halt → Type 0
  HasSomeText Is old new halt = (text : List ℕ) → Is text → IsStopped text old new halt

  -- The answer says which of the two: such a text was written, or its writing stopped so.
  abbrev pub PutsOne : {A : Type 0} → (List ℕ → Type 0) → S → S → Result A Halt → Type 0
  PutsOne Is old new result = MatchResult result (λ _. HasText Is old new) (λ halt. HasSomeText Is old new halt)
