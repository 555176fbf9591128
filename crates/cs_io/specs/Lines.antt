-- What a call that writes lines did to a sink, by the meanings of the sink.
use Rattle.std.specs.Prelude.{◌≡◌, ℕ, ◌+◌, ◌<◌, ◌≤◌, List, MatchResult, Option, Result, length}
use Rattle.std.specs.Io.KnownBytes.{append_known}
use Rattle.cs_io.specs.Faults.{Rose}
use Rattle.cs_io.specs.Sink.{GrewByPrefix}
use Rattle.cs_io.specs.declared.sink.Sink as Sink
use Rattle.cs_io.specs.declared.sink.SinkError.{SinkError}

module _ {S : Type 0} where
  -- it took the lines whole
  abbrev pub Took : (S → Option (List ℕ)) → S → S → List ℕ → Type 0
  Took written old new lines = written new ≡ append_known (written old) lines

  -- it took a prefix of them
  abbrev pub TookPart : (S → Option (List ℕ)) → S → S → List ℕ → Type 0
  TookPart written old new lines = GrewByPrefix (written old) (written new) lines

  -- it had room for them
  abbrev pub HasRoom : (S → ℕ) → S → List ℕ → Type 0
  HasRoom room old lines = length lines ≤ room old

  -- its room fell by no more than their length
  abbrev pub LeavesRoom : (S → ℕ) → S → S → List ℕ → Type 0
  LeavesRoom room old new lines = room old ≤ room new + length lines

-- The same in one fact each, for calls that write one text after another.
module _ {S : Type 0} (g : Sink.Ghosts S) where
  -- the lines were taken whole
  pub record IsWritten (lines : List ℕ) (old new : S) : Type 0 where
    pub written : Took g.written old new lines
    pub no_fault : g.faults new ≡ g.faults old
    pub room : LeavesRoom g.room old new lines
    pub lent : g.lent new ≡ g.lent old
    pub passed : g.passed old ≤ g.passed new

  -- a write failed: a prefix of the lines was taken, and there was no room for them all
  pub record IsCutShort (lines : List ℕ) (old new : S) : Type 0 where
    pub written : TookPart g.written old new lines
    pub fault : Rose (g.faults old) (g.faults new)
    pub faults : g.faults old ≤ g.faults new
    pub room : g.room old < length lines
    pub lent : g.lent new ≡ g.lent old
    pub passed : g.passed old ≤ g.passed new

  -- the answer says which of the two
  abbrev pub Writes : Result Unit SinkError → List ℕ → S → S → Type 0
  Writes result lines old new = MatchResult result (λ _. IsWritten lines old new) (λ _. IsCutShort lines old new)
