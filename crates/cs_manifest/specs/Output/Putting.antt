-- What a text that was put to an output did to it and to its sink.
use Rattle.std.specs.Prelude.{◌≡◌, ◌⊎◌, ℕ, ◌+◌, ◌-◌, ◌^◌, ◌<◌, ◌≤◌, List, ◌++◌, length, min, take, true, false}
use Rattle.std.specs.Io.KnownBytes.{append_known}
use Rattle.cs_io.specs.Faults.{Rose}
use Rattle.cs_io.specs.Sink.{GrewByPrefix}
use Rattle.cs_io.specs.declared.sink.Sink as Sink
use Rattle.cs_manifest.specs.declared.output.output.Output.{Output}

-- counts stand still at the greatest u128
abbrev pub shown : ℕ → ℕ
shown count = min count (2 ^ 128 - 1)

-- the bytes that wait for the sink
abbrev pub waiting : {S : Type 0} → Output S → List ℕ
waiting output = take output.used output.line.now

-- how many bytes wait
abbrev pub left : {S : Type 0} → Output S → ℕ
left output = length (waiting output)

module _ {S : Type 0} (g : Sink.Ghosts S) where
  -- the text was taken whole: `sent` went to the sink, and the rest waits
  pub record IsPut (text : List ℕ) (old new : Output S) : Type 0 where
    pub fine : old.failed ≡ false
    pub still_fine : new.failed ≡ false
    pub reference : new.sink.ghost_name ≡ old.sink.ghost_name
    pub bytes : shown (new.bytes + left new) ≡ shown (old.bytes + left old + length text)
    pub sent : List ℕ
    pub split : sent ++ waiting new ≡ waiting old ++ text
    pub written : g.written new.sink.now ≡ append_known (g.written old.sink.now) sent
    pub no_fault : g.faults new.sink.now ≡ g.faults old.sink.now
    pub room : g.room old.sink.now + left new ≤ g.room new.sink.now + left old + length text
    pub lent : g.lent new.sink.now ≡ g.lent old.sink.now
    pub passed : g.passed old.sink.now ≤ g.passed new.sink.now

  -- a write failed: the sink took a prefix of what waited and the text, and there was no room for it all
  pub record IsCut (text : List ℕ) (old new : Output S) : Type 0 where
    pub fine : old.failed ≡ false
    pub failed : new.failed ≡ true
    pub reference : new.sink.ghost_name ≡ old.sink.ghost_name
    pub written : GrewByPrefix (g.written old.sink.now) (g.written new.sink.now) (waiting old ++ text)
    pub fault : Rose (g.faults old.sink.now) (g.faults new.sink.now)
    pub faults : g.faults old.sink.now ≤ g.faults new.sink.now
    pub room : g.room old.sink.now < left old + length text
    pub lent : g.lent new.sink.now ≡ g.lent old.sink.now
    pub passed : g.passed old.sink.now ≤ g.passed new.sink.now

  -- a write had failed before, and nothing happened to the sink
  pub record IsLeft (old new : Output S) : Type 0 where
    pub failed : old.failed ≡ true
    pub still_failed : new.failed ≡ true
    pub reference : new.sink.ghost_name ≡ old.sink.ghost_name
    pub sink : new.sink.now ≡ old.sink.now

  -- one of these three; and the line is still the one that was lent
  pub record Puts (text : List ℕ) (old new : Output S) : Type 0 where
    pub line : new.line.ghost_name ≡ old.line.ghost_name
    pub how : IsPut text old new ⊎ IsCut text old new ⊎ IsLeft old new
