-- How a call used a desk or a sink: what is known of it before the call and after it.
use Rattle.std.specs.Prelude.{◌≡◌, ℕ, Bool, List, Option}
use Rattle.cs_io.specs.Desk.{Files}
use Rattle.cs_io.specs.Faults.{Rose}
use Rattle.cs_io.specs.declared.desk.Desk as Desk
use Rattle.cs_io.specs.declared.sink.Sink as Sink

pub record Change (A : Type 0) : Type 0 where
  pub before : A
  pub after : A

pub record DeskUse : Type 0 where
  pub files : Option Files
  pub steady : Bool
  pub faults : Change ℕ

pub record SinkUse : Type 0 where
  pub written : Change (Option (List ℕ))
  pub faults : Change ℕ
  -- before the call
  pub room : ℕ

-- of a desk, by the meanings of its trait
abbrev pub desk_use : {D : Type 0} → (D → Option Files) → (D → Bool) → (D → ℕ) → D → D → DeskUse
desk_use files steady faults before after =
    record { files = files before; steady = steady before; faults = record { before = faults before; after = faults after } }

-- of a sink, by the meanings of its trait
abbrev pub sink_use : {S : Type 0} → (S → Option (List ℕ)) → (S → ℕ) → (S → ℕ) → S → S → SinkUse
sink_use written faults room before after = record {
  written = record { before = written before; after = written after };
  faults = record { before = faults before; after = faults after };
  room = room before;
}

-- the same by all meanings at once
abbrev pub desk_used : {D : Type 0} → Desk.Ghosts D → D → D → DeskUse
desk_used g before after = desk_use g.files g.steady g.faults before after

abbrev pub used : {S : Type 0} → Sink.Ghosts S → S → S → SinkUse
used g before after = sink_use g.written g.faults g.room before after

-- faults rose
abbrev pub HasFailed : Change ℕ → Type 0
HasFailed faults = Rose faults.before faults.after

-- the sink has taken nothing, and no write to it failed
abbrev pub IsUnused : SinkUse → Type 0
IsUnused sink = (sink.written.after ≡ sink.written.before) × (sink.faults.after ≡ sink.faults.before)
