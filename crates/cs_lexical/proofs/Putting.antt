-- Lines that were put to an output for which nothing waits, and then passed on: what that did to the sink.
use Rattle.std.proofs.Common.{◌≡◌, ◌⊎◌, inl, inr, ℕ, List, [], ◌++◌, length, append-nil, ap, sym, ◌∙◌, subst, arith, true, false}
use Rattle.std.specs.Io.KnownBytes.{append_known}
use Rattle.cs_io.specs.Lines.{IsCutShort, IsWritten}
use Rattle.cs_io.specs.Sink.{GrewByPrefix}
use Rattle.cs_io.specs.declared.sink.Sink as Sink
use Rattle.cs_manifest.specs.declared.output.output.Output.{Output}
use Rattle.cs_manifest.specs.Output.Putting.{IsCut, IsLeft, IsPut, Puts, waiting}
use Rattle.cs_manifest.proofs.OnOutput.Pieces.{then}

module _ {S : Type 0} {g : Sink.Ghosts S} (old mid new : Output S) (text : List ℕ) (fine : old.failed ≡ false) (empty : waiting old ≡ []) (put : Puts g text old mid) (passed : Puts g [] mid new) where
  whole : (text ++ []) ≡ text
  whole = append-nil text

  pub all_written : new.failed ≡ false → waiting new ≡ [] → IsWritten g text old.sink.now new.sink.now
  all_written still done = at (then put passed).how
    where
      at : IsPut g (text ++ []) old new ⊎ IsCut g (text ++ []) old new ⊎ IsLeft g old new → IsWritten g text old.sink.now new.sink.now
      at (inl p) =
          let sent : p.sent ≡ text = sym (append-nil p.sent) ∙ ap (λ (l : List ℕ). p.sent ++ l) (sym done) ∙ p.split ∙ ap (λ (l : List ℕ). l ++ (text ++ [])) empty ∙ whole in
          record {
            written = p.written ∙ ap (λ (l : List ℕ). append_known (g.written old.sink.now) l) sent;
            no_fault = p.no_fault;
            room = omega (arith, p.room, ap length empty, ap length whole);
            lent = p.lent;
            passed = p.passed;
          }
      at (inr (inl q)) = absurd (let e = sym still ∙ q.failed in cc)
      at (inr (inr q)) = absurd (let e = sym fine ∙ q.failed in cc)

  pub cut_short : new.failed ≡ true → IsCutShort g text old.sink.now new.sink.now
  cut_short failed = at (then put passed).how
    where
      at : IsPut g (text ++ []) old new ⊎ IsCut g (text ++ []) old new ⊎ IsLeft g old new → IsCutShort g text old.sink.now new.sink.now
      at (inl p) = absurd (let e = sym failed ∙ p.still_fine in cc)
      at (inr (inl q)) = record {
        written =
            subst (λ (t : List ℕ). GrewByPrefix (g.written old.sink.now) (g.written new.sink.now) t)
            (ap (λ (t : List ℕ). t ++ (text ++ [])) empty ∙ whole) q.written;
        fault = q.fault;
        faults = q.faults;
        room = omega (arith, q.room, ap length empty, ap length whole);
        lent = q.lent;
        passed = q.passed;
      }
      at (inr (inr q)) = absurd (let e = sym fine ∙ q.failed in cc)

-- the sink is still the one that was lent
pub same_sink : {S : Type 0} {g : Sink.Ghosts S} {old new : Output S} {text : List ℕ} → Puts g text old new → new.sink.ghost_name ≡ old.sink.ghost_name
same_sink {S} {g} {old} {new} {text} put = at put.how
  where
    at : IsPut g text old new ⊎ IsCut g text old new ⊎ IsLeft g old new → new.sink.ghost_name ≡ old.sink.ghost_name
    at (inl p) = p.reference
    at (inr (inl q)) = q.reference
    at (inr (inr q)) = q.reference

-- what is said of the output's sink is said of the sink
pub moved : {S : Type 0} (g : Sink.Ghosts S) (lines : List ℕ) (a b now new : S) → a ≡ b → new ≡ now → IsWritten g lines a now → IsWritten g lines b new
moved {S} g lines a b now new first second written =
    subst (λ (s : S). IsWritten g lines s new) first (subst (λ (s : S). IsWritten g lines a s) (sym second) written)

pub moved_cut : {S : Type 0} (g : Sink.Ghosts S) (lines : List ℕ) (a b now new : S) → a ≡ b → new ≡ now → IsCutShort g lines a now → IsCutShort g lines b new
moved_cut {S} g lines a b now new first second cut =
    subst (λ (s : S). IsCutShort g lines s new) first (subst (λ (s : S). IsCutShort g lines a s) (sym second) cut)
