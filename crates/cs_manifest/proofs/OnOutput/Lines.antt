-- Lines that were put to an output over a sink, and then passed on.
use Rattle.std.proofs.Common.{◌≡◌, ◌⊎◌, inl, inr, ℕ, List, [], ◌++◌, length, ap, sym, ◌∙◌, subst, arith, true, false}
use Rattle.std.specs.Io.KnownBytes.{append_known}
use Rattle.std.proofs.lemmas.List.{append-nil}
use Rattle.cs_io.specs.Lines.{IsCutShort, IsWritten}
use Rattle.cs_io.specs.declared.sink.Sink as Sink
use Rattle.cs_manifest.proofs.OnOutput.Pieces.{failed_part, then}
use Rattle.cs_manifest.specs.Output.Putting.{IsCut, IsLeft, IsPut, Puts, left, waiting}
use Rattle.cs_manifest.specs.declared.output.output.Output.{Output}

module _ {S : Type 0} {g : Sink.Ghosts S} {old mid new : Output S} {text : List ℕ} (fine : old.failed ≡ false) (none_waits : waiting old ≡ []) (put : Puts g text old mid) (passed : Puts g [] mid new) where
  pub lines_written : waiting new ≡ [] → new.failed ≡ false → IsWritten g text old.sink.now new.sink.now
  lines_written none_left still = from (then put passed).how
    where
      from : IsPut g (text ++ []) old new ⊎ IsCut g (text ++ []) old new ⊎ IsLeft g old new → IsWritten g text old.sink.now new.sink.now
      from (inl p) =
          let sent : p.sent ≡ text =
          sym (append-nil p.sent) ∙ ap (λ (l : List ℕ). p.sent ++ l) (sym none_left) ∙ p.split ∙ ap (λ (l : List ℕ). l ++ (text ++ [])) none_waits ∙ append-nil text in
          let before : left old ≡ 0 = ap (λ (l : List ℕ). length l) none_waits in
          let long : length (text ++ []) ≡ length text = ap (λ (l : List ℕ). length l) (append-nil text) in
          record {
            written = p.written ∙ ap (λ (l : List ℕ). append_known (g.written old.sink.now) l) sent;
            no_fault = p.no_fault;
            room = omega (arith, p.room, before, long);
            lent = p.lent;
            passed = p.passed;
          }
      from (inr (inl q)) = absurd (let e = sym still ∙ q.failed in cc)
      from (inr (inr q)) = absurd (let e = sym fine ∙ q.failed in cc)

  pub lines_cut : new.failed ≡ true → IsCutShort g text old.sink.now new.sink.now
  lines_cut failed = from (then put passed).how
    where
      from : IsPut g (text ++ []) old new ⊎ IsCut g (text ++ []) old new ⊎ IsLeft g old new → IsCutShort g text old.sink.now new.sink.now
      from (inl p) = absurd (let e = sym failed ∙ p.still_fine in cc)
      from (inr (inl q)) =
          let before : left old ≡ 0 = ap (λ (l : List ℕ). length l) none_waits in
          let long : length (text ++ []) ≡ length text = ap (λ (l : List ℕ). length l) (append-nil text) in
          record {
            written = failed_part fine none_waits put passed failed;
            fault = q.fault;
            faults = q.faults;
            room = omega (arith, q.room, before, long);
            lent = q.lent;
            passed = q.passed;
          }
      from (inr (inr q)) = absurd (let e = sym fine ∙ q.failed in cc)

-- the same of the sink under other names
pub written_at : {S : Type 0} {g : Sink.Ghosts S} {lines : List ℕ} (a b now new : S) → a ≡ b → new ≡ now → IsWritten g lines a now → IsWritten g lines b new
written_at {S} {g} {lines} a b now new first second written =
    subst (λ (s : S). IsWritten g lines s new) first (subst (λ (s : S). IsWritten g lines a s) (sym second) written)

pub cut_at : {S : Type 0} {g : Sink.Ghosts S} {lines : List ℕ} (a b now new : S) → a ≡ b → new ≡ now → IsCutShort g lines a now → IsCutShort g lines b new
cut_at {S} {g} {lines} a b now new first second cut =
    subst (λ (s : S). IsCutShort g lines s new) first (subst (λ (s : S). IsCutShort g lines a s) (sym second) cut)
