-- One symbol more from the right: it isn't parted where the token may stand first behind it.
use Rattle.std.proofs.Common.{◌-◌, ⊎_elim, inl, inr, arith}
use Rattle.cs_closed.proofs.OnClosed.Steps.{first_step, keeps_step, breaks, first_end, keeps_end}
use Rattle.cs_closed.proofs.closed.sets.Sets.keeps_meetings.Goals as goal
use Rattle.cs_closed.proofs.closed.sets.Sets.keeps_meetings.Goals.{else-stands-via-then-stands+else-is_parted, else-stands-via-else-stands}

pub loop-place-init : goal.loop-place-init
loop-place-init c = record {
  stands = (λ e. absurd cc, λ h. absurd (first_end c.args.self.now c.args.symbols.now c.args.token h));
  kept = keeps_end c.args.self.now c.args.symbols.now c.args.token;
}

pub returns-then-is_parted : goal.returns-then-is_parted
returns-then-is_parted c = (
  λ e. absurd cc,
  λ kept. absurd (breaks c.args.self.now c.args.symbols.now c.loop-place.place (c.loop-place.place - 1) (omega arith) (omega arith) c.args.token
      (c.loop-place.invariant.stands.0 c.if-stands.true) (c.is_parted.ensures.0 c.if-is_parted.true) kept),
)

pub loop-place-preserved : goal.loop-place-preserved
loop-place-preserved c =
    let step = first_step c.args.self.now c.args.symbols.now c.loop-place.place (c.loop-place.place - 1) (omega arith) (omega arith) c.args.token in
    record {
      stands = (
        λ e. step.1 (⊎_elim (λ here. inl here) (λ later. inr (later.0, c.loop-place.invariant.stands.0 later.1)) (c.begins_or_empty-stands.ensures.0 e)),
        λ h. c.begins_or_empty-stands.ensures.1 (⊎_elim (λ here. inl here) (λ later. inr (later.0, c.loop-place.invariant.stands.1 later.1)) (step.0 h)),
      );
      kept =
          keeps_step c.args.self.now c.args.symbols.now c.loop-place.place (c.loop-place.place - 1) (omega arith) (omega arith) c.args.token
          (λ first parted. elim c.else-stands.branch [
            | else-stands-via-then-stands+else-is_parted w ↦ absurd (let yes = w.is_parted.ensures.1 parted in let other = w.if-is_parted.false in cc)
            | else-stands-via-else-stands w ↦ absurd (let yes = c.loop-place.invariant.stands.1 first in let other = w.if-stands.false in cc)
          ])
          c.loop-place.invariant.kept;
    }
