-- One token more is kept, up to the last, and nonterminals are kept too.
use Rattle.std.proofs.Common.{ℕ, ◌<◌, ◌≤◌, ◌≡◌, ◌+◌, refl, subst, ⊎_elim, arith}
use Rattle.std.proofs.lemmas.Bool.{cases_lt}
use Rattle.cs_closed.specs.Closed.Keeping.{KeepsTokenIn}
use Rattle.cs_closed.proofs.OnClosed.Closes.{closed_from}
use Rattle.cs_closed.proofs.closed.sets.Sets.are_closed.Goals as goal

pub loop-place-preserved : goal.loop-place-preserved
loop-place-preserved c t low high =
    ⊎_elim
    (λ (before : t < c.loop-place.place + 1). c.loop-place.invariant t low (omega arith))
    (λ (past : c.loop-place.place + 1 ≤ t).
    let same : c.loop-place.place + 1 ≡ t = omega arith in
    subst (λ (n : ℕ). KeepsTokenIn c.args.self.now c.args.grammar.now.rules c.args.grammar.now.start n) same (c.keeps_token_in.ensures.0 c.if-not-keeps_token_in.false))
    (cases_lt t (c.loop-place.place + 1))

pub returns : goal.returns
returns c = (
  λ e. closed_from c.args.grammar.now c.args.self.now c.requires c.rules-well_formed.ensures.well_formed (c.keeps_nonterminals_in.ensures.0 c.if-not-keeps_nonterminals_in.false)
      (λ t is. c.loop-place.invariant t is.0 (let le = is.1 in omega arith)),
  λ h. refl,
)
