-- The last needed comes first, so what a definition puts in is known before it, and its tree isn't deep.
use Rattle.std.proofs.Common.{suc, ◌≡◌, ◌-◌, subst, arith}
use Rattle.cs_pattern.proofs.OnText.Knowing.{AreKnownFrom, known_none, known_step, shallow_next}
use Rattle.cs_pattern.proofs.text.needed.known.Goals as goal

pub loop-end-init : goal.loop-end-init
loop-end-init c = (omega arith, λ ds order a. known_none ds c.args.needed.now c.new-known.result.entries)

pub know-requires : goal.know-requires
know-requires c =
    let order = c.requires.order.0 in
    let a = c.requires.order.1 in
    let e : c.loop-end.end ≡ suc (c.loop-end.end - 1) = (let t = c.loop-end-test.true in omega arith) in
    let within = c.loop-end.invariant.0 in
    shallow_next a.0 c.args.bodies.now order c.args.needed.now c.loop-end.known.entries (c.loop-end.end - 1) a.1 c.requires.needed (let t = c.loop-end-test.true in omega arith)
    (subst (λ n. AreKnownFrom a.0 c.args.needed.now c.loop-end.known.entries n) e (c.loop-end.invariant.1 a.0 order a.1))

pub loop-end-preserved : goal.loop-end-preserved
loop-end-preserved c =
    let h = c.in_ok-know.ensures in
    let e : c.loop-end.end ≡ suc (c.loop-end.end - 1) = (let t = c.loop-end-test.true in omega arith) in
    let within = c.loop-end.invariant.0 in (
      omega arith,
      λ ds order a. known_step ds c.args.bodies.now order c.args.needed.now c.loop-end.known.entries _ (c.loop-end.end - 1) a c.requires.needed (let t = c.loop-end-test.true in omega arith) h.this h.others
          (subst (λ n. AreKnownFrom ds c.args.needed.now c.loop-end.known.entries n) e (c.loop-end.invariant.1 ds order a)),
    )

pub returns : goal.returns
returns c = λ ds order a.
    let e : c.loop-end.end ≡ 0 = omega arith in
    subst (λ n. AreKnownFrom ds c.args.needed.now c.loop-end.known.entries n) e (c.loop-end.invariant.1 ds order a)
