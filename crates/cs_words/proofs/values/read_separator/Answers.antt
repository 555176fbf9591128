-- The bytes so far are spelled in front, and one more is behind them, or none is spelled there.
use Rattle.std.proofs.Common.{◌<◌, ℕ, List, length, take, drop, ap, ◌∙◌, subst, arith, length-drop}
use Rattle.std.proofs.lemmas.List.{drop_all}
use Rattle.cs_words.specs.Values.{IsSeparator, SpellsByte}
use Rattle.cs_words.proofs.Names.{none_where}
use Rattle.cs_words.proofs.Spellings.{reads_all, reads_at, reads_stuck}
use Rattle.cs_words.proofs.values.read_separator.Goals as goal

pub returns-in_err-spelled-clause-none : goal.returns-in_err-spelled-clause-none
returns-in_err-spelled-clause-none c =
    let v = c.args.value.now in
    let some : 0 < length (drop c.loop-at.at v) = omega (arith, length-drop c.loop-at.at v) in
    let none : (bytes : List ℕ) → IsSeparator v bytes → ⊥ = λ bytes is. reads_stuck v c.loop-at.separator (drop c.loop-at.at v) c.loop-at.invariant.reads bytes some (λ text behind byte split spelled. c.in_err-spelled.ensures.none text behind byte (c.from_offset.ensures ∙ split) spelled) is.0 in
    none_where _ none

pub loop-at-preserved : goal.loop-at-preserved
loop-at-preserved c =
    let v = c.args.value.now in
    let pushed = c.if-not-push.ensures.pushed in
    record {
      within = omega (arith, length-drop c.loop-at.at v, c.in_ok-spelled.ensures.within, ap length c.from_offset.ensures);
      few = c.if-not-push.ensures.few;
      reads = reads_at v c.loop-at.separator c.push.new.self c.loop-at.at c.in_ok-spelled.spelled.len c.in_ok-spelled.spelled.byte c.loop-at.invariant.reads (subst (λ xs. SpellsByte (take c.in_ok-spelled.spelled.len xs) c.in_ok-spelled.spelled.byte) c.from_offset.ensures c.in_ok-spelled.ensures.some) pushed;
    }

pub returns-clause-some : goal.returns-clause-some
returns-clause-some c = reads_all c.args.value.now c.loop-at.separator (drop c.loop-at.at c.args.value.now) c.loop-at.invariant.reads (drop_all c.loop-at.at c.args.value.now (omega arith)) c.loop-at.invariant.few
