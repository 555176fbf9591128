-- The third file is short enough, so that all three are refused for what the pair is refused for.
use Rattle.std.proofs.Common.{◌≤◌, ℕ, List, length, subst}
use Rattle.cs_run.specs.Input.Files.{most_for}
use Rattle.cs_run.proofs.OnInput.Wholes.{text_refused}
use Rattle.cs_run.proofs.input.judging.judge_text.Goals as goal

pub returns-in-Err-clause-refused : goal.returns-in-Err-clause-refused
returns-in-Err-clause-refused c =
    text_refused c.args.role c.args.bytes.now c.args.more.now c.args.text.items c.in-Err.stop (subst (λ (b : List ℕ). length b ≤ most_for c.args.role) c.deref.ensures.value c.in_ok-check_length-3.ensures.short) c.in-Err.ensures.refused
