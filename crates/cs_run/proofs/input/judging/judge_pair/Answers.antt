-- Both files are short enough and the yacc file is read, so a lex file that is refused is the first cause.
use Rattle.std.proofs.Common.{sym, subst}
use Rattle.cs_run.specs.Input.Refusal.{RefusesRead, pair_contents}
use Rattle.cs_run.proofs.OnInput.Wholes.{lex_stops}
use Rattle.cs_run.proofs.input.judging.judge_pair.Goals as goal

pub returns-in-Err : goal.returns-in-Err
returns-in-Err c = record {
  read = tt;
  tokens = tt;
  refused = subst (λ s. RefusesRead (pair_contents c.args.bytes.now c.args.more.now) s) (sym c.stop_of.ensures.stop)
      (lex_stops c.args.bytes.now c.args.more.now c.in_ok-yacc.yacc c.in_ok-check_length.ensures.short c.in_ok-check_length-2.ensures.short c.in_ok-yacc.ensures.read.1 c.in-Err.error c.in-Err.ensures.refused);
  told = c.stop_of.ensures.told;
}
