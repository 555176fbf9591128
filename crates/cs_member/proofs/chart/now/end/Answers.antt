-- The spans of one word more are added to those before.
use Rattle.std.proofs.Common.{take, refl, ◌∙◌, subst, arith, List}
use Rattle.std.proofs.lemmas.List.{take_all}
use Rattle.cs_member.specs.declared.tables.word.Word.{Word}
use Rattle.cs_member.specs.Tables.Sets.{InWords}
use Rattle.cs_member.specs.Chart.Now.{Ends}
use Rattle.cs_member.proofs.OnChart.Rows.{ends_none}
use Rattle.cs_member.proofs.OnChart.Ending.{ends_words}
use Rattle.cs_member.proofs.chart.now.end.Goals as goal

pub loop-word-init : goal.loop-word-init
loop-word-init c = record {
  now = c.requires.now;
  origins = refl;
  ends = ends_none c.args.left c.args.cause (InWords (take 0 c.args.words.now)) c.args.now.now.spans.items (λ j h. let lt = h.1.1 in absurd (omega arith));
}

pub loop-word-preserved : goal.loop-word-preserved
loop-word-preserved c = record {
  now = c.in_ok-end_word.ensures.now;
  origins = c.in_ok-end_word.ensures.origins ∙ c.loop-word.invariant.origins;
  ends = ends_words c.args.left c.args.cause c.args.words.now c.loop-word.word-index _ c.args.now.now.spans.items c.loop-word.now.spans.items c.end_word.new.now.spans.items c.loop-word-test.true c.loop-word.invariant.ends c.in_ok-end_word.ensures.ends;
}

pub returns-clause-ends : goal.returns-clause-ends
returns-clause-ends c =
    subst (λ (l : List Word). Ends c.args.left c.args.cause (InWords l) c.args.now.now.spans.items c.loop-word.now.spans.items) (take_all c.loop-word.word-index c.args.words.now c.loop-word-test.false) c.loop-word.invariant.ends
