-- The item of one front more is put where its left side is expected, and otherwise nothing.
use Rattle.std.proofs.Common.{[], ◌+◌, ◌<◌, take, length, List, ◌∷◌, refl, sym, ap, ◌∙◌, subst, arith}
use Rattle.std.proofs.lemmas.List.{take_all}
use Rattle.std.proofs.lemmas.Bool.{false≢true}
use Rattle.std.proofs.lemmas.List.Elements.{All-push, All-nil}
use Rattle.cs_member.specs.declared.tables.fronts.Front.{Front}
use Rattle.cs_member.specs.declared.tables.word.Word.{Word}
use Rattle.cs_member.specs.Chart.Now.{IsNow, ArePut}
use Rattle.cs_member.specs.Tables.Sets.{InWords}
use Rattle.cs_member.specs.Chart.Chart.{OfFronts}
use Rattle.cs_member.proofs.OnChart.Puts.{puts_none, fronts_put, fronts_skipped, only_from}
use Rattle.cs_member.proofs.chart.chart.put_fronts.Goals as goal
use Rattle.cs_member.proofs.chart.chart.put_fronts.Goals.{then-stands+in_ok-put, else-stands}

pub put-requires-clause-words : goal.put-requires-clause-words
put-requires-clause-words c = All-push (λ (w : Word). w.at < 1024) [] c.word_of.result (All-nil (λ (w : Word). w.at < 1024)) c.word_of.ensures.small

pub loop-front-init : goal.loop-front-init
loop-front-init c = record {
  now = c.requires.now;
  guesses = c.requires.guesses;
  put = puts_none c.args.question.now.grammar.now c.args.way.ahead c.args.way.cause (OfFronts c.args.begun.now.expected.now (take 0 c.args.begun.now.fronts.now) c.args.begun.now.from) c.args.now.now (λ x j h. let lt = h.1.1 in absurd (omega arith));
}

pub loop-front-preserved : goal.loop-front-preserved
loop-front-preserved c =
    let g = c.args.question.now.grammar.now in
    let expected = c.args.begun.now.expected.now in
    let fronts = c.args.begun.now.fronts.now in
    let from = c.args.begun.now.from in
    let k = c.loop-front.front-index in
    elim c.if-stands.branch [
      | then-stands+in_ok-put w ↦ record {
        now = subst (λ n. IsNow g n) (sym w.now-is) w.in_ok-put.ensures.now;
        guesses = ap (λ l. length l) w.guesses-is ∙ w.in_ok-put.ensures.guesses;
        put = subst (λ n. ArePut g c.args.way.ahead c.args.way.cause (OfFronts expected (take (k + 1) fronts) from) c.args.now.now n) (sym w.now-is)
            (fronts_put g c.args.way.ahead c.args.way.cause expected fronts from k _ c.args.now.now c.loop-front.now w.put.new.now (InWords (c.word_of.result ∷ [])) c.loop-front-test.true
            (λ j h. (only_from c.word_of.result from c.word_of.ensures.has j).0 h) (λ j e. (only_from c.word_of.result from c.word_of.ensures.has j).1 e)
            (w.if-stands.ensures.0 refl) c.loop-front.invariant.put w.in_ok-put.ensures.put);
      }
      | else-stands w ↦ record {
        now = subst (λ n. IsNow g n) (sym w.now-is) c.loop-front.invariant.now;
        guesses = ap (λ l. length l) w.guesses-is ∙ c.loop-front.invariant.guesses;
        put = subst (λ n. ArePut g c.args.way.ahead c.args.way.cause (OfFronts expected (take (k + 1) fronts) from) c.args.now.now n) (sym w.now-is)
            (fronts_skipped g c.args.way.ahead c.args.way.cause expected fronts from k (record { left = 0; item = record { rule = 0; place = 0 } }) c.args.now.now c.loop-front.now c.loop-front-test.true
            (λ e. false≢true (w.if-stands.ensures.1 e)) c.loop-front.invariant.put);
      }
    ]

pub returns-clause-put : goal.returns-clause-put
returns-clause-put c =
    subst (λ (l : List Front). ArePut c.args.question.now.grammar.now c.args.way.ahead c.args.way.cause (OfFronts c.args.begun.now.expected.now l c.args.begun.now.from) c.args.now.now c.loop-front.now) (take_all c.loop-front.front-index c.args.begun.now.fronts.now c.loop-front-test.false) c.loop-front.invariant.put
