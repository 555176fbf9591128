-- One item more may open a body; the places behind it are those of the items behind it.
use Rattle.std.proofs.Common.{◌+◌, ◌≤◌, length, arith}
use Rattle.cs_yacc.specs.Reading.Meaning.{error_spelling}
use Rattle.cs_yacc.proofs.OnReading.Numbers.{place_within}
use Rattle.cs_yacc.proofs.OnReading.Places.{places_long, places_rest}
use Rattle.cs_yacc.proofs.OnReading.RuleLoop.{rules_more, rules_end}
use Rattle.cs_yacc.proofs.reading.spelled.kept_rules.Goals as goal

pub overflow_cast-error : goal.overflow_cast-error
overflow_cast-error c = omega (arith, c.find-error.ensures, place_within c.args.words.now error_spelling, c.requires.few)

pub loop-index-preserved : goal.loop-index-preserved
loop-index-preserved c =
    let at = places_rest c.args.words.now c.args.items.now c.behind-after.result.now c.args.places.now (c.loop-index.index + 1) c.requires.places c.behind-after.ensures in
    let one = c.in_ok-push_rule.ensures c.args.words.now c.requires.apart c.find-error.ensures at in (
      rules_more c.args.items.now _ c.loop-index.index _ _ _ _ _ _ c.loop-index.invariant.0 c.loop-index-test.true c.behind-after.ensures c.left_behind-left.ensures one.0,
      one.1 c.loop-index.invariant.1,
    )

pub returns-clause-rules : goal.returns-clause-rules
returns-clause-rules c = rules_end c.args.items.now _ c.loop-index.index _ _ c.loop-index.invariant.0 c.loop-index-test.false

pub slice_bounds-rest-count : goal.slice_bounds-rest-count
slice_bounds-rest-count c = omega (arith, places_long c.args.words.now c.args.items.now c.args.places.now c.requires.places, c.loop-index-test.true)

pub slice_bounds-rest-start : goal.slice_bounds-rest-start
slice_bounds-rest-start c =
    let within : c.loop-index.index + 1 ≤ length c.args.places.now = omega (arith, places_long c.args.words.now c.args.items.now c.args.places.now c.requires.places, c.loop-index-test.true) in
    within

pub push_rule-requires : goal.push_rule-requires
push_rule-requires c =
    places_long c.args.words.now c.behind-after.result.now _ (places_rest c.args.words.now c.args.items.now c.behind-after.result.now c.args.places.now (c.loop-index.index + 1) c.requires.places c.behind-after.ensures)
