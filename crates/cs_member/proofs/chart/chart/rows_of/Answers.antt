-- The row of one item more is put into the bucket of what it awaits.
use Rattle.std.proofs.Common.{◌≡◌, ℕ, ◌+◌, ◌++◌, ◌∷◌, [], List, take, refl, sym, ap, ◌∙◌, subst, arith}
use Rattle.std.specs.Prelude.{◌↔◌}
use Rattle.std.proofs.lemmas.List.{take_more}
use Rattle.cs_member.specs.Chart.Buckets.{rows_in}
use Rattle.cs_member.specs.declared.chart.now.Origins.{Origins}
use Rattle.cs_member.specs.declared.chart.chart.Row.{Row}
use Rattle.cs_member.specs.Tables.Sets.{Has, InWords}
use Rattle.cs_member.specs.Chart.Chart.{AreRows}
use Rattle.cs_member.proofs.OnChart.Bucketing.{bucket_here, bucket_low, here_at, here_item, moved, rows_push, rows_none}
use Rattle.cs_member.proofs.chart.chart.rows_of.Goals as goal

pub loop-origin-init : goal.loop-origin-init
loop-origin-init c = record {
  buckets = c.in_ok-rows.ensures.buckets;
  rows = rows_none c.args.question.now.grammar.now (rows_in c.in_ok-rows.rows) (c.in_ok-rows.ensures.size ∙ ap (λ n. n + 1) c.nonterminals.ensures) c.in_ok-rows.ensures.empty;
}

pub next_of-requires : goal.next_of-requires
next_of-requires c =
    let g = c.args.question.now.grammar.now in
    here_item g c.origin-item.result.item (here_at g c.args.origins.now c.loop-origin.origin-index c.origin-item.result c.requires.here c.loop-origin-test.true c.origin-item.is)

pub add-requires-clause-number : goal.add-requires-clause-number
add-requires-clause-number c =
    let low =
    bucket_low c.args.question.now.grammar.now c.args.origins.now c.loop-origin.origin-index c.origin-item.result c.next_of.result c.awaited-bucket.result c.rules-well_formed.ensures.well_formed c.requires.here c.loop-origin-test.true c.origin-item.is
    c.next_of.ensures c.awaited-bucket.ensures in
    let size = c.loop-origin.invariant.rows.size in
    omega arith

pub loop-origin-preserved : goal.loop-origin-preserved
loop-origin-preserved c =
    let g = c.args.question.now.grammar.now in
    let origins = c.args.origins.now in
    let k = c.loop-origin.origin-index in
    let o = c.origin-item.result in
    let grammar = c.rules-well_formed.ensures.well_formed in
    let bucket = bucket_here g origins k o c.next_of.result c.awaited-bucket.result grammar c.requires.here c.loop-origin-test.true c.origin-item.is c.next_of.ensures c.awaited-bucket.ensures in
    let row : Row = record { item = o.item; words = c.in_ok-words.words } in
    let can = moved g o.item grammar (here_at g origins k o c.requires.here c.loop-origin-test.true c.origin-item.is) in
    let more : take (k + 1) origins ≡ take k origins ++ o ∷ [] = take_more origins k o c.loop-origin-test.true ∙ ap (λ (r : Origins). take k origins ++ r ∷ []) (sym c.origin-item.is) in
    let rows = subst (λ (l : List Origins). AreRows g l (rows_in c.add.new.self)) (sym more)
    (rows_push g (take k origins) o (rows_in c.loop-origin.rows) (rows_in c.add.new.self) c.awaited-bucket.result row c.loop-origin.invariant.rows c.in_ok-add.ensures.added refl
    (record { item = can.0; small = can.1; words = c.in_ok-words.ensures.short }) bucket
    (subst (λ (l : List ℕ). (j : ℕ) → InWords row.words.items j ↔ Has l j) c.deref.ensures.value c.in_ok-words.ensures.has)) in
    record { buckets = c.in_ok-add.ensures.buckets; rows = rows }
