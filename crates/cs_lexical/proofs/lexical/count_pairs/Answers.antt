-- One row more adds what has a text in it and what has none.
use Rattle.std.proofs.Common.{◌≤◌, [], List, ℕ, Vec, Global, ap, arith, length}
use Rattle.std.specs.Prelude.{count_by, is_none, is_some, slice_index_or}
use Rattle.std.proofs.lemmas.List.{length-map}
use Rattle.std.proofs.lemmas.Option.{slice_get-get_or}
use Rattle.cs_scanner.specs.Lexeme.Texts.{texts_of}
use Rattle.cs_lexical.specs.Least.{lists, named}
use Rattle.cs_lexical.proofs.Counting.{sum_more}
use Rattle.cs_lexical.proofs.Rows.{items_at}
use Rattle.cs_lexical.proofs.lexical.count_pairs.Goals as goal

pub loop-row-preserved : goal.loop-row-preserved
loop-row-preserved c =
    let inv = c.loop-row.invariant in
    let texts = texts_of c.args.texts.now in
    let rows = c.args.rows.now in
    let i = c.loop-row.row-index in
    let row = c.row-item.result in
    let less = c.loop-row-test.true in
    let e = c.count_texts-both.ensures in
    let value = c.deref.ensures.value in
    let both = sum_more (count_by is_some) texts rows i row less c.row-item.is in
    let apart = sum_more (count_by is_none) texts rows i row less c.row-item.is in
    let many = ap (λ (l : List ℕ). count_by is_some (named texts l)) value in
    let few = ap (λ (l : List ℕ). count_by is_none (named texts l)) value in
    let at = items_at rows i row less c.row-item.is in
    let long = c.requires.rows.behind i (slice_index_or (lists rows) i []) (slice_get-get_or (lists rows) i [] (omega (arith, less, length-map rows (λ (v : Vec ℕ Global). v.items)))) in
    let short : length c.deref.result.now ≤ 2048 = omega (arith, c.requires.few, long, ap (λ (l : List ℕ). length l) at, ap (λ (l : List ℕ). length l) value) in
    record {
      overlaps = omega (arith, inv.overlaps, both, e.texts, many);
      disjoint = omega (arith, inv.disjoint, apart, e.none, few);
      few = omega (arith, inv.few, e.all, short);
      few_apart = omega (arith, inv.few_apart, e.all, short);
    }
