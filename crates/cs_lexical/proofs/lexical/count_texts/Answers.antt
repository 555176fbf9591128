-- Each number has a text and is counted, or has none and is of the rest.
use Rattle.std.proofs.Common.{◌≡◌, ◌∙◌, List, ℕ, None, ap, sym, arith, cond, Bool}
use Rattle.std.specs.Prelude.{count_by, is_some, slice_index, slice_index_or}
use Rattle.std.proofs.lemmas.List.{length-map, take_all}
use Rattle.cs_scanner.specs.Lexeme.Texts.{texts_of}
use Rattle.cs_lexical.specs.Least.{named}
use Rattle.cs_lexical.proofs.Counting.{both_counts, count_more, some_mapped}
use Rattle.cs_lexical.proofs.lexical.count_texts.Goals as goal
use Rattle.cs_lexical.proofs.lexical.count_texts.Goals.{then-is_some, else-is_some}

abbrev one_if : Bool → ℕ
one_if b = cond b 1 0

pub loop-number-preserved : goal.loop-number-preserved
loop-number-preserved c =
    let texts = texts_of c.args.texts.now in
    let i = c.loop-number.number-index in
    let entry = slice_index_or texts (slice_index c.args.numbers.now i) None in
    let more = count_more texts c.args.numbers.now i c.loop-number-test.true in
    let inv = c.loop-number.invariant in
    let said : is_some entry ≡ c.is_some.result = sym (ap is_some c.text_with.ensures) ∙ some_mapped (λ text. text.now) c.text_with.result ∙ sym c.is_some.ensures in
    elim c.if-is_some.branch [
      | then-is_some w ↦
          let one : ◌≡◌ {A = ℕ} (one_if (is_some entry)) 1 = ap (λ (b : Bool). one_if b) (said ∙ w.if-is_some.true) in
          rw w.count-is (record { counted = omega (arith, inv.counted, more, one); within = omega (arith, inv.within) })
      | else-is_some w ↦
          let none : ◌≡◌ {A = ℕ} (one_if (is_some entry)) 0 = ap (λ (b : Bool). one_if b) (said ∙ w.if-is_some.false) in
          rw w.count-is (record { counted = omega (arith, inv.counted, more, none); within = omega (arith, inv.within) })
    ]

pub returns : goal.returns
returns c =
    let texts = texts_of c.args.texts.now in
    let numbers = c.args.numbers.now in
    let inv = c.loop-number.invariant in
    let counted : c.loop-number.count ≡ count_by is_some (named texts numbers) =
    inv.counted ∙ ap (λ (l : List ℕ). count_by is_some (named texts l)) (take_all c.loop-number.number-index numbers c.loop-number-test.false) in
    let both = both_counts (named texts numbers) in
    let long = length-map numbers (λ n. slice_index_or texts n None) in
    record { texts = counted; none = omega (arith, counted, both, long); all = omega (arith, counted, both, long) }
