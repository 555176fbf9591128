-- One name more is put with its number, in the table of its kind.
use Rattle.std.proofs.Common.{◌≡◌, ℕ, List, length, refl, subst, arith}
use Rattle.std.proofs.lemmas.Option.{slice_get_read}
use Rattle.cs_yacc.specs.declared.reading.name.TokenName.{TokenName}
use Rattle.cs_yacc.specs.declared.reading.name.TokenName.TheVariants.{Word, Byte}
use Rattle.cs_yacc.specs.Reading.TokenNumbers.{number_at_word, number_at_byte, FindsWords, FindsBytes, PutsWord, PutsByte}
use Rattle.cs_yacc.proofs.OnReading.TokenTables.{finds_more}
use Rattle.cs_yacc.proofs.reading.token_names.TokenNames.new.Goals as goal

pub loop-index-preserved : goal.loop-index-preserved
loop-index-preserved c =
    let names = c.deref-name-items.result.now in
    let name = c.name-item.result in
    let at = slice_get_read names _ c.loop-index.index name refl c.loop-index-test.true c.name-item.is in (
      finds_more Word names (number_at_word c.loop-index.words.entries) (number_at_word c.put.new.words.entries) c.loop-index.index name at
          (subst (λ n. PutsWord c.put.new.words.entries c.loop-index.words.entries name n) c.number_of.ensures c.in_ok-put.ensures.words) c.loop-index.invariant.0,
      finds_more Byte names (number_at_byte c.loop-index.literals.entries) (number_at_byte c.put.new.literals.entries) c.loop-index.index name at
          (subst (λ n. PutsByte c.put.new.literals.entries c.loop-index.literals.entries name n) c.number_of.ensures c.in_ok-put.ensures.bytes) c.loop-index.invariant.1,
    )

pub invariant_of-result : goal.invariant_of-result
invariant_of-result c =
    let is : c.loop-index.index ≡ length c.deref-name-items.result.now = omega (arith, c.loop-index.auto.index-end, c.loop-index-test.false) in
    subst (λ (ns : List TokenName). FindsWords c.loop-index.words.entries (length ns) ns × FindsBytes c.loop-index.literals.entries (length ns) ns) c.deref-name-items.ensures.value
    (subst (λ (n : ℕ). FindsWords c.loop-index.words.entries n c.deref-name-items.result.now × FindsBytes c.loop-index.literals.entries n c.deref-name-items.result.now) is c.loop-index.invariant)
