-- One word more: a number was in the set, or is in one of the words so far.
use Rattle.std.proofs.Common.{subst, ◌⊎◌, List}
use Rattle.std.specs.Prelude.{◌↔◌}
use Rattle.std.proofs.lemmas.List.{take_all}
use Rattle.cs_member.specs.declared.tables.word.Word.{Word}
use Rattle.cs_member.specs.Tables.Sets.{Has, InWords}
use Rattle.cs_member.proofs.OnTables.Bits.{joins}
use Rattle.cs_member.proofs.tables.word.add_all.Goals as goal

pub loop-word-preserved : goal.loop-word-preserved
loop-word-preserved c = record {
  short = λ all h. c.in_ok-add.ensures.short (all c.loop-word.word-index _ c.loop-word-test.true) (c.loop-word.invariant.short all h);
  has = λ n. joins (Has c.args.set.now.items n) (Has c.loop-word.set.items n) (Has c.add.new.set.items n) c.args.words.now c.loop-word.word-index _ n c.loop-word-test.true (c.loop-word.invariant.has n) (c.in_ok-add.ensures.has n);
}

pub returns-clause-has : goal.returns-clause-has
returns-clause-has c = λ n.
    subst (λ (l : List Word). Has c.loop-word.set.items n ↔ (Has c.args.set.now.items n ⊎ InWords l n)) (take_all c.loop-word.word-index c.args.words.now c.loop-word-test.false) (c.loop-word.invariant.has n)
