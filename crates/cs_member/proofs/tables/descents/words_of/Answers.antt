-- The set has the numbers of all marks, and the words have those of the set.
use Rattle.std.proofs.Common.{ℕ, List, subst, arith}
use Rattle.std.specs.Prelude.{◌↔◌}
use Rattle.cs_member.specs.Tables.Sets.{Has, InWords}
use Rattle.cs_member.proofs.OnTables.Descending.{marked_all}
use Rattle.cs_member.proofs.tables.descents.words_of.Goals as goal

pub returns : goal.returns
returns c = λ n.
    let all = marked_all c.args.marks.now c.loop-number.number n c.loop-number.set.items (omega (arith, c.loop-number-test.false)) (c.loop-number.invariant.has n) in
    let packed = subst (λ (l : List ℕ). InWords c.in_ok-words.words.items n ↔ Has l n) c.deref.ensures.value (c.in_ok-words.ensures.has n) in
    ((λ h. all.0 (packed.0 h)), (λ h. packed.1 (all.1 h)))
