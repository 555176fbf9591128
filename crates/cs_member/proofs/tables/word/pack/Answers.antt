-- One place more: its bits make a word, or are 0 and no number is there.
use Rattle.std.proofs.Common.{arith, subst, sym, ap, ◌∙◌, ◌+◌, ◌/◌, ◌<◌, List, get_or}
use Rattle.std.specs.Prelude.{All, ◌↔◌}
use Rattle.std.proofs.lemmas.List.Elements.{All-push}
use Rattle.cs_member.specs.declared.tables.word.Word.{Word}
use Rattle.cs_member.specs.Tables.Sets.{Has, InWords}
use Rattle.cs_member.proofs.OnTables.Bits.{packed, left_out, all_packed}
use Rattle.cs_member.proofs.tables.word.pack.Goals as goal
use Rattle.cs_member.proofs.tables.word.pack.Goals.{then-bits-ne0+in_ok-push, else-bits-ne0}

pub loop-at-preserved : goal.loop-at-preserved
loop-at-preserved c =
    let set = c.args.set.now in
    let at = c.loop-at.at in
    let words = c.loop-at.words.items in
    let inv = c.loop-at.invariant in
    elim c.if-bits-ne0.branch [
      | then-bits-ne0+in_ok-push w ↦
          let is = sym (ap (λ v. v.items) w.words-is ∙ w.in_ok-push.ensures.ok) in
          record {
            short = subst (λ (l : List Word). All (λ word. word.at < 1024) l) is (All-push (λ word. word.at < 1024) words (record { at = at; bits = get_or set at 0 }) inv.short (let lt = c.loop-at-test.true in let most = c.requires in omega arith));
            has = λ n. subst (λ (l : List Word). InWords l n ↔ ((n / 64 < at + 1) × Has set n)) is (packed set words at n (inv.has n));
          }
      | else-bits-ne0 w ↦
          let is = sym (ap (λ v. v.items) w.words-is) in
          record {
            short = subst (λ (l : List Word). All (λ word. word.at < 1024) l) is inv.short;
            has = λ n. subst (λ (l : List Word). InWords l n ↔ ((n / 64 < at + 1) × Has set n)) is (left_out set words at n w.if-bits-ne0.false (inv.has n));
          }
    ]

pub returns-clause-has : goal.returns-clause-has
returns-clause-has c = λ n. all_packed c.args.set.now c.loop-at.words.items c.loop-at.at n (omega (arith, c.loop-at-test.false)) (c.loop-at.invariant.has n)
