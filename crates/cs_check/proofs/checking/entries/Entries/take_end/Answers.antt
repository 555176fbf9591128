-- All goals were told, and the totals are right where each is the number that was counted.
use Rattle.std.proofs.Common.{sym, ◌∙◌}
use Rattle.std.proofs.lemmas.Bool.{both_ways, not-true, not-false}
use Rattle.cs_check.specs.Passing.Above.{goals_in}
use Rattle.cs_check.proofs.OnChecking.Counting.{equal, equal_same, same_equal, totals_right, totals_wrong}
use Rattle.cs_check.proofs.OnChecking.Quiet.{end_taken}
use Rattle.cs_check.proofs.checking.entries.Entries.take_end.Goals as goal

pub returns-then-ne : goal.returns-then-ne
returns-then-ne c = λ file lines counts t follows few told.
    let e = c.args.self.now.counts in
    let other = not-true (equal c.args.counts e) (sym c.ne.ensures ∙ c.if-ne.true) in (
      (c.are_finished.ensures file.grammar (goals_in lines) t.due).0 c.if-not-are_finished.false,
      totals_wrong lines e t.counts t.few c.args.counts counts told
          (λ same. both_ways (equal c.args.counts e) other (same_equal c.args.counts e same)),
    )

pub returns : goal.returns
returns c = λ file lines counts t follows few told.
    let e = c.args.self.now.counts in
    let same = not-false (equal c.args.counts e) (sym c.ne.ensures ∙ c.if-ne.false) in (
      (c.are_finished.ensures file.grammar (goals_in lines) t.due).0 c.if-not-are_finished.false,
      totals_right lines e t.counts t.few c.args.counts counts told (equal_same c.args.counts e same),
      end_taken file lines c.args.self.now t few counts follows,
    )
