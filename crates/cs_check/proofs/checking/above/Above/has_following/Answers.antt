-- A line may follow where its part may come and its running number is the next one.
use Rattle.std.proofs.Common.{sym, ◌∙◌}
use Rattle.std.proofs.lemmas.Bool.{false≢true}
use Rattle.cs_check.proofs.OnChecking.Placing.{follows_by}
use Rattle.cs_check.proofs.checking.above.Above.has_following.Goals as goal

pub returns-then-not-may_follow : goal.returns-then-not-may_follow
returns-then-not-may_follow c = λ file above l k tells.
    let told = follows_by file above c.args.self.now k l c.part_of.result (c.part_of.ensures l tells) c.may_follow.result c.may_follow.ensures in (
      λ e. absurd (false≢true e),
      λ h. absurd (false≢true (sym c.if-not-may_follow.true ∙ told.1 h.0)),
    )

pub returns : goal.returns
returns c = λ file above l k tells.
    let told = follows_by file above c.args.self.now k l c.part_of.result (c.part_of.ensures l tells) c.may_follow.result c.may_follow.ensures in
    let numbered = c.is_numbered.ensures file above l k.entries tells in (
      λ e. (told.0 c.if-not-may_follow.false, numbered.0 e),
      λ h. numbered.1 h.1,
    )
