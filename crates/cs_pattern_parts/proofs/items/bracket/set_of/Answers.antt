-- The members as they are, or their complement where the bracket is inverted.
use Rattle.std.proofs.Common.{◌∙◌, ap, sym}
use Rattle.cs_pattern_parts.specs.Items.Bracket.{turned, member_bytes}
use Rattle.cs_pattern_parts.specs.Items.Views.{marks_of}
use Rattle.cs_pattern_parts.proofs.OnItems.Membership.{turned_no, turned_yes}
use Rattle.cs_pattern_parts.proofs.items.bracket.set_of.Goals as goal

pub returns-then-inverted : goal.returns-then-inverted
returns-then-inverted c =
    c.unless_empty.ensures ∙ turned_yes (marks_of c.args.marks.now) _ _ c.in_ok-set.ensures c.complement.ensures
    ∙ ap (λ v. turned v (member_bytes (marks_of c.args.marks.now))) (sym c.if-inverted.true)

pub returns-else-inverted : goal.returns-else-inverted
returns-else-inverted c =
    c.unless_empty-else-inverted.ensures ∙ turned_no (marks_of c.args.marks.now) _ c.in_ok-set.ensures
    ∙ ap (λ v. turned v (member_bytes (marks_of c.args.marks.now))) (sym c.if-inverted.false)
