-- The nonterminal stays marked, and with each that is marked those that its rules begin with.
use Rattle.std.proofs.Common.{ℕ, List, Bool, subst}
use Rattle.std.specs.Prelude.{◌↔◌}
use Rattle.cs_member.specs.Tables.Sets.{InWords}
use Rattle.cs_member.specs.Tables.Expecting.{IsMarked}
use Rattle.cs_member.proofs.OnTables.Descending.{descent}
use Rattle.cs_member.proofs.tables.descents.descent_of.Goals as goal

pub returns : goal.returns
returns c =
    let words = c.in_ok-words.words.items in
    descent c.args.corners.now c.args.nonterminal c.expect_corners.new.expected.items words
    (subst (λ (l : List Bool). (n : ℕ) → InWords words n ↔ IsMarked l n) c.deref.ensures.value c.in_ok-words.ensures)
    (c.in_ok-expect_corners.ensures.marks.stays c.args.nonterminal c.in_ok-expect.ensures.is_marked)
    c.in_ok-expect_corners.ensures.closed
