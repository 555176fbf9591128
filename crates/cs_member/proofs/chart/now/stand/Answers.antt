-- The item is found or entered, and the words are put into its origins.
use Rattle.cs_member.specs.Tables.Sets.{InWords}
use Rattle.cs_member.proofs.OnChart.Rows.{stands_added, stood_added}
use Rattle.cs_member.proofs.chart.now.stand.Goals as goal

pub returns-clause-stood : goal.returns-clause-stood
returns-clause-stood c =
    let there = c.in_ok-found.ensures.there in
    stood_added c.args.item there.0.item (InWords c.args.words.now) c.args.origins.now.items c.find.new.origins.items c.stand_at.new.origins.items
    (stands_added c.args.origins.now.items c.find.new.origins.items c.in_ok-found.ensures.added)
    there.2 (c.in_ok-stand_at.ensures.stood there.0 there.1)

pub returns-clause-items : goal.returns-clause-items
returns-clause-items c = λ g holds all. c.in_ok-stand_at.ensures.items g (c.in_ok-found.ensures.items g holds all)
