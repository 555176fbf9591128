-- The lines that are pushed stand last, and their place is noted at the rule.
use Rattle.cs_chain_text.proofs.OnRows.Parts.{cores_more}
use Rattle.cs_chain_text.proofs.rows.cores.Cores.keep.Goals as goal

pub invariant_of-self-in-Some : goal.invariant_of-self-in-Some
invariant_of-self-in-Some c =
    let s = c.self.inside in
    cores_more s.file.now s.costs.now s.lines.items c.push.new.self.items _ c.in-Some.lines c.self.invariant c.in_ok-lines.ensures c.in-Some.is c.in_ok-push.ensures.items
