-- The tokens that were found are those inside the core, and with its parts they make its lines.
use Rattle.std.proofs.Common.{ℕ, Option, subst}
use Rattle.std.specs.Prelude.{IfSome}
use Rattle.std.specs.Global.{Vec}
use Rattle.cs_chain_text.specs.Rows.Rows.{AreInside}
use Rattle.cs_chain_text.proofs.OnRows.Parts.{core_lines, found_as}
use Rattle.cs_chain_text.proofs.rows.cores.core_lines.Goals as goal

pub returns : goal.returns
returns c =
    let v = c.args.costs.now in
    let core = c.in_ok-core.core in
    let left = c.left-left.result in
    let are = subst (λ (o : Option (Vec ℕ)). IfSome o (λ ts. AreInside v.grammar left core ts.items)) c.in-Some.is c.in_ok-tokens.ensures in
    found_as _ _ (core_lines c.args.file.now v c.args.rule left core c.in-Some.tokens.items c.in_ok-core.ensures.core c.in_ok-core.ensures.capped are) c.with_parts.result c.with_parts.ensures
