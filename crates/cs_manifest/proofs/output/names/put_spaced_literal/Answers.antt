-- The space and a plain byte between quotes are one text; the space and another byte are two.
use Rattle.std.proofs.Common.{◌∷◌, ◌∙◌, List, ap, sym, ℕ}
use Rattle.cs_manifest.proofs.OnOutput.Pieces.{spelled, then}
use Rattle.cs_manifest.proofs.OnOutput.Runs.{plain_literal}
use Rattle.cs_manifest.proofs.output.names.put_spaced_literal.Goals as goal

pub returns-then-is_plain_literal : goal.returns-then-is_plain_literal
returns-then-is_plain_literal g c =
    spelled _ (ap (λ (t : List ℕ). 32 ∷ t) (plain_literal c.args.byte (sym c.is_plain_literal.ensures ∙ c.if-is_plain_literal.true))) c.put.ensures

pub returns-else-is_plain_literal : goal.returns-else-is_plain_literal
returns-else-is_plain_literal g c = then c.put-else-is_plain_literal.ensures c.put_literal.ensures
