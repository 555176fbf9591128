-- The rule and its verdict are those at the place; the one is wanted and the other large.
use Rattle.std.proofs.Common.{arith, ap, length, ◌∙◌}
use Rattle.cs_manifest.specs.Manifest.Lines.{is_large}
use Rattle.cs_spell.proofs.OnTelling.Choosing.{flagged}
use Rattle.cs_spell.proofs.telling.choosing.is_large_at.Goals as goal

pub returns : goal.returns
returns c =
    flagged c.args.grammar.now c.args.judged.now c.args.wanted (λ j. is_large j.verdict) c.rules.result.now c.index-rules-place.result c.index-judged-place.result c.args.place c.is_wanted-wanted.result c.is_large-large.result c.both.result
    c.rules.ensures.rules (omega (arith, ap length c.rules.ensures.rules, c.requires.all, c.requires.place)) c.index-rules-place.is c.requires.place c.index-judged-place.is
    c.is_wanted-wanted.ensures (c.is_large-large.ensures ∙ ap is_large c.verdict.ensures) c.both.ensures
