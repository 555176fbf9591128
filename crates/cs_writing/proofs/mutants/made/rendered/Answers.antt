-- The number is the numeral's, the base the maker's, and the text the parts around the middle.
use Rattle.std.proofs.Common.{ap}
use Rattle.cs_writing.specs.Mutants.Makers.{Making}
use Rattle.cs_writing.proofs.OnMutants.Entries.{rendered_entry}
use Rattle.cs_writing.proofs.mutants.made.rendered.Goals as goal

pub returns : goal.returns
returns c =
    rendered_entry c.args.maker.now c.args.rendering.now c.number.result c.args.number.now c.maker.inside.number c.args.tokens c.args.middle.now c.parts.result
    c.number.ensures (ap (λ (k : Making). k.number) c.maker.view_is) c.parts.ensures c.requires
