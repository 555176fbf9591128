-- An entry stands at the position of its definition, as both have one name.
use Rattle.std.proofs.Common.{◌∙◌, sym}
use Rattle.std.specs.Str.{bytes_eq}
use Rattle.cs_pattern.specs.Operations.Definitions.{definition_of}
use Rattle.cs_pattern.proofs.OnOperations.Named.{position-map}
use Rattle.cs_pattern.proofs.operations.names.index_of.Goals as goal

pub returns : goal.returns
returns c = c.get_index_of.ensures.index ∙ position-map _ (λ e. e.0) c.args.texts.now.entries ∙ sym (position-map (λ d. bytes_eq c.args.name.now d.name) definition_of c.args.texts.now.entries)
