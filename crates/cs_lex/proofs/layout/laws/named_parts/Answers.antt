-- By the count up to the next `]`.
use Rattle.cs_lex.proofs.OnLayout.NamedParts.{named_by_text}
use Rattle.cs_lex.proofs.layout.laws.named_parts.Goals as goal

pub returns : goal.returns
returns c = named_by_text
