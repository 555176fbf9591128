-- Closed or not, a quoted text or bracket takes one byte at least, and none behind the text.
use Rattle.cs_lex.proofs.OnLayout.Pieces.{line_within}
use Rattle.cs_lex.proofs.layout.pattern.unit_size.Goals as goal

pub returns-in-Quoted-clause-within : goal.returns-in-Quoted-clause-within
returns-in-Quoted-clause-within c = line_within c.args.text.now c.quoted_size.result c.closed_or_line.result c.closed_or_line.ensures c.requires c.quoted_size.ensures.within

pub returns-in-Bracket-clause-within : goal.returns-in-Bracket-clause-within
returns-in-Bracket-clause-within c = line_within c.args.text.now c.bracket_size.result c.closed_or_line-in-Bracket.result c.closed_or_line-in-Bracket.ensures c.requires c.bracket_size.ensures.within
