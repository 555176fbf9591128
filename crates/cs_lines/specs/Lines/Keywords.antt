-- The word with which a line begins.
use Rattle.std.specs.Prelude.{ℕ, List, [], codes}
use Rattle.cs_lines.specs.declared.lines.keyword.Keyword.{Keyword}
use Rattle.cs_lines.specs.declared.lines.keyword.Keyword.TheVariants.{Nothing, Negative, Goal, Case, Base, End, Closed, Lexeme, Rule, Token, Weigh, Conform}

abbrev pub keyword : Keyword → List ℕ
keyword Nothing = []
keyword Negative = codes "negative"
keyword Goal = codes "goal"
keyword Case = codes "case"
keyword Base = codes "base"
keyword End = codes "end"
keyword Closed = codes "closed"
keyword Lexeme = codes "lexeme"
keyword Rule = codes "rule"
keyword Token = codes "token"
keyword Weigh = codes "weigh"
keyword Conform = codes "conform"
