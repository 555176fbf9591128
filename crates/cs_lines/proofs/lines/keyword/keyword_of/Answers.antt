-- The word is compared with each of the twelve, and is none of them where none is the same.
use Rattle.std.proofs.Common.{refl}
use Rattle.std.proofs.lemmas.Bool.{false≢true}
use Rattle.cs_lines.specs.declared.lines.keyword.Keyword.TheVariants as first
use Rattle.cs_lines.proofs.lines.keyword.keyword_of.Goals as goal

pub returns-then-same_word : goal.returns-then-same_word
returns-then-same_word c = ((c.if-same_word.ensures).0 refl)

pub returns-then-same_word-2 : goal.returns-then-same_word-2
returns-then-same_word-2 c = ((c.if-same_word-2.ensures).0 refl)

pub returns-then-same_word-3 : goal.returns-then-same_word-3
returns-then-same_word-3 c = ((c.if-same_word-3.ensures).0 refl)

pub returns-then-same_word-4 : goal.returns-then-same_word-4
returns-then-same_word-4 c = ((c.if-same_word-4.ensures).0 refl)

pub returns-then-same_word-5 : goal.returns-then-same_word-5
returns-then-same_word-5 c = ((c.if-same_word-5.ensures).0 refl)

pub returns-then-same_word-6 : goal.returns-then-same_word-6
returns-then-same_word-6 c = ((c.if-same_word-6.ensures).0 refl)

pub returns-then-same_word-7 : goal.returns-then-same_word-7
returns-then-same_word-7 c = ((c.if-same_word-7.ensures).0 refl)

pub returns-then-same_word-8 : goal.returns-then-same_word-8
returns-then-same_word-8 c = ((c.if-same_word-8.ensures).0 refl)

pub returns-then-same_word-9 : goal.returns-then-same_word-9
returns-then-same_word-9 c = ((c.if-same_word-9.ensures).0 refl)

pub returns-then-same_word-10 : goal.returns-then-same_word-10
returns-then-same_word-10 c = ((c.if-same_word-10.ensures).0 refl)

pub returns-then-same_word-11 : goal.returns-then-same_word-11
returns-then-same_word-11 c = ((c.if-same_word-11.ensures).0 refl)

pub returns-then-same_word-12 : goal.returns-then-same_word-12
returns-then-same_word-12 c = ((c.if-same_word-12.ensures).0 refl)

pub returns-else-same_word-12 : goal.returns-else-same_word-12
returns-else-same_word-12 c first.Nothing e = false≢true ((c.if-same_word.ensures).1 e)
returns-else-same_word-12 c first.Negative e = false≢true ((c.if-same_word-2.ensures).1 e)
returns-else-same_word-12 c first.Goal e = false≢true ((c.if-same_word-3.ensures).1 e)
returns-else-same_word-12 c first.Case e = false≢true ((c.if-same_word-4.ensures).1 e)
returns-else-same_word-12 c first.Base e = false≢true ((c.if-same_word-5.ensures).1 e)
returns-else-same_word-12 c first.End e = false≢true ((c.if-same_word-6.ensures).1 e)
returns-else-same_word-12 c first.Closed e = false≢true ((c.if-same_word-7.ensures).1 e)
returns-else-same_word-12 c first.Lexeme e = false≢true ((c.if-same_word-8.ensures).1 e)
returns-else-same_word-12 c first.Rule e = false≢true ((c.if-same_word-9.ensures).1 e)
returns-else-same_word-12 c first.Token e = false≢true ((c.if-same_word-10.ensures).1 e)
returns-else-same_word-12 c first.Weigh e = false≢true ((c.if-same_word-11.ensures).1 e)
returns-else-same_word-12 c first.Conform e = false≢true ((c.if-same_word-12.ensures).1 e)
