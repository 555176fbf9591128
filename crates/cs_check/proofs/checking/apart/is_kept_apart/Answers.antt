-- The marks stand at the place and the next one, have these names, and their pair is excluded or isn't.
use Rattle.std.proofs.Common.{◌+◌, sym, ◌∙◌, arith}
use Rattle.cs_grammar.specs.Sentence.{framed}
use Rattle.cs_lines.specs.Lines.Numbers.{IsRead}
use Rattle.cs_check.proofs.OnChecking.Apart.{apart_is}
use Rattle.cs_check.proofs.checking.apart.is_kept_apart.Goals as goal

pub returns : goal.returns
returns c = λ lines n told read.
    let marks = framed c.args.tokens.now in
    let next : IsRead (n + 1) c.saturating_add.result = omega arith in
    apart_is c.args.file.now lines marks n c.args.left.now c.args.right.now
    c.in-Some.first (sym (c.framed_at.ensures n read) ∙ c.in-Some.is)
    c.in-Some-framed_at.second (sym (c.framed_at-2.ensures (n + 1) next) ∙ c.in-Some-framed_at.is)
    (c.is_mark.ensures.0 c.if-not-is_mark.false) (c.is_mark-else-not-is_mark.ensures.0 c.if-not-is_mark-2.false)
    c.exclude.result (c.exclude.ensures lines told)
