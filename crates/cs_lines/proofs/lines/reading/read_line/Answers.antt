-- The first word is one of twelve, or no line begins with it, and its reader answers for the words behind.
use Rattle.std.proofs.Common.{ap, ◌∙◌}
use Rattle.cs_lines.proofs.OnLines.First.{no_keyword, answered}
use Rattle.cs_lines.specs.Lines.Keywords.{keyword}
use Rattle.cs_lines.proofs.lines.reading.read_line.Goals as goal

pub returns-in_err-keyword_of : goal.returns-in_err-keyword_of
returns-in_err-keyword_of c =
    rw c.from_residual.ensures (no_keyword c.args.text.now _ _ c.first_word-first.ensures (c.in_err-keyword_of.ensures))

pub returns-in-Nothing : goal.returns-in-Nothing
returns-in-Nothing c =
    let same = c.in_ok-keyword_of.ensures ∙ ap keyword c.in-Nothing.is in
    answered c.args.text.now _ _ _ c.read_indented.result c.first_word-first.ensures same c.read_indented.ensures

pub returns-in-Negative : goal.returns-in-Negative
returns-in-Negative c =
    let same = c.in_ok-keyword_of.ensures ∙ ap keyword c.in-Negative.is in
    answered c.args.text.now _ _ _ c.read_negative.result c.first_word-first.ensures same c.read_negative.ensures

pub returns-in-Goal : goal.returns-in-Goal
returns-in-Goal c =
    let same = c.in_ok-keyword_of.ensures ∙ ap keyword c.in-Goal.is in
    answered c.args.text.now _ _ _ c.read_goal.result c.first_word-first.ensures same c.read_goal.ensures

pub returns-in-Case : goal.returns-in-Case
returns-in-Case c =
    let same = c.in_ok-keyword_of.ensures ∙ ap keyword c.in-Case.is in
    answered c.args.text.now _ _ _ c.read_case.result c.first_word-first.ensures same c.read_case.ensures

pub returns-in-Base : goal.returns-in-Base
returns-in-Base c =
    let same = c.in_ok-keyword_of.ensures ∙ ap keyword c.in-Base.is in
    answered c.args.text.now _ _ _ c.read_base.result c.first_word-first.ensures same c.read_base.ensures

pub returns-in-End : goal.returns-in-End
returns-in-End c =
    let same = c.in_ok-keyword_of.ensures ∙ ap keyword c.in-End.is in
    answered c.args.text.now _ _ _ c.read_end.result c.first_word-first.ensures same c.read_end.ensures

pub returns-in-Closed : goal.returns-in-Closed
returns-in-Closed c =
    let same = c.in_ok-keyword_of.ensures ∙ ap keyword c.in-Closed.is in
    answered c.args.text.now _ _ _ c.read_closed.result c.first_word-first.ensures same c.read_closed.ensures

pub returns-in-Lexeme : goal.returns-in-Lexeme
returns-in-Lexeme c =
    let same = c.in_ok-keyword_of.ensures ∙ ap keyword c.in-Lexeme.is in
    answered c.args.text.now _ _ _ c.read_lexeme.result c.first_word-first.ensures same c.read_lexeme.ensures

pub returns-in-Rule : goal.returns-in-Rule
returns-in-Rule c =
    let same = c.in_ok-keyword_of.ensures ∙ ap keyword c.in-Rule.is in
    answered c.args.text.now _ _ _ c.read_rule.result c.first_word-first.ensures same c.read_rule.ensures

pub returns-in-Token : goal.returns-in-Token
returns-in-Token c =
    let same = c.in_ok-keyword_of.ensures ∙ ap keyword c.in-Token.is in
    answered c.args.text.now _ _ _ c.read_token.result c.first_word-first.ensures same c.read_token.ensures

pub returns-in-Weigh : goal.returns-in-Weigh
returns-in-Weigh c =
    let same = c.in_ok-keyword_of.ensures ∙ ap keyword c.in-Weigh.is in
    answered c.args.text.now _ _ _ c.read_weighing.result c.first_word-first.ensures same c.read_weighing.ensures

pub returns-in-Conform : goal.returns-in-Conform
returns-in-Conform c =
    let same = c.in_ok-keyword_of.ensures ∙ ap keyword c.in-Conform.is in
    answered c.args.text.now _ _ _ c.read_opening.result c.first_word-first.ensures same c.read_opening.ensures
