-- The line has the token's name, and the number of its text stands behind those before it.
use Rattle.std.proofs.Common.{◌≡◌, ℕ, List, [], ◌∷◌, ◌++◌, sym, ap, ◌∙◌, subst}
use Rattle.cs_lines.specs.declared.lines.line.Line as held
use Rattle.cs_lines.specs.Lines.Line.{Line, LexemeLine}
use Rattle.cs_lines.specs.Lines.Read.{Tells}
use Rattle.cs_check.specs.Passing.Head.{Due, Takes}
use Rattle.cs_lines.specs.Words.Names.{token_of}
use Rattle.cs_check.specs.Checking.Head.{number_by}
use Rattle.cs_check.proofs.OnChecking.HeadKnown.{lexeme_known}
use Rattle.cs_check.proofs.checking.head.Head.take_lexeme.Goals as goal

pub returns-clause-judged : goal.returns-clause-judged
returns-clause-judged c = λ above l h due knows tells.
    let file = c.args.file.now in
    let takes = subst (λ (d : Due). Takes d l) due h.takes in
    let text = takes.1 in
    let told = subst (λ (x : Line). Tells c.args.line.now x) takes.2 tells in
    let read = subst (λ (x : held.Line). Tells x (LexemeLine takes.0 text)) c.in-Lexeme.is told in
    let named : token_of file c.args.token ≡ c.in-Lexeme.name.now = c.is_token.ensures.0 c.if-not-is_token.false in
    let numbers = c.args.self.now.numbers.items in
    let number = c.number_by.ensures text read.1 in
    let pushed : c.push.new.self.items ≡ numbers ++ number_by c.args.self.now.weigh text ∷ [] =
    c.in_ok-push.ensures.items ∙ ap (λ (n : ℕ). numbers ++ n ∷ []) number in (
      (text, takes.2 ∙ ap (λ (x : List ℕ). LexemeLine x text) (sym (named ∙ read.0))),
      lexeme_known file above c.args.self.now knows l h c.args.token due takes.0 text takes.2 c.push.new.self pushed,
    )
