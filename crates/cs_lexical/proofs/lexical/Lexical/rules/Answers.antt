-- There is a row for each rule.
use Rattle.std.proofs.Common.{◌≡◌, subst, arith, length}
use Rattle.std.proofs.lemmas.List.{length-map}
use Rattle.cs_scanner.specs.Lexeme.Texts.{texts_of}
use Rattle.cs_lexical.specs.Least.{LeastTexts, lists, named}
use Rattle.cs_lexical.proofs.lexical.Lexical.rules.Goals as goal

pub returns-clause-rows : goal.returns-clause-rows
returns-clause-rows c =
    let inside = c.self.inside in
    let R : LeastTexts → Type 0 = λ t. c.len.result ≡ length t.rows in
    let rows = length-map (lists inside.rows.items) (named (texts_of inside.texts.items)) in
    let ok = inside.wins.ok.0 in
    let all = c.self.invariant.all in
    subst R c.self.view_is (omega (arith, c.len.ensures, ok, all, rows))
