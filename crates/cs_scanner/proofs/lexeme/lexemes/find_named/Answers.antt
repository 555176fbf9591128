-- States are met by least texts, in order, so the first place whose kind names a token has the token's least.
use Rattle.std.proofs.Common.{subst, List, length, Vec, Global}
use Rattle.cs_scanner.specs.declared.lexeme.search.Visit.{Visit}
use Rattle.cs_scanner.specs.declared.lexeme.steps.Step.{Step}
use Rattle.cs_scanner.specs.Lexeme.Steps.{rows_of}
use Rattle.cs_scanner.specs.Lexeme.Kinds.{AreFound}
use Rattle.cs_scanner.specs.Lexeme.Lexeme.{lexeme_in}
use Rattle.cs_scanner.specs.Lexeme.Texts.{texts_of}
use Rattle.cs_scanner.specs.Scan.Compared.{scanning}
use Rattle.cs_scanner.specs.Lexeme.Table.{table_rows}
use Rattle.cs_scanner.specs.Lexeme.Visits.{AreAllMet}
use Rattle.cs_scanner.proofs.OnLexeme.Winning.{least_named}
use Rattle.cs_scanner.proofs.lexeme.lexemes.find_named.Goals as goal

pub returns-clause-named : goal.returns-clause-named
returns-clause-named c =
    let scanner = c.args.table.now.scanner in
    let m = scanner.automaton.now in
    let visits = c.meet_all.new.visits.items in
    let texts = texts_of c.put_named.new.texts.items in
    let A : List Visit → Type 0 = λ t. AreAllMet m (table_rows c.args.table.now) 0 t visits in
    let R : List (Vec Step Global) → Type 0 = λ t. AreAllMet m (rows_of t) 0 c.in_ok-visits.visits.items visits in
    let met = subst R c.deref.ensures.value c.in_ok-meet_all.ensures in
    let all = subst A c.in_ok-visits.ensures met in
    let F : List Visit → Type 0 = λ t. AreFound (scanning scanner) m t (length t) texts in
    let found = subst F c.deref-2.ensures.value c.in_ok-put_named.ensures.found in
    λ token some within. least_named scanner.kinds.now scanner.literals.now m (table_rows c.args.table.now) c.requires.table c.start.result visits all c.start.ensures.stands token (lexeme_in texts token) (found token some within)
