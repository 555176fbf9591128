-- States behind the byte are met by least texts, in order, so the first that gives its own byte is the least.
use Rattle.std.proofs.Common.{◌≡◌, ap, ◌∙◌, subst, List, ◌∷◌, [], ◌++◌, IfOk, length, Vec, Global}
use Rattle.cs_scanner.specs.declared.lexeme.search.Visit.{Visit}
use Rattle.cs_scanner.specs.declared.lexeme.steps.Step.{Step}
use Rattle.cs_scanner.specs.Lexeme.Steps.{rows_of}
use Rattle.cs_scanner.specs.Lexeme.Kinds.{first_visit, second_visit, own_byte, IsFound}
use Rattle.cs_scanner.specs.Lexeme.Texts.{text_of}
use Rattle.cs_scanner.specs.Scan.Compared.{scanning}
use Rattle.std.proofs.lemmas.Result.{IfOk-weaker}
use Rattle.cs_scanner.specs.Lexeme.Table.{table_rows}
use Rattle.cs_scanner.specs.Lexeme.Visits.{AreAllMet}
use Rattle.cs_scanner.proofs.OnLexeme.Winning.{two_visits, two_light, behind_start, least_own}
use Rattle.cs_scanner.proofs.lexeme.lexemes.find_own.Goals as goal

pub meet_all-requires-clause-visits : goal.meet_all-requires-clause-visits
meet_all-requires-clause-visits c =
    rw (c.in_ok-push.ensures.items, c.in_ok-visits.ensures) (two_visits c.args.table.now.scanner.automaton.now c.start-start.result c.start-start.ensures.within c.start-start.ensures.stands c.args.byte c.in-Some.to c.ranges.byte.fits c.in-Some.ensures.within c.in-Some.ensures.next)

pub meet_all-requires-clause-light : goal.meet_all-requires-clause-light
meet_all-requires-clause-light c =
    rw (c.in_ok-push.ensures.items, c.in_ok-visits.ensures) (two_light c.args.table.now.scanner.automaton.now c.start-start.result c.start-start.ensures.within c.start-start.ensures.stands c.args.byte c.in-Some.to c.ranges.byte.fits c.in-Some.ensures.within c.in-Some.ensures.next)

pub returns : goal.returns
returns c =
    let scanner = c.args.table.now.scanner in
    let m = scanner.automaton.now in
    let visits = c.meet_all.new.visits.items in
    let start = c.start-start.result in
    let to = c.in-Some.to in
    let A : List Visit → Type 0 = λ t. AreAllMet m (table_rows c.args.table.now) 1 t visits in
    let old : c.push.new.self.items ≡ first_visit start ∷ second_visit c.args.byte to ∷ [] = c.in_ok-push.ensures.items ∙ ap (λ (t : List Visit). t ++ second_visit c.args.byte to ∷ []) c.in_ok-visits.ensures in
    let R : List (Vec Step Global) → Type 0 = λ t. AreAllMet m (rows_of t) 1 c.push.new.self.items visits in
    let met = subst R c.deref.ensures.value c.in_ok-meet_all.ensures in
    let all = subst A old met in
    let goes = behind_start m start c.start-start.ensures.within c.start-start.ensures.stands c.args.byte to c.ranges.byte.fits c.in-Some.ensures.within c.in-Some.ensures.next in
    let F : List Visit → Type 0 = λ t. IfOk c.first_text.result (λ text. IsFound (scanning scanner) m t (length t) own_byte (text_of text)) in
    let found = subst F c.deref-2.ensures.value c.first_text.ensures in
    IfOk-weaker c.first_text.result _ _ (λ text is. least_own scanner.kinds.now scanner.literals.now m (table_rows c.args.table.now) c.requires.table start c.args.byte to visits all c.ranges.byte.fits goes (text_of text) is) found
