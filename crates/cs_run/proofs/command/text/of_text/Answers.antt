-- The text scans to tokens of the yacc file, and what is written of them is written of the text.
use Rattle.std.proofs.Common.{◌≡◌, ◌∙◌, ℕ, ap, sym, subst, List, length}
use Rattle.std.specs.Prelude.{All}
use Rattle.cs_grammar.specs.Grammar.{IsNumberOf, PlainGrammar}
use Rattle.cs_io.specs.Uses.{used}
use Rattle.cs_pattern_parts.specs.Tree.Pattern.{Regex}
use Rattle.cs_scanner.specs.Automaton.Counted.{IsAbove}
use Rattle.cs_scanner.specs.Automaton.Meaning.{res}
use Rattle.cs_scanner.specs.Automaton.Places.{InSet}
use Rattle.cs_scanner.specs.Scan.Compared.{scanning}
use Rattle.cs_scanner.specs.Scan.Scan.{Scanning, Scans}
use Rattle.cs_run.specs.Command.Scanned.{WritesTokens}
use Rattle.cs_run.specs.Ending.Files.{scanning_of}
use Rattle.cs_run.specs.Input.Refusal.{HasManyStates}
use Rattle.cs_run.proofs.OnCommand.Performing.{tokens_so}
use Rattle.cs_run.proofs.OnCommand.Scanned.{tokens_of}
use Rattle.cs_run.proofs.command.text.of_text.Goals as goal

pub of_tokens-requires : goal.of_tokens-requires
of_tokens-requires g c =
    let beside = c.args.beside.now in
    let tokens = c.in-Ok-Tokens.tokens.items in
    let by : Scans (scanning c.scanner_of-scanner.result) c.bytes.result.now tokens = rw c.in-Ok-Tokens.field-0-is at c.in-Ok-Tokens.ensures in
    let scans : Scans (scanning_of beside.pair.lex) beside.text tokens =
    subst (λ (s : Scanning). Scans s beside.text tokens) c.scanner_of-scanner.ensures.scanning
    (subst (λ (t : List ℕ). Scans (scanning c.scanner_of-scanner.result) t tokens) c.bytes.ensures by) in
    let all : All (IsNumberOf (length beside.pair.yacc.token_names)) tokens = tokens_of (length beside.pair.yacc.token_names) beside.pair.lex c.requires.tokens scans in
    let count : length beside.pair.yacc.token_names ≡ c.grammar.result.now.tokens = c.grammar.ensures.named.tokens ∙ sym (ap (λ (grammar : PlainGrammar). grammar.tokens) c.grammar.ensures.grammar) in
    subst (λ (ts : List ℕ). All (IsNumberOf c.grammar.result.now.tokens) ts) (sym c.deref.ensures.value) (subst (λ (n : ℕ). All (IsNumberOf n) tokens) count all)

pub returns-in-Ok-Tokens-clause-writes : goal.returns-in-Ok-Tokens-clause-writes
returns-in-Ok-Tokens-clause-writes g c = λ arguments options.
    let beside = c.args.beside.now in
    let tokens = c.in-Ok-Tokens.tokens.items in
    let out = used g.O.Sink c.args.out.now c.of_tokens.new.out in
    let by : Scans (scanning c.scanner_of-scanner.result) c.bytes.result.now tokens = rw c.in-Ok-Tokens.field-0-is at c.in-Ok-Tokens.ensures in
    let scans : Scans (scanning_of beside.pair.lex) beside.text tokens =
    subst (λ (s : Scanning). Scans s beside.text tokens) c.scanner_of-scanner.ensures.scanning
    (subst (λ (t : List ℕ). Scans (scanning c.scanner_of-scanner.result) t tokens) c.bytes.ensures by) in
    let few : ¬ HasManyStates beside.pair.lex = λ many. c.in-Ok.ensures.few (subst (λ (p : List Regex). IsAbove (InSet (res p)) 16384) (sym c.patterns.ensures.patterns) many) in
    let writes : WritesTokens beside.pair.yacc.grammar tokens c.of_tokens.result out =
    subst (λ (grammar : PlainGrammar). WritesTokens grammar tokens c.of_tokens.result out) c.grammar.ensures.grammar
    (subst (λ (ts : List ℕ). WritesTokens c.grammar.result.now ts c.of_tokens.result out) c.deref.ensures.value c.of_tokens.ensures.writes) in
    tokens_so beside tokens c.of_tokens.result out few scans writes arguments options
