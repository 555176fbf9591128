-- The byte has no token that is asked for, or the token's lesser text is kept, or no text gives the byte.
use Rattle.std.proofs.Common.{subst, arith, ℕ, ◌<◌, Option, Vec, Global}
use Rattle.std.specs.Prelude.{slice_index}
use Rattle.std.proofs.lemmas.List.{length-map}
use Rattle.cs_scanner.specs.Scan.Compared.{scanning}
use Rattle.cs_scanner.specs.Lexeme.Texts.{texts_of, text_of}
use Rattle.cs_scanner.specs.Lexeme.Kinds.{IsLeast, IsOwn}
use Rattle.cs_scanner.proofs.OnLexeme.Winning.{own_skip, own_none, own_kept, literal_zero, literal_of, literal_one}
use Rattle.cs_scanner.proofs.lexeme.lexemes.put_own.Goals as goal
use Rattle.cs_scanner.proofs.lexeme.lexemes.put_own.Goals.{then-token-eq0-via-then-token-eq0, then-token-eq0-via-else-token-eq0+then-token-len}

pub returns-then-token-eq0-clause-least : goal.returns-then-token-eq0-clause-least
returns-then-token-eq0-clause-least c =
    let s = scanning c.args.table.now.scanner in
    let literals = c.args.table.now.scanner.literals.now in
    let byte = c.args.byte in
    let items = c.args.texts.now.items in
    elim c.then-token-eq0.branch [
      | then-token-eq0-via-then-token-eq0 w ↦
          own_skip s byte (texts_of items) (λ token some within literal. literal_zero literals byte token w.if-token-eq0.true literal) c.requires.least
      | then-token-eq0-via-else-token-eq0+then-token-len w ↦
          own_skip s byte (texts_of items) (λ token some within literal. absurd (omega (arith, literal_one literals byte token literal, w.if-token-len.true, w.len.ensures, length-map items text_of))) c.requires.least
    ]

pub returns-in-Some-clause-least : goal.returns-in-Some-clause-least
returns-in-Some-clause-least c =
    let s = scanning c.args.table.now.scanner in
    let literals = c.args.table.now.scanner.literals.now in
    let byte = c.args.byte in
    let items = c.args.texts.now.items in
    let some : 0 < slice_index literals byte = omega (arith, c.if-token-eq0.false) in
    let L : Option (Vec ℕ Global) → Type 0 = λ t. IsLeast (IsOwn s byte) (text_of t) in
    own_kept s byte (texts_of items) (texts_of c.keep_text.new.texts.items) (slice_index literals byte) c.in-Some.text.items some (omega (arith, c.if-token-len.false, c.len.ensures, length-map items text_of)) (literal_of literals byte some) (subst L c.in-Some.is c.in_ok-text.ensures) c.keep_text.ensures c.requires.least

pub returns-in_default-clause-least : goal.returns-in_default-clause-least
returns-in_default-clause-least c =
    let s = scanning c.args.table.now.scanner in
    let byte = c.args.byte in
    let L : Option (Vec ℕ Global) → Type 0 = λ t. IsLeast (IsOwn s byte) (text_of t) in
    own_none s byte (texts_of c.args.texts.now.items) (subst L c.in_default.is c.in_ok-text.ensures) c.requires.least
