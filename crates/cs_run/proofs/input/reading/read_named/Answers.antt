-- The names of a command are those of its files.
use Rattle.std.proofs.Common.{List, sym, subst, arith}
use Rattle.cs_run.specs.declared.input.judging.Meant.TheVariants.{Pair, Text}
use Rattle.cs_run.specs.Input.Files.{HaveContents, Mean}
use Rattle.cs_words.specs.declared.command.Role.{Role}
use Rattle.cs_words.specs.Requests.{Named, Names, three_named}
use Rattle.cs_words.specs.Words.{texts}
use Rattle.cs_run.proofs.OnInput.Forms.{three_files, three_form, three_named_in, three_not_none, two_files, two_form, two_named, two_not_none}
use Rattle.cs_run.proofs.input.reading.read_named.Goals as goal

pub returns-in-Ok-read_pair-clause-read : goal.returns-in-Ok-read_pair-clause-read
returns-in-Ok-read_pair-clause-read g c =
    let name = c.as_str-in-len2.result.now in
    let other = c.as_str-in-len2-2.result.now in
    let same =
    two_named c.args.names.now c.yacc-item-then-names-lt3.result c.lex-item.result name other (omega arith) (omega arith)
    c.yacc-item-then-names-lt3.is c.lex-item.is c.as_str-in-len2.ensures.value c.as_str-in-len2-2.ensures.value in
    subst (λ (named : List Named). HaveContents (g.D.Desk.files c.args.desk.now) named (λ contents. Mean contents (Pair c.in-Ok-read_pair.pair)))
    (sym (two_files name other c.args.command (Names (texts c.args.names.now)) same c.requires)) c.in-Ok-read_pair.ensures.read

pub returns-in-Ok-read_pair-clause-form : goal.returns-in-Ok-read_pair-clause-form
returns-in-Ok-read_pair-clause-form g c =
    let name = c.as_str-in-len2.result.now in
    let other = c.as_str-in-len2-2.result.now in
    let same =
    two_named c.args.names.now c.yacc-item-then-names-lt3.result c.lex-item.result name other (omega arith) (omega arith)
    c.yacc-item-then-names-lt3.is c.lex-item.is c.as_str-in-len2.ensures.value c.as_str-in-len2-2.ensures.value in
    two_form name other c.args.command (Names (texts c.args.names.now)) c.in-Ok-read_pair.pair same c.requires

pub returns-in-Ok-read_pair-clause-some : goal.returns-in-Ok-read_pair-clause-some
returns-in-Ok-read_pair-clause-some g c = λ none.
    let name = c.as_str-in-len2.result.now in
    let other = c.as_str-in-len2-2.result.now in
    let same =
    two_named c.args.names.now c.yacc-item-then-names-lt3.result c.lex-item.result name other (omega arith) (omega arith)
    c.yacc-item-then-names-lt3.is c.lex-item.is c.as_str-in-len2.ensures.value c.as_str-in-len2-2.ensures.value in
    two_not_none name other _ (two_files name other c.args.command (Names (texts c.args.names.now)) same c.requires) none

pub returns-in-Ok-read_text-clause-read : goal.returns-in-Ok-read_text-clause-read
returns-in-Ok-read_text-clause-read g c =
    let name = c.as_str-in-len3.result.now in
    let other = c.as_str-in-len3-2.result.now in
    let third = c.as_str-in-len3-3.result.now in
    let same =
    three_named_in c.args.names.now c.yacc-item-then-names-lt4.result c.lex-item-then-names-lt4.result c.text-item.result name other third (omega arith) (omega arith)
    c.yacc-item-then-names-lt4.is c.lex-item-then-names-lt4.is c.text-item.is c.as_str-in-len3.ensures.value c.as_str-in-len3-2.ensures.value c.as_str-in-len3-3.ensures.value in
    subst (λ (named : List Named). HaveContents (g.D.Desk.files c.args.desk.now) named (λ contents. Mean contents (Text c.in-Ok-read_text.beside)))
    (sym (three_files name other third c.args.command (Names (texts c.args.names.now)) same c.requires))
    (subst (λ (role : Role). HaveContents (g.D.Desk.files c.args.desk.now) (three_named role name other third) (λ contents. Mean contents (Text c.in-Ok-read_text.beside)))
    c.third_role-role.ensures c.in-Ok-read_text.ensures.read)

pub returns-in-Ok-read_text-clause-form : goal.returns-in-Ok-read_text-clause-form
returns-in-Ok-read_text-clause-form g c =
    let name = c.as_str-in-len3.result.now in
    let other = c.as_str-in-len3-2.result.now in
    let third = c.as_str-in-len3-3.result.now in
    let same =
    three_named_in c.args.names.now c.yacc-item-then-names-lt4.result c.lex-item-then-names-lt4.result c.text-item.result name other third (omega arith) (omega arith)
    c.yacc-item-then-names-lt4.is c.lex-item-then-names-lt4.is c.text-item.is c.as_str-in-len3.ensures.value c.as_str-in-len3-2.ensures.value c.as_str-in-len3-3.ensures.value in
    three_form name other third c.args.command (Names (texts c.args.names.now)) c.in-Ok-read_text.beside same c.requires

pub returns-in-Ok-read_text-clause-some : goal.returns-in-Ok-read_text-clause-some
returns-in-Ok-read_text-clause-some g c = λ none.
    let name = c.as_str-in-len3.result.now in
    let other = c.as_str-in-len3-2.result.now in
    let third = c.as_str-in-len3-3.result.now in
    let same =
    three_named_in c.args.names.now c.yacc-item-then-names-lt4.result c.lex-item-then-names-lt4.result c.text-item.result name other third (omega arith) (omega arith)
    c.yacc-item-then-names-lt4.is c.lex-item-then-names-lt4.is c.text-item.is c.as_str-in-len3.ensures.value c.as_str-in-len3-2.ensures.value c.as_str-in-len3-3.ensures.value in
    three_not_none name other third _ _ (three_files name other third c.args.command (Names (texts c.args.names.now)) same c.requires) none
