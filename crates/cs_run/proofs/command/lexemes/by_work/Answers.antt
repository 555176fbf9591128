-- The separator of the texts is that of the options.
use Rattle.std.proofs.Common.{sym, subst, refl, List, ℕ, Some}
use Rattle.cs_io.specs.Uses.{used}
use Rattle.cs_chain_text.specs.Entries.Text.{IsChainsText}
use Rattle.cs_choices.specs.declared.format.Format.TheVariants.{One}
use Rattle.cs_deep.specs.Writing.Deep.{IsDeepText}
use Rattle.cs_run.specs.Command.Scanned.{WritesByScanner, WritesChains}
use Rattle.cs_words.specs.declared.command.Command.TheVariants.{OfPair}
use Rattle.cs_words.specs.declared.command.PairCommand.{PairCommand}
use Rattle.cs_words.specs.declared.command.PairCommand.TheVariants as of_pair
use Rattle.cs_run.specs.Ending.Files.{choice_by, texts_by}
use Rattle.cs_scanner.specs.Scan.Compared.{scanning}
use Rattle.cs_spell.specs.Telling.Spelling.{IsSpelling}
use Rattle.cs_wrong.specs.Writing.Text.{IsWrongText}
use Rattle.cs_run.specs.Command.Carrying.{WritesOfGrammar}
use Rattle.cs_run.proofs.OnCommand.Performing.{listed_so}
use Rattle.cs_run.proofs.OnCommand.Scanned.{ended_of}
use Rattle.cs_run.proofs.command.lexemes.by_work.Goals as goal

pub returns-in-Chains-clause-writes : goal.returns-in-Chains-clause-writes
returns-in-Chains-clause-writes g c =
    let file = c.args.asked.yacc.now in
    let options = c.args.asked.options.now in
    let s = scanning c.args.work.now.scanner.now in
    let out = used g.O.Sink c.args.out.now c.chains_by.new.out in
    let texts = texts_by options s in
    let Is : List ℕ → Type 0 = IsChainsText file (Some texts) options.weigh in
    let writes : WritesChains file.grammar Is c.chains_by.result out =
    subst (λ (separator : List ℕ). WritesChains file.grammar (IsChainsText file (Some (record { scanning = s; separator = separator })) options.weigh) c.chains_by.result out)
    c.requires.work.separator c.chains_by.ensures.writes in
    subst (λ (command : PairCommand). WritesByScanner command options file s c.chains_by.result out) (sym c.in-Chains.is)
    (listed_so c.chains_by.result out (OfPair of_pair.Chains) file.grammar refl Is writes)

pub returns-in-Spell-clause-writes : goal.returns-in-Spell-clause-writes
returns-in-Spell-clause-writes g c =
    let file = c.args.asked.yacc.now in
    let options = c.args.asked.options.now in
    let s = scanning c.args.work.now.scanner.now in
    let out = used g.O.Sink c.args.out.now c.write_spell.new.out in
    let Is : List ℕ → List ℕ → Type 0 = λ separator text. IsSpelling file (record { scanning = s; separator = separator }) options.weigh text in
    let writes = ended_of (OfPair of_pair.Spell) file.grammar refl (Is c.args.work.now.separator.now) c.write_spell.result c.ended.result out c.ended.ensures.ending c.write_spell.ensures.ok c.write_spell.ensures.part
    c.write_spell.ensures.no_fault c.write_spell.ensures.failed c.write_spell.ensures.room in
    subst (λ (command : PairCommand). WritesByScanner command options file s c.ended.result out) (sym c.in-Spell.is)
    (subst (λ (separator : List ℕ). WritesOfGrammar (OfPair of_pair.Spell) file.grammar (Is separator) c.ended.result out) c.requires.work.separator writes)

pub returns-in-Deep-clause-writes : goal.returns-in-Deep-clause-writes
returns-in-Deep-clause-writes g c =
    let file = c.args.asked.yacc.now in
    let options = c.args.asked.options.now in
    let s = scanning c.args.work.now.scanner.now in
    let out = used g.O.Sink c.args.out.now c.deep.new.out in
    let Is : List ℕ → List ℕ → Type 0 = λ separator text. IsDeepText (record (choice_by options s) { texts = Some (record { scanning = s; separator = separator }); format = One }) file text in
    let writes = ended_of (OfPair of_pair.Deep) file.grammar refl (Is c.args.work.now.separator.now) c.deep.result c.ended-in-Deep.result out c.ended-in-Deep.ensures.ending c.deep.ensures.ok c.deep.ensures.part
    c.deep.ensures.no_fault c.deep.ensures.failed c.deep.ensures.room in
    subst (λ (command : PairCommand). WritesByScanner command options file s c.ended-in-Deep.result out) (sym c.in-Deep.is)
    (subst (λ (separator : List ℕ). WritesOfGrammar (OfPair of_pair.Deep) file.grammar (Is separator) c.ended-in-Deep.result out) c.requires.work.separator writes)

pub returns-in-Wrong-clause-writes : goal.returns-in-Wrong-clause-writes
returns-in-Wrong-clause-writes g c =
    let file = c.args.asked.yacc.now in
    let options = c.args.asked.options.now in
    let s = scanning c.args.work.now.scanner.now in
    let out = used g.O.Sink c.args.out.now c.write_wrong.new.out in
    let Is : List ℕ → List ℕ → Type 0 = λ separator text. IsWrongText file (Some (record { scanning = s; separator = separator })) options.weigh options.slips text in
    let writes = ended_of (OfPair of_pair.Wrong) file.grammar refl (Is c.args.work.now.separator.now) c.write_wrong.result c.ended-in-Wrong.result out c.ended-in-Wrong.ensures.ending c.write_wrong.ensures.ok c.write_wrong.ensures.part
    c.write_wrong.ensures.no_fault c.write_wrong.ensures.failed c.write_wrong.ensures.room in
    subst (λ (command : PairCommand). WritesByScanner command options file s c.ended-in-Wrong.result out) (sym c.in-Wrong.is)
    (subst (λ (separator : List ℕ). WritesOfGrammar (OfPair of_pair.Wrong) file.grammar (Is separator) c.ended-in-Wrong.result out) c.requires.work.separator writes)
