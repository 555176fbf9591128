-- The rule that is kept for the nonterminal has symbols with empty trees, found in earlier rounds.
use Rattle.std.proofs.Common.{◌≡◌, ◌<◌, List, Some, length, refl, sym, ap, ◌∙◌, subst}
use Rattle.std.specs.Prelude.{slice_get}
use Rattle.std.proofs.lemmas.Option.{slice_get_read, slice_get_within, same_Some}
use Rattle.cs_grammar.specs.declared.symbol.Symbol.{Symbol}
use Rattle.cs_grammar.specs.Grammar.{Production}
use Rattle.cs_grammar.proofs.Measures.{IsNumberOf-rule}
use Rattle.cs_grammar.proofs.OneTree.{one_rule}
use Rattle.cs_member.specs.declared.tables.item.Item.{Item}
use Rattle.cs_member.specs.Tables.Tables.{IsKeptRule}
use Rattle.cs_member.proofs.OnDerivation.Spelling.{empty_taken}
use Rattle.cs_member.proofs.derivation.writing.take_empty.Goals as goal

pub rule-requires : goal.rule-requires
rule-requires c =
    let q = c.args.question.now in
    let empties = q.tables.now.empties.items in
    let a = c.args.nonterminal in
    let r = c.index-rule.result.now in
    let lt = slice_get_within empties a c.requires.empty.0 c.requires.empty.1 in
    let at : slice_get empties a ≡ Some r = slice_get_read empties _ a r refl lt c.index-rule.ensures in
    let same : c.requires.empty.0 ≡ r = same_Some c.requires.empty.0 r (sym c.requires.empty.1 ∙ at) in
    let kept : IsKeptRule q.grammar.now empties a r = c.requires.tables.question.empties.rules a r at (subst (λ n. 0 < n) same c.requires.empty.2) in
    IsNumberOf-rule q.grammar.now r kept.rule kept.number

pub returns : goal.returns
returns c =
    let q = c.args.question.now in
    let empties = q.tables.now.empties.items in
    let a = c.args.nonterminal in
    let r = c.index-rule.result.now in
    let lt = slice_get_within empties a c.requires.empty.0 c.requires.empty.1 in
    let at : slice_get empties a ≡ Some r = slice_get_read empties _ a r refl lt c.index-rule.ensures in
    let same : c.requires.empty.0 ≡ r = same_Some c.requires.empty.0 r (sym c.requires.empty.1 ∙ at) in
    let kept : IsKeptRule q.grammar.now empties a r = c.requires.tables.question.empties.rules a r at (subst (λ n. 0 < n) same c.requires.empty.2) in
    let left = c.in_ok-leave_front.ensures in
    let one : c.rule.result.now ≡ left.rule = one_rule q.grammar.now r r c.rule.result.now left.rule refl c.rule.ensures.rule left.number in
    let long : length c.right.result.now ≡ length left.rule.right = ap (λ (l : List Symbol). length l) c.right.ensures ∙ ap (λ (p : Production). length p.right) one in
    let item : Item = record { rule = r; place = length c.right.result.now } in
    empty_taken q.grammar.now q.tokens.now c.args.chart.now q.tables.now c.rules-well_formed.ensures.well_formed c.requires.tables.question.rounds a item c.args.tasks.now.items c.leave_front.new.tasks.items left at kept long
