-- One place more behind a symbol that has an empty tree; the first without one is the last, or the rule's end.
use Rattle.std.proofs.Common.{◌≡◌, refl, ap, ◌∙◌, subst, arith, length, Some}
use Rattle.cs_grammar.specs.declared.symbol.Symbol.TheVariants.{Token, Nonterminal}
use Rattle.cs_grammar.specs.declared.symbol.Symbol.{Symbol}
use Rattle.std.proofs.lemmas.Option.{slice_get_read}
use Rattle.cs_member.specs.Tables.Item.{Awaits, IsEmpty}
use Rattle.cs_grammar.specs.Grammar.{Production}
use Rattle.cs_grammar.proofs.OneTree.{one_rule}
use Rattle.cs_member.specs.declared.tables.item.Item.{Item}
use Rattle.cs_member.specs.declared.chart.now.Now.{Now}
use Rattle.cs_member.specs.Tables.Sets.{InWords}
use Rattle.cs_member.proofs.OnChart.Putting.{not_both, step_end, step_stand, step_none, step_last, put_none, put_step, put_last, past_more, awaited_within, other_token, same_token, past_whole}
use Rattle.cs_member.proofs.chart.now.put.Goals as goal
use Rattle.cs_member.proofs.OnTables.Entering.{one_awaited}

pub loop-place-init : goal.loop-place-init
loop-place-init c = record {
  now = c.requires.now;
  guesses = c.requires.guesses;
  put = put_none c.args.question.now.grammar.now c.args.way.ahead c.args.way.cause c.args.first (InWords c.args.words.now) c.args.now.now;
}

pub returns-in-Done-clause-put : goal.returns-in-Done-clause-put
returns-in-Done-clause-put c =
    let g = c.args.question.now.grammar.now in
    let k = c.loop-place.place in
    let item : Item = record { rule = c.args.first.rule; place = k } in
    let said = c.in_ok-end-in-Done.ensures in
    put_last g c.args.way.ahead c.args.way.cause c.args.first (InWords c.args.words.now) k c.args.now.now c.loop-place.now c.end.new.now c.loop-place.invariant.put
    (step_end g c.args.way.ahead c.args.way.cause item (InWords c.args.words.now) c.loop-place.now c.end.new.now c.in-Done.left c.in-Done.ensures said.origins said.ends)
    (λ a w empty. not_both g item (Nonterminal a) c.in-Done.left w c.in-Done.ensures)

pub returns-in_ok-stand-in-Awaited-Token-clause-put : goal.returns-in_ok-stand-in-Awaited-Token-clause-put
returns-in_ok-stand-in-Awaited-Token-clause-put c =
    let g = c.args.question.now.grammar.now in
    let k = c.loop-place.place in
    let item : Item = record { rule = c.args.first.rule; place = k } in
    let t = c.in-Awaited-Token.token in
    let new : Now = record { origins = c.stand.new.origins; ends = c.loop-place.now.ends; spans = c.loop-place.now.spans } in
    put_last g c.args.way.ahead c.args.way.cause c.args.first (InWords c.args.words.now) k c.args.now.now c.loop-place.now new c.loop-place.invariant.put
    (step_stand g c.args.way.ahead c.args.way.cause item (InWords c.args.words.now) c.loop-place.now new (Token t) (subst (λ (s : Symbol). Awaits g item s) c.in-Awaited-Token.field-0-is c.in-Awaited-Token.ensures)
    (λ u is. same_token c.args.way.ahead t c.if-eq.ensures ∙ ap Some (let e : t ≡ u = cc in e)) refl c.in_ok-stand-in-Awaited-Token.ensures.stood)
    (λ a w empty. let same = one_awaited g item (Token t) (Nonterminal a) (subst (λ (s : Symbol). Awaits g item s) c.in-Awaited-Token.field-0-is c.in-Awaited-Token.ensures) w in cc)

pub returns-else-eq-clause-put : goal.returns-else-eq-clause-put
returns-else-eq-clause-put c =
    let g = c.args.question.now.grammar.now in
    let k = c.loop-place.place in
    let item : Item = record { rule = c.args.first.rule; place = k } in
    let t = c.in-Awaited-Token.token in
    put_last g c.args.way.ahead c.args.way.cause c.args.first (InWords c.args.words.now) k c.args.now.now c.loop-place.now c.loop-place.now c.loop-place.invariant.put
    (step_none g c.args.way.ahead c.args.way.cause item (InWords c.args.words.now) c.loop-place.now t (subst (λ (s : Symbol). Awaits g item s) c.in-Awaited-Token.field-0-is c.in-Awaited-Token.ensures) (other_token c.args.way.ahead t c.if-eq.ensures))
    (λ a w empty. let same = one_awaited g item (Token t) (Nonterminal a) (subst (λ (s : Symbol). Awaits g item s) c.in-Awaited-Token.field-0-is c.in-Awaited-Token.ensures) w in cc)

pub returns-then-never_comes-clause-put : goal.returns-then-never_comes-clause-put
returns-then-never_comes-clause-put c =
    let g = c.args.question.now.grammar.now in
    let k = c.loop-place.place in
    let item : Item = record { rule = c.args.first.rule; place = k } in
    let n = c.in-Awaited-Nonterminal.nonterminal in
    let awaits : Awaits g item (Nonterminal n) = subst (λ (s : Symbol). Awaits g item s) c.in-Awaited-Nonterminal.field-0-is c.in-Awaited-Nonterminal.ensures in
    let never = c.if-never_comes.ensures.0 refl in
    put_last g c.args.way.ahead c.args.way.cause c.args.first (InWords c.args.words.now) k c.args.now.now c.loop-place.now c.loop-place.now c.loop-place.invariant.put
    (step_last g c.args.way.ahead c.args.way.cause item (InWords c.args.words.now) c.loop-place.now n awaits never)
    (λ a w empty.
    let same = one_awaited g item (Nonterminal n) (Nonterminal a) awaits w in
    let one : a ≡ n = cc in
    never.1 (subst (λ m. IsEmpty g m) one empty))

pub index-requires : goal.index-requires
index-requires c =
    let g = c.args.question.now.grammar.now in
    let item : Item = record { rule = c.args.first.rule; place = c.loop-place.place } in
    let within = awaited_within g item c.in-Awaited-Nonterminal.nonterminal c.rule-rule.result.now c.rule-rule.ensures.rule c.rule-rule.ensures.fits (subst (λ (s : Symbol). Awaits g item s) c.in-Awaited-Nonterminal.field-0-is c.in-Awaited-Nonterminal.ensures) in
    let le = within.1 in
    let size = c.requires.question.empties.size in
    let empties = c.args.question.now.tables.now.empties in
    let long = empties.ok.0 in
    omega arith

pub returns-then-index-eq0-clause-put : goal.returns-then-index-eq0-clause-put
returns-then-index-eq0-clause-put c =
    let g = c.args.question.now.grammar.now in
    let k = c.loop-place.place in
    let item : Item = record { rule = c.args.first.rule; place = k } in
    let n = c.in-Awaited-Nonterminal.nonterminal in
    let empties = c.args.question.now.tables.now.empties in
    let new : Now = record { origins = c.stand-in-Awaited-Nonterminal.new.origins; ends = c.loop-place.now.ends; spans = c.loop-place.now.spans } in
    put_last g c.args.way.ahead c.args.way.cause c.args.first (InWords c.args.words.now) k c.args.now.now c.loop-place.now new c.loop-place.invariant.put
    (step_stand g c.args.way.ahead c.args.way.cause item (InWords c.args.words.now) c.loop-place.now new (Nonterminal n) (subst (λ (s : Symbol). Awaits g item s) c.in-Awaited-Nonterminal.field-0-is c.in-Awaited-Nonterminal.ensures) (λ u is. absurd cc) refl c.in_ok-stand-in-Awaited-Nonterminal.ensures.stood)
    (λ a w empty.
    let same = one_awaited g item (Nonterminal n) (Nonterminal a) (subst (λ (s : Symbol). Awaits g item s) c.in-Awaited-Nonterminal.field-0-is c.in-Awaited-Nonterminal.ensures) w in
    let one : a ≡ n = cc in
    let read = slice_get_read empties.items _ n c.index.result.now refl (let within = awaited_within g item n c.rule-rule.result.now c.rule-rule.ensures.rule c.rule-rule.ensures.fits (subst (λ (s : Symbol). Awaits g item s) c.in-Awaited-Nonterminal.field-0-is c.in-Awaited-Nonterminal.ensures) in let le = within.1 in let size = c.requires.question.empties.size in omega arith) c.index.ensures in
    c.requires.question.empties.none n (read ∙ ap Some c.if-index-eq0.true) (subst (λ m. IsEmpty g m) one empty))

pub loop-place-preserved : goal.loop-place-preserved
loop-place-preserved c =
    let g = c.args.question.now.grammar.now in
    let k = c.loop-place.place in
    let item : Item = record { rule = c.args.first.rule; place = k } in
    let n = c.in-Awaited-Nonterminal.nonterminal in
    let said = c.in_ok-stand-in-Awaited-Nonterminal.ensures in
    let empties = c.args.question.now.tables.now.empties in
    let new : Now = record { origins = c.stand-in-Awaited-Nonterminal.new.origins; ends = c.loop-place.now.ends; spans = c.loop-place.now.spans } in
    let inv = c.loop-place.invariant in
    record {
      now = record { ends = inv.now.ends; short = said.short; here = said.items g (Nonterminal n, subst (λ (s : Symbol). Awaits g item s) c.in-Awaited-Nonterminal.field-0-is c.in-Awaited-Nonterminal.ensures) inv.now.here };
      guesses = said.size ∙ inv.guesses;
      put = put_step g c.args.way.ahead c.args.way.cause c.args.first (InWords c.args.words.now) k c.args.now.now c.loop-place.now new inv.put
          (step_stand g c.args.way.ahead c.args.way.cause item (InWords c.args.words.now) c.loop-place.now new (Nonterminal n) (subst (λ (s : Symbol). Awaits g item s) c.in-Awaited-Nonterminal.field-0-is c.in-Awaited-Nonterminal.ensures) (λ u is. absurd cc) refl said.stood)
          (past_more g c.args.way.ahead c.args.way.cause c.args.first (InWords c.args.words.now) k n inv.put.past (subst (λ (s : Symbol). Awaits g item s) c.in-Awaited-Nonterminal.field-0-is c.in-Awaited-Nonterminal.ensures)
          (let read = slice_get_read empties.items _ n c.index.result.now refl (let within = awaited_within g item n c.rule-rule.result.now c.rule-rule.ensures.rule c.rule-rule.ensures.fits (subst (λ (s : Symbol). Awaits g item s) c.in-Awaited-Nonterminal.field-0-is c.in-Awaited-Nonterminal.ensures) in let le = within.1 in let size = c.requires.question.empties.size in omega arith) c.index.ensures in c.requires.question.empties.some n c.index.result.now read (let ne = c.if-index-eq0.false in omega arith)));
    }

pub returns-clause-put : goal.returns-clause-put
returns-clause-put c =
    let g = c.args.question.now.grammar.now in
    let p = c.rule-rule.result.now in
    let first = c.requires.first in
    let same = one_rule g c.args.first.rule c.args.first.rule first.rule p refl first.number c.rule-rule.ensures.rule in
    absurd (past_whole g c.args.first c.loop-place.place p c.rule-rule.ensures.rule
    (let low = first.within in let long = ap (λ (q : Production). length q.right) same in omega arith)
    (let end = c.loop-place-test.false in let right = ap (λ l. length l) c.right.ensures in omega arith)
    c.loop-place.invariant.put.past)

pub returns-in_ok-stand-in-Awaited-Token-clause-now : goal.returns-in_ok-stand-in-Awaited-Token-clause-now
returns-in_ok-stand-in-Awaited-Token-clause-now c =
    let g = c.args.question.now.grammar.now in
    let item : Item = record { rule = c.args.first.rule; place = c.loop-place.place } in
    let said = c.in_ok-stand-in-Awaited-Token.ensures in
    let inv = c.loop-place.invariant.now in
    record {
      ends = inv.ends;
      short = said.short;
      here = said.items g (Token c.in-Awaited-Token.token, subst (λ (s : Symbol). Awaits g item s) c.in-Awaited-Token.field-0-is c.in-Awaited-Token.ensures) inv.here;
    }

pub returns-then-index-eq0-clause-now : goal.returns-then-index-eq0-clause-now
returns-then-index-eq0-clause-now c =
    let g = c.args.question.now.grammar.now in
    let item : Item = record { rule = c.args.first.rule; place = c.loop-place.place } in
    let said = c.in_ok-stand-in-Awaited-Nonterminal.ensures in
    let inv = c.loop-place.invariant.now in
    record {
      ends = inv.ends;
      short = said.short;
      here = said.items g (Nonterminal c.in-Awaited-Nonterminal.nonterminal, subst (λ (s : Symbol). Awaits g item s) c.in-Awaited-Nonterminal.field-0-is c.in-Awaited-Nonterminal.ensures) inv.here;
    }
