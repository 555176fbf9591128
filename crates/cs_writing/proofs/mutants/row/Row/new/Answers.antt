-- The texts stand in front of the token and behind it; where one isn't there, a token beside has no lexeme.
use Rattle.std.proofs.Common.{◌≡◌, List, ℕ, sym, ap, ◌∙◌, subst}
use Rattle.cs_writing.specs.Mutants.Makers.{Making, PlainTools}
use Rattle.std.specs.Prelude.{IsTrue}
use Rattle.cs_writing.specs.Mutants.Rows.{HasTexts, HaveAllLexemes, IsRow, IsTextBehind, IsTextInFront}
use Rattle.cs_writing.specs.declared.mutants.row.Row.{Row}
use Rattle.cs_writing.proofs.OnMutants.Filling.{row_made}
use Rattle.cs_writing.proofs.mutants.row.Row.new.Goals as goal
use Rattle.cs_writing.proofs.mutants.row.Row.new.Goals.{then-not-branch-via-then-not-branch, then-not-branch-via-else-not-branch+in_ok-put_text-2+then-not-branch-2}

pub returns-clause-row : goal.returns-clause-row
returns-clause-row c =
    let m = c.maker.inside in
    let t = c.tools.inside in
    let tools : PlainTools = record { file = t.yacc.now; work = t.work.now; apart = t.apart } in
    let making : Making = record { tools = tools; number = m.number; base = m.base.now } in
    let row : Row = record { edit = c.args.edit; pair = c.args.pair; lines = c.in_ok-lines.lines } in
    let lexemes = t.work.now.lexemes.now in
    let sep = t.work.now.separator.now in
    let front = c.tokens_in_front-front.result in
    let back = c.tokens_behind-back.result in
    let in_front = subst (λ (text : List ℕ). IsTextInFront lexemes sep front.now text) (sym c.deref.ensures.value) (c.in_ok-put_text.ensures.text c.if-not-branch.false) in
    let behind = subst (λ (text : List ℕ). IsTextBehind lexemes sep back.now text) (sym c.deref-2.ensures.value) (c.in_ok-put_text-2.ensures.text c.if-not-branch-2.false) in
    let made : IsRow making row = row_made making row front back c.deref.result c.deref-2.result c.tokens_in_front-front.ensures c.tokens_behind-back.ensures in_front behind c.in_ok-lines.ensures in
    let same : making ≡ c.args.maker.now = ap (λ (k : PlainTools). record { tools = k; number = m.number; base = m.base.now }) c.tools.view_is ∙ c.maker.view_is in
    subst (λ (k : Making). IsRow k row) same made

-- a token has no lexeme
pub returns-then-not-branch-clause-there : goal.returns-then-not-branch-clause-there
returns-then-not-branch-clause-there c = λ given.
    let m = c.maker.inside in
    let t = c.tools.inside in
    let making : Making = record { tools = record { file = t.yacc.now; work = t.work.now; apart = t.apart }; number = m.number; base = m.base.now } in
    let same : making ≡ c.args.maker.now = ap (λ (k : PlainTools). record { tools = k; number = m.number; base = m.base.now }) c.tools.view_is ∙ c.maker.view_is in
    let texts : HasTexts making c.args.edit = subst (λ (k : Making). HasTexts k c.args.edit) (sym same) given in
    let all = λ (l : List ℕ). HaveAllLexemes t.work.now l in
    elim c.then-not-branch.branch [
      | then-not-branch-via-then-not-branch w ↦
          subst IsTrue w.if-not-branch.true (c.in_ok-put_text.ensures.there (subst all (sym c.tokens_in_front-front.ensures) texts.in_front))
      | then-not-branch-via-else-not-branch+in_ok-put_text-2+then-not-branch-2 w ↦
          subst IsTrue w.if-not-branch-2.true (w.in_ok-put_text-2.ensures.there (subst all (sym c.tokens_behind-back.ensures) texts.behind))
    ]
