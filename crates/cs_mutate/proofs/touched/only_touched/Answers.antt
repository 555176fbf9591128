-- Each edit puts some tokens in place of others, so its seam tells it.
use Rattle.std.proofs.Common.{◌↔◌, sym, subst}
use Rattle.std.specs.Prelude.{IsTrue}
use Rattle.cs_grammar.specs.Sentence.{framed}
use Rattle.cs_mutate.specs.declared.edit.Edit.{Edit}
use Rattle.cs_mutate.specs.Edit.{edited}
use Rattle.cs_mutate.specs.Kept.{IsOnlyAt}
use Rattle.cs_mutate.proofs.touched.only_touched.Goals as goal

pub returns-in-Delete : goal.returns-in-Delete
returns-in-Delete c =
    subst (λ (e : Edit). IsTrue c.only_seam.result ↔ IsOnlyAt c.args.pairs.now.grammar (framed (edited c.args.base.now e)) c.args.negative.now.at)
    (sym c.in-Delete.is) c.only_seam.ensures

pub returns-in-Insert : goal.returns-in-Insert
returns-in-Insert c =
    subst (λ (e : Edit). IsTrue c.only_seam-in-Insert.result ↔ IsOnlyAt c.args.pairs.now.grammar (framed (edited c.args.base.now e)) c.args.negative.now.at)
    (sym c.in-Insert.is) c.only_seam-in-Insert.ensures

pub returns-in-Replace : goal.returns-in-Replace
returns-in-Replace c =
    subst (λ (e : Edit). IsTrue c.only_seam-in-Replace.result ↔ IsOnlyAt c.args.pairs.now.grammar (framed (edited c.args.base.now e)) c.args.negative.now.at)
    (sym c.in-Replace.is) c.only_seam-in-Replace.ensures

pub returns-in-Swap : goal.returns-in-Swap
returns-in-Swap c =
    subst (λ (e : Edit). IsTrue c.only_seam-in-Swap.result ↔ IsOnlyAt c.args.pairs.now.grammar (framed (edited c.args.base.now e)) c.args.negative.now.at)
    (sym c.in-Swap.is) c.only_seam-in-Swap.ensures
