-- Each edit puts some tokens in place of others, and the first poisoned pair is that of its seam.
use Rattle.std.proofs.Common.{sym, subst}
use Rattle.std.specs.Prelude.{MatchOption}
use Rattle.cs_grammar.specs.Sentence.{framed}
use Rattle.cs_mutate.specs.declared.edit.Edit.{Edit}
use Rattle.cs_mutate.specs.Edit.{edited}
use Rattle.cs_mutate.specs.Poison.{HasNoPoison, IsFirstPoisoned}
use Rattle.cs_mutate.proofs.touched.poison_touched.Goals as goal

pub returns-in-Delete : goal.returns-in-Delete
returns-in-Delete c =
    let g = c.args.pairs.now.grammar in
    let w = c.args.base.now in
    subst (λ (e : Edit). MatchOption c.poison_seam.result (HasNoPoison g (framed (edited w e))) (λ first. IsFirstPoisoned g (framed (edited w e)) first.at first.left first.right))
    (sym c.in-Delete.is) c.poison_seam.ensures

pub returns-in-Insert : goal.returns-in-Insert
returns-in-Insert c =
    let g = c.args.pairs.now.grammar in
    let w = c.args.base.now in
    subst (λ (e : Edit). MatchOption c.poison_seam-in-Insert.result (HasNoPoison g (framed (edited w e))) (λ first. IsFirstPoisoned g (framed (edited w e)) first.at first.left first.right))
    (sym c.in-Insert.is) c.poison_seam-in-Insert.ensures

pub returns-in-Replace : goal.returns-in-Replace
returns-in-Replace c =
    let g = c.args.pairs.now.grammar in
    let w = c.args.base.now in
    subst (λ (e : Edit). MatchOption c.poison_seam-in-Replace.result (HasNoPoison g (framed (edited w e))) (λ first. IsFirstPoisoned g (framed (edited w e)) first.at first.left first.right))
    (sym c.in-Replace.is) c.poison_seam-in-Replace.ensures

pub returns-in-Swap : goal.returns-in-Swap
returns-in-Swap c =
    let g = c.args.pairs.now.grammar in
    let w = c.args.base.now in
    subst (λ (e : Edit). MatchOption c.poison_seam-in-Swap.result (HasNoPoison g (framed (edited w e))) (λ first. IsFirstPoisoned g (framed (edited w e)) first.at first.left first.right))
    (sym c.in-Swap.is) c.poison_seam-in-Swap.ensures
