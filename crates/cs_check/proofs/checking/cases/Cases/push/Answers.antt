-- The new case is a derivation, as those before it are, and the last one, whose tokens are held.
use Rattle.std.proofs.Common.{List, sym, ap, ◌∙◌, subst}
use Rattle.std.specs.Prelude.{All}
use Rattle.std.proofs.lemmas.List.Elements.{All-push}
use Rattle.cs_grammar.specs.Grammar.{PlainGrammar}
use Rattle.cs_grammar.specs.Leftmost.{IsYield}
use Rattle.cs_grammar.specs.Tree.{IsDerivationOf}
use Rattle.cs_lines.specs.Lines.Read.{numbers_in}
use Rattle.cs_check.specs.Checking.Cases.{PlainCase, PlainCases, case_of, HoldsLast}
use Rattle.cs_check.proofs.OnChecking.Cases.{holds_last}
use Rattle.cs_check.proofs.checking.cases.Cases.push.Goals as goal

pub invariant_of-self : goal.invariant_of-self
invariant_of-self c =
    subst (λ (l : List PlainCase). All (λ (case : PlainCase). IsDerivationOf c.self.inside.grammar.now case.rules) l
    × HoldsLast c.self.inside.grammar.now l c.self.inside.last c.self.inside.tokens.items)
    (sym c.in_err-push.ensures.items) c.self.invariant

pub invariant_of-self-2 : goal.invariant_of-self-2
invariant_of-self-2 c =
    let g = c.self.inside.grammar.now in
    let items = c.self.inside.list.items in
    let new = case_of c.args.size (numbers_in c.args.rules) in
    let yields : IsYield g c.args.derivation c.args.tokens.items =
    subst (λ (h : PlainGrammar). IsYield h c.args.derivation c.args.tokens.items) (sym (ap (λ (s : PlainCases). s.grammar) c.self.view_is)) c.requires.yields in
    subst (λ (l : List PlainCase). All (λ (case : PlainCase). IsDerivationOf g case.rules) l × HoldsLast g l c.args.derivation c.args.tokens.items)
    (sym c.in_ok-push.ensures.items) (
      All-push (λ (case : PlainCase). IsDerivationOf g case.rules) items new c.self.invariant.0
          (yields.tree, yields.is_tree, sym c.requires.same ∙ yields.code),
      holds_last g items new c.args.derivation c.args.tokens.items c.requires.same yields,
    )
