-- One nonterminal more, with the tokens of the grammar that are at its edge.
use Rattle.std.proofs.Common.{◌+◌, List, ℕ, ap, sym, ◌∙◌, subst}
use Rattle.cs_grammar.specs.Grammar.{PlainGrammar}
use Rattle.cs_verdicts.specs.Closed.Closed.{AreThose, numbers}
use Rattle.cs_verdicts.specs.Closed.Collecting.{IsAtEdge}
use Rattle.cs_verdicts.proofs.OnClosed.Collected.{next_partner, numbers_more}
use Rattle.cs_verdicts.proofs.closed.collecting.edges.Goals as goal

pub loop-place-preserved : goal.loop-place-preserved
loop-place-preserved c =
    let g = c.args.tables.now.grammar in
    let n = c.loop-place.place in
    let R = λ (k : ℕ) (set : List ℕ). AreThose (IsAtEdge g c.args.edge k) (numbers g.tokens) set in
    let last = c.tokens.ensures ∙ ap (λ (h : PlainGrammar). h.tokens) c.grammar-grammar.ensures in
    let those = subst (λ (k : ℕ). AreThose (IsAtEdge g c.args.edge (n + 1)) (numbers k) c.in_ok-tokens.tokens.items) last c.in_ok-tokens.ensures in
    let set = subst (R (n + 1)) (sym c.new.ensures) those in
    next_partner R (numbers n) c.loop-place.sets.items (n + 1) c.new.result (numbers (n + 1)) c.push.new.self.items (numbers_more n) c.in_ok-push.ensures.items c.loop-place.invariant set
