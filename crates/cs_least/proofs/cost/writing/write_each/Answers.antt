-- Symbol by symbol: a token adds nothing, and a nonterminal adds the code of its chosen tree.
use Rattle.std.proofs.Common.{◌≡◌, ◌∷◌, ◌+◌, [], List, drop, sym, ap, ◌∙◌, subst, append-nil}
use Rattle.std.proofs.lemmas.List.{drop_all, drop_more}
use Rattle.cs_grammar.specs.declared.symbol.Symbol.{Symbol}
use Rattle.cs_grammar.specs.declared.symbol.Symbol.TheVariants.{Token}
use Rattle.cs_least.specs.Cost.Parts.{IsWithin}
use Rattle.cs_least.proofs.OnCost.Written.{Writes, grown_more, writes_begin, writes_leaf, writes_tree, writes_whole}
use Rattle.cs_least.proofs.cost.writing.write_each.Goals as goal
use Rattle.cs_least.proofs.cost.writing.write_each.Goals.{in-Nonterminal+in_ok-write_tree, in_default}

pub loop-symbol-init : goal.loop-symbol-init
loop-symbol-init c =
    (writes_begin c.args.trees.now.weights c.args.trees.now.grammar c.args.trees.now.table c.args.symbols.now c.args.out.now c.requires.small, ([], sym (append-nil c.args.out.now)))

pub write_tree-requires : goal.write_tree-requires
write_tree-requires c =
    subst (IsWithin c.args.trees.now.weights c.args.trees.now.grammar) c.in-Nonterminal.is (c.requires.small c.loop-symbol.symbol-index (Token 0) c.loop-symbol-test.true)

pub loop-symbol-preserved : goal.loop-symbol-preserved
loop-symbol-preserved c =
    let w = c.args.trees.now.weights in
    let g = c.args.trees.now.grammar in
    let symbols = c.args.symbols.now in
    let rest = drop (c.loop-symbol.symbol-index + 1) symbols in
    let split = drop_more symbols c.loop-symbol.symbol-index (Token 0) c.loop-symbol-test.true in
    elim c.match-symbol.branch [
      | in-Nonterminal+in_ok-write_tree b ↦
          let front = subst (λ (l : List Symbol). Writes w g c.args.trees.now.table symbols c.args.out.now l c.loop-symbol.out) (split ∙ ap (λ (x : Symbol). x ∷ rest) b.in-Nonterminal.is) c.loop-symbol.invariant.0 in
          let e = b.in_ok-write_tree.ensures in
          rw b.out-is (writes_tree w g c.args.trees.now.table symbols c.args.out.now b.in-Nonterminal.left rest c.loop-symbol.out b.write_tree.new.out e.written front, grown_more c.args.out.now c.loop-symbol.out b.write_tree.new.out c.loop-symbol.invariant.1 e.grown)
      | in_default b ↦
          let front = subst (λ (l : List Symbol). Writes w g c.args.trees.now.table symbols c.args.out.now l c.loop-symbol.out) (split ∙ ap (λ (x : Symbol). x ∷ rest) b.in_default.is) c.loop-symbol.invariant.0 in
          rw b.out-is (writes_leaf w g c.args.trees.now.table symbols c.args.out.now b.in_default.field-0 rest c.loop-symbol.out front, c.loop-symbol.invariant.1)
    ]

pub returns-clause-written : goal.returns-clause-written
returns-clause-written c =
    let w = c.args.trees.now.weights in
    let g = c.args.trees.now.grammar in
    let symbols = c.args.symbols.now in
    let none = drop_all c.loop-symbol.symbol-index symbols c.loop-symbol-test.false in
    writes_whole w g c.args.trees.now.table symbols c.args.out.now c.loop-symbol.out
    (subst (λ (l : List Symbol). Writes w g c.args.trees.now.table symbols c.args.out.now l c.loop-symbol.out) none c.loop-symbol.invariant.0)
