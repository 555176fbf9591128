-- A chosen rule is shown; where none is chosen, a large goal tells large, and no such goal infeasible.
use Rattle.std.proofs.Common.{◌≡◌, ℕ, true, false, Option, refl, sym, subst}
use Rattle.cs_grammar.specs.Grammar.{PlainGrammar}
use Rattle.cs_spell.specs.Telling.Chosen.{HasLarge}
use Rattle.cs_spell.specs.Telling.Choosing.{IsChoice}
use Rattle.cs_spell.proofs.telling.telling.tell_of.Goals as goal

pub show-requires-clause-chosen : goal.show-requires-clause-chosen
show-requires-clause-chosen c =
    let judged = c.args.tools.now.judged.now in
    subst (λ (o : Option ℕ). IsChoice c.args.tools.now.file.now.grammar judged c.args.wanted o) c.in-Some.is
    (subst (λ (g : PlainGrammar). IsChoice g judged c.args.wanted c.choose.result) c.grammar-grammar.ensures.grammar c.choose.ensures)

pub returns-then-has_large : goal.returns-then-has_large
returns-then-has_large c =
    let judged = c.args.tools.now.judged.now in (
      subst (λ (o : Option ℕ). IsChoice c.args.tools.now.file.now.grammar judged c.args.wanted o) c.in-None.is
          (subst (λ (g : PlainGrammar). IsChoice g judged c.args.wanted c.choose.result) c.grammar-grammar.ensures.grammar c.choose.ensures),
      subst (λ (g : PlainGrammar). HasLarge g judged c.args.wanted) c.grammar-grammar.ensures.grammar (c.if-has_large.ensures.0 refl),
    )

pub returns-else-has_large : goal.returns-else-has_large
returns-else-has_large c =
    let judged = c.args.tools.now.judged.now in (
      subst (λ (o : Option ℕ). IsChoice c.args.tools.now.file.now.grammar judged c.args.wanted o) c.in-None.is
          (subst (λ (g : PlainGrammar). IsChoice g judged c.args.wanted c.choose.result) c.grammar-grammar.ensures.grammar c.choose.ensures),
      (λ large. let holds : false ≡ true = c.if-has_large.ensures.1 (subst (λ (g : PlainGrammar). HasLarge g judged c.args.wanted) (sym c.grammar-grammar.ensures.grammar) large) in cc),
    )
