-- No derivation has a number above all rules'; the size of the one tree is the told one, or another.
use Rattle.std.proofs.Common.{◌≡◌, ◌<◌, ◌≤◌, ◌++◌, ◌∷◌, [], ◌↔◌, ℕ, List, sym, ◌∙◌, subst}
use Rattle.std.specs.Prelude.{All}
use Rattle.cs_grammar.specs.Grammar.{PlainGrammar, IsGrammar}
use Rattle.cs_grammar.specs.Leftmost.{IsYield}
use Rattle.cs_lines.specs.Lines.Line.{DeriveLine}
use Rattle.cs_lines.specs.Lines.Numbers.{greatest}
use Rattle.cs_lines.specs.Lines.Read.{numbers_in}
use Rattle.cs_check.specs.Passing.Entries.{HasSize}
use Rattle.cs_check.specs.Checking.Cases.{PlainCases}
use Rattle.cs_check.specs.Checking.Told.{AreEntries}
use Rattle.cs_check.proofs.OnChecking.Deriving.{high_rule, size_right, size_wrong, derivation_taken}
use Rattle.cs_check.proofs.checking.entries.Entries.take_derivation.Goals as goal

pub returns-in_default : goal.returns-in_default
returns-in_default c = λ file lines w t follows few measured numbers small d.
    let high = rw c.in_default.is at c.in_ok-derivation.ensures in
    let well = subst (λ (g : PlainGrammar). IsGrammar g) (c.grammar-grammar.ensures ∙ t.grammar) c.rules-well_formed.ensures.well_formed in
    high_rule file.grammar well (numbers_in c.args.rules) high.0 high.1 high.2 d

pub returns-then-size-self : goal.returns-then-size-self
returns-then-size-self c = λ file lines w t follows few measured numbers small.
    let e = c.args.self.now in
    let rules = numbers_in c.args.rules in
    let size = c.tree_size-size.result in
    let grammar : c.grammar-grammar.result.now ≡ file.grammar = c.grammar-grammar.ensures ∙ t.grammar in
    let read : c.in-Some.derivation ≡ rules = rw c.in-Some.is at c.in_ok-derivation.ensures in
    let yields : IsYield c.grammar-grammar.result.now c.in-Some.derivation c.in-Some-2.tokens.items = rw c.in-Some-2.is at c.in_ok-tokens.ensures in
    let yields_too : IsYield file.grammar rules c.in-Some-2.tokens.items =
    subst (λ (g : PlainGrammar). IsYield g rules c.in-Some-2.tokens.items) grammar (subst (λ (r : List ℕ). IsYield c.grammar-grammar.result.now r c.in-Some-2.tokens.items) read yields) in
    let has : (n : ℕ) → HasSize file.grammar w rules n ↔ (n ≡ size) =
    subst (λ (g : PlainGrammar). (n : ℕ) → HasSize g w rules n ↔ (n ≡ size)) grammar
    (subst (λ (r : List ℕ). (n : ℕ) → HasSize c.grammar-grammar.result.now w r n ↔ (n ≡ size)) read (c.tree_size-size.ensures.size w numbers small)) in
    let low : size < greatest = c.tree_size-size.ensures.below (subst (λ (l : List ℕ). All (λ (n : ℕ). n ≤ 1000000) l) numbers small) in
    ((yields_too.tree, yields_too.is_tree, yields_too.code), size_wrong file lines e t follows rules size low w measured has c.if-size-self.true)

pub returns : goal.returns
returns c = λ file lines w t follows few measured numbers small.
    let e = c.args.self.now in
    let rules = numbers_in c.args.rules in
    let size = c.tree_size-size.result in
    let tokens = c.in-Some-2.tokens in
    let grammar : c.grammar-grammar.result.now ≡ file.grammar = c.grammar-grammar.ensures ∙ t.grammar in
    let read : c.in-Some.derivation ≡ rules = rw c.in-Some.is at c.in_ok-derivation.ensures in
    let yields : IsYield c.grammar-grammar.result.now c.in-Some.derivation tokens.items = rw c.in-Some-2.is at c.in_ok-tokens.ensures in
    let yields_too : IsYield file.grammar rules tokens.items =
    subst (λ (g : PlainGrammar). IsYield g rules tokens.items) grammar (subst (λ (r : List ℕ). IsYield c.grammar-grammar.result.now r tokens.items) read yields) in
    let has : (n : ℕ) → HasSize file.grammar w rules n ↔ (n ≡ size) =
    subst (λ (g : PlainGrammar). (n : ℕ) → HasSize g w rules n ↔ (n ≡ size)) grammar
    (subst (λ (r : List ℕ). (n : ℕ) → HasSize c.grammar-grammar.result.now w r n ↔ (n ≡ size)) read (c.tree_size-size.ensures.size w numbers small)) in
    let low : size < greatest = c.tree_size-size.ensures.below (subst (λ (l : List ℕ). All (λ (n : ℕ). n ≤ 1000000) l) numbers small) in
    let same = c.if-size-self.false in
    let whole = c.copy_into.new.told in
    let items : whole.items ≡ tokens.items = c.in_ok-copy_into.ensures ∙ c.deref-2.ensures.value in
    let yields_whole : IsYield file.grammar rules whole.items = subst (λ (l : List ℕ). IsYield file.grammar rules l) (sym items) yields_too in
    let taken = derivation_taken file lines e t follows rules size low w measured has whole yields_whole same few in (
      (yields_too.tree, yields_too.is_tree, yields_too.code),
      size_right file lines e t follows rules size low w measured has same,
      subst (λ (x : PlainCases). AreEntries file (lines ++ DeriveLine rules ∷ []) (record e { cases = x; tokens = whole })) (sym c.in_ok-push.ensures) taken,
    )
