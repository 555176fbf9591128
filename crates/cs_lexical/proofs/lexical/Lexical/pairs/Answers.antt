-- There is a row for each rule, and an entry in it has a text where two rules overlap.
use Rattle.std.proofs.Common.{◌≡◌, ◌∙◌, List, ℕ, Option, Vec, Global, ap, sym, subst, arith, length}
use Rattle.std.specs.Prelude.{count_by, is_none, is_some, map, sum_by}
use Rattle.std.proofs.lemmas.List.{length-map}
use Rattle.cs_scanner.specs.Lexeme.Texts.{texts_of}
use Rattle.cs_lexical.specs.Least.{LeastTexts, lists, named, rules_of}
use Rattle.cs_lexical.specs.Lines.{disjoint, overlaps}
use Rattle.cs_lexical.specs.Noting.{AreRows}
use Rattle.cs_lexical.proofs.Reading.{rules_seen}
use Rattle.cs_lexical.proofs.lexical.Lexical.pairs.Goals as goal

pub count_pairs-requires-clause-few : goal.count_pairs-requires-clause-few
count_pairs-requires-clause-few c =
    let inside = c.self.inside in
    let R : LeastTexts → Type 0 = λ t. rules_of t ≡ length inside.wins.items in
    let many = subst R c.self.view_is (rules_seen inside.wins.items (lists inside.rows.items) (texts_of inside.texts.items)) in
    let all = c.self.invariant.all in
    let few = c.requires in
    omega (arith, many, all, few, length-map inside.rows.items (λ (v : Vec ℕ Global). v.items), ap (λ (l : List (Vec ℕ Global)). length l) c.deref-2.ensures.value)

pub count_pairs-requires-clause-rows : goal.count_pairs-requires-clause-rows
count_pairs-requires-clause-rows c =
    let inside = c.self.inside in
    let all : length inside.wins.items ≡ length inside.rows.items = sym (c.self.invariant.all) ∙ length-map inside.rows.items (λ (v : Vec ℕ Global). v.items) in
    let N : ℕ → Type 0 = λ n. AreRows n (lists inside.rows.items) in
    let L : List (Vec ℕ Global) → Type 0 = λ l. AreRows (length l) (lists l) in
    subst L (sym c.deref-2.ensures.value) (subst N all c.self.invariant)

pub returns-clause-overlaps : goal.returns-clause-overlaps
returns-clause-overlaps c =
    let inside = c.self.inside in
    let S : LeastTexts → Type 0 = λ t. c.count_pairs.result.0 ≡ overlaps t in
    subst S c.self.view_is
    (c.count_pairs.ensures.overlaps
    ∙ ap (λ (l : List (Option (Vec ℕ Global))). sum_by (count_by is_some) (map (named (texts_of l)) (lists c.deref-2.result.now))) c.deref.ensures.value
    ∙ ap (λ (l : List (Vec ℕ Global)). sum_by (count_by is_some) (map (named (texts_of inside.texts.items)) (lists l))) c.deref-2.ensures.value)

pub returns-clause-disjoint : goal.returns-clause-disjoint
returns-clause-disjoint c =
    let inside = c.self.inside in
    let S : LeastTexts → Type 0 = λ t. c.count_pairs.result.1 ≡ disjoint t in
    subst S c.self.view_is
    (c.count_pairs.ensures.disjoint
    ∙ ap (λ (l : List (Option (Vec ℕ Global))). sum_by (count_by is_none) (map (named (texts_of l)) (lists c.deref-2.result.now))) c.deref.ensures.value
    ∙ ap (λ (l : List (Vec ℕ Global)). sum_by (count_by is_none) (map (named (texts_of inside.texts.items)) (lists l))) c.deref-2.ensures.value)
