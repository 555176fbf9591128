-- The row of a rule has an entry for each rule behind it.
use Rattle.std.proofs.Common.{◌≡◌, ◌-◌, ◌<◌, ◌∙◌, [], List, Vec, Global, ap, sym, subst, ℕ, arith, length}
use Rattle.std.specs.Prelude.{slice_index_or}
use Rattle.std.proofs.lemmas.List.{length-map}
use Rattle.cs_scanner.specs.Lexeme.Texts.{texts_of}
use Rattle.cs_lexical.specs.Least.{LeastTexts, lists, rules_of}
use Rattle.cs_lexical.proofs.Reading.{row_long, rules_seen}
use Rattle.cs_lexical.proofs.Rows.{items_at, long_behind}
use Rattle.cs_lexical.proofs.lexical.Lexical.behind.Goals as goal

-- how many rules there are
many : (c : goal.After-len) → rules_of c.args.self.now ≡ length c.self.inside.wins.items
many c =
    let inside = c.self.inside in
    let R : LeastTexts → Type 0 = λ t. rules_of t ≡ length inside.wins.items in
    subst R c.self.view_is (rules_seen inside.wins.items (lists inside.rows.items) (texts_of inside.texts.items))

within : (c : goal.After-len) → c.place_of.result < length c.self.inside.rows.items
within c =
    let same = many c in
    let all = c.self.invariant.all in
    let place = c.place_of.ensures in
    omega (arith, same, all, place, c.requires.from_1, c.requires.within, length-map c.self.inside.rows.items (λ (v : Vec ℕ Global). v.items))

-- the row as the table has it
row_is : (c : goal.After-len) → c.len.result ≡ length (slice_index_or (lists c.self.inside.rows.items) (c.args.rule - 1) [])
row_is c =
    let at = items_at c.self.inside.rows.items c.place_of.result c.index.result.now (within c) c.index.ensures in
    let l = c.len.ensures in
    let ok = c.index.result.now.ok.0 in
    let e = ap (λ (q : ℕ). length (slice_index_or (lists c.self.inside.rows.items) q [])) c.place_of.ensures in
    let f = ap (λ (l : List ℕ). length l) at in
    omega (arith, l, ok, e, f)

pub returns-clause-row : goal.returns-clause-row
returns-clause-row c =
    let inside = c.self.inside in
    let less = within c in
    let place = c.place_of.ensures in
    let long = row_long inside.wins.items (lists inside.rows.items) (texts_of inside.texts.items) (c.args.rule - 1) (omega (arith, less, place, length-map inside.rows.items (λ (v : Vec ℕ Global). v.items))) in
    let S : LeastTexts → Type 0 = λ t. c.len.result ≡ length (slice_index_or t.rows (c.args.rule - 1) []) in
    subst S c.self.view_is (row_is c ∙ sym long)

pub returns-clause-count : goal.returns-clause-count
returns-clause-count c =
    let same = many c in
    let long = long_behind (length c.self.inside.wins.items) (lists c.self.inside.rows.items) c.args.rule c.self.invariant c.requires.from_1 (omega (arith, same, c.requires.within)) in
    let row = row_is c in
    omega (arith, long, row, same)
