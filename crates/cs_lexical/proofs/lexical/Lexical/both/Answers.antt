-- The number stands in the lower rule's row, at the distance between both rules.
use Rattle.std.proofs.Common.{◌≡◌, ◌-◌, ◌<◌, ◌∙◌, [], List, Vec, Global, Option, None, ap, sym, subst, ℕ, arith, length}
use Rattle.std.specs.Prelude.{option_map, slice_index, slice_index_or}
use Rattle.std.proofs.lemmas.List.{get_or_read, length-map}
use Rattle.cs_scanner.specs.Lexeme.Texts.{texts_of}
use Rattle.cs_lexical.specs.Least.{LeastTexts, both_in, lists, rules_of}
use Rattle.cs_lexical.specs.Noting.{number_in}
use Rattle.cs_lexical.proofs.Reading.{both_seen, rules_seen}
use Rattle.cs_lexical.proofs.Rows.{items_at, long_behind}
use Rattle.cs_lexical.proofs.lexical.Lexical.both.Goals as goal
use Rattle.cs_lexical.proofs.lexical.Lexical.both.Goals.{After-deref}

many : (c : goal.After-deref) → rules_of c.args.self.now ≡ length c.self.inside.wins.items
many c =
    let inside = c.self.inside in
    let R : LeastTexts → Type 0 = λ t. rules_of t ≡ length inside.wins.items in
    subst R c.self.view_is (rules_seen inside.wins.items (lists inside.rows.items) (texts_of inside.texts.items))

-- the row as the table has it
row_is : (c : goal.After-deref) → slice_index_or (lists c.self.inside.rows.items) (c.args.rule - 1) [] ≡ c.index-row.result.now.items
row_is c =
    let same = many c in
    let all = c.self.invariant.all in
    let place = c.place_of.ensures in
    let within : c.place_of.result < length c.self.inside.rows.items = omega (arith, same, all, place, c.requires.from_1, c.requires.ascending, c.requires.within, length-map c.self.inside.rows.items (λ (v : Vec ℕ Global). v.items)) in
    ap (λ (q : ℕ). slice_index_or (lists c.self.inside.rows.items) q []) (sym place) ∙ items_at c.self.inside.rows.items c.place_of.result c.index-row.result.now within c.index-row.ensures

short : (c : goal.After-deref) → c.args.other - c.args.rule - 1 < length c.index-row.result.now.items
short c =
    let same = many c in
    let long = long_behind (length c.self.inside.wins.items) (lists c.self.inside.rows.items) c.args.rule c.self.invariant c.requires.from_1 (omega (arith, same, c.requires.ascending, c.requires.within)) in
    let row = ap (λ (l : List ℕ). length l) (row_is c) in
    omega (arith, long, row, same, c.requires.ascending, c.requires.within)

pub index-requires : goal.index-requires
index-requires c =
    let less = short c in
    let ok = c.index-row.result.now.ok.0 in
    omega (arith, less, ok)

pub returns : goal.returns
returns c =
    let inside = c.self.inside in
    let deref = (goal.at.returns c).After-deref in
    let same = many deref in
    let number : c.index.result.now ≡ number_in (lists inside.rows.items) c.args.rule c.args.other =
    get_or_read c.index-row.result.now.items (c.args.other - c.args.rule - 1) c.index.result.now (short deref) c.index.ensures 0
    ∙ ap (λ (l : List ℕ). slice_index l (c.args.other - c.args.rule - 1)) (sym (row_is deref)) in
    let seen = both_seen inside.wins.items (lists inside.rows.items) (texts_of inside.texts.items) c.args.rule c.args.other c.self.invariant c.requires.from_1 c.requires.ascending (omega (arith, same, c.requires.within)) in
    let S : LeastTexts → Type 0 = λ t. option_map (λ text. text.now) c.text_with.result ≡ both_in t c.args.rule c.args.other in
    subst S c.self.view_is
    (c.text_with.ensures
    ∙ ap (λ (l : List (Option (Vec ℕ Global))). slice_index_or (texts_of l) c.index.result.now None) c.deref.ensures.value
    ∙ ap (λ (q : ℕ). slice_index_or (texts_of inside.texts.items) q None) number
    ∙ sym seen)
