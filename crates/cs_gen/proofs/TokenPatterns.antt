-- The patterns of a generated lex file: bytes that stand for themselves, and the bracket of a space and a newline.
use Rattle.std.proofs.Common.{◌≡◌, ◌≢◌, ◌↔◌, ℕ, suc, ◌+◌, ◌<◌, ◌≤◌, Bool, true, false, ◌||◌, List, [], ◌∷◌, length, drop, refl, sym, ap, subst, ◌∙◌, inl, inr, arith, Some, None}
use Rattle.std.specs.Prelude.{codes, nat_lt, ◌==◌}
use Rattle.std.specs.List.{list_all}
use Rattle.std.proofs.lemmas.Bool.{false≢true, eqb-true}
use Rattle.std.proofs.lemmas.Bool.Decides.{nat_tests}
use Rattle.std.proofs.lemmas.List.{drop-drop}
use Rattle.cs_bytes.proofs.Fronts.{and_true, false-eqb}
use Rattle.cs_pattern_parts.specs.declared.items.item.Repetition.TheVariants.{AtLeast}
use Rattle.cs_pattern_parts.specs.Items.ByteKind.{is_plain}
use Rattle.cs_pattern_parts.specs.Items.Items as items
use Rattle.cs_pattern_parts.specs.Items.Items.{Placed, items_of}
use Rattle.cs_pattern_parts.specs.Items.Members.{has, bytes_where}
use Rattle.cs_pattern_parts.specs.Items.Parts.{Escapes, itself_or_control, InTurn}
use Rattle.cs_pattern_parts.specs.Items.Parts as parts
use Rattle.cs_pattern_parts.specs.Items.Brackets.{BracketMark, plain, escaped, Member, one, IsBracketPart, of_class, of_symbol, of_equivalence, IsMark, itself, escape, others, IsClosed, upright, AreMembers, none, single, IsOf, IsBracket}
use Rattle.cs_pattern_parts.specs.Items.Spelling.{one_byte, Spells, byte, bracket, plus_sign}
use Rattle.cs_pattern_parts.proofs.OnItems.Picked.{has_picked, bytes_where-set}
use Rattle.cs_pattern.specs.Operations.Grammar.{Tree, LastBranch, Branch, LastPiece, Beside, Piece, Repeated, Bytes, branch_items, piece_parts}
use Rattle.cs_pattern.specs.Operations.Depth.{depth, branch_depth, pattern_of}
use Rattle.cs_pattern_parts.specs.Tree.Pattern.{Empty, Join, Parts, Nothing, Then, alone_or, leaves, all_leaves}
use Rattle.cs_pattern.specs.Text.Table.{place, ReadsTo, Reads}
use Rattle.cs_pattern.specs.Text.Substitution.{BranchPutIn}
use Rattle.cs_pattern.specs.Text.Limits.{passed_limit}
use Rattle.cs_pattern.specs.Text.Answers.{IsPatternOf}
use Rattle.cs_gen.proofs.Digits.{some_apart}

-- ---- bytes that stand for themselves

abbrev pub piece_of : ℕ → Piece
piece_of b = Repeated (Bytes (one_byte b)) []

abbrev pub branch_of : ℕ → List ℕ → Branch
branch_of b [] = LastPiece (piece_of b)
branch_of b (c ∷ cs) = Beside (piece_of b) (branch_of c cs)

abbrev pub tree_of : ℕ → List ℕ → Tree
tree_of b cs = LastBranch (branch_of b cs)

abbrev placed_from : ℕ → List ℕ → List Placed
placed_from at [] = []
placed_from at (b ∷ cs) = record { at = at; item = items.class (one_byte b) } ∷ placed_from (at + 1) cs

items_are : (at b : ℕ) (cs : List ℕ) → items_of (placed_from at (b ∷ cs)) ≡ branch_items (branch_of b cs)
items_are at b [] = refl
items_are at b (c ∷ cs) = ap (λ (x : List items.Item). items.class (one_byte b) ∷ x) (items_are (at + 1) c cs)

spells_byte : (b : ℕ) (rest : List ℕ) → is_plain b ≡ true → Spells (b ∷ rest) 1 (items.class (one_byte b))
spells_byte b rest h = byte b h (record { rest = rest; is = refl; size = refl })

reads_bytes : (bytes : List ℕ) (at : ℕ) (cs : List ℕ) → drop at bytes ≡ cs → at + length cs ≡ length bytes → list_all is_plain cs ≡ true → ReadsTo bytes at (place true 0) (placed_from at cs) (length bytes) (place true 0)
reads_bytes bytes at [] e long all = (omega arith, refl)
reads_bytes bytes at (b ∷ cs) e long all =
    let both = and_true (is_plain b) (list_all is_plain cs) all in
    let next : drop (at + 1) bytes ≡ cs = sym (drop-drop 1 at bytes) ∙ ap (drop 1) e in
    (1, place true 0, refl, subst (λ (t : List ℕ). Spells t 1 (items.class (one_byte b))) (sym e) (spells_byte b cs both.0), refl, reads_bytes bytes (at + 1) cs next (omega arith) both.1)

put_in_itself : (b : ℕ) (cs : List ℕ) → BranchPutIn [] (branch_of b cs) (branch_of b cs)
put_in_itself b [] = (piece_of b, refl, (Bytes (one_byte b), refl, refl))
put_in_itself b (c ∷ cs) = (piece_of b, branch_of c cs, refl, (Bytes (one_byte b), refl, refl), put_in_itself c cs)

no_depth : (b : ℕ) (cs : List ℕ) → branch_depth (branch_of b cs) ≡ 0
no_depth b [] = refl
no_depth b (c ∷ cs) = omega (arith, no_depth c cs)

alone_leaves : (ps : Parts) → leaves (alone_or Join ps) ≡ all_leaves ps
alone_leaves Nothing = refl
alone_leaves (Then r Nothing) = omega arith
alone_leaves (Then r (Then s rs)) = refl

some_leaves : (b : ℕ) (cs : List ℕ) → all_leaves (piece_parts (λ name. Empty) (branch_of b cs)) ≡ suc (length cs)
some_leaves b [] = refl
some_leaves b (c ∷ cs) = omega (arith, some_leaves c cs)

pub bytes_leaves : (b : ℕ) (cs : List ℕ) → leaves (pattern_of (tree_of b cs)) ≡ suc (length cs)
bytes_leaves b cs = alone_leaves (piece_parts (λ name. Empty) (branch_of b cs)) ∙ some_leaves b cs

no_limit : (d n : ℕ) → d ≤ 200 → n ≤ 8192 → passed_limit d n ≡ None
no_limit d n a b = let e : nat_lt 200 d ≡ false = grind (arith, nat_tests) in let f : nat_lt 8192 n ≡ false = grind (arith, nat_tests) in rw (e, f) refl

pub bytes_pattern : (b : ℕ) (cs : List ℕ) → list_all is_plain (b ∷ cs) ≡ true → (b ≡ 60 → ⊥) → length cs ≤ 100 → IsPatternOf [] (b ∷ cs) (pattern_of (tree_of b cs))
bytes_pattern b cs all no_angle few =
    let both = and_true (is_plain b) (list_all is_plain cs) all in
    let reads : Reads (b ∷ cs) (placed_from 0 (b ∷ cs)) = record {
      plain = false-eqb b 60 no_angle;
      last = place true 0;
      read = (1, place true 0, refl, spells_byte b cs both.0, refl, reads_bytes (b ∷ cs) 1 cs refl (omega arith) both.1);
      ends = refl;
    } in
    record {
      tree = tree_of b cs;
      is_tree = record { spelled = tree_of b cs; is_spelled = record { items = placed_from 0 (b ∷ cs); read = reads; derived = items_are 0 b cs }; put_in = (branch_of b cs, refl, put_in_itself b cs) };
      within = no_limit (depth (tree_of b cs)) (leaves (pattern_of (tree_of b cs))) (omega (arith, no_depth b cs)) (omega (arith, bytes_leaves b cs));
      is = refl;
    }

-- ---- `[ \n]+`

-- a space or a newline
abbrev pub is_spacing : ℕ → Bool
is_spacing b = (b == 32) || (b == 10)

abbrev pub spacing : List ℕ
spacing = bytes_where is_spacing

abbrev pub spacing_text : List ℕ
spacing_text = codes "[ \\n]+"

no_part : (b : ℕ) (rest : List ℕ) → b ≢ 91 → (n : ℕ) (m : BracketMark) → IsBracketPart (b ∷ rest) n m → ⊥
no_part b rest ne n m (of_class name all s) = let e = s.is in ne cc
no_part b rest ne n m (of_symbol name all s) = let e = s.is in ne cc
no_part b rest ne n m (of_equivalence name all s) = let e = s.is in ne cc

abbrev marks_list : List BracketMark
marks_list = plain 32 ∷ escaped (Some 10) ∷ []

abbrev members_list : List Member
members_list = one (plain 32) ∷ one (escaped (Some 10)) ∷ []

marks_there : InTurn IsMark (drop 1 spacing_text) 3 marks_list
marks_there =
    let escape_there : Escapes (codes "n]+") 1 (Some 10) = itself_or_control 110 (codes "]+") (Some 10) refl (omega arith) (λ e. absurd (omega arith)) refl in
    let behind : InTurn IsMark (codes "\\n]+") 2 (escaped (Some 10) ∷ []) = parts.more (codes "\\n]+") 2 0 (escaped (Some 10)) [] (escape (codes "n]+") 1 (Some 10) escape_there) (parts.none (codes "]+")) in
    parts.more (codes " \\n]+") 1 2 (plain 32) (escaped (Some 10) ∷ []) (itself 32 (codes "\\n]+") (omega arith) (omega arith) (omega arith) (no_part 32 (codes "\\n]+") (omega arith))) behind

closed_there : IsClosed spacing_text 5 false marks_list
closed_there =
    upright (drop 1 spacing_text) 3 marks_list (λ e. some_apart 32 94 refl e)
    (others (drop 1 spacing_text) 3 marks_list (λ e. some_apart 32 93 refl e) marks_there) refl

grouped_there : AreMembers marks_list members_list
grouped_there =
    single (plain 32) (escaped (Some 10) ∷ []) (one (escaped (Some 10)) ∷ []) (λ y more e. let f : escaped (Some 10) ≡ plain 45 = heads e in absurd cc)
    (single (escaped (Some 10)) [] [] (λ y more e. absurd cc) none)
  where
    heads : {x y : BracketMark} {xs ys : List BracketMark} → x ∷ xs ≡ y ∷ ys → x ≡ y
    heads e = cc

spacing_each : (b : ℕ) → b < 256 → (has spacing b ≡ true) ↔ IsOf false members_list b
spacing_each b lt = (λ e. from_test (b == 32) (b == 10) refl refl (sym (has_picked is_spacing 256 b lt) ∙ e), λ h. has_picked is_spacing 256 b lt ∙ to_test h)
  where
    from_test : (s t : Bool) → (b == 32) ≡ s → (b == 10) ≡ t → (s || t) ≡ true → IsOf false members_list b
    from_test true t e f h = inl (sym (eqb-true b 32 e))
    from_test false true e f h = inr (inl (ap Some (sym (eqb-true b 10 f))))
    from_test false false e f h = absurd (false≢true h)

    to_test : IsOf false members_list b → is_spacing b ≡ true
    to_test (inl e) = rw (← e) refl
    to_test (inr (inl e)) = let f : 10 ≡ b = cc in rw (← f) refl
    to_test (inr (inr e)) = absurd e

spacing_some : spacing ≢ []
spacing_some e = false≢true (sym (ap (λ (s : List ℕ). has s 32) e) ∙ has_picked is_spacing 256 32 (omega arith))

bracket_there : IsBracket spacing_text 5 spacing
bracket_there = record {
  inverted = false;
  marks = marks_list;
  members = members_list;
  closed = closed_there;
  grouped = grouped_there;
  allowed = (tt, ((10, refl), tt));
  is_set = bytes_where-set is_spacing;
  each = spacing_each;
  some = spacing_some;
}

abbrev pub spacing_tree : Tree
spacing_tree = LastBranch (LastPiece (Repeated (Bytes spacing) (AtLeast 1 ∷ [])))

abbrev spacing_items : List Placed
spacing_items = record { at = 0; item = items.class spacing } ∷ record { at = 5; item = items.repetition (AtLeast 1) } ∷ []

pub spacing_pattern : IsPatternOf [] spacing_text (pattern_of spacing_tree)
spacing_pattern =
    let plus : Spells (codes "+") 1 (items.repetition (AtLeast 1)) = plus_sign (record { rest = []; is = refl; size = refl }) in
    let reads : Reads spacing_text spacing_items = record {
      plain = refl;
      last = place true 0;
      read = (5, place true 0, refl, bracket spacing bracket_there, refl, (1, place true 0, refl, plus, refl, (refl, refl)));
      ends = refl;
    } in
    record {
      tree = spacing_tree;
      is_tree = record { spelled = spacing_tree; is_spelled = record { items = spacing_items; read = reads; derived = refl }; put_in = (LastPiece (Repeated (Bytes spacing) (AtLeast 1 ∷ [])), refl, (Repeated (Bytes spacing) (AtLeast 1 ∷ []), refl, (Bytes spacing, refl, refl))) };
      within = refl;
      is = refl;
    }
