-- What the head of a suite tells: the closed sets, what is weighed, and the lexemes.
use Rattle.std.proofs.Common.{◌≡◌, ℕ, ◌≤◌, Bool, true, false, List, [], ◌∷◌, ◌++◌, Option, None, Some, map, length, length-append, refl, sym, ap, ◌∙◌, append-nil, arith}
use Rattle.std.specs.Prelude.{◌||◌}
use Rattle.std.specs.List.{cons_option, filter_map, list_any}
use Rattle.cs_grammar.specs.declared.symbol.Mark.TheVariants as marks
use Rattle.cs_scanner.specs.Lexeme.Lexeme.{lexeme_in}
use Rattle.cs_manifest.proofs.OnManifest.Zips.{length_zip}
use Rattle.cs_lines.specs.Words.Names.{token_text, token_of, nonterminal_of, mark_text}
use Rattle.cs_lines.specs.Lines.Line.{SetKind, Productive, Reachable, Empty, RowKind, First, Last, Next, Line, Opening, Weighing, TokenLine, LexemeLine, SetLine, RowLine}
use Rattle.cs_check.specs.Passing.Above.{set_in, row_in, weigh_in, lexeme_in as text_in, is_set, has_sets, weighs, lexemes as texts_in}
use Rattle.cs_check.specs.Passing.Head.{rule_of, tables, whole_head}
use Rattle.cs_check.proofs.OnChecking.Told.{kept}
use Rattle.cs_check.proofs.OnChecking.Kinds.{is_head}
use Rattle.cs_accord.specs.Suite.{token_lines, rule_lines, lexeme_lines, table_lines, set_lines, edge_lines, next_line, next_lines, row_lines, closed_lines, head_lines}
use Rattle.cs_accord.proofs.OnSuite.Lists.{told_both, told_none, told_each, told_numbers, none_numbered, entries_are}
use Rattle.cs_accord.proofs.OnSuite.Claims.{AreTold}
use Rattle.cs_accord.proofs.OnSuite.HeadLines.{IsHeadLine, sets_behind}
use Rattle.cs_accord.proofs.OnSuite.Setting.{Setting, IsSetting}
use Rattle.cs_accord.proofs.OnSuite.Head.{tables_none, head_zip, tables_zip}

module _ (s : Setting) where
  abbrev opened : List Line
  opened = Opening ∷ Weighing s.choice.weigh ∷ []

  weigh_told : filter_map weigh_in (table_lines s.file s.choice.weigh s.lexemes) ≡ s.choice.weigh ∷ []
  weigh_told =
      told_none weigh_in (opened ++ token_lines s.file ++ rule_lines s.file) (lexeme_lines s.file s.lexemes) (s.choice.weigh ∷ [])
      (told_none weigh_in (opened ++ token_lines s.file) (rule_lines s.file) (s.choice.weigh ∷ [])
      (told_none weigh_in opened (token_lines s.file) (s.choice.weigh ∷ []) refl (none_numbered weigh_in (λ n name. TokenLine n (token_text name)) (λ k x. refl) 1 s.file.token_names))
      (none_numbered weigh_in (λ n rule. rule_of s.file n rule) (λ k x. refl) 1 s.file.grammar.rules))
      (none_numbered weigh_in (λ n name. LexemeLine (token_text name) (lexeme_in s.lexemes n)) (λ k x. refl) 1 s.file.token_names)

  lexemes_told : length s.lexemes ≡ length s.file.token_names → filter_map text_in (table_lines s.file s.choice.weigh s.lexemes) ≡ s.lexemes
  lexemes_told many =
      told_both text_in (opened ++ token_lines s.file ++ rule_lines s.file) (lexeme_lines s.file s.lexemes) [] s.lexemes
      (told_none text_in (opened ++ token_lines s.file) (rule_lines s.file) []
      (told_none text_in opened (token_lines s.file) [] refl (none_numbered text_in (λ n name. TokenLine n (token_text name)) (λ k x. refl) 1 s.file.token_names))
      (none_numbered text_in (λ n rule. rule_of s.file n rule) (λ k x. refl) 1 s.file.grammar.rules))
      (told_numbers text_in (λ n name. LexemeLine (token_text name) (lexeme_in s.lexemes n)) (λ n. lexeme_in s.lexemes n) (λ k x. refl) 1 s.file.token_names
      ∙ entries_are s.lexemes (length s.file.token_names) None many)

  -- ---- the closed lines

  module _ {X : Type 0} (h : Line → Option X) where
    rows_none : ((kind : RowKind) (name : List ℕ) (names : List (List ℕ)) → h (RowLine kind name names) ≡ None) → filter_map h (row_lines s.file s.closed) ≡ []
    rows_none row =
        let first = edge_lines First s.file s.closed.first in
        let last = edge_lines Last s.file s.closed.last in
        let next = next_line s.file marks.Begin s.closed.begin in
        told_none h (first ++ last) (next ∷ next_lines s.file s.closed.next) []
        (told_none h first last [] (none_numbered h (λ n set. RowLine First (nonterminal_of s.file n) (map (token_of s.file) set)) (λ k x. row First _ _) 1 s.closed.first)
        (none_numbered h (λ n set. RowLine Last (nonterminal_of s.file n) (map (token_of s.file) set)) (λ k x. row Last _ _) 1 s.closed.last))
        (told_none h (next ∷ []) (next_lines s.file s.closed.next) [] (ap (λ (o : Option X). cons_option o []) (row Next _ _))
        (none_numbered h (λ t set. next_line s.file (marks.Token t) set) (λ k x. row Next _ _) 1 s.closed.next))

    closed_none : ((kind : SetKind) (names : List (List ℕ)) → h (SetLine kind names) ≡ None) → ((kind : RowKind) (name : List ℕ) (names : List (List ℕ)) → h (RowLine kind name names) ≡ None)
        → filter_map h (closed_lines s.file s.closed) ≡ []
    closed_none set row =
        let second : List Line = SetLine Reachable (map (nonterminal_of s.file) s.closed.reachable) ∷ SetLine Empty (map (nonterminal_of s.file) s.closed.empty) ∷ [] in
        told_none h (set_lines s.file s.closed) (row_lines s.file s.closed) []
        (ap (λ (o : Option X). cons_option o (filter_map h second)) (set Productive _)
        ∙ ap (λ (o : Option X). cons_option o (filter_map h (SetLine Empty (map (nonterminal_of s.file) s.closed.empty) ∷ []))) (set Reachable _)
        ∙ ap (λ (o : Option X). cons_option o []) (set Empty _))
        (rows_none row)

  -- a set, which is told where nothing else is
  set_told : (kind : SetKind) (set : List (List ℕ)) → filter_map (set_in kind) (table_lines s.file s.choice.weigh s.lexemes) ≡ [] → filter_map (set_in kind) (set_lines s.file s.closed) ≡ set ∷ []
      → filter_map (set_in kind) (row_lines s.file s.closed) ≡ [] → filter_map (set_in kind) (head_lines s.file s.choice.weigh s.lexemes s.closed) ≡ set ∷ []
  set_told kind set none here rest =
      told_both (set_in kind) (table_lines s.file s.choice.weigh s.lexemes) (closed_lines s.file s.closed) [] (set ∷ []) none
      (told_none (set_in kind) (set_lines s.file s.closed) (row_lines s.file s.closed) (set ∷ []) here rest)

  row_told : (kind : RowKind) (list : List (List (List ℕ))) → filter_map (row_in kind) (table_lines s.file s.choice.weigh s.lexemes) ≡ [] → filter_map (row_in kind) (set_lines s.file s.closed) ≡ []
      → filter_map (row_in kind) (row_lines s.file s.closed) ≡ list → filter_map (row_in kind) (head_lines s.file s.choice.weigh s.lexemes s.closed) ≡ list
  row_told kind list none set here =
      told_both (row_in kind) (table_lines s.file s.choice.weigh s.lexemes) (closed_lines s.file s.closed) [] list none
      (told_both (row_in kind) (set_lines s.file s.closed) (row_lines s.file s.closed) [] list set here)

  edge_none : (kind other : RowKind) → ((name : List ℕ) (names : List (List ℕ)) → row_in kind (RowLine other name names) ≡ None) → (lists : List (List ℕ)) → filter_map (row_in kind) (edge_lines other s.file lists) ≡ []
  edge_none kind other none lists = none_numbered (row_in kind) (λ n set. RowLine other (nonterminal_of s.file n) (map (token_of s.file) set)) (λ k x. none _ _) 1 lists

  edge_told : (kind : RowKind) → ((name : List ℕ) (names : List (List ℕ)) → row_in kind (RowLine kind name names) ≡ Some names) → (lists : List (List ℕ)) → filter_map (row_in kind) (edge_lines kind s.file lists) ≡ map (map (token_of s.file)) lists
  edge_told kind some lists = told_each (row_in kind) (λ n set. RowLine kind (nonterminal_of s.file n) (map (token_of s.file) set)) (map (token_of s.file)) (λ k x. some _ _) 1 lists

  nexts_none : (kind : RowKind) → ((name : List ℕ) (names : List (List ℕ)) → row_in kind (RowLine Next name names) ≡ None) → filter_map (row_in kind) (next_line s.file marks.Begin s.closed.begin ∷ next_lines s.file s.closed.next) ≡ []
  nexts_none kind none =
      told_none (row_in kind) (next_line s.file marks.Begin s.closed.begin ∷ []) (next_lines s.file s.closed.next) [] (ap (λ (o : Option (List (List ℕ))). cons_option o []) (none _ _))
      (none_numbered (row_in kind) (λ t set. next_line s.file (marks.Token t) set) (λ k x. none _ _) 1 s.closed.next)

  first_told : filter_map (row_in First) (row_lines s.file s.closed) ≡ map (map (token_of s.file)) s.closed.first
  first_told =
      told_none (row_in First) (edge_lines First s.file s.closed.first ++ edge_lines Last s.file s.closed.last) (next_line s.file marks.Begin s.closed.begin ∷ next_lines s.file s.closed.next) (map (map (token_of s.file)) s.closed.first)
      (told_none (row_in First) (edge_lines First s.file s.closed.first) (edge_lines Last s.file s.closed.last) (map (map (token_of s.file)) s.closed.first)
      (edge_told First (λ n ns. refl) s.closed.first) (edge_none First Last (λ n ns. refl) s.closed.last))
      (nexts_none First (λ n ns. refl))

  last_told : filter_map (row_in Last) (row_lines s.file s.closed) ≡ map (map (token_of s.file)) s.closed.last
  last_told =
      told_none (row_in Last) (edge_lines First s.file s.closed.first ++ edge_lines Last s.file s.closed.last) (next_line s.file marks.Begin s.closed.begin ∷ next_lines s.file s.closed.next) (map (map (token_of s.file)) s.closed.last)
      (told_both (row_in Last) (edge_lines First s.file s.closed.first) (edge_lines Last s.file s.closed.last) [] (map (map (token_of s.file)) s.closed.last)
      (edge_none Last First (λ n ns. refl) s.closed.first) (edge_told Last (λ n ns. refl) s.closed.last))
      (nexts_none Last (λ n ns. refl))

  next_told : filter_map (row_in Next) (row_lines s.file s.closed) ≡ map (mark_text s.file) s.closed.begin ∷ map (map (mark_text s.file)) s.closed.next
  next_told =
      told_both (row_in Next) (edge_lines First s.file s.closed.first ++ edge_lines Last s.file s.closed.last) (next_line s.file marks.Begin s.closed.begin ∷ next_lines s.file s.closed.next) []
      (map (mark_text s.file) s.closed.begin ∷ map (map (mark_text s.file)) s.closed.next)
      (told_none (row_in Next) (edge_lines First s.file s.closed.first) (edge_lines Last s.file s.closed.last) []
      (edge_none Next First (λ n ns. refl) s.closed.first) (edge_none Next Last (λ n ns. refl) s.closed.last))
      (told_both (row_in Next) (next_line s.file marks.Begin s.closed.begin ∷ []) (next_lines s.file s.closed.next) (map (mark_text s.file) s.closed.begin ∷ []) (map (map (mark_text s.file)) s.closed.next)
      refl (told_each (row_in Next) (λ t set. next_line s.file (marks.Token t) set) (map (mark_text s.file)) (λ k x. refl) 1 s.closed.next))

  pub head_told : IsSetting s → AreTold s.file s.closed (head_lines s.file s.choice.weigh s.lexemes s.closed)
  head_told is = record {
    productive = set_told Productive (map (nonterminal_of s.file) s.closed.productive)
        (tables_none is (set_in Productive) refl (λ w. refl) (λ n x. refl) (λ n l r. refl) (λ x t. refl)) refl (rows_none (set_in Productive) (λ k n ns. refl));
    reachable = set_told Reachable (map (nonterminal_of s.file) s.closed.reachable)
        (tables_none is (set_in Reachable) refl (λ w. refl) (λ n x. refl) (λ n l r. refl) (λ x t. refl)) refl (rows_none (set_in Reachable) (λ k n ns. refl));
    empty = set_told Empty (map (nonterminal_of s.file) s.closed.empty)
        (tables_none is (set_in Empty) refl (λ w. refl) (λ n x. refl) (λ n l r. refl) (λ x t. refl)) refl (rows_none (set_in Empty) (λ k n ns. refl));
    first = row_told First (map (map (token_of s.file)) s.closed.first)
        (tables_none is (row_in First) refl (λ w. refl) (λ n x. refl) (λ n l r. refl) (λ x t. refl)) refl first_told;
    last = row_told Last (map (map (token_of s.file)) s.closed.last)
        (tables_none is (row_in Last) refl (λ w. refl) (λ n x. refl) (λ n l r. refl) (λ x t. refl)) refl last_told;
    next = row_told Next (map (mark_text s.file) s.closed.begin ∷ map (map (mark_text s.file)) s.closed.next)
        (tables_none is (row_in Next) refl (λ w. refl) (λ n x. refl) (λ n l r. refl) (λ x t. refl)) refl next_told;
  }

  -- ---- below the head

  -- what lines behind the head leave as it is
  pub record IsBelow (above : List Line) : Type 0 where
    pub told : AreTold s.file s.closed above
    pub weighed : weighs above ≡ s.choice.weigh ∷ []
    pub texts : texts_in above ≡ s.lexemes
    pub has : has_sets above ≡ true
    pub long : length (whole_head s.file.grammar) ≤ length above

  pub head_below : IsSetting s → IsBelow (head_lines s.file s.choice.weigh s.lexemes s.closed)
  head_below is =
      let head = head_lines s.file s.choice.weigh s.lexemes s.closed in
      let zip = head_zip is in
      let all : length head ≡ length (whole_head s.file.grammar) = length_zip (IsHeadLine s.file) (whole_head s.file.grammar) head zip in
      let front : length (table_lines s.file s.choice.weigh s.lexemes) ≡ length (tables s.file.grammar) =
      length_zip (IsHeadLine s.file) (tables s.file.grammar) (table_lines s.file s.choice.weigh s.lexemes) (tables_zip is) in
      record {
        told = head_told is;
        weighed = told_none weigh_in (table_lines s.file s.choice.weigh s.lexemes) (closed_lines s.file s.closed) (s.choice.weigh ∷ []) weigh_told (closed_none weigh_in (λ k n. refl) (λ k n ns. refl));
        texts = told_none text_in (table_lines s.file s.choice.weigh s.lexemes) (closed_lines s.file s.closed) s.lexemes (lexemes_told (is.lexemes.all ∙ sym is.named.is.tokens)) (closed_none text_in (λ k n. refl) (λ k n ns. refl));
        has =
            sets_behind (table_lines s.file s.choice.weigh s.lexemes) (SetLine Productive (map (nonterminal_of s.file) s.closed.productive))
            (SetLine Reachable (map (nonterminal_of s.file) s.closed.reachable) ∷ SetLine Empty (map (nonterminal_of s.file) s.closed.empty) ∷ row_lines s.file s.closed)
            head [] refl (sym (append-nil head)) (let long = length-append (table_lines s.file s.choice.weigh s.lexemes) (closed_lines s.file s.closed) in omega (arith, long));
        long = omega (arith, all);
      }

  or_more : (a b d : Bool) → (a || b) ≡ true → (b ≡ true → d ≡ true) → (a || d) ≡ true
  or_more true b d e more = refl
  or_more false b d e more = more e

  any_more : (xs : List Line) (l : Line) → list_any is_set xs ≡ true → list_any is_set (xs ++ l ∷ []) ≡ true
  any_more [] l e = absurd cc
  any_more (x ∷ xs) l e = or_more (is_set x) (list_any is_set xs) (list_any is_set (xs ++ l ∷ [])) e (any_more xs l)

  none_set : (kind : SetKind) (l : Line) → is_head l ≡ false → set_in kind l ≡ None
  none_set kind (SetLine other names) e = absurd cc
  none_set Productive l e = refl
  none_set Reachable l e = refl
  none_set Empty l e = refl

  none_row : (kind : RowKind) (l : Line) → is_head l ≡ false → row_in kind l ≡ None
  none_row kind (RowLine other name names) e = absurd cc
  none_row First l e = refl
  none_row Last l e = refl
  none_row Next l e = refl

  none_weigh : (l : Line) → is_head l ≡ false → weigh_in l ≡ None
  none_weigh (Weighing w) e = absurd cc
  none_weigh l e = refl

  none_text : (l : Line) → is_head l ≡ false → text_in l ≡ None
  none_text (LexemeLine name text) e = absurd cc
  none_text l e = refl

  pub below_more : (above : List Line) (l : Line) → is_head l ≡ false → IsBelow above → IsBelow (above ++ l ∷ [])
  below_more above l behind b = record {
    told = record {
      productive = kept (set_in Productive) above l (none_set Productive l behind) ∙ b.told.productive;
      reachable = kept (set_in Reachable) above l (none_set Reachable l behind) ∙ b.told.reachable;
      empty = kept (set_in Empty) above l (none_set Empty l behind) ∙ b.told.empty;
      first = kept (row_in First) above l (none_row First l behind) ∙ b.told.first;
      last = kept (row_in Last) above l (none_row Last l behind) ∙ b.told.last;
      next = kept (row_in Next) above l (none_row Next l behind) ∙ b.told.next;
    };
    weighed = kept weigh_in above l (none_weigh l behind) ∙ b.weighed;
    texts = kept text_in above l (none_text l behind) ∙ b.texts;
    has = any_more above l b.has;
    long = let more = length-append above (l ∷ []) in let long = b.long in omega (arith, more, long);
  }
