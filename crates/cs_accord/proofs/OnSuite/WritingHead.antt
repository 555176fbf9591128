-- The head of a suite is written line by line.
use Rattle.std.proofs.Common.{◌≡◌, ℕ, ◌+◌, ◌<◌, ◌≤◌, List, [], ◌∷◌, ◌++◌, Option, Some, None, map, length, refl, sym, subst, append_assoc, arith}
use Rattle.std.specs.Prelude.{All, codes}
use Rattle.std.proofs.lemmas.List.Elements.{All-nil, All-cons, All-map, All-weaker}
use Rattle.std.proofs.lemmas.Option.{slice_get_within}
use Rattle.cs_grammar.specs.declared.symbol.Mark.{Mark}
use Rattle.cs_grammar.specs.declared.symbol.Mark.TheVariants as marks
use Rattle.cs_grammar.specs.Grammar.{IsNumberOf, IsSymbol, IsRuleOf}
use Rattle.cs_grammar.proofs.Measures.{All-at}
use Rattle.cs_scanner.specs.Lexeme.Lexeme.{IsLexemeOf, lexeme_in}
use Rattle.cs_scanner.specs.Scan.Scan.{Scanning}
use Rattle.cs_pattern_parts.specs.Items.StandsFor.{AreBytes}
use Rattle.cs_manifest.specs.Output.Names.{AreNamedMarks, AreNamedTokens, IsNamedMark, IsNamedToken}
use Rattle.cs_manifest.specs.Output.Words.{line, with_numbers}
use Rattle.cs_manifest.specs.Manifest.Lines as put
use Rattle.cs_manifest.specs.Manifest.SharedLines as put_shared
use Rattle.cs_manifest.proofs.OnManifest.Naming.{sets_named, first_named, last_named, begin_named, next_named, first_many, last_many, next_many}
use Rattle.cs_lines.specs.Words.Words.{IsWord}
use Rattle.cs_lines.specs.Words.Names.{token_text, token_of, nonterminal_of, symbol_text, mark_text}
use Rattle.cs_lines.specs.Lines.Line.{SetKind, Productive, Reachable, Empty, RowKind, First, Last, Line, Opening, Weighing, TokenLine, LexemeLine, RowLine}
use Rattle.cs_lines.specs.Lines.Texts.{names, text_in}
use Rattle.cs_check.specs.Passing.Head.{rule_of}
use Rattle.cs_accord.specs.Named.{IsTokenName}
use Rattle.cs_accord.specs.Suite.{token_lines, rule_lines, lexeme_lines, table_lines, set_line, set_lines, edge_lines, next_line, next_lines, closed_lines, head_lines}
use Rattle.cs_accord.proofs.OnSuite.Inner.{IsSayable}
use Rattle.cs_accord.proofs.OnSuite.Naming.{token_word, token_is_word, nonterminal_is_word, symbol_is_word, mark_is_word, IsMark}
use Rattle.cs_accord.proofs.OnSuite.Setting.{Setting, IsSetting}
use Rattle.cs_accord.proofs.OnSuite.Saying.{Writes, writes_one, writes_both, writes_each, says_weigh, says_token, says_rule, says_lexeme, says_productive, says_reachable, says_empty, says_first, says_last, says_next}

pub no_bytes : AreBytes []
no_bytes = All-nil (λ (b : ℕ). b < 256)

lexeme_bytes : (s : Scanning) (t : ℕ) (name : List ℕ) (text : Option (List ℕ)) → IsLexemeOf s t text → AreBytes (text_in (LexemeLine name text))
lexeme_bytes s t name None h = no_bytes
lexeme_bytes s t name (Some text) h = h.bytes

tables_grouped : (front tokens rules lexemes : List Line) → front ++ ((tokens ++ rules) ++ lexemes) ≡ ((front ++ tokens) ++ rules) ++ lexemes
tables_grouped front tokens rules lexemes = simp (append_assoc) refl

closed_grouped : (sets first last begin next : List Line) → (((sets ++ first) ++ last) ++ begin) ++ next ≡ sets ++ ((first ++ last) ++ (begin ++ next))
closed_grouped sets first last begin next = simp (append_assoc) refl

module _ {s : Setting} (is : IsSetting s) where
  few_tokens : length s.file.token_names ≤ 512
  few_tokens = let few = is.named.is.grammar.tokens in let same = is.named.is.tokens in omega (arith, few, same)

  token_number : (t : ℕ) → IsNamedToken s.file t → IsNumberOf s.file.grammar.tokens t
  token_number t of = subst (λ k. IsNumberOf k t) is.named.is.tokens of

  nonterminal_number : (n : ℕ) → IsNumberOf (length s.file.nonterminal_names) n → IsNumberOf s.file.grammar.nonterminals n
  nonterminal_number n of = subst (λ k. IsNumberOf k n) is.named.is.nonterminals of

  mark_number : (m : Mark) → IsNamedMark s.file m → IsMark s.file is.named m
  mark_number marks.Begin of = tt
  mark_number (marks.Token t) of = token_number t of
  mark_number marks.End of = tt

  nonterminal_words : (set : List ℕ) → All (IsNumberOf (length s.file.nonterminal_names)) set → All IsWord (map (nonterminal_of s.file) set)
  nonterminal_words set all =
      All-map IsWord (nonterminal_of s.file) set
      (All-weaker (IsNumberOf (length s.file.nonterminal_names)) (λ n. IsWord (nonterminal_of s.file n)) (λ n of. nonterminal_is_word s.file is.named n (nonterminal_number n of)) set all)

  token_words : (set : List ℕ) → AreNamedTokens s.file set → All IsWord (map (token_of s.file) set)
  token_words set all =
      All-map IsWord (token_of s.file) set
      (All-weaker (IsNamedToken s.file) (λ t. IsWord (token_of s.file t)) (λ t of. token_is_word s.file is.named t (token_number t of)) set all)

  mark_words : (set : List Mark) → AreNamedMarks s.file set → All IsWord (map (mark_text s.file) set)
  mark_words set all =
      All-map IsWord (mark_text s.file) set
      (All-weaker (IsNamedMark s.file) (λ m. IsWord (mark_text s.file m)) (λ m of. mark_is_word s.file is.named m (mark_number m of)) set all)

  -- ---- the tables

  tokens_written : Writes (with_numbers put.token_line s.file.token_names) (token_lines s.file)
  tokens_written =
      writes_each put.token_line (λ n name. TokenLine n (token_text name) ∷ []) 1 s.file.token_names
      (λ i name at.
      let within = slice_get_within s.file.token_names i name at in
      writes_one (put.token_line (1 + i) name) (TokenLine (1 + i) (token_text name)) (says_token (1 + i) name (omega (arith, within, few_tokens)))
      (record { are_words = All-cons IsWord (token_text name) [] (token_word name (All-at IsTokenName s.file.token_names i name is.named.tokens at)) (All-nil IsWord); are_bytes = no_bytes }))

  rules_written : Writes (put.rule_lines s.file s.file.grammar.rules) (rule_lines s.file)
  rules_written =
      writes_each (put.rule_line s.file) (λ n rule. rule_of s.file n rule ∷ []) 1 s.file.grammar.rules
      (λ i p at.
      let within = slice_get_within s.file.grammar.rules i p at in
      let few = is.named.is.grammar.few in
      let rule = All-at (IsRuleOf s.file.grammar.tokens s.file.grammar.nonterminals) s.file.grammar.rules i p is.named.is.grammar.rules at in
      writes_one (put.rule_line s.file (1 + i) p) (rule_of s.file (1 + i) p) (says_rule s.file (1 + i) p (omega (arith, within, few)))
      (record {
        are_words =
            All-cons IsWord (nonterminal_of s.file p.left) (map (symbol_text s.file) p.right) (nonterminal_is_word s.file is.named p.left rule.left)
            (All-map IsWord (symbol_text s.file) p.right
            (All-weaker (IsSymbol s.file.grammar.tokens s.file.grammar.nonterminals) (λ x. IsWord (symbol_text s.file x)) (λ x of. symbol_is_word s.file is.named x of) p.right rule.right));
        are_bytes = no_bytes;
      }))

  lexemes_written : Writes (put.lexeme_lines s.lexemes s.file.token_names) (lexeme_lines s.file s.lexemes)
  lexemes_written =
      writes_each (put.lexeme_line s.lexemes) (λ n name. LexemeLine (token_text name) (lexeme_in s.lexemes n) ∷ []) 1 s.file.token_names
      (λ i name at.
      let within = slice_get_within s.file.token_names i name at in
      let many = is.named.is.tokens in
      writes_one (put.lexeme_line s.lexemes (1 + i) name) (LexemeLine (token_text name) (lexeme_in s.lexemes (1 + i))) (says_lexeme name (lexeme_in s.lexemes (1 + i)))
      (record {
        are_words = All-cons IsWord (token_text name) [] (token_word name (All-at IsTokenName s.file.token_names i name is.named.tokens at)) (All-nil IsWord);
        are_bytes = lexeme_bytes s.texts.scanning (1 + i) (token_text name) (lexeme_in s.lexemes (1 + i)) (is.lexemes.each (1 + i) (omega arith) (omega (arith, within, many)));
      }))

  -- ---- the closed lines

  set_sayable : (kind : SetKind) (set : List ℕ) → All (IsNumberOf (length s.file.nonterminal_names)) set → IsSayable (set_line kind s.file set)
  set_sayable kind set all = record { are_words = nonterminal_words set all; are_bytes = no_bytes }

  edge_sayable : (kind : RowKind) (n : ℕ) (set : List ℕ) → IsNumberOf s.file.grammar.nonterminals n → AreNamedTokens s.file set → IsSayable (RowLine kind (nonterminal_of s.file n) (map (token_of s.file) set))
  edge_sayable kind n set of all = record {
    are_words = All-cons IsWord (nonterminal_of s.file n) (map (token_of s.file) set) (nonterminal_is_word s.file is.named n of) (token_words set all);
    are_bytes = no_bytes;
  }

  next_sayable : (m : Mark) (set : List Mark) → IsMark s.file is.named m → AreNamedMarks s.file set → IsSayable (next_line s.file m set)
  next_sayable m set of all = record {
    are_words = All-cons IsWord (mark_text s.file m) (map (mark_text s.file) set) (mark_is_word s.file is.named m of) (mark_words set all);
    are_bytes = no_bytes;
  }

  first_written : Writes (put_shared.edge_lines (codes "closed first ") s.file s.closed.first) (edge_lines First s.file s.closed.first)
  first_written =
      writes_each (put_shared.edge_line (codes "closed first ") s.file) (λ n set. RowLine First (nonterminal_of s.file n) (map (token_of s.file) set) ∷ []) 1 s.closed.first
      (λ i set at.
      let within = slice_get_within s.closed.first i set at in
      let many = first_many s.file is.named.is s.closed is.closed in
      writes_one (put_shared.edge_line (codes "closed first ") s.file (1 + i) set) (RowLine First (nonterminal_of s.file (1 + i)) (map (token_of s.file) set)) (says_first s.file (1 + i) set)
      (edge_sayable First (1 + i) set (omega arith, (let same = is.named.is.nonterminals in omega (arith, within, many, same))) (All-at (AreNamedTokens s.file) s.closed.first i set (first_named s.file is.named.is s.closed is.closed) at)))

  last_written : Writes (put_shared.edge_lines (codes "closed last ") s.file s.closed.last) (edge_lines Last s.file s.closed.last)
  last_written =
      writes_each (put_shared.edge_line (codes "closed last ") s.file) (λ n set. RowLine Last (nonterminal_of s.file n) (map (token_of s.file) set) ∷ []) 1 s.closed.last
      (λ i set at.
      let within = slice_get_within s.closed.last i set at in
      let many = last_many s.file is.named.is s.closed is.closed in
      writes_one (put_shared.edge_line (codes "closed last ") s.file (1 + i) set) (RowLine Last (nonterminal_of s.file (1 + i)) (map (token_of s.file) set)) (says_last s.file (1 + i) set)
      (edge_sayable Last (1 + i) set (omega arith, (let same = is.named.is.nonterminals in omega (arith, within, many, same))) (All-at (AreNamedTokens s.file) s.closed.last i set (last_named s.file is.named.is s.closed is.closed) at)))

  next_written : Writes (put_shared.next_lines s.file s.closed.next) (next_lines s.file s.closed.next)
  next_written =
      writes_each (put_shared.token_next_line s.file) (λ t set. next_line s.file (marks.Token t) set ∷ []) 1 s.closed.next
      (λ i set at.
      let within = slice_get_within s.closed.next i set at in
      let many = next_many s.file is.named.is s.closed is.closed in
      writes_one (put_shared.token_next_line s.file (1 + i) set) (next_line s.file (marks.Token (1 + i)) set) (says_next s.file (marks.Token (1 + i)) set)
      (next_sayable (marks.Token (1 + i)) set (omega arith, (let same = is.named.is.tokens in omega (arith, within, many, same))) (All-at (AreNamedMarks s.file) s.closed.next i set (next_named s.file is.named.is s.closed is.closed) at)))

  -- ---- the whole head

  tables_written : Writes (line (codes "conform 2 suite") ++ put_shared.weigh_line s.choice.weigh ++ put.table_lines s.file (Some s.lexemes)) (table_lines s.file s.choice.weigh s.lexemes)
  tables_written =
      let weigh = s.choice.weigh in
      let plain : (l : Line) → names l ≡ [] → text_in l ≡ [] → IsSayable l = λ l e f. record { are_words = subst (All IsWord) (sym e) (All-nil IsWord); are_bytes = subst AreBytes (sym f) no_bytes } in
      let opening = writes_one (line (codes "conform 2 suite")) Opening refl (plain Opening refl refl) in
      let weighing = writes_one (put_shared.weigh_line weigh) (Weighing weigh) (says_weigh weigh) (plain (Weighing weigh) refl refl) in
      let named = writes_both _ _ _ _ tokens_written rules_written in
      let tables = writes_both _ _ _ _ named lexemes_written in
      subst (Writes (line (codes "conform 2 suite") ++ put_shared.weigh_line weigh ++ put.table_lines s.file (Some s.lexemes)))
      (tables_grouped (Opening ∷ Weighing weigh ∷ []) (token_lines s.file) (rule_lines s.file) (lexeme_lines s.file s.lexemes))
      (writes_both _ _ _ _ (writes_both _ _ _ _ opening weighing) tables)

  sets_written : Writes (put_shared.set_lines s.file s.closed) (set_lines s.file s.closed)
  sets_written =
      let closed = s.closed in
      let all = sets_named s.file is.named.is closed is.closed in
      let one = writes_one (put_shared.set_line (codes "closed productive") s.file closed.productive) (set_line Productive s.file closed.productive) (says_productive s.file closed.productive)
      (set_sayable Productive closed.productive all.0) in
      let two = writes_one (put_shared.set_line (codes "closed reachable") s.file closed.reachable) (set_line Reachable s.file closed.reachable) (says_reachable s.file closed.reachable)
      (set_sayable Reachable closed.reachable all.1) in
      let three = writes_one (put_shared.set_line (codes "closed empty") s.file closed.empty) (set_line Empty s.file closed.empty) (says_empty s.file closed.empty)
      (set_sayable Empty closed.empty all.2) in
      writes_both _ _ _ _ (writes_both _ _ _ _ one two) three

  closed_written : Writes (put_shared.closed_lines s.file s.closed) (closed_lines s.file s.closed)
  closed_written =
      let closed = s.closed in
      let begin = next_line s.file marks.Begin closed.begin in
      let next = writes_one (put_shared.next_line s.file marks.Begin closed.begin) begin (says_next s.file marks.Begin closed.begin)
      (next_sayable marks.Begin closed.begin tt (begin_named s.file is.named.is closed is.closed)) in
      let first = writes_both _ _ _ _ sets_written first_written in
      let last = writes_both _ _ _ _ first last_written in
      subst (Writes (put_shared.closed_lines s.file closed))
      (closed_grouped (set_lines s.file closed) (edge_lines First s.file closed.first) (edge_lines Last s.file closed.last) (begin ∷ []) (next_lines s.file closed.next))
      (writes_both _ _ _ _ (writes_both _ _ _ _ last next) next_written)

  pub head_written : Writes (put_shared.shared_head_lines s.file s.choice.weigh (Some s.lexemes) s.closed) (head_lines s.file s.choice.weigh s.lexemes s.closed)
  head_written = writes_both _ _ _ _ tables_written closed_written
