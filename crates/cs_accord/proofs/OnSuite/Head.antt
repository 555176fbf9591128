-- The head of a suite: its lines stand in their places and are the file's, and tell the closed sets, the measure and no more.
use Rattle.std.proofs.Common.{◌≡◌, ℕ, suc, ◌+◌, ◌-◌, true, List, [], ◌∷◌, ◌++◌, Option, None, Some, map, length, refl, sym, ap, ◌∙◌, subst, arith}
use Rattle.std.specs.Prelude.{slice_get, All}
use Rattle.std.specs.List.{AllByRecursion, AllZip, cons_option, fold, filter_map, range_with_len}
use Rattle.std.specs.Option.{option_map_or}
use Rattle.std.proofs.lemmas.List.Elements.{All-map, All-weaker}
use Rattle.std.proofs.lemmas.Option.{get_or_from_slice_get, slice_get_within}
use Rattle.cs_grammar.specs.declared.symbol.Mark.{Mark}
use Rattle.cs_grammar.specs.declared.symbol.Mark.TheVariants as marks
use Rattle.cs_grammar.specs.Grammar.{IsNumberOf}
use Rattle.cs_grammar.proofs.Measures.{All-at}
use Rattle.cs_choices.specs.declared.weigh.Weigh.{Weigh}
use Rattle.cs_goals.specs.Goals.{right_marks}
use Rattle.cs_mutate.proofs.Fitting.{All-from_Among}
use Rattle.cs_pairs.specs.Pairs.Pairs.{IsAdjacent}
use Rattle.cs_scanner.specs.Lexeme.Lexeme.{lexeme_in}
use Rattle.cs_verdicts.specs.Closed.Closed.{AreThose}
use Rattle.cs_yacc.specs.declared.reading.name.TokenName.{TokenName}
use Rattle.cs_yacc.specs.Reading.File.{File}
use Rattle.cs_manifest.specs.Output.Names.{AreNamedTokens}
use Rattle.cs_manifest.proofs.OnManifest.Naming.{sets_named, first_named, last_named, first_many, last_many, next_many}
use Rattle.cs_manifest.proofs.OnManifest.Zips.{zip_both}
use Rattle.cs_lines.specs.Words.Names.{token_text, token_of, nonterminal_of, mark_text}
use Rattle.cs_lines.specs.Lines.Line.{SetKind, Productive, Reachable, Empty, First, Last, Next, Line, Opening, Weighing, TokenLine, RuleLine, LexemeLine, RowLine, CaseLine, DeriveLine, TokensLine, TextLine, NoLexemeLine, NoScanLine, GoalLine, BaseLine, NegativeLine, EndLine}
use Rattle.cs_check.specs.Passing.Above.{size_in, derivation_in, goal_in, verdict_in, base_in, edit_in}
use Rattle.cs_check.specs.Passing.Head.{Due, TheOpening, TheWeighing, TheToken, TheRule, TheLexeme, TheSet, TheRow, IsNonterminalName, IsTokenName, IsBehindName, mark_at, rule_of, tables, claims, whole_head}
use Rattle.cs_check.specs.Passing.Places.{part_of, last_part}
use Rattle.cs_check.proofs.OnChecking.Kinds.{is_head, taken_head}
use Rattle.cs_accord.specs.Suite.{token_lines, rule_lines, lexeme_lines, table_lines, set_line, edge_lines, next_line, next_lines, closed_lines, head_lines}
use Rattle.cs_accord.proofs.OnSuite.Lists.{told_none, none_in, none_numbered, zip_numbered, zip_at}
use Rattle.cs_accord.proofs.OnSuite.Naming.{token_named, nonterminal_named}
use Rattle.cs_accord.proofs.OnSuite.Sets.{those_in}
use Rattle.cs_accord.proofs.OnSuite.Claims.{mark_named}
use Rattle.cs_accord.proofs.OnSuite.HeadLines.{IsHeadLine}
use Rattle.cs_accord.proofs.OnSuite.Setting.{Setting, IsSetting}
use Rattle.cs_accord.proofs.OnSuite.Telling.{Told, no_content}

-- ---- lines of the head tell nothing else

heads_of : (file : File) (dues : List Due) (lines : List Line) → AllZip (IsHeadLine file) dues lines → AllByRecursion (λ l. is_head l ≡ true) lines
heads_of file [] [] zip = tt
heads_of file [] (l ∷ lines) zip = absurd zip
heads_of file (due ∷ dues) [] zip = absurd zip
heads_of file (due ∷ dues) (l ∷ lines) zip = (taken_head due l zip.0.takes, heads_of file dues lines zip.1)

stays : (l : Line) → is_head l ≡ true → part_of (last_part []) l ≡ last_part []
stays (CaseLine n size) e = absurd cc
stays (DeriveLine rules) e = absurd cc
stays (TokensLine names) e = absurd cc
stays (TextLine text) e = absurd cc
stays (NoLexemeLine name) e = absurd cc
stays (NoScanLine after) e = absurd cc
stays (GoalLine n goal verdict) e = absurd cc
stays (BaseLine n goal) e = absurd cc
stays (NegativeLine n base edit left right at) e = absurd cc
stays (EndLine counts) e = absurd cc
stays l e = refl

head_part : (lines : List Line) → AllByRecursion (λ l. is_head l ≡ true) lines → last_part lines ≡ last_part []
head_part [] all = refl
head_part (l ∷ lines) all = ap (λ p. fold part_of p lines) (stays l all.0) ∙ head_part lines all.1

no_size : (l : Line) → is_head l ≡ true → size_in l ≡ None
no_size (CaseLine n size) e = absurd cc
no_size l e = refl

no_derivation : (l : Line) → is_head l ≡ true → derivation_in l ≡ None
no_derivation (DeriveLine rules) e = absurd cc
no_derivation l e = refl

no_goal : (l : Line) → is_head l ≡ true → goal_in l ≡ None
no_goal (GoalLine n goal verdict) e = absurd cc
no_goal l e = refl

no_verdict : (l : Line) → is_head l ≡ true → verdict_in l ≡ None
no_verdict (GoalLine n goal verdict) e = absurd cc
no_verdict l e = refl

no_base : (l : Line) → is_head l ≡ true → base_in l ≡ None
no_base (BaseLine n goal) e = absurd cc
no_base l e = refl

no_edit : (l : Line) → is_head l ≡ true → edit_in l ≡ None
no_edit (NegativeLine n base edit left right at) e = absurd cc
no_edit l e = refl

-- what stands behind the head is not told yet
tells_none : (lines : List Line) → AllByRecursion (λ l. is_head l ≡ true) lines → Told lines no_content
tells_none lines all = record {
  part_is = head_part lines all;
  sizes_are = none_in size_in (λ l. is_head l ≡ true) no_size lines all;
  codes_are = none_in derivation_in (λ l. is_head l ≡ true) no_derivation lines all;
  goals_are = none_in goal_in (λ l. is_head l ≡ true) no_goal lines all;
  words_are = none_in verdict_in (λ l. is_head l ≡ true) no_verdict lines all;
  bases_are = none_in base_in (λ l. is_head l ≡ true) no_base lines all;
  edits_are = none_in edit_in (λ l. is_head l ≡ true) no_edit lines all;
}

module _ {s : Setting} (is : IsSetting s) where
  -- ---- the tables

  token_at : (i : ℕ) (name : TokenName) → slice_get s.file.token_names i ≡ Some name → token_of s.file (1 + i) ≡ token_text name
  token_at i name at =
      let back : 1 + i - 1 ≡ i = omega arith in
      ap (λ k. option_map_or token_text (slice_get s.file.token_names k) []) back ∙ ap (λ (o : Option TokenName). option_map_or token_text o []) at

  zip_tokens : AllZip (IsHeadLine s.file) (map TheToken (range_with_len 1 s.file.grammar.tokens)) (token_lines s.file)
  zip_tokens =
      zip_numbered (IsHeadLine s.file) TheToken (λ n name. TokenLine n (token_text name)) 1 s.file.token_names s.file.grammar.tokens is.named.is.tokens
      (λ i name at. record { takes = (token_text name, refl); of_file = ap (λ (w : List ℕ). TokenLine (1 + i) w) (sym (token_at i name at)) })

  zip_rules : AllZip (IsHeadLine s.file) (map TheRule (range_with_len 1 (length s.file.grammar.rules))) (rule_lines s.file)
  zip_rules =
      zip_numbered (IsHeadLine s.file) TheRule (λ n rule. rule_of s.file n rule) 1 s.file.grammar.rules (length s.file.grammar.rules) refl
      (λ i p at.
      let back : 1 + i - 1 ≡ i = omega arith in
      record {
        takes = (_, _, refl);
        of_file = (p, record { above_zero = omega arith; at = ap (slice_get s.file.grammar.rules) back ∙ at }, refl);
      })

  zip_lexemes : AllZip (IsHeadLine s.file) (map TheLexeme (range_with_len 1 s.file.grammar.tokens)) (lexeme_lines s.file s.lexemes)
  zip_lexemes =
      zip_numbered (IsHeadLine s.file) TheLexeme (λ n name. LexemeLine (token_text name) (lexeme_in s.lexemes n)) 1 s.file.token_names s.file.grammar.tokens is.named.is.tokens
      (λ i name at. record {
        takes = (token_text name, lexeme_in s.lexemes (1 + i), refl);
        of_file = (lexeme_in s.lexemes (1 + i), ap (λ (w : List ℕ). LexemeLine w (lexeme_in s.lexemes (1 + i))) (sym (token_at i name at)));
      })

  pub tables_zip : AllZip (IsHeadLine s.file) (tables s.file.grammar) (table_lines s.file s.choice.weigh s.lexemes)
  tables_zip =
      let front : List Due = TheOpening ∷ TheWeighing ∷ map TheToken (range_with_len 1 s.file.grammar.tokens) in
      let rules = map TheRule (range_with_len 1 (length s.file.grammar.rules)) in
      let texts = map TheLexeme (range_with_len 1 s.file.grammar.tokens) in
      let first : List Line = Opening ∷ Weighing s.choice.weigh ∷ token_lines s.file in
      let opened : AllZip (IsHeadLine s.file) front first = (record { takes = refl; of_file = tt }, (record { takes = (s.choice.weigh, refl); of_file = tt }, zip_tokens)) in
      zip_both (IsHeadLine s.file) (front ++ rules) texts (first ++ rule_lines s.file) (lexeme_lines s.file s.lexemes)
      (zip_both (IsHeadLine s.file) front rules first (rule_lines s.file) opened zip_rules) zip_lexemes

  -- ---- the closed sets

  nonterminals_named : (set : List ℕ) → All (IsNumberOf (length s.file.nonterminal_names)) set → All (IsNonterminalName s.file) (map (nonterminal_of s.file) set)
  nonterminals_named set all =
      All-map (IsNonterminalName s.file) (nonterminal_of s.file) set
      (All-weaker (IsNumberOf (length s.file.nonterminal_names)) (λ n. IsNonterminalName s.file (nonterminal_of s.file n))
      (λ n number. (n, nonterminal_named s.file is.named n (subst (λ k. IsNumberOf k n) is.named.is.nonterminals number))) set all)

  tokens_named : (set : List ℕ) → All (IsNumberOf (length s.file.token_names)) set → All (IsTokenName s.file) (map (token_of s.file) set)
  tokens_named set all =
      All-map (IsTokenName s.file) (token_of s.file) set
      (All-weaker (IsNumberOf (length s.file.token_names)) (λ t. IsTokenName s.file (token_of s.file t))
      (λ t number. (t, token_named s.file is.named t (subst (λ k. IsNumberOf k t) is.named.is.tokens number))) set all)

  set_is : (kind : SetKind) (set : List ℕ) → All (IsNumberOf (length s.file.nonterminal_names)) set → IsHeadLine s.file (TheSet kind) (set_line kind s.file set)
  set_is kind set all = record { takes = (map (nonterminal_of s.file) set, refl); of_file = (map (nonterminal_of s.file) set, refl, nonterminals_named set all) }

  zip_first : AllZip (IsHeadLine s.file) (map (TheRow First) (range_with_len 1 s.file.grammar.nonterminals)) (edge_lines First s.file s.closed.first)
  zip_first =
      zip_numbered (IsHeadLine s.file) (TheRow First) (λ n set. RowLine First (nonterminal_of s.file n) (map (token_of s.file) set)) 1 s.closed.first s.file.grammar.nonterminals
      (first_many s.file is.named.is s.closed is.closed ∙ is.named.is.nonterminals)
      (λ i set at. record {
        takes = (nonterminal_of s.file (1 + i), map (token_of s.file) set, refl);
        of_file = (map (token_of s.file) set, refl, tokens_named set (All-at (AreNamedTokens s.file) s.closed.first i set (first_named s.file is.named.is s.closed is.closed) at));
      })

  zip_last : AllZip (IsHeadLine s.file) (map (TheRow Last) (range_with_len 1 s.file.grammar.nonterminals)) (edge_lines Last s.file s.closed.last)
  zip_last =
      zip_numbered (IsHeadLine s.file) (TheRow Last) (λ n set. RowLine Last (nonterminal_of s.file n) (map (token_of s.file) set)) 1 s.closed.last s.file.grammar.nonterminals
      (last_many s.file is.named.is s.closed is.closed ∙ is.named.is.nonterminals)
      (λ i set at. record {
        takes = (nonterminal_of s.file (1 + i), map (token_of s.file) set, refl);
        of_file = (map (token_of s.file) set, refl, tokens_named set (All-at (AreNamedTokens s.file) s.closed.last i set (last_named s.file is.named.is s.closed is.closed) at));
      })

  marks_named : (a : Mark) (set : List Mark) → AreThose (IsAdjacent s.file.grammar a) (right_marks s.file.grammar.tokens) set → All (IsBehindName s.file) (map (mark_text s.file) set)
  marks_named a set those =
      All-map (IsBehindName s.file) (mark_text s.file) set
      (All-from_Among (λ m. IsBehindName s.file (mark_text s.file m)) set
      (λ m among. (m, mark_named s.file is.named s.closed is.closed m (those_in (IsAdjacent s.file.grammar a) (right_marks s.file.grammar.tokens) set m those among).1)))

  mark_one : (i : ℕ) → mark_at (1 + i) ≡ marks.Token (1 + i)
  mark_one i = let one : 1 + i ≡ suc i = omega arith in let back : i + 1 ≡ 1 + i = omega arith in ap mark_at one ∙ ap marks.Token back

  next_those : (i : ℕ) (set : List Mark) → slice_get s.closed.next i ≡ Some set → AreThose (IsAdjacent s.file.grammar (marks.Token (1 + i))) (right_marks s.file.grammar.tokens) set
  next_those i set at =
      let many = next_many s.file is.named.is s.closed is.closed ∙ is.named.is.tokens in
      let within = slice_get_within s.closed.next i set at in
      subst (AreThose (IsAdjacent s.file.grammar (marks.Token (1 + i))) (right_marks s.file.grammar.tokens)) (get_or_from_slice_get s.closed.next i set [] at)
      (zip_at (λ t. AreThose (IsAdjacent s.file.grammar (marks.Token t)) (right_marks s.file.grammar.tokens)) 1 s.file.grammar.tokens s.closed.next is.closed.next i [] (omega (arith, within, many)))

  zip_nexts : AllZip (IsHeadLine s.file) (map (TheRow Next) (range_with_len 1 s.file.grammar.tokens)) (next_lines s.file s.closed.next)
  zip_nexts =
      zip_numbered (IsHeadLine s.file) (TheRow Next) (λ t set. next_line s.file (marks.Token t) set) 1 s.closed.next s.file.grammar.tokens
      (next_many s.file is.named.is s.closed is.closed ∙ is.named.is.tokens)
      (λ i set at. record {
        takes = (mark_text s.file (marks.Token (1 + i)), map (mark_text s.file) set, refl);
        of_file = (
          map (mark_text s.file) set,
          ap (λ (m : Mark). RowLine Next (mark_text s.file m) (map (mark_text s.file) set)) (sym (mark_one i)),
          marks_named (marks.Token (1 + i)) set (next_those i set at),
        );
      })

  zip_next : AllZip (IsHeadLine s.file) (map (TheRow Next) (range_with_len 0 (s.file.grammar.tokens + 1))) (next_line s.file marks.Begin s.closed.begin ∷ next_lines s.file s.closed.next)
  zip_next =
      let more : suc s.file.grammar.tokens ≡ s.file.grammar.tokens + 1 = omega arith in
      subst (λ k. AllZip (IsHeadLine s.file) (map (TheRow Next) (range_with_len 0 k)) (next_line s.file marks.Begin s.closed.begin ∷ next_lines s.file s.closed.next)) more (
        record {
          takes = (mark_text s.file marks.Begin, map (mark_text s.file) s.closed.begin, refl);
          of_file = (map (mark_text s.file) s.closed.begin, refl, marks_named marks.Begin s.closed.begin is.closed.begin);
        },
        zip_nexts,
      )

  zip_claims : AllZip (IsHeadLine s.file) (claims s.file.grammar) (closed_lines s.file s.closed)
  zip_claims =
      let first = map (TheRow First) (range_with_len 1 s.file.grammar.nonterminals) in
      let last = map (TheRow Last) (range_with_len 1 s.file.grammar.nonterminals) in
      let next = map (TheRow Next) (range_with_len 0 (s.file.grammar.tokens + 1)) in
      let names = sets_named s.file is.named.is s.closed is.closed in (
        set_is Productive s.closed.productive names.0,
        (
          set_is Reachable s.closed.reachable names.1,
          (
            set_is Empty s.closed.empty names.2,
            zip_both (IsHeadLine s.file) (first ++ last) next (edge_lines First s.file s.closed.first ++ edge_lines Last s.file s.closed.last) (next_line s.file marks.Begin s.closed.begin ∷ next_lines s.file s.closed.next)
                (zip_both (IsHeadLine s.file) first last (edge_lines First s.file s.closed.first) (edge_lines Last s.file s.closed.last) zip_first zip_last) zip_next,
          ),
        ),
      )

  pub head_zip : AllZip (IsHeadLine s.file) (whole_head s.file.grammar) (head_lines s.file s.choice.weigh s.lexemes s.closed)
  head_zip = zip_both (IsHeadLine s.file) (tables s.file.grammar) (claims s.file.grammar) (table_lines s.file s.choice.weigh s.lexemes) (closed_lines s.file s.closed) tables_zip zip_claims

  pub head_tells_none : Told (head_lines s.file s.choice.weigh s.lexemes s.closed) no_content
  head_tells_none = tells_none (head_lines s.file s.choice.weigh s.lexemes s.closed) (heads_of s.file (whole_head s.file.grammar) (head_lines s.file s.choice.weigh s.lexemes s.closed) head_zip)

  -- ---- what the tables tell

  module _ {X : Type 0} (h : Line → Option X) (opening : h Opening ≡ None) where
    pub tables_none : ((w : Weigh) → h (Weighing w) ≡ None) → ((n : ℕ) (name : List ℕ) → h (TokenLine n name) ≡ None) → ((n : ℕ) (left : List ℕ) (right : List (List ℕ)) → h (RuleLine n left right) ≡ None)
        → ((name : List ℕ) (text : Option (List ℕ)) → h (LexemeLine name text) ≡ None) → filter_map h (table_lines s.file s.choice.weigh s.lexemes) ≡ []
    tables_none weighing token rule lexeme =
        let first : List Line = Opening ∷ Weighing s.choice.weigh ∷ [] in
        let front : filter_map h first ≡ [] = ap (λ (o : Option X). cons_option o (filter_map h (Weighing s.choice.weigh ∷ []))) opening ∙ ap (λ (o : Option X). cons_option o []) (weighing s.choice.weigh) in
        told_none h (first ++ token_lines s.file ++ rule_lines s.file) (lexeme_lines s.file s.lexemes) []
        (told_none h (first ++ token_lines s.file) (rule_lines s.file) []
        (told_none h first (token_lines s.file) [] front (none_numbered h (λ n name. TokenLine n (token_text name)) (λ k x. token k (token_text x)) 1 s.file.token_names))
        (none_numbered h (λ n rule. rule_of s.file n rule) (λ k x. rule k _ _) 1 s.file.grammar.rules))
        (none_numbered h (λ n name. LexemeLine (token_text name) (lexeme_in s.lexemes n)) (λ k x. lexeme (token_text x) (lexeme_in s.lexemes k)) 1 s.file.token_names)
