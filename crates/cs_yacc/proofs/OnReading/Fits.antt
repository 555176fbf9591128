-- What a file within the limits gives is well formed.
use Rattle.std.proofs.Common.{◌≡◌, ◌≢◌, ℕ, ◌<◌, ◌≤◌, Bool, true, false, cond, List, [], ◌∷◌, ◌++◌, length, length-append, refl, sym, subst, ◌∙◌, arith, ◌⊎◌, inl, inr}
use Rattle.std.specs.Prelude.{Option, Some, None, nat_lt}
use Rattle.std.specs.List.{All}
use Rattle.std.proofs.lemmas.List.{length-map}
use Rattle.std.proofs.lemmas.Bool.{false≢true, lt-ltb}
use Rattle.std.proofs.lemmas.List.Elements.{All-nil, All-cons, All-map, All-weaker}
use Rattle.std.specs.Option.{option_or}
use Rattle.cs_grammar.specs.declared.symbol.Symbol.TheVariants.{Token, Nonterminal}
use Rattle.cs_grammar.specs.Grammar.{IsSymbol, IsRuleOf}
use Rattle.cs_yacc.specs.declared.reading.name.TokenName.{TokenName}
use Rattle.cs_yacc.specs.declared.reading.name.TokenName.TheVariants.{Word, Byte}
use Rattle.cs_yacc.specs.declared.reading.error.YaccLimit.{YaccLimit}
use Rattle.cs_yacc.specs.declared.reading.error.YaccLimit.TheVariants.{Tokens, Nonterminals, Rules, RightSide}
use Rattle.cs_yacc.specs.declared.reading.error.YaccError.{YaccError}
use Rattle.cs_yacc.specs.declared.items.directive.Directive.{Directive}
use Rattle.cs_yacc.specs.declared.items.directive.Directive.TheVariants as directives
use Rattle.cs_yacc.specs.Items.Items.{Item, mark, prologue, directive, name, literal, number, tag, block, colon, semicolon, comma, Placed, items_of}
use Rattle.cs_yacc.specs.Items.Table.{Place, declarations, start, union, expect, list, tagged, entry, counted, behind_comma, rules, left, body, named, prec, closed, done, behind_directive, in_declarations, in_entry, Row, may_end, MayEnd, TakesTo, IsTaken}
use Rattle.cs_yacc.specs.Reading.Meaning.{has_spelling, distinct, number_in, symbol_of, production_of, left_at, left_sides, nonterminals, tokens_of, SpelledRule, kept, above, long_right, limit_passed, bytes_of, number_or_first, start_of, start_item, is_no_left, wrong_start, is_prec, is_prec_before, has_meaning, with_meaning_behind, with_meaning, spelling_at, used, Parts, parts_of, file_with}
use Rattle.cs_yacc.specs.Reading.File.{IsFile}
use Rattle.cs_yacc.proofs.OnReading.Names.{IsIn, number_within, names_differ, lefts_known, rights_known}

-- ---- the limits

not_above : (which : YaccLimit) (found most : ℕ) → above which found most ≡ None → found ≤ most
not_above which found most e = by_test (nat_lt most found) refl e
  where
    by_test : (b : Bool) → nat_lt most found ≡ b → above which found most ≡ None → found ≤ most
    by_test true t e = let f : above which found most ≢ None = rw t (λ g. cc) in absurd (f e)
    by_test false t e = omega (arith, λ (lt : most < found). false≢true (sym t ∙ lt-ltb most found lt))

first_none : {A : Type 0} (o p : Option A) → option_or o p ≡ None → o ≡ None
first_none None p e = refl
first_none (Some x) p e = e

second_none : {A : Type 0} (o p : Option A) → option_or o p ≡ None → p ≡ None
second_none None p e = e
second_none (Some x) p e = absurd cc

short : (rs : List SpelledRule) → long_right rs ≡ None → All (λ (r : SpelledRule). length r.right ≤ 128) rs
short [] e = All-nil (λ (r : SpelledRule). length r.right ≤ 128)
short (r ∷ rs) e =
    let here = above RightSide (length r.right) 128 in
    All-cons (λ (r : SpelledRule). length r.right ≤ 128) r rs (not_above RightSide (length r.right) 128 (first_none here (long_right rs) e)) (short rs (second_none here (long_right rs) e))

-- ---- a left side

abbrev IsEarly : Place → Type 0
IsEarly left = ⊥
IsEarly body = ⊥
IsEarly named = ⊥
IsEarly prec = ⊥
IsEarly closed = ⊥
IsEarly done = ⊥
IsEarly place = Unit {0}

by_directive : (d : Directive) (next : Place) → behind_directive d ≡ Some next → IsEarly next × (is_prec (directive d) ≡ false)
by_directive directives.Start next row = let e : start ≡ next = cc in (subst IsEarly e tt, refl)
by_directive directives.Union next row = let e : union ≡ next = cc in (subst IsEarly e tt, refl)
by_directive directives.Expect next row = let e : expect ≡ next = cc in (subst IsEarly e tt, refl)
by_directive directives.Prec next row = absurd cc
by_directive directives.Empty next row = absurd cc
by_directive d next row = let e : list ≡ next = cc in (subst IsEarly e tt, refl)

by_declared : (i : Item) (next : Place) → in_declarations i ≡ Some next → IsEarly next × (is_prec i ≡ false)
by_declared (directive d) next row = by_directive d next row
by_declared prologue next row = let e : declarations ≡ next = cc in (subst IsEarly e tt, refl)
by_declared semicolon next row = let e : declarations ≡ next = cc in (subst IsEarly e tt, refl)
by_declared mark next row = let e : rules ≡ next = cc in (subst IsEarly e tt, refl)
by_declared i next row = absurd cc

by_entry : (i : Item) (next : Place) → in_entry i ≡ Some next → IsEarly next × (is_prec i ≡ false)
by_entry (name n) next row = let e : entry ≡ next = cc in (subst IsEarly e tt, refl)
by_entry (literal b) next row = let e : entry ≡ next = cc in (subst IsEarly e tt, refl)
by_entry i next row = by_declared i next row

early_next : (p : Place) (i : Item) (next : Place) → IsEarly p → Row p i next → (p ≡ rules) ⊎ (IsEarly next × (is_prec i ≡ false))
early_next declarations i next h row = inr (by_declared i next row)
early_next start (name n) next h row = let e : declarations ≡ next = cc in inr (subst IsEarly e tt, refl)
early_next union block next h row = let e : declarations ≡ next = cc in inr (subst IsEarly e tt, refl)
early_next expect number next h row = let e : declarations ≡ next = cc in inr (subst IsEarly e tt, refl)
early_next list tag next h row = let e : tagged ≡ next = cc in inr (subst IsEarly e tt, refl)
early_next list (name n) next h row = let e : entry ≡ next = cc in inr (subst IsEarly e tt, refl)
early_next list (literal b) next h row = let e : entry ≡ next = cc in inr (subst IsEarly e tt, refl)
early_next tagged (name n) next h row = let e : entry ≡ next = cc in inr (subst IsEarly e tt, refl)
early_next tagged (literal b) next h row = let e : entry ≡ next = cc in inr (subst IsEarly e tt, refl)
early_next entry number next h row = let e : counted ≡ next = cc in inr (subst IsEarly e tt, refl)
early_next entry comma next h row = let e : behind_comma ≡ next = cc in inr (subst IsEarly e tt, refl)
early_next entry i next h row = inr (by_entry i next row)
early_next counted comma next h row = let e : behind_comma ≡ next = cc in inr (subst IsEarly e tt, refl)
early_next counted i next h row = inr (by_entry i next row)
early_next behind_comma i next h row = inr (by_entry i next row)
early_next rules i next h row = inl refl
early_next left i next h row = absurd h
early_next body i next h row = absurd h
early_next named i next h row = absurd h
early_next prec i next h row = absurd h
early_next closed i next h row = absurd h
early_next done i next h row = absurd h
early_next p i next h row = absurd cc

early_ends : (p : Place) → IsEarly p → may_end p ≡ true → ⊥
early_ends left h e = h
early_ends body h e = h
early_ends named h e = h
early_ends prec h e = h
early_ends closed h e = h
early_ends done h e = h
early_ends p h e = false≢true e

lefts_more : (i : Item) (items : List Item) → 0 < length (left_sides items) → 0 < length (left_sides (i ∷ items))
lefts_more i items h = omega (arith, h, length-append (left_at i items) (left_sides items))

-- an item that stands before, with or without a meaning
left_kept : (b : Bool) (p : Placed) (rest : List Placed) → 0 < length (left_sides (items_of rest)) → 0 < length (left_sides (items_of (cond b (p ∷ []) [] ++ rest)))
left_kept true p rest h = lefts_more p.item (items_of rest) h
left_kept false p rest h = h

-- a name and a colon are a left side
name_colon : (before : Option Item) (p q : Placed) (ps : List Placed) (i j : Item) (next after : Place) → is_prec_before before ≡ false → p.item ≡ i → q.item ≡ j → Row rules i next → Row left j after → 0 < length (left_sides (items_of (with_meaning_behind before (p ∷ q ∷ ps))))
name_colon before p q ps (name n) colon next after b e f r s = rw (e, f, b) (omega arith)
name_colon before p q ps (name n) j next after b e f r s = absurd cc
name_colon before p q ps i j next after b e f r s = absurd cc

row_rules : (i : Item) (next : Place) → Row rules i next → next ≡ left
row_rules (name n) next row = cc
row_rules i next row = absurd cc

has_left : (before : Option Item) → is_prec_before before ≡ false → (p : Place) (ps : List Placed) (ending : Place) → IsEarly p → TakesTo p (items_of ps) ending → MayEnd ending → 0 < length (left_sides (items_of (with_meaning_behind before ps)))
has_left before b p [] ending h l m = absurd (early_ends p h (subst MayEnd (sym l) m))
has_left before b p (q ∷ ps) ending h l m =
    elim (early_next p q.item l.0 h l.1) [
      | inl e ↦ at_rules q ps (l.0) (subst (λ (x : Place). Row x q.item l.0) e l.1) l.2
      | inr f ↦ left_kept (has_meaning before q.item) q (with_meaning_behind (Some q.item) ps) (has_left (Some q.item) f.1 l.0 ps ending f.0 l.2 m)
    ]
  where
    at_rules : (q : Placed) (ps : List Placed) (next : Place) → Row rules q.item next → TakesTo next (items_of ps) ending → 0 < length (left_sides (items_of (with_meaning_behind before (q ∷ ps))))
    at_rules q [] next row k = let e : next ≡ left = row_rules q.item next row in let f : may_end left ≡ true = subst MayEnd (sym k ∙ e) m in absurd (false≢true f)
    at_rules q (r ∷ ps) next row k = let e : next ≡ left = row_rules q.item next row in name_colon before q r ps q.item r.item next k.0 b refl refl row (subst (λ (x : Place). Row x r.item k.0) e k.1)

distinct_some : (ws : List TokenName) → 0 < length ws → 0 < length (distinct ws)
distinct_some [] h = h
distinct_some (w ∷ ws) h = omega arith

-- a file that is taken has a nonterminal
some_nonterminal : (all : List Placed) → IsTaken (items_of all) → 1 ≤ length (nonterminals (items_of (with_meaning all)))
some_nonterminal all t = omega (arith, distinct_some (left_sides (items_of (with_meaning all))) (has_left None refl declarations all t.0 tt t.1 t.2))

-- ---- the start symbol

start_one : (lefts : List TokenName) (at : ℕ) (i : Item) → cond (is_no_left lefts i) (Some at) None ≡ None → 1 ≤ length lefts → (1 ≤ number_or_first lefts (spelling_at i)) × (number_or_first lefts (spelling_at i) ≤ length lefts)
start_one lefts at (name n) h le = by_test (has_spelling lefts (Word n)) refl
  where
    by_test : (b : Bool) → has_spelling lefts (Word n) ≡ b → (1 ≤ number_in lefts (Word n)) × (number_in lefts (Word n) ≤ length lefts)
    by_test true e = (omega arith, number_within lefts (Word n) e)
    by_test false e = let g : cond (is_no_left lefts (name n)) (Some at) None ≡ Some at = rw e refl in let k : None ≡ Some at = sym h ∙ g in absurd cc
start_one lefts at (literal c) h le = by_test (has_spelling lefts (Byte c)) refl
  where
    by_test : (b : Bool) → has_spelling lefts (Byte c) ≡ b → (1 ≤ number_in lefts (Byte c)) × (number_in lefts (Byte c) ≤ length lefts)
    by_test true e = (omega arith, number_within lefts (Byte c) e)
    by_test false e = let g : cond (is_no_left lefts (literal c)) (Some at) None ≡ Some at = rw e refl in let k : None ≡ Some at = sym h ∙ g in absurd cc
start_one lefts at i h le = (omega arith, le)

start_fits : (lefts : List TokenName) (ps : List Placed) → wrong_start lefts ps ≡ None → 1 ≤ length lefts → (1 ≤ start_of lefts ps) × (start_of lefts ps ≤ length lefts)
start_fits lefts [] h le = (omega arith, le)
start_fits lefts (p ∷ ps) h le = start_one lefts p.at p.item h le

-- ---- the grammar

module _ (all : List Placed) where
  abbrev items : List Item
  items = items_of (with_meaning all)

  abbrev tokens : List TokenName
  tokens = tokens_of all (with_meaning all)

  symbol_fits : (w : TokenName) → (has_spelling (nonterminals items) w ≡ false → IsIn tokens w)
      → IsSymbol (length tokens) (length (nonterminals items)) (symbol_of tokens (nonterminals items) w)
  symbol_fits w known = by_test (has_spelling (nonterminals items) w) refl
    where
      by_test : (b : Bool) → has_spelling (nonterminals items) w ≡ b
          → IsSymbol (length tokens) (length (nonterminals items)) (cond b (Nonterminal (number_in (nonterminals items) w)) (Token (number_in tokens w)))
      by_test true e = (omega arith, number_within (nonterminals items) w e)
      by_test false e = (omega arith, number_within tokens w (known e))

  rule_fits : (r : SpelledRule) → IsIn (nonterminals items) r.left → All (λ w. has_spelling (nonterminals items) w ≡ false → IsIn tokens w) r.right → length r.right ≤ 128
      → IsRuleOf (length tokens) (length (nonterminals items)) (production_of tokens (nonterminals items) r)
  rule_fits r is_left known few = record {
    left = (omega arith, number_within (nonterminals items) r.left is_left);
    short = omega (arith, length-map r.right (symbol_of tokens (nonterminals items)));
    right =
        All-map (IsSymbol (length tokens) (length (nonterminals items))) (symbol_of tokens (nonterminals items)) r.right
        (All-weaker (λ w. has_spelling (nonterminals items) w ≡ false → IsIn tokens w) (λ w. IsSymbol (length tokens) (length (nonterminals items)) (symbol_of tokens (nonterminals items) w)) symbol_fits r.right known);
  }

  abbrev behind_nonterminals : Option YaccError
  behind_nonterminals = option_or (above Rules (length (kept items)) 8192) (long_right (kept items))

  abbrev behind_tokens : Option YaccError
  behind_tokens = option_or (above Nonterminals (length (nonterminals items)) 1024) behind_nonterminals

  -- what a file means that is taken and within the limits is well formed
  pub file_fits : IsTaken (items_of all) → wrong_start (nonterminals items) (start_item all) ≡ None → limit_passed (parts_of all (with_meaning all)) ≡ None → IsFile (file_with (parts_of all (with_meaning all)))
  file_fits taken started none =
      let tokens_fit = not_above Tokens (length tokens) 512 (first_none (above Tokens (length tokens) 512) behind_tokens none) in
      let none_2 : behind_tokens ≡ None = second_none (above Tokens (length tokens) 512) behind_tokens none in
      let nonterminals_fit = not_above Nonterminals (length (nonterminals items)) 1024 (first_none (above Nonterminals (length (nonterminals items)) 1024) behind_nonterminals none_2) in
      let none_3 : behind_nonterminals ≡ None = second_none (above Nonterminals (length (nonterminals items)) 1024) behind_nonterminals none_2 in
      let rules_fit = not_above Rules (length (kept items)) 8192 (first_none (above Rules (length (kept items)) 8192) (long_right (kept items)) none_3) in
      let none_4 : long_right (kept items) ≡ None = second_none (above Rules (length (kept items)) 8192) (long_right (kept items)) none_3 in
      let shorts = short (kept items) none_4 in
      let fit : All (λ (r : SpelledRule). IsRuleOf (length tokens) (length (nonterminals items)) (production_of tokens (nonterminals items) r)) (kept items) =
      λ k d lt. rule_fits _ (lefts_known items k d lt) (rights_known all k d lt) (shorts k d lt) in
      record {
        grammar = record {
          tokens = tokens_fit;
          nonterminals = nonterminals_fit;
          few = omega (arith, rules_fit, length-map (kept items) (production_of tokens (nonterminals items)));
          start = start_fits (nonterminals items) (start_item all) started (some_nonterminal all taken);
          rules = All-map (IsRuleOf (length tokens) (length (nonterminals items))) (production_of tokens (nonterminals items)) (kept items) fit;
        };
        tokens = refl;
        nonterminals = length-map (nonterminals items) bytes_of;
        differ = names_differ (used (kept items)) (items_of all) items;
      }

-- parts within the limits have few tokens and nonterminals
pub few_symbols : (p : Parts) → limit_passed p ≡ None → (length p.tokens ≤ 512) × (length p.nonterminals ≤ 1024)
few_symbols p none =
    let rules_or_right = option_or (above Rules (length p.rules) 8192) (long_right p.rules) in
    let rest = option_or (above Nonterminals (length p.nonterminals) 1024) rules_or_right in (
      not_above Tokens (length p.tokens) 512 (first_none (above Tokens (length p.tokens) 512) rest none),
      not_above Nonterminals (length p.nonterminals) 1024 (first_none (above Nonterminals (length p.nonterminals) 1024) rules_or_right (second_none (above Tokens (length p.tokens) 512) rest none)),
    )
