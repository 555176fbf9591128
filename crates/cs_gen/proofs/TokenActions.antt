-- The kinds of the actions of a generated lex file.
use Rattle.std.proofs.Common.{◌≡◌, ◌≢◌, ℕ, suc, ◌+◌, Bool, true, false, ◌||◌, List, [], ◌∷◌, ◌++◌, length, take, drop, refl, sym, ap, subst, ◌∙◌, inl, arith, length-append}
use Rattle.std.specs.Prelude.{codes, ◌==◌}
use Rattle.std.specs.List.{list_all}
use Rattle.std.proofs.lemmas.Bool.{false≢true}
use Rattle.std.proofs.lemmas.Bool.Decides.{nat_tests}
use Rattle.std.proofs.lemmas.List.{append-nil, drop_at, take_at, drop_all}
use Rattle.cs_bytes.specs.Classes.{is_word_byte, is_space, is_blank}
use Rattle.cs_bytes.specs.Places.{front, IsRun}
use Rattle.cs_bytes.proofs.Fronts.{and_true}
use Rattle.cs_bytes.proofs.Runs.{run-stops}
use Rattle.cs_ctext.specs.declared.word_iter.Word.{Word}
use Rattle.cs_ctext.specs.Comments.{OpensComment}
use Rattle.cs_ctext.specs.Quotes.{IsQuoted}
use Rattle.cs_ctext.specs.Marks.{is_quote}
use Rattle.cs_ctext.specs.Blocks.{IsPart, other}
use Rattle.cs_ctext.specs.Words.{word_at, HasWords}
use Rattle.cs_ctext.specs.Words as text_words
use Rattle.cs_ctext.proofs.PartSizes.{opens-comment, opens-slash}
use Rattle.cs_lex.specs.Layout.Steps.{here, step}
use Rattle.cs_lex.specs.Layout.Runs as runs
use Rattle.cs_lex.specs.Layout.Runs.{ends_part, IsPiece}
use Rattle.cs_lex.specs.Actions.Gaps.{byte, IsGap, IsSign}
use Rattle.cs_lex.specs.Actions.Returns.{IsNamed, spelled, Returns}
use Rattle.cs_lex.specs.Actions.Returns as named
use Rattle.cs_lex.specs.Actions.Marks.{IsUnmarked, HasNoMark}
use Rattle.cs_lex.specs.Actions.Kinds.{skip, word, bar, IsBar, text_of, has_foreign, returns_of, IsKindByWords, no_return, one_return, IsKind, by_words}
use Rattle.cs_lex.proofs.OnActions.BarsFound.{no_bar_sign}
use Rattle.cs_lex.proofs.OnActions.GapEnds.{no_sign, no_spacing_at}
use Rattle.cs_lex.proofs.OnActions.OneKind.{one_kind}
use Rattle.cs_lex.proofs.OnActions.ReturnsFound.{of_laid}
use Rattle.cs_gen.proofs.Digits.{heads_apart}
use Rattle.cs_gen.proofs.RuleLines.{walk_bytes, part_is}

-- ---- plain bytes of actions

-- bytes of words, spaces and semicolons
abbrev pub is_action_byte : ℕ → Bool
is_action_byte b = is_word_byte b || (b == 32) || (b == 59)

no_slash : (b : ℕ) → is_action_byte b ≡ true → b ≢ 47
no_slash b h e = let f : is_action_byte 47 ≡ true = subst (λ (c : ℕ). is_action_byte c ≡ true) e h in false≢true f

no_quote : (b : ℕ) → is_action_byte b ≡ true → is_quote b ≡ false
no_quote b h = grind (arith, nat_tests)

not_ending : (b : ℕ) → is_action_byte b ≡ true → ends_part true b ≡ false
not_ending b h = grind (arith, nat_tests)

opens_none : (b : ℕ) (rest : List ℕ) → is_action_byte b ≡ true → ¬ OpensComment (b ∷ rest)
opens_none b rest h o = no_slash b h (opens-slash b rest o)

quotes_none : (b : ℕ) (rest : List ℕ) → is_action_byte b ≡ true → (n : ℕ) → ¬ IsQuoted (b ∷ rest) n
quotes_none b rest h n q = let f : is_quote b ≡ true = q.0 in false≢true (sym (no_quote b h) ∙ f)

plain_part : (is_special : ℕ → Bool) (b : ℕ) (rest : List ℕ) → is_action_byte b ≡ true → is_special b ≡ false → IsPart is_special (b ∷ rest) 1
plain_part is_special b rest h e = other e (opens_none b rest h) (quotes_none b rest h)

pub action_piece : (b : ℕ) (rest : List ℕ) → is_action_byte b ≡ true → IsPiece true (b ∷ rest) 1
action_piece b rest h = runs.part (plain_part (ends_part true) b rest h (not_ending b h))

unmarked : (b : ℕ) (rest : List ℕ) → is_action_byte b ≡ true → IsUnmarked (b ∷ rest) 1
unmarked b rest h = (plain_part (λ _. false) b rest h refl, λ m k. opens_none b rest h (opens-comment (b ∷ rest) k.0 k.1))

-- such bytes have no mark
no_marks : (text : List ℕ) → list_all is_action_byte text ≡ true → HasNoMark text
no_marks text all = (
  length text,
  record {
    units = walk_bytes IsUnmarked is_action_byte unmarked text 0 (length text) text [] all (sym (append-nil text)) (omega arith);
    rest = inl (drop_all (length text) text (omega arith));
  },
)

-- ---- gaps

no_gap : (passes : ℕ → Bool) (b : ℕ) (rest : List ℕ) → passes b ≡ false → ¬ OpensComment (b ∷ rest) → IsGap passes (b ∷ rest) 0
no_gap passes b rest e o = record { units = here; rest = no_spacing_at passes (b ∷ rest) e o }

one_gap : (passes : ℕ → Bool) (c b : ℕ) (rest : List ℕ) → passes c ≡ true → passes b ≡ false → ¬ OpensComment (b ∷ rest) → IsGap passes (c ∷ b ∷ rest) 1
one_gap passes c b rest f e o = record {
  units = step {t = 1} (record { size = 1; unit = byte f refl; ends = refl }) here;
  rest = no_spacing_at passes (b ∷ rest) e o;
}

-- ---- `;`

semicolon_no_bar : ¬ IsBar (59 ∷ [])
semicolon_no_bar = no_bar_sign (59 ∷ []) (no_sign is_blank refl 124 (59 ∷ []) 0 (no_gap is_blank 59 [] refl (opens_none 59 [] refl)) refl)

semicolon_words : HasWords 0 (59 ∷ []) []
semicolon_words = text_words.part (plain_part is_word_byte 59 [] refl refl) text_words.nothing

pub semicolon_skips : IsKind (59 ∷ []) skip
semicolon_skips = by_words [] semicolon_no_bar (no_marks (59 ∷ []) refl) semicolon_words (no_return refl refl refl)

pub semicolon_is_no_bar : IsKind (59 ∷ []) bar → ⊥
semicolon_is_no_bar h = let e : skip ≡ bar = one_kind (59 ∷ []) skip bar semicolon_skips h in cc

-- ---- `return` and a name

foreign_none : (text : List ℕ) (v w : Word) (ds : List ℕ) → text_of text v ≡ codes "return" → text_of text w ≡ 116 ∷ ds → has_foreign text (v ∷ w ∷ []) ≡ false
foreign_none text v w ds e f = rw (e, f) refl

return_one : (text : List ℕ) (v w : Word) (ds : List ℕ) → text_of text v ≡ codes "return" → text_of text w ≡ 116 ∷ ds → returns_of text (v ∷ w ∷ []) ≡ v ∷ []
return_one text v w ds e f = rw (e, f) refl

-- the rest of a name that begins with `t`
module _ (ds : List ℕ) (all : list_all is_word_byte ds ≡ true) where
  abbrev behind : List ℕ
  behind = 116 ∷ (ds ++ 59 ∷ [])

  -- `return`, a space, the name and a semicolon
  abbrev pub action : List ℕ
  action = codes "return " ++ behind

  abbrev size : ℕ
  size = suc (length ds)

  word_action : (b : ℕ) → is_word_byte b ≡ true → is_action_byte b ≡ true
  word_action b h = rw h refl

  all_weaker : (xs : List ℕ) → list_all is_word_byte xs ≡ true → list_all is_action_byte (xs ++ 59 ∷ []) ≡ true
  all_weaker [] h = refl
  all_weaker (x ∷ xs) h = let both = and_true (is_word_byte x) (list_all is_word_byte xs) h in rw (word_action x both.0) (all_weaker xs both.1)

  pub action_bytes : list_all is_action_byte action ≡ true
  action_bytes = all_weaker ds all

  no_bar : ¬ IsBar action
  no_bar = no_bar_sign action (no_sign is_blank refl 124 action 0 (no_gap is_blank 114 (drop 1 action) refl (opens_none 114 (drop 1 action) refl)) refl)

  behind_name : drop size behind ≡ 59 ∷ []
  behind_name = drop_at (116 ∷ ds) (59 ∷ []) size refl

  name_shown : take size behind ≡ 116 ∷ ds
  name_shown = take_at (116 ∷ ds) (59 ∷ []) size refl

  name_run : IsRun is_word_byte behind size
  name_run = record {
    within = omega (arith, length-append ds (59 ∷ []));
    run = subst (λ (t : List ℕ). list_all is_word_byte t ≡ true) (sym name_shown) all;
    ends = ap (front is_word_byte) behind_name;
  }

  return_run : IsRun is_word_byte action 6
  return_run = record { within = omega arith; run = refl; ends = refl }

  abbrev return_word : Word
  return_word = word_at 0 6

  abbrev name_word : Word
  name_word = word_at 7 size

  words : HasWords 0 action (return_word ∷ name_word ∷ [])
  words =
      let tail : HasWords (7 + size) (59 ∷ []) [] = text_words.part (plain_part is_word_byte 59 [] refl refl) text_words.nothing in
      let named_tail : HasWords 7 behind (name_word ∷ []) = text_words.word refl name_run (subst (λ (t : List ℕ). HasWords (7 + size) t []) (sym behind_name) tail) in
      let spaced : HasWords 6 (32 ∷ behind) (name_word ∷ []) = text_words.part {n = 1} (plain_part is_word_byte 32 behind refl refl) named_tail in
      text_words.word {n = 6} refl return_run spaced

  return_text : text_of action return_word ≡ codes "return"
  return_text = refl

  name_text : text_of action name_word ≡ 116 ∷ ds
  name_text = part_is action 7 size (7 + size) refl ∙ name_shown

  -- what stands behind `return`
  abbrev rest : List ℕ
  rest = 32 ∷ behind

  rest_gap : IsGap is_space rest 1
  rest_gap = one_gap is_space 32 116 (ds ++ 59 ∷ []) refl refl (opens_none 116 (ds ++ 59 ∷ []) refl)

  is_name : IsNamed behind (named.word (116 ∷ ds)) size
  is_name =
      let other_text : take 9 behind ≢ codes "yytext[0]" = λ e. heads_apart 116 121 (take 8 (ds ++ 59 ∷ [])) (codes "ytext[0]") refl e in
      spelled other_text refl (sym (run-stops is_word_byte (116 ∷ ds) 59 [] all refl)) (ap named.word (sym name_shown))

  last_there : drop (0 + 1 + size + 0) rest ≡ 59 ∷ []
  last_there = let e : 0 + 1 + size + 0 ≡ suc size = omega arith in ap (λ (k : ℕ). drop k rest) e ∙ behind_name

  semicolon_sign : IsSign is_space 59 (59 ∷ []) 1
  semicolon_sign = record { gap = 0; is_gap = no_gap is_space 59 [] refl (opens_none 59 [] refl); signed = refl; ends = refl }

  returned : Returns rest (named.word (116 ∷ ds))
  returned = of_laid rest (named.word (116 ∷ ds)) (record {
    count = 0;
    opened = 0;
    gap = 1;
    size = size;
    closed = 0;
    last = 1;
    opens = here;
    no_more = no_sign is_space refl 40 rest 1 rest_gap refl;
    is_gap = rest_gap;
    named = is_name;
    closes = here;
    ends = subst (λ (t : List ℕ). IsSign is_space 59 t 1) (sym last_there) semicolon_sign;
  })

  by_return : IsKindByWords action (return_word ∷ name_word ∷ []) (word (116 ∷ ds))
  by_return =
      one_return return_word (named.word (116 ∷ ds)) (foreign_none action return_word name_word ds return_text name_text) (return_one action return_word name_word ds return_text name_text) returned refl

  pub action_kind : IsKind action (word (116 ∷ ds))
  action_kind = by_words (return_word ∷ name_word ∷ []) no_bar (no_marks action action_bytes) words by_return
