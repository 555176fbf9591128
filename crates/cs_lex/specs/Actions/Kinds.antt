-- The kind of an action (POSIX lex, actions).
use Rattle.std.specs.Prelude.{◌≡◌, ℕ, ◌+◌, Bool, true, false, List, [], ◌∷◌, take, drop, filter, codes}
use Rattle.std.specs.List.{list_any}
use Rattle.std.specs.Str.{bytes_eq}
use Rattle.cs_bytes.specs.Names.{vertical_bar}
use Rattle.cs_bytes.specs.Classes.{is_blank}
use Rattle.cs_ctext.specs.declared.word_iter.Word.{Word}
use Rattle.cs_ctext.specs.Words.{HasWords}
use Rattle.cs_lex.specs.Actions.Gaps.{IsSign, IsGap}
use Rattle.cs_lex.specs.Actions.Returns.{Named, Returns}
use Rattle.cs_lex.specs.Actions.Returns as named
use Rattle.cs_lex.specs.Actions.Marks.{ActionMark, HasMark, HasNoMark}
use Rattle.cs_lex.specs.Actions.Marks as marks

-- What an action gives: the kind of the next rule, nothing, the token of a word or of a byte where it is in use, the token of
-- the byte that was read, or what only C says.
pub data ActionKind : Type 0 where
  bar : ActionKind
  skip : ActionKind
  word : List ℕ → ActionKind
  literal : ℕ → ActionKind
  own_byte : ActionKind
  foreign : ActionKind

abbrev pub of_named : Named → ActionKind
of_named (named.word w) = word w
of_named (named.literal b) = literal b
of_named named.own_byte = own_byte

abbrev pub of_mark : ActionMark → ActionKind
of_mark marks.skip = skip
of_mark (marks.word w) = word w
of_mark (marks.literal b) = literal b

-- without comments and blanks the action is `|`
pub record IsBar (text : List ℕ) : Type 0 where
  pub size : ℕ
  pub rest : ℕ
  pub signed : IsSign is_blank vertical_bar text size
  pub is_gap : IsGap is_blank (drop size text) rest
  pub ends : drop (size + rest) text ≡ []

abbrev pub text_of : List ℕ → Word → List ℕ
text_of text w = drop w.from (take w.to text)

abbrev pub foreign_words : List (List ℕ)
foreign_words = codes "REJECT" ∷ codes "yymore" ∷ codes "yyless" ∷ codes "unput" ∷ codes "input" ∷ codes "BEGIN" ∷ codes "yyterminate" ∷ []

abbrev pub has_foreign : List ℕ → List Word → Bool
has_foreign text ws = list_any (λ w. list_any (bytes_eq (text_of text w)) foreign_words) ws

-- the words `return`
abbrev pub returns_of : List ℕ → List Word → List Word
returns_of text ws = filter (λ w. bytes_eq (text_of text w) (codes "return")) ws

-- the kind by its words, where the action is no `|` and has no mark
pub data IsKindByWords (text : List ℕ) (ws : List Word) (k : ActionKind) : Type 0 where
  foreign_word : has_foreign text ws ≡ true → k ≡ foreign → IsKindByWords text ws k
  no_return : has_foreign text ws ≡ false → returns_of text ws ≡ [] → k ≡ skip → IsKindByWords text ws k
  one_return : (w : Word) (n : Named) → has_foreign text ws ≡ false → returns_of text ws ≡ w ∷ [] → Returns (drop w.to text) n → k ≡ of_named n → IsKindByWords text ws k
  other_return : (w : Word) → has_foreign text ws ≡ false → returns_of text ws ≡ w ∷ [] → ((n : Named) → ¬ Returns (drop w.to text) n) → k ≡ foreign → IsKindByWords text ws k
  more_returns : (v w : Word) (us : List Word) → has_foreign text ws ≡ false → returns_of text ws ≡ v ∷ w ∷ us → k ≡ foreign → IsKindByWords text ws k

-- The kind of an action: the first row that applies.
pub data IsKind (text : List ℕ) (k : ActionKind) : Type 0 where
  is_bar : IsBar text → k ≡ bar → IsKind text k
  is_marked : (m : ActionMark) → ¬ IsBar text → HasMark text m → k ≡ of_mark m → IsKind text k
  by_words : (ws : List Word) → ¬ IsBar text → HasNoMark text → HasWords 0 text ws → IsKindByWords text ws k → IsKind text k
