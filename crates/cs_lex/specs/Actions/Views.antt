-- What the code's names, marks and kinds are.
use Rattle.std.specs.Prelude.{◌≡◌, ℕ, ◌≤◌, true, false, List, [], ◌∷◌, length, Option, Some, None}
use Rattle.cs_ctext.specs.declared.word_iter.Word.{Word}
use Rattle.cs_ctext.specs.Words.{HasWords}
use Rattle.cs_lex.specs.declared.actions.named.Named as code
use Rattle.cs_lex.specs.declared.actions.named.Named.TheVariants as names
use Rattle.cs_lex.specs.declared.actions.named.FoundName as held
use Rattle.cs_lex.specs.declared.actions.words.Words as code_words
use Rattle.cs_lex.specs.declared.actions.words.Words.TheVariants as found
use Rattle.cs_lex.specs.declared.actions.kind.ActionKind as code_kind
use Rattle.cs_lex.specs.declared.actions.kind.ActionKind.TheVariants as kinds
use Rattle.cs_lex.specs.Actions.Returns.{Named, word, literal, own_byte, IsNamed, Returns}
use Rattle.cs_lex.specs.Actions.Kinds as kind
use Rattle.cs_lex.specs.Actions.Kinds.{ActionKind, has_foreign, returns_of, IsKindByWords}

abbrev pub named_of : code.Named → Named
named_of (names.Word w) = word w.now
named_of (names.Literal b) = literal b
named_of names.OwnByte = own_byte

abbrev pub FindsNamed : List ℕ → Option held.FoundName → Type 0
FindsNamed text (Some f) = IsNamed text (named_of f.named) f.size × (f.size ≤ length text)
FindsNamed text None = (n : Named) (size : ℕ) → ¬ IsNamed text n size

abbrev pub FindsReturned : List ℕ → Option code.Named → Type 0
FindsReturned text (Some n) = Returns text (named_of n)
FindsReturned text None = (n : Named) → ¬ Returns text n

-- what the code finds in these words
abbrev pub FindsIn : List ℕ → List Word → code_words.Words → Type 0
FindsIn text ws found.Foreign = has_foreign text ws ≡ true
FindsIn text ws found.None = (has_foreign text ws ≡ false) × (returns_of text ws ≡ [])
FindsIn text ws (found.One to) = (has_foreign text ws ≡ false) × (w : Word) × (returns_of text ws ≡ w ∷ []) × (w.to ≡ to) × (to ≤ length text)
FindsIn text ws found.Several = (has_foreign text ws ≡ false) × (v : Word) × (w : Word) × (us : List Word) × (returns_of text ws ≡ v ∷ w ∷ us)

-- one `return` more, which ends there
abbrev pub one_more : code_words.Words → ℕ → code_words.Words
one_more found.None to = found.One to
one_more f to = found.Several

abbrev pub FindsWords : List ℕ → code_words.Words → Type 0
FindsWords text f = (ws : List Word) × HasWords 0 text ws × FindsIn text ws f

abbrev pub kind_of : code_kind.ActionKind → ActionKind
kind_of kinds.Bar = kind.bar
kind_of kinds.Skip = kind.skip
kind_of (kinds.Word w) = kind.word w.now
kind_of (kinds.Literal b) = kind.literal b
kind_of kinds.OwnByte = kind.own_byte
kind_of kinds.Foreign = kind.foreign

-- the kind by the words of the text
abbrev pub HasKindByWords : List ℕ → ActionKind → Type 0
HasKindByWords text k = (ws : List Word) × HasWords 0 text ws × IsKindByWords text ws k
