-- What stands behind `return` in an action.
use Rattle.std.specs.Prelude.{◌≡◌, ◌≢◌, ℕ, List, take, drop, IsTrue, codes}
use Rattle.std.specs.List.{prefix_len}
use Rattle.cs_bytes.specs.Names.{opening_parenthesis, closing_parenthesis, semicolon_sign}
use Rattle.cs_bytes.specs.Classes.{is_word_byte, begins_word}
use Rattle.cs_ctext.specs.Literals.{IsLiteral}
use Rattle.cs_bytes.specs.Classes.{is_space}
use Rattle.cs_bytes.specs.Places.{front}
use Rattle.cs_lex.specs.Actions.Gaps.{IsGap, IsSign, AreSigns}

-- what an action may name: a token by its word or by its byte, or the byte that was read
pub data Named : Type 0 where
  word : List ℕ → Named
  literal : ℕ → Named
  own_byte : Named

-- The name in front of the text: `yytext[0]` or `*yytext` before a C word is looked at, a C word, or a literal.
pub data IsNamed (text : List ℕ) (n : Named) (size : ℕ) : Type 0 where
  indexed : take 9 text ≡ codes "yytext[0]" → n ≡ own_byte → size ≡ 9 → IsNamed text n size
  pointed : take 7 text ≡ codes "*yytext" → n ≡ own_byte → size ≡ 7 → IsNamed text n size
  spelled : take 9 text ≢ codes "yytext[0]" → IsTrue (front begins_word text) → size ≡ prefix_len is_word_byte text → n ≡ word (take size text) → IsNamed text n size
  quoted : (byte : ℕ) → IsLiteral text byte size → n ≡ literal byte → IsNamed text n size

-- Something of this kind stands in front of the text, and this is what stands behind it.
abbrev pub FallsTo : (List ℕ → ℕ → Type 0) → List ℕ → List ℕ → Type 0
FallsTo IsThere text rest = (size : ℕ) × IsThere text size × (rest ≡ drop size text)

-- Behind `return` stand some `(`, a gap, a name, as many `)`, and `;`: the text falls into these and a rest.
pub record Returns (text : List ℕ) (n : Named) : Type 0 where
  pub count : ℕ
  pub inner : List ℕ
  pub name : List ℕ
  pub behind : List ℕ
  pub end : List ℕ
  pub opens : FallsTo (λ there size. AreSigns opening_parenthesis there count size) text inner
  pub no_more : (size : ℕ) → ¬ IsSign is_space opening_parenthesis inner size
  pub is_gap : FallsTo (IsGap is_space) inner name
  pub named : FallsTo (λ there size. IsNamed there n size) name behind
  pub closes : FallsTo (λ there size. AreSigns closing_parenthesis there count size) behind end
  pub ends : (size : ℕ) × IsSign is_space semicolon_sign end size
