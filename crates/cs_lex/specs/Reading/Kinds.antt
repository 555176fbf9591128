-- The kinds of the rules of a lex file (POSIX lex, actions): `|` takes the kind of the next rule.
use Rattle.std.specs.Prelude.{◌≡◌, ℕ, List, [], ◌∷◌}
use Rattle.cs_pattern_parts.specs.declared.kind.Kind.{Kind}
use Rattle.cs_pattern_parts.specs.declared.kind.Kind.TheVariants.{OwnByte, Skip, Foreign}
use Rattle.cs_yacc.specs.declared.reading.name.TokenName.TheVariants.{Word, Byte}
use Rattle.cs_yacc.specs.Reading.File as tokens
use Rattle.cs_lex.specs.Actions.Kinds.{ActionKind, bar, skip, word, literal, own_byte, foreign, IsKind}
use Rattle.cs_lex.specs.declared.layout.parts.Rule.{Rule}
use Rattle.cs_lex.specs.Layout.Layout.{bytes_of}
use Rattle.cs_lex.specs.Reading.Tokens.{GivesName}

-- the text of the rule's action
abbrev pub action_of : List ℕ → Rule → List ℕ
action_of bytes r = bytes_of bytes r.action

-- the rule has the action `|`
abbrev pub IsBarRule : List ℕ → Rule → Type 0
IsBarRule bytes r = IsKind (action_of bytes r) bar

-- An action of this kind gives its rule the kind, where the rules behind it have these kinds.
abbrev pub Gives : tokens.File → ActionKind → List Kind → Kind → Type 0
Gives file bar behind kind = (rest : List Kind) × (behind ≡ kind ∷ rest)
Gives file skip behind kind = kind ≡ Skip
Gives file (word w) behind kind = GivesName file (Word w) kind
Gives file (literal b) behind kind = GivesName file (Byte b) kind
Gives file own_byte behind kind = kind ≡ OwnByte
Gives file foreign behind kind = kind ≡ Foreign

-- the rule has the kind, where the rules behind it have these kinds
pub record HasKind (file : tokens.File) (bytes : List ℕ) (r : Rule) (behind : List Kind) (kind : Kind) : Type 0 where
  pub action : ActionKind
  pub is_kind : IsKind (action_of bytes r) action
  pub gives : Gives file action behind kind

-- the rules have the kinds, in order
abbrev pub HaveKinds : tokens.File → List ℕ → List Rule → List Kind → Type 0
HaveKinds file bytes [] kinds = kinds ≡ []
HaveKinds file bytes (r ∷ rs) [] = ⊥
HaveKinds file bytes (r ∷ rs) (k ∷ ks) = HasKind file bytes r ks k × HaveKinds file bytes rs ks
