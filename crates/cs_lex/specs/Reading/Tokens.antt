-- The tokens in use of a yacc file, by their names.
use Rattle.std.specs.Prelude.{◌≡◌, ℕ, ◌<◌, List, slice_index, length}
use Rattle.cs_pattern_parts.specs.declared.kind.Kind.{Kind}
use Rattle.cs_pattern_parts.specs.declared.kind.Kind.TheVariants.{Token, Foreign}
use Rattle.cs_yacc.specs.declared.reading.name.TokenName.{TokenName}
use Rattle.cs_yacc.specs.declared.reading.name.TokenName.TheVariants.{Byte}
use Rattle.cs_yacc.specs.Reading.File as tokens
use Rattle.cs_yacc.specs.Reading.File.{IsNamed, NoneNamed}

-- What a name gives: its token, or what isn't known where it isn't in use.
pub data GivesName (file : tokens.File) (name : TokenName) (kind : Kind) : Type 0 where
  in_use : (token : ℕ) → IsNamed file.token_names token name → kind ≡ Token token → GivesName file name kind
  not_in_use : NoneNamed file.token_names name → kind ≡ Foreign → GivesName file name kind

-- The entry of a byte: the token of its literal, or 0 where that isn't in use.
pub data IsEntry (file : tokens.File) (byte entry : ℕ) : Type 0 where
  in_use : IsNamed file.token_names entry (Byte byte) → IsEntry file byte entry
  not_in_use : NoneNamed file.token_names (Byte byte) → entry ≡ 0 → IsEntry file byte entry

-- the entries of all bytes, in order
pub record AreLiterals (file : tokens.File) (literals : List ℕ) : Type 0 where
  pub count : length literals ≡ 256
  pub each : (byte : ℕ) → byte < 256 → IsEntry file byte (slice_index literals byte)
