-- Files whose symbols have names that a yacc file may give. These are working words of the proof.
use Rattle.std.specs.Prelude.{◌<◌}
use Rattle.std.specs.List.{All}
use Rattle.cs_yacc.specs.declared.reading.name.TokenName.{TokenName}
use Rattle.cs_yacc.specs.declared.reading.name.TokenName.TheVariants.{Word, Byte}
use Rattle.cs_yacc.specs.Items.Items.{IsName}
use Rattle.cs_yacc.specs.Reading.File.{File, IsFile}

-- a name, or a byte between quotes
abbrev pub IsTokenName : TokenName → Type 0
IsTokenName (Word name) = IsName name
IsTokenName (Byte b) = b < 256

-- a file as reading makes it
pub record IsNamedFile (file : File) : Type 0 where
  pub is : IsFile file
  pub tokens : All IsTokenName file.token_names
  pub nonterminals : All IsName file.nonterminal_names
