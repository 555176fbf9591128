-- Parts of the lines of chains. Working words of proofs.
use Rattle.std.specs.Prelude.{ℕ, List, ◌++◌, codes, decimal}
use Rattle.cs_yacc.specs.Reading.File.{File}
use Rattle.cs_manifest.specs.Output.Names.{AreNamedTokens, token_words, tokens_below}
use Rattle.cs_manifest.specs.Output.Words.{line, numbered_word, spaced}
use Rattle.cs_manifest.specs.Writer.Below.{derive_below}
use Rattle.cs_chain.specs.declared.chains.chain.Chain.{Chain}
use Rattle.cs_chain_text.specs.declared.rows.parts.Part.{Part}
use Rattle.cs_chain_text.specs.declared.rows.parts.Part.TheVariants.{Head, Number, Before, Code, Middle, Names, End}

-- ` chain P I Q J`
abbrev pub head_words : Chain → List ℕ
head_words c = numbered_word (codes " chain ") c.outer ++ numbered_word (codes " ") c.place ++ numbered_word (codes " ") c.middle ++ numbered_word (codes " ") c.spot

-- rule numbers, and the line of tokens below
abbrev pub middle_words : File → List ℕ → List ℕ → List ℕ
middle_words file rules tokens = spaced decimal rules ++ tokens_below file tokens

abbrev pub part_words : File → Part → List ℕ
part_words file (Head chain) = head_words chain
part_words file (Number rule) = numbered_word (codes " ") rule
part_words file (Before rules) = derive_below rules.now
part_words file (Code rules) = spaced decimal rules.now
part_words file (Middle rules tokens) = middle_words file rules.now tokens.now
part_words file (Names tokens) = token_words file tokens.now
part_words file (End tokens) = line (token_words file tokens.now)

-- the numbers of its tokens are of the file
abbrev pub IsNamedPart : File → Part → Type 0
IsNamedPart file (Head chain) = Unit {0}
IsNamedPart file (Number rule) = Unit {0}
IsNamedPart file (Before rules) = Unit {0}
IsNamedPart file (Code rules) = Unit {0}
IsNamedPart file (Middle rules tokens) = AreNamedTokens file tokens.now
IsNamedPart file (Names tokens) = AreNamedTokens file tokens.now
IsNamedPart file (End tokens) = AreNamedTokens file tokens.now
