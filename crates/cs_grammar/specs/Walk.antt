-- Words of the proof of expansions: what a walk over rule numbers has in hand, and what it comes to.
use Rattle.std.specs.Prelude.{◌≡◌, ℕ, List, ◌++◌, map, reverse, Option, Some, None}
use Rattle.std.specs.List.{flat_map}
use Rattle.std.specs.Borrow.{Bor}
use Rattle.std.specs.Global.{Vec}
use Rattle.cs_grammar.specs.declared.symbol.Symbol.{Symbol}
use Rattle.cs_grammar.specs.declared.symbol.Symbol.TheVariants.{Token}
use Rattle.cs_grammar.specs.declared.walk.Expansion.{Expansion}
use Rattle.cs_grammar.specs.declared.walk.Expansion.TheVariants.{Yield, WrongRule, TooFew, TooMany}
use Rattle.cs_grammar.specs.Grammar.{PlainGrammar}
use Rattle.cs_grammar.specs.Leftmost.{IsYield, IsWrongAt, IsTooFew, IsTooManyAt, form}

-- what the rule numbers come to
abbrev pub IsExpansion : PlainGrammar → List ℕ → Expansion → Type 0
IsExpansion g rules (Yield tokens) = IsYield g rules tokens.items
IsExpansion g rules (WrongRule at) = IsWrongAt g rules at
IsExpansion g rules TooFew = IsTooFew g rules
IsExpansion g rules (TooMany at) = IsTooManyAt g rules at

-- the symbols that a walk has in hand: the tokens in front, and what is open behind them, which stands in reverse
abbrev pub in_hand : Vec ℕ → Vec Symbol → List Symbol
in_hand done pending = map Token done.items ++ reverse pending.items

-- the symbols are tokens alone, or the nonterminal n stands behind the tokens in front
abbrev pub IsFront : List Symbol → Vec ℕ → Vec Symbol → Option ℕ → Type 0
IsFront symbols done pending None = symbols ≡ map Token done.items
IsFront symbols done pending (Some n) = symbols ≡ form done.items n (reverse pending.items)

-- the symbols that are kept to be read later: slices, of which the last one stands in front
abbrev pub kept : Vec (Bor (List Symbol)) → List Symbol
kept pending = flat_map (λ slice. slice.now) (reverse pending.items)

-- the tokens that are done, the symbols that are read next, and those that are kept behind them
abbrev pub ahead : Vec ℕ → List Symbol → Vec (Bor (List Symbol)) → List Symbol
ahead done symbols pending = map Token done.items ++ (symbols ++ kept pending)

-- the same where all is read, and where a nonterminal is taken
abbrev pub reached : Vec ℕ → Vec (Bor (List Symbol)) → Option ℕ → List Symbol
reached done pending None = map Token done.items
reached done pending (Some n) = form done.items n (kept pending)

-- the tokens in front of the symbols stand behind those that were done: all of them, or those up to a nonterminal with what
-- stands behind it
abbrev pub IsLed : List Symbol → Vec ℕ → Vec ℕ → Option (ℕ × Bor (List Symbol)) → Type 0
IsLed symbols old new None = map Token old.items ++ symbols ≡ map Token new.items
IsLed symbols old new (Some led) = map Token old.items ++ symbols ≡ form new.items led.0 led.1.now
