-- What a grammar's tables say of it.
use Rattle.std.specs.Prelude.{◌≡◌, ◌≤◌, ◌<◌, ◌+◌, ◌-◌, ℕ, List, Some, length, slice_get, slice_index, All}
use Rattle.std.specs.Global.{Vec}
use Rattle.cs_grammar.specs.declared.symbol.Symbol.{Symbol}
use Rattle.cs_grammar.specs.declared.symbol.Symbol.TheVariants.{Token, Nonterminal}
use Rattle.cs_grammar.specs.Grammar.{Production, PlainGrammar, IsRule}
use Rattle.cs_member.specs.declared.tables.tables.Tables.{Tables}
use Rattle.cs_member.specs.declared.tables.fronts.Front.{Front}
use Rattle.cs_member.specs.Tables.Item.{IsEmpty, IsItem}
use Rattle.cs_member.specs.Tables.Adding.{HasAt}
use Rattle.cs_member.specs.Tables.Fronts.{IsEntry}

-- where an item's guess is kept
pub record HasPlaces (g : PlainGrammar) (bases : List ℕ) (items : ℕ) : Type 0 where
  pub each : length bases ≡ length g.rules
  pub room : (r : ℕ) (p : Production) (base : ℕ) → IsRule g r p → slice_get bases (r - 1) ≡ Some base → base + length p.right < items
  pub small : items ≤ 1056768

-- a rule is kept for the symbol
abbrev pub HasEmpty : List ℕ → Symbol → Type 0
HasEmpty empties (Token t) = ⊥
HasEmpty empties (Nonterminal a) = (r : ℕ) × (slice_get empties a ≡ Some r) × (0 < r)

-- the nonterminal's own rule, whose symbols have empty trees
pub record IsKeptRule (g : PlainGrammar) (empties : List ℕ) (a r : ℕ) : Type 0 where
  pub rule : Production
  pub number : IsRule g r rule
  pub left : rule.left ≡ a
  pub all : All (HasEmpty empties) rule.right

-- by nonterminal: 0, or a rule of an empty tree of it
pub record AreEmpties (g : PlainGrammar) (empties : List ℕ) : Type 0 where
  pub size : length empties ≡ g.nonterminals + 1
  pub none : (a : ℕ) → slice_get empties a ≡ Some 0 → IsEmpty g a → ⊥
  pub some : (a r : ℕ) → slice_get empties a ≡ Some r → 0 < r → IsEmpty g a
  pub rules : (a r : ℕ) → slice_get empties a ≡ Some r → 0 < r → IsKeptRule g empties a r

-- the symbol is a token, or it was found before the round
abbrev pub IsFoundBefore : List ℕ → ℕ → Symbol → Type 0
IsFoundBefore rounds n (Token t) = Unit {0}
IsFoundBefore rounds n (Nonterminal b) = slice_index rounds b < n

-- the symbols of each rule that is kept were found before it
pub record AreRounds (g : PlainGrammar) (empties rounds : List ℕ) : Type 0 where
  pub size : length rounds ≡ length empties
  pub below : (a : ℕ) → HasEmpty empties (Nonterminal a) → slice_index rounds a < length empties
  pub earlier : (a r : ℕ) (p : Production) → slice_get empties a ≡ Some r → 0 < r → IsRule g r p → All (IsFoundBefore rounds (slice_index rounds a)) p.right

-- the list has a place for the symbol
abbrev pub IsWithin : ℕ → Symbol → Type 0
IsWithin many (Token t) = Unit {0}
IsWithin many (Nonterminal a) = a < many

-- rules are kept for nonterminals that have empty trees alone
pub record AreTrue (g : PlainGrammar) (empties : List ℕ) : Type 0 where
  pub size : length empties ≡ g.nonterminals + 1
  pub some : (a r : ℕ) → slice_get empties a ≡ Some r → 0 < r → IsEmpty g a
  pub rules : (a r : ℕ) → slice_get empties a ≡ Some r → 0 < r → IsKeptRule g empties a r

-- no rule leads to a further nonterminal
abbrev pub IsSaturated : PlainGrammar → List ℕ → Type 0
IsSaturated g empties = (r : ℕ) (p : Production) → IsRule g r p → All (HasEmpty empties) p.right → HasEmpty empties (Nonterminal p.left)

-- fronts of the grammar's rules, by the numbers of what they begin with
pub record AreFronts (g : PlainGrammar) (symbol_of : ℕ → Symbol) (last : ℕ) (fronts : List (Vec Front)) : Type 0 where
  pub size : length fronts ≡ last + 1
  pub items : (b : ℕ) (list : Vec Front) → slice_get fronts b ≡ Some list → All (λ f. IsItem g f.item × (f.left ≤ g.nonterminals)) list.items
  pub entries : (b : ℕ) (f : Front) → HasAt fronts b f → IsEntry g (symbol_of b) f

-- tables of this grammar
pub record IsQuestion (g : PlainGrammar) (tables : Tables) : Type 0 where
  pub places : HasPlaces g tables.bases.items tables.items
  pub empties : AreEmpties g tables.empties.items
  pub rounds : AreRounds g tables.empties.items tables.rounds.items
  pub tokens : AreFronts g Token g.tokens tables.tokens.items
  pub nonterminals : AreFronts g Nonterminal g.nonterminals tables.nonterminals.items

-- the rule leads to a further nonterminal
pub record IsFurther (g : PlainGrammar) (empties : List ℕ) (r : ℕ) : Type 0 where
  pub rule : Production
  pub number : IsRule g r rule
  pub none : slice_get empties rule.left ≡ Some 0
  pub all : All (HasEmpty empties) rule.right
