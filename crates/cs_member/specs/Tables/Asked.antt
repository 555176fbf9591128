-- What contracts say of sets, lists by number, and which nonterminals are expected.
use Rattle.std.specs.Prelude.{◌≡◌, ◌≤◌, ◌<◌, ◌⊎◌, [], ◌↔◌, ℕ, List, Bool, Some, true, All, length, slice_get, slice_index}
use Rattle.std.specs.Int.{bit_at}
use Rattle.std.specs.Global.{Vec}
use Rattle.cs_grammar.specs.Grammar.{PlainGrammar}
use Rattle.cs_member.specs.declared.tables.word.Word.{Word}
use Rattle.cs_member.specs.declared.tables.empties.Empties.{Empties}
use Rattle.cs_member.specs.Tables.Sets.{Has}
use Rattle.cs_member.specs.Tables.Tables.{AreRounds}
use Rattle.cs_member.specs.Tables.Expecting.{Marks}

-- the set stays short
abbrev pub StaysShort : List ℕ → List ℕ → Type 0
StaysShort old new = length old ≤ 1024 → length new ≤ 1024

abbrev pub AreSmall : List Word → Type 0
AreSmall words = All (λ word. word.at < 1024) words

-- the set has these numbers too
abbrev pub HasAlso : (ℕ → Type 0) → List ℕ → List ℕ → Type 0
HasAlso These old new = (n : ℕ) → Has new n ↔ (Has old n ⊎ These n)

-- these bits stand at the place too
abbrev pub HasBitsAlso : ℕ → ℕ → List ℕ → List ℕ → Type 0
HasBitsAlso at bits old new =
    (n i : ℕ) → (bit_at (slice_index new n) i ≡ 1) ↔ ((bit_at (slice_index old n) i ≡ 1) ⊎ ((at ≡ n) × (bit_at bits i ≡ 1)))

abbrev pub AreEmptyLists : {X : Type 0} → List (Vec X) → Type 0
AreEmptyLists {X} lists = (n : ℕ) (list : Vec X) → slice_get lists n ≡ Some list → list.items ≡ []

abbrev pub HasRounds : PlainGrammar → Empties → Type 0
HasRounds g empties = AreRounds g empties.rules.items empties.rounds.items

abbrev pub MarksIn : Vec Bool → Vec ℕ → Vec Bool → Vec ℕ → Type 0
MarksIn expected pending marked listed = Marks expected.items pending.items marked.items listed.items

abbrev pub HasMarked : Vec Bool → List ℕ → Type 0
HasMarked expected nonterminals = All (λ a. slice_get expected.items a ≡ Some true) nonterminals
