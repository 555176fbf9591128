-- Bases: lists of tokens, at most so many and each once, with the number of the first goal that has these tokens.
use Rattle.std.specs.Prelude.{◌≡◌, ℕ, ◌+◌, ◌<◌, List, [], ◌∷◌, ◌++◌, length, map, Any, Bool, IsTrue, if◌then◌else◌}
use Rattle.std.specs.Global.{Vec}
use Rattle.cs_manifest.specs.Manifest.Lines.{is_feasible}
use Rattle.cs_manifest.specs.Manifest.Manifest.{GoalEntry, bases}

-- what contracts see of bases: how many there may be, and each base in order, the number of its goal and its tokens
pub record PlainBases : Type 0 where
  pub most : ℕ
  pub list : List (ℕ × List ℕ)

abbrev pub no_bases : ℕ → PlainBases
no_bases most = record { most = most; list = [] }

-- some base has these tokens
abbrev pub HasTokens : PlainBases → List ℕ → Type 0
HasTokens bases tokens = Any (λ base. base.1 ≡ tokens) bases.list

-- no base has these tokens, and there is room for one more
pub record IsFree (bases : PlainBases) (tokens : List ℕ) : Type 0 where
  pub new : HasTokens bases tokens → ⊥
  pub room : length bases.list < bases.most

-- one more base, which stands last
abbrev pub with_base : PlainBases → ℕ → List ℕ → PlainBases
with_base bases goal tokens = record { most = bases.most; list = bases.list ++ (goal, tokens) ∷ [] }

-- what an offer leaves, as the tokens are taken or not
abbrev pub offered : PlainBases → ℕ → List ℕ → Bool → PlainBases
offered bases goal tokens taken = if taken then with_base bases goal tokens else bases

-- ---- the bases of the entries of goals

abbrev pub bases_of : ℕ → List GoalEntry → PlainBases
bases_of most entries = record { most = most; list = bases most entries }

-- a feasible goal's entry comes behind these, and its tokens are free
pub record IsTaken (most : ℕ) (entries : List GoalEntry) (entry : GoalEntry) : Type 0 where
  pub feasible : IsTrue (is_feasible entry.verdict)
  pub free : IsFree (bases_of most entries) entry.tokens

-- then they are one more base; the goal's number counts from 1
abbrev pub TakesFree : ℕ → List GoalEntry → Type 0
TakesFree most entries = (entry : GoalEntry) →
    IsTaken most entries entry → bases_of most (entries ++ entry ∷ []) ≡ with_base (bases_of most entries) (length entries + 1) entry.tokens

-- else the bases stay
abbrev pub PassesOthers : ℕ → List GoalEntry → Type 0
PassesOthers most entries = (entry : GoalEntry) → (IsTaken most entries entry → ⊥) → bases_of most (entries ++ entry ∷ []) ≡ bases_of most entries

-- ---- the table of the bases

-- the bases of a table of goals by their tokens
abbrev pub base_in : Vec ℕ × ℕ → ℕ × List ℕ
base_in entry = (entry.1, entry.0.items)

abbrev pub bases_in : List (Vec ℕ × ℕ) → List (ℕ × List ℕ)
bases_in entries = map base_in entries
