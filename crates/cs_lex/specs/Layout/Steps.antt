-- Steps that follow one another, and units of a text that stand one behind the other.
use Rattle.std.specs.Prelude.{◌≡◌, ℕ, ◌+◌, ◌<◌, List, drop}

-- From the one state steps lead to the other: none, or one and then more.
pub data Walk {S : Type 0} (Step : S → S → Type 0) : S → S → Type 0 where
  here : {s : S} → Walk Step s s
  step : {s t u : S} → Step s t → Walk Step t u → Walk Step s u

-- a unit of the text stands at the one offset and ends at the other
pub record Spans (Unit : List ℕ → ℕ → Type 0) (text : List ℕ) (from to : ℕ) : Type 0 where
  pub size : ℕ
  pub unit : Unit (drop from text) size
  pub ends : to ≡ from + size

-- Units stand one behind the other from the text's front over n bytes, and the rest behind them is as said.
pub record Covers (Unit : List ℕ → ℕ → Type 0) (Rest : List ℕ → Type 0) (text : List ℕ) (n : ℕ) : Type 0 where
  pub units : Walk (Spans Unit text) 0 n
  pub rest : Rest (drop n text)

-- the front of the text has this size, and it isn't 0, which says that nothing stands there
pub record HasSize (size_of : List ℕ → ℕ) (text : List ℕ) (n : ℕ) : Type 0 where
  pub is : n ≡ size_of text
  pub some : 0 < n
