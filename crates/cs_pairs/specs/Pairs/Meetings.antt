-- What the pairs cost, and where their tokens meet, as ways tell it.
use Rattle.std.specs.Prelude.{◌≡◌, ℕ, ◌-◌, List, [], Option, Some, None, length, slice_get, slice_index_or}
use Rattle.cs_grammar.specs.declared.symbol.Mark.TheVariants.{Token}
use Rattle.cs_grammar.specs.Grammar.{PlainGrammar, IsNumberOf}
use Rattle.cs_grammar.specs.Weights.{Measure, Weighed, number}
use Rattle.cs_grammar.specs.Tree.{size}
use Rattle.cs_least.specs.declared.cost.cost.Cost.{Cost}
use Rattle.cs_least.specs.declared.cost.cost.Cost.TheVariants as cost
use Rattle.cs_least.specs.Cost.Least.{IsCost}
use Rattle.cs_least.specs.Cost.Rank.{cost_of, plus}
use Rattle.cs_least.specs.Embed.Ways.{told_cost}
use Rattle.cs_least.specs.declared.ways.reach.Reach.{Reach}
use Rattle.cs_least.specs.declared.ways.reach.Reach.TheVariants.{Never, Large, Least}
use Rattle.cs_pairs.specs.declared.pairs.meeting.Meeting.{Meeting}
use Rattle.cs_pairs.specs.declared.pairs.follows.Follows.{Follows}
use Rattle.cs_pairs.specs.declared.pairs.follows.FollowRows.{FollowRows}
use Rattle.cs_pairs.specs.Pairs.Pairs.{HasPair, ArePairs, ArePairRows}
use Rattle.cs_pairs.specs.Pairs.SeamPlace.{IsMeetingAt}

-- a leaf of the first token and what follows it
abbrev pub pair_cost : Measure → ℕ → Reach → Cost
pair_cost w a reach = plus w.limit (cost_of w.limit (number w a)) (told_cost reach)

-- the place of a way's source
abbrev pub origin_in : List Meeting → Reach → Option Meeting
origin_in places (Least n origin) = slice_get places origin
origin_in places Large = None
origin_in places Never = None

-- where a least tree with the pair is within the limit, its tokens meet here
abbrev pub TellsMeeting : Measure → PlainGrammar → ℕ → ℕ → Option Meeting → Type 0
TellsMeeting w g a b found =
    (n : ℕ) → IsCost w.limit (HasPair g (Token a) (Token b)) (size w) (cost.Least n) → (at : Meeting) × (found ≡ Some at) × IsMeetingAt w g a b n at.rule at.place

-- so is told of the pairs of the first so many tokens whose second token is b
pub record TellMeetings (w : Measure) (g : PlainGrammar) (b count : ℕ) (places : List (Option Meeting)) : Type 0 where
  pub many : length places ≡ count
  pub each : (a : ℕ) → IsNumberOf count a → TellsMeeting w g a b (slice_index_or places (a - 1) None)

-- what is told of the pairs of a second token
abbrev pub AreFollowsIn : Weighed → ℕ → Follows → Type 0
AreFollowsIn v b f = ArePairs v.weights v.grammar b f.costs × TellMeetings v.weights v.grammar b v.grammar.tokens f.meetings

-- and of the first so many second tokens
pub record AreMeetingRows (w : Measure) (g : PlainGrammar) (count : ℕ) (rows : List (List (Option Meeting))) : Type 0 where
  pub many : length rows ≡ count
  pub each : (b : ℕ) → IsNumberOf count b → TellMeetings w g b g.tokens (slice_index_or rows (b - 1) [])

abbrev pub AreRowsTo : Weighed → ℕ → FollowRows → Type 0
AreRowsTo v count rows = ArePairRows v.weights v.grammar count rows.costs.items × AreMeetingRows v.weights v.grammar count rows.meetings.items

abbrev pub AreFollowRows : Weighed → FollowRows → Type 0
AreFollowRows v rows = AreRowsTo v v.grammar.tokens rows
