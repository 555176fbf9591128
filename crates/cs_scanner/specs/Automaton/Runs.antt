-- The walks of the code.
use Rattle.std.specs.Prelude.{◌≡◌, ℕ, true, false, Bool, List, []}
use Rattle.cs_pattern_parts.specs.Tree.Pattern.{Regex}
use Rattle.cs_scanner.specs.declared.automaton.running.Backward.{Backward}
use Rattle.cs_scanner.specs.declared.automaton.running.Forward.{Forward}
use Rattle.cs_scanner.specs.declared.automaton.program.Rule.{Rule}
use Rattle.cs_scanner.specs.Automaton.Bits.{bit, Puts}
use Rattle.cs_scanner.specs.Automaton.Exits.{exit, nexts}
use Rattle.cs_scanner.specs.Automaton.Meaning.{re}
use Rattle.cs_scanner.specs.Automaton.Places.{with_places}
use Rattle.cs_scanner.specs.Automaton.Programs.{IsRule}
use Rattle.cs_scanner.specs.declared.automaton.op.Op.{Op}
use Rattle.cs_scanner.specs.Automaton.Walks.{Going, Backing, back_all, go_all, put_all}

abbrev pub backward_of : Backward → Backing
backward_of w = record { ahead = w.ahead; ends = w.ends; frames = w.frames.items; finals = w.finals.items }

abbrev pub forward_of : Forward → Going
forward_of w = record { live = w.live; frames = w.frames.items; finals = w.finals.items }

abbrev pub start_back : Backing
start_back = record { ahead = true; ends = false; frames = []; finals = [] }

-- for each many of the rule, from the last to the first, whether its part may end at a place of the set
abbrev pub ends_in : Rule → List ℕ → List Bool
ends_in rule set = (back_all (bit set) rule.ops.items start_back).finals

-- the ends of the manies, where it is the rule of a pattern
abbrev pub FindsEnds : Rule → List ℕ → List Bool → Type 0
FindsEnds rule set ends = (from : ℕ) (r : Regex) → IsRule rule from r → ends ≡ ends_in rule set

-- The rule, entered or not, was walked over a set: whether a word may end at one of its places, and what may come next.
pub record IsWalked (rule : Rule) (entered : Bool) (set old new : List ℕ) (ends : Bool) : Type 0 where
  pub ends_there : (number from : ℕ) (r : Regex) → IsRule rule from r → ends ≡ exit (bit set) (with_places number from (re r)) entered
  pub puts : (number from : ℕ) (r : Regex) → IsRule rule from r → Puts old new (nexts (bit set) (with_places number from (re r)) entered)

abbrev pub start_on : Bool → List Bool → Going
start_on entered finals = record { live = entered; frames = []; finals = finals }

-- a word may end behind these steps, which are entered or not and have these ends of manies
abbrev pub live_on : List ℕ → List Op → Bool → List Bool → Bool
live_on set ops entered finals = (go_all (bit set) ops (start_on entered finals)).live

-- the numbers that may come next in them
abbrev pub put_on : List ℕ → List Op → Bool → List Bool → List ℕ
put_on set ops entered finals = put_all (bit set) ops (start_on entered finals)
