-- Two walks over the steps of a pattern: to its front, which finds whether the part of each many may end, and to its end,
-- which finds what may come next.
use Rattle.std.specs.Prelude.{ℕ, ◌-◌, Bool, true, false, ◌&&◌, ◌||◌, if◌then◌else◌, List, [], ◌∷◌, ◌++◌, length, take, slice_index_or}
use Rattle.cs_scanner.specs.declared.automaton.op.Op.{Op}
use Rattle.cs_scanner.specs.declared.automaton.op.Op.TheVariants as ops
use Rattle.cs_scanner.specs.declared.automaton.op.Frame.{Frame}

abbrev pub frame : Bool → Bool → Frame
frame entered left = record { entered = entered; left = left }

abbrev pub top : List Frame → Frame
top fs = slice_index_or fs (length fs - 1) (frame false false)

abbrev pub below : List Frame → List Frame
below fs = take (length fs - 1) fs

abbrev pub last_of : List Bool → Bool
last_of bs = slice_index_or bs (length bs - 1) false

abbrev pub before_last : List Bool → List Bool
before_last bs = take (length bs - 1) bs

-- to the end: whether the next step is entered, the open frames, and the ends of the manies to come, the next one last
pub record Going : Type 0 where
  pub live : Bool
  pub frames : List Frame
  pub finals : List Bool

module _ (S : ℕ → Bool) where
  abbrev pub go : Op → Going → Going
  go (ops.Place n) g = record { live = S n; frames = g.frames; finals = g.finals }
  go ops.Open g = record { live = g.live; frames = g.frames ++ frame g.live false ∷ []; finals = g.finals }
  go ops.Or g = record { live = (top g.frames).entered; frames = below g.frames ++ frame (top g.frames).entered ((top g.frames).left || g.live) ∷ []; finals = g.finals }
  go ops.Close g = record { live = (top g.frames).left; frames = below g.frames; finals = g.finals }
  go ops.Loop g = record { live = g.live || last_of g.finals; frames = g.frames ++ frame g.live (last_of g.finals) ∷ []; finals = before_last g.finals }
  go ops.Again g = record { live = (top g.frames).entered || (top g.frames).left; frames = below g.frames; finals = g.finals }

  abbrev pub go_all : List Op → Going → Going
  go_all [] g = g
  go_all (op ∷ ops) g = go_all ops (go op g)

  -- the numbers that may come next
  abbrev pub put : Op → Bool → List ℕ
  put (ops.Place n) live = if live then n ∷ [] else []
  put ops.Open live = []
  put ops.Or live = []
  put ops.Close live = []
  put ops.Loop live = []
  put ops.Again live = []

  abbrev pub put_all : List Op → Going → List ℕ
  put_all [] g = []
  put_all (op ∷ ops) g = put op g.live ++ put_all ops (go op g)

-- to the front: whether all that is passed may be empty, whether a word may end in it, the open frames, and the ends that
-- were found
pub record Backing : Type 0 where
  pub ahead : Bool
  pub ends : Bool
  pub frames : List Frame
  pub finals : List Bool

module _ (S : ℕ → Bool) where
  abbrev pub back : Op → Backing → Backing
  back (ops.Place n) g = record { ahead = false; ends = g.ends || (g.ahead && S n); frames = g.frames; finals = g.finals }
  back ops.Close g = record { ahead = false; ends = g.ends; frames = g.frames ++ frame g.ahead false ∷ []; finals = g.finals }
  back ops.Or g = record { ahead = (top g.frames).entered; ends = g.ends; frames = below g.frames ++ frame (top g.frames).entered ((top g.frames).left || g.ahead) ∷ []; finals = g.finals }
  back ops.Open g = record { ahead = (top g.frames).left || g.ahead; ends = g.ends; frames = below g.frames; finals = g.finals }
  back ops.Again g = record { ahead = true; ends = false; frames = g.frames ++ frame g.ahead g.ends ∷ []; finals = g.finals }
  back ops.Loop g = record { ahead = (top g.frames).entered; ends = (top g.frames).left || ((top g.frames).entered && g.ends); frames = below g.frames; finals = g.finals ++ g.ends ∷ [] }

  abbrev pub back_all : List Op → Backing → Backing
  back_all [] g = g
  back_all (op ∷ ops) g = back op (back_all ops g)
