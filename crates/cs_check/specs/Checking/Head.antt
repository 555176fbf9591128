-- What is known of the lines of the head. Working words of the code's contracts.
use Rattle.std.specs.Prelude.{◌≡◌, ◌↔◌, ◌⊎◌, ◌≤◌, ◌+◌, ℕ, Bool, true, false, IsTrue, IfOk, Result, List, [], ◌∷◌, ◌++◌, drop, length, map, All, Option, Some, None, IfSome, IfNone}
use Rattle.std.specs.Option.{option_map}
use Rattle.cs_grammar.specs.Grammar.{PlainGrammar, IsNumberOf}
use Rattle.cs_grammar.specs.Weights.{Measure, byte_weight}
use Rattle.cs_choices.specs.declared.weigh.Weigh.{Weigh}
use Rattle.cs_choices.specs.declared.weigh.Weigh.TheVariants.{Nodes, Bytes}
use Rattle.cs_yacc.specs.Reading.File.{File}
use Rattle.cs_check.specs.declared.passing.fault.ClaimFault.{ClaimFault}
use Rattle.cs_check.specs.declared.passing.fault.ClaimFault.TheVariants as faults
use Rattle.cs_check.specs.declared.checking.due.Due as held_dues
use Rattle.cs_check.specs.declared.checking.head.Head.{Head}
use Rattle.cs_lines.specs.declared.lines.line.Line as held
use Rattle.cs_lines.specs.declared.lines.quoted.Quoted.{Quoted}
use Rattle.cs_lines.specs.Lines.Line.{SetKind, Productive, Reachable, Empty, RowKind, First, Last, Next, Line}
use Rattle.cs_lines.specs.Lines.Read.{Tells, TellsText}
use Rattle.cs_closed.specs.Closed.Sets.{PlainSets}
use Rattle.cs_check.specs.Passing.Above.{weighs, lexemes, sets, rows, has_sets}
use Rattle.cs_check.specs.Passing.Head.{Due, TheWeighing, TheToken, TheRule, TheLexeme, TheSet, TheRow, Takes, IsOfFile, AreClaimed, head_size, whole_head}
use Rattle.cs_check.specs.Passing.Dues.{due_told}
use Rattle.cs_check.specs.Passing.Places.{IsInHead}
use Rattle.cs_check.specs.Passing.Entries.{IsMeasured}
use Rattle.cs_check.specs.Passing.Faults.{HasHead, HasClosed}
use Rattle.cs_check.specs.Checking.Claims.{AreWholeSets, IsRowNumber}
use Rattle.cs_check.specs.Checking.Excluded.{AreSetsIn, ClaimsClosed}

-- ---- how many lines there are

pub record State : Type 0 where
  pub weighs : ℕ
  pub productive : ℕ
  pub reachable : ℕ
  pub empty : ℕ
  pub firsts : ℕ
  pub lasts : ℕ
  pub nexts : ℕ

abbrev pub state_of : List Line → State
state_of lines = record {
  weighs = length (weighs lines);
  productive = length (sets Productive lines);
  reachable = length (sets Reachable lines);
  empty = length (sets Empty lines);
  firsts = length (rows First lines);
  lasts = length (rows Last lines);
  nexts = length (rows Next lines);
}

-- with the line that is due
abbrev pub after : State → Due → State
after s TheWeighing = record s { weighs = s.weighs + 1 }
after s (TheSet Productive) = record s { productive = s.productive + 1 }
after s (TheSet Reachable) = record s { reachable = s.reachable + 1 }
after s (TheSet Empty) = record s { empty = s.empty + 1 }
after s (TheRow First n) = record s { firsts = s.firsts + 1 }
after s (TheRow Last n) = record s { lasts = s.lasts + 1 }
after s (TheRow Next n) = record s { nexts = s.nexts + 1 }
after s d = s

-- the line that is due is the next of its kind, and there is what stands in front of it
abbrev pub IsNextIn : State → Due → Type 0
IsNextIn s TheWeighing = s.weighs ≡ 0
IsNextIn s (TheLexeme t) = s.weighs ≡ 1
IsNextIn s (TheSet Productive) = (s.productive ≡ 0) × (s.weighs ≡ 1)
IsNextIn s (TheSet Reachable) = s.reachable ≡ 0
IsNextIn s (TheSet Empty) = s.empty ≡ 0
IsNextIn s (TheRow First n) = (n ≡ s.firsts + 1) × (s.productive ≡ 1)
IsNextIn s (TheRow Last n) = (n ≡ s.lasts + 1) × (s.productive ≡ 1)
IsNextIn s (TheRow Next n) = (n ≡ s.nexts) × (s.productive ≡ 1)
IsNextIn s d = Unit {0}

-- so are these, one behind another, up to the end
abbrev pub AreNext : State → List Due → Type 0
AreNext s [] = s.weighs ≡ 1
AreNext s (d ∷ ds) = IsNextIn s d × AreNext (after s d) ds

-- all lines are in the head, and what is left of it is the next
pub record IsPlace (g : PlainGrammar) (above : List Line) : Type 0 where
  pub within : length above ≤ head_size g above
  pub next : AreNext (state_of above) (drop (length above) (whole_head g))

-- ---- what the code knows of the lines above, which are all in the head

-- the number of a token with this text, by what sizes count
abbrev pub number_by : Weigh → Option (List ℕ) → ℕ
number_by Nodes text = 1
number_by Bytes text = byte_weight (option_map length text)

-- what sizes count isn't told yet, or it is this, and the lexemes have these numbers
abbrev pub TellsMeasure : List Line → Weigh → List ℕ → Type 0
TellsMeasure above weigh numbers =
    ((weighs above ≡ []) × (lexemes above ≡ []) × (numbers ≡ []))
    ⊎ ((weighs above ≡ weigh ∷ []) × (numbers ≡ map (number_by weigh) (lexemes above)))

-- no closed line is there
pub record IsUnclaimed (lines : List Line) : Type 0 where
  pub no_set : (kind : SetKind) → sets kind lines ≡ []
  pub no_row : (kind : RowKind) → rows kind lines ≡ []

-- the sets, if there are some, are of the grammar
abbrev pub AreWholeIn : PlainGrammar → Option PlainSets → Type 0
AreWholeIn g told = IfSome told (AreWholeSets g)

abbrev pub HasWholeSets : PlainGrammar → Head → Type 0
HasWholeSets g h = AreWholeIn g h.sets

pub record KnowsHead (file : File) (above : List Line) (h : Head) : Type 0 where
  pub many : h.above ≡ length above
  pub place : IsPlace file.grammar above
  pub sets : AreSetsIn file above h.sets
  pub unclaimed : IfNone h.sets (IsUnclaimed above)
  pub whole : HasWholeSets file.grammar h
  pub measure : TellsMeasure above h.weigh h.numbers.items

-- the head is at its end: its sets, and how trees are measured, are known from there on
pub record HasEnded (file : File) (above : List Line) (h : Head) : Type 0 where
  pub ended : head_size file.grammar above ≤ length above
  pub sets : AreSetsIn file above h.sets
  pub measured : (w : Measure) × IsMeasured above w × (w.numbers ≡ h.numbers.items) × All (λ n. n ≤ 1000000) w.numbers

-- ---- what the code answers

-- whether the line that is told is the next of the head
abbrev pub TellsInHead : Head → PlainGrammar → held.Line → Bool → Type 0
TellsInHead h g told so =
    (file : File) (above : List Line) (l : Line) → file.grammar ≡ g → KnowsHead file above h → Tells told l → IsTrue so ↔ IsInHead g above l

-- whether a line behind the head may come
abbrev pub TellsEnded : Head → PlainGrammar → Bool → Type 0
TellsEnded h g so =
    (file : File) (above : List Line) → file.grammar ≡ g → KnowsHead file above h → IsTrue so ↔ (head_size g above ≤ length above)

-- a line of the head is right, and taken, or has the fault
abbrev pub IsHeadJudged : File → List Line → Line → Head → Option ClaimFault → Type 0
IsHeadJudged file above l new None =
    HasHead file above l × HasClosed file above l × KnowsHead file (above ++ l ∷ []) new
IsHeadJudged file above l new (Some faults.Head) = HasHead file above l → ⊥
IsHeadJudged file above l new (Some faults.Unclosed) = HasHead file above l × (HasClosed file above l → ⊥)
IsHeadJudged file above l new (Some f) = ⊥

-- the next line of the head is judged
abbrev pub JudgesHead : {E : Type 0} → File → Head → held.Line → Head → Result (Option ClaimFault) E → Type 0
JudgesHead file old told new result =
    (above : List Line) (l : Line) → KnowsHead file above old → Tells told l → IsInHead file.grammar above l
    → IfOk result (IsHeadJudged file above l new)

-- ---- and its steps

-- the number of a line that is due is one of the grammar's
abbrev pub IsDueOf : PlainGrammar → Due → Type 0
IsDueOf g (TheToken t) = IsNumberOf g.tokens t
IsDueOf g (TheRule r) = IsNumberOf (length g.rules) r
IsDueOf g (TheLexeme t) = IsNumberOf g.tokens t
IsDueOf g (TheRow kind n) = IsRowNumber g kind n
IsDueOf g d = Unit {0}

-- whether the line is one for the place
abbrev pub TellsTaken : held_dues.Due → held.Line → Bool → Type 0
TellsTaken due told so = (l : Line) → Tells told l → IsTrue so ↔ Takes (due_told due) l

-- whether such a line is the file's
abbrev pub TellsOfFile : File → Due → held.Line → Bool → Type 0
TellsOfFile file d told so = (l : Line) → Tells told l → Takes d l → IsTrue so ↔ IsOfFile file d l

-- the number of a token whose text is told
abbrev pub IsNumberBy : Weigh → Option Quoted → ℕ → Type 0
IsNumberBy weigh told number = (text : Option (List ℕ)) → TellsText told text → number ≡ number_by weigh text

-- sets are there, with nothing in them where no line claims anything
abbrev pub BeginsClaims : {E : Type 0} → File → Option PlainSets → Result PlainSets E → Type 0
BeginsClaims file old result =
    (lines : List Line) → AreSetsIn file lines old → IfNone old (IsUnclaimed lines) → IfOk result (AreClaimed file lines)

-- a closed line is the file's, and the sets are those with it; or it isn't
abbrev pub IsClaimJudged : File → List Line → Due → Line → Option PlainSets → Bool → Type 0
IsClaimJudged file lines d l new true = IsOfFile file d l × (s : PlainSets) × (new ≡ Some s) × AreSetsIn file (lines ++ l ∷ []) (Some s)
IsClaimJudged file lines d l new false = IsOfFile file d l → ⊥

abbrev pub JudgesSet : {E : Type 0} → File → Option PlainSets → SetKind → held.Line → Option PlainSets → Result Bool E → Type 0
JudgesSet file old kind told new result =
    (lines : List Line) (l : Line) → AreSetsIn file lines old → IfNone old (IsUnclaimed lines) → IsNextIn (state_of lines) (TheSet kind)
    → Tells told l → Takes (TheSet kind) l → IfOk result (IsClaimJudged file lines (TheSet kind) l new)

abbrev pub JudgesRow : File → Option PlainSets → RowKind → ℕ → held.Line → Option PlainSets → Bool → Type 0
JudgesRow file old kind n told new so =
    (lines : List Line) (l : Line) → AreSetsIn file lines old → IfNone old (IsUnclaimed lines) → IsNextIn (state_of lines) (TheRow kind n)
    → Tells told l → Takes (TheRow kind n) l → IsClaimJudged file lines (TheRow kind n) l new so

-- with the line counted
abbrev pub counted : Head → Head
counted h = record h { above = h.above + 1 }

-- the line that is due is the file's, and known once it is counted; or it isn't
abbrev pub IsDueJudged : File → List Line → Due → Line → Head → Bool → Type 0
IsDueJudged file above d l new true = IsOfFile file d l × KnowsHead file (above ++ l ∷ []) (counted new)
IsDueJudged file above d l new false = IsOfFile file d l → ⊥

abbrev pub JudgesDue : {E : Type 0} → File → Head → Due → held.Line → Head → Result Bool E → Type 0
JudgesDue file old d told new result =
    (above : List Line) (l : Line) (h : IsInHead file.grammar above l) → h.due ≡ d → KnowsHead file above old → Tells told l
    → IfOk result (IsDueJudged file above d l new)

-- whether the sets that lines claim are closed
abbrev pub AnswersClosed : File → Head → Bool → Type 0
AnswersClosed file h so =
    (lines : List Line) → AreSetsIn file lines h.sets → has_sets lines ≡ true → IsTrue so ↔ ClaimsClosed file lines

-- or so many lines aren't there
abbrev pub AnswersEnd : File → Head → ℕ → Bool → Type 0
AnswersEnd file h whole so =
    (lines : List Line) → AreSetsIn file lines h.sets → (h.above ≡ whole → has_sets lines ≡ true)
    → IsTrue so ↔ (h.above ≡ whole → ClaimsClosed file lines)
