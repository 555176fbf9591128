-- What was written of the text of `deep`. Working words of proofs.
use Rattle.std.specs.Prelude.{◌≡◌, ◌+◌, ◌≤◌, ℕ, List, All, Result, Some, if◌then◌else◌, length}
use Rattle.std.specs.List.{AllZip}
use Rattle.cs_deep.specs.Writing.Deep.{AreEditsOf, DeepBase, EditEntry, IsDeepBaseOf, IsDeepText, all_edits, deep_base_lines, edit_lines}
use Rattle.cs_deep.specs.Writing.Lines.{IsWithin}
use Rattle.cs_deep.specs.Writing.Tally.{IsCounted, no_edits}
use Rattle.cs_deep.specs.declared.writing.tally.Tally.{Tally}
use Rattle.cs_deep.specs.declared.writing.writing.Deep.{Deep}
use Rattle.cs_grammar.specs.Grammar.{IsNumberOf, PlainGrammar}
use Rattle.cs_io.specs.Faults.{greatest}
use Rattle.cs_io.specs.Stops.{PutsOne}
use Rattle.cs_io.specs.declared.halt.Halt.{Halt}
use Rattle.cs_io.specs.declared.sink.Sink as Sink
use Rattle.cs_manifest.specs.Manifest.ByWork.{texts_of}
use Rattle.cs_manifest.specs.Manifest.Manifest.{Choice, has_operator}
use Rattle.cs_mutate.specs.Edits.{edits}
use Rattle.cs_mutate.specs.declared.edit.Edit.{Edit}
use Rattle.cs_verdicts.specs.Positive.Positives.{positives_of}
use Rattle.cs_writing.specs.Plan.Plans.{IsOfPlan, IsPlan, choice_in}
use Rattle.cs_writing.specs.declared.plan.plan.Means.{Means}
use Rattle.cs_writing.specs.declared.plan.plan.Plan.{Plan}
use Rattle.cs_writing.specs.declared.plan.plan.PlanForm.TheVariants.{Suite}

-- the plan of the suite whose bases these are
abbrev pub plan_of : Deep → Plan
plan_of d = record { yacc = d.yacc; criteria = d.criteria; form = Suite d.means }

abbrev pub choice_of : Deep → Choice
choice_of d = choice_in (plan_of d)

-- the text is that of `deep` by what it is made by
abbrev pub IsDeepOf : Deep → List ℕ → Type 0
IsDeepOf d text = IsDeepText (choice_of d) d.yacc.now text

-- how many bases there are at most
abbrev pub most_by : Means → ℕ
most_by means = if has_operator means.mutation.operators then means.mutation.most else 0

-- the text can be told: the means and the tables are of the file
pub record IsReady (d : Deep) : Type 0 where
  pub plan : IsPlan (plan_of d)
  pub tables : IsOfPlan (plan_of d) (positives_of d.tables.now d.criteria)

-- and the recognizer is of its grammar
pub record CanTell (d : Deep) (g : PlainGrammar) : Type 0 where
  pub ready : IsReady d
  pub grammar : g ≡ d.yacc.now.grammar

-- a base can be edited: it isn't long, and has tokens from 1 to the last
pub record CanEdit (tokens : ℕ) (base : List ℕ) : Type 0 where
  pub short : length base ≤ 1000000
  pub tokens_of : All (IsNumberOf tokens) base

-- the edits of a base
abbrev pub edits_by : Deep → List ℕ → List Edit
edits_by d base = edits d.yacc.now.grammar.tokens base d.means.mutation.operators

-- they can be counted
pub record HasFew (d : Deep) (base : List ℕ) (tally : Tally) : Type 0 where
  pub within : IsWithin tally
  pub few : tally.edits + length (edits_by d base) ≤ greatest

-- the entries of edits of a base
abbrev pub AreEditsBy : Deep → List ℕ → List Edit → List EditEntry → Type 0
AreEditsBy d base list entries = AreEditsOf d.yacc.now.grammar (Some (texts_of d.means.work.now)) (Some d.means.work.now.lexemes.now) base list entries

-- the text is the lines of these edits of a base, where so many were written before them
pub record AreEditsLines (d : Deep) (number : ℕ) (base : List ℕ) (many : ℕ) (list : List Edit) (text : List ℕ) : Type 0 where
  pub entries : List EditEntry
  pub are : AreEditsBy d base list entries
  pub lines : text ≡ edit_lines d.yacc.now number many entries

-- of all its edits
abbrev pub IsEditsText : Deep → ℕ → List ℕ → ℕ → List ℕ → Type 0
IsEditsText d number base many text = AreEditsLines d number base many (edits_by d base) text

-- it was written behind the edits of this tally, or its writing stopped
abbrev pub PutsEditsText : {S : Type 0} → Sink.Ghosts S → Deep → ℕ → List ℕ → Tally → S → S → Result Unit Halt → Type 0
PutsEditsText g d number base tally old new result = PutsOne g (IsEditsText d number base tally.deep) old new result

-- whichever the entries are, they were counted
abbrev pub CountsEdits : Deep → List ℕ → Tally → Tally → Type 0
CountsEdits d base old new = (entries : List EditEntry) → AreEditsBy d base (edits_by d base) entries → IsCounted entries old new

-- the entries of bases
abbrev pub AreDeepBases : Deep → List (ℕ × List ℕ) → List DeepBase → Type 0
AreDeepBases d list bases = AllZip (IsDeepBaseOf d.yacc.now.grammar (choice_of d) (Some d.means.work.now.lexemes.now)) list bases

-- the text is the lines of these bases
pub record IsBasesText (d : Deep) (list : List (ℕ × List ℕ)) (text : List ℕ) : Type 0 where
  pub bases : List DeepBase
  pub are : AreDeepBases d list bases
  pub lines : text ≡ deep_base_lines d.yacc.now 0 0 bases

-- whichever the entries are, the tally is of their edits
abbrev pub CountsBases : Deep → List (ℕ × List ℕ) → Tally → Type 0
CountsBases d list tally = (bases : List DeepBase) → AreDeepBases d list bases → IsCounted (all_edits bases) no_edits tally
