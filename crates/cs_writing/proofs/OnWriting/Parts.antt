-- Parts of a manifest that were written: by their entries, and by their texts.
use Rattle.std.proofs.Common.{◌≡◌, ℕ, List, length, Option, refl, sym, subst}
use Rattle.cs_writing.specs.Bases.Bases.{PlainBases, bases_of}
use Rattle.cs_verdicts.specs.Cases.Cases.{PlainCases}
use Rattle.cs_grammar.specs.Weights.{Weighed}
use Rattle.cs_io.specs.declared.sink.Sink as Sink
use Rattle.cs_io.specs.Lines.{IsWritten}
use Rattle.cs_manifest.specs.declared.manifest.counts.Counts.{Counts}
use Rattle.cs_manifest.specs.Manifest.Manifest.{BaseEntry, GoalEntry, NegativeEntry, base_entry_lines, most_bases}
use Rattle.cs_manifest.specs.Writer.Progress.{Progress}
use Rattle.cs_writing.specs.Mutants.Makers.{Making}
use Rattle.cs_mutate.specs.Negatives.{Search}
use Rattle.cs_mutate.specs.declared.negative.Negative.{Negative}
use Rattle.cs_writing.specs.declared.plan.plan.Plan.{Plan}
use Rattle.cs_writing.specs.Plan.Plans.{choice_in}
use Rattle.cs_verdicts.specs.Positive.Positives.{ToJudge}
use Rattle.cs_texts.specs.declared.rendering.render_work.RenderWork.{RenderWork}
use Rattle.cs_yacc.specs.Reading.File.{File}
use Rattle.cs_io.specs.declared.halt.Halt.{Halt}
use Rattle.cs_writing.specs.Writing.Mutants.{AreBasesIn, AreMade, CountsBases, IsBasesText, IsCounted, IsMade, negatives_from, negatives_in}
use Rattle.cs_writing.specs.Writing.Written.{AreBasesOf, AreCounted, AreGoals, CountsGoals, IsGoalsText}
use Rattle.cs_io.specs.Stops.{HasSomeText, HasText, IsStopped}

-- ---- by their entries

module _ {S : Type 0} (g : Sink.Ghosts S) where
  -- the lines of all entries were written, and counted, and these are their bases
  pub record HasEntries (plan : Plan) (of : Weighed) (old new : S) (before after : Counts) (kept : PlainBases) : Type 0 where
    pub entries : List GoalEntry
    pub cases : PlainCases
    pub lines : List ℕ
    pub are : AreGoals plan of entries cases lines
    pub counted : AreCounted entries (length cases.codes) lines before after
    pub written : IsWritten g lines old new
    pub kept_are : kept ≡ bases_of (most_bases (choice_in plan)) entries

  -- whichever the entries are, the writing of their lines stopped so
  abbrev pub HasSomeEntries : Plan → Weighed → S → S → Halt → Type 0
  HasSomeEntries plan of old new halt =
      (entries : List GoalEntry) (cases : PlainCases) (lines : List ℕ) → AreGoals plan of entries cases lines → IsStopped g lines old new halt

  -- the lines of the kept negatives of a search were written behind those that are counted, and counted
  pub record HasNegatives (file : File) (base : ℕ) (work : RenderWork) (most : Option ℕ) (earlier : List Negative) (search : Search) (old new : S) (before after : Counts) : Type 0 where
    pub entries : List NegativeEntry
    pub all : AreMade work most earlier search entries
    pub written : IsWritten g (negatives_from file base search.base before.negatives entries) old new
    pub counted : IsCounted (length entries) (negatives_from file base search.base before.negatives entries) before after

  -- whichever the negatives are, the writing of their lines behind so many negatives stopped so
  abbrev pub HasSomeNegatives : File → ℕ → RenderWork → Option ℕ → List Negative → Search → ℕ → S → S → Halt → Type 0
  HasSomeNegatives file base work most earlier search many old new halt =
      (entries : List NegativeEntry) → AreMade work most earlier search entries → IsStopped g (negatives_from file base search.base many entries) old new halt

  -- the lines of these bases and their negatives were written, and counted
  pub record HasBases (plan : Plan) (list : List (ℕ × List ℕ)) (old new : S) (before after : Counts) : Type 0 where
    pub mutants : List BaseEntry
    pub all : AreBasesIn plan list mutants
    pub written : IsWritten g (base_entry_lines plan.yacc.now 0 0 mutants) old new
    pub counted : IsCounted (negatives_in mutants) (base_entry_lines plan.yacc.now 0 0 mutants) before after

  -- whichever the negatives are, the writing of these lines stopped so
  abbrev pub HasSomeBases : Plan → List (ℕ × List ℕ) → S → S → Halt → Type 0
  HasSomeBases plan list old new halt =
      (mutants : List BaseEntry) → AreBasesIn plan list mutants → IsStopped g (base_entry_lines plan.yacc.now 0 0 mutants) old new halt

-- ---- by their texts

module _ {S : Type 0} {g : Sink.Ghosts S} where
  module _ (plan : Plan) (left : ToJudge) where
    pub goals_text : {old new : S} {before after : Counts} {kept : PlainBases} → HasEntries g plan left.tables old new before after kept → HasText g (IsGoalsText plan left) old new
    goals_text has = record {
      text = has.lines;
      is = record { entries = has.entries; cases = has.cases; are = has.are };
      written = has.written;
    }

    pub goals_stop : (old new : S) (halt : Halt) → HasSomeEntries g plan left.tables old new halt → HasSomeText g (IsGoalsText plan left) old new halt
    goals_stop old new halt stops text is = stops is.entries is.cases text is.are

    pub has_entries : {old new : S} (before after : Progress) (kept : PlainBases) → HasText g (IsGoalsText plan left) old new → CountsGoals plan left before after → AreBasesOf plan left kept
        → HasEntries g plan left.tables old new before.counts after.counts kept
    has_entries before after kept put counted kept_are = record {
      entries = put.is.entries;
      cases = put.is.cases;
      lines = put.text;
      are = put.is.are;
      counted = counted put.is.entries put.is.cases put.text put.is.are;
      written = put.written;
      kept_are = kept_are put.is.entries put.is.are.all;
    }

    pub some_entries : (old new : S) (halt : Halt) → HasSomeText g (IsGoalsText plan left) old new halt → HasSomeEntries g plan left.tables old new halt
    some_entries old new halt stops entries cases lines are = stops lines (record { entries = entries; cases = cases; are = are })

  module _ (before : Progress) (making : Making) (most : Option ℕ) (earlier : List Negative) (search : Search) where
    pub made_text : {old new : S} {after : Counts} → HasNegatives g before.file making.number making.tools.work most earlier search old new before.counts after → HasText g (IsMade most earlier before making search) old new
    made_text has = record {
      text = negatives_from before.file making.number search.base before.counts.negatives has.entries;
      is = record { entries = has.entries; all = has.all; lines = refl };
      written = has.written;
    }

    pub made_stop : (old new : S) (halt : Halt) → HasSomeNegatives g before.file making.number making.tools.work most earlier search before.counts.negatives old new halt
        → HasSomeText g (IsMade most earlier before making search) old new halt
    made_stop old new halt stops text is = subst (λ (l : List ℕ). IsStopped g l old new halt) (sym is.lines) (stops is.entries is.all)

    pub has_negatives : {old new : S} (after : Progress) → HasText g (IsMade most earlier before making search) old new
        → ((entries : List NegativeEntry) → AreMade making.tools.work most earlier search entries → IsCounted (length entries) (negatives_from before.file making.number search.base before.counts.negatives entries) before.counts after.counts)
        → HasNegatives g before.file making.number making.tools.work most earlier search old new before.counts after.counts
    has_negatives {old} {new} after put counted = record {
      entries = put.is.entries;
      all = put.is.all;
      written = subst (λ (l : List ℕ). IsWritten g l old new) put.is.lines put.written;
      counted = counted put.is.entries put.is.all;
    }

    pub some_negatives : (old new : S) (halt : Halt) → HasSomeText g (IsMade most earlier before making search) old new halt
        → HasSomeNegatives g before.file making.number making.tools.work most earlier search before.counts.negatives old new halt
    some_negatives old new halt stops entries are =
        stops (negatives_from before.file making.number search.base before.counts.negatives entries) (record { entries = entries; all = are; lines = refl })

  module _ (plan : Plan) (bases : PlainBases) where
    pub bases_text_stop : (old new : S) (halt : Halt) → HasSomeBases g plan bases.list old new halt → HasSomeText g (IsBasesText plan bases) old new halt
    bases_text_stop old new halt stops text is = subst (λ (l : List ℕ). IsStopped g l old new halt) (sym is.lines) (stops is.mutants is.all)

    pub has_bases : {old new : S} (before after : Progress) → HasText g (IsBasesText plan bases) old new → CountsBases plan bases before after
        → HasBases g plan bases.list old new before.counts after.counts
    has_bases {old} {new} before after put counted = record {
      mutants = put.is.mutants;
      all = put.is.all;
      written = subst (λ (l : List ℕ). IsWritten g l old new) put.is.lines put.written;
      counted = counted put.is.mutants put.is.all;
    }

    pub some_bases : (old new : S) (halt : Halt) → HasSomeText g (IsBasesText plan bases) old new halt → HasSomeBases g plan bases.list old new halt
    some_bases old new halt stops mutants are = stops (base_entry_lines plan.yacc.now 0 0 mutants) (record { mutants = mutants; all = are; lines = refl })
