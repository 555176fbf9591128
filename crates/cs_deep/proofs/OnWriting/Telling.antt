-- The parts of a text of `deep`: the head, the bases and the end; and where its writing stopped.
use Rattle.std.proofs.Common.{◌≡◌, ◌≤◌, ℕ, List, ◌++◌, codes, length, refl, sym, ap, ◌∙◌, subst, arith, Option, None, Some}
use Rattle.std.specs.List.{AllZip}
use Rattle.std.specs.Prelude.{All, count_by}
use Rattle.cs_deep.proofs.OnWriting.OneDeep.{one_deep_base}
use Rattle.cs_manifest.proofs.OnManifest.Zips.{length_zip}
use Rattle.cs_deep.specs.Edits.Bases.{GivesBases}
use Rattle.cs_deep.specs.Edits.Classes.{is_long, is_negative, is_outside, is_sentence}
use Rattle.cs_deep.specs.Writing.Deep.{DeepBase, EditEntry, IsDeepBaseOf, all_edits, bases_by, deep_base_lines, deep_end, deep_text}
use Rattle.cs_deep.specs.Writing.Lines.{end_with}
use Rattle.cs_deep.specs.Writing.Progress.{AreDeepBases, CountsBases, IsBasesText, IsDeepOf, IsReady, choice_of, most_by, plan_of}
use Rattle.cs_deep.specs.Writing.Tally.{IsCounted, no_edits}
use Rattle.cs_deep.specs.declared.writing.tally.Tally.{Tally}
use Rattle.cs_deep.specs.declared.writing.writing.Deep.{Deep}
use Rattle.cs_goals.specs.Goals.{goals}
use Rattle.cs_grammar.specs.Grammar.{IsGrammar}
use Rattle.cs_grammar.specs.Weights.{Weighed}
use Rattle.cs_io.specs.Faults.{greatest}
use Rattle.cs_io.proofs.Stops.{stopped_behind, stopped_by_cut, stopped_by_memory, stopped_longer}
use Rattle.cs_io.specs.Lines.{IsCutShort, IsWritten}
use Rattle.cs_io.specs.Stops.{HasSomeText, HasText, IsStopped}
use Rattle.cs_io.specs.declared.halt.Halt.{Halt}
use Rattle.cs_io.specs.declared.halt.Halt.TheVariants.{Failed, Memory}
use Rattle.cs_io.specs.declared.sink.Sink as Sink
use Rattle.cs_manifest.proofs.OnManifest.OneManifest.{one_entry, one_zip}
use Rattle.cs_manifest.proofs.OnOutput.Written.{written_none, written_then}
use Rattle.cs_manifest.specs.Manifest.Manifest.{EntriesOf, GoalEntry, HasOneText, IsEntryOf, Texts, weighed_by}
use Rattle.cs_manifest.specs.Output.Words.{line, numbered_word}
use Rattle.cs_verdicts.specs.Positive.Positives.{positives_of}
use Rattle.cs_writing.proofs.OnWriting.Few.{few_goals}
use Rattle.cs_writing.proofs.OnWriting.Kept.{editable_bases}
use Rattle.cs_writing.proofs.OnWriting.Texts.{weighed_so}
use Rattle.cs_writing.specs.Bases.Bases.{PlainBases}
use Rattle.cs_writing.specs.Writing.Mutants.{IsEditable}
use Rattle.cs_writing.specs.declared.plan.plan.Plan.{Plan}
use Rattle.cs_writing.specs.declared.plan.plan.PlanForm.TheVariants.{Rules}

-- the end line by a tally of these edits is theirs
pub end_same : (many : ℕ) (tally : Tally) (entries : List EditEntry) → IsCounted entries no_edits tally → end_with many tally ≡ deep_end many entries
end_same many tally entries is =
    let end = λ (a b c e f : ℕ).
    line
    (numbered_word (codes "end bases ") many ++ numbered_word (codes " edits ") a ++ numbered_word (codes " negatives ") b ++ numbered_word (codes " deep ") c
    ++ numbered_word (codes " sentences ") e ++ numbered_word (codes " long ") f) in
    let negatives = count_by (λ (e : EditEntry). is_negative e.class) entries in
    let deep = count_by (λ (e : EditEntry). is_outside e.class) entries in
    let sentences = count_by (λ (e : EditEntry). is_sentence e.class) entries in
    let long = count_by (λ (e : EditEntry). is_long e.class) entries in
    let a : tally.edits ≡ length entries = omega (arith, is.edits) in
    let b : tally.negatives ≡ negatives = omega (arith, is.negatives) in
    let c : tally.deep ≡ deep = omega (arith, is.deep) in
    let s : tally.sentences ≡ sentences = omega (arith, is.sentences) in
    let l : tally.long ≡ long = omega (arith, is.long) in
    ap (λ (n : ℕ). end n tally.negatives tally.deep tally.sentences tally.long) a
    ∙ ap (λ (n : ℕ). end (length entries) n tally.deep tally.sentences tally.long) b
    ∙ ap (λ (n : ℕ). end (length entries) negatives n tally.sentences tally.long) c
    ∙ ap (λ (n : ℕ). end (length entries) negatives deep n tally.long) s
    ∙ ap (λ (n : ℕ). end (length entries) negatives deep sentences n) l

module _ (d : Deep) (ready : IsReady d) (one : (texts : Option Texts) → HasOneText texts) (entries : List GoalEntry)
    (are : EntriesOf d.tables.now None None (goals d.tables.now.grammar d.criteria) entries) where
  -- the bases of the entries
  abbrev pub list : List (ℕ × List ℕ)
  list = bases_by (choice_of d) entries

  weighs : d.tables.now ≡ weighed_by (choice_of d) d.yacc.now (Some d.means.work.now.lexemes.now)
  weighs = weighed_so (plan_of d) d.tables.now ready.tables.grammar ready.tables.weights

  verdicts : EntriesOf (weighed_by (choice_of d) d.yacc.now (Some d.means.work.now.lexemes.now)) None None (goals d.yacc.now.grammar d.criteria) entries
  verdicts =
      subst (λ (of : Weighed). EntriesOf of None None (goals of.grammar d.criteria) entries) weighs are

  -- the text of bases of these
  pub text_of : (bases : List DeepBase) → AreDeepBases d list bases → IsDeepOf d (deep_text d.yacc.now bases)
  text_of bases of = record {
    lexemes = Some d.means.work.now.lexemes.now;
    entries = entries;
    bases = bases;
    are_lexemes = ready.plan.form.texts;
    verdicts = verdicts;
    edits = of;
    lines = refl;
  }

  -- what stands in a text
  pub record HasBases (text : List ℕ) : Type 0 where
    pub bases : List DeepBase
    pub of : AreDeepBases d list bases
    pub lines : text ≡ deep_text d.yacc.now bases

  pub bases_in : (text : List ℕ) → IsDeepOf d text → HasBases text
  bases_in text is =
      let choice = choice_of d in
      let g = d.yacc.now.grammar in
      let own = Some d.means.work.now.lexemes.now in
      let same : is.lexemes ≡ own = (one choice.texts).lexemes g.tokens is.lexemes own is.are_lexemes ready.plan.form.texts in
      let moved = subst (λ (l : Option (List (Option (List ℕ)))). AllZip (IsEntryOf (weighed_by choice d.yacc.now l) None None) (goals g d.criteria) is.entries) same is.verdicts in
      let both : is.entries ≡ entries = one_zip (one_entry None (one None) None (weighed_by choice d.yacc.now own)) (goals g d.criteria) is.entries entries moved verdicts in
      let edits = subst (λ (l : Option (List (Option (List ℕ)))). AllZip (IsDeepBaseOf g choice l) (bases_by choice is.entries) is.bases) same is.edits in
      record {
        bases = is.bases;
        of = subst (λ (l : List GoalEntry). AllZip (IsDeepBaseOf g choice own) (bases_by choice l) is.bases) both edits;
        lines = is.lines;
      }

  module _ {S : Type 0} (g : Sink.Ghosts S) (old : S) where
    -- the head was cut short
    pub head_cut : (now : S) → IsCutShort g (line (codes "conform deep")) old now → HasSomeText g (IsDeepOf d) old now Failed
    head_cut now cut text is =
        let has = bases_in text is in
        subst (λ (l : List ℕ). IsStopped g l old now Failed) (sym has.lines)
        (stopped_longer (deep_end (length has.bases) (all_edits has.bases)) (stopped_longer (deep_base_lines d.yacc.now 0 0 has.bases) (stopped_by_cut cut)))

    module _ (mid : S) (head : IsWritten g (line (codes "conform deep")) old mid) where
      -- the writing of the bases stopped
      pub bases_stop : (now : S) (halt : Halt) → HasSomeText g (IsBasesText d list) mid now halt → HasSomeText g (IsDeepOf d) old now halt
      bases_stop now halt stops text is =
          let has = bases_in text is in
          let stopped = stops (deep_base_lines d.yacc.now 0 0 has.bases) (record { bases = has.bases; are = has.of; lines = refl }) in
          subst (λ (l : List ℕ). IsStopped g l old now halt) (sym has.lines)
          (stopped_longer (deep_end (length has.bases) (all_edits has.bases)) (stopped_behind head stopped))

      module _ (begun : S) (tally : Tally) (text_is : HasText g (IsBasesText d list) mid begun) (counts : CountsBases d list tally) where
        of_bases : IsWritten g (deep_base_lines d.yacc.now 0 0 text_is.is.bases) mid begun
        of_bases = subst (λ (l : List ℕ). IsWritten g l mid begun) text_is.is.lines text_is.written

        -- the end is that of any entries of the bases
        end_is : (bases : List DeepBase) → AreDeepBases d list bases → end_with (length list) tally ≡ deep_end (length bases) (all_edits bases)
        end_is bases of =
            let many : length bases ≡ length list = length_zip _ list bases of in
            end_same (length list) tally (all_edits bases) (counts bases of) ∙ ap (λ (n : ℕ). deep_end n (all_edits bases)) (sym many)

        pub end_cut : (now : S) → IsCutShort g (end_with (length list) tally) begun now → HasSomeText g (IsDeepOf d) old now Failed
        end_cut now cut text is =
            let has = bases_in text is in
            let own = one_deep_base (choice_of d) (one (choice_of d).texts) (Some d.means.work.now.lexemes.now) d.yacc.now.grammar in
            let same : text_is.is.bases ≡ has.bases = one_zip own list text_is.is.bases has.bases text_is.is.are has.of in
            let here = subst (λ (l : List ℕ). IsCutShort g l begun now) (end_is has.bases has.of) cut in
            let written = subst (λ (bs : List DeepBase). IsWritten g (deep_base_lines d.yacc.now 0 0 bs) mid begun) same of_bases in
            subst (λ (l : List ℕ). IsStopped g l old now Failed) (sym has.lines)
            (stopped_behind (written_then head written) (stopped_by_cut here))

        pub whole : (now : S) → IsWritten g (end_with (length list) tally) begun now → HasText g (IsDeepOf d) old now
        whole now end =
            let bases = text_is.is.bases in
            let here = subst (λ (l : List ℕ). IsWritten g l begun now) (end_is bases text_is.is.are) end in
            record { text = deep_text d.yacc.now bases; is = text_of bases text_is.is.are; written = written_then (written_then head of_bases) here }

-- memory ran out before anything was written
pub memory_first : {S : Type 0} (g : Sink.Ghosts S) (Is : List ℕ → Type 0) (s : S) → HasSomeText g Is s s Memory
memory_first g Is s text is = stopped_by_memory (written_none s) text

-- what is needed of the bases that were kept
module _ (d : Deep) (ready : IsReady d) (kept : PlainBases) (gives : GivesBases (most_by d.means) (positives_of d.tables.now d.criteria) kept) where
  pub kept_list : kept.list ≡ bases_by (choice_of d) gives.entries
  kept_list = ap (λ (b : PlainBases). b.list) gives.kept_of

  -- each can be edited
  pub editable : All (IsEditable d.yacc.now.grammar.tokens) kept.list
  editable =
      let plain : Plan = record { yacc = d.yacc; criteria = d.criteria; form = Rules } in
      editable_bases plain ready.plan.file d.tables.now ready.tables.grammar ready.tables.measure (most_by d.means) gives.entries kept gives.are gives.kept_of

-- goals are few
pub few_goals_of : (d : Deep) → IsReady d → length (goals d.tables.now.grammar d.criteria) ≤ greatest
few_goals_of d ready =
    let is = subst IsGrammar (sym ready.tables.grammar) ready.plan.file.grammar in
    omega (arith, few_goals d.tables.now.grammar is d.criteria)
