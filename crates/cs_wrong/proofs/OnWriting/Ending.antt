-- The whole text: the head, the lines of all slips and the end, and where its writing stopped.
use Rattle.std.proofs.Common.{◌≡◌, ℕ, List, [], ◌++◌, length, refl, sym, ap, ◌∙◌, subst, Option, Some}
use Rattle.std.specs.Prelude.{option_map}
use Rattle.std.proofs.lemmas.List.{length-map, length-replicate}
use Rattle.cs_choices.specs.declared.weigh.Weigh.{Weigh}
use Rattle.cs_choices.specs.declared.weigh.Weigh.TheVariants.{Nodes, Bytes}
use Rattle.cs_grammar.specs.Weights.{Measure, Weighed, byte_weight, weighed}
use Rattle.cs_io.proofs.Stops.{stopped_behind, stopped_by_cut, stopped_by_memory, stopped_longer}
use Rattle.cs_io.specs.Lines.{IsCutShort, IsWritten}
use Rattle.cs_io.specs.Stops.{HasSomeText, HasText, IsStopped}
use Rattle.cs_io.specs.declared.halt.Halt.{Halt}
use Rattle.cs_io.specs.declared.halt.Halt.TheVariants.{Failed, Memory}
use Rattle.cs_io.specs.declared.sink.Sink as Sink
use Rattle.cs_manifest.proofs.OnOutput.Written.{written_none, written_then}
use Rattle.cs_manifest.specs.Manifest.Manifest.{HasOneText, Texts, measure_of}
use Rattle.cs_wrong.proofs.OnWriting.Counting.{end_is}
use Rattle.cs_wrong.proofs.OnWriting.OneWrong.{one_entries}
use Rattle.cs_wrong.specs.Classes.Classes.{behind}
use Rattle.cs_wrong.specs.Writing.Entries.{head_line, lines_from}
use Rattle.cs_wrong.specs.Writing.Progress.{AreEntries, CountsAll, IsAsked, IsBodyText, IsReady, all_slips, lexemes_by, texts_by, weighed_in}
use Rattle.cs_wrong.specs.Slips.Slips.{slips}
use Rattle.cs_wrong.specs.Writing.Tally.{end_with}
use Rattle.cs_wrong.specs.Writing.Text.{AreEntriesOf, SlipEntry, weighed_by, wrong_end}
use Rattle.cs_wrong.specs.declared.writing.tally.Tally.{Tally}
use Rattle.cs_wrong.specs.declared.writing.writing.Wrong.{Wrong}

measure_many : (weigh : Weigh) (tokens : ℕ) (lexemes : List (Option (List ℕ))) → length lexemes ≡ tokens → length (measure_of weigh tokens (Some lexemes)).numbers ≡ tokens
measure_many Nodes tokens lexemes h = length-replicate tokens 1
measure_many Bytes tokens lexemes h = length-map lexemes (λ (text : Option (List ℕ)). byte_weight (option_map length text)) ∙ h

-- the weights have a number for each token
pub weights_many : (d : Wrong) → IsReady d → length d.weights.now.numbers ≡ d.yacc.now.grammar.tokens
weights_many d ready =
    ap (λ (w : Measure). length w.numbers) ready.weights ∙ measure_many d.weigh d.yacc.now.grammar.tokens d.work.now.lexemes.now ready.lexemes.all

-- memory ran out before anything was written
pub memory_first : {S : Type 0} (g : Sink.Ghosts S) (Is : List ℕ → Type 0) (s : S) → HasSomeText g Is s s Memory
memory_first g Is s text is = stopped_by_memory (written_none s) text

module _ (d : Wrong) (one : (texts : Option Texts) → HasOneText texts) (ready : IsReady d) where
  -- the parts of the text that is asked for
  pub record Parts (text : List ℕ) : Type 0 where
    pub entries : List SlipEntry
    pub are : AreEntries d (behind [] (all_slips d)) entries
    pub whole : text ≡ head_line ++ lines_from d.yacc.now 0 entries ++ wrong_end entries

  pub parts : (text : List ℕ) → IsAsked d text → Parts text
  parts text is =
      let file = d.yacc.now in
      let texts = texts_by d in
      let same : is.lexemes ≡ lexemes_by d = (one texts).lexemes file.grammar.tokens is.lexemes (lexemes_by d) is.are_lexemes ready.lexemes in
      let moved = subst (λ (l : Option (List (Option (List ℕ)))). AreEntriesOf (weighed_by d.weigh file l) texts l (slips file.grammar d.chosen) is.entries) same is.slips in
      record {
        entries = is.entries;
        are = subst (λ (v : Weighed). AreEntriesOf v texts (lexemes_by d) (slips file.grammar d.chosen) is.entries) (ap (weighed d.yacc.now.grammar) (sym ready.weights)) moved;
        whole = is.lines;
      }

  pub asked : (entries : List SlipEntry) → AreEntries d (behind [] (all_slips d)) entries → IsAsked d (head_line ++ lines_from d.yacc.now 0 entries ++ wrong_end entries)
  asked entries are =
      let file = d.yacc.now in
      record {
        lexemes = lexemes_by d;
        entries = entries;
        are_lexemes = ready.lexemes;
        slips = subst (λ (v : Weighed). AreEntriesOf v (texts_by d) (lexemes_by d) (slips file.grammar d.chosen) entries) (ap (weighed d.yacc.now.grammar) ready.weights) are;
        lines = refl;
      }

  module _ {S : Type 0} (g : Sink.Ghosts S) where
    -- the head was cut short
    pub head_cut : (old new : S) → IsCutShort g head_line old new → HasSomeText g (IsAsked d) old new Failed
    head_cut old new cut text is =
        let p = parts text is in
        subst (λ (l : List ℕ). IsStopped g l old new Failed) (sym p.whole)
        (stopped_longer (wrong_end p.entries) (stopped_longer (lines_from d.yacc.now 0 p.entries) (stopped_by_cut cut)))

    -- the lines of slips stopped
    pub slips_stopped : (old mid new : S) (halt : Halt) → IsWritten g head_line old mid → HasSomeText g (IsBodyText d) mid new halt → HasSomeText g (IsAsked d) old new halt
    slips_stopped old mid new halt written stopped text is =
        let p = parts text is in
        let body = stopped (lines_from d.yacc.now 0 p.entries) (record { entries = p.entries; are = p.are; lines = refl }) in
        subst (λ (l : List ℕ). IsStopped g l old new halt) (sym p.whole) (stopped_longer (wrong_end p.entries) (stopped_behind written body))

    -- the end that was counted is that of the lines that were written
    body_is : (mid next : S) (tally : Tally) (body : HasText g (IsBodyText d) mid next) → CountsAll d tally → (end_with tally ≡ wrong_end body.is.entries)
    body_is mid next tally body counts = end_is body.is.entries tally (counts body.is.entries body.is.are)

    -- the end was cut short
    pub end_cut : (old mid next new : S) (tally : Tally) → IsWritten g head_line old mid → HasText g (IsBodyText d) mid next → CountsAll d tally → IsCutShort g (end_with tally) next new → HasSomeText g (IsAsked d) old new Failed
    end_cut old mid next new tally written body counts cut text is =
        let p = parts text is in
        let same = one_entries (texts_by d) (one (texts_by d)) (lexemes_by d) (weighed_in d) (behind [] (all_slips d)) p.entries body.is.entries p.are body.is.are in
        let lines = subst (λ (l : List ℕ). IsWritten g l mid next) body.is.lines body.written in
        let last = subst (λ (l : List ℕ). IsCutShort g l next new) (body_is mid next tally body counts) cut in
        let whole = p.whole ∙ ap (λ (es : List SlipEntry). head_line ++ lines_from d.yacc.now 0 es ++ wrong_end es) same in
        subst (λ (l : List ℕ). IsStopped g l old new Failed) (sym whole) (stopped_behind (written_then written lines) (stopped_by_cut last))

    -- all was written
    pub all_written : (old mid next new : S) (tally : Tally) → IsWritten g head_line old mid → HasText g (IsBodyText d) mid next → CountsAll d tally → IsWritten g (end_with tally) next new → HasText g (IsAsked d) old new
    all_written old mid next new tally written body counts last =
        let lines = subst (λ (l : List ℕ). IsWritten g l mid next) body.is.lines body.written in
        let end = subst (λ (l : List ℕ). IsWritten g l next new) (body_is mid next tally body counts) last in
        record {
          text = head_line ++ lines_from d.yacc.now 0 body.is.entries ++ wrong_end body.is.entries;
          is = asked body.is.entries body.is.are;
          written = written_then (written_then written lines) end;
        }
