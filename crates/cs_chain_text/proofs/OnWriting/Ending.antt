-- The whole text: the head, the lines of all chains and the end, and where its writing stopped.
use Rattle.std.proofs.Common.{◌≡◌, ℕ, List, ◌++◌, length, refl, sym, ap, ◌∙◌, subst, Option, None, Some}
use Rattle.std.specs.Prelude.{IfSome, option_map}
use Rattle.std.proofs.lemmas.List.{length-map, length-replicate}
use Rattle.std.specs.Borrow.{Bor}
use Rattle.std.specs.List.{AllZip}
use Rattle.cs_grammar.specs.Weights.{IsMeasure, Measure, Weighed, byte_weight, weighed}
use Rattle.cs_io.proofs.Stops.{stopped_behind, stopped_by_cut, stopped_by_memory, stopped_longer}
use Rattle.cs_io.specs.Lines.{IsCutShort, IsWritten}
use Rattle.cs_io.specs.Stops.{HasSomeText, HasText, IsStopped}
use Rattle.cs_io.specs.declared.halt.Halt.{Halt}
use Rattle.cs_io.specs.declared.halt.Halt.TheVariants.{Failed, Memory}
use Rattle.cs_io.specs.declared.sink.Sink as Sink
use Rattle.cs_manifest.proofs.OnOutput.Written.{written_none, written_then}
use Rattle.cs_manifest.specs.Manifest.Manifest.{AreLexemesBy, HasOneText, Texts, measure_of}
use Rattle.cs_texts.specs.declared.rendering.render_work.RenderWork.{RenderWork}
use Rattle.cs_yacc.specs.Reading.File.{File}
use Rattle.cs_chain.specs.Chains.Chains.{chains}
use Rattle.cs_choices.specs.declared.weigh.Weigh.{Weigh}
use Rattle.cs_choices.specs.declared.weigh.Weigh.TheVariants.{Nodes, Bytes}
use Rattle.cs_chain_text.specs.declared.entries.entry.TellWork.{TellWork}
use Rattle.cs_chain_text.specs.declared.entries.tally.Tally.{Tally}
use Rattle.cs_chain_text.specs.declared.writing.writing.Chained.{Chained}
use Rattle.cs_chain_text.specs.Entries.Text.{ChainEntry, IsEntryOf, chains_lines, end_line, head_lines, weighed_by}
use Rattle.cs_chain_text.specs.Progress.{AreEntries, CountsAll, HaveLexemes, IsAsked, IsBodyText, IsReady, IsWorkOf, end_with, lexemes_by, lines_from, texts_by, weighed_in}
use Rattle.cs_chain_text.proofs.OnEntries.Counting.{end_is}
use Rattle.cs_chain_text.proofs.OnWriting.OneText.{one_list}

-- the lexemes are those that texts are made by
have_lexemes : (file : File) (work : Option (Bor RenderWork)) → HaveLexemes file work → AreLexemesBy (texts_by work) file.grammar.tokens (lexemes_by work)
have_lexemes file None h = refl
have_lexemes file (Some work) h = h

-- there is one for each token
have_many : (file : File) (work : Option (Bor RenderWork)) → HaveLexemes file work → IfSome work (λ r. length r.now.lexemes.now ≡ file.grammar.tokens)
have_many file None h = tt
have_many file (Some work) h = h.all

measure_many : (weigh : Weigh) (tokens : ℕ) (work : Option (Bor RenderWork)) → IfSome work (λ r. length r.now.lexemes.now ≡ tokens) → length (measure_of weigh tokens (lexemes_by work)).numbers ≡ tokens
measure_many Nodes tokens work h = length-replicate tokens 1
measure_many Bytes tokens None h = length-replicate tokens 1
measure_many Bytes tokens (Some work) h = length-map work.now.lexemes.now (λ (text : Option (List ℕ)). byte_weight (option_map length text)) ∙ h

-- the weights have a number for each token
pub weights_many : (d : Chained) → IsReady d → length d.weights.now.numbers ≡ d.yacc.now.grammar.tokens
weights_many d ready =
    ap (λ (w : Measure). length w.numbers) ready.weights ∙ measure_many d.weigh d.yacc.now.grammar.tokens d.work (have_many d.yacc.now d.work ready.lexemes)

-- the work that is made of the least contexts
pub work_of : (d : Chained) → IsReady d → (tell : TellWork) → tell.embeds.now ≡ weighed_in d → IsMeasure tell.embeds.now.weights → tell.work ≡ d.work → IsWorkOf d tell
work_of d ready tell embeds measure work =
    let many = have_many d.yacc.now d.work ready.lexemes in
    let own = subst (λ (k : Option (Bor RenderWork)). IfSome k (λ r. length r.now.lexemes.now ≡ d.yacc.now.grammar.tokens)) (sym work) many in
    record {
      can = record {
        measure = measure;
        lexemes = subst (λ (v : Weighed). IfSome tell.work (λ r. length r.now.lexemes.now ≡ v.grammar.tokens)) (sym embeds) own;
      };
      embeds = embeds;
      work = work;
    }

-- memory ran out before anything was written
pub memory_first : {S : Type 0} (g : Sink.Ghosts S) (Is : List ℕ → Type 0) (s : S) → HasSomeText g Is s s Memory
memory_first g Is s text is = stopped_by_memory (written_none s) text

module _ (d : Chained) (one : (texts : Option Texts) → HasOneText texts) (ready : IsReady d) where
  -- the parts of the text that is asked for
  pub record Parts (text : List ℕ) : Type 0 where
    pub entries : List ChainEntry
    pub are : AreEntries d (chains d.yacc.now.grammar) entries
    pub whole : text ≡ head_lines d.yacc.now (lexemes_by d.work) ++ lines_from d.yacc.now 0 entries ++ end_line entries

  pub parts : (text : List ℕ) → IsAsked d text → Parts text
  parts text is =
      let file = d.yacc.now in
      let texts = texts_by d.work in
      let same : is.lexemes ≡ lexemes_by d.work = (one texts).lexemes file.grammar.tokens is.lexemes (lexemes_by d.work) is.are_lexemes (have_lexemes file d.work ready.lexemes) in
      let verdicts = subst (λ (l : Option (List (Option (List ℕ)))). AllZip (IsEntryOf (weighed_by d.weigh file l) texts l) (chains file.grammar) is.entries) same is.verdicts in
      record {
        entries = is.entries;
        are = subst (λ (v : Weighed). AllZip (IsEntryOf v texts (lexemes_by d.work)) (chains file.grammar) is.entries) (ap (weighed d.yacc.now.grammar) (sym ready.weights)) verdicts;
        whole = is.lines ∙ ap (λ (l : Option (List (Option (List ℕ)))). chains_lines file l is.entries) same;
      }

  pub asked : (entries : List ChainEntry) → AreEntries d (chains d.yacc.now.grammar) entries → IsAsked d (head_lines d.yacc.now (lexemes_by d.work) ++ lines_from d.yacc.now 0 entries ++ end_line entries)
  asked entries are =
      let file = d.yacc.now in
      record {
        lexemes = lexemes_by d.work;
        entries = entries;
        are_lexemes = have_lexemes file d.work ready.lexemes;
        verdicts = subst (λ (v : Weighed). AllZip (IsEntryOf v (texts_by d.work) (lexemes_by d.work)) (chains file.grammar) entries) (ap (weighed d.yacc.now.grammar) ready.weights) are;
        lines = refl;
      }

  module _ {S : Type 0} (g : Sink.Ghosts S) where
    -- the head was cut short
    pub head_cut : (old new : S) → IsCutShort g (head_lines d.yacc.now (lexemes_by d.work)) old new → HasSomeText g (IsAsked d) old new Failed
    head_cut old new cut text is =
        let p = parts text is in
        subst (λ (l : List ℕ). IsStopped g l old new Failed) (sym p.whole)
        (stopped_longer (end_line p.entries) (stopped_longer (lines_from d.yacc.now 0 p.entries) (stopped_by_cut cut)))

    -- the lines of chains stopped
    pub goals_stopped : (old mid new : S) (halt : Halt) → IsWritten g (head_lines d.yacc.now (lexemes_by d.work)) old mid → HasSomeText g (IsBodyText d) mid new halt → HasSomeText g (IsAsked d) old new halt
    goals_stopped old mid new halt written stopped text is =
        let p = parts text is in
        let body = stopped (lines_from d.yacc.now 0 p.entries) (record { entries = p.entries; are = p.are; lines = refl }) in
        subst (λ (l : List ℕ). IsStopped g l old new halt) (sym p.whole) (stopped_longer (end_line p.entries) (stopped_behind written body))

    -- the lines that were written, and how many there are
    body_is : (mid next : S) (tally : Tally) (body : HasText g (IsBodyText d) mid next) → CountsAll d tally → (end_with tally ≡ end_line body.is.entries)
    body_is mid next tally body counts = end_is body.is.entries tally (counts body.is.entries body.is.are)

    same_entries : (a b : List ChainEntry) → AreEntries d (chains d.yacc.now.grammar) a → AreEntries d (chains d.yacc.now.grammar) b → a ≡ b
    same_entries a b ha hb = one_list (texts_by d.work) (one (texts_by d.work)) (lexemes_by d.work) (weighed_in d) (chains d.yacc.now.grammar) a b ha hb

    -- the end was cut short
    pub end_cut : (old mid next new : S) (tally : Tally) → IsWritten g (head_lines d.yacc.now (lexemes_by d.work)) old mid → HasText g (IsBodyText d) mid next → CountsAll d tally → IsCutShort g (end_with tally) next new → HasSomeText g (IsAsked d) old new Failed
    end_cut old mid next new tally written body counts cut text is =
        let p = parts text is in
        let same = same_entries p.entries body.is.entries p.are body.is.are in
        let lines = subst (λ (l : List ℕ). IsWritten g l mid next) body.is.lines body.written in
        let last = subst (λ (l : List ℕ). IsCutShort g l next new) (body_is mid next tally body counts) cut in
        let whole = p.whole ∙ ap (λ (es : List ChainEntry). head_lines d.yacc.now (lexemes_by d.work) ++ lines_from d.yacc.now 0 es ++ end_line es) same in
        subst (λ (l : List ℕ). IsStopped g l old new Failed) (sym whole) (stopped_behind (written_then written lines) (stopped_by_cut last))

    -- all was written
    pub all_written : (old mid next new : S) (tally : Tally) → IsWritten g (head_lines d.yacc.now (lexemes_by d.work)) old mid → HasText g (IsBodyText d) mid next → CountsAll d tally → IsWritten g (end_with tally) next new → HasText g (IsAsked d) old new
    all_written old mid next new tally written body counts last =
        let lines = subst (λ (l : List ℕ). IsWritten g l mid next) body.is.lines body.written in
        let end = subst (λ (l : List ℕ). IsWritten g l next new) (body_is mid next tally body counts) last in
        record {
          text = head_lines d.yacc.now (lexemes_by d.work) ++ lines_from d.yacc.now 0 body.is.entries ++ end_line body.is.entries;
          is = asked body.is.entries body.is.are;
          written = written_then (written_then written lines) end;
        }
