-- What the writing of a negative did, from what is known of its lines.
use Rattle.std.proofs.Common.{◌≡◌, ℕ, List, refl, sym, ap, ◌∙◌, subst}
use Rattle.std.specs.Prelude.{Err, Ok, OnErr, OnOk, Option, Result, Some, unwrap_or}
use Rattle.std.specs.Borrow.{Bor}
use Rattle.cs_io.specs.declared.sink.Sink as Sink
use Rattle.cs_io.specs.declared.sink.SinkError.{SinkError}
use Rattle.cs_io.specs.Lines.{IsCutShort, IsWritten}
use Rattle.cs_manifest.specs.Manifest.Counts.{with_lines}
use Rattle.cs_manifest.specs.Writer.Entry.{lines_of}
use Rattle.cs_manifest.specs.Manifest.Lines.{negative_lines}
use Rattle.cs_manifest.specs.Manifest.Manifest.{NegativeEntry}
use Rattle.cs_manifest.specs.Writer.Progress.{Progress, TellsLines, behind, lines_in}
use Rattle.cs_manifest.specs.declared.manifest.counts.Counts.{Counts}
use Rattle.cs_manifest.specs.declared.writer.entry.Entry.{Entry}
use Rattle.cs_manifest.specs.declared.writer.entry.Entry.TheVariants.{Negative as numbered}
use Rattle.cs_mutate.specs.Edit.{edited}
use Rattle.cs_mutate.specs.declared.negative.Negative.{Negative}
use Rattle.cs_texts.specs.Rendering.Rendering.{rendering_in}
use Rattle.cs_texts.specs.declared.rendering.rendered.RenderedParts.{RenderedParts}
use Rattle.cs_texts.specs.Rendering.ByWork.{IsRenderedBy}
use Rattle.cs_texts.specs.Splice.Spliced.{rendering_around}
use Rattle.cs_yacc.specs.Reading.File.{File}
use Rattle.cs_manifest.specs.Manifest.Named.{IsNamedRendering}
use Rattle.cs_writing.specs.Mutants.Makers.{Making}
use Rattle.cs_writing.specs.Mutants.Mutants.{IsOfNegative, Mutant, WritesMade, WritesNegative, behind_negative, made_lines}
use Rattle.cs_writing.specs.Mutants.Rows.{IsEntryOf, IsRenderedAs}
use Rattle.cs_writing.specs.declared.mutants.made.Rendering.{Rendering}

-- the entry of a negative whose edited list was rendered
pub rendered_entry : (making : Making) (r : Rendering) (at number base : ℕ) (tokens : Bor (List ℕ)) (middle : List ℕ) (parts : RenderedParts) → at ≡ number → base ≡ making.number → rendering_in parts ≡ rendering_around middle r.spliced
    → IsRenderedAs making tokens.now middle r → IsEntryOf making r.negative number (numbered (record { number = at; base = base; negative = r.negative; tokens = tokens; rendered = parts }))
rendered_entry making r at number base tokens middle parts at_is base_is parts_are made =
    let file = making.tools.file in
    let n = r.negative in
    let told = Some (rendering_in parts) in
    record {
      told = record { negative = n; rendered = told };
      of = record { is_of = refl; text = subst (IsRenderedBy making.tools.work (edited making.base n.edit)) (sym parts_are) made.rendered_is };
      lines = ap (λ (k : ℕ). negative_lines file k base n tokens.now told) at_is
          ∙ ap (λ (b : ℕ). negative_lines file number b n tokens.now told) base_is
          ∙ ap (λ (l : List ℕ). negative_lines file number making.number n l told) made.tokens_are;
      counts = λ counts. refl;
      named = record {
        negative = made.negative_named;
        tokens = made.tokens_named;
        rendered = subst (IsNamedRendering file) (sym parts_are) made.rendering_named;
      };
    }

-- the lines of an entry of a negative, and the manifest behind it
pub entry_lines : (making : Making) (n : Negative) (number : ℕ) (entry : Entry) (old : Progress) (is : IsEntryOf making n number entry) → old.file ≡ making.tools.file → lines_in old entry ≡ made_lines making number is.told
entry_lines making n number entry old is file = ap (λ (f : File). lines_of f entry) file ∙ is.lines

pub entry_behind : (making : Making) (n : Negative) (number : ℕ) (entry : Entry) (old : Progress) → IsEntryOf making n number entry → behind old entry ≡ behind_negative old (lines_in old entry)
entry_behind making n number entry old is = ap (λ (k : Counts). record old { counts = with_lines k (lines_in old entry) }) (is.counts old.counts)

module _ {S : Type 0} (g : Sink.Ghosts S) (making : Making) (n : Negative) (number : ℕ) (old new : Progress) (before after : S) where
  -- what a manifest says of the writing of these lines
  pub writes_lines : (told : NegativeEntry) (lines : List ℕ) → IsOfNegative making.tools.work making.base n told → lines ≡ made_lines making number told
      → (result : Result Unit SinkError) → OnOk result (new ≡ behind_negative old lines) → OnErr result (new ≡ old) → TellsLines g result lines before after
      → WritesNegative g making n number old before new after result
  writes_lines told lines of is (Ok x) value unchanged written = record {
    told = told;
    of = of;
    lines = subst (λ (l : List ℕ). IsWritten g l before after) is written;
    counts = value ∙ ap (behind_negative old) is;
  }
  writes_lines told lines of is (Err e) value unchanged cut = record {
    told = told;
    of = of;
    lines = subst (λ (l : List ℕ). IsCutShort g l before after) is cut;
    counts = unchanged;
  }

  -- it is the negative that was made
  pub writes_made : (mutant : Mutant) (result : Result Unit SinkError) → record { making = making; negative = Some n } ≡ mutant → WritesNegative g making n number old before new after result
      → WritesMade g mutant number old before new after result
  writes_made mutant result same wrote =
      subst (λ (m : Mutant). WritesMade g m number old before new after result) same
      (λ x is. subst (λ (k : Negative). WritesNegative g making k number old before new after result) (ap (λ (o : Option Negative). unwrap_or o n) is) wrote)
