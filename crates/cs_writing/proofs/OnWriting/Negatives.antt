-- The negatives of a base, written one after another.
use Rattle.std.proofs.Common.{◌≡◌, ℕ, ◌+◌, List, [], ◌∷◌, ◌++◌, length, length-append, refl, sym, ap, ◌∙◌, subst, Option, arith, append_assoc, append-nil}
use Rattle.std.specs.Prelude.{None, Some}
use Rattle.std.specs.List.{AllZip}
use Rattle.cs_grammar.specs.Grammar.{PlainGrammar}
use Rattle.cs_io.specs.declared.sink.Sink as Sink
use Rattle.cs_io.specs.Lines.{IsCutShort, IsWritten}
use Rattle.cs_manifest.specs.Manifest.ByWork.{texts_of}
use Rattle.cs_manifest.specs.Output.Words.{numbered_from}
use Rattle.cs_manifest.proofs.OnOutput.Written.{written_none, written_then, written_cut, cut_longer}
use Rattle.cs_manifest.specs.declared.manifest.counts.Counts.{Counts}
use Rattle.cs_manifest.specs.Manifest.Manifest.{HasOneText, NegativeEntry, negative_entry_lines, negatives_of}
use Rattle.cs_manifest.specs.Writer.Progress.{Progress}
use Rattle.cs_manifest.proofs.OnManifest.Bases.{negatives_are}
use Rattle.cs_manifest.proofs.OnManifest.OneManifest.{one_zip}
use Rattle.cs_writing.specs.Mutants.Makers.{Making}
use Rattle.cs_writing.specs.Mutants.Mutants.{IsOfNegative, made_lines}
use Rattle.cs_mutate.specs.Edit.{Fits, edited}
use Rattle.cs_mutate.specs.Negatives.{FitsBase, IsNegative, Search}
use Rattle.cs_mutate.specs.Keeping.{AreKeptOf, Counters, FindsKept, FindsNextKept, IsNextKept, Tells, TellsFound}
use Rattle.cs_mutate.specs.declared.edit.Edit.{Edit}
use Rattle.cs_mutate.specs.declared.negative.Negative.{Negative}
use Rattle.cs_mutate.proofs.KeptLists.{kept_both, kept_done, kept_next, kept_none, kept_split, one_kept_of}
use Rattle.cs_texts.specs.Rendering.Rendering.{Rendering}
use Rattle.cs_texts.specs.declared.rendering.render_work.RenderWork.{RenderWork}
use Rattle.cs_yacc.specs.Reading.File.{File}
use Rattle.cs_io.specs.declared.halt.Halt.TheVariants.{Failed, Memory}
use Rattle.cs_writing.specs.Writing.Mutants.{AreMade, IsCounted, negatives_from}
use Rattle.cs_io.specs.Stops.{IsStopped}
use Rattle.cs_manifest.proofs.OnOutput.Numbered.{numbered_both}
use Rattle.cs_manifest.proofs.OnManifest.Zips.{zip_both}
use Rattle.cs_writing.proofs.OnWriting.Ones.{zip_front}
use Rattle.cs_writing.proofs.OnWriting.Parts.{HasNegatives, HasSomeNegatives}
use Rattle.cs_io.proofs.Stops.{stopped_by_memory, stopped_by_cut}
use Rattle.cs_writing.proofs.OnWriting.Tallies.{counted_none, counted_then}

-- what is told of a negative and its lines, by the list of the search, the file and the count of the manifest
pub told_by : (mine making : Making) (file : File) (search : Search) (n : Negative) (told : NegativeEntry) (number many : ℕ) → mine ≡ making → file ≡ making.tools.file → search.base ≡ making.base → number ≡ many + 1
    → IsOfNegative mine.tools.work mine.base n told
    → IsOfNegative making.tools.work search.base n told × (made_lines mine number told ≡ negative_entry_lines file making.number search.base (many + 1) told)
told_by mine making file search n told number many same file_is base_is at of = (
  subst (λ (w : List ℕ). IsOfNegative making.tools.work w n told) (sym base_is) (subst (λ (m : Making). IsOfNegative m.tools.work m.base n told) same of),
  ap (λ (m : Making). made_lines m number told) same ∙ ap (λ (f : File). negative_entry_lines f making.number making.base number told) (sym file_is)
      ∙ ap (λ (w : List ℕ). negative_entry_lines file making.number w number told) (sym base_is) ∙ ap (λ (k : ℕ). negative_entry_lines file making.number search.base k told) at,
)

-- the partner of a negative
abbrev Partner : RenderWork → List ℕ → Negative → NegativeEntry → Type 0
Partner work base = IsOfNegative work base

-- what is found next fits the base, and is one of its negatives
pub fits_first : (search left : Search) (n : Negative) → left.grammar ≡ search.grammar → left.base ≡ search.base → FitsBase left n.edit → FitsBase search n.edit
fits_first search left n grammar base fits =
    subst (λ (g : PlainGrammar). Fits (length search.base) g.tokens n.edit) grammar
    (subst (λ (w : List ℕ). Fits (length w) left.grammar.tokens n.edit) base fits)

pub negative_first : (search left : Search) (n : Negative) → left.grammar ≡ search.grammar → left.base ≡ search.base → IsNegative left.grammar left.base n → IsNegative search.grammar search.base n
negative_first search left n grammar base negative =
    subst (λ (g : PlainGrammar). IsNegative g search.base n) grammar (subst (λ (w : List ℕ). IsNegative left.grammar w n) base negative)

-- The entries of the kept negatives of the first edits, where this is left of the search, behind these of the bases before; and the
-- counters tell of all of them.
pub record FirstMade (work : RenderWork) (most : Option ℕ) (earlier : List Negative) (search left : Search) (counters : Counters) (entries : List NegativeEntry) : Type 0 where
  pub grammar : left.grammar ≡ search.grammar
  pub base : left.base ≡ search.base
  pub most_is : counters.first ≡ most
  pub done_edits : List Edit
  pub kept : List Negative
  pub split : search.edits ≡ done_edits ++ left.edits
  pub all : AreKeptOf search.grammar search.base most earlier done_edits kept
  pub each : AllZip (Partner work search.base) kept entries
  pub told : Tells counters (earlier ++ kept)

module _ (work : RenderWork) (most : Option ℕ) (earlier : List Negative) (search : Search) (one : HasOneText (Some (texts_of work))) where
  one_made : (n : Negative) (a b : NegativeEntry) → Partner work search.base n a → Partner work search.base n b → a ≡ b
  one_made n a b ha hb =
      ap (λ (m : Negative). record { negative = m; rendered = a.rendered }) (ha.is_of ∙ sym hb.is_of)
      ∙ ap (λ (r : Option Rendering). record { negative = b.negative; rendered = r })
      (one.rendered (Some work.lexemes.now) (edited search.base n.edit) a.rendered b.rendered ha.text hb.text)

  -- the entries of all kept negatives are one list
  pub one_list_made : (a b : List NegativeEntry) → AreMade work most earlier search a → AreMade work most earlier search b → a ≡ b
  one_list_made a b ha hb =
      let same : hb.kept ≡ ha.kept = one_kept_of search.grammar search.base most earlier search.edits hb.kept ha.kept hb.all ha.all in
      one_zip one_made ha.kept a b ha.each (subst (λ (ns : List Negative). AllZip (Partner work search.base) ns b) same hb.each)

  -- whichever the entries of all kept negatives are, they begin with these
  made_front : (left : Search) (counters : Counters) (entries others : List NegativeEntry) → FirstMade work most earlier search left counters entries → AreMade work most earlier search others → (more : List NegativeEntry) × (others ≡ entries ++ more)
  made_front left counters entries others first made =
      let whole = subst (λ (es : List Edit). AreKeptOf search.grammar search.base most earlier es made.kept) first.split made.all in
      let s = kept_split search.grammar search.base most earlier first.done_edits left.edits made.kept whole in
      let same : s.0 ≡ first.kept = one_kept_of search.grammar search.base most earlier first.done_edits s.0 first.kept s.3 first.all in
      let each = subst (λ (ns : List Negative). AllZip (Partner work search.base) ns others) (s.2 ∙ ap (λ (l : List Negative). l ++ s.1) same) made.each in
      zip_front one_made first.kept s.1 entries others first.each each

module _ (work : RenderWork) (most : Option ℕ) (earlier : List Negative) (search left : Search) (counters : Counters) (entries : List NegativeEntry) (first : FirstMade work most earlier search left counters entries) where
  -- the next of them
  next_at : (found : Option Negative) (new : Search) → FindsNextKept counters left found new → FindsKept search.grammar search.base most (earlier ++ first.kept) left.edits found new.edits
  next_at found new is =
      subst (λ (g : PlainGrammar). FindsKept g search.base most (earlier ++ first.kept) left.edits found new.edits) first.grammar
      (subst (λ (w : List ℕ). FindsKept left.grammar w most (earlier ++ first.kept) left.edits found new.edits) first.base
      (subst (λ (m : Option ℕ). FindsKept left.grammar left.base m (earlier ++ first.kept) left.edits found new.edits) first.most_is
      (is (earlier ++ first.kept) first.told)))

  first_more : (n : Negative) (entry : NegativeEntry) (new : Search) (then_counters : Counters) → FindsNextKept counters left (Some n) new → Partner work search.base n entry → new.grammar ≡ left.grammar → new.base ≡ left.base
      → then_counters.first ≡ counters.first → TellsFound counters (Some n) then_counters → FirstMade work most earlier search new then_counters (entries ++ entry ∷ [])
  first_more n entry new then_counters is made grammar base same_most tells =
      let next : IsNextKept search.grammar search.base most (earlier ++ first.kept) left.edits n new.edits = next_at (Some n) new is in
      let more = next.skipped ++ n.edit ∷ [] in
      record {
        grammar = grammar ∙ first.grammar;
        base = base ∙ first.base;
        most_is = same_most ∙ first.most_is;
        done_edits = first.done_edits ++ more;
        kept = first.kept ++ n ∷ [];
        split =
            first.split
            ∙ ap (λ (l : List Edit). first.done_edits ++ l) (next.edits ∙ sym (append_assoc next.skipped (n.edit ∷ []) new.edits))
            ∙ sym (append_assoc first.done_edits more new.edits);
        all = kept_both search.grammar search.base most earlier first.done_edits more first.kept (n ∷ []) first.all
            (kept_next search.grammar search.base most (earlier ++ first.kept) left.edits n new.edits next);
        each = zip_both (Partner work search.base) first.kept (n ∷ []) entries (entry ∷ []) first.each (made, tt);
        told = subst (λ (l : List Negative). Tells then_counters l) (append_assoc earlier first.kept (n ∷ [])) (tells (earlier ++ first.kept) first.told);
      }

  -- none came, so that these are all
  first_all : (new : Search) → FindsNextKept counters left None new → AreMade work most earlier search entries
  first_all new is =
      let dropped = (next_at None new is).0 in
      let all = kept_both search.grammar search.base most earlier first.done_edits left.edits first.kept [] first.all (kept_done search.grammar search.base most (earlier ++ first.kept) left.edits dropped) in
      record {
        kept = first.kept;
        all = subst (λ (es : List Edit). AreKeptOf search.grammar search.base most earlier es first.kept) (sym first.split)
            (subst (λ (l : List Negative). AreKeptOf search.grammar search.base most earlier (first.done_edits ++ left.edits) l) (append-nil first.kept) all);
        each = first.each;
      }

  -- and the counters then tell of them
  first_told : (new : Search) (then_counters : Counters) → FindsNextKept counters left None new → TellsFound counters None then_counters → Tells then_counters (earlier ++ negatives_of entries)
  first_told new then_counters is tells =
      subst (λ (l : List Negative). Tells then_counters (earlier ++ l)) (sym (negatives_are (Some (texts_of work)) (Some work.lexemes.now) search.base first.kept entries first.each))
      (tells (earlier ++ first.kept) first.told)

-- lines of what was made and of one more
line_more : (file : File) (base : ℕ) (tokens : List ℕ) (many now : ℕ) (entries : List NegativeEntry) (entry : NegativeEntry) → now ≡ many + length entries
    → negatives_from file base tokens many entries ++ negative_entry_lines file base tokens (now + 1) entry ≡ negatives_from file base tokens many (entries ++ entry ∷ [])
line_more file base tokens many now entries entry is =
    let f = negative_entry_lines file base tokens in
    let e : now + 1 ≡ many + 1 + length entries = omega (arith, is) in
    ap (λ (k : ℕ). negatives_from file base tokens many entries ++ f k entry) e
    ∙ ap (λ (l : List ℕ). negatives_from file base tokens many entries ++ l) (sym (append-nil (f (many + 1 + length entries) entry)))
    ∙ sym (numbered_both f (many + 1) entries (entry ∷ []))

-- and of all that comes
lines_front : (file : File) (base : ℕ) (tokens : List ℕ) (many : ℕ) (entries more others : List NegativeEntry) → others ≡ entries ++ more
    → (rest : List ℕ) × (negatives_from file base tokens many others ≡ negatives_from file base tokens many entries ++ rest)
lines_front file base tokens many entries more others is = (
  numbered_from (many + 1 + length entries) (negative_entry_lines file base tokens) more,
  ap (negatives_from file base tokens many) is ∙ numbered_both (negative_entry_lines file base tokens) (many + 1) entries more,
)

module _ {S : Type 0} (g : Sink.Ghosts S) (file : File) (base : ℕ) (work : RenderWork) (most : Option ℕ) (earlier : List Negative) (search : Search) where
  -- The lines of the kept negatives of the first edits were written and counted.
  pub record NegativesSoFar (left : Search) (counters : Counters) (old now : S) (before after : Counts) : Type 0 where
    pub entries : List NegativeEntry
    pub first : FirstMade work most earlier search left counters entries
    pub written : IsWritten g (negatives_from file base search.base before.negatives entries) old now
    pub counted : IsCounted (length entries) (negatives_from file base search.base before.negatives entries) before after

module _ {S : Type 0} {g : Sink.Ghosts S} (file : File) (base : ℕ) (work : RenderWork) (most : Option ℕ) (earlier : List Negative) (search : Search) where
  pub negatives_none : (counters : Counters) (counts : Counts) (s : S) → counters.first ≡ most → Tells counters earlier → NegativesSoFar g file base work most earlier search search counters s s counts counts
  negatives_none counters counts s most_is told = record {
    entries = [];
    first = record {
      grammar = refl;
      base = refl;
      most_is = most_is;
      done_edits = [];
      kept = [];
      split = refl;
      all = kept_none search.grammar search.base most earlier;
      each = tt;
      told = subst (λ (l : List Negative). Tells counters l) (sym (append-nil earlier)) told;
    };
    written = written_none s;
    counted = counted_none counts;
  }

  module _ (left : Search) (counters : Counters) (old mid : S) (before counts : Counts) (so_far : NegativesSoFar g file base work most earlier search left counters old mid before counts) where
    abbrev entries : List NegativeEntry
    entries = so_far.entries

    -- none came
    pub negatives_all : (new : Search) → FindsNextKept counters left None new → HasNegatives g file base work most earlier search old mid before counts
    negatives_all new is = record {
      entries = entries;
      all = first_all work most earlier search left counters entries so_far.first new is;
      written = so_far.written;
      counted = so_far.counted;
    }

    pub negatives_told : HasOneText (Some (texts_of work)) → (new : Search) (then_counters : Counters) → FindsNextKept counters left None new → TellsFound counters None then_counters
        → (others : List NegativeEntry) → AreMade work most earlier search others → Tells then_counters (earlier ++ negatives_of others)
    negatives_told one new then_counters is tells others are =
        subst (λ (l : List NegativeEntry). Tells then_counters (earlier ++ negatives_of l))
        (one_list_made work most earlier search one entries others (first_all work most earlier search left counters entries so_far.first new is) are)
        (first_told work most earlier search left counters entries so_far.first new then_counters is tells)

    module _ (one : HasOneText (Some (texts_of work))) where
      -- memory ran out behind the first negatives
      pub negatives_memory : HasSomeNegatives g file base work most earlier search before.negatives old mid Memory
      negatives_memory others are =
          let found = made_front work most earlier search one left counters entries others so_far.first are in
          let whole = lines_front file base search.base before.negatives entries found.0 others found.1 in
          subst (λ (l : List ℕ). IsStopped g l old mid Memory) (sym whole.1) (stopped_by_memory so_far.written whole.0)

    -- the next negative, as it was made
    module _ (n : Negative) (told : NegativeEntry) (new : Search) (then_counters : Counters) (now : S) (is : FindsNextKept counters left (Some n) new) (made : IsOfNegative work search.base n told)
        (grammar : new.grammar ≡ left.grammar) (same : new.base ≡ left.base) (same_most : then_counters.first ≡ counters.first) (tells : TellsFound counters (Some n) then_counters) where
      abbrev lines : List ℕ
      lines = negative_entry_lines file base search.base (counts.negatives + 1) told

      -- its lines stand behind those that were written
      lines_more : negatives_from file base search.base before.negatives entries ++ lines ≡ negatives_from file base search.base before.negatives (entries ++ told ∷ [])
      lines_more = line_more file base search.base before.negatives counts.negatives entries told (ap (λ (c : Counts). c.negatives) so_far.counted.same)

      more : FirstMade work most earlier search new then_counters (entries ++ told ∷ [])
      more = first_more work most earlier search left counters entries so_far.first n told new then_counters is made grammar same same_most tells

      pub negatives_more : (after : Counts) → IsWritten g lines mid now → IsCounted 1 lines counts after → NegativesSoFar g file base work most earlier search new then_counters old now before after
      negatives_more after written counted =
          let many : length entries + 1 ≡ length (entries ++ told ∷ []) = omega (arith, length-append entries (told ∷ [])) in
          let both = counted_then (length entries) 1 (negatives_from file base search.base before.negatives entries) lines before counts after so_far.counted counted in
          record {
            entries = entries ++ told ∷ [];
            first = more;
            written = subst (λ (l : List ℕ). IsWritten g l old now) lines_more (written_then so_far.written written);
            counted = subst (λ (l : List ℕ). IsCounted (length (entries ++ told ∷ [])) l before after) lines_more
                (subst (λ (k : ℕ). IsCounted k (negatives_from file base search.base before.negatives entries ++ lines) before after) many both);
          }

      -- its lines were cut short
      pub negatives_cut : HasOneText (Some (texts_of work)) → IsCutShort g lines mid now → HasSomeNegatives g file base work most earlier search before.negatives old now Failed
      negatives_cut one cut others are =
          let found = made_front work most earlier search one new then_counters (entries ++ told ∷ []) others more are in
          let whole = lines_front file base search.base before.negatives (entries ++ told ∷ []) found.0 others found.1 in
          let written = subst (λ (l : List ℕ). IsCutShort g l old now) lines_more (written_cut so_far.written cut) in
          subst (λ (l : List ℕ). IsStopped g l old now Failed) (sym whole.1) (stopped_by_cut (cut_longer whole.0 written))

-- whichever the kept negatives are, they were counted
pub made_counted : {S : Type 0} {g : Sink.Ghosts S} {old new : S} (before after : Progress) (making : Making) (most : Option ℕ) (earlier : List Negative) (search : Search) → HasOneText (Some (texts_of making.tools.work))
    → HasNegatives g before.file making.number making.tools.work most earlier search old new before.counts after.counts → (entries : List NegativeEntry) → AreMade making.tools.work most earlier search entries
    → IsCounted (length entries) (negatives_from before.file making.number search.base before.counts.negatives entries) before.counts after.counts
made_counted before after making most earlier search one has entries are =
    subst (λ (es : List NegativeEntry). IsCounted (length es) (negatives_from before.file making.number search.base before.counts.negatives es) before.counts after.counts)
    (one_list_made making.tools.work most earlier search one has.entries entries has.all are) has.counted
