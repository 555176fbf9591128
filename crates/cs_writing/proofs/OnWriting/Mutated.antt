-- Bases written one after another, each with its negatives.
use Rattle.std.proofs.Common.{◌≡◌, ℕ, ◌+◌, ◌*◌, ◌<◌, ◌≤◌, List, [], ◌∷◌, ◌++◌, length, get_or, take, drop, refl, sym, ap, ◌∙◌, subst, arith, append_assoc, append-nil, take-append-drop, Option, None, Some}
use Rattle.std.specs.Prelude.{if◌then◌else◌}
use Rattle.std.specs.Option.{option_map_or}
use Rattle.std.proofs.lemmas.List.{drop_more, length-take-le, take_all, take_more}
use Rattle.std.proofs.lemmas.List.Sums.{sum_by-append, sum_by-cons}
use Rattle.cs_writing.specs.Bases.Bases.{PlainBases}
use Rattle.cs_io.specs.declared.sink.Sink as Sink
use Rattle.cs_io.specs.Lines.{IsCutShort, IsWritten}
use Rattle.cs_manifest.proofs.OnOutput.Written.{written_none, written_then}
use Rattle.cs_manifest.specs.declared.manifest.counts.Counts.{Counts}
use Rattle.cs_manifest.specs.Manifest.Lines.{base_line}
use Rattle.cs_manifest.specs.Manifest.Manifest.{AreNegativesOf, BaseEntry, BasesOf, HasOneText, NegativeEntry, base_entry_lines, has_operator, kept_in, most_bases, negatives_of}
use Rattle.cs_mutate.specs.Keeping.{Counters, Tells}
use Rattle.cs_mutate.specs.declared.negative.Negative.{Negative}
use Rattle.cs_manifest.specs.Writer.Progress.{Progress}
use Rattle.cs_manifest.proofs.OnManifest.Bases.{bases_both, bases_length, bases_split, kept_in_both}
use Rattle.cs_manifest.proofs.OnManifest.OneManifest.{one_list_of_bases}
use Rattle.cs_yacc.specs.Reading.File.{File}
use Rattle.cs_writing.specs.declared.plan.plan.Means.{Means}
use Rattle.cs_writing.specs.declared.plan.plan.Plan.{Plan}
use Rattle.cs_writing.specs.Plan.Plans.{choice_in, lexemes_in, means_in, no_operator, texts_in}
use Rattle.cs_io.specs.declared.halt.Halt.{Halt}
use Rattle.cs_io.specs.declared.halt.Halt.TheVariants.{Failed, Memory}
use Rattle.cs_writing.specs.Writing.Mutants.{CountsBases, IsBasesText, IsCounted, negatives_from, negatives_in}
use Rattle.cs_io.specs.Stops.{HasText, IsStopped}
use Rattle.cs_writing.proofs.OnWriting.Ones.{nothing_in}
use Rattle.cs_writing.proofs.OnWriting.Parts.{HasBases, HasSomeBases}
use Rattle.cs_io.proofs.Stops.{stopped_by_cut, stopped_by_memory, stopped_longer, stopped_behind}
use Rattle.cs_writing.proofs.OnWriting.Tallies.{counted_none, counted_then}

-- lines of bases and of more
base_lines_both : (file : File) (many number : ℕ) (xs ys : List BaseEntry)
    → base_entry_lines file many number (xs ++ ys) ≡ base_entry_lines file many number xs ++ base_entry_lines file (many + negatives_in xs) (number + length xs) ys
base_lines_both file many number [] ys =
    let e : many ≡ many + 0 = omega arith in
    let f : number ≡ number + 0 = omega arith in
    ap (λ (k : ℕ). base_entry_lines file k number ys) e ∙ ap (λ (k : ℕ). base_entry_lines file (many + 0) k ys) f
base_lines_both file many number (x ∷ xs) ys =
    let first = base_line (number + 1) x.goal ++ negatives_from file (number + 1) x.tokens many x.negatives in
    let next = many + length x.negatives in
    let e : next + negatives_in xs ≡ many + negatives_in (x ∷ xs) = omega (arith, sum_by-cons (λ (b : BaseEntry). length b.negatives) x xs) in
    let f : number + 1 + length xs ≡ number + length (x ∷ xs) = omega arith in
    ap (λ (l : List ℕ). first ++ l)
    (base_lines_both file next (number + 1) xs ys
    ∙ ap (λ (k : ℕ). base_entry_lines file next (number + 1) xs ++ base_entry_lines file k (number + 1 + length xs) ys) e
    ∙ ap (λ (k : ℕ). base_entry_lines file next (number + 1) xs ++ base_entry_lines file (many + negatives_in (x ∷ xs)) k ys) f)
    ∙ sym (append_assoc first (base_entry_lines file next (number + 1) xs) (base_entry_lines file (many + negatives_in (x ∷ xs)) (number + length (x ∷ xs)) ys))

-- lines of negatives, as they are and as they are told
pub negatives_at : (now file : File) (number : ℕ) (base tokens : List ℕ) (k many : ℕ) (entries : List NegativeEntry) → now ≡ file → base ≡ tokens → k ≡ many
    → negatives_from now number base k entries ≡ negatives_from file number tokens many entries
negatives_at now file number base tokens k many entries same tokens_are is =
    ap (λ (f : File). negatives_from f number base k entries) same ∙ ap (λ (t : List ℕ). negatives_from file number t k entries) tokens_are
    ∙ ap (λ (n : ℕ). negatives_from file number tokens n entries) is

module _ (plan : Plan) where
  abbrev pub file : File
  file = plan.yacc.now

  -- the entries of bases, where these negatives are kept before them
  abbrev pub Of : List Negative → List (ℕ × List ℕ) → List BaseEntry → Type 0
  Of earlier list entries = BasesOf file.grammar (choice_in plan) (lexemes_in plan) earlier list entries

  -- the lines of a base, and of its negatives where so many stand before them
  abbrev lines_of_base : ℕ → ℕ × List ℕ → ℕ → List NegativeEntry → List ℕ
  lines_of_base number base many negatives = base_line number base.0 ++ negatives_from file number base.1 many negatives

  -- whichever all bases' entries are, their lines begin with the lines of the first bases and of the next one
  pub record HasNext (base : ℕ × List ℕ) (i : ℕ) (mutants others : List BaseEntry) : Type 0 where
    pub negatives : List NegativeEntry
    pub of : AreNegativesOf file.grammar (choice_in plan) (lexemes_in plan) (kept_in mutants) base.1 negatives
    pub more : List ℕ
    pub lines : base_entry_lines file 0 0 others ≡ base_entry_lines file 0 0 mutants ++ (lines_of_base (i + 1) base (negatives_in mutants) negatives ++ more)

  -- the lines of the bases before it
  pub one_base_more : (base : ℕ × List ℕ) (i : ℕ) (mutants rest : List BaseEntry) (next : BaseEntry) → length mutants ≡ i → next.goal ≡ base.0 → next.tokens ≡ base.1
      → base_entry_lines file 0 0 (mutants ++ next ∷ rest) ≡ base_entry_lines file 0 0 mutants
      ++ (lines_of_base (i + 1) base (negatives_in mutants) next.negatives ++ base_entry_lines file (negatives_in mutants + length next.negatives) (i + 1) rest)
  one_base_more base i mutants rest next is goal tokens =
      let lines = λ (many number : ℕ) (b : ℕ × List ℕ). base_entry_lines file 0 0 mutants ++ (lines_of_base (number + 1) b many next.negatives ++ base_entry_lines file (many + length next.negatives) (number + 1) rest) in
      let e : 0 + negatives_in mutants ≡ negatives_in mutants = omega arith in
      let f : 0 + length mutants ≡ i = omega (arith, is) in
      base_lines_both file 0 0 mutants (next ∷ rest)
      ∙ ap (λ (k : ℕ). lines k (0 + length mutants) (next.goal, next.tokens)) e
      ∙ ap (λ (k : ℕ). lines (negatives_in mutants) k (next.goal, next.tokens)) f
      ∙ ap (λ (k : ℕ). lines (negatives_in mutants) i (k, next.tokens)) goal
      ∙ ap (λ (t : List ℕ). lines (negatives_in mutants) i (base.0, t)) tokens

  module _ (one : HasOneText (texts_in plan)) (list : List (ℕ × List ℕ)) (i : ℕ) (base : ℕ × List ℕ) (within : i < length list) (is : base ≡ get_or list i base) where
    split : list ≡ take i list ++ (base ∷ drop (i + 1) list)
    split = sym (take-append-drop i list) ∙ ap (λ (l : List (ℕ × List ℕ)). take i list ++ l) (drop_more list i base within ∙ ap (λ (b : ℕ × List ℕ). b ∷ drop (i + 1) list) (sym is))

    pub bases_next : (mutants others : List BaseEntry) → length mutants ≡ i → Of [] (take i list) mutants → Of [] list others → HasNext base i mutants others
    bases_next mutants others many first all =
        let g = file.grammar in
        let choice = choice_in plan in
        let lexemes = lexemes_in plan in
        let parts = bases_split g choice lexemes [] (take i list) (base ∷ drop (i + 1) list) others (subst (λ (l : List (ℕ × List ℕ)). Of [] l others) split all) in
        let same : parts.0 ≡ mutants = one_list_of_bases choice one lexemes g [] (take i list) parts.0 mutants parts.3 first in
        let next = subst (λ (l : List BaseEntry). Of (kept_in l) (base ∷ drop (i + 1) list) parts.1) same parts.4 in
        record {
          negatives = next.0.negatives;
          of = next.3.negatives;
          more = base_entry_lines file (negatives_in mutants + length next.0.negatives) (i + 1) next.1;
          lines = ap (base_entry_lines file 0 0) (parts.2 ∙ ap (λ (l : List BaseEntry). l ++ parts.1) same ∙ ap (λ (l : List BaseEntry). mutants ++ l) next.2)
              ∙ one_base_more base i mutants next.1 next.0 many next.3.goal next.3.tokens;
        }

-- ---- what was written

module _ {S : Type 0} (g : Sink.Ghosts S) (plan : Plan) (list : List (ℕ × List ℕ)) where
  -- The lines of the first bases were written, so many, and counted; there are few negatives in them, and the counters tell of them.
  pub record BasesSoFar (i : ℕ) (counters : Counters) (old now : S) (before after : Counts) : Type 0 where
    pub mutants : List BaseEntry
    pub all : BasesOf plan.yacc.now.grammar (choice_in plan) (lexemes_in plan) [] (take i list) mutants
    pub told : Tells counters (kept_in mutants)
    pub written : IsWritten g (base_entry_lines plan.yacc.now 0 0 mutants) old now
    pub counted : IsCounted (negatives_in mutants) (base_entry_lines plan.yacc.now 0 0 mutants) before after
    pub few : negatives_in mutants ≤ 1100000000 * i

  pub bases_none : (counters : Counters) (counts : Counts) (s : S) → Tells counters [] → BasesSoFar 0 counters s s counts counts
  bases_none counters counts s told = record { mutants = []; all = refl; told = told; written = written_none s; counted = counted_none counts; few = omega arith }

-- memory ran out before the first of them
pub bases_refused : {S : Type 0} {g : Sink.Ghosts S} (plan : Plan) (list : List (ℕ × List ℕ)) (s : S) → HasSomeBases g plan list s s Memory
bases_refused plan list s others are = stopped_by_memory (written_none s) (base_entry_lines plan.yacc.now 0 0 others)

module _ {S : Type 0} {g : Sink.Ghosts S} (plan : Plan) (one : HasOneText (texts_in plan)) (list : List (ℕ × List ℕ)) (i : ℕ) (base : ℕ × List ℕ)
    (within : i < length list) (is : base ≡ get_or list i base) (counters : Counters) (old mid : S) (before counts : Counts) (so_far : BasesSoFar g plan list i counters old mid before counts) where
  abbrev mutants : List BaseEntry
  mutants = so_far.mutants

  abbrev lines : List ℕ
  lines = base_entry_lines (file plan) 0 0 mutants

  many : length mutants ≡ i
  many = bases_length (file plan).grammar (choice_in plan) (lexemes_in plan) [] (take i list) mutants so_far.all ∙ length-take-le i list (omega (arith, within))

  -- memory ran out before the line of the next base
  pub base_memory : HasSomeBases g plan list old mid Memory
  base_memory others are =
      let next = bases_next plan one list i base within is mutants others many so_far.all are in
      let rest = (base_line (i + 1) base.0 ++ negatives_from (file plan) (i + 1) base.1 (negatives_in mutants) next.negatives) ++ next.more in
      subst (λ (l : List ℕ). IsStopped g l old mid Memory) (sym next.lines) (stopped_by_memory so_far.written rest)

  -- the line of the next base was cut short
  pub base_cut : (now : S) → IsCutShort g (base_line (i + 1) base.0) mid now → HasSomeBases g plan list old now Failed
  base_cut now cut others are =
      let next = bases_next plan one list i base within is mutants others many so_far.all are in
      let stopped = stopped_longer next.more (stopped_longer (negatives_from (file plan) (i + 1) base.1 (negatives_in mutants) next.negatives) (stopped_by_cut cut)) in
      subst (λ (l : List ℕ). IsStopped g l old now Failed) (sym next.lines) (stopped_behind so_far.written stopped)

  -- the writing of its negatives stopped
  pub base_stops : (begun now : S) (halt : Halt) → IsWritten g (base_line (i + 1) base.0) mid begun
      → ((negatives : List NegativeEntry) → AreNegativesOf (file plan).grammar (choice_in plan) (lexemes_in plan) (kept_in mutants) base.1 negatives
      → IsStopped g (negatives_from (file plan) (i + 1) base.1 (negatives_in mutants) negatives) begun now halt)
      → HasSomeBases g plan list old now halt
  base_stops begun now halt first stops others are =
      let next = bases_next plan one list i base within is mutants others many so_far.all are in
      let stopped = stopped_longer next.more (stopped_behind first (stops next.negatives next.of)) in
      subst (λ (l : List ℕ). IsStopped g l old now halt) (sym next.lines) (stopped_behind so_far.written stopped)

  -- all its negatives were written
  pub bases_more : (then_counters : Counters) (begun now : S) (mid_counts after : Counts) (negatives : List NegativeEntry) → IsWritten g (base_line (i + 1) base.0) mid begun
      → IsCounted 0 (base_line (i + 1) base.0) counts mid_counts
      → AreNegativesOf (file plan).grammar (choice_in plan) (lexemes_in plan) (kept_in mutants) base.1 negatives
      → Tells then_counters (kept_in mutants ++ negatives_of negatives)
      → IsWritten g (negatives_from (file plan) (i + 1) base.1 (negatives_in mutants) negatives) begun now
      → IsCounted (length negatives) (negatives_from (file plan) (i + 1) base.1 (negatives_in mutants) negatives) mid_counts after
      → length negatives ≤ 1100000000 → BasesSoFar g plan list (i + 1) then_counters old now before after
  bases_more then_counters begun now mid_counts after negatives first counted_first of told second counted_second few =
      let entry : BaseEntry = record { goal = base.0; tokens = base.1; negatives = negatives } in
      let here = base_line (i + 1) base.0 in
      let behind = negatives_from (file plan) (i + 1) base.1 (negatives_in mutants) negatives in
      let taken : take (i + 1) list ≡ take i list ++ base ∷ [] = take_more list i base within ∙ ap (λ (b : ℕ × List ℕ). take i list ++ b ∷ []) (sym is) in
      let whole : base_entry_lines (file plan) 0 0 (mutants ++ entry ∷ []) ≡ lines ++ (here ++ behind) =
      one_base_more plan base i mutants [] entry many refl refl ∙ ap (λ (l : List ℕ). lines ++ l) (append-nil (here ++ behind)) in
      let all : negatives_in (mutants ++ entry ∷ []) ≡ negatives_in mutants + (0 + length negatives) =
      sum_by-append (λ (b : BaseEntry). length b.negatives) mutants (entry ∷ []) ∙ omega (arith, sum_by-cons (λ (b : BaseEntry). length b.negatives) entry []) in
      let counted = counted_then (negatives_in mutants) (0 + length negatives) lines (here ++ behind) before counts after so_far.counted
      (counted_then 0 (length negatives) here behind counts mid_counts after counted_first counted_second) in
      record {
        mutants = mutants ++ entry ∷ [];
        all = subst (λ (l : List (ℕ × List ℕ)). Of plan [] l (mutants ++ entry ∷ [])) (sym taken)
            (bases_both (file plan).grammar (choice_in plan) (lexemes_in plan) [] (take i list) (base ∷ []) mutants (entry ∷ []) so_far.all
            (entry, [], refl, record { goal = refl; tokens = refl; negatives = of }, refl));
        told = subst (λ (l : List Negative). Tells then_counters l)
            (sym (kept_in_both mutants (entry ∷ []) ∙ ap (λ (l : List Negative). kept_in mutants ++ l) (append-nil (negatives_of negatives)))) told;
        written = subst (λ (l : List ℕ). IsWritten g l old now) (sym whole) (written_then so_far.written (written_then first second));
        counted = subst (λ (l : List ℕ). IsCounted (negatives_in (mutants ++ entry ∷ [])) l before after) (sym whole)
            (subst (λ (n : ℕ). IsCounted n (lines ++ (here ++ behind)) before after) (sym all) counted);
        few = omega (arith, few, so_far.few, all);
      }

-- all bases were written
pub bases_all : {S : Type 0} {g : Sink.Ghosts S} (plan : Plan) (list : List (ℕ × List ℕ)) (i : ℕ) (counters : Counters) (old now : S) (before after : Counts) → length list ≤ i → BasesSoFar g plan list i counters old now before after
    → HasBases g plan list old now before after
bases_all plan list i counters old now before after last so_far = record {
  mutants = so_far.mutants;
  all = subst (λ (l : List (ℕ × List ℕ)). Of plan [] l so_far.mutants) (take_all i list last) so_far.all;
  written = so_far.written;
  counted = so_far.counted;
}

-- whichever the negatives are, they were counted
pub bases_counted : {S : Type 0} {g : Sink.Ghosts S} {old new : S} (plan : Plan) (one : HasOneText (texts_in plan)) (bases : PlainBases) (before after : Progress)
    → HasBases g plan bases.list old new before.counts after.counts → CountsBases plan bases before after
bases_counted plan one bases before after has mutants are =
    subst (λ (ms : List BaseEntry). IsCounted (negatives_in ms) (base_entry_lines plan.yacc.now 0 0 ms) before.counts after.counts)
    (one_list_of_bases (choice_in plan) one (lexemes_in plan) plan.yacc.now.grammar [] bases.list has.mutants mutants has.all are) has.counted

-- ---- where nothing is mutated

-- at most so many bases, by what is mutated
abbrev most_by : Option Means → ℕ
most_by means = if has_operator (option_map_or (λ m. m.mutation.operators) means no_operator) then option_map_or (λ m. m.mutation.most) means 0 else 0

nothing_is : (means : Option Means) → ((m : Means) → means ≡ Some m → ⊥) → most_by means ≡ 0
nothing_is None none = refl
nothing_is (Some m) none = absurd (none m refl)

-- there are no bases
pub without_bases : {S : Type 0} {g : Sink.Ghosts S} (plan : Plan) (bases : PlainBases) (s : S) → ((m : Means) → means_in plan.form ≡ Some m → ⊥) → length bases.list ≤ most_bases (choice_in plan) → HasText g (IsBasesText plan bases) s s
without_bases plan bases s none few =
    let most : most_bases (choice_in plan) ≡ 0 = nothing_is (means_in plan.form) none in
    let empty = nothing_in bases.list (omega (arith, few, most)) in
    record {
      text = [];
      is = record { mutants = []; all = subst (λ (l : List (ℕ × List ℕ)). Of plan [] l []) (sym empty) refl; lines = refl };
      written = written_none s;
    }
