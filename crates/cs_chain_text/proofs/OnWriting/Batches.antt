-- Chains that were written one batch after another, and where that stopped.
use Rattle.std.proofs.Common.{◌≡◌, ◌≤◌, ◌<◌, ℕ, ◌+◌, List, [], ◌∷◌, ◌++◌, append_assoc, get_or, length, length-append, refl, sym, ap, ◌∙◌, subst, arith, Option, None}
use Rattle.std.specs.Prelude.{All}
use Rattle.std.specs.List.{AllZip, Contains}
use Rattle.std.proofs.lemmas.List.Elements.{Contains-append_left, Contains-append_right, Contains-get_or}
use Rattle.std.specs.Borrow.{Bor}
use Rattle.cs_grammar.specs.Grammar.{PlainGrammar}
use Rattle.cs_grammar.specs.Weights.{Weighed}
use Rattle.cs_texts.specs.declared.rendering.render_work.RenderWork.{RenderWork}
use Rattle.cs_chain_text.specs.declared.entries.entry.TellWork.{TellWork}
use Rattle.cs_goals.specs.Goals.{HasExactly}
use Rattle.cs_chain.specs.Chains.Chain.{IsChain}
use Rattle.std.proofs.lemmas.List.{append-nil}
use Rattle.cs_io.proofs.Stops.{stopped_behind, stopped_by_cut, stopped_by_memory, stopped_longer}
use Rattle.cs_io.specs.Lines.{IsCutShort, IsWritten}
use Rattle.cs_io.specs.Stops.{HasSomeText, HasText, IsStopped}
use Rattle.cs_io.specs.declared.halt.Halt.{Halt}
use Rattle.cs_io.specs.declared.halt.Halt.TheVariants.{Failed, Memory}
use Rattle.cs_io.specs.declared.sink.Sink as Sink
use Rattle.cs_manifest.proofs.OnOutput.Written.{written_none, written_then}
use Rattle.cs_manifest.specs.Manifest.Manifest.{HasOneText, Texts}
use Rattle.cs_chain.specs.declared.chains.chain.Chain.{Chain}
use Rattle.cs_chain.specs.Chains.Chains.{chains}
use Rattle.cs_chain_text.specs.declared.entries.tally.Tally.{Tally}
use Rattle.cs_chain_text.specs.declared.writing.writing.Chained.{Chained}
use Rattle.cs_chain_text.specs.Entries.Text.{ChainEntry, IsEntryOf}
use Rattle.cs_chain_text.specs.Progress.{AreEntries, CanCount, CountsAll, IsBodyText, IsCounted, IsToldBy, IsWorkOf, StopsBatch, lexemes_by, lines_from, no_chains, texts_by, told_in, weighed_in}
use Rattle.cs_chain_text.specs.declared.rows.rows.Row.{Row}
use Rattle.cs_chain_text.specs.Rows.Rows.{AreRowsOf, Told, row_entries}
use Rattle.cs_chain_text.proofs.OnRows.Rows.{rows_are}
use Rattle.cs_chain_text.proofs.OnEntries.Counting.{counted_none, counted_then, can_behind, lines_both}
use Rattle.cs_chain_text.proofs.OnWriting.OneText.{one_list}
use Rattle.cs_manifest.proofs.OnManifest.Zips.{length_zip, zip_both, zip_split}

module _ {S : Type 0} (g : Sink.Ghosts S) (d : Chained) (old : S) where
  -- The first chains were written and counted, and these are left.
  pub record GoalsSoFar (left : List Chain) (now : S) (tally : Tally) : Type 0 where
    pub done : List Chain
    pub entries : List ChainEntry
    pub split : chains d.yacc.now.grammar ≡ done ++ left
    pub are : AreEntries d done entries
    pub written : IsWritten g (lines_from d.yacc.now 0 entries) old now
    pub counted : IsCounted entries no_chains tally

  pub goals_none : (left : List Chain) (tally : Tally) → left ≡ chains d.yacc.now.grammar → tally ≡ no_chains → GoalsSoFar left old tally
  goals_none left tally all none =
      record { done = []; entries = []; split = sym all; are = tt; written = written_none old; counted = subst (λ (t : Tally). IsCounted [] no_chains t) (sym none) (counted_none no_chains) }

  -- how many were counted
  many_done : (left : List Chain) (now : S) (tally : Tally) → (far : GoalsSoFar left now tally) → tally.goals ≡ 0 + length far.entries
  many_done left now tally far = far.counted.goals

  -- the others can be counted
  pub goals_count : (more rest : List Chain) (now : S) (tally : Tally) → length (chains d.yacc.now.grammar) ≤ 1000000 → (far : GoalsSoFar (more ++ rest) now tally) → CanCount tally (length more)
  goals_count more rest now tally few far =
      let zipped = length_zip (IsEntryOf (weighed_in d) (texts_by d.work) (lexemes_by d.work)) far.done far.entries far.are in
      let whole = ap (λ (l : List Chain). length l) far.split in
      let start : CanCount no_chains (length far.entries + length more) = record {
        feasible = omega arith;
        infeasible = omega arith;
        large = omega arith;
        few = omega (arith, few, whole, zipped, length-append far.done (more ++ rest), length-append more rest);
      } in
      can_behind far.entries (length more) no_chains tally start far.counted

  -- what follows the first chains in a text
  pub record HasRest (left : List Chain) (entries : List ChainEntry) (text : List ℕ) : Type 0 where
    pub others : List ChainEntry
    pub are : AreEntries d left others
    pub whole : text ≡ lines_from d.yacc.now 0 entries ++ lines_from d.yacc.now (0 + length entries) others

  module _ (one : (texts : Option Texts) → HasOneText texts) where
    same_entries : (list : List Chain) (a b : List ChainEntry) → AreEntries d list a → AreEntries d list b → a ≡ b
    same_entries list a b ha hb = one_list (texts_by d.work) (one (texts_by d.work)) (lexemes_by d.work) (weighed_in d) list a b ha hb

    rest_of : (left : List Chain) (now : S) (tally : Tally) (far : GoalsSoFar left now tally) (text : List ℕ) → IsBodyText d text → HasRest left far.entries text
    rest_of left now tally far text is =
        let parts = zip_split (IsEntryOf (weighed_in d) (texts_by d.work) (lexemes_by d.work)) far.done left is.entries (subst (λ (l : List Chain). AreEntries d l is.entries) far.split is.are) in
        let same : parts.front ≡ far.entries = same_entries far.done parts.front far.entries parts.first far.are in
        let whole : is.entries ≡ far.entries ++ parts.behind = parts.whole ∙ ap (λ (l : List ChainEntry). l ++ parts.behind) same in
        record {
          others = parts.behind;
          are = parts.second;
          whole = is.lines ∙ ap (λ (l : List ChainEntry). lines_from d.yacc.now 0 l) whole ∙ lines_both d.yacc.now 0 far.entries parts.behind;
        }

    -- memory ran out behind them
    pub goals_memory : (left : List Chain) (now : S) (tally : Tally) → GoalsSoFar left now tally → HasSomeText g (IsBodyText d) old now Memory
    goals_memory left now tally far text is =
        let rest = rest_of left now tally far text is in
        subst (λ (l : List ℕ). IsStopped g l old now Memory) (sym rest.whole) (stopped_by_memory far.written (lines_from d.yacc.now (0 + length far.entries) rest.others))

    -- some more were written and counted
    pub goals_more : (left more rest : List Chain) (mid now : S) (tally after : Tally) (told : List ChainEntry) → (far : GoalsSoFar left mid tally) → left ≡ more ++ rest → AreEntries d more told
        → IsWritten g (lines_from d.yacc.now tally.goals told) mid now → IsCounted told tally after → GoalsSoFar rest now after
    goals_more left more rest mid now tally after told far split are written counted =
        let behind = subst (λ (n : ℕ). IsWritten g (lines_from d.yacc.now n told) mid now) (many_done left mid tally far) written in
        record {
          done = far.done ++ more;
          entries = far.entries ++ told;
          split = far.split ∙ ap (λ (l : List Chain). far.done ++ l) split ∙ sym (append_assoc far.done more rest);
          are = zip_both (IsEntryOf (weighed_in d) (texts_by d.work) (lexemes_by d.work)) far.done more far.entries told far.are are;
          written = subst (λ (l : List ℕ). IsWritten g l old now) (sym (lines_both d.yacc.now 0 far.entries told)) (written_then far.written behind);
          counted = counted_then far.entries told no_chains tally after far.counted counted;
        }

    -- the writing of some more was cut short
    pub goals_cut : (left more rest : List Chain) (mid now : S) (tally : Tally) (told : List ChainEntry) → (far : GoalsSoFar left mid tally) → left ≡ more ++ rest → AreEntries d more told
        → IsCutShort g (lines_from d.yacc.now tally.goals told) mid now → HasSomeText g (IsBodyText d) old now Failed
    goals_cut left more rest mid now tally told far split are cut text is =
        let follows = rest_of left mid tally far text is in
        let at = 0 + length far.entries in
        let cut_behind = subst (λ (n : ℕ). IsCutShort g (lines_from d.yacc.now n told) mid now) (many_done left mid tally far) cut in
        let parts = zip_split (IsEntryOf (weighed_in d) (texts_by d.work) (lexemes_by d.work)) more rest follows.others (subst (λ (l : List Chain). AreEntries d l follows.others) split follows.are) in
        let same : parts.front ≡ told = same_entries more parts.front told parts.first are in
        let others : follows.others ≡ told ++ parts.behind = parts.whole ∙ ap (λ (l : List ChainEntry). l ++ parts.behind) same in
        let stopped = subst (λ (l : List ℕ). IsStopped g l mid now Failed)
        (sym (ap (λ (l : List ChainEntry). lines_from d.yacc.now at l) others ∙ lines_both d.yacc.now at told parts.behind))
        (stopped_longer (lines_from d.yacc.now (at + length told) parts.behind) (stopped_by_cut cut_behind)) in
        subst (λ (l : List ℕ). IsStopped g l old now Failed) (sym follows.whole) (stopped_behind far.written stopped)

    -- memory ran out before some more were written, or their writing was cut short
    pub goals_halted : (left more rest : List Chain) (mid now : S) (tally after : Tally) (halt : Halt) → GoalsSoFar left mid tally → left ≡ more ++ rest → StopsBatch g d more tally after mid now halt → HasSomeText g (IsBodyText d) old now halt
    goals_halted left more rest mid now tally after Memory far split stops = subst (λ (s : S). HasSomeText g (IsBodyText d) old s Memory) (sym stops) (goals_memory left mid tally far)
    goals_halted left more rest mid now tally after Failed far split stops = goals_cut left more rest mid now tally stops.entries far split stops.are stops.cut

    -- all were written and counted
    all_done : (left : List Chain) (now : S) (tally : Tally) → (far : GoalsSoFar left now tally) → left ≡ [] → AreEntries d (chains d.yacc.now.grammar) far.entries
    all_done left now tally far none =
        subst (λ (l : List Chain). AreEntries d l far.entries) (sym (far.split ∙ ap (λ (l : List Chain). far.done ++ l) none ∙ append-nil far.done)) far.are

    pub goals_all : (left : List Chain) (now : S) (tally : Tally) → GoalsSoFar left now tally → left ≡ [] → HasText g (IsBodyText d) old now
    goals_all left now tally far none = record {
      text = lines_from d.yacc.now 0 far.entries;
      is = record { entries = far.entries; are = all_done left now tally far none; lines = refl };
      written = far.written;
    }

    pub goals_counted : (left : List Chain) (now : S) (tally : Tally) → GoalsSoFar left now tally → left ≡ [] → CountsAll d tally
    goals_counted left now tally far none entries are =
        subst (λ (l : List ChainEntry). IsCounted l no_chains tally) (same_entries (chains d.yacc.now.grammar) far.entries entries (all_done left now tally far none) are) far.counted

-- the chains of a batch are the grammar's
pub chains_are : (g : PlainGrammar) → HasExactly (chains g) (IsChain g) → (done batch rest : List Chain) → chains g ≡ done ++ (batch ++ rest) → All (IsChain g) batch
chains_are g exact done batch rest split = λ k d within.
    let x = get_or batch k d in
    let here = Contains-append_left batch rest x (Contains-get_or batch k d within) in
    (exact x).0 (subst (λ (l : List Chain). Contains l x) (sym split) (Contains-append_right done (batch ++ rest) x here))

-- what the work tells of chains are their entries
pub told_are : (d : Chained) (tell : TellWork) → IsWorkOf d tell → (batch : List Chain) (entries : List ChainEntry) → AllZip (IsToldBy tell) batch entries → AreEntries d batch entries
told_are d tell is batch entries zip =
    subst (λ (w : Option (Bor RenderWork)). AllZip (IsEntryOf (weighed_in d) (texts_by w) (lexemes_by w)) batch entries) is.work
    (subst (λ (v : Weighed). AllZip (IsEntryOf v (texts_by tell.work) (lexemes_by tell.work)) batch entries) is.embeds zip)

-- a list without members
pub nothing_in : {A : Type 0} (xs : List A) → length xs ≡ 0 → xs ≡ []
nothing_in [] e = refl
nothing_in (x ∷ xs) e = absurd (omega (arith, e))

-- some were taken, so that fewer are left
pub fewer_left : (old batch new : List Chain) → old ≡ batch ++ new → 0 < length batch → length new < length old
fewer_left old batch new split some = omega (arith, ap (λ (l : List Chain). length l) split, length-append batch new, some)

-- rows are the entries of their chains, where no texts are rendered
pub rows_entries : (d : Chained) (batch : List Chain) (rows : List Row) (told : Told) → told ≡ told_in d → d.work ≡ None → All (IsChain d.yacc.now.grammar) batch → AreRowsOf told batch rows → AreEntries d batch (row_entries rows)
rows_entries d batch rows told same none chains are =
    subst (λ (w : Option (Bor RenderWork)). AllZip (IsEntryOf (weighed_in d) (texts_by w) (lexemes_by w)) batch (row_entries rows)) (sym none)
    (rows_are (told_in d) None batch rows chains (subst (λ (t : Told). AreRowsOf t batch rows) same are))
