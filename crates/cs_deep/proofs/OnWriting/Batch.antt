-- A batch of candidates that is judged: that it can be, and that its entries can be counted and put.
use Rattle.std.proofs.Common.{◌≡◌, ◌≤◌, ◌<◌, ℕ, ◌+◌, Bool, true, false, List, [], ◌∷◌, ◌++◌, length, length-append, sym, ap, ◌∙◌, subst, arith, Some, Option}
use Rattle.std.specs.Prelude.{All, if◌then◌else◌}
use Rattle.std.specs.List.{AllZip}
use Rattle.std.proofs.lemmas.List.Elements.{All-cons, All-head, All-nil, All-tail}
use Rattle.cs_deep.proofs.OnWriting.Counting.{within_counted}
use Rattle.cs_deep.proofs.OnWriting.Zips.{zip_of}
use Rattle.cs_manifest.proofs.OnManifest.Zips.{length_zip}
use Rattle.cs_deep.specs.Edits.Candidates.{IsCandidate, edits_in}
use Rattle.cs_deep.specs.Edits.Classes.{is_outside}
use Rattle.cs_deep.specs.Writing.Deep.{EditEntry, IsEditOf}
use Rattle.cs_deep.specs.Writing.Judging.{CanJudge, Judges}
use Rattle.cs_deep.specs.Writing.Lines.{CanCount, IsNamedEntry}
use Rattle.cs_deep.specs.Writing.Progress.{AreEditsBy, HasFew, edits_by}
use Rattle.cs_deep.specs.Writing.Tally.{IsCounted}
use Rattle.cs_deep.specs.declared.edits.candidates.Candidate.{Candidate}
use Rattle.cs_deep.specs.declared.writing.judging.DeepWork.{DeepWork}
use Rattle.cs_deep.specs.declared.writing.tally.Tally.{Tally}
use Rattle.cs_deep.specs.declared.writing.writing.Deep.{Deep}
use Rattle.cs_grammar.specs.Grammar.{IsNumberOf, PlainGrammar}
use Rattle.cs_io.specs.Faults.{greatest}
use Rattle.cs_manifest.specs.Manifest.ByWork.{texts_of}
use Rattle.cs_manifest.specs.Manifest.Manifest.{Texts}
use Rattle.cs_manifest.specs.Manifest.Named.{IsNamedEdit}
use Rattle.cs_manifest.specs.Output.Names.{AreNamedTokens, IsNamedToken}
use Rattle.cs_mutate.proofs.Searching.{edited_tokens}
use Rattle.cs_mutate.specs.Edit.{Fits, HasToken, edited}
use Rattle.cs_choices.specs.declared.operators.Operators.{Operators}
use Rattle.cs_mutate.specs.Edits.{edits}
use Rattle.cs_mutate.specs.Negatives.{Search, search_of}
use Rattle.cs_texts.specs.declared.rendering.render_work.RenderWork.{RenderWork}
use Rattle.std.proofs.lemmas.List.{length-map}
use Rattle.cs_mutate.specs.declared.edit.Edit.{Edit}
use Rattle.cs_mutate.specs.declared.edit.Edit.TheVariants.{Delete, Insert, Replace, Swap}
use Rattle.cs_manifest.proofs.OnManifest.Rendered.{named_if}
use Rattle.cs_yacc.specs.Reading.File.{File, IsFile}

-- what holds of each, of another kind
each_of : {A : Type 0} (P Q : A → Type 0) → ((x : A) → P x → Q x) → (xs : List A) → All P xs → All Q xs
each_of P Q from [] each = All-nil Q
each_of P Q from (x ∷ xs) each = All-cons Q x xs (from x (All-head P x xs each)) (each_of P Q from xs (All-tail P x xs each))

-- candidates of a base can be judged
pub can_judge : (work : DeepWork) → length work.base.now ≤ 1000000 → All (IsNumberOf work.recognizer.now.tokens) work.base.now → length work.render.now.lexemes.now ≡ work.recognizer.now.tokens
    → (batch : List Candidate) → All (IsCandidate work.recognizer.now work.base.now) batch → All (CanJudge work) batch
can_judge work short tokens lexemes batch each =
    each_of (IsCandidate work.recognizer.now work.base.now) (CanJudge work)
    (λ c is. record { candidate = is; short = short; tokens = tokens; lexemes = lexemes }) batch each

-- the entry of an edit of a base has names
module _ (file : File) (is : IsFile file) (texts : Option Texts) (lexemes : Option (List (Option (List ℕ)))) (base : List ℕ) (tokens : All (IsNumberOf file.grammar.tokens) base) where
  named_edit : (e : Edit) → HasToken file.grammar.tokens e → IsNamedEdit file e
  named_edit (Delete i) has = tt
  named_edit (Insert i t) has = subst (λ (n : ℕ). IsNumberOf n t) (sym is.tokens) has
  named_edit (Replace i t) has = subst (λ (n : ℕ). IsNumberOf n t) (sym is.tokens) has
  named_edit (Swap i) has = tt

  named_list : (so : Bool) (list : List ℕ) → AreNamedTokens file list → AreNamedTokens file (if so then list else [])
  named_list true list named = named
  named_list false list named = All-nil (IsNamedToken file)

  pub named_entry : (edit : Edit) (entry : EditEntry) → Fits (length base) file.grammar.tokens edit → IsEditOf file.grammar texts lexemes base edit entry → IsNamedEntry file entry
  named_entry edit entry fits of =
      let list = edited base edit in
      let named : AreNamedTokens file list = subst (λ (n : ℕ). All (IsNumberOf n) list) (sym is.tokens) (edited_tokens file.grammar.tokens base tokens edit fits) in
      record {
        edit = subst (IsNamedEdit file) (sym of.is_of) (named_edit edit fits.1);
        tokens = subst (AreNamedTokens file) (sym of.tokens) (named_list (is_outside entry.class) list named);
        text = named_if file list named texts lexemes (is_outside entry.class) entry.rendered of.text;
      }

  pub named_entries : (list : List Edit) (entries : List EditEntry) → All (Fits (length base) file.grammar.tokens) list → AllZip (IsEditOf file.grammar texts lexemes base) list entries
      → All (IsNamedEntry file) entries
  named_entries [] [] fits zip = All-nil (IsNamedEntry file)
  named_entries [] (u ∷ us) fits zip = absurd zip
  named_entries (e ∷ es) [] fits zip = absurd zip
  named_entries (e ∷ es) (u ∷ us) fits zip =
      let F = Fits (length base) file.grammar.tokens in
      All-cons (IsNamedEntry file) u us (named_entry e u (All-head F e es fits) zip.0) (named_entries es us (All-tail F e es fits) zip.1)

-- the edits of candidates fit
pub fit_all : (many tokens : ℕ) (batch : List Candidate) → All (λ (c : Candidate). Fits many tokens c.edit) batch → All (Fits many tokens) (edits_in batch)
fit_all many tokens [] each = All-nil (Fits many tokens)
fit_all many tokens (c ∷ batch) each =
    let P = λ (x : Candidate). Fits many tokens x.edit in
    All-cons (Fits many tokens) c.edit (edits_in batch) (All-head P c batch each) (fit_all many tokens batch (All-tail P c batch each))

-- the entries of a batch can be counted behind those before them
pub can_count : (d : Deep) (base : List ℕ) (before tally : Tally) (done more rest : List Edit) (entries judged : List EditEntry) → HasFew d base before
    → edits_by d base ≡ done ++ (more ++ rest) → AreEditsBy d base done entries → AreEditsBy d base more judged → IsCounted entries before tally → CanCount tally judged
can_count d base before tally done more rest entries judged few split are also counted =
    let R = IsEditOf d.yacc.now.grammar (Some (texts_of d.means.work.now)) (Some d.means.work.now.lexemes.now) base in
    let all = ap (λ (l : List Edit). length l) split in
    let total : before.edits + length (edits_by d base) ≤ greatest = few.few in
    record {
      within = within_counted entries before tally few.within counted;
      few = omega (arith, counted.edits, all, total, length-append done (more ++ rest), length-append more rest, length_zip R done entries are, length_zip R more judged also);
    }

-- what was judged of candidates are the entries of their edits
pub entries_of : (d : Deep) (work : DeepWork) (base : List ℕ) → work.recognizer.now ≡ d.yacc.now.grammar → work.render.now ≡ d.means.work.now → work.base.now ≡ base
    → (batch : List Candidate) (judged : List EditEntry) → AllZip (λ (c : Candidate) (j : EditEntry). Judges work c.edit j) batch judged → AreEditsBy d base (edits_in batch) judged
entries_of d work base grammar render base_is batch judged zip =
    let own = zip_of (λ (c : Candidate). c.edit) (Judges work) batch judged zip in
    let list = edits_in batch in
    let P = λ (g : PlainGrammar) (r : RenderWork) (w : List ℕ). AllZip (IsEditOf g (Some (texts_of r)) (Some r.lexemes.now) w) list judged in
    subst (λ (w : List ℕ). P d.yacc.now.grammar d.means.work.now w) base_is
    (subst (λ (r : RenderWork). P d.yacc.now.grammar r work.base.now) render (subst (λ (g : PlainGrammar). P g work.render.now work.base.now) grammar own))

-- the edits of a search
pub searched_edits : (s : Search) (g h : PlainGrammar) (base : List ℕ) (c : Operators) → s ≡ search_of g base c → g ≡ h → s.edits ≡ edits h.tokens base c
searched_edits s g h base c is same = ap (λ (x : Search). x.edits) is ∙ ap (λ (k : PlainGrammar). edits k.tokens base c) same

-- candidates that were taken of a search over the grammar
pub taken_each : (g h : PlainGrammar) (base w : List ℕ) (batch : List Candidate) → g ≡ h → base ≡ w → All (IsCandidate g base) batch → All (IsCandidate h w) batch
taken_each g h base w batch same base_is each =
    subst (λ (l : List ℕ). All (IsCandidate h l) batch) base_is (subst (λ (k : PlainGrammar). All (IsCandidate k base) batch) same each)

-- their edits fit
pub fit_each : (g : PlainGrammar) (base : List ℕ) (batch : List Candidate) → All (IsCandidate g base) batch → All (Fits (length base) g.tokens) (edits_in batch)
fit_each g base batch each =
    fit_all (length base) g.tokens batch (each_of (IsCandidate g base) (λ (c : Candidate). Fits (length base) g.tokens c.edit) (λ c is. is.fits) batch each)

-- some were taken, so that fewer are left
pub fewer_left : (old : List Edit) (batch : List Candidate) (new : List Edit) → old ≡ edits_in batch ++ new → 0 < length batch → length new < length old
fewer_left old batch new split some =
    omega (arith, ap (λ (l : List Edit). length l) split, length-append (edits_in batch) new, length-map batch (λ (c : Candidate). c.edit), some)
