-- What is judged of candidates are the entries of their slips, and these have names.
use Rattle.std.proofs.Common.{◌≡◌, ℕ, ◌+◌, Bool, true, false, List, [], ◌∷◌, ◌++◌, length, map, refl, sym, ap, ◌∙◌, subst, Option, Some}
use Rattle.std.specs.Prelude.{All, IsTrue}
use Rattle.std.specs.List.{AllZip}
use Rattle.std.proofs.lemmas.Bool.{false≢true}
use Rattle.std.proofs.lemmas.List.Elements.{All-append, All-cons, All-map, All-nil}
use Rattle.cs_grammar.proofs.Measures.{All-at}
use Rattle.cs_grammar.specs.Grammar.{IsNumberOf, PlainGrammar}
use Rattle.cs_grammar.specs.Sentence.{framed}
use Rattle.cs_grammar.specs.Weights.{Weighed}
use Rattle.cs_grammar.specs.declared.symbol.Mark.TheVariants as marks
use Rattle.cs_manifest.specs.Manifest.ByWork.{texts_of}
use Rattle.cs_manifest.proofs.OnManifest.Rendered.{named_if}
use Rattle.cs_manifest.specs.Manifest.Manifest.{IsRenderedIf, Texts}
use Rattle.cs_manifest.specs.Output.Names.{AreNamedTokens, IsNamedMark}
use Rattle.cs_texts.specs.declared.rendering.render_work.RenderWork.{RenderWork}
use Rattle.cs_wrong.specs.Classes.Classes.{IsListClass, IsMet, IsTold, is_wrong}
use Rattle.cs_wrong.specs.Classes.Coming.{IsCandidate, TellsAgain, TellsAt}
use Rattle.cs_wrong.specs.Writing.Entries.{IsNamedClass, IsNamedEntry}
use Rattle.cs_wrong.specs.Slips.Found.{TellsList, tokens_in}
use Rattle.cs_wrong.specs.Writing.Judging.{CanJudge, IsClassBy, IsClassIf, Judges}
use Rattle.cs_wrong.specs.Slips.Lists.{IsListOf}
use Rattle.cs_wrong.specs.Writing.Text.{IsEntryOf, SlipEntry}
use Rattle.cs_wrong.specs.declared.classes.class.SlipClass.{SlipClass}
use Rattle.cs_wrong.specs.declared.classes.class.SlipClass.TheVariants as classes
use Rattle.cs_wrong.specs.declared.classes.coming.Candidate.{Candidate}
use Rattle.cs_wrong.specs.declared.writing.judging.WrongWork.{WrongWork}
use Rattle.cs_wrong.specs.declared.slips.lists.SlipList.{SlipList}
use Rattle.cs_wrong.specs.declared.slips.lists.SlipList.TheVariants.{Nothing, Large, Tokens}
use Rattle.cs_wrong.specs.declared.slips.slip.Slip.{Slip}
use Rattle.cs_yacc.specs.Reading.File.{File, IsFile}

module _ (v : Weighed) (earlier : List Slip) (slip : Slip) where
  -- a list that no earlier slip has
  told_new : (class : SlipClass) (list : List ℕ) → IsListOf v slip list → (IsMet v earlier list → ⊥) → IsListClass v.grammar list class → IsTold v earlier slip class list
  told_new (classes.Pair left right at) list is new c = record { is = is; new = new; class_is = c }
  told_new classes.Long list is new c = record { is = is; new = new; class_is = c }
  told_new classes.Sentence list is new c = record { is = is; new = new; class_is = c }
  told_new classes.Outside list is new c = record { is = is; new = new; class_is = c }
  told_new classes.Nothing list is new c = absurd c
  told_new classes.Large list is new c = absurd c
  told_new classes.Again list is new c = absurd c

  told_if : (again : Bool) (class : SlipClass) (list : List ℕ) → IsListOf v slip list → (IsTrue again → IsMet v earlier list) × (IsMet v earlier list → IsTrue again) → IsClassIf again v.grammar list class → IsTold v earlier slip class list
  told_if true class list is again c = subst (λ (k : SlipClass). IsTold v earlier slip k list) (sym c) (is, again.0 refl)
  told_if false class list is again c = told_new class list is (λ met. false≢true (again.1 met)) c

  -- what is told of a slip by its list
  pub told_by : (found : SlipList) (again : Bool) (class : SlipClass) → TellsList v slip found → TellsAgain v earlier found again → IsClassBy v.grammar found again class → IsTold v earlier slip class (tokens_in found)
  told_by Nothing again class tells met c = subst (λ (k : SlipClass). IsTold v earlier slip k []) (sym c) (tells, refl)
  told_by Large again class tells met c = subst (λ (k : SlipClass). IsTold v earlier slip k []) (sym c) (tells, refl)
  told_by (Tokens list) again class tells met c = told_if again class list.items tells met c

module _ (v : Weighed) (work : WrongWork) (grammar : work.recognizer.now ≡ v.grammar) (r : RenderWork) (render : work.render.now ≡ r) where
  -- the entry of a candidate
  entry_of : (placed : List Slip × Slip) (c : Candidate) (e : SlipEntry) → IsCandidate v placed c → Judges work c e → IsEntryOf v (Some (texts_of r)) (Some r.lexemes.now) placed e
  entry_of placed c e is j =
      let class = subst (λ (g : PlainGrammar). IsClassBy g c.list c.again e.class) grammar j.class in
      record {
        is_of = j.slip ∙ is.slip;
        told = subst (λ (l : List ℕ). IsTold v placed.0 placed.1 e.class l) (sym j.tokens) (told_by v placed.0 placed.1 c.list c.again e.class is.list is.again class);
        text = subst (λ (k : RenderWork). IsRenderedIf (is_wrong e.class) (Some (texts_of k)) (Some k.lexemes.now) e.tokens e.rendered) render j.text;
      }

  pub entries_of : (list : List (List Slip × Slip)) (batch : List Candidate) (judged : List SlipEntry) → AllZip (IsCandidate v) list batch → AllZip (Judges work) batch judged → AllZip (IsEntryOf v (Some (texts_of r)) (Some r.lexemes.now)) list judged
  entries_of [] [] [] a b = tt
  entries_of [] [] (e ∷ es) a b = absurd b
  entries_of [] (c ∷ cs) es a b = absurd a
  entries_of (x ∷ xs) [] es a b = absurd a
  entries_of (x ∷ xs) (c ∷ cs) [] a b = absurd b
  entries_of (x ∷ xs) (c ∷ cs) (e ∷ es) a b = (entry_of x c e a.0 b.0, entries_of xs cs es a.1 b.1)

-- candidates can be judged
pub can_judge : (v : Weighed) (work : WrongWork) → work.recognizer.now ≡ v.grammar → length work.render.now.lexemes.now ≡ v.grammar.tokens
    → (list : List (List Slip × Slip)) (batch : List Candidate) → AllZip (IsCandidate v) list batch → All (CanJudge work) batch
can_judge v work grammar lexemes [] [] zip = All-nil (CanJudge work)
can_judge v work grammar lexemes [] (c ∷ cs) zip = absurd zip
can_judge v work grammar lexemes (x ∷ xs) [] zip = absurd zip
can_judge v work grammar lexemes (x ∷ xs) (c ∷ cs) zip =
    All-cons (CanJudge work) c cs
    (record {
      lexemes = lexemes ∙ ap (λ (g : PlainGrammar). g.tokens) (sym grammar);
      tokens = subst (λ (g : PlainGrammar). All (IsNumberOf g.tokens) (tokens_in c.list)) (sym grammar) zip.0.tokens;
      few = zip.0.few;
      at = subst (λ (g : PlainGrammar). TellsAt g c.list c.at) (sym grammar) zip.0.at;
    })
    (can_judge v work grammar lexemes xs cs zip.1)

-- ---- names

-- the framed list has named marks
module _ (file : File) (tokens : List ℕ) (are : AreNamedTokens file tokens) where
  named_marks : All (IsNamedMark file) (framed tokens)
  named_marks =
      All-cons (IsNamedMark file) marks.Begin (map marks.Token tokens ++ marks.End ∷ []) tt
      (All-append (IsNamedMark file) (map marks.Token tokens) (marks.End ∷ []) (All-map (IsNamedMark file) marks.Token tokens are) (All-cons (IsNamedMark file) marks.End [] tt (All-nil (IsNamedMark file))))

  named_class : (v : Weighed) (earlier : List Slip) (slip : Slip) (class : SlipClass) → IsTold v earlier slip class tokens → IsNamedClass file class
  named_class v earlier slip (classes.Pair left right at) h =
      let first = h.class_is in (
        All-at (IsNamedMark file) (framed tokens) at left named_marks first.pair.left,
        All-at (IsNamedMark file) (framed tokens) (at + 1) right named_marks first.pair.right,
      )
  named_class v earlier slip classes.Nothing h = tt
  named_class v earlier slip classes.Large h = tt
  named_class v earlier slip classes.Again h = tt
  named_class v earlier slip classes.Long h = tt
  named_class v earlier slip classes.Sentence h = tt
  named_class v earlier slip classes.Outside h = tt

module _ (file : File) (is : IsFile file) (v : Weighed) (own : v.grammar ≡ file.grammar) (texts : Option Texts) (lexemes : Option (List (Option (List ℕ)))) where
  named_entry : (placed : List Slip × Slip) (c : Candidate) (e : SlipEntry) → IsCandidate v placed c → e.tokens ≡ tokens_in c.list → IsEntryOf v texts lexemes placed e → IsNamedEntry file e
  named_entry placed c e candidate same of =
      let numbers = subst (λ (g : PlainGrammar). All (IsNumberOf g.tokens) (tokens_in c.list)) own candidate.tokens in
      let tokens : AreNamedTokens file e.tokens = subst (λ (l : List ℕ). AreNamedTokens file l) (sym same) (subst (λ (n : ℕ). All (IsNumberOf n) (tokens_in c.list)) (sym is.tokens) numbers) in
      record {
        class = named_class file e.tokens tokens v placed.0 placed.1 e.class of.told;
        tokens = tokens;
        text = named_if file e.tokens tokens texts lexemes (is_wrong e.class) e.rendered of.text;
      }

  pub named_entries : (work : WrongWork) (list : List (List Slip × Slip)) (batch : List Candidate) (judged : List SlipEntry) → AllZip (IsCandidate v) list batch → AllZip (Judges work) batch judged → AllZip (IsEntryOf v texts lexemes) list judged → All (IsNamedEntry file) judged
  named_entries work [] [] [] a b c = All-nil (IsNamedEntry file)
  named_entries work [] [] (e ∷ es) a b c = absurd b
  named_entries work [] (c ∷ cs) es a b d = absurd a
  named_entries work (x ∷ xs) [] es a b c = absurd a
  named_entries work (x ∷ xs) (c ∷ cs) [] a b d = absurd b
  named_entries work (x ∷ xs) (c ∷ cs) (e ∷ es) a b d = All-cons (IsNamedEntry file) e es (named_entry x c e a.0 b.0.tokens d.0) (named_entries work xs cs es a.1 b.1 d.1)
