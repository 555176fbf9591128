-- What is known of the head, with one line more.
use Rattle.std.proofs.Common.{◌≡◌, ℕ, List, [], ◌∷◌, ◌++◌, Option, Some, None, length, refl, sym, ap, ◌∙◌, subst, arith}
use Rattle.std.specs.Prelude.{false, IfNone, slice_get}
use Rattle.std.specs.Global.{Vec}
use Rattle.std.proofs.lemmas.List.{length_push}
use Rattle.cs_choices.specs.declared.weigh.Weigh.{Weigh}
use Rattle.cs_yacc.specs.Reading.File.{File}
use Rattle.cs_lines.specs.Lines.Line.{SetKind, Productive, Reachable, Empty, RowKind, First, Last, Next, Line, Opening, Weighing, TokenLine, RuleLine, LexemeLine}
use Rattle.cs_check.specs.Passing.Above.{weigh_in, lexeme_in, is_set, set_in, row_in}
use Rattle.cs_check.specs.Passing.Head.{Due, TheWeighing, TheLexeme, whole_head}
use Rattle.cs_check.specs.Passing.Places.{IsInHead}
use Rattle.cs_check.specs.declared.checking.head.Head.{Head}
use Rattle.cs_check.specs.Checking.Head.{KnowsHead, IsUnclaimed, AreWholeIn, TellsMeasure, counted, number_by, IsNextIn, state_of}
use Rattle.cs_closed.specs.Closed.Sets.{PlainSets}
use Rattle.cs_check.specs.Checking.Claims.{AreWholeSets}
use Rattle.cs_check.specs.Checking.Excluded.{AreSetsIn}
use Rattle.cs_check.proofs.OnChecking.HeadPlaces.{place_more, next_here}
use Rattle.cs_check.proofs.OnChecking.HeadMeasure.{measure_kept, measure_told, measure_added}
use Rattle.cs_check.proofs.OnChecking.HeadSets.{ClaimsNone, sets_kept, still_unclaimed}

-- ---- lines that claim nothing

pub none_of : (k l : Line) → l ≡ k → is_set k ≡ false → ((kind : SetKind) → set_in kind k ≡ None) → ((kind : RowKind) → row_in kind k ≡ None) → ClaimsNone l
none_of k l e a b c = record { no_set = ap is_set e ∙ a; sets = λ kind. ap (set_in kind) e ∙ b kind; rows = λ kind. ap (row_in kind) e ∙ c kind }

pub no_set_in : (l : Line) → set_in Productive l ≡ None → set_in Reachable l ≡ None → set_in Empty l ≡ None → (kind : SetKind) → set_in kind l ≡ None
no_set_in l a b c Productive = a
no_set_in l a b c Reachable = b
no_set_in l a b c Empty = c

pub no_row_in : (l : Line) → row_in First l ≡ None → row_in Last l ≡ None → row_in Next l ≡ None → (kind : RowKind) → row_in kind l ≡ None
no_row_in l a b c First = a
no_row_in l a b c Last = b
no_row_in l a b c Next = c

opening_none : (l : Line) → l ≡ Opening → ClaimsNone l
opening_none l e = none_of Opening l e refl (no_set_in Opening refl refl refl) (no_row_in Opening refl refl refl)

weighing_none : (l : Line) (w : Weigh) → l ≡ Weighing w → ClaimsNone l
weighing_none l w e = none_of (Weighing w) l e refl (no_set_in (Weighing w) refl refl refl) (no_row_in (Weighing w) refl refl refl)

token_none : (l : Line) (t : ℕ) (name : List ℕ) → l ≡ TokenLine t name → ClaimsNone l
token_none l t name e =
    let k = TokenLine t name in none_of k l e refl (no_set_in k refl refl refl) (no_row_in k refl refl refl)

rule_none : (l : Line) (r : ℕ) (left : List ℕ) (right : List (List ℕ)) → l ≡ RuleLine r left right → ClaimsNone l
rule_none l r left right e =
    let k = RuleLine r left right in none_of k l e refl (no_set_in k refl refl refl) (no_row_in k refl refl refl)

lexeme_none : (l : Line) (name : List ℕ) (text : Option (List ℕ)) → l ≡ LexemeLine name text → ClaimsNone l
lexeme_none l name text e =
    let k = LexemeLine name text in none_of k l e refl (no_set_in k refl refl refl) (no_row_in k refl refl refl)

-- ---- what is known with the line

module _ (file : File) (above : List Line) (h : Head) (knows : KnowsHead file above h) (l : Line) (i : IsInHead file.grammar above l) where
  pub due_is : (d : Due) → slice_get (whole_head file.grammar) (length above) ≡ Some d → i.due ≡ d
  due_is d e = let both : Some i.due ≡ Some d = sym i.is_due ∙ e in cc

  -- where its sets and numbers are told
  pub knows_more : (new : Head) → new.above ≡ h.above → AreSetsIn file (above ++ l ∷ []) new.sets → IfNone new.sets (IsUnclaimed (above ++ l ∷ [])) → AreWholeIn file.grammar new.sets → TellsMeasure (above ++ l ∷ []) new.weigh new.numbers.items → KnowsHead file (above ++ l ∷ []) (counted new)
  knows_more new same sets unclaimed whole measure =
      let long = length_push above l in
      let many = knows.many in record {
        many = omega arith;
        place = place_more file.grammar above l i knows.place;
        sets = sets;
        unclaimed = unclaimed;
        whole = whole;
        measure = measure;
      }

  -- a line that says nothing but what is the file's
  plain : ClaimsNone l → weigh_in l ≡ None → lexeme_in l ≡ None → KnowsHead file (above ++ l ∷ []) (counted h)
  plain none e f =
      knows_more h refl (sets_kept above l none file h.sets knows.sets) (still_unclaimed above l none h.sets knows.unclaimed) knows.whole
      (measure_kept above h.weigh h.numbers.items knows.measure l e f)

  pub opening_known : l ≡ Opening → KnowsHead file (above ++ l ∷ []) (counted h)
  opening_known e = plain (opening_none l e) (ap weigh_in e) (ap lexeme_in e)

  pub token_known : (t : ℕ) (name : List ℕ) → l ≡ TokenLine t name → KnowsHead file (above ++ l ∷ []) (counted h)
  token_known t name e = plain (token_none l t name e) (ap weigh_in e) (ap lexeme_in e)

  pub rule_known : (r : ℕ) (left : List ℕ) (right : List (List ℕ)) → l ≡ RuleLine r left right → KnowsHead file (above ++ l ∷ []) (counted h)
  rule_known r left right e = plain (rule_none l r left right e) (ap weigh_in e) (ap lexeme_in e)

  pub weighing_known : i.due ≡ TheWeighing → (w : Weigh) → l ≡ Weighing w → KnowsHead file (above ++ l ∷ []) (counted (record h { weigh = w }))
  weighing_known due w e =
      let none = weighing_none l w e in
      let first = subst (λ (d : Due). IsNextIn (state_of above) d) due (next_here file.grammar above l i knows.place) in
      knows_more (record h { weigh = w }) refl (sets_kept above l none file h.sets knows.sets) (still_unclaimed above l none h.sets knows.unclaimed) knows.whole
      (measure_told above h.weigh h.numbers.items knows.measure l w e first)

  pub lexeme_known : (t : ℕ) → i.due ≡ TheLexeme t → (name : List ℕ) (text : Option (List ℕ)) → l ≡ LexemeLine name text → (new : Vec ℕ) → new.items ≡ h.numbers.items ++ number_by h.weigh text ∷ [] → KnowsHead file (above ++ l ∷ []) (counted (record h { numbers = new }))
  lexeme_known t due name text e new is =
      let none = lexeme_none l name text e in
      let behind = subst (λ (d : Due). IsNextIn (state_of above) d) due (next_here file.grammar above l i knows.place) in
      knows_more (record h { numbers = new }) refl (sets_kept above l none file h.sets knows.sets) (still_unclaimed above l none h.sets knows.unclaimed) knows.whole
      (subst (λ (ns : List ℕ). TellsMeasure (above ++ l ∷ []) h.weigh ns) (sym is) (measure_added above h.weigh h.numbers.items knows.measure l name text e behind))

  -- a closed line, with the sets that it leaves
  pub claim_known : (s : PlainSets) → AreSetsIn file (above ++ l ∷ []) (Some s) → AreWholeSets file.grammar s → weigh_in l ≡ None → lexeme_in l ≡ None → KnowsHead file (above ++ l ∷ []) (counted (record h { sets = Some s }))
  claim_known s sets whole e f =
      knows_more (record h { sets = Some s }) refl sets tt whole (measure_kept above h.weigh h.numbers.items knows.measure l e f)
