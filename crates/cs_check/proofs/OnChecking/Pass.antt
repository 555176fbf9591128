-- The pass over the lines of a manifest.
use Rattle.std.proofs.Common.{◌≡◌, ℕ, ◌+◌, ◌<◌, ◌≤◌, List, [], ◌∷◌, ◌++◌, Option, Some, None, map, take, drop, length, refl, sym, ◌∙◌, subst, ⊎_elim, arith}
use Rattle.std.proofs.lemmas.List.{map_push, length-map, length-drop}
use Rattle.cs_bytes.specs.Places.{line_size}
use Rattle.cs_lines.proofs.OnPieces.{line_in_front}
use Rattle.cs_check.specs.declared.checking.pass.Outcome.{Outcome}
use Rattle.cs_check.specs.declared.checking.pass.Outcome.TheVariants.{Yes, No}
use Rattle.cs_lines.specs.Lines.Line.{Line}
use Rattle.cs_lines.specs.Lines.Texts.{Says}
use Rattle.cs_lines.specs.Lines.Pieces.{lines_of}
use Rattle.cs_check.specs.declared.passing.fault.ClaimFault.{ClaimFault}
use Rattle.cs_check.specs.declared.passing.fault.ClaimFault.TheVariants.{Form}
use Rattle.cs_check.specs.declared.checking.above.Above.{Above}
use Rattle.cs_check.specs.Passing.First.{IsLowest}
use Rattle.cs_check.specs.Passing.Places.{OfEnd}
use Rattle.cs_check.specs.Passing.Faults.{Checked, AreSaid, HasFault}
use Rattle.cs_check.specs.Passing.Passing.{number, Passes, Fails}
use Rattle.cs_check.specs.Passing.Manifest.{HaveAll}
use Rattle.cs_check.specs.Passing.Claims.{Claims}
use Rattle.cs_check.specs.Passing.Outcomes.{HasCounts, HasClaims, IsOutcome}
use Rattle.cs_check.specs.Checking.Head.{HasWholeSets}
use Rattle.cs_check.specs.Checking.Judging.{IsWrong}
use Rattle.cs_check.specs.Checking.Running.{KnowsAbove, IsPieceJudged, IsEndAnswer}
use Rattle.cs_check.proofs.OnChecking.Judging.{said_push, right_faultless, wrong_lowest, unsaid_lowest, end_faultless, end_lowest}
use Rattle.cs_check.proofs.OnPassing.Lines.{right_none, right_more, unsaid}
use Rattle.cs_check.proofs.OnPassing.Claiming.{lines_true}
use Rattle.cs_check.proofs.OnChecking.Reading.{Read, IsLine, read_none, read_more, fault_here, clean_at_end, fault_at_end, all_lines}

-- so many lines are read, up to an offset, and this is known of them
pub record IsRead (c : Checked) (text : List ℕ) (from many : ℕ) (a : Above) : Type 0 where
  pub read : Read (HasFault c) text from many
  pub lines : List Line
  pub said : AreSaid (map Some read.lines) lines
  pub right : HaveAll c lines
  pub knows : KnowsAbove c.file lines a

-- up to the line of this number, which is the next
pub record IsPassed (c : Checked) (text : List ℕ) (from next : ℕ) (a : Above) : Type 0 where
  pub many : ℕ
  pub is_next : next ≡ many + 1
  pub low : next ≤ from + 1
  pub within : from ≤ length text
  pub read : IsRead c text from many a
  pub whole : HasWholeSets c.file.grammar a.head

same_many : (texts : List (Option (List ℕ))) (lines : List Line) → AreSaid texts lines → length texts ≡ length lines
same_many [] [] h = refl
same_many [] (l ∷ lines) h = absurd h
same_many (t ∷ texts) [] h = absurd h
same_many (t ∷ texts) (l ∷ lines) h = let more = same_many texts lines h.1 in omega arith

module _ (c : Checked) (text : List ℕ) where
  pub begun : (a : Above) → KnowsAbove c.file [] a → IsRead c text 0 0 a
  begun a knows = record { read = read_none (HasFault c) text; lines = []; said = tt; right = right_none c; knows = knows }

  module _ (from many : ℕ) (a : Above) (h : IsRead c text from many a) where
    pub many_lines : length h.lines ≡ many
    many_lines = sym (same_many (map Some h.read.lines) h.lines h.said) ∙ length-map h.read.lines Some ∙ h.read.many

    pub few_lines : many ≤ from
    few_lines = h.read.few

    module _ (size : ℕ) (is : IsLine (drop from text) size) (new : Above) where
      -- with a line that is right
      pub line_read : IsPieceJudged c h.lines (take size (drop from text)) new None → IsRead c text (from + size) (many + 1) new
      line_read j =
          let piece = take size (drop from text) in
          let faultless = right_faultless c (map Some h.read.lines) h.lines h.said piece j.0 j.1 j.2 in
          record {
            read = read_more (HasFault c) text from many h.read size is faultless;
            lines = h.lines ++ j.0 ∷ [];
            said =
                subst (λ (t : List (Option (List ℕ))). AreSaid t (h.lines ++ j.0 ∷ [])) (sym (map_push Some h.read.lines piece))
                (said_push (map Some h.read.lines) h.lines piece j.0 h.said j.1);
            right = right_more c h.lines j.0 h.right j.2;
            knows = j.3;
          }

      lowest : (f : ClaimFault) → IsPieceJudged c h.lines (take size (drop from text)) new (Some f) → IsLowest (HasFault c) number (map Some h.read.lines) (Some (take size (drop from text))) f
      lowest f j =
          let piece = take size (drop from text) in
          ⊎_elim
          (λ (said : (l : Line) × Says piece l × IsWrong c h.lines l f).
          wrong_lowest c (map Some h.read.lines) h.lines h.said piece said.0 said.1 f said.2)
          (λ (none : (f ≡ Form) × ((l : Line) → Says piece l → ⊥)).
          subst (λ (g : ClaimFault). IsLowest (HasFault c) number (map Some h.read.lines) (Some piece) g) (sym none.0)
          (unsaid_lowest c (map Some h.read.lines) h.lines h.said piece none.1))
          j

      -- or with one that isn't
      pub line_fails : (f : ClaimFault) → IsPieceJudged c h.lines (take size (drop from text)) new (Some f) → Fails c text (many + 1) f
      line_fails f j = fault_here (HasFault c) text from many h.read size is number f (lowest f j)

    -- the end of the text
    module _ (past : length text ≤ from) where
      pub end_fails : (a.part ≡ OfEnd → ⊥) → Fails c text (many + 1) Form
      end_fails other =
          fault_at_end (HasFault c) text from many h.read past number Form
          (end_lowest c (map Some h.read.lines) h.lines h.said (λ is. other (h.knows.part ∙ is)))

      pub end_passes : a.part ≡ OfEnd → Passes c text
      end_passes is =
          clean_at_end (HasFault c) text from many h.read past
          (end_faultless c (map Some h.read.lines) h.lines h.said (sym h.knows.part ∙ is))

      pub end_claims : a.part ≡ OfEnd → Claims c text
      end_claims is =
          let said =
          subst (λ (t : List (List ℕ)). AreSaid (map Some t) h.lines) (sym (all_lines (HasFault c) text from many h.read past)) h.said in
          (h.lines, unsaid (lines_of text) h.lines said, lines_true c h.lines (record { each = h.right; ended = sym h.knows.part ∙ is }))

      pub end_counts : HasCounts text a.entries.counts.goals a.entries.counts.negatives
      end_counts = record {
        lines = h.lines;
        said =
            subst (λ (t : List (List ℕ)). AreSaid (map Some t) h.lines) (sym (all_lines (HasFault c) text from many h.read past)) h.said;
        are_goals = h.knows.entries.counts.goals;
        are_negatives = h.knows.entries.counts.negatives;
      }

-- ---- the loop

-- the line in front
pub line_here : (text : List ℕ) (from : ℕ) → from < length text → IsLine (drop from text) (line_size (drop from text))
line_here text from low =
    let rest = drop from text in
    let long = length-drop from text in
    let some : 0 < length rest = omega arith in
    record { line = line_in_front rest some; above_zero = omega arith; within = omega arith }

module _ (c : Checked) (text : List ℕ) (short : length text ≤ 67108864) (from next : ℕ) (a : Above) (h : IsPassed c text from next a) where
  module _ (low : from < length text) where
    few_above : length h.read.lines + 1 < 4294967296
    few_above =
        let many = many_lines c text from h.many a h.read in
        let is = h.is_next in
        let few = h.low in
        omega arith

    module _ (size : ℕ) (is_size : size ≡ line_size (drop from text)) (bytes : List ℕ) (is_bytes : bytes ≡ drop from text) (new : Above) (told : Option ClaimFault)
        (judged : (lines : List Line) → KnowsAbove c.file lines a → length lines + 1 < 4294967296 → IsPieceJudged c lines (take size bytes) new told) where
      front : IsLine (drop from text) size
      front = subst (λ (n : ℕ). IsLine (drop from text) n) (sym is_size) (line_here text from low)

      judged_here : (f : Option ClaimFault) → told ≡ f → IsPieceJudged c h.read.lines (take size (drop from text)) new f
      judged_here f is =
          subst (λ (g : Option ClaimFault). IsPieceJudged c h.read.lines (take size (drop from text)) new g) is
          (subst (λ (b : List ℕ). IsPieceJudged c h.read.lines (take size b) new told) is_bytes (judged h.read.lines h.read.knows few_above))

      pub passed_more : told ≡ None → HasWholeSets c.file.grammar new.head → IsPassed c text (from + size) (next + 1) new
      passed_more is whole = record {
        many = h.many + 1;
        is_next = (let is = h.is_next in omega arith);
        low = (let few = h.low in let some = front.above_zero in omega arith);
        within = (let most = front.within in let long = length-drop from text in omega arith);
        read = line_read c text from h.many a h.read size front new (judged_here None is);
        whole = whole;
      }

      pub passed_fails : (f : ClaimFault) → told ≡ Some f → Fails c text next f
      passed_fails f is =
          subst (λ (n : ℕ). Fails c text n f) (sym h.is_next) (line_fails c text from h.many a h.read size front new f (judged_here (Some f) is))

  pub passed_end : length text ≤ from → (o : Outcome) → IsEndAnswer a next o → IsOutcome c text o
  passed_end past (Yes goals negatives) e = (
    end_passes c text from h.many a h.read past e.0,
    subst (λ (n : ℕ). HasCounts text n negatives) (sym e.1)
        (subst (λ (n : ℕ). HasCounts text a.entries.counts.goals n) (sym e.2) (end_counts c text from h.many a h.read past)),
  )
  passed_end past (No line fault) e =
      subst (λ (n : ℕ). Fails c text n fault) (sym h.is_next ∙ sym e.1)
      (subst (λ (f : ClaimFault). Fails c text (h.many + 1) f) (sym e.2) (end_fails c text from h.many a h.read past e.0))

  pub passed_claims : length text ≤ from → (o : Outcome) → IsEndAnswer a next o → HasClaims c text o
  passed_claims past (Yes goals negatives) e = end_claims c text from h.many a h.read past e.0
  passed_claims past (No line fault) e = tt

pub passed_none : (c : Checked) (text : List ℕ) (a : Above) → KnowsAbove c.file [] a → HasWholeSets c.file.grammar a.head → IsPassed c text 0 1 a
passed_none c text a knows whole = record {
  many = 0;
  is_next = refl;
  low = omega arith;
  within = omega arith;
  read = begun c text a knows;
  whole = whole;
}
