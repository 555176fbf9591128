-- The edit fits the last base or doesn't, and in its result the marks are kept apart or aren't.
use Rattle.std.proofs.Common.{ℕ, List, Bool, sym, ◌∙◌, subst, arith}
use Rattle.std.proofs.lemmas.Bool.{false≢true}
use Rattle.cs_grammar.specs.Sentence.{framed}
use Rattle.cs_lines.specs.Words.Edits.{IsEdited}
use Rattle.cs_check.specs.Passing.Above.{base_in, edit_in}
use Rattle.cs_check.specs.Passing.Entries.{IsKeptApart}
use Rattle.cs_check.specs.Checking.Edits.{IsEditedIf}
use Rattle.cs_check.proofs.OnChecking.Told.{few_told}
use Rattle.cs_check.proofs.OnChecking.Negatives.{base_known, negative_taken, unfit, together}
use Rattle.cs_check.proofs.checking.entries.Entries.take_negative.Goals as goal

pub returns-then-not-branch : goal.returns-then-not-branch
returns-then-not-branch c = λ lines n base edit at t sets follows few read_base told_edit read_at.
    let file = c.args.file.now in
    let e = c.args.self.now in
    let told = few_told base_in lines in
    let bases = t.bases in
    let same = c.if-told-self.false in
    let tokens = c.edit_into.new.edited.items in
    let edited = subst (λ (w : List ℕ). IsEditedIf c.in_ok-edit_into.field-0 file w edit tokens) c.deref.ensures.value (c.in_ok-edit_into.ensures edit told_edit) in
    let never = subst (λ (b : Bool). IsEditedIf b file e.base.items edit tokens) c.if-not-branch.true edited in (
      omega arith,
      λ h. unfit file lines e t few follows (c.one_tree.ensures file.grammar) edit tokens never h.0 h.1 h.2,
    )

pub returns-then-not-is_kept_apart : goal.returns-then-not-is_kept_apart
returns-then-not-is_kept_apart c = λ lines n base edit at t sets follows few read_base told_edit read_at.
    let file = c.args.file.now in
    let e = c.args.self.now in
    let told = few_told base_in lines in
    let bases = t.bases in
    let same = c.if-told-self.false in
    let known = base_known file lines e t few follows in
    let tokens = c.edit_into.new.edited.items in
    let left = c.args.told.left.now in
    let right = c.args.told.right.now in
    let edited_if = subst (λ (w : List ℕ). IsEditedIf c.in_ok-edit_into.field-0 file w edit tokens) c.deref.ensures.value (c.in_ok-edit_into.ensures edit told_edit) in
    let edited : IsEdited file e.base.items edit tokens = subst (λ (b : Bool). IsEditedIf b file e.base.items edit tokens) c.if-not-branch.false edited_if in
    let apart : IsKeptApart file lines (framed tokens) at left right → ⊥ = λ h.
    false≢true (sym c.if-not-is_kept_apart.true ∙ (c.is_kept_apart.ensures lines at sets read_at).1
    (subst (λ (l : List ℕ). IsKeptApart file lines (framed l) at left right) (sym c.deref-2.ensures.value) h)) in (
      omega arith,
      (e.base.items, known, (tokens, edited)),
      λ h. together file lines e t few follows (c.one_tree.ensures file.grammar) edit tokens edited at left right apart h.0 h.1 h.2,
    )

pub returns : goal.returns
returns c = λ lines n base edit at t sets follows few read_base told_edit read_at.
    let file = c.args.file.now in
    let e = c.args.self.now in
    let told = few_told base_in lines in
    let bases = t.bases in
    let same = c.if-told-self.false in
    let more = few_told edit_in lines in
    let count = t.counts.negatives in
    let known = base_known file lines e t few follows in
    let tokens = c.edit_into.new.edited in
    let edited_if = subst (λ (w : List ℕ). IsEditedIf c.in_ok-edit_into.field-0 file w edit tokens.items) c.deref.ensures.value (c.in_ok-edit_into.ensures edit told_edit) in
    let edited : IsEdited file e.base.items edit tokens.items = subst (λ (b : Bool). IsEditedIf b file e.base.items edit tokens.items) c.if-not-branch.false edited_if in
    let apart = subst (λ (l : List ℕ). IsKeptApart file lines (framed l) at c.args.told.left.now c.args.told.right.now) c.deref-2.ensures.value
    ((c.is_kept_apart.ensures lines at sets read_at).0 c.if-not-is_kept_apart.false) in (
      omega arith,
      (e.base.items, known, (tokens.items, edited)),
      (tokens.items, (e.base.items, known, edited), apart),
      negative_taken file lines e t few follows n base at c.more-self.result edit c.args.told.left.now c.args.told.right.now tokens edited (c.more-self.ensures (omega arith)),
    )
