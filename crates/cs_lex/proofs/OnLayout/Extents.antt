-- Extents have one end.
use Rattle.std.proofs.Common.{◌≡◌, ◌≢◌, ℕ, ◌+◌, ◌≤◌, Bool, true, false, eqb, List, [], ◌∷◌, drop, Some, None, refl, sym, ap, subst, ◌∙◌, ◌⊎◌, inl, inr, arith, IsTrue}
use Rattle.std.specs.List.{prefix_len}
use Rattle.std.proofs.lemmas.Bool.{false≢true, eqb-true}
use Rattle.std.proofs.lemmas.Bool.Decides.{nat_tests}
use Rattle.cs_ctext.specs.Comments.{OpensComment}
use Rattle.cs_ctext.specs.Blocks.{IsPart, comment, quoted, other, IsBlock}
use Rattle.cs_ctext.specs.Quotes.{IsQuoted}
use Rattle.cs_bytes.specs.Places.{begins_with}
use Rattle.cs_ctext.specs.Scans.{part_size}
use Rattle.cs_ctext.proofs.BlockSteps.{same_block}
use Rattle.cs_ctext.proofs.PartSizes.{part_size-part, part-not_special, part_size-open, opens-slash, opens-comment}
use Rattle.cs_lex.specs.declared.layout.unit.UnitKind.{UnitKind}
use Rattle.cs_lex.specs.declared.layout.unit.UnitKind.TheVariants.{Escape, Quoted, Bracket, Plain, Nothing}
use Rattle.cs_bytes.specs.Places.{front_or_end}
use Rattle.cs_bytes.specs.Classes.{is_space, is_newline, is_dashed_word_byte}
use Rattle.cs_lex.specs.Layout.Patterns.{IsQuotedText, IsBracket, unit_kind, ClosedOrLine, UnitOf, IsUnit, IsPattern}
use Rattle.cs_lex.specs.Layout.Runs.{ends_part, IsPiece, part, block, IsOpen, open_comment, open_brace, IsCodeRun, IsOpenRun}
use Rattle.cs_lex.specs.Layout.Forms.{blanks, IsTail, IsNoDefinition}
use Rattle.cs_lex.proofs.OnLayout.Walks.{AreUnique, StopsBefore, covers_same, covers_apart}
use Rattle.cs_lex.proofs.OnLayout.Units.{quoted_same, bracket_same}

-- ---- patterns

closed_same : (Closed : List ℕ → ℕ → Type 0) → ((text : List ℕ) (n m : ℕ) → Closed text n → Closed text m → n ≡ m) → (text : List ℕ) (n m : ℕ) → ClosedOrLine Closed text n → ClosedOrLine Closed text m → n ≡ m
closed_same Closed same text n m (inl x) (inl y) = same text n m x y
closed_same Closed same text n m (inl x) (inr y) = absurd (y.0 n x)
closed_same Closed same text n m (inr x) (inl y) = absurd (x.0 m y)
closed_same Closed same text n m (inr x) (inr y) = x.1 ∙ sym y.1

unit_of_same : (k : UnitKind) (text : List ℕ) (n m : ℕ) → UnitOf k text n → UnitOf k text m → n ≡ m
unit_of_same Escape text n m x y = x ∙ sym y
unit_of_same Quoted text n m x y = closed_same IsQuotedText quoted_same text n m x y
unit_of_same Bracket text n m x y = closed_same IsBracket bracket_same text n m x y
unit_of_same Plain text n m x y = x ∙ sym y
unit_of_same Nothing text n m x y = absurd x

pub unit_unique : AreUnique IsUnit
unit_unique text n m x y = unit_of_same (unit_kind text) text n m x y

space_kind : (b : ℕ) (text : List ℕ) → is_space b ≡ true → unit_kind (b ∷ text) ≡ Nothing
space_kind b text e =
    let p : eqb b 92 ≡ false = grind (arith, nat_tests) in
    let q : eqb b 34 ≡ false = grind (arith, nat_tests) in
    let r : eqb b 91 ≡ false = grind (arith, nat_tests) in
    rw (p, q, r, e) refl

pub pattern_ends : StopsBefore IsUnit (λ rest. IsTrue (front_or_end is_space rest))
pattern_ends [] n e u = u
pattern_ends (b ∷ text) n e u = subst (λ (k : UnitKind). UnitOf k (b ∷ text) n) (space_kind b text e) u

pub pattern_same : (text : List ℕ) (n m : ℕ) → IsPattern text n → IsPattern text m → n ≡ m
pattern_same = covers_same IsUnit (λ rest. IsTrue (front_or_end is_space rest)) (λ rest. IsTrue (front_or_end is_space rest)) unit_unique pattern_ends pattern_ends

-- ---- runs

ends_plain : (braces : Bool) (b : ℕ) → b ≢ 10 → b ≢ 123 → ends_part braces b ≡ false
ends_plain true b p q = grind (arith, nat_tests)
ends_plain false b p q = grind (arith, nat_tests)

part_front : (braces : Bool) (b : ℕ) (text : List ℕ) (n : ℕ) → IsPart (ends_part braces) (b ∷ text) n → ends_part braces b ≡ false
part_front braces b text n p =
    part-not_special (ends_part braces) (ends_plain braces 47 (omega arith) (omega arith)) (ends_plain braces 34 (omega arith) (omega arith)) (ends_plain braces 39 (omega arith) (omega arith)) b text p

part_no_block : (braces : Bool) (text : List ℕ) (n m : ℕ) → IsTrue braces → IsPart (ends_part braces) text n → IsBlock text m → ⊥
part_no_block braces [] n m t p b = b
part_no_block true (c ∷ text) n m t p b = let is : c ≡ 123 = b.0 in let f : ends_part true 123 ≡ false = subst (λ (k : ℕ). ends_part true k ≡ false) is (part_front true c text n p) in false≢true (sym f)
part_no_block false (c ∷ text) n m t p b = false≢true t

pub piece_unique : (braces : Bool) → AreUnique (IsPiece braces)
piece_unique braces text n m (part p) (part q) =
    let e : part_size text ≡ Some n = part_size-part (ends_part braces) p in
    let f : part_size text ≡ Some m = part_size-part (ends_part braces) q in
    cc
piece_unique braces text n m (part p) (block t b) = absurd (part_no_block braces text n m t p b)
piece_unique braces text n m (block t b) (part q) = absurd (part_no_block braces text m n t q b)
piece_unique braces text n m (block t b) (block u d) = same_block text n m b d

pub nothing_opens : OpensComment [] → ⊥
nothing_opens (inl h) = cc
nothing_opens (inr h) = cc

pub part_of_nothing : {special : ℕ → Bool} {text : List ℕ} {n : ℕ} → IsPart special text n → text ≡ [] → ⊥
part_of_nothing (comment {n = n} h) e = nothing_opens (subst OpensComment e (opens-comment _ n h))
part_of_nothing (quoted {n = n} h) e = subst (λ (t : List ℕ). IsQuoted t n) e h
part_of_nothing (other plain opens closes) e = cc

pub newline_ends : (braces : Bool) → StopsBefore (IsPiece braces) (λ rest. IsTrue (front_or_end is_newline rest))
newline_ends braces [] n e (part p) = part_of_nothing p refl
newline_ends braces [] n e (block t b) = b
newline_ends braces (b ∷ text) n e (part p) = let is : is_newline b ≡ true = e in let f : ends_part braces b ≡ true = rw is refl in false≢true (sym (part_front braces b text n p) ∙ f)
newline_ends braces (b ∷ text) n e (block t d) = let is : b ≡ 10 = eqb-true b 10 e in let f : b ≡ 123 = d.0 in omega arith

block_front : (text : List ℕ) (n : ℕ) → IsBlock text n → OpensComment text → ⊥
block_front [] n b h = b
block_front (c ∷ text) n b h = let is : c ≡ 123 = b.0 in let f : c ≡ 47 = opens-slash c text h in omega arith

brace_part : (braces : Bool) (text : List ℕ) (n : ℕ) → IsTrue braces → begins_with 123 text ≡ true → IsPart (ends_part braces) text n → ⊥
brace_part braces [] n t e p = false≢true e
brace_part false (b ∷ text) n t e p = false≢true t
brace_part true (b ∷ text) n t e p = let is : b ≡ 123 = eqb-true b 123 e in let f : ends_part true 123 ≡ false = subst (λ (k : ℕ). ends_part true k ≡ false) is (part_front true b text n p) in false≢true (sym f)

pub open_ends : (braces : Bool) → StopsBefore (IsPiece braces) (IsOpen braces)
open_ends braces text n (open_comment h) (part p) =
    let e : part_size text ≡ Some n = part_size-part (ends_part braces) p in
    let f : part_size text ≡ None = part_size-open text h in
    cc
open_ends braces text n (open_comment h) (block t b) = block_front text n b h.0
open_ends braces text n (open_brace t e none) (part p) = brace_part braces text n t e p
open_ends braces text n (open_brace t e none) (block u b) = none n b

newline_no_slash : (text : List ℕ) → front_or_end is_newline text ≡ true → OpensComment text → ⊥
newline_no_slash [] e h = nothing_opens h
newline_no_slash (b ∷ text) e h = let is : b ≡ 10 = eqb-true b 10 e in let f : b ≡ 47 = opens-slash b text h in omega arith

newline_no_brace : (text : List ℕ) → front_or_end is_newline text ≡ true → begins_with 123 text ≡ true → ⊥
newline_no_brace [] e h = false≢true h
newline_no_brace (b ∷ text) e h = let is : b ≡ 10 = eqb-true b 10 e in let f : b ≡ 123 = eqb-true b 123 h in omega arith

closed_apart : (braces : Bool) (text : List ℕ) → IsTrue (front_or_end is_newline text) → IsOpen braces text → ⊥
closed_apart braces text e (open_comment h) = newline_no_slash text e h.0
closed_apart braces text e (open_brace t b none) = newline_no_brace text e b

pub run_same : (braces : Bool) (text : List ℕ) (n m : ℕ) → IsCodeRun braces text n → IsCodeRun braces text m → n ≡ m
run_same braces = covers_same (IsPiece braces) (λ rest. IsTrue (front_or_end is_newline rest)) (λ rest. IsTrue (front_or_end is_newline rest)) (piece_unique braces) (newline_ends braces) (newline_ends braces)

pub open_run_same : (braces : Bool) (text : List ℕ) (n m : ℕ) → IsOpenRun braces text n → IsOpenRun braces text m → n ≡ m
open_run_same braces = covers_same (IsPiece braces) (IsOpen braces) (IsOpen braces) (piece_unique braces) (open_ends braces) (open_ends braces)

pub run_not_open : (braces : Bool) (text : List ℕ) (n m : ℕ) → IsCodeRun braces text n → IsOpenRun braces text m → ⊥
run_not_open braces = covers_apart (IsPiece braces) (λ rest. IsTrue (front_or_end is_newline rest)) (IsOpen braces) (piece_unique braces) (newline_ends braces) (open_ends braces) (closed_apart braces)

-- ---- definitions

module _ (text behind rest : List ℕ) (name_to k n : ℕ) (name : name_to ≡ prefix_len is_dashed_word_byte text) (is_behind : behind ≡ drop name_to text) (blank : k ≡ blanks behind)
    (is_rest : rest ≡ drop (name_to + k) text) (extent : IsPattern rest n)
    (why : (name_to + k ≤ name_to) ⊎ ((name_to + k + n ≤ name_to + k) ⊎ (¬ IsTail (drop (name_to + k + n) text)))) where
  pub no_definition : IsNoDefinition text
  no_definition a b c d =
      let p : a ≡ name_to = d.name ∙ sym name in
      let q : b ≡ name_to + k = d.blank ∙ (ap (λ (x : ℕ). x + blanks (drop x text)) p ∙ ap (λ (x : ℕ). name_to + x) (ap blanks (sym is_behind) ∙ sym blank)) in
      let size : d.extent.0 ≡ n = pattern_same rest d.extent.0 n (subst (λ (t : List ℕ). IsPattern t d.extent.0) (ap (λ (x : ℕ). drop x text) q ∙ sym is_rest) d.extent.1) extent in
      let r : c ≡ name_to + k + n = omega (arith, d.extent.2, q, size) in
      by_case why p q r
    where
      by_case : (name_to + k ≤ name_to) ⊎ ((name_to + k + n ≤ name_to + k) ⊎ (¬ IsTail (drop (name_to + k + n) text))) → a ≡ name_to → b ≡ name_to + k → c ≡ name_to + k + n → ⊥
      by_case (inl le) p q r = omega (arith, d.some_blank)
      by_case (inr (inl le)) p q r = omega (arith, d.some)
      by_case (inr (inr stays)) p q r = stays (subst (λ (x : ℕ). IsTail (drop x text)) r d.tail)

pub no_tail_there : (line rest : List ℕ) (to : ℕ) → rest ≡ drop to line → ¬ IsTail rest → ¬ IsTail (drop to line)
no_tail_there line rest to e none = subst (λ (t : List ℕ). ¬ IsTail t) e none
