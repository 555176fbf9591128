-- Blocks of code, and tails of definitions.
use Rattle.std.proofs.Common.{◌≡◌, ℕ, zero, suc, ◌+◌, ◌<◌, ◌≤◌, true, false, eqb, List, [], length, drop, sym, ap, ◌∙◌, ◌⊎◌, inl, inr, arith}
use Rattle.std.proofs.lemmas.Bool.{false≢true}
use Rattle.std.proofs.lemmas.List.{drop_all}
use Rattle.cs_ctext.specs.Comments.{IsComment}
use Rattle.cs_bytes.specs.Places.{line_size}
use Rattle.cs_lex.specs.Layout.Forms.{closes_block, IsCodeBlock, IsCommentTail}

pub no_block : (text : List ℕ) (end : ℕ) → length text ≤ end → ((k : ℕ) → k < end → closes_block (drop k text) ≡ false) → (n : ℕ) → ¬ IsCodeBlock text n
no_block text end le none n b = by_order (lt-or-le b.inside end)
  where
    lt-or-le : (a c : ℕ) → (a < c) ⊎ (c ≤ a)
    lt-or-le a zero = inr (omega arith)
    lt-or-le zero (suc c) = inl (omega arith)
    lt-or-le (suc a) (suc c) = up (lt-or-le a c)
      where
        up : (a < c) ⊎ (c ≤ a) → (suc a < suc c) ⊎ (suc c ≤ suc a)
        up (inl h) = inl (omega arith)
        up (inr h) = inr (omega arith)

    by_order : (b.inside < end) ⊎ (end ≤ b.inside) → ⊥
    by_order (inl lt) = false≢true (sym (none b.inside lt) ∙ b.closed)
    by_order (inr ge) = let gone : drop b.inside text ≡ [] = drop_all b.inside text (omega arith) in false≢true (ap closes_block (sym gone) ∙ b.closed)

pub block_is : (text rest : List ℕ) (index size : ℕ) → closes_block (drop index text) ≡ true → ((k : ℕ) → k < index → closes_block (drop k text) ≡ false) → rest ≡ drop (index + 1) text → size ≡ line_size rest → IsCodeBlock text (index + 1 + size)
block_is text rest index size e first is s = record { inside = index; closed = e; first = first; ends = ap (λ (k : ℕ). index + 1 + k) (s ∙ ap line_size is) }

pub no_tail : (line : List ℕ) → eqb (length line) 0 ≡ false → ((n : ℕ) → ¬ IsComment line n) → ¬ IsCommentTail line
no_tail line some none (inl e) = false≢true (sym some ∙ ap (λ (t : List ℕ). eqb (length t) 0) e)
no_tail line some none (inr h) = none h.0 h.1
