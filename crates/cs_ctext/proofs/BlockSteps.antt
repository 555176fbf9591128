-- What a block needs at each place: so many braces are open, and the rest has to close them.
use Rattle.std.proofs.Common.{◌≡◌, ◌≢◌, ℕ, zero, suc, ◌+◌, ◌-◌, ◌<◌, ◌≤◌, true, false, List, [], ◌∷◌, length, get_or, take, drop, Some, None, refl, sym, ap, subst, ◌∙◌, ◌⊎◌, inl, inr, arith, eq-eqb}
use Rattle.std.proofs.lemmas.Bool.{false≢true}
use Rattle.std.proofs.lemmas.List.{drop-drop, drop_more, drop_all, length-drop}
use Rattle.cs_ctext.specs.Marks.{is_brace}
use Rattle.cs_ctext.specs.Blocks.{IsPart, comment, quoted, other, IsBlockRest, closing, part, nested, IsBlock}
use Rattle.cs_ctext.specs.Quotes.{IsQuoted}
use Rattle.cs_ctext.specs.Scans.{part_size}
use Rattle.cs_bytes.proofs.Fronts.{false-eqb}
use Rattle.cs_ctext.proofs.PartSizes.{part_size-part, IsPart-from_size, part-not_special}

-- what the rest of a block is, by what stands in front
abbrev Cases : List ℕ → ℕ → Type 0
Cases text m =
    ((rest : List ℕ) × (text ≡ 125 ∷ rest) × (m ≡ 1))
    ⊎ (((k : ℕ) × (n : ℕ) × IsPart is_brace text k × IsBlockRest (drop k text) n × (m ≡ k + n))
    ⊎ ((rest : List ℕ) × (k : ℕ) × (n : ℕ) × (text ≡ 123 ∷ rest) × IsBlockRest rest k × IsBlockRest (drop k rest) n × (m ≡ suc (k + n))))

cases : {text : List ℕ} {m : ℕ} → IsBlockRest text m → Cases text m
cases (closing {text = text}) = inl (text, refl, refl)
cases (part {k = k} {n = n} p r e) = inr (inl (k, n, p, r, e))
cases (nested {text = text} {k = k} {n = n} inner r e) = inr (inr (text, k, n, refl, inner, r, e))

-- the text closes so many blocks, and has this size
abbrev pub Closes : ℕ → List ℕ → ℕ → Type 0
Closes zero text size = size ≡ 0
Closes (suc depth) text size = (k : ℕ) × (n : ℕ) × IsBlockRest text k × Closes depth (drop k text) n × (size ≡ k + n)

brace_differs : (b : ℕ) (text : List ℕ) (n : ℕ) → is_brace b ≡ true → IsPart is_brace (b ∷ text) n → ⊥
brace_differs b text n brace p = false≢true (sym (part-not_special is_brace refl refl refl b text p) ∙ brace)

-- `{`
pub opens_to : (depth : ℕ) (text : List ℕ) (size : ℕ) → Closes (suc (suc depth)) text size → Closes (suc depth) (123 ∷ text) (suc size)
opens_to depth text size (k, n, inner, (l, m, outer, rest, f), e) =
    (suc (k + l), m, nested inner outer refl, subst (λ t. Closes depth t m) (drop-drop l k text) rest, omega arith)

pub opens_from : (depth : ℕ) (text : List ℕ) (size : ℕ) → Closes (suc depth) (123 ∷ text) size → (n : ℕ) × Closes (suc (suc depth)) text n × (size ≡ suc n)
opens_from depth text size (k, n, block, rest, e) = by_case (cases block)
  where
    by_case : Cases (123 ∷ text) k → (m : ℕ) × Closes (suc (suc depth)) text m × (size ≡ suc m)
    by_case (inl (r, f, g)) = absurd (false≢true (eq-eqb 123 125 (ap (λ t. get_or t 0 0) f)))
    by_case (inr (inl (i, j, p, r, g))) = absurd (brace_differs 123 text i refl p)
    by_case (inr (inr (r, i, j, f, inner, outer, g))) =
        let same : text ≡ r = cc in
        (i + (j + n), (i, j + n, subst (λ t. IsBlockRest t i) (sym same) inner, (j, n, subst (λ t. IsBlockRest (drop i t) j) (sym same) outer, subst (λ t. Closes depth t n) (ap (λ s. drop s (123 ∷ text)) g ∙ sym (drop-drop j i text)) rest, refl), refl), omega arith)

-- `}`
pub closes_to : (depth : ℕ) (text : List ℕ) (size : ℕ) → Closes depth text size → Closes (suc depth) (125 ∷ text) (suc size)
closes_to depth text size h = (1, size, closing, h, omega arith)

pub closes_from : (depth : ℕ) (text : List ℕ) (size : ℕ) → Closes (suc depth) (125 ∷ text) size → (n : ℕ) × Closes depth text n × (size ≡ suc n)
closes_from depth text size (k, n, block, rest, e) = by_case (cases block)
  where
    by_case : Cases (125 ∷ text) k → (m : ℕ) × Closes depth text m × (size ≡ suc m)
    by_case (inl (r, f, g)) = (n, subst (λ t. Closes depth t n) (ap (λ s. drop s (125 ∷ text)) g) rest, omega arith)
    by_case (inr (inl (i, j, p, r, g))) = absurd (brace_differs 125 text i refl p)
    by_case (inr (inr (r, i, j, f, inner, outer, g))) = absurd (false≢true (eq-eqb 125 123 (ap (λ t. get_or t 0 0) f)))

-- a part
pub part_to : (depth : ℕ) (text : List ℕ) (k size : ℕ) → IsPart is_brace text k → Closes (suc depth) (drop k text) size → Closes (suc depth) text (k + size)
part_to depth text k size p (m, n, block, rest, e) =
    (k + m, n, part p block refl, subst (λ t. Closes depth t n) (drop-drop m k text) rest, omega arith)

pub part_from : (depth : ℕ) (text : List ℕ) (k size : ℕ) → IsPart is_brace text k → Closes (suc depth) text size → (n : ℕ) × Closes (suc depth) (drop k text) n × (size ≡ k + n)
part_from depth text k size p (m, n, block, rest, e) = by_case (cases block)
  where
    by_case : Cases text m → (l : ℕ) × Closes (suc depth) (drop k text) l × (size ≡ k + l)
    by_case (inl (r, f, g)) = absurd (brace_differs 125 r k refl (subst (λ t. IsPart is_brace t k) f p))
    by_case (inr (inl (i, j, q, r, g))) =
        let found : part_size text ≡ Some k = part_size-part is_brace p in
        let again : part_size text ≡ Some i = part_size-part is_brace q in
        let same : i ≡ k = cc in
        (j + n, (j, n, subst (λ s. IsBlockRest (drop s text) j) same r, subst (λ t. Closes depth t n) (ap (λ s. drop s text) (g ∙ ap (λ s. s + j) same) ∙ sym (drop-drop j k text)) rest, refl), omega arith)
    by_case (inr (inr (r, i, j, f, inner, outer, g))) = absurd (brace_differs 123 r k refl (subst (λ t. IsPart is_brace t k) f p))

-- nothing closes where an open comment stands, or at the end
pub open_from : (depth : ℕ) (b : ℕ) (text : List ℕ) (size : ℕ) → is_brace b ≡ false → part_size (b ∷ text) ≡ None → Closes (suc depth) (b ∷ text) size → ⊥
open_from depth b text size plain stuck (k, n, block, rest, e) = by_case (cases block)
  where
    by_case : Cases (b ∷ text) k → ⊥
    by_case (inl (r, f, g)) = let is : b ≡ 125 = cc in false≢true (sym plain ∙ ap is_brace is)
    by_case (inr (inl (i, j, p, r, g))) = let found : part_size (b ∷ text) ≡ Some i = part_size-part is_brace p in cc
    by_case (inr (inr (r, i, j, f, inner, outer, g))) = let is : b ≡ 123 = cc in false≢true (sym plain ∙ ap is_brace is)

nothing_opens : {b : ℕ} {text : List ℕ} → [] ≡ b ∷ text → ⊥
nothing_opens e = cc

part_of_nothing : {text : List ℕ} {n : ℕ} → IsPart is_brace text n → text ≡ [] → ⊥
part_of_nothing (comment (inl h)) e = nothing_opens (ap (take 2) (sym e) ∙ h.opened)
part_of_nothing (comment (inr h)) e = nothing_opens (ap (take 2) (sym e) ∙ h.opened)
part_of_nothing (quoted {n = n} h) e = subst (λ t. IsQuoted t n) e h
part_of_nothing (other plain opens closes) e = cc

pub end_from : (depth size : ℕ) → Closes (suc depth) [] size → ⊥
end_from depth size (k, n, block, rest, e) = by_case (cases block)
  where
    by_case : Cases [] k → ⊥
    by_case (inl (r, f, g)) = cc
    by_case (inr (inl (i, j, p, r, g))) = part_of_nothing p refl
    by_case (inr (inr (r, i, j, f, inner, outer, g))) = cc

-- The block that begins at `at` is read up to `from`, and so many braces are open there: what closes them ends the block.
pub record BlockGoes (bytes : List ℕ) (at from depth : ℕ) : Type 0 where
  pub beyond : at < from
  pub within : from ≤ length bytes
  pub some_open : 0 < depth
  pub few : depth ≤ from - at
  pub ends : (size : ℕ) → Closes depth (drop from bytes) size → IsBlock (drop at bytes) ((from - at) + size)
  pub only : (all : ℕ) → IsBlock (drop at bytes) all → (size : ℕ) × Closes depth (drop from bytes) size × (all ≡ (from - at) + size)

front : (bytes : List ℕ) (at b : ℕ) → at < length bytes → b ≡ get_or bytes at 0 → drop at bytes ≡ b ∷ drop (at + 1) bytes
front bytes at b lt e = drop_more bytes at 0 lt ∙ ap (λ x. x ∷ drop (at + 1) bytes) (sym e)

pub goes-opened : (bytes : List ℕ) (at : ℕ) → at < length bytes → 123 ≡ get_or bytes at 0 → BlockGoes bytes at (at + 1) 1
goes-opened bytes at lt brace =
    let text : drop at bytes ≡ 123 ∷ drop (at + 1) bytes = front bytes at 123 lt brace in
    let one : (at + 1) - at ≡ 1 = omega arith in
    record {
      beyond = omega arith;
      within = omega arith;
      some_open = omega arith;
      few = omega arith;
      ends = λ size (k, n, block, rest, e). rw (text, one) (refl, k, block, omega arith);
      only = λ all h. let g : IsBlock (123 ∷ drop (at + 1) bytes) all = subst (λ t. IsBlock t all) text h in
          (g.1, (g.1, 0, g.2, refl, omega arith), omega (arith, g.3));
    }

pub goes-deeper : (bytes : List ℕ) (at from depth : ℕ) → from < length bytes → 123 ≡ get_or bytes from 0 → BlockGoes bytes at from depth → BlockGoes bytes at (from + 1) (depth + 1)
goes-deeper bytes at from zero lt brace h = absurd (omega (arith, h.some_open))
goes-deeper bytes at from (suc depth) lt brace h =
    let text : drop from bytes ≡ 123 ∷ drop (from + 1) bytes = front bytes from 123 lt brace in
    let more : suc depth + 1 ≡ suc (suc depth) = omega arith in
    rw more (record {
      beyond = omega (arith, h.beyond);
      within = omega arith;
      some_open = omega arith;
      few = omega (arith, h.few, h.beyond);
      ends = λ size c. let g = h.ends (suc size) (subst (λ t. Closes (suc depth) t (suc size)) (sym text) (opens_to depth (drop (from + 1) bytes) size c)) in
          subst (λ n. IsBlock (drop at bytes) n) (omega (arith, h.beyond)) g;
      only = λ all b. let g = h.only all b in
          let f = opens_from depth (drop (from + 1) bytes) g.0 (subst (λ t. Closes (suc depth) t g.0) text g.1) in
          (f.0, f.1, omega (arith, g.2, f.2, h.beyond));
    })

pub goes-back : (bytes : List ℕ) (at from depth : ℕ) → from < length bytes → 125 ≡ get_or bytes from 0 → depth ≢ 1 → BlockGoes bytes at from depth → BlockGoes bytes at (from + 1) (depth - 1)
goes-back bytes at from zero lt brace deep h = absurd (omega (arith, h.some_open))
goes-back bytes at from (suc depth) lt brace deep h =
    let text : drop from bytes ≡ 125 ∷ drop (from + 1) bytes = front bytes from 125 lt brace in
    let less : suc depth - 1 ≡ depth = omega arith in
    rw less (record {
      beyond = omega (arith, h.beyond);
      within = omega arith;
      some_open = omega arith;
      few = omega (arith, h.few);
      ends = λ size c. let g = h.ends (suc size) (subst (λ t. Closes (suc depth) t (suc size)) (sym text) (closes_to depth (drop (from + 1) bytes) size c)) in
          subst (λ n. IsBlock (drop at bytes) n) (omega (arith, h.beyond)) g;
      only = λ all b. let g = h.only all b in
          let f = closes_from depth (drop (from + 1) bytes) g.0 (subst (λ t. Closes (suc depth) t g.0) text g.1) in
          (f.0, f.1, omega (arith, g.2, f.2, h.beyond));
    })

pub goes-on : (bytes : List ℕ) (at from depth b size : ℕ) → from < length bytes → b ≡ get_or bytes from 0 → b ≢ 123 → b ≢ 125 → part_size (drop from bytes) ≡ Some size → 0 < size → size ≤ length (drop from bytes)
    → BlockGoes bytes at from depth → BlockGoes bytes at (from + size) depth
goes-on bytes at from zero b size lt is opens closes found some few h = absurd (omega (arith, h.some_open))
goes-on bytes at from (suc depth) b size lt is opens closes found some few h =
    let text : drop from bytes ≡ b ∷ drop (from + 1) bytes = front bytes from b lt is in
    let plain : is_brace b ≡ false = rw (false-eqb b 123 opens, false-eqb b 125 closes) refl in
    let p : IsPart is_brace (drop from bytes) size = subst (λ t. IsPart is_brace t size) (sym text) (IsPart-from_size is_brace b (drop (from + 1) bytes) size plain (ap part_size (sym text) ∙ found)) in
    record {
      beyond = omega (arith, h.beyond);
      within = omega (arith, length-drop from bytes);
      some_open = omega arith;
      few = omega (arith, h.few, h.beyond);
      ends = λ n c. let g = h.ends (size + n) (part_to depth (drop from bytes) size n p (subst (λ t. Closes (suc depth) t n) (sym (drop-drop size from bytes)) c)) in
          subst (λ m. IsBlock (drop at bytes) m) (omega (arith, h.beyond)) g;
      only = λ all b. let g = h.only all b in
          let f = part_from depth (drop from bytes) size g.0 p g.1 in
          (f.0, subst (λ t. Closes (suc depth) t f.0) (drop-drop size from bytes) f.1, omega (arith, g.2, f.2, h.beyond));
    }

-- the last `}`
pub goes-closed : (bytes : List ℕ) (at from depth : ℕ) → from < length bytes → 125 ≡ get_or bytes from 0 → depth ≡ 1 → BlockGoes bytes at from depth → IsBlock (drop at bytes) ((from + 1) - at)
goes-closed bytes at from depth lt brace one h =
    let text : drop from bytes ≡ 125 ∷ drop (from + 1) bytes = front bytes from 125 lt brace in
    let c : Closes 1 (drop from bytes) 1 = subst (λ t. Closes 1 t 1) (sym text) (closes_to 0 (drop (from + 1) bytes) 0 refl) in
    subst (λ n. IsBlock (drop at bytes) n) (omega (arith, h.beyond)) (h.ends 1 (subst (λ d. Closes d (drop from bytes) 1) (sym one) c))

-- an open comment
pub goes-stuck : (bytes : List ℕ) (at from depth b : ℕ) → from < length bytes → b ≡ get_or bytes from 0 → b ≢ 123 → b ≢ 125 → part_size (drop from bytes) ≡ None
    → BlockGoes bytes at from depth → (size : ℕ) → ¬ IsBlock (drop at bytes) size
goes-stuck bytes at from zero b lt is opens closes found h size block = absurd (omega (arith, h.some_open))
goes-stuck bytes at from (suc depth) b lt is opens closes found h size block =
    let text : drop from bytes ≡ b ∷ drop (from + 1) bytes = front bytes from b lt is in
    let plain : is_brace b ≡ false = rw (false-eqb b 123 opens, false-eqb b 125 closes) refl in
    let g = h.only size block in
    open_from depth b (drop (from + 1) bytes) g.0 plain (ap part_size (sym text) ∙ found) (subst (λ t. Closes (suc depth) t g.0) text g.1)

-- the end
pub goes-ended : (bytes : List ℕ) (at from depth : ℕ) → length bytes ≤ from → BlockGoes bytes at from depth → (size : ℕ) → ¬ IsBlock (drop at bytes) size
goes-ended bytes at from zero le h size block = absurd (omega (arith, h.some_open))
goes-ended bytes at from (suc depth) le h size block =
    let g = h.only size block in
    end_from depth g.0 (subst (λ t. Closes (suc depth) t g.0) (drop_all from bytes le) g.1)

-- ---- one end

rest_end : {text : List ℕ} {m : ℕ} → IsBlockRest text m → (n : ℕ) → IsBlockRest text n → m ≡ n
rest_end (closing {text = text}) n again = by_case (cases again)
  where
    by_case : Cases (125 ∷ text) n → 1 ≡ n
    by_case (inl (r, f, g)) = sym g
    by_case (inr (inl (i, j, p, r, g))) = absurd (brace_differs 125 text i refl p)
    by_case (inr (inr (r, i, j, f, inner, outer, g))) = absurd (false≢true (eq-eqb 125 123 (ap (λ t. get_or t 0 0) f)))
rest_end (part {text = text} {k = k} {n = l} {m = m} p rest e) n again = by_case (rest_end rest) (cases again)
  where
    by_case : ((i : ℕ) → IsBlockRest (drop k text) i → l ≡ i) → Cases text n → m ≡ n
    by_case same (inl (r, f, g)) = absurd (brace_differs 125 r k refl (subst (λ t. IsPart is_brace t k) f p))
    by_case same (inr (inl (i, j, q, r, g))) =
        let found : part_size text ≡ Some k = part_size-part is_brace p in
        let twice : part_size text ≡ Some i = part_size-part is_brace q in
        let size : i ≡ k = cc in
        omega (arith, same j (subst (λ s. IsBlockRest (drop s text) j) size r))
    by_case same (inr (inr (r, i, j, f, inner, outer, g))) = absurd (brace_differs 123 r k refl (subst (λ t. IsPart is_brace t k) f p))
rest_end (nested {text = text} {k = k} {n = l} {m = m} inner outer e) n again = by_case (rest_end inner) (rest_end outer) (cases again)
  where
    by_case : ((i : ℕ) → IsBlockRest text i → k ≡ i) → ((i : ℕ) → IsBlockRest (drop k text) i → l ≡ i) → Cases (123 ∷ text) n → m ≡ n
    by_case first then (inl (r, f, g)) = absurd (false≢true (eq-eqb 123 125 (ap (λ t. get_or t 0 0) f)))
    by_case first then (inr (inl (i, j, p, r, g))) = absurd (brace_differs 123 text i refl p)
    by_case first then (inr (inr (r, i, j, f, again_inner, again_outer, g))) =
        let same : r ≡ text = sym (ap (drop 1) f) in
        let size : i ≡ k = sym (first i (subst (λ t. IsBlockRest t i) same again_inner)) in
        let rest : drop i r ≡ drop k text = ap (λ t. drop i t) same ∙ ap (λ s. drop s text) size in
        omega (arith, then j (subst (λ t. IsBlockRest t j) rest again_outer))

pub same_block : (text : List ℕ) (m n : ℕ) → IsBlock text m → IsBlock text n → m ≡ n
same_block [] m n p q = absurd p
same_block (b ∷ text) m n p q = omega (arith, rest_end p.2 q.1 q.2, p.3, q.3)
