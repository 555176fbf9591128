-- The parts of a text, and the text that they make.
use Rattle.std.proofs.Common.{◌≡◌, ℕ, ◌+◌, ◌-◌, ◌<◌, ◌≤◌, true, List, [], ◌++◌, Some, refl, sym, ap, ◌∙◌, subst, arith, length, length-append, length-drop, take, drop, append_assoc}
use Rattle.std.specs.Prelude.{Option, IfSome}
use Rattle.std.proofs.lemmas.List.{append_cancel_left, drop-drop, drop_at, drop_all, drop-take, take_at, take-take, take-append-drop, take-append-le, length-take-le}
use Rattle.cs_scanner.specs.Scan.Compared.{scanning}
use Rattle.cs_scanner.specs.Scan.Scan.{Scanning, Runs, ends}
use Rattle.cs_scanner.specs.Scan.Going.{IsBegunBy}
use Rattle.cs_scanner.proofs.OnScan.Together.{begun_none}
use Rattle.cs_texts.specs.Rendering.Rendering.{IsRuleText}
use Rattle.cs_texts.specs.declared.splice.marks.TextMark.{TextMark}
use Rattle.cs_texts.specs.declared.splice.marked.Marked.{Marked}
use Rattle.cs_texts.specs.Splice.Lists.{IsSameBack, IsSameFront}
use Rattle.cs_texts.specs.Splice.Marks.{IsMark}
use Rattle.cs_texts.specs.Splice.Middle.{IsMiddle}
use Rattle.cs_texts.specs.Splice.Settled.{IsPassed, IsSettledBy}
use Rattle.cs_texts.specs.Splice.Marked.{IsBack, IsFrontFor, IsMarkAt, IsMarkedList}
use Rattle.cs_texts.specs.Splice.Spliced.{IsTextNear}
use Rattle.cs_texts.proofs.OnSplice.Aligning.{nil_rule}
use Rattle.cs_texts.proofs.OnSplice.Marking.{settled_at}

-- the first bytes of a list, in two parts
take_two : (xs : List ℕ) (e m : ℕ) → take (e + m) xs ≡ take e xs ++ take m (drop e xs)
take_two xs e m =
    let first : take e (take (e + m) xs) ≡ take e xs = take-take e (e + m) xs (omega arith) in
    let second : drop e (take (e + m) xs) ≡ take m (drop e xs) = drop-take e m xs in
    sym (take-append-drop e (take (e + m) xs)) ∙ ap (λ t. t ++ drop e (take (e + m) xs)) first ∙ ap (λ t. take e xs ++ t) second

module _ (text put rest : List ℕ) (e m : ℕ) (within : e + m ≤ length text) (same : take m put ≡ take m (drop e text)) where
  front_length : length (take e text) ≡ e
  front_length = length-take-le e text (omega (arith, within))

  put_enough : m ≤ length put
  put_enough =
      let long : length (take m (drop e text)) ≡ m = length-take-le m (drop e text) (omega (arith, within, length-drop e text)) in
      let also : length (take m put) ≡ length (take m (drop e text)) = ap length same in
      let both : length put ≡ length (take m put) + length (drop m put) = ap length (sym (take-append-drop m put)) ∙ length-append (take m put) (drop m put) in
      omega (arith, long, also, both)

  grouped : (take e text ++ put) ++ rest ≡ take e text ++ (put ++ rest)
  grouped = append_assoc (take e text) put rest

  pub behind_front : drop e ((take e text ++ put) ++ rest) ≡ put ++ rest
  behind_front = ap (drop e) grouped ∙ drop_at (take e text) (put ++ rest) e front_length

  pub same_first : take (e + m) ((take e text ++ put) ++ rest) ≡ take (e + m) text
  same_first =
      let t = (take e text ++ put) ++ rest in
      let first : take e t ≡ take e text = ap (take e) grouped ∙ take_at (take e text) (put ++ rest) e front_length in
      let second : take m (drop e t) ≡ take m (drop e text) = ap (take m) behind_front ∙ take-append-le m put rest put_enough ∙ same in
      take_two t e m ∙ ap (λ f. f ++ take m (drop e t)) first ∙ ap (λ f. take e text ++ f) second ∙ sym (take_two text e m)

-- what a mark's number of bytes is within
pub read_within : (s : Scanning) (text tokens : List ℕ) (k n : ℕ) (mark : TextMark) → IsMark s text tokens k mark → mark.read ≡ Some n → (mark.end ≤ n) × IsSettledBy text (IsPassed s (take (k + 1) tokens) mark.end) n
read_within s text tokens k n mark is read =
    let P : Option ℕ → Type 0 = λ o. IfSome o (λ i. (mark.end ≤ i) × IsSettledBy text (IsPassed s (take (k + 1) tokens) mark.end) i) in
    subst P read is.ends.settled

module _ (p : Marked) where
  pub front_none : (count : ℕ) (put front : List ℕ) → count ≡ 0 → front ≡ [] → IsFrontFor p count put front
  front_none count put front none is =
      let F : ℕ → List ℕ → Type 0 = λ n f. IsFrontFor p n put f in
      let made : F 0 [] = record { rule = nil_rule p.work.now.lexemes.now p.work.now.separator.now; passes = λ rest. begun_none (scanning p.work.now.scanner.now) (put ++ rest) } in
      subst (λ n. F n front) (sym none) (subst (λ f. F 0 f) (sym is) made)

  pub front_some : (count n : ℕ) (put front : List ℕ) (mark : TextMark) → 0 < count → IsMarkAt p (count - 1) mark → mark.read ≡ Some n → take (n - mark.end) put ≡ take (n - mark.end) (drop mark.end p.text.items) → front ≡ take mark.end p.text.items → IsFrontFor p count put front
  front_some count n put front mark some is read same front_is =
      let s = scanning p.work.now.scanner.now in
      let text = p.text.items in
      let e = mark.end in
      let m = n - e in
      let number : count - 1 + 1 ≡ count = omega (arith, some) in
      let known = read_within s text p.tokens.now (count - 1) n mark is.is_mark read in
      let sum : e + m ≡ n = omega (arith, known.0) in
      let within : e + m ≤ length text = omega (arith, sum, known.1.0) in
      let F : List ℕ → Type 0 = λ f. IsFrontFor p count put f in
      subst F (sym front_is) (record {
        rule = subst (λ k. IsRuleText p.work.now.lexemes.now p.work.now.separator.now (take k p.tokens.now) (take e text)) number is.aligned.front;
        passes = λ rest.
            let t = (take e text ++ put) ++ rest in
            let first : take n t ≡ take n text = subst (λ k. take k t ≡ take k text) sum (same_first text put rest e m within same) in
            let passed : IsPassed s (take (count - 1 + 1) p.tokens.now) e t = settled_at (IsPassed s (take (count - 1 + 1) p.tokens.now) e) text t n known.1 first in
            subst (λ k. IsBegunBy s t (take k p.tokens.now) (put ++ rest)) number (subst (λ r. IsBegunBy s t (take (count - 1 + 1) p.tokens.now) r) (behind_front text put rest e m within same) passed);
      })

  pub back_none : (count : ℕ) (back : List ℕ) → count ≡ 0 → back ≡ [] → IsBack p count back
  back_none count back none is =
      let tokens = p.tokens.now in
      let nothing : drop (length tokens - count) tokens ≡ [] = drop_all (length tokens - count) tokens (omega (arith, none)) in
      record {
        rule = subst (λ ts. IsRuleText p.work.now.lexemes.now p.work.now.separator.now ts back) (sym nothing) (subst (λ t. IsRuleText p.work.now.lexemes.now p.work.now.separator.now [] t) (sym is) (nil_rule p.work.now.lexemes.now p.work.now.separator.now));
        scans = ends back (drop (length tokens - count) tokens) true is nothing refl;
      }

  -- behind a match, the rest of the text scans to the rest of the tokens
  pub back_some : (count : ℕ) (back : List ℕ) (mark : TextMark) → IsMarkedList p → IsMarkAt p (length p.tokens.now - count) mark → back ≡ drop mark.start p.text.items → IsBack p count back
  back_some count back mark marked is back_is =
      let s = scanning p.work.now.scanner.now in
      let tokens = p.tokens.now in
      let k = length tokens - count in
      let later = is.is_mark.starts.forth tokens true marked.rendered.1 in
      let rest : later.0 ≡ drop k tokens = append_cancel_left (take k tokens) later.0 (drop k tokens) (sym later.1 ∙ sym (take-append-drop k tokens)) in
      let B : List ℕ → Type 0 = λ b. IsBack p count b in
      subst B (sym back_is) (record { rule = is.aligned.back; scans = subst (λ ts. Runs s (drop mark.start p.text.items) ts true) rest later.2 })

  -- the three parts make the text
  pub told : (tokens front middle back : List ℕ) (stays behind from to : ℕ) → IsSameFront p.tokens.now tokens stays → IsSameBack p.tokens.now tokens stays behind → from ≤ stays → to ≡ length tokens - behind → IsMiddle p.work.now.lexemes.now p.work.now.separator.now tokens from to middle → IsFrontFor p from middle front → IsBack p behind back → IsBegunBy (scanning p.work.now.scanner.now) (middle ++ back) (take (to - from) (drop from tokens)) back → IsTextNear p.work.now tokens ((front ++ middle) ++ back)
  told tokens front middle back stays behind from to same_front same_back le to_is is_middle is_front is_back arrives =
      let s = scanning p.work.now.scanner.now in
      let base = p.tokens.now in
      let firsts : take from base ≡ take from tokens = sym (take-take from stays base le) ∙ ap (take from) same_front.same ∙ take-take from stays tokens le in
      let lasts : drop (length base - behind) base ≡ drop to tokens = same_back.same ∙ ap (λ n. drop n tokens) (sym to_is) in
      let part = take (to - from) (drop from tokens) in
      let order : from ≤ to = omega (arith, le, to_is, same_front.second, same_back.second) in
      let number : from + (to - from) ≡ to = omega (arith, order) in
      let later : drop (to - from) (drop from tokens) ≡ drop to tokens = drop-drop (to - from) from tokens ∙ ap (λ n. drop n tokens) number in
      let whole : take from base ++ (part ++ drop (length base - behind) base) ≡ tokens =
      ap (λ f. f ++ (part ++ drop (length base - behind) base)) firsts ∙ ap (λ l. take from tokens ++ (part ++ l)) (lasts ∙ sym later) ∙ ap (λ l. take from tokens ++ l) (take-append-drop (to - from) (drop from tokens)) ∙ take-append-drop from tokens in
      let scans = (is_front.passes back).back (part ++ drop (length base - behind) base) true (arrives.back (drop (length base - behind) base) true is_back.scans) in (
        is_middle front back (subst (λ ts. IsRuleText p.work.now.lexemes.now p.work.now.separator.now ts front) firsts is_front.rule) (subst (λ ts. IsRuleText p.work.now.lexemes.now p.work.now.separator.now ts back) lasts is_back.rule),
        subst (λ ts. Runs s ((front ++ middle) ++ back) ts true) whole scans,
      )
