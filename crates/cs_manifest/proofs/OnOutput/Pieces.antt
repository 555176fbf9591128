-- A text that was put to an output piece by piece.
use Rattle.std.proofs.Common.{◌≡◌, ◌⊎◌, inl, inr, refl, subst, ℕ, ◌+◌, ◌-◌, ◌<◌, ◌≤◌, List, [], ◌∷◌, ◌++◌, length, append_assoc, length-append, take, drop, get_or, ap, sym, ◌∙◌, arith, true, false, Bool, Option}
use Rattle.std.specs.Io.KnownBytes.{append_known}
use Rattle.std.specs.List.{flat_map, enumerate_from}
use Rattle.std.proofs.Math.Seq.{take-append-add}
use Rattle.std.proofs.lemmas.List.{append-nil, take_more, flat_map_more, length-take, length-take-le, take-append-drop, take-append-le}
use Rattle.std.proofs.lemmas.Slice.{take-put_mid}
use borrow.Rule.Slice.PartMut.{put_mid}
use Rattle.cs_io.proofs.Known.{known_none, known_twice, known_then_part, known_part}
use Rattle.cs_io.specs.Faults.{Rose}
use Rattle.cs_io.specs.Sink.{GrewByPrefix}
use Rattle.cs_io.specs.declared.sink.Sink as Sink
use Rattle.cs_manifest.specs.declared.output.output.Output.{Output}
use Rattle.cs_manifest.specs.Output.Putting.{IsPut, IsCut, IsLeft, Puts, shown, waiting}
use Rattle.cs_manifest.specs.Output.Words.{spaced, with_numbers}

-- what went to the sink, and a second text behind the first
sent_then : (sent old mid first second : List ℕ) → sent ++ mid ≡ old ++ first → sent ++ (mid ++ second) ≡ old ++ (first ++ second)
sent_then sent old mid first second split =
    sym (append_assoc sent mid second) ∙ ap (λ (text : List ℕ). text ++ second) split ∙ append_assoc old first second

-- what went to the sink twice, and what waits behind it
sent_twice : (sent more old mid new first second : List ℕ) → sent ++ mid ≡ old ++ first → more ++ new ≡ mid ++ second → (sent ++ more) ++ new ≡ old ++ (first ++ second)
sent_twice sent more old mid new first second split next =
    append_assoc sent more new ∙ ap (λ (text : List ℕ). sent ++ text) next ∙ sent_then sent old mid first second split

-- a text that was written into a line, behind the bytes that it had
pub put_in : (line text part : List ℕ) (used end : ℕ) → used ≤ length line → end ≡ used + length text → part ≡ text → take end (put_mid used (end - used) line part) ≡ take used line ++ text
put_in line text part used end within at same =
    take-put_mid used (end - used) line part end (omega (arith, at, ap length same)) within ∙ ap (λ (t : List ℕ). take used line ++ t) same

-- the front of a front
take_twice : (few many : ℕ) (xs : List ℕ) → few ≤ many → many ≤ length xs → take few (take many xs) ≡ take few xs
take_twice few many xs less within =
    sym (take-append-le few (take many xs) (drop many xs) (omega (arith, less, length-take-le many xs within)))
    ∙ ap (λ (ys : List ℕ). take few ys) (take-append-drop many xs)

-- a line is no shorter than what was written into it
pub reached : (line mid text : List ℕ) (used count : ℕ) → used ≤ length line → count ≤ length text → take (used + count) mid ≡ take used line ++ take count text → used + count ≤ length mid
reached line mid text used count within some first =
    omega (
      arith,
      length-take (used + count) mid,
      ap length first,
      length-append (take used line) (take count text),
      length-take-le used line within,
      length-take-le count text some,
    )

-- the front of a text that was written into a line
pub put_front : (line mid text : List ℕ) (used count few : ℕ) → used ≤ length line → few ≤ count → count ≤ length text
    → take (used + count) mid ≡ take used line ++ take count text → take (used + few) mid ≡ take used line ++ take few text
put_front line mid text used count few within less some first =
    sym (take_twice (used + few) (used + count) mid (omega (arith, less)) (reached line mid text used count within some first))
    ∙ ap (λ (t : List ℕ). take (used + few) t) first
    ∙ ap (λ (n : ℕ). take (n + few) (take used line ++ take count text)) (sym (length-take-le used line within))
    ∙ take-append-add (take used line) (take count text) few
    ∙ ap (λ (t : List ℕ). take used line ++ t) (take_twice few count text less some)

-- a text that was written into a line by its front and its back, which overlap
pub put_by_ends : (line mid new text : List ℕ) (used count back : ℕ) → used ≤ length line → back ≤ count → count ≤ length text
    → take (used + count) mid ≡ take used line ++ take count text → take (used + length text) new ≡ take (used + back) mid ++ drop back text
    → take (used + length text) new ≡ take used line ++ text
put_by_ends line mid new text used count back within less some first second =
    second ∙ ap (λ (t : List ℕ). t ++ drop back text) (put_front line mid text used count back within less some first)
    ∙ append_assoc (take used line) (take back text) (drop back text)
    ∙ ap (λ (t : List ℕ). take used line ++ t) (take-append-drop back text)

module _ {S : Type 0} {g : Sink.Ghosts S} where
  both_put : {old mid new : Output S} (first second : List ℕ) → IsPut g first old mid → IsPut g second mid new → IsPut g (first ++ second) old new
  both_put {old} {mid} {new} first second a b = record {
    fine = a.fine;
    still_fine = b.still_fine;
    reference = b.reference ∙ a.reference;
    bytes = omega (arith, a.bytes, b.bytes, length-append first second);
    sent = a.sent ++ b.sent;
    split = sent_twice a.sent b.sent (waiting old) (waiting mid) (waiting new) first second a.split b.split;
    written = b.written ∙ ap (λ (known : Option (List ℕ)). append_known known b.sent) a.written ∙ known_twice (g.written old.sink.now) a.sent b.sent;
    no_fault = b.no_fault ∙ a.no_fault;
    room = omega (arith, a.room, b.room, length-append first second);
    lent = b.lent ∙ a.lent;
    passed = omega (arith, a.passed, b.passed);
  }

  put_cut : {old mid new : Output S} (first second : List ℕ) → IsPut g first old mid → IsCut g second mid new → IsCut g (first ++ second) old new
  put_cut {old} {mid} {new} first second a b = record {
    fine = a.fine;
    failed = b.failed;
    reference = b.reference ∙ a.reference;
    written =
        subst (λ (text : List ℕ). GrewByPrefix (g.written old.sink.now) (g.written new.sink.now) text)
        (sent_then a.sent (waiting old) (waiting mid) first second a.split)
        (known_then_part (g.written old.sink.now) (g.written mid.sink.now) (g.written new.sink.now) a.sent (waiting mid ++ second) a.written b.written);
    fault = omega (arith, a.no_fault, b.fault);
    faults = omega (arith, a.no_fault, b.faults);
    room = omega (arith, a.room, b.room, length-append first second);
    lent = b.lent ∙ a.lent;
    passed = omega (arith, a.passed, b.passed);
  }

  cut_left : {old mid new : Output S} (first second : List ℕ) → IsCut g first old mid → IsLeft g mid new → IsCut g (first ++ second) old new
  cut_left {old} {mid} {new} first second a b = record {
    fine = a.fine;
    failed = b.still_failed;
    reference = b.reference ∙ a.reference;
    written =
        subst (λ (text : List ℕ). GrewByPrefix (g.written old.sink.now) (g.written new.sink.now) text) (append_assoc (waiting old) first second)
        (subst (λ (s : S). GrewByPrefix (g.written old.sink.now) (g.written s) ((waiting old ++ first) ++ second)) (sym b.sink)
        (known_part (g.written old.sink.now) (g.written mid.sink.now) (waiting old ++ first) second a.written));
    fault = subst (λ (s : S). Rose (g.faults old.sink.now) (g.faults s)) (sym b.sink) a.fault;
    faults = subst (λ (s : S). g.faults old.sink.now ≤ g.faults s) (sym b.sink) a.faults;
    room = omega (arith, a.room, length-append first second);
    lent = ap g.lent b.sink ∙ a.lent;
    passed = subst (λ (s : S). g.passed old.sink.now ≤ g.passed s) (sym b.sink) a.passed;
  }

  -- two texts, one after the other
  pub then : {old mid new : Output S} {first second : List ℕ} → Puts g first old mid → Puts g second mid new → Puts g (first ++ second) old new
  then {old} {mid} {new} {first} {second} a b = record { line = b.line ∙ a.line; how = joined a.how b.how }
    where
      joined : IsPut g first old mid ⊎ IsCut g first old mid ⊎ IsLeft g old mid → IsPut g second mid new ⊎ IsCut g second mid new ⊎ IsLeft g mid new
          → IsPut g (first ++ second) old new ⊎ IsCut g (first ++ second) old new ⊎ IsLeft g old new
      joined (inl p) (inl q) = inl (both_put first second p q)
      joined (inl p) (inr (inl q)) = inr (inl (put_cut first second p q))
      joined (inl p) (inr (inr q)) = absurd (let e = sym p.still_fine ∙ q.failed in cc)
      joined (inr (inl p)) (inl q) = absurd (let e = sym q.fine ∙ p.failed in cc)
      joined (inr (inl p)) (inr (inl q)) = absurd (let e = sym q.fine ∙ p.failed in cc)
      joined (inr (inl p)) (inr (inr q)) = inr (inl (cut_left first second p q))
      joined (inr (inr p)) (inl q) = absurd (let e = sym q.fine ∙ p.still_failed in cc)
      joined (inr (inr p)) (inr (inl q)) = absurd (let e = sym q.fine ∙ p.still_failed in cc)
      joined (inr (inr p)) (inr (inr q)) = inr (inr (record { failed = p.failed; still_failed = q.still_failed; reference = q.reference ∙ p.reference; sink = q.sink ∙ p.sink }))

  -- no text
  pub nothing : (out : Output S) → Puts g [] out out
  nothing out = at_flag out.failed refl
    where
      at_flag : (flag : Bool) → out.failed ≡ flag → Puts g [] out out
      at_flag true e = record { line = refl; how = inr (inr (record { failed = e; still_failed = e; reference = refl; sink = refl })) }
      at_flag false e = record {
        line = refl;
        how = inl (record {
          fine = e;
          still_fine = e;
          reference = refl;
          bytes = ap shown (omega arith);
          sent = [];
          split = sym (append-nil (waiting out));
          written = sym (known_none (g.written out.sink.now));
          no_fault = refl;
          room = omega arith;
          lent = refl;
          passed = omega arith;
        });
      }

  -- nothing happens after a write that failed
  pub lost : {out : Output S} {text : List ℕ} → out.failed ≡ true → Puts g text out out
  lost e = record { line = refl; how = inr (inr (record { failed = e; still_failed = e; reference = refl; sink = refl })) }

  -- the text waits behind what waited
  pub kept : {old new : Output S} {text : List ℕ} → new.failed ≡ old.failed → new.sink.ghost_name ≡ old.sink.ghost_name → new.sink.now ≡ old.sink.now → new.line.ghost_name ≡ old.line.ghost_name → new.bytes ≡ old.bytes
      → waiting new ≡ waiting old ++ text → Puts g text old new
  kept {old} {new} {text} same reference sink line bytes waits = at_flag old.failed refl
    where
      at_flag : (flag : Bool) → old.failed ≡ flag → Puts g text old new
      at_flag true e = record { line = line; how = inr (inr (record { failed = e; still_failed = same ∙ e; reference = reference; sink = sink })) }
      at_flag false e = record {
        line = line;
        how = inl (record {
          fine = e;
          still_fine = same ∙ e;
          reference = reference;
          bytes = omega (arith, bytes, ap length waits, length-append (waiting old) text);
          sent = [];
          split = waits;
          written = ap g.written sink ∙ sym (known_none (g.written old.sink.now));
          no_fault = ap g.faults sink;
          room = omega (arith, ap g.room sink, ap length waits, length-append (waiting old) text);
          lent = ap g.lent sink;
          passed = omega (arith, ap g.passed sink);
        });
      }

  -- a write failed where nothing had waited before the text, and what waited behind it was to be passed on
  pub failed_part : {old mid new : Output S} {text : List ℕ} → old.failed ≡ false → waiting old ≡ [] → Puts g text old mid → Puts g [] mid new → new.failed ≡ true
      → GrewByPrefix (g.written old.sink.now) (g.written new.sink.now) text
  failed_part {old} {mid} {new} {text} fine nothing_waits put passed failed = part (then put passed).how
    where
      part : IsPut g (text ++ []) old new ⊎ IsCut g (text ++ []) old new ⊎ IsLeft g old new → GrewByPrefix (g.written old.sink.now) (g.written new.sink.now) text
      part (inl p) = absurd (let e = sym failed ∙ p.still_fine in cc)
      part (inr (inl q)) =
          subst (λ (t : List ℕ). GrewByPrefix (g.written old.sink.now) (g.written new.sink.now) t)
          (ap (λ (t : List ℕ). t ++ (text ++ [])) nothing_waits ∙ append-nil text) q.written
      part (inr (inr q)) = absurd (let e = sym fine ∙ q.failed in cc)

  -- the same text, spelled otherwise
  pub spelled : {old new : Output S} {text : List ℕ} (other : List ℕ) → text ≡ other → Puts g text old new → Puts g other old new
  spelled {old} {new} {text} other e p = subst (λ (t : List ℕ). Puts g t old new) e p

  -- a second text with a newline in front, which ends the line of the first
  pub then_below : {old mid new : Output S} (front line below : List ℕ) → Puts g (front ++ line) old mid → Puts g (10 ∷ below) mid new
      → Puts g ((front ++ (line ++ 10 ∷ [])) ++ below) old new
  then_below front line below a b = spelled ((front ++ (line ++ 10 ∷ [])) ++ below) same (then a b)
    where
      same : (front ++ line) ++ (10 ∷ below) ≡ (front ++ (line ++ 10 ∷ [])) ++ below
      same =
          append_assoc front line (10 ∷ below)
          ∙ ap (λ (t : List ℕ). front ++ t) (sym (append_assoc line (10 ∷ []) below))
          ∙ sym (append_assoc front (line ++ 10 ∷ []) below)

  -- one more byte of a text, spelled by f
  pub bytes_more : {A : Type 0} (f : A → List ℕ) {old mid new : Output S} (xs : List A) (i : ℕ) (d : A) → i < length xs
      → Puts g (flat_map f (take i xs)) old mid → Puts g (f (get_or xs i d)) mid new → Puts g (flat_map f (take (i + 1) xs)) old new
  bytes_more {A} f xs i d within so_far more = spelled (flat_map f (take (i + 1) xs)) whole (then so_far more)
    where
      whole : flat_map f (take i xs) ++ f (get_or xs i d) ≡ flat_map f (take (i + 1) xs)
      whole =
          flat_map_more f [] (take i xs) (get_or xs i d)
          ∙ ap (λ (ys : List A). flat_map f ys) (sym (take_more xs i d within))

  -- one more member of a list of words
  pub spaced_more : {A : Type 0} (f : A → List ℕ) {old mid next new : Output S} (xs : List A) (i : ℕ) (d : A) → i < length xs
      → Puts g (spaced f (take i xs)) old mid → Puts g (32 ∷ []) mid next → Puts g (f (get_or xs i d)) next new → Puts g (spaced f (take (i + 1) xs)) old new
  spaced_more {A} f xs i d within so_far space more = bytes_more (λ (y : A). 32 ∷ f y) xs i d within so_far (then space more)

  -- the same, with the space in one piece with it
  pub spaced_next : {A : Type 0} (f : A → List ℕ) {old mid new : Output S} (xs : List A) (i : ℕ) (d : A) → i < length xs
      → Puts g (spaced f (take i xs)) old mid → Puts g (32 ∷ f (get_or xs i d)) mid new → Puts g (spaced f (take (i + 1) xs)) old new
  spaced_next {A} f xs i d within so_far more = bytes_more (λ (y : A). 32 ∷ f y) xs i d within so_far more

  -- one more member of a list of lines
  pub numbered_more : {A : Type 0} (f : ℕ → A → List ℕ) {old mid new : Output S} (xs : List A) (i : ℕ) (x : A) → i < length xs → x ≡ get_or xs i x
      → Puts g (with_numbers f (take i xs)) old mid → Puts g (f (i + 1) x) mid new → Puts g (with_numbers f (take (i + 1) xs)) old new
  numbered_more {A} f xs i x within is so_far more = spelled (with_numbers f (take (i + 1) xs)) whole (then so_far more)
    where
      enumerate_push : (n : ℕ) (xs : List A) (x : A) → enumerate_from n (xs ++ x ∷ []) ≡ enumerate_from n xs ++ (n + length xs, x) ∷ []
      enumerate_push n [] x = let e : n ≡ n + 0 = omega arith in ap (λ (k : ℕ). (k, x) ∷ []) e
      enumerate_push n (y ∷ xs) x =
          let e : n + 1 + length xs ≡ n + length (y ∷ xs) = omega arith in
          ap (λ (ps : List (ℕ × A)). (n, y) ∷ ps) (enumerate_push (n + 1) xs x ∙ ap (λ (k : ℕ). enumerate_from (n + 1) xs ++ (k, x) ∷ []) e)

      whole : with_numbers f (take i xs) ++ f (i + 1) x ≡ with_numbers f (take (i + 1) xs)
      whole =
          let number : i + 1 ≡ 1 + length (take i xs) = omega (arith, length-take-le i xs) in
          ap (λ (y : A). with_numbers f (take i xs) ++ f (i + 1) y) is
          ∙ ap (λ (k : ℕ). with_numbers f (take i xs) ++ f k (get_or xs i x)) number
          ∙ flat_map_more (λ (p : ℕ × A). f p.0 p.1) [] (enumerate_from 1 (take i xs)) (1 + length (take i xs), get_or xs i x)
          ∙ ap (λ (ps : List (ℕ × A)). flat_map (λ (p : ℕ × A). f p.0 p.1) ps) (sym (enumerate_push 1 (take i xs) (get_or xs i x)))
          ∙ ap (λ (ys : List A). with_numbers f ys) (sym (take_more xs i x within))
