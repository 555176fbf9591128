-- What repetitions, joins and eithers match.
use Rattle.std.proofs.Common.{◌≡◌, ℕ, zero, suc, ◌+◌, ◌-◌, ◌≤◌, ◌<◌, List, [], ◌∷◌, ◌++◌, replicate, refl, sym, ap, ◌∙◌, subst, inl, inr, arith, append_assoc, append-nil}
use Rattle.std.proofs.lemmas.List.Elements.{All-append, All-nil, All-cons, All-contains}
use Rattle.cs_pattern_parts.specs.Items.StandsFor.{AreBytes, HasSomeByte}
use Rattle.cs_pattern_parts.specs.Tree.Pattern.{Regex, Empty, Class, Join, Either, Many, Parts, Nothing, Then, parts_of, alone_or, Repeats, no_more, one_more, Matches, MatchInOrder, SomeMatches}
use Rattle.cs_pattern_parts.specs.Tree.Counting.{Times, SomeTimes, HasBytes, IsBetween}
use Rattle.cs_pattern_parts.specs.Tree.Repeated.{optional, at_least}
use Rattle.cs_pattern_parts.specs.Tree.Scannable.{EachClassOf, HasNoEmptyClass, HasNoEmptyEither, HaveNoEmptyEither, HasByteClasses, HasPart}

-- ---- a many

non_empty_more : (P : List ℕ → Type 0) (x y word : List ℕ) → P x → Repeats (HasBytes P) y → word ≡ x ++ y → Repeats (HasBytes P) word
non_empty_more P [] y word p rest e = subst (Repeats (HasBytes P)) (sym e) rest
non_empty_more P (b ∷ x) y word p rest e = one_more (b ∷ x) y word (p, λ none. cc) rest e

pub non_empty : (P : List ℕ → Type 0) (word : List ℕ) → Repeats P word → Repeats (HasBytes P) word
non_empty P word no_more = no_more
non_empty P word (one_more x y w p rest e) = non_empty_more P x y w p (non_empty P y rest) e

pub any_parts : (P : List ℕ → Type 0) (word : List ℕ) → Repeats (HasBytes P) word → Repeats P word
any_parts P word no_more = no_more
any_parts P word (one_more x y w p rest e) = one_more x y w p.0 (any_parts P y rest) e

-- ---- one part alone

join_alone : (r : Regex) (word : List ℕ) → Matches r word → MatchInOrder (Then r Nothing) word
join_alone r word m = (word, [], sym (append-nil word), m, refl)

alone_join : (r : Regex) (word : List ℕ) → MatchInOrder (Then r Nothing) word → Matches r word
alone_join r word m = subst (Matches r) (sym (m.2 ∙ ap (λ y. m.0 ++ y) m.4 ∙ append-nil m.0)) m.3

pub join_to : (rs : Parts) (word : List ℕ) → Matches (alone_or Join rs) word → Matches (Join rs) word
join_to Nothing word m = m
join_to (Then r Nothing) word m = join_alone r word m
join_to (Then r (Then s rs)) word m = m

pub join_from : (rs : Parts) (word : List ℕ) → Matches (Join rs) word → Matches (alone_or Join rs) word
join_from Nothing word m = m
join_from (Then r Nothing) word m = alone_join r word m
join_from (Then r (Then s rs)) word m = m

pub either_to : (rs : Parts) (word : List ℕ) → Matches (alone_or Either rs) word → Matches (Either rs) word
either_to Nothing word m = m
either_to (Then r Nothing) word m = inl m
either_to (Then r (Then s rs)) word m = m

pub either_from : (rs : Parts) (word : List ℕ) → Matches (Either rs) word → Matches (alone_or Either rs) word
either_from Nothing word m = m
either_from (Then r Nothing) word (inl m) = m
either_from (Then r Nothing) word (inr none) = absurd none
either_from (Then r (Then s rs)) word m = m

-- ---- copies

-- what so many copies and then these patterns match
pub copies_to : (n : ℕ) (r : Regex) (rs : List Regex) (word : List ℕ) → MatchInOrder (parts_of (replicate n r ++ rs)) word → (x : List ℕ) × (y : List ℕ) × (word ≡ x ++ y) × Times (Matches r) n x × MatchInOrder (parts_of rs) y
copies_to zero r rs word m = ([], word, refl, refl, m)
copies_to (suc n) r rs word m =
    let h = copies_to n r rs m.1 m.4 in
    (m.0 ++ h.0, h.1, m.2 ∙ ap (λ y. m.0 ++ y) h.2 ∙ sym (append_assoc m.0 h.0 h.1), (m.0, h.0, refl, m.3, h.3), h.4)

pub copies_from : (n : ℕ) (r : Regex) (rs : List Regex) (x y word : List ℕ) → word ≡ x ++ y → Times (Matches r) n x → MatchInOrder (parts_of rs) y → MatchInOrder (parts_of (replicate n r ++ rs)) word
copies_from zero r rs x y word e t m = subst (MatchInOrder (parts_of rs)) (sym (e ∙ ap (λ z. z ++ y) t)) m
copies_from (suc n) r rs x y word e t m =
    (t.0, t.1 ++ y, e ∙ ap (λ z. z ++ y) t.2 ∙ append_assoc t.0 t.1 y, t.3, copies_from n r rs t.1 y (t.1 ++ y) refl t.4 m)

pub exactly_to : (n : ℕ) (r : Regex) (word : List ℕ) → MatchInOrder (parts_of (replicate n r)) word → Times (Matches r) n word
exactly_to zero r word m = m
exactly_to (suc n) r word m = (m.0, m.1, m.2, m.3, exactly_to n r m.1 m.4)

pub exactly_from : (n : ℕ) (r : Regex) (word : List ℕ) → Times (Matches r) n word → MatchInOrder (parts_of (replicate n r)) word
exactly_from zero r word t = t
exactly_from (suc n) r word t = (t.0, t.1, t.2, t.3, exactly_from n r t.1 t.4)

-- parts, and then some more
pub times-add : (P : List ℕ → Type 0) (n k : ℕ) (x y word : List ℕ) → word ≡ x ++ y → Times P n x → Times P k y → Times P (n + k) word
times-add P zero k x y word e t u = let f : word ≡ y = e ∙ ap (λ z. z ++ y) t in let g : k ≡ zero + k = omega arith in subst (λ m. Times P m word) g (subst (Times P k) (sym f) u)
times-add P (suc n) k x y word e t u =
    let g : suc (n + k) ≡ suc n + k = omega arith in
    subst (λ m. Times P m word) g (t.0, t.1 ++ y, e ∙ ap (λ z. z ++ y) t.2 ∙ append_assoc t.0 t.1 y, t.3, times-add P n k t.1 y (t.1 ++ y) refl t.4 u)

-- parts, split after the first n
pub times_split : (P : List ℕ → Type 0) (n k : ℕ) (word : List ℕ) → Times P (n + k) word → (x : List ℕ) × (y : List ℕ) × (word ≡ x ++ y) × Times P n x × Times P k y
times_split P zero k word t = let g : zero + k ≡ k = omega arith in ([], word, refl, refl, subst (λ m. Times P m word) g t)
times_split P (suc n) k word t =
    let g : suc n + k ≡ suc (n + k) = omega arith in
    let u = let Q : ℕ → Type 0 = λ m. Times P m word in subst Q g t in
    let h = times_split P n k u.1 u.4 in
    (u.0 ++ h.0, h.1, u.2 ∙ ap (λ y. u.0 ++ y) h.2 ∙ sym (append_assoc u.0 h.0 h.1), (u.0, h.0, refl, u.3, h.3), h.4)

-- ---- any number

pub repeats_times : (P : List ℕ → Type 0) (word : List ℕ) → Repeats P word → (n : ℕ) × Times P n word
repeats_times P word no_more = (0, refl)
repeats_times P word (one_more x y w p rest e) = let h = repeats_times P y rest in (suc h.0, (x, y, e, p, h.1))

pub times_repeats : (P : List ℕ → Type 0) (n : ℕ) (word : List ℕ) → Times P n word → Repeats P word
times_repeats P zero word t = subst (Repeats P) (sym t) no_more
times_repeats P (suc n) word t = one_more t.0 t.1 word t.3 (times_repeats P n t.1 t.4) t.2

-- ---- r?

pub optional_to : (r : Regex) (word : List ℕ) → Matches (optional r) word → SomeTimes (IsBetween 0 1) (Matches r) word
optional_to r word (inl m) = (1, (omega arith, omega arith), (word, [], sym (append-nil word), m, refl))
optional_to r word (inr (inl m)) = (0, (omega arith, omega arith), m)
optional_to r word (inr (inr m)) = absurd m

pub optional_from : (r : Regex) (n : ℕ) (word : List ℕ) → n ≤ 1 → Times (Matches r) n word → Matches (optional r) word
optional_from r zero word le t = inr (inl t)
optional_from r (suc zero) word le t = inl (subst (Matches r) (sym (t.2 ∙ ap (λ y. t.0 ++ y) t.4 ∙ append-nil t.0)) t.3)
optional_from r (suc (suc n)) word le t = absurd (omega arith)

-- ---- r{n,}

pub least_to : (n : ℕ) (r : Regex) (word : List ℕ) → Matches (at_least n r) word → SomeTimes (λ k. n ≤ k) (Matches r) word
least_to zero r word m = let h = repeats_times (Matches r) word m in (h.0, omega arith, h.1)
least_to (suc n) r word m =
    let h = copies_to (suc n) r (Many r ∷ []) word m in
    let t = repeats_times (Matches r) h.1 (alone_join (Many r) h.1 h.4) in
    (suc n + t.0, omega arith, times-add (Matches r) (suc n) t.0 h.0 h.1 word h.2 h.3 t.1)

pub least_from : (n : ℕ) (r : Regex) (k : ℕ) (word : List ℕ) → n ≤ k → Times (Matches r) k word → Matches (at_least n r) word
least_from zero r k word le t = times_repeats (Matches r) k word t
least_from (suc n) r k word le t =
    let e : k ≡ suc n + (k - suc n) = omega arith in
    let h = times_split (Matches r) (suc n) (k - suc n) word (let Q : ℕ → Type 0 = λ m. Times (Matches r) m word in subst Q e t) in
    copies_from (suc n) r (Many r ∷ []) h.0 h.1 word h.2 h.3 (join_alone (Many r) h.1 (times_repeats (Matches r) (k - suc n) h.1 h.4))

-- ---- r{n,m}

-- so many optional parts
options_to : (n : ℕ) (r : Regex) (word : List ℕ) → Times (Matches (optional r)) n word → SomeTimes (λ k. k ≤ n) (Matches r) word
options_to zero r word t = (0, omega arith, t)
options_to (suc n) r word t =
    let first = optional_to r t.0 t.3 in
    let rest = options_to n r t.1 t.4 in
    let within = first.1.1 in
    (first.0 + rest.0, omega arith, times-add (Matches r) first.0 rest.0 t.0 t.1 word t.2 first.2 rest.2)

options_from : (n k : ℕ) (r : Regex) (word : List ℕ) → k ≤ n → Times (Matches r) k word → Times (Matches (optional r)) n word
options_from zero zero r word le t = t
options_from zero (suc k) r word le t = absurd (omega arith)
options_from (suc n) zero r word le t = ([], word, refl, inr (inl refl), options_from n zero r word (omega arith) t)
options_from (suc n) (suc k) r word le t = (t.0, t.1, t.2, inl t.3, options_from n k r t.1 (omega arith) t.4)

pub between_to : (n m : ℕ) (r : Regex) (word : List ℕ) → n ≤ m → Matches (Join (parts_of (replicate n r ++ replicate (m - n) (optional r)))) word → SomeTimes (IsBetween n m) (Matches r) word
between_to n m r word le h =
    let c = copies_to n r (replicate (m - n) (optional r)) word h in
    let o = options_to (m - n) r c.1 (exactly_to (m - n) (optional r) c.1 c.4) in
    let few = o.1 in
    (n + o.0, (omega arith, omega arith), times-add (Matches r) n o.0 c.0 c.1 word c.2 c.3 o.2)

pub between_from : (n m : ℕ) (r : Regex) (k : ℕ) (word : List ℕ) → IsBetween n m k → Times (Matches r) k word → Matches (Join (parts_of (replicate n r ++ replicate (m - n) (optional r)))) word
between_from n m r k word between t =
    let low = between.0 in
    let high = between.1 in
    let e : k ≡ n + (k - n) = omega arith in
    let h = times_split (Matches r) n (k - n) word (let Q : ℕ → Type 0 = λ i. Times (Matches r) i word in subst Q e t) in
    copies_from n r (replicate (m - n) (optional r)) h.0 h.1 word h.2 h.3 (exactly_from (m - n) (optional r) h.1 (options_from (m - n) (k - n) r h.1 (omega arith) h.4))

-- ---- what is matched at all

one_byte : (b : ℕ) → b < 256 → AreBytes (b ∷ [])
one_byte b lt = All-cons (λ c. c < 256) b [] lt (All-nil (λ c. c < 256))

mutual
  pub matches_some : (r : Regex) → HasNoEmptyClass r → HasNoEmptyEither r → (word : List ℕ) × AreBytes word × Matches r word
  matches_some Empty c e = ([], All-nil (λ b. b < 256), refl)
  matches_some (Class set) c e = (c.0 ∷ [], one_byte c.0 c.1, (c.0, c.2, refl))
  matches_some (Join parts) c e = match_some parts c e
  matches_some (Either parts) c e = one_matches parts c e.0 e.1
  matches_some (Many part) c e = ([], All-nil (λ b. b < 256), no_more)

  match_some : (rs : Parts) → EachClassOf HasSomeByte rs → HaveNoEmptyEither rs → (word : List ℕ) × AreBytes word × MatchInOrder rs word
  match_some Nothing c e = ([], All-nil (λ b. b < 256), refl)
  match_some (Then r rs) c e =
      let h = matches_some r c.0 e.0 in
      let more = match_some rs c.1 e.1 in
      (h.0 ++ more.0, All-append (λ b. b < 256) h.0 more.0 h.1 more.1, (h.0, more.0, refl, h.2, more.2))

  one_matches : (rs : Parts) → EachClassOf HasSomeByte rs → HasPart rs → HaveNoEmptyEither rs → (word : List ℕ) × AreBytes word × SomeMatches rs word
  one_matches Nothing c has e = absurd has
  one_matches (Then r rs) c has e = let h = matches_some r c.0 e.0 in (h.0, h.1, inl h.2)

-- ---- lists of bytes

repeats_bytes : (P : List ℕ → Type 0) (word : List ℕ) → ((x : List ℕ) → P x → AreBytes x) → Repeats P word → AreBytes word
repeats_bytes P word each no_more = All-nil (λ b. b < 256)
repeats_bytes P word each (one_more x y w p rest e) = subst AreBytes (sym e) (All-append (λ b. b < 256) x y (each x p) (repeats_bytes P y each rest))

mutual
  pub bytes_matched : (r : Regex) → HasByteClasses r → (word : List ℕ) → Matches r word → AreBytes word
  bytes_matched Empty h word m = subst AreBytes (sym m) (All-nil (λ b. b < 256))
  bytes_matched (Class set) h word m = subst AreBytes (sym m.2) (one_byte m.0 (All-contains (λ b. b < 256) set m.0 h m.1))
  bytes_matched (Join parts) h word m = bytes_in_order parts h word m
  bytes_matched (Either parts) h word m = bytes_of_one parts h word m
  bytes_matched (Many part) h word m = repeats_bytes (Matches part) word (bytes_matched part h) m

  bytes_in_order : (rs : Parts) → EachClassOf AreBytes rs → (word : List ℕ) → MatchInOrder rs word → AreBytes word
  bytes_in_order Nothing h word m = subst AreBytes (sym m) (All-nil (λ b. b < 256))
  bytes_in_order (Then r rs) h word m = subst AreBytes (sym m.2) (All-append (λ b. b < 256) m.0 m.1 (bytes_matched r h.0 m.0 m.3) (bytes_in_order rs h.1 m.1 m.4))

  bytes_of_one : (rs : Parts) → EachClassOf AreBytes rs → (word : List ℕ) → SomeMatches rs word → AreBytes word
  bytes_of_one Nothing h word m = absurd m
  bytes_of_one (Then r rs) h word (inl m) = bytes_matched r h.0 word m
  bytes_of_one (Then r rs) h word (inr m) = bytes_of_one rs h.1 word m
