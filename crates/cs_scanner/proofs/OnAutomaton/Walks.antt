-- What the walks find in a pattern.
use Rattle.std.proofs.Common.{◌≡◌, ℕ, ◌+◌, ◌-◌, Bool, true, false, List, [], ◌∷◌, ◌++◌, refl, sym, ap, ◌∙◌, arith, length, get_or, take, append_assoc, append-nil, length-append}
use Rattle.std.specs.Prelude.{◌&&◌, ◌||◌, if◌then◌else◌}
use Rattle.std.proofs.Math.Bool.{and-true, and-false, or-false, and_assoc, and_comm, or_assoc, or_comm, and-or_distrib_left, and-or_distrib_right}
use Rattle.std.proofs.lemmas.List.{get_or_push}
use Rattle.cs_pattern_parts.specs.Tree.Pattern.{Regex, Empty, Class, Join, Either, Many, Parts, Nothing, Then}
use Rattle.cs_scanner.specs.declared.automaton.op.Op.{Op}
use Rattle.cs_scanner.specs.declared.automaton.op.Op.TheVariants as ops
use Rattle.cs_scanner.specs.declared.automaton.op.Frame.{Frame}
use Rattle.cs_scanner.specs.Automaton.Re.{Re}
use Rattle.cs_scanner.specs.Automaton.Meaning.{re, cat_of, alt_of}
use Rattle.cs_scanner.specs.Automaton.Linear.{nullable}
use Rattle.cs_scanner.specs.Automaton.Places.{NumberedClass, letters, with_places}
use Rattle.cs_scanner.specs.Automaton.Exits.{final, exit, nexts, finals}
use Rattle.cs_scanner.specs.Automaton.Flat.{flat, flat_join, flat_either}
use Rattle.cs_scanner.specs.Automaton.Walks.{Going, Backing, frame, below, before_last, go, go_all, put, put_all, back, back_all}

-- ---- stacks

length_push : {X : Type 0} (xs : List X) (x : X) → length (xs ++ x ∷ []) - 1 ≡ length xs
length_push xs x = omega (arith, length-append xs (x ∷ []))

take_front : {X : Type 0} (xs ys : List X) → take (length xs) (xs ++ ys) ≡ xs
take_front [] ys = refl
take_front (x ∷ xs) ys = ap (λ t. x ∷ t) (take_front xs ys)

pub last_push : {X : Type 0} (xs : List X) (x d : X) → get_or (xs ++ x ∷ []) (length (xs ++ x ∷ []) - 1) d ≡ x
last_push xs x d = get_or_push xs x d (length (xs ++ x ∷ []) - 1) (sym (length_push xs x))

pub rest_push : {X : Type 0} (xs : List X) (x : X) → take (length (xs ++ x ∷ []) - 1) (xs ++ x ∷ []) ≡ xs
rest_push xs x = ap (λ n. take n (xs ++ x ∷ [])) (length_push xs x) ∙ take_front xs (x ∷ [])

-- ---- walks over two lists

module _ (S : ℕ → Bool) where
  pub go_all-append : (xs ys : List Op) (g : Going) → go_all S (xs ++ ys) g ≡ go_all S ys (go_all S xs g)
  go_all-append [] ys g = refl
  go_all-append (x ∷ xs) ys g = go_all-append xs ys (go S x g)

  pub put_all-append : (xs ys : List Op) (g : Going) → put_all S (xs ++ ys) g ≡ put_all S xs g ++ put_all S ys (go_all S xs g)
  put_all-append [] ys g = refl
  put_all-append (x ∷ xs) ys g =
      ap (λ t. put S x g.live ++ t) (put_all-append xs ys (go S x g)) ∙ sym (append_assoc (put S x g.live) (put_all S xs (go S x g)) (put_all S ys (go_all S xs (go S x g))))

  pub back_all-append : (xs ys : List Op) (g : Backing) → back_all S (xs ++ ys) g ≡ back_all S xs (back_all S ys g)
  back_all-append [] ys g = refl
  back_all-append (x ∷ xs) ys g = ap (back S x) (back_all-append xs ys g)

abbrev going : Bool → List Frame → List Bool → Going
going live fs bs = record { live = live; frames = fs; finals = bs }

abbrev backing : Bool → Bool → List Frame → List Bool → Backing
backing ahead ends fs bs = record { ahead = ahead; ends = ends; frames = fs; finals = bs }

-- ---- truth values

stays : (e : Bool) → (e && true) || false ≡ e
stays e = or-false (e && true) ∙ and-true e

-- the middle two of four change places
or_middle : (a b c d : Bool) → (a || b) || (c || d) ≡ (a || c) || (b || d)
or_middle a b c d = or_assoc a b (c || d) ∙ ap (λ t. a || t) (sym (or_assoc b c d) ∙ ap (λ t. t || d) (or_comm b c) ∙ or_assoc c b d) ∙ sym (or_assoc a c (b || d))

exits_on : (e n f m g : Bool) → (((e && n) || f) && m) || g ≡ (e && (n && m)) || ((f && m) || g)
exits_on e n f m g =
    ap (λ t. t || g) (and-or_distrib_right (e && n) f m) ∙ or_assoc ((e && n) && m) (f && m) g ∙ ap (λ t. t || ((f && m) || g)) (and_assoc e n m)

either_exits : (e n f m g acc : Bool) → (acc || ((e && n) || f)) || ((e && m) || g) ≡ acc || ((e && (n || m)) || (f || g))
either_exits e n f m g acc =
    or_assoc acc ((e && n) || f) ((e && m) || g)
    ∙ ap (λ t. acc || t) (or_middle (e && n) f (e && m) g ∙ ap (λ t. t || (f || g)) (sym (and-or_distrib_left e n m)))

join_ahead : (a n m : Bool) → (a && m) && n ≡ a && (n && m)
join_ahead a n m = and_assoc a m n ∙ ap (λ t. a && t) (and_comm m n)

either_ahead : (a n m : Bool) → (a && m) || (a && n) ≡ a && (n || m)
either_ahead a n m = or_comm (a && m) (a && n) ∙ sym (and-or_distrib_left a n m)

either_ends : (e a f g : Bool) → (e || (a && g)) || (a && f) ≡ e || (a && (f || g))
either_ends e a f g = or_assoc e (a && g) (a && f) ∙ ap (λ t. e || t) (either_ahead a f g)

join_ends : (e a f m g : Bool) → (e || (a && g)) || ((a && m) && f) ≡ e || (a && ((f && m) || g))
join_ends e a f m g = ap (λ t. (e || (a && g)) || t) (join_ahead a f m) ∙ either_ends e a (f && m) g

-- ---- to the end

module _ (S : ℕ → Bool) where
  loop_step : (e : Bool) (fs : List Frame) (bs cs : List Bool) (f : Bool) → go S ops.Loop (going e fs (bs ++ (cs ++ f ∷ []))) ≡ going (e || f) (fs ++ frame e f ∷ []) (bs ++ cs)
  loop_step e fs bs cs f =
      ap (λ t. go S ops.Loop (going e fs t)) (sym (append_assoc bs cs (f ∷ [])))
      ∙ ap (λ t. going (e || t) (fs ++ frame e t ∷ []) (before_last ((bs ++ cs) ++ f ∷ []))) (last_push (bs ++ cs) f false)
      ∙ ap (λ t. going (e || f) (fs ++ frame e f ∷ []) t) (rest_push (bs ++ cs) f)

  again_step : (x e f : Bool) (fs : List Frame) (bs : List Bool) → go S ops.Again (going x (fs ++ frame e f ∷ []) bs) ≡ going (e || f) fs bs
  again_step x e f fs bs =
      ap (λ t. going (t.entered || t.left) (below (fs ++ frame e f ∷ [])) bs) (last_push fs (frame e f) (frame false false))
      ∙ ap (λ t. going (e || f) t bs) (rest_push fs (frame e f))

  or_step : (x e acc : Bool) (fs : List Frame) (bs : List Bool) → go S ops.Or (going x (fs ++ frame e acc ∷ []) bs) ≡ going e (fs ++ frame e (acc || x) ∷ []) bs
  or_step x e acc fs bs =
      ap (λ t. going t.entered (below (fs ++ frame e acc ∷ []) ++ frame t.entered (t.left || x) ∷ []) bs) (last_push fs (frame e acc) (frame false false))
      ∙ ap (λ t. going e (t ++ frame e (acc || x) ∷ []) bs) (rest_push fs (frame e acc))

  close_step : (x e acc : Bool) (fs : List Frame) (bs : List Bool) → go S ops.Close (going x (fs ++ frame e acc ∷ []) bs) ≡ going acc fs bs
  close_step x e acc fs bs =
      ap (λ t. going t.left (below (fs ++ frame e acc ∷ [])) bs) (last_push fs (frame e acc) (frame false false))
      ∙ ap (λ t. going acc t bs) (rest_push fs (frame e acc))

module _ (S : ℕ → Bool) (rule : ℕ) where
  abbrev num : ℕ → Regex → Re NumberedClass
  num from r = with_places rule from (re r)

  abbrev nj : ℕ → Parts → Re NumberedClass
  nj from ps = with_places rule from (cat_of ps)

  abbrev ne : ℕ → Parts → Re NumberedClass
  ne from ps = with_places rule from (alt_of ps)

  mutual
    pub go_flat : (from : ℕ) (r : Regex) (e : Bool) (fs : List Frame) (bs : List Bool) → go_all S (flat from r) (going e fs (bs ++ finals S (with_places rule from (re r)))) ≡ going (exit S (with_places rule from (re r)) e) fs bs
    go_flat from Empty e fs bs = ap (λ t. going e fs t) (append-nil bs) ∙ ap (λ t. going t fs bs) (sym (stays e))
    go_flat from (Class set) e fs bs = ap (λ t. going (S from) fs t) (append-nil bs) ∙ ap (λ t. going (t || S from) fs bs) (sym (and-false e))
    go_flat from (Join ps) e fs bs = go_join from ps e fs bs
    go_flat from (Either ps) e fs bs = go_either from ps e false fs bs
    go_flat from (Many r) e fs bs =
        let f = final S (num from r) in
        let inner = fs ++ frame e f ∷ [] in
        ap (go_all S (flat from r ++ ops.Again ∷ [])) (loop_step S e fs bs (finals S (num from r)) f)
        ∙ go_all-append S (flat from r) (ops.Again ∷ []) (going (e || f) inner (bs ++ finals S (num from r)))
        ∙ ap (go S ops.Again) (go_flat from r (e || f) inner bs)
        ∙ again_step S (exit S (num from r) (e || f)) e f fs bs
        ∙ ap (λ t. going (t || f) fs bs) (sym (and-true e))

    go_join : (from : ℕ) (ps : Parts) (e : Bool) (fs : List Frame) (bs : List Bool) → go_all S (flat_join from ps) (going e fs (bs ++ finals S (nj from ps))) ≡ going (exit S (nj from ps) e) fs bs
    go_join from Nothing e fs bs = ap (λ t. going e fs t) (append-nil bs) ∙ ap (λ t. going t fs bs) (sym (stays e))
    go_join from (Then r ps) e fs bs =
        let later = from + letters (re r) in
        let cs = bs ++ finals S (nj later ps) in
        go_all-append S (flat from r) (flat_join later ps) (going e fs (bs ++ (finals S (nj later ps) ++ finals S (num from r))))
        ∙ ap (λ t. go_all S (flat_join later ps) (go_all S (flat from r) (going e fs t))) (sym (append_assoc bs (finals S (nj later ps)) (finals S (num from r))))
        ∙ ap (go_all S (flat_join later ps)) (go_flat from r e fs cs)
        ∙ go_join later ps (exit S (num from r) e) fs bs
        ∙ ap (λ t. going t fs bs) (exits_on e (nullable (num from r)) (final S (num from r)) (nullable (nj later ps)) (final S (nj later ps)))

    go_either : (from : ℕ) (ps : Parts) (e acc : Bool) (fs : List Frame) (bs : List Bool) → go_all S (flat_either from ps) (going e (fs ++ frame e acc ∷ []) (bs ++ finals S (ne from ps))) ≡ going (acc || exit S (ne from ps) e) fs bs
    go_either from Nothing e acc fs bs =
        close_step S e e acc fs (bs ++ []) ∙ ap (λ t. going acc fs t) (append-nil bs) ∙ ap (λ t. going t fs bs) (or_none acc e)
      where
        or_none : (a b : Bool) → a ≡ a || ((b && false) || false)
        or_none a b = sym (ap (λ t. a || t) (or-false (b && false) ∙ and-false b) ∙ or-false a)
    go_either from (Then r ps) e acc fs bs =
        let later = from + letters (re r) in
        let inner = fs ++ frame e acc ∷ [] in
        let cs = bs ++ finals S (ne later ps) in
        let x = exit S (num from r) e in
        go_all-append S (flat from r) (ops.Or ∷ flat_either later ps) (going e inner (bs ++ (finals S (ne later ps) ++ finals S (num from r))))
        ∙ ap (λ t. go_all S (ops.Or ∷ flat_either later ps) (go_all S (flat from r) (going e inner t))) (sym (append_assoc bs (finals S (ne later ps)) (finals S (num from r))))
        ∙ ap (go_all S (ops.Or ∷ flat_either later ps)) (go_flat from r e inner cs)
        ∙ ap (go_all S (flat_either later ps)) (or_step S x e acc fs cs)
        ∙ go_either later ps e (acc || x) fs bs
        ∙ ap (λ t. going t fs bs) (either_exits e (nullable (num from r)) (final S (num from r)) (nullable (ne later ps)) (final S (ne later ps)) acc)

  -- ---- what may come next

  mutual
    pub put_flat : (from : ℕ) (r : Regex) (e : Bool) (fs : List Frame) (bs : List Bool) → put_all S (flat from r) (going e fs (bs ++ finals S (with_places rule from (re r)))) ≡ nexts S (with_places rule from (re r)) e
    put_flat from Empty e fs bs = refl
    put_flat from (Class set) e fs bs = append-nil (if e then from ∷ [] else [])
    put_flat from (Join ps) e fs bs = put_join from ps e fs bs
    put_flat from (Either ps) e fs bs = put_either from ps e false fs bs
    put_flat from (Many r) e fs bs =
        let f = final S (num from r) in
        let inner = fs ++ frame e f ∷ [] in
        let g = going (e || f) inner (bs ++ finals S (num from r)) in
        ap (put_all S (flat from r ++ ops.Again ∷ [])) (loop_step S e fs bs (finals S (num from r)) f)
        ∙ put_all-append S (flat from r) (ops.Again ∷ []) g
        ∙ append-nil (put_all S (flat from r) g)
        ∙ put_flat from r (e || f) inner bs

    put_join : (from : ℕ) (ps : Parts) (e : Bool) (fs : List Frame) (bs : List Bool) → put_all S (flat_join from ps) (going e fs (bs ++ finals S (nj from ps))) ≡ nexts S (nj from ps) e
    put_join from Nothing e fs bs = refl
    put_join from (Then r ps) e fs bs =
        let later = from + letters (re r) in
        let cs = bs ++ finals S (nj later ps) in
        put_all-append S (flat from r) (flat_join later ps) (going e fs (bs ++ (finals S (nj later ps) ++ finals S (num from r))))
        ∙ ap (λ t. put_all S (flat from r) (going e fs t) ++ put_all S (flat_join later ps) (go_all S (flat from r) (going e fs t))) (sym (append_assoc bs (finals S (nj later ps)) (finals S (num from r))))
        ∙ ap (λ t. t ++ put_all S (flat_join later ps) (go_all S (flat from r) (going e fs (cs ++ finals S (num from r))))) (put_flat from r e fs cs)
        ∙ ap (λ t. nexts S (num from r) e ++ put_all S (flat_join later ps) t) (go_flat from r e fs cs)
        ∙ ap (λ t. nexts S (num from r) e ++ t) (put_join later ps (exit S (num from r) e) fs bs)

    put_either : (from : ℕ) (ps : Parts) (e acc : Bool) (fs : List Frame) (bs : List Bool) → put_all S (flat_either from ps) (going e (fs ++ frame e acc ∷ []) (bs ++ finals S (ne from ps))) ≡ nexts S (ne from ps) e
    put_either from Nothing e acc fs bs = refl
    put_either from (Then r ps) e acc fs bs =
        let later = from + letters (re r) in
        let inner = fs ++ frame e acc ∷ [] in
        let cs = bs ++ finals S (ne later ps) in
        let x = exit S (num from r) e in
        put_all-append S (flat from r) (ops.Or ∷ flat_either later ps) (going e inner (bs ++ (finals S (ne later ps) ++ finals S (num from r))))
        ∙ ap (λ t. put_all S (flat from r) (going e inner t) ++ put_all S (ops.Or ∷ flat_either later ps) (go_all S (flat from r) (going e inner t))) (sym (append_assoc bs (finals S (ne later ps)) (finals S (num from r))))
        ∙ ap (λ t. t ++ put_all S (ops.Or ∷ flat_either later ps) (go_all S (flat from r) (going e inner (cs ++ finals S (num from r))))) (put_flat from r e inner cs)
        ∙ ap (λ t. nexts S (num from r) e ++ put_all S (ops.Or ∷ flat_either later ps) t) (go_flat from r e inner cs)
        ∙ ap (λ t. nexts S (num from r) e ++ put_all S (flat_either later ps) t) (or_step S x e acc fs cs)
        ∙ ap (λ t. nexts S (num from r) e ++ t) (put_either later ps e (acc || x) fs bs)

  -- ---- to the front

  record EitherBack (from : ℕ) (ps : Parts) (a n : Bool) (fs : List Frame) (bs : List Bool) : Type 0 where
    acc : Bool
    here : Bool
    is : back_all S (flat_either from ps) (backing a n fs bs) ≡ backing here (n || (a && final S (ne from ps))) (fs ++ frame a acc ∷ []) (bs ++ finals S (ne from ps))
    together : acc || here ≡ a && nullable (ne from ps)

  back_or : (a n h acc : Bool) (fs : List Frame) (bs : List Bool) → back S ops.Or (backing h n (fs ++ frame a acc ∷ []) bs) ≡ backing a n (fs ++ frame a (acc || h) ∷ []) bs
  back_or a n h acc fs bs =
      ap (λ t. backing t.entered n (below (fs ++ frame a acc ∷ []) ++ frame t.entered (t.left || h) ∷ []) bs) (last_push fs (frame a acc) (frame false false))
      ∙ ap (λ t. backing a n (t ++ frame a (acc || h) ∷ []) bs) (rest_push fs (frame a acc))

  back_open : (a n h acc : Bool) (fs : List Frame) (bs : List Bool) → back S ops.Open (backing h n (fs ++ frame a acc ∷ []) bs) ≡ backing (acc || h) n fs bs
  back_open a n h acc fs bs =
      ap (λ t. backing (t.left || h) n (below (fs ++ frame a acc ∷ [])) bs) (last_push fs (frame a acc) (frame false false))
      ∙ ap (λ t. backing (acc || h) n t bs) (rest_push fs (frame a acc))

  back_loop : (a n h f : Bool) (fs : List Frame) (bs : List Bool) → back S ops.Loop (backing h f (fs ++ frame a n ∷ []) bs) ≡ backing a (n || (a && f)) fs (bs ++ f ∷ [])
  back_loop a n h f fs bs =
      ap (λ t. backing t.entered (t.left || (t.entered && f)) (below (fs ++ frame a n ∷ [])) (bs ++ f ∷ [])) (last_push fs (frame a n) (frame false false))
      ∙ ap (λ t. backing a (n || (a && f)) t (bs ++ f ∷ [])) (rest_push fs (frame a n))

  same_ends : (n a : Bool) → n ≡ n || (a && false)
  same_ends n a = sym (ap (λ t. n || t) (and-false a) ∙ or-false n)

  unmoved : (a n : Bool) (fs : List Frame) (bs : List Bool) → backing a n fs bs ≡ backing (a && true) (n || (a && false)) fs (bs ++ [])
  unmoved a n fs bs =
      ap (λ t. backing t n fs bs) (sym (and-true a))
      ∙ ap (λ t. backing (a && true) t fs bs) (same_ends n a)
      ∙ ap (λ t. backing (a && true) (n || (a && false)) fs t) (sym (append-nil bs))

  mutual
    pub back_flat : (from : ℕ) (r : Regex) (a n : Bool) (fs : List Frame) (bs : List Bool) → back_all S (flat from r) (backing a n fs bs) ≡ backing (a && nullable (with_places rule from (re r))) (n || (a && final S (with_places rule from (re r)))) fs (bs ++ finals S (with_places rule from (re r)))
    back_flat from Empty a n fs bs = unmoved a n fs bs
    back_flat from (Class set) a n fs bs =
        ap (λ t. backing t (n || (a && S from)) fs bs) (sym (and-false a)) ∙ ap (λ t. backing (a && false) (n || (a && S from)) fs t) (sym (append-nil bs))
    back_flat from (Join ps) a n fs bs = back_join from ps a n fs bs
    back_flat from (Either ps) a n fs bs =
        let b = back_either from ps a n fs bs in
        let ends = n || (a && final S (ne from ps)) in
        let cs = bs ++ finals S (ne from ps) in
        ap (back S ops.Open) b.is ∙ back_open a ends b.here b.acc fs cs ∙ ap (λ t. backing t ends fs cs) b.together
    back_flat from (Many r) a n fs bs =
        let inner = fs ++ frame a n ∷ [] in
        ap (back S ops.Loop) (back_all-append S (flat from r) (ops.Again ∷ []) (backing a n fs bs))
        ∙ ap (back S ops.Loop) (back_flat from r true false inner bs)
        ∙ back_loop a n (nullable (num from r)) (final S (num from r)) fs (bs ++ finals S (num from r))
        ∙ ap (λ t. backing a (n || (a && final S (num from r))) fs t) (append_assoc bs (finals S (num from r)) (final S (num from r) ∷ []))
        ∙ ap (λ t. backing t (n || (a && final S (num from r))) fs (bs ++ (finals S (num from r) ++ final S (num from r) ∷ []))) (sym (and-true a))

    back_join : (from : ℕ) (ps : Parts) (a n : Bool) (fs : List Frame) (bs : List Bool) → back_all S (flat_join from ps) (backing a n fs bs) ≡ backing (a && nullable (nj from ps)) (n || (a && final S (nj from ps))) fs (bs ++ finals S (nj from ps))
    back_join from Nothing a n fs bs = unmoved a n fs bs
    back_join from (Then r ps) a n fs bs =
        let later = from + letters (re r) in
        let m = nullable (nj later ps) in
        let g = final S (nj later ps) in
        let cs = bs ++ finals S (nj later ps) in
        back_all-append S (flat from r) (flat_join later ps) (backing a n fs bs)
        ∙ ap (back_all S (flat from r)) (back_join later ps a n fs bs)
        ∙ back_flat from r (a && m) (n || (a && g)) fs cs
        ∙ ap (λ t. backing t ((n || (a && g)) || ((a && m) && final S (num from r))) fs (cs ++ finals S (num from r))) (join_ahead a (nullable (num from r)) m)
        ∙ ap (λ t. backing (a && (nullable (num from r) && m)) t fs (cs ++ finals S (num from r))) (join_ends n a (final S (num from r)) m g)
        ∙ ap (λ t. backing (a && (nullable (num from r) && m)) (n || (a && ((final S (num from r) && m) || g))) fs t) (append_assoc bs (finals S (nj later ps)) (finals S (num from r)))

    back_either : (from : ℕ) (ps : Parts) (a n : Bool) (fs : List Frame) (bs : List Bool) → EitherBack from ps a n fs bs
    back_either from Nothing a n fs bs =
        record {
          acc = false;
          here = false;
          is = ap (λ t. backing false t (fs ++ frame a false ∷ []) bs) (same_ends n a) ∙ ap (λ t. backing false (n || (a && false)) (fs ++ frame a false ∷ []) t) (sym (append-nil bs));
          together = sym (and-false a);
        }
    back_either from (Then r ps) a n fs bs =
        let later = from + letters (re r) in
        let b = back_either later ps a n fs bs in
        let g = final S (ne later ps) in
        let cs = bs ++ finals S (ne later ps) in
        let inner = fs ++ frame a (b.acc || b.here) ∷ [] in
        record {
          acc = b.acc || b.here;
          here = a && nullable (num from r);
          is =
              back_all-append S (flat from r) (ops.Or ∷ flat_either later ps) (backing a n fs bs)
              ∙ ap (λ t. back_all S (flat from r) (back S ops.Or t)) b.is
              ∙ ap (back_all S (flat from r)) (back_or a (n || (a && g)) b.here b.acc fs cs)
              ∙ back_flat from r a (n || (a && g)) inner cs
              ∙ ap (λ t. backing (a && nullable (num from r)) t inner (cs ++ finals S (num from r))) (either_ends n a (final S (num from r)) g)
              ∙ ap (λ t. backing (a && nullable (num from r)) (n || (a && (final S (num from r) || g))) inner t) (append_assoc bs (finals S (ne later ps)) (finals S (num from r)));
          together = ap (λ t. t || (a && nullable (num from r))) b.together ∙ either_ahead a (nullable (num from r)) (nullable (ne later ps));
        }
