-- The first steps of least ways.
use Rattle.std.proofs.Common.{◌≡◌, ◌≢◌, ℕ, ◌+◌, ◌-◌, ◌<◌, ◌≤◌, List, Option, Some, None, length, get_or, replicate, refl, sym, ap, ◌∙◌, subst, ⊎_elim, arith, below_more}
use Rattle.std.specs.Prelude.{slice_get, Contains, MatchOption}
use Rattle.std.proofs.Math.ListN.{set}
use Rattle.std.proofs.lemmas.Bool.{cases_eq, cases_lt}
use Rattle.std.proofs.lemmas.List.{length-set, get_or-set_same, get_or-set_other, length-replicate, get_or-replicate, get_or_past}
use Rattle.std.proofs.lemmas.List.Elements.{All-contains}
use Rattle.std.proofs.lemmas.Option.{slice_get_within, slice_get-get_or, slice_get_read, get_or_from_slice_get}
use Rattle.cs_least.specs.declared.ways.step.Step.{Step}
use Rattle.cs_least.specs.declared.ways.step.Source.{Source}
use Rattle.cs_least.specs.declared.ways.reach.Reach.{Reach}
use Rattle.cs_least.specs.declared.ways.reach.Reach.TheVariants.{Never, Large, Least}
use Rattle.cs_least.specs.Ways.Ways.{Net, IsNode, IsNet, Way, On, IsWay, way_cost, IsReach, reach_at, AreLeastWays, IsLastStep, HasNoStep, IsFirstStep, IsFirstTold, AreFirstSteps}
use Rattle.cs_least.specs.Ways.Firsts.{AreTight, IsTight}

-- what stands at a place of a list is in it, and what is in it stands at a place
pub contains_at : {X : Type 0} (xs : List X) (i : ℕ) (x : X) → slice_get xs i ≡ Some x → Contains xs x
contains_at xs i x at = (i, slice_get_within xs i x at, get_or_from_slice_get xs i x x at)

pub get_contained : {X : Type 0} (xs : List X) (x : X) → (has : Contains xs x) → slice_get xs has.0 ≡ Some x
get_contained xs x has = slice_get_read xs (length xs) has.0 x refl has.1 (sym has.2)

-- a step of the list leads to a node
pub step_to : (net : Net) (many i : ℕ) (s : Step) → IsNet net → many ≡ net.nodes → slice_get net.steps i ≡ Some s → IsNode many s.to
step_to net many i s is_net size at =
    subst (λ n. IsNode n s.to) (sym size) (All-contains (λ (t : Step). IsNode net.nodes t.from × IsNode net.nodes t.to) net.steps s is_net (contains_at net.steps i s at)).1

-- no tight step to n stands at an index below i
pub record NoTight (steps : List Step) (table : List Reach) (n i : ℕ) : Type 0 where
  pub none : (k : ℕ) → (s : Step) → k < i → slice_get steps k ≡ Some s → s.to ≡ n → IsTight table s → ⊥

-- the step at index j is tight, and the first to n
pub record IsFirstTight (steps : List Step) (table : List Reach) (n j : ℕ) : Type 0 where
  pub step : Step
  pub at : slice_get steps j ≡ Some step
  pub to : step.to ≡ n
  pub tight : IsTight table step
  pub before : NoTight steps table n j

abbrev pub IsFirstSoFar : List Step → List Reach → ℕ → ℕ → Option ℕ → Type 0
IsFirstSoFar steps table i n None = NoTight steps table n i
IsFirstSoFar steps table i n (Some j) = IsFirstTight steps table n j

pub record FirstsSoFar (steps : List Step) (table : List Reach) (firsts : List (Option ℕ)) (i : ℕ) : Type 0 where
  pub many : length firsts ≡ length table
  pub each : (p : ℕ) → IsFirstSoFar steps table i (p + 1) (get_or firsts p None)

module _ (steps : List Step) (table : List Reach) where
  none_yet : (n : ℕ) (o : Option ℕ) → o ≡ None → IsFirstSoFar steps table 0 n o
  none_yet n None e = record { none = λ k s below at to tight. omega (arith, below) }
  none_yet n (Some j) e = absurd cc

  read_none : (many p : ℕ) (none : Option ℕ) → get_or (replicate many none) p none ≡ none
  read_none many p none =
      ⊎_elim
      (λ within. get_or-replicate many p none none within)
      (λ past. get_or_past (replicate many none) p none (omega (arith, past, length-replicate many none)))
      (cases_lt p many)

  pub firsts_start : (many : ℕ) → many ≡ length table → FirstsSoFar steps table (replicate many None) 0
  firsts_start many size = record {
    many = length-replicate many None ∙ size;
    each = λ p. none_yet (p + 1) (get_or (replicate many None) p None) (read_none many p None);
  }

  module _ (firsts : List (Option ℕ)) (i : ℕ) (s : Step) (at : slice_get steps i ≡ Some s) (so_far : FirstsSoFar steps table firsts i) where
    none_more : (n : ℕ) → (s.to ≡ n → IsTight table s → ⊥) → NoTight steps table n i → NoTight steps table n (i + 1)
    none_more n here before = record {
      none = λ k t within.
          below_more (λ m. (u : Step) → slice_get steps m ≡ Some u → u.to ≡ n → IsTight table u → ⊥) i
          (λ m lt u. before.none m u lt)
          (λ u e. let same : s ≡ u = cc in subst (λ (w : Step). w.to ≡ n → IsTight table w → ⊥) same here)
          k within t;
    }

    kept : (n : ℕ) (o : Option ℕ) → (o ≡ None → s.to ≡ n → IsTight table s → ⊥) → IsFirstSoFar steps table i n o → IsFirstSoFar steps table (i + 1) n o
    kept n None here known = none_more n (here refl) known
    kept n (Some j) here known = known

    -- the step is not the first tight one to its node
    pub firsts_kept : 0 < s.to → (get_or firsts (s.to - 1) None ≡ None → IsTight table s → ⊥) → FirstsSoFar steps table firsts (i + 1)
    firsts_kept above not_first = record {
      many = so_far.many;
      each = λ p. kept (p + 1) (get_or firsts p None)
          (λ unset is. not_first (ap (λ m. get_or firsts m None) (let e : s.to - 1 ≡ p = omega (arith, is) in e) ∙ unset))
          (so_far.each p);
    }

    none_at : (n : ℕ) (o : Option ℕ) → o ≡ None → IsFirstSoFar steps table i n o → NoTight steps table n i
    none_at n None e known = known
    none_at n (Some j) e known = absurd cc

    -- the step is
    pub firsts_more : IsNode (length table) s.to → get_or firsts (s.to - 1) None ≡ None → IsTight table s → FirstsSoFar steps table (set firsts (s.to - 1) (Some i)) (i + 1)
    firsts_more node unset tight = record {
      many = length-set firsts (s.to - 1) (Some i) ∙ so_far.many;
      each = λ p. ⊎_elim (λ same. here p same) (λ other. there p other) (cases_eq p (s.to - 1));
    }
      where
        here : (p : ℕ) → p ≡ s.to - 1 → IsFirstSoFar steps table (i + 1) (p + 1) (get_or (set firsts (s.to - 1) (Some i)) p None)
        here p same =
            let read : get_or (set firsts (s.to - 1) (Some i)) p None ≡ Some i =
            ap (λ m. get_or (set firsts (s.to - 1) (Some i)) m None) same ∙ get_or-set_same firsts (s.to - 1) (Some i) None (omega (arith, node, so_far.many)) in
            let before = none_at (p + 1) (get_or firsts p None) (ap (λ m. get_or firsts m None) same ∙ unset) (so_far.each p) in
            let first : IsFirstTight steps table (p + 1) i = record { step = s; at = at; to = omega (arith, same, node); tight = tight; before = before } in
            subst (IsFirstSoFar steps table (i + 1) (p + 1)) (sym read) first

        there : (p : ℕ) → (p ≡ s.to - 1 → ⊥) → IsFirstSoFar steps table (i + 1) (p + 1) (get_or (set firsts (s.to - 1) (Some i)) p None)
        there p other =
            let apart : p ≢ s.to - 1 = other in
            subst (IsFirstSoFar steps table (i + 1) (p + 1)) (sym (get_or-set_other firsts (s.to - 1) p (Some i) None apart))
            (kept (p + 1) (get_or firsts p None) (λ unset is. absurd (other (omega (arith, is)))) (so_far.each p))

-- tight steps are those by which least ways end
module _ (limit : ℕ) (net : Net) (sources : List Source) (table : List Reach) (exact : AreLeastWays limit net sources table) (s : Step) (c o : ℕ) where
  from_tight : (r : Reach) → IsReach limit net sources s.from r → AreTight r s.cost (Least c o) → (w : Way) × IsWay net sources s.from w × (way_cost w + s.cost ≡ c)
  from_tight Never is tight = absurd tight
  from_tight Large is tight = absurd tight
  from_tight (Least before p) is tight = (is.1.way, is.1.is_way, omega (arith, is.1.costs, tight))

  pub tight_last : (n : ℕ) → Contains net.steps s → s.to ≡ n → reach_at table n ≡ Least c o → IsTight table s → IsLastStep net sources n c s
  tight_last n has to told tight =
      let f = from_tight (reach_at table s.from) (exact.exact s.from) (subst (AreTight (reach_at table s.from) s.cost) (ap (reach_at table) to ∙ told) tight) in
      (f.0, (has, to, f.1), f.2)

  to_tight : (n : ℕ) (r : Reach) → IsReach limit net sources s.from r → IsReach limit net sources n (Least c o) → IsLastStep net sources n c s → AreTight r s.cost (Least c o)
  to_tight n Never is whole last = absurd (is last.0 last.1.2)
  to_tight n Large is whole last = absurd (omega (arith, is.2 last.0 last.1.2, whole.0, last.2))
  to_tight n (Least before p) is whole last =
      omega (arith, is.1.least last.0 last.1.2, whole.1.least (On is.1.way s) (last.1.0, last.1.1, is.1.is_way), is.1.costs, last.2)

  pub last_tight : (n : ℕ) → reach_at table n ≡ Least c o → IsLastStep net sources n c s → IsTight table s
  last_tight n told last =
      let whole = subst (IsReach limit net sources n) told (exact.exact n) in
      subst (AreTight (reach_at table s.from) s.cost) (sym (ap (reach_at table) last.1.1 ∙ told)) (to_tight n (reach_at table s.from) (exact.exact s.from) whole last)

-- behind the last step
module _ (limit : ℕ) (net : Net) (sources : List Source) (table : List Reach) (exact : AreLeastWays limit net sources table) (i : ℕ) (all : length net.steps ≤ i) where
  index_of : (s : Step) → Contains net.steps s → (k : ℕ) × (k < length net.steps) × (slice_get net.steps k ≡ Some s)
  index_of s has = (has.0, has.1, slice_get-get_or net.steps has.0 s has.1 ∙ ap Some has.2)

  told_first : (n c o : ℕ) (f : Option ℕ) → reach_at table n ≡ Least c o → IsFirstSoFar net.steps table i n f → MatchOption f (HasNoStep net sources n c) (IsFirstStep net sources n c)
  told_first n c o None told known = λ s last.
      let k = index_of s last.1.0 in
      known.none k.0 s (omega (arith, k.1, all)) k.2 last.1.1 (last_tight limit net sources table exact s c o n told last)
  told_first n c o (Some j) told known = record {
    step = known.step;
    at = known.at;
    ends = tight_last limit net sources table exact known.step c o n (contains_at net.steps j known.step known.at) known.to told known.tight;
    first = λ k s below at last. known.before.none k s below at last.1.1 (last_tight limit net sources table exact s c o n told last);
  }

  not_large : (r : Reach) (cost : ℕ) → AreTight r cost Large → ⊥
  not_large Never cost h = h
  not_large Large cost h = h
  not_large (Least c o) cost h = h

  not_never : (r : Reach) (cost : ℕ) → AreTight r cost Never → ⊥
  not_never Never cost h = h
  not_never Large cost h = h
  not_never (Least c o) cost h = h

  -- no tight step leads to a node that isn't told a cost
  none_first : (n : ℕ) (f : Option ℕ) → ((s : Step) → s.to ≡ n → IsTight table s → ⊥) → IsFirstSoFar net.steps table i n f → f ≡ None
  none_first n None none known = refl
  none_first n (Some j) none known = absurd (none known.step known.to known.tight)

  first_told : (n : ℕ) (r : Reach) (f : Option ℕ) → reach_at table n ≡ r → IsFirstSoFar net.steps table i n f → IsFirstTold net sources n r f
  first_told n (Least c o) f told known = told_first n c o f told known
  first_told n Large f told known =
      none_first n f (λ s to tight. not_large (reach_at table s.from) s.cost (subst (AreTight (reach_at table s.from) s.cost) (ap (reach_at table) to ∙ told) tight)) known
  first_told n Never f told known =
      none_first n f (λ s to tight. not_never (reach_at table s.from) s.cost (subst (AreTight (reach_at table s.from) s.cost) (ap (reach_at table) to ∙ told) tight)) known

  pub firsts_all : (firsts : List (Option ℕ)) → FirstsSoFar net.steps table firsts i → AreFirstSteps net sources table firsts
  firsts_all firsts so_far = record {
    many = so_far.many ∙ exact.many;
    each = λ n node.
        first_told n (reach_at table n) (get_or firsts (n - 1) None) refl
        (subst (λ m. IsFirstSoFar net.steps table i m (get_or firsts (n - 1) None)) (let e : n - 1 + 1 ≡ n = omega (arith, node.0) in e) (so_far.each (n - 1)));
  }
