-- Ways over steps that are turned round: a way there and a way back over the same steps make one another.
use Rattle.std.proofs.Common.{◌≡◌, ℕ, zero, suc, ◌+◌, List, [], ◌∷◌, Some, length, get_or, map, refl, sym, ap, ◌∙◌, subst, inl, inr, arith}
use Rattle.std.specs.Prelude.{slice_get, Contains}
use Rattle.cs_least.specs.declared.ways.step.Step.{Step}
use Rattle.cs_least.specs.declared.ways.step.Source.{Source}
use Rattle.cs_least.specs.Ways.Ways.{Net, IsNode, IsNet, Way, Begin, On, IsWay, way_cost, way_origin}
use Rattle.cs_least.specs.Ways.Turned.{turned_step, turned}
use Rattle.cs_least.proofs.OnWays.Holding.{contains_first, contains_later, contains_cases, contains_none}

-- a step is among the steps where it is turned among the turned ones, and back
pub turned_has : (s : Step) (steps : List Step) → Contains steps s → Contains (map turned_step steps) (turned_step s)
turned_has s [] h = absurd (contains_none s h)
turned_has s (t ∷ steps) h = elim (contains_cases t s steps h) [
  | inl here ↦ subst (λ (u : Step). Contains (turned_step t ∷ map turned_step steps) (turned_step u)) here (contains_first (turned_step t) (map turned_step steps))
  | inr there ↦ contains_later (turned_step t) (turned_step s) (map turned_step steps) (turned_has s steps there)
]

pub has_turned : (s : Step) (steps : List Step) → Contains (map turned_step steps) s → Contains steps (turned_step s)
has_turned s [] h = absurd (contains_none s h)
has_turned s (t ∷ steps) h = elim (contains_cases (turned_step t) s (map turned_step steps) h) [
  | inl here ↦ subst (λ (u : Step). Contains (t ∷ steps) (turned_step u)) here (contains_first t steps)
  | inr there ↦ contains_later t (turned_step s) steps (has_turned s steps there)
]

pub length-turned : (steps : List Step) → length (map turned_step steps) ≡ length steps
length-turned [] = refl
length-turned (t ∷ steps) = ap suc (length-turned steps)

at_turned : (steps : List Step) (k : ℕ) (d : Step) → get_or (map turned_step steps) k d ≡ turned_step (get_or steps k (turned_step d))
at_turned [] k d = refl
at_turned (t ∷ steps) zero d = refl
at_turned (t ∷ steps) (suc k) d = at_turned steps k d

pub IsNet-turned : (net : Net) → IsNet net → IsNet (turned net)
IsNet-turned net is k d within =
    let h = is k (turned_step d) (omega (arith, within, length-turned net.steps)) in
    subst (λ (s : Step). IsNode net.nodes s.from × IsNode net.nodes s.to) (sym (at_turned net.steps k d)) (h.1, h.0)

module _ (net : Net) (source : Source) where
  -- a way in the turned net to where a way from the source ends goes on to the source's node
  pub record Back (sources : List Source) (c i : ℕ) : Type 0 where
    pub way : Way
    pub is_way : IsWay (turned net) sources source.node way
    pub cost : way_cost way + source.cost ≡ c
    pub origin : way_origin way ≡ i

  pub way_back : (v : Way) (sources : List Source) (n : ℕ) → IsWay net (source ∷ []) n v → (u : Way) → IsWay (turned net) sources n u → Back sources (way_cost u + way_cost v) (way_origin u)
  way_back (Begin zero s) sources n is u hu =
      let same : source ≡ s = (let e = is.0 in cc) in
      let here : n ≡ source.node = sym is.1 ∙ ap (λ (z : Source). z.node) (sym same) in
      record { way = u; is_way = subst (λ m. IsWay (turned net) sources m u) here hu; cost = omega (arith, ap (λ (z : Source). z.cost) same); origin = refl }
  way_back (Begin (suc i) s) sources n is u hu = absurd (let e = is.0 in cc)
  way_back (On v s) sources n is u hu =
      let on : IsWay (turned net) sources s.from (On u (turned_step s)) = (turned_has s net.steps is.0, refl, subst (λ m. IsWay (turned net) sources m u) (sym is.1) hu) in
      let rest = way_back v sources s.from is.2 (On u (turned_step s)) on in
      record { way = rest.way; is_way = rest.is_way; cost = omega (arith, rest.cost); origin = rest.origin }

  -- and a way in the turned net to the source's node is such a one
  pub record There (sources : List Source) (c i : ℕ) : Type 0 where
    pub begin : Source
    pub at : slice_get sources i ≡ Some begin
    pub way : Way
    pub is_way : IsWay net (source ∷ []) begin.node way
    pub cost : begin.cost + way_cost way ≡ c

  way_from : (u : Way) (sources : List Source) (m : ℕ) → IsWay (turned net) sources m u → (v : Way) → IsWay net (source ∷ []) m v → There sources (way_cost u + way_cost v) (way_origin u)
  way_from (Begin i s) sources m is v hv = record { begin = s; at = is.0; way = v; is_way = subst (λ n. IsWay net (source ∷ []) n v) (sym is.1) hv; cost = refl }
  way_from (On u s) sources m is v hv =
      let on : IsWay net (source ∷ []) s.from (On v (turned_step s)) = (has_turned s net.steps is.0, refl, subst (λ n. IsWay net (source ∷ []) n v) (sym is.1) hv) in
      let rest = way_from u sources s.from is.2 (On v (turned_step s)) on in
      record { begin = rest.begin; at = rest.at; way = rest.way; is_way = rest.is_way; cost = omega (arith, rest.cost) }

  pub way_there : (u : Way) (sources : List Source) → IsWay (turned net) sources source.node u → There sources (way_cost u + source.cost) (way_origin u)
  way_there u sources is = way_from u sources source.node is (Begin 0 source) (refl, refl)
