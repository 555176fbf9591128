-- From the end on, a symbol's cost joins that of those behind it, which are none at the end and cost 0.
use Rattle.std.proofs.Common.{◌≡◌, ◌+◌, ◌-◌, List, length, get_or, drop, replicate, sym, ap, ◌∙◌, subst, arith}
use Rattle.std.proofs.Math.ListN.{set}
use Rattle.std.proofs.lemmas.List.{length-set, length-replicate}
use Rattle.cs_least.specs.declared.cost.cost.Cost.{Cost}
use Rattle.cs_least.specs.declared.cost.cost.Cost.TheVariants.{Never, Least}
use Rattle.cs_least.specs.Cost.Trees.{AreTreesCost}
use Rattle.cs_grammar.specs.declared.symbol.Symbol.TheVariants.{Token}
use Rattle.cs_least.proofs.OnEmbed.Rests.{filled_up, rest_none, rest_more}
use Rattle.cs_least.proofs.embed.inwards.put_rest_costs.Goals as goal

pub loop-place-init : goal.loop-place-init
loop-place-init c =
    let xs = c.args.symbols.now in
    let n = length xs + 1 in
    let items : c.resize.new.self.items ≡ replicate n (Least 0) =
    c.in_ok-resize.ensures.items ∙ rw (c.clear.ensures.items, c.clear.ensures.len) (filled_up n (Least 0)) in
    record {
      many = ap (λ (l : List Cost). length l) items ∙ length-replicate n (Least 0);
      each = λ k above below. subst (λ (l : List Cost). AreTreesCost c.args.costs.now (drop k xs) (get_or l k Never)) (sym items) (rest_none c.args.costs.now xs k above below);
    }

pub loop-place-preserved : goal.loop-place-preserved
loop-place-preserved c =
    let v = c.args.costs.now in
    let xs = c.args.symbols.now in
    let rest = c.loop-place.rest.items in
    let j = c.loop-place.place - 1 in
    let above_zero = c.loop-place-test.true in
    let sum = c.plus.ensures.cost in
    record {
      many = length-set rest j c.plus.result ∙ c.loop-place.invariant.many;
      each = λ k above below.
          subst (λ (x : Cost). AreTreesCost v (drop k xs) (get_or (set rest j x) k Never)) (sym sum)
          (rest_more v xs rest j (Token 0) c.cost.result c.index.result.now (omega (arith, above_zero)) c.loop-place.invariant.many c.cost.ensures c.index.ensures (λ m low high. c.loop-place.invariant.each m (omega (arith, low)) high) k above below);
    }
