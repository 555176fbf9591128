-- What is told of a node is what its least way costs.
use Rattle.std.proofs.Common.{ℕ, List}
use Rattle.cs_least.specs.Cost.Least.{IsCost}
use Rattle.cs_least.specs.Embed.Ways.{told_cost}
use Rattle.cs_least.specs.declared.ways.step.Source.{Source}
use Rattle.cs_least.specs.declared.ways.reach.Reach.{Reach}
use Rattle.cs_least.specs.declared.ways.reach.Reach.TheVariants.{Never, Large, Least}
use Rattle.cs_least.specs.Ways.Ways.{Net, IsWay, way_cost, IsReach}

pub told_ways : (limit : ℕ) (net : Net) (sources : List Source) (n : ℕ) (r : Reach) → IsReach limit net sources n r → IsCost limit (IsWay net sources n) way_cost (told_cost r)
told_ways limit net sources n Never is = is
told_ways limit net sources n Large is = is
told_ways limit net sources n (Least c o) is = (is.0, record { reached = (is.1.way, is.1.is_way, is.1.costs); least = is.1.least })
