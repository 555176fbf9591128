-- Of two neighbours in a framed sentence the second is in the first one's line of closed sets.
use Rattle.std.proofs.Common.{List, ℕ, subst}
use Rattle.cs_grammar.specs.Sentence.{framed, IsFollowed}
use Rattle.cs_closed.proofs.OnClosed.Held.{held_framed}
use Rattle.cs_closed.proofs.closed.laws.closed_sets_part.Goals as goal

pub returns : goal.returns
returns c g s a b closed apart tokens sentence followed =
    apart (held_framed s g closed sentence.0 sentence.1 a b (subst (λ (l : List ℕ). IsFollowed a b (framed l)) sentence.2 followed))
