-- The goals of the first entries are the first goals, and no slot is left that could lose its goal.
use Rattle.std.proofs.Common.{ℕ, List, take, sym, ap, subst, ◌∙◌}
use Rattle.std.specs.Prelude.{All}
use Rattle.std.proofs.lemmas.List.{take-map}
use Rattle.std.proofs.lemmas.List.Elements.{All-nil}
use Rattle.cs_goals.specs.declared.goal.Goal.{Goal}
use Rattle.cs_verdicts.specs.Cases.Firsts.{IsSlot, first_in, firsts_in}
use Rattle.cs_verdicts.specs.Cases.Table.{AreRuled}
use Rattle.cs_verdicts.proofs.cases.firsts.Firsts.truncate.Goals as goal

pub invariant_of-self : goal.invariant_of-self
invariant_of-self c =
    let are = ap firsts_in c.truncate.ensures.entries ∙ sym (take-map first_in c.args.len c.self.inside.table.entries) ∙ ap (take c.args.len) c.self.view_is in
    let firsts = firsts_in c.truncate.new.self.entries in
    record {
      ruled = subst (λ (l : List (Goal × ℕ)). AreRuled l) (sym are) c.requires;
      known = subst (λ (l : List ℕ). All (IsSlot firsts) l) (sym c.clear.ensures.items) (All-nil (IsSlot firsts));
    }

pub returns : goal.returns
returns c =
    ap firsts_in c.truncate.ensures.entries ∙ sym (take-map first_in c.args.len c.self.inside.table.entries) ∙ ap (take c.args.len) c.self.view_is
