-- A goal whose key is there has a number, and one with a new key stands last; the slots stay true.
use Rattle.std.proofs.Common.{◌≡◌, ℕ, List, [], ◌∷◌, ◌++◌, inl, inr, refl, sym, subst, ◌∙◌}
use Rattle.indexmap.proofs.CallerLemmas.{insert_entry-new}
use Rattle.cs_goals.specs.declared.goal.Goal.{Goal}
use Rattle.cs_verdicts.specs.contracts.cases.firsts.KeyPartialEq.TheImpl as keys
use Rattle.cs_verdicts.specs.Cases.Firsts.{firsts_in}
use Rattle.cs_verdicts.specs.Cases.Table.{IsAdded, IsRuled, HasNumber, HasNone}
use Rattle.cs_verdicts.proofs.OnCases.Adding.{firsts_more}
use Rattle.cs_verdicts.proofs.OnCases.Keyed.{known_key, new_key}
use Rattle.cs_verdicts.proofs.cases.firsts.Firsts.put.Goals as goal
use Rattle.cs_verdicts.proofs.cases.firsts.Firsts.put.Goals.{In_ok-insert}

pub returns-then-contains_key-clause-added : goal.returns-then-contains_key-clause-added
returns-then-contains_key-clause-added c =
    let es = c.self.inside.table.entries in
    let has = known_key c.args.goal c.key_of-key.result es c.key_of-key.ensures (sym c.contains_key.ensures ∙ c.if-contains_key.true) in
    inl (subst (λ (old : List (Goal × ℕ)). HasNumber old c.args.goal) c.self.view_is has, refl)

put_last : (c : In_ok-insert) → HasNone (firsts_in c.self.inside.table.entries) c.args.goal × (firsts_in c.insert.new.self.entries ≡ firsts_in c.self.inside.table.entries ++ (c.args.goal, c.args.case) ∷ [])
put_last c =
    new_key c.args.goal c.key_of-key.result c.self.inside.table.entries c.insert.new.self.entries c.args.case c.key_of-key.ensures (sym c.contains_key.ensures ∙ c.if-contains_key.false)
    (λ none. c.in_ok-insert.ensures.entries ∙ insert_entry-new keys.eq-value.it c.self.inside.table c.key_of-key.result c.args.case none)

pub invariant_of-self-2 : goal.invariant_of-self-2
invariant_of-self-2 c =
    firsts_more (firsts_in c.self.inside.table.entries) (firsts_in c.insert.new.self.entries) c.args.goal c.args.case c.self.inside.recent.items (put_last c).1
    (subst (λ (old : List (Goal × ℕ)). IsRuled old c.args.goal) (sym c.self.view_is) c.requires) c.self.invariant

pub returns-clause-added : goal.returns-clause-added
returns-clause-added c =
    subst (λ (old : List (Goal × ℕ)). IsAdded old c.args.goal c.args.case (firsts_in c.insert.new.self.entries)) c.self.view_is (inr (put_last c))
