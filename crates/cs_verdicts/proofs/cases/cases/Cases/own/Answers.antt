-- A known code tells its place; a new one stands last with its goals, and a refusal cuts both lists back.
use Rattle.std.proofs.Common.{ℕ, ◌+◌, true, false, List, sym, ap, subst, ◌∙◌, arith}
use Rattle.cs_goals.specs.declared.goal.Goal.{Goal}
use Rattle.cs_verdicts.specs.declared.cases.code.Code.{Code}
use Rattle.cs_verdicts.specs.Cases.Cases.{PlainCases}
use Rattle.cs_verdicts.specs.Cases.Met.{AreMetAdded}
use Rattle.cs_verdicts.specs.Cases.Table.{AreFirstCases, IsOwn, codes_in}
use Rattle.cs_verdicts.proofs.OnCases.Placed.{cut_back, on_ok, placed_known, placed_new, plain, taken_back, tells_new}
use Rattle.cs_verdicts.proofs.cases.cases.Cases.own.Goals as goal

pub overflow_add-case : goal.overflow_add-case
overflow_add-case c = omega (arith, c.len-count.ensures.small, c.len-count.ensures.len, c.in_ok-index.ensures.within)

pub returns-then-not-fresh-clause-own : goal.returns-then-not-fresh-clause-own
returns-then-not-fresh-clause-own c =
    let g = c.self.inside.grammar.now in
    let keys = c.self.inside.codes.keys in
    let new = c.insert_full.new.self.keys in
    let own = placed_known g keys new c.in_ok-code.code c.in_ok-index.index c.in_ok-index.fresh c.in_ok-index.ensures.added c.in_ok-index.ensures.keys c.in_ok-index.ensures.index c.if-not-fresh.true in
    subst (λ (old : PlainCases). IsOwn old c.args.derivation.now (plain g new) (c.in_ok-index.index + 1, false)) c.self.view_is
    (subst (λ (code : List ℕ). IsOwn (plain g keys) code (plain g new) (c.in_ok-index.index + 1, false)) c.in_ok-code.ensures own)

pub invariant_of-self-then-is_err : goal.invariant_of-self-then-is_err
invariant_of-self-then-is_err c =
    let g = c.self.inside.grammar.now in
    let keys = c.self.inside.codes.keys in
    let codes = taken_back g keys c.insert_full.new.self.keys c.in_ok-code.code c.in_ok-index.index c.in_ok-index.fresh c.in_ok-index.ensures.added c.in_ok-index.ensures.keys c.in_ok-index.ensures.index c.if-not-fresh.false c.truncate.new.self.keys c.truncate.ensures.keys in
    let firsts = cut_back c.self.inside.firsts c.add_met-added.new.firsts c.truncate-then-is_err.new.self c.len-before.result c.len-before.ensures.len c.add_met-added.ensures.grown c.truncate-then-is_err.ensures in
    subst (λ (l : List (Goal × ℕ)). AreFirstCases g (codes_in c.truncate.new.self.keys) l) (sym firsts)
    (subst (λ (ks : List Code). AreFirstCases g (codes_in ks) c.self.inside.firsts) (sym codes) c.self.invariant)

pub returns-then-is_err-clause-refused : goal.returns-then-is_err-clause-refused
returns-then-is_err-clause-refused c =
    let g = c.self.inside.grammar.now in
    let keys = c.self.inside.codes.keys in
    let codes = taken_back g keys c.insert_full.new.self.keys c.in_ok-code.code c.in_ok-index.index c.in_ok-index.fresh c.in_ok-index.ensures.added c.in_ok-index.ensures.keys c.in_ok-index.ensures.index c.if-not-fresh.false c.truncate.new.self.keys c.truncate.ensures.keys in
    ap (plain g) codes ∙ c.self.view_is

pub invariant_of-self-else-is_err : goal.invariant_of-self-else-is_err
invariant_of-self-else-is_err c =
    let g = c.self.inside.grammar.now in
    let after = c.add_met-added.new.firsts in
    let met = on_ok c.add_met-added.result (sym c.is_err.ensures.value ∙ c.if-is_err.false) c.add_met-added.ensures.added in
    tells_new g c.self.inside.codes.keys c.insert_full.new.self.keys c.in_ok-code.code c.in_ok-index.index c.in_ok-index.fresh c.in_ok-index.ensures.added c.in_ok-index.ensures.keys c.in_ok-index.ensures.index c.if-not-fresh.false c.self.inside.firsts after c.self.invariant
    (subst (λ (code : List ℕ). AreMetAdded g code (c.in_ok-index.index + 1) c.self.inside.firsts after) (sym c.in_ok-code.ensures) met)

pub returns-clause-own : goal.returns-clause-own
returns-clause-own c =
    let g = c.self.inside.grammar.now in
    let keys = c.self.inside.codes.keys in
    let new = c.insert_full.new.self.keys in
    let own = placed_new g keys new c.in_ok-code.code c.in_ok-index.index c.in_ok-index.fresh c.in_ok-index.ensures.added c.in_ok-index.ensures.keys c.in_ok-index.ensures.index c.if-not-fresh.false in
    subst (λ (old : PlainCases). IsOwn old c.args.derivation.now (plain g new) (c.in_ok-index.index + 1, true)) c.self.view_is
    (subst (λ (code : List ℕ). IsOwn (plain g keys) code (plain g new) (c.in_ok-index.index + 1, true)) c.in_ok-code.ensures own)
