-- What meets the chain is a frame around a core: their costs together tell the verdict, and their codes its code.
use Rattle.std.proofs.Common.{List, ℕ, ◌++◌, sym, ap, ◌∙◌, subst}
use Rattle.cs_grammar.specs.Weights.{Weighed}
use Rattle.cs_least.specs.declared.cost.cost.Cost.{Cost}
use Rattle.cs_least.specs.Cost.Rank.{plus}
use Rattle.cs_chain.specs.declared.judging.verdict.ChainVerdict.TheVariants.{Feasible}
use Rattle.cs_chain.specs.Judging.Frame.{FitsCore, verdict_by}
use Rattle.cs_chain.specs.Judging.Verdict.{IsVerdictIn}
use Rattle.cs_chain.proofs.OnJudging.Framed.{own_verdict}
use Rattle.cs_chain.proofs.judging.judge.judge_chain.Goals as goal
use Rattle.cs_chain.proofs.judging.judge.judge_chain.Goals.{After-plus}

-- the rule numbers of both parts
abbrev codes : After-plus → List ℕ
codes c = c.in_ok-frame.frame.before ++ c.in_ok-core.core.code ++ c.in_ok-frame.frame.behind

told : (c : After-plus) → IsVerdictIn c.args.embeds.now c.args.chain.now (verdict_by c.plus.result (codes c))
told c =
    let v = c.args.embeds.now in
    let chain = c.args.chain.now in
    let frame = c.in_ok-frame.frame in
    let core = c.in_ok-core.core in
    let fits = subst (λ (w : Weighed). FitsCore w chain.inner core) c.costs-costs.ensures c.in_ok-core.ensures.core in
    let cost = c.plus.ensures.cost ∙ ap (λ (w : Weighed). plus w.weights.limit frame.cost core.cost) c.costs-costs.ensures in
    subst (λ (k : Cost). IsVerdictIn v chain (verdict_by k (codes c))) (sym cost) (own_verdict v chain frame core c.in_ok-frame.ensures.frame c.requires fits)

pub returns-in-Never : goal.returns-in-Never
returns-in-Never c =
    let at = (goal.at.returns-in-Never c).After-plus in
    subst (λ (k : Cost). IsVerdictIn c.args.embeds.now c.args.chain.now (verdict_by k (codes at))) c.in-Never.is (told at)

pub returns-in-Large : goal.returns-in-Large
returns-in-Large c =
    let at = (goal.at.returns-in-Large c).After-plus in
    subst (λ (k : Cost). IsVerdictIn c.args.embeds.now c.args.chain.now (verdict_by k (codes at))) c.in-Large.is (told at)

pub returns-in_ok-joined-in-Least : goal.returns-in_ok-joined-in-Least
returns-in_ok-joined-in-Least c =
    let at = (goal.at.returns-in_ok-joined-in-Least c).After-plus in
    let v = c.args.embeds.now in
    let chain = c.args.chain.now in
    subst (λ (l : List ℕ). IsVerdictIn v chain (Feasible c.in-Least.size l)) (sym c.in_ok-joined-in-Least.ensures)
    (subst (λ (k : Cost). IsVerdictIn v chain (verdict_by k (codes at))) c.in-Least.is (told at))
