-- Neither the cost nor the codes depend on the inner rule, so they are those of any chain that differs in it alone.
use Rattle.std.proofs.Common.{ℕ, List, sym, subst}
use Rattle.cs_grammar.specs.Grammar.{PlainGrammar}
use Rattle.cs_chain.specs.Judging.Cuts.{AreRulesOf}
use Rattle.cs_chain.specs.Judging.Frame.{AreFrameCodes, symbols_of}
use Rattle.cs_chain.proofs.OnJudging.Framed.{again, codes_again, frame_small}
use Rattle.cs_chain.proofs.OnJudging.Given.{rules_given}
use Rattle.cs_chain.proofs.judging.frame.Frame.new.Goals as goal
use Rattle.cs_chain.proofs.judging.frame.Frame.new.Goals.{in-Least+in_ok-frame_codes-in-Least, in_default}

pub frame_codes-requires-clause-small : goal.frame_codes-requires-clause-small
frame_codes-requires-clause-small c =
    frame_small c.args.embeds.now (symbols_of c.rules_of-rules.result) c.frame_cost-cost.result c.in-Least.field-0 c.frame_cost-cost.ensures.cost c.in-Least.is

pub returns-clause-frame : goal.returns-clause-frame
returns-clause-frame c = λ r is.
    let v = c.args.embeds.now in
    let chain = c.args.chain.now in
    let rules = c.rules_of-rules.result in
    let are = subst (λ (s : PlainGrammar). AreRulesOf s chain rules) c.grammar.ensures c.rules_of-rules.ensures.rules in
    record {
      rules = again v.grammar chain (rules_given v.grammar chain rules are) r is;
      cost = c.frame_cost-cost.ensures.cost;
      codes = elim c.match-cost.branch [
        | in-Least+in_ok-frame_codes-in-Least w ↦
            (λ n e. codes_again v chain r (symbols_of rules) _ _ (subst (λ (p : List ℕ × List ℕ). AreFrameCodes v chain (symbols_of rules) p.0 p.1) (sym w.before-is) w.in_ok-frame_codes-in-Least.ensures))
        | in_default w ↦ (λ n e. absurd (w.in_default.not-Least n e))
      ];
    }
