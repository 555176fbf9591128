-- Kind by kind, a line behind the head is judged by what its own check found.
use Rattle.std.proofs.Common.{ℕ, List, sym, subst, Option}
use Rattle.cs_check.specs.declared.passing.fault.ClaimFault.{ClaimFault}
use Rattle.cs_scanner.specs.Scan.Compared.{scanning}
use Rattle.cs_lines.specs.Lines.Read.{numbers_in}
use Rattle.cs_check.specs.Checking.Told.{checked_by, JudgesDerivation}
use Rattle.cs_check.specs.Checking.Running.{IsEntryJudged}
use Rattle.cs_check.proofs.OnChecking.Arms.{case_arm, derive_arm, tokens_arm, text_arm, no_text_arm, goal_arm, base_arm, negative_arm, end_arm}
use Rattle.cs_check.proofs.checking.entries.Entries.take.Goals as goal

pub returns-in-Case : goal.returns-in-Case
returns-in-Case c = λ above l t ended tells h few.
    case_arm c.args.yacc.now (scanning c.args.scanner.now) above c.args.self.now t few c.take_case.new.self
    c.in-Case.number c.in-Case.size l (rw c.in-Case.is at tells) h c.take_case.ensures

pub returns-in-Derive : goal.returns-in-Derive
returns-in-Derive c = λ above l t ended tells h few.
    derive_arm c.args.yacc.now (scanning c.args.scanner.now) above c.args.self.now t few c.args.head.now ended c.take_derivation.new.self
    c.in-Derive.rules l (rw c.in-Derive.is at tells) h c.take_derivation.result
    (subst (λ (numbers : List ℕ). JudgesDerivation c.args.self.now numbers (numbers_in c.in-Derive.rules) c.take_derivation.new.self c.take_derivation.result)
    c.deref.ensures.value c.take_derivation.ensures)

pub returns-in-Tokens : goal.returns-in-Tokens
returns-in-Tokens c = λ above l t ended tells h few.
    let file = c.args.yacc.now in
    subst (λ (o : Option ClaimFault). IsEntryJudged (checked_by file (scanning c.args.scanner.now)) above l c.args.self.now o) (sym c.unless.ensures)
    (tokens_arm file (scanning c.args.scanner.now) above c.args.self.now t few c.in-Tokens.names l (rw c.in-Tokens.is at tells) h c.tells.result c.tells.ensures)

pub returns-in_ok-scans-in-Text : goal.returns-in_ok-scans-in-Text
returns-in_ok-scans-in-Text c = λ above l t ended tells h few.
    let file = c.args.yacc.now in
    subst (λ (o : Option ClaimFault). IsEntryJudged (checked_by file (scanning c.args.scanner.now)) above l c.args.self.now o) (sym c.unless-in-Text.ensures)
    (text_arm file (scanning c.args.scanner.now) above c.args.self.now t few c.in-Text.text l (rw c.in-Text.is at tells) (rw c.in-Text.is at c.requires) h c.in_ok-scans-in-Text.field-0 c.in_ok-scans-in-Text.ensures)

pub returns-in-NoText : goal.returns-in-NoText
returns-in-NoText c = λ above l t ended tells h few.
    no_text_arm c.args.yacc.now (scanning c.args.scanner.now) above c.args.self.now t few l (rw c.in-NoText.is at tells) h

pub returns-in-Goal : goal.returns-in-Goal
returns-in-Goal c = λ above l t ended tells h few.
    goal_arm c.args.yacc.now (scanning c.args.scanner.now) above c.args.self.now t few c.args.head.now.sets ended.sets c.take_goal.new.self
    c.in-Goal.number c.in-Goal.goal c.in-Goal.verdict l (rw c.in-Goal.is at tells) h c.take_goal.result c.take_goal.ensures

pub returns-in-Base : goal.returns-in-Base
returns-in-Base c = λ above l t ended tells h few.
    base_arm c.args.yacc.now (scanning c.args.scanner.now) above c.args.self.now t few c.take_base.new.self
    c.in-Base.number c.in-Base.goal l (rw c.in-Base.is at tells) h c.take_base.result c.take_base.ensures

pub returns-in-Negative : goal.returns-in-Negative
returns-in-Negative c = λ above l t ended tells h few.
    negative_arm c.args.yacc.now (scanning c.args.scanner.now) above c.args.self.now t few c.args.head.now.sets ended.sets c.take_negative.new.self
    c.in-Negative.number
    (record { base = c.in-Negative.base; edit = c.in-Negative.edit; left = c.in-Negative.left; right = c.in-Negative.right; at = c.in-Negative.at })
    l (rw c.in-Negative.is at tells) h c.take_negative.result c.take_negative.ensures

pub returns-in-End : goal.returns-in-End
returns-in-End c = λ above l t ended tells h few.
    end_arm c.args.yacc.now (scanning c.args.scanner.now) above c.args.self.now t few c.in-End.counts l (rw c.in-End.is at tells) h c.take_end.result c.take_end.ensures
