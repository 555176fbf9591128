-- A line that isn't the head's may follow behind the head's end, or stands nowhere.
use Rattle.std.proofs.Common.{sym, ◌∙◌}
use Rattle.std.proofs.lemmas.Bool.{false≢true}
use Rattle.cs_check.proofs.OnChecking.Placing.{nowhere_before, nowhere_behind}
use Rattle.cs_check.proofs.checking.above.Above.place.Goals as goal

pub returns-then-is_inside : goal.returns-then-is_inside
returns-then-is_inside c = λ above l k tells. (c.is_inside.ensures above l k tells).0 c.if-is_inside.true

pub returns-then-not-is_past : goal.returns-then-not-is_past
returns-then-not-is_past c = λ above l k tells.
    nowhere_before c.args.yacc.now above c.args.self.now k l
    (λ h. false≢true (sym c.if-is_inside.false ∙ (c.is_inside.ensures above l k tells).1 h))
    (λ h. false≢true (sym c.if-not-is_past.true ∙ (c.is_past.ensures above k).1 h))

pub returns-then-has_following : goal.returns-then-has_following
returns-then-has_following c = λ above l k tells.
    let follows = (c.has_following.ensures c.args.yacc.now above l k tells).0 c.if-has_following.true in
    record { behind = (c.is_past.ensures above k).0 c.if-not-is_past.false; part = follows.0; numbered = follows.1 }

pub returns-else-has_following : goal.returns-else-has_following
returns-else-has_following c = λ above l k tells.
    nowhere_behind c.args.yacc.now above c.args.self.now k l
    (λ h. false≢true (sym c.if-is_inside.false ∙ (c.is_inside.ensures above l k tells).1 h))
    (λ h. false≢true (sym c.if-has_following.false ∙ (c.has_following.ensures c.args.yacc.now above l k tells).1 h))
