-- The body holds `error` exactly where its places hold the place of `error`.
use Rattle.std.proofs.Common.{◌≡◌, ◌<◌, List, ℕ, eqb, length, ap, sym, ◌∙◌}
use Rattle.std.specs.List.{list_any}
use Rattle.std.proofs.lemmas.List.Elements.{All-same}
use Rattle.cs_yacc.specs.Reading.SpellingView.{items_in}
use Rattle.cs_yacc.specs.Reading.Meaning.{has_spelling, error_spelling}
use Rattle.cs_yacc.specs.Reading.Places.{names_at}
use Rattle.cs_yacc.proofs.OnReading.Marks.{within_more, holds_place}
use Rattle.cs_yacc.proofs.OnReading.Places.{body_at, body_within}
use Rattle.cs_yacc.proofs.OnReading.RuleLoop.{rule_added, rule_left_out}
use Rattle.cs_yacc.proofs.reading.spelled.push_rule.Goals as goal

pub returns-in_ok-push : goal.returns-in_ok-push
returns-in_ok-push c = λ words apart is at.
    let right : List ℕ = c.body-right.result.now in
    let rest = items_in c.args.rest.now in
    let within = body_within words rest c.args.places.now at in
    let holds : c.contains.result ≡ has_spelling (names_at words right) error_spelling = c.contains.ensures.value ∙ (ap (λ (p : ℕ). list_any (λ k. eqb k p) right) is ∙ holds_place words error_spelling right apart (All-same (λ (k : ℕ). k < length words) right _ c.body-right.ensures within)) in (
      rule_added words c.args.rules.now.items _ (record { left = c.in-Some.left; right = c.body-right.result }) _ _ (c.in-Some.ensures rest) (body_at words rest c.args.places.now right at c.body-right.ensures) (sym holds ∙ c.if-not-contains.true) c.in_ok-push.ensures.items,
      within_more words c.args.rules.now.items _ (record { left = c.in-Some.left; right = c.body-right.result }) _ c.in_ok-push.ensures.items c.body-right.ensures within,
    )

pub returns-else-not-contains : goal.returns-else-not-contains
returns-else-not-contains c = λ words apart is at.
    let right : List ℕ = c.body-right.result.now in
    let rest = items_in c.args.rest.now in
    let within = body_within words rest c.args.places.now at in
    let holds : c.contains.result ≡ has_spelling (names_at words right) error_spelling = c.contains.ensures.value ∙ (ap (λ (p : ℕ). list_any (λ k. eqb k p) right) is ∙ holds_place words error_spelling right apart (All-same (λ (k : ℕ). k < length words) right _ c.body-right.ensures within)) in (
      rule_left_out words c.args.rules.now.items (record { left = c.in-Some.left; right = c.body-right.result }) _ _ (c.in-Some.ensures rest) (body_at words rest c.args.places.now right at c.body-right.ensures) (sym holds ∙ c.if-not-contains.false),
      λ was. was,
    )
