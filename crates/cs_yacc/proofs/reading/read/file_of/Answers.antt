-- The rules kept, the tokens in use and the left sides are the parts, and there are few of each.
use Rattle.std.proofs.Common.{◌≡◌, ◌<◌, ◌≤◌, ◌^◌, ◌∙◌, map, length, ap, subst, sym, refl, arith}
use Rattle.std.specs.Prelude.{List, None}
use Rattle.std.specs.List.{All}
use Rattle.std.proofs.lemmas.List.Elements.{All-weaker}
use Rattle.std.proofs.lemmas.List.{length-map}
use Rattle.cs_yacc.specs.declared.items.item.Placed as held
use Rattle.cs_yacc.specs.declared.reading.spelled.SpelledRule as held_rule
use Rattle.cs_yacc.specs.Reading.Marks.{AreWithin, AreMarksOf}
use Rattle.cs_yacc.specs.Items.Items.{items_of}
use Rattle.cs_yacc.specs.declared.reading.name.TokenName.{TokenName}
use Rattle.cs_yacc.specs.Items.Views.{placed_all}
use Rattle.cs_yacc.specs.Reading.Meaning.{SpelledRule, has_spelling, kept, used, limit_passed, file_with, file_or_limit}
use Rattle.cs_yacc.specs.Reading.File.{IsFile}
use Rattle.cs_yacc.specs.Reading.Finding.{IsGiven, placed_of_some}
use Rattle.cs_yacc.specs.Reading.RuleView.{rules_in}
use Rattle.cs_yacc.specs.Reading.Meaning.{is_in_use}
use Rattle.cs_yacc.proofs.OnReading.Counts.{few_in_use, few_nonterminals, few_rules, few_spelled, few_held, short_rights}
use Rattle.cs_yacc.proofs.OnReading.Whole.{left_same}
use Rattle.cs_yacc.proofs.reading.read.file_of.Goals as goal

pub used-requires-clause-within : goal.used-requires-clause-within
used-requires-clause-within c = subst (AreWithin c.args.meant.now.words) (sym c.deref-3.ensures.value) c.in_ok-rules.ensures.within

pub tokens-requires : goal.tokens-requires
tokens-requires c =
    let words : List TokenName = c.args.meant.now.words in
    let those : List TokenName = used (rules_in words c.in_ok-rules.rules.items) in
    let told : AreMarksOf c.deref-4.result.now words those = c.deref-4.ensures.value ∙ (c.in_ok-used.ensures ∙ ap (λ (xs : List held_rule.SpelledRule). map (has_spelling (used (rules_in words xs))) words) c.deref-3.ensures.value) in
    ap length told ∙ length-map words (has_spelling those)

pub invariant_of-parts-clause-few_tokens : goal.invariant_of-parts-clause-few_tokens
invariant_of-parts-clause-few_tokens c =
    let words : List TokenName = c.args.meant.now.words in
    let those : List TokenName = used (rules_in words c.in_ok-rules.rules.items) in
    let told : AreMarksOf c.deref-4.result.now words those = c.deref-4.ensures.value ∙ (c.in_ok-used.ensures ∙ ap (λ (xs : List held_rule.SpelledRule). map (has_spelling (used (rules_in words xs))) words) c.deref-3.ensures.value) in
    omega (arith, ap length (c.in_ok-tokens.ensures those told), few_in_use (is_in_use those c.args.lefts) words, c.requires.few_words)

pub invariant_of-parts-clause-few_lefts : goal.invariant_of-parts-clause-few_lefts
invariant_of-parts-clause-few_lefts c =
    omega (arith, few_held c.args.meant.now.items.items, ap length c.requires.lefts, few_nonterminals (items_of (placed_all c.args.meant.now.items.items)), c.requires.few)

pub invariant_of-parts-clause-few_rules : goal.invariant_of-parts-clause-few_rules
invariant_of-parts-clause-few_rules c =
    omega (arith, few_held c.deref.result.now, ap length c.deref.ensures.value, few_spelled c.args.meant.now.words c.in_ok-rules.rules.items _ _ c.in_ok-rules.ensures.rules (few_rules (items_of (placed_all c.deref.result.now))), c.requires.few)

pub invariant_of-parts-clause-within : goal.invariant_of-parts-clause-within
invariant_of-parts-clause-within c = c.in_ok-rules.ensures.within

pub invariant_of-parts-clause-short : goal.invariant_of-parts-clause-short
invariant_of-parts-clause-short c =
    let all = items_of (placed_all c.deref.result.now) in
    let short : All (λ (r : SpelledRule). length r.right ≤ length all) (kept all) = short_rights (length all) all (omega arith) in
    let below : length all < 2 ^ 32 = omega (arith, few_held c.deref.result.now, ap length c.deref.ensures.value, c.requires.few) in
    rw c.in_ok-rules.ensures.rules (All-weaker (λ (r : SpelledRule). length r.right ≤ length all) (λ (r : SpelledRule). length r.right < 2 ^ 32) (λ r le. omega (arith, le, below)) (kept all) short)

pub file_or_limit-requires : goal.file_or_limit-requires
file_or_limit-requires c =
    let words : List TokenName = c.args.meant.now.words in
    let items : List held.Placed = c.args.meant.now.items.items in
    let kept_is : rules_in words c.in_ok-rules.rules.items ≡ kept (items_of (placed_all items)) = c.in_ok-rules.ensures.rules ∙ ap (λ (xs : List held.Placed). kept (items_of (placed_all xs))) c.deref.ensures.value in
    let those : List TokenName = used (rules_in words c.in_ok-rules.rules.items) in
    let told : AreMarksOf c.deref-4.result.now words those = c.deref-4.ensures.value ∙ (c.in_ok-used.ensures ∙ ap (λ (xs : List held_rule.SpelledRule). map (has_spelling (used (rules_in words xs))) words) c.deref-3.ensures.value) in
    subst (λ p. limit_passed p ≡ None → IsFile (file_with p))
    (sym (left_same words (placed_of_some c.args.start) (placed_all items) (record { tokens = c.in_ok-tokens.tokens; nonterminals = c.args.lefts; start = placed_of_some c.args.start; rules = rules_in words c.in_ok-rules.rules.items })
    those kept_is refl c.requires.lefts (c.in_ok-tokens.ensures those told) refl))
    c.requires.fits

pub returns : goal.returns
returns c =
    let words : List TokenName = c.args.meant.now.words in
    let items : List held.Placed = c.args.meant.now.items.items in
    let kept_is : rules_in words c.in_ok-rules.rules.items ≡ kept (items_of (placed_all items)) = c.in_ok-rules.ensures.rules ∙ ap (λ (xs : List held.Placed). kept (items_of (placed_all xs))) c.deref.ensures.value in
    let those : List TokenName = used (rules_in words c.in_ok-rules.rules.items) in
    let told : AreMarksOf c.deref-4.result.now words those = c.deref-4.ensures.value ∙ (c.in_ok-used.ensures ∙ ap (λ (xs : List held_rule.SpelledRule). map (has_spelling (used (rules_in words xs))) words) c.deref-3.ensures.value) in
    subst (λ p. IsGiven c.file_or_limit.result (file_or_limit p))
    (left_same words (placed_of_some c.args.start) (placed_all items) (record { tokens = c.in_ok-tokens.tokens; nonterminals = c.args.lefts; start = placed_of_some c.args.start; rules = rules_in words c.in_ok-rules.rules.items })
    those kept_is refl c.requires.lefts (c.in_ok-tokens.ensures those told) refl)
    c.file_or_limit.ensures
