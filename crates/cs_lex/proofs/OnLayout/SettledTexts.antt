-- Walks over the rules of a text that has a layout or stops.
use Rattle.std.proofs.Common.{ℕ, ◌-◌, ◌<◌, List, [], ◌∷◌, ◌++◌, drop, refl, inl, inr}
use Rattle.cs_lex.specs.declared.layout.parts.Rule.{Rule}
use Rattle.cs_lex.specs.Layout.Steps.{Walk, here}
use Rattle.cs_lex.specs.Layout.Layout.{HasRuleAt, IsPassedRule, RulesLine, no_rules, in_rules}
use Rattle.cs_lex.specs.Layout.Settled.{IsSettled, EndsOrStops, RulesEndOrStop}
use Rattle.cs_lex.proofs.OnLayout.Reading.{rule_passed, rule_more}

abbrev pub WalkedRules : List ℕ → ℕ → ℕ → Type 0
WalkedRules bytes from at = (rs : List Rule) × Walk (RulesLine bytes) (no_rules from) (record { at = at; rules = rs })

pub rules_walk_start : (bytes : List ℕ) (from : ℕ) → WalkedRules bytes from from
rules_walk_start bytes from = ([], here)

pub rules_walk_on : (bytes : List ℕ) (from at to : ℕ) → WalkedRules bytes from at → at < to → IsPassedRule (drop at bytes) (to - at) → WalkedRules bytes from to
rules_walk_on bytes from at to h lt p = (h.0, rule_passed bytes from at h.0 h.1 to lt p)

pub rules_walk_rule : (bytes : List ℕ) (from at to : ℕ) (r : Rule) → WalkedRules bytes from at → HasRuleAt bytes at r to → WalkedRules bytes from to
rules_walk_rule bytes from at to r h is = (h.0 ++ r ∷ [], rule_more bytes from at h.0 h.1 r to (h.0 ++ r ∷ []) is refl)

pub both_settled : (bytes : List ℕ) (from : ℕ) → EndsOrStops bytes from → RulesEndOrStop bytes from → IsSettled bytes
both_settled bytes from (inl s) r = inr s
both_settled bytes from (inr h) (inl r) = inl (h.0, r.0, record { from = from; definitions = h.1; rules = r.1 })
both_settled bytes from (inr h) (inr r) = inr (r.0, in_rules h.0 from h.1 r.1.0 r.1.1 r.1.2)
