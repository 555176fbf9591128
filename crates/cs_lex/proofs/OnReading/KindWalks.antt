-- A walk over the rules section, by which each action has a kind.
use Rattle.std.proofs.Common.{◌≡◌, ℕ, ◌-◌, ◌<◌, List, [], ◌∷◌, ◌++◌, drop, refl, inl}
use Rattle.std.specs.List.{AllByRecursion}
use Rattle.cs_lex.specs.declared.layout.line.LineKind.TheVariants as kinds
use Rattle.cs_lex.specs.declared.layout.parts.Rule.{Rule}
use Rattle.cs_lex.specs.Layout.Steps.{Walk, here}
use Rattle.cs_lex.specs.Layout.Lines.{rules_kind}
use Rattle.cs_lex.specs.Layout.Layout.{HasRuleAt, IsPassedRule, RulesLine, no_rules}
use Rattle.cs_lex.proofs.OnLayout.Reading.{rule_passed, rule_more, has_rules}
use Rattle.cs_pattern.proofs.OnText.Linked.{all_push}
use Rattle.cs_lex.specs.Reading.Settled.{HasActionKind, KindsEndOrStop}

-- lines of the rules section lead to the offset, and their actions have kinds
pub record WalkedKinds (bytes : List ℕ) (from at : ℕ) : Type 0 where
  pub rules : List Rule
  pub lines : Walk (RulesLine bytes) (no_rules from) (record { at = at; rules = rules })
  pub kinds : AllByRecursion (HasActionKind bytes) rules

pub kinds_start : (bytes : List ℕ) (from : ℕ) → WalkedKinds bytes from from
kinds_start bytes from = record { rules = []; lines = here; kinds = tt }

pub kinds_on : (bytes : List ℕ) (from at to : ℕ) → WalkedKinds bytes from at → at < to → IsPassedRule (drop at bytes) (to - at) → WalkedKinds bytes from to
kinds_on bytes from at to h lt p = record { rules = h.rules; lines = rule_passed bytes from at h.rules h.lines to lt p; kinds = h.kinds }

pub kinds_rule : (bytes : List ℕ) (from at to : ℕ) (r : Rule) → WalkedKinds bytes from at → HasRuleAt bytes at r to → HasActionKind bytes r → WalkedKinds bytes from to
kinds_rule bytes from at to r h is kind = record {
  rules = h.rules ++ r ∷ [];
  lines = rule_more bytes from at h.rules h.lines r to (h.rules ++ r ∷ []) is refl;
  kinds = all_push (HasActionKind bytes) h.rules r h.kinds kind;
}

pub kinds_end : (bytes : List ℕ) (from at : ℕ) → WalkedKinds bytes from at → rules_kind (drop at bytes) ≡ kinds.SectionEnd → KindsEndOrStop bytes from
kinds_end bytes from at h k = inl (h.rules, has_rules bytes from at h.rules h.lines k, h.kinds)
