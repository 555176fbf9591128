-- Lines of rules of a lex file, one behind the other: the layout that a text of them has.
use Rattle.std.proofs.Common.{◌≡◌, ℕ, zero, suc, ◌+◌, Bool, true, List, [], ◌∷◌, ◌++◌, length, take, drop, refl, sym, ap, subst, ◌∙◌, append_assoc, arith}
use Rattle.std.specs.List.{AllByRecursion, list_all}
use Rattle.std.proofs.lemmas.List.{drop-drop, drop_at, take_at}
use Rattle.cs_bytes.specs.Places.{line_size}
use Rattle.cs_bytes.proofs.Fronts.{and_true}
use Rattle.cs_lex.specs.declared.layout.parts.Rule.{Rule}
use Rattle.cs_lex.specs.declared.layout.line.LineKind.TheVariants as kinds
use Rattle.cs_lex.specs.Layout.Steps.{Walk, here, step, Spans, Covers}
use Rattle.cs_lex.specs.Layout.Lines.{rules_kind}
use Rattle.cs_lex.specs.Layout.Patterns.{IsPattern}
use Rattle.cs_lex.specs.Layout.Runs.{IsCodeRun}
use Rattle.cs_lex.specs.Layout.Forms.{blanks, IsRule}
use Rattle.cs_lex.specs.Layout.Layout.{rule_at, HasRuleAt, RulesLine, rule}
use Rattle.cs_lex.specs.Reading.Kinds.{action_of}
use Rattle.cs_lex.specs.Reading.Patterns.{pattern_of}

-- the texts of a rule's pattern and action
pub record RuleText : Type 0 where
  pub pattern : List ℕ
  pub action : List ℕ

-- a line for each rule: pattern, space, action, newline
abbrev pub lines_of : List RuleText → List ℕ
lines_of [] = []
lines_of (x ∷ xs) = x.pattern ++ (32 ∷ (x.action ++ (10 ∷ lines_of xs)))

-- the layout finds the pattern and the action, whatever stands behind them
pub record IsLine (x : RuleText) : Type 0 where
  pub begins : (rest : List ℕ) → rules_kind (x.pattern ++ rest) ≡ kinds.Rule
  pub covers : (rest : List ℕ) → IsPattern (x.pattern ++ 32 ∷ rest) (length x.pattern)
  pub no_blank : (rest : List ℕ) → blanks (x.action ++ 10 ∷ rest) ≡ 0
  pub run : (rest : List ℕ) → IsCodeRun true (x.action ++ 10 ∷ rest) (length x.action)

-- the rules have these texts
abbrev pub HaveTexts : List ℕ → List RuleText → List Rule → Type 0
HaveTexts bytes [] rs = rs ≡ []
HaveTexts bytes (x ∷ xs) [] = ⊥
HaveTexts bytes (x ∷ xs) (r ∷ rs) = (pattern_of bytes r ≡ x.pattern) × (action_of bytes r ≡ x.action) × HaveTexts bytes xs rs

-- ---- bytes, each of which is a unit

pub walk_bytes : (Unit : List ℕ → ℕ → Type 0) (good : ℕ → Bool) → ((b : ℕ) (rest : List ℕ) → good b ≡ true → Unit (b ∷ rest) 1) → (text : List ℕ) (at to : ℕ) (run rest : List ℕ) → list_all good run ≡ true → drop at text ≡ run ++ rest → to ≡ at + length run
    → Walk (Spans Unit text) at to
walk_bytes Unit good ok text at to [] rest all e ends = let same : to ≡ at = omega arith in subst (λ (k : ℕ). Walk (Spans Unit text) at k) (sym same) here
walk_bytes Unit good ok text at to (b ∷ run) rest all e ends =
    let both = and_true (good b) (list_all good run) all in
    let next : drop (at + 1) text ≡ run ++ rest = sym (drop-drop 1 at text) ∙ ap (drop 1) e in
    let unit : Unit (drop at text) 1 = subst (λ (t : List ℕ). Unit t 1) (sym e) (ok b (run ++ rest) both.0) in
    step {t = at + 1} (record { size = 1; unit = unit; ends = refl }) (walk_bytes Unit good ok text (at + 1) to run rest both.1 next (omega arith))

pub covers_bytes : (Unit : List ℕ → ℕ → Type 0) (Rest : List ℕ → Type 0) (good : ℕ → Bool) → ((b : ℕ) (rest : List ℕ) → good b ≡ true → Unit (b ∷ rest) 1) → (run rest : List ℕ) → list_all good run ≡ true → Rest rest
    → Covers Unit Rest (run ++ rest) (length run)
covers_bytes Unit Rest good ok run rest all h = record {
  units = walk_bytes Unit good ok (run ++ rest) 0 (length run) run rest all refl (omega arith);
  rest = subst Rest (sym (drop_at run rest (length run) refl)) h;
}

-- ---- one line

-- what stands behind an offset, for some bytes
pub part_is : (bytes : List ℕ) (at n to : ℕ) → to ≡ at + n → drop at (take to bytes) ≡ take n (drop at bytes)
part_is bytes zero n to e = let same : to ≡ n = omega arith in ap (λ (k : ℕ). take k bytes) same
part_is [] (suc at) n zero e = absurd (omega arith)
part_is [] (suc at) zero (suc to) e = refl
part_is [] (suc at) (suc n) (suc to) e = refl
part_is (b ∷ bytes) (suc at) n zero e = absurd (omega arith)
part_is (b ∷ bytes) (suc at) n (suc to) e = part_is bytes at n to (omega arith)

newline_line : (rest : List ℕ) → line_size (10 ∷ rest) ≡ 1
newline_line rest = omega arith

module _ (bytes : List ℕ) (at : ℕ) (x : RuleText) (rest : List ℕ) (e : drop at bytes ≡ x.pattern ++ (32 ∷ (x.action ++ (10 ∷ rest)))) (is : IsLine x) where
  abbrev here_rule : Rule
  here_rule = rule_at at (length x.pattern) (length x.pattern + 1) (length x.pattern + 1 + length x.action)

  abbrev size : ℕ
  size = length x.pattern + 1 + length x.action + 1

  behind_pattern : drop (length x.pattern) (drop at bytes) ≡ 32 ∷ (x.action ++ (10 ∷ rest))
  behind_pattern = ap (drop (length x.pattern)) e ∙ drop_at x.pattern (32 ∷ (x.action ++ (10 ∷ rest))) (length x.pattern) refl

  behind_blank : drop (length x.pattern + 1) (drop at bytes) ≡ x.action ++ (10 ∷ rest)
  behind_blank = sym (drop-drop 1 (length x.pattern) (drop at bytes)) ∙ ap (drop 1) behind_pattern

  behind_action : drop (length x.pattern + 1 + length x.action) (drop at bytes) ≡ 10 ∷ rest
  behind_action =
      sym (drop-drop (length x.action) (length x.pattern + 1) (drop at bytes)) ∙ ap (drop (length x.action)) behind_blank ∙ drop_at x.action (10 ∷ rest) (length x.action) refl

  pub behind_line : drop (at + size) bytes ≡ rest
  behind_line =
      sym (drop-drop size at bytes) ∙ sym (drop-drop 1 (length x.pattern + 1 + length x.action) (drop at bytes)) ∙ ap (drop 1) behind_action

  one_blank : blanks (32 ∷ (x.action ++ (10 ∷ rest))) ≡ 1
  one_blank = ap (λ (n : ℕ). 1 + n) (is.no_blank rest)

  form : IsRule (drop at bytes) (length x.pattern) (length x.pattern + 1) (length x.pattern + 1 + length x.action) size
  form = record {
    pattern = subst (λ (t : List ℕ). IsPattern t (length x.pattern)) (sym e) (is.covers (x.action ++ (10 ∷ rest)));
    blank = ap (λ (n : ℕ). length x.pattern + n) (sym one_blank ∙ ap blanks (sym behind_pattern));
    extent = (length x.action, subst (λ (t : List ℕ). IsCodeRun true t (length x.action)) (sym behind_blank) (is.run rest), refl);
    ends = ap (λ (n : ℕ). length x.pattern + 1 + length x.action + n) (sym (newline_line rest) ∙ ap line_size (sym behind_action));
  }

  pub has_rule : HasRuleAt bytes at here_rule (at + size)
  has_rule = record {
    kind = ap rules_kind e ∙ is.begins (32 ∷ (x.action ++ (10 ∷ rest)));
    pattern_to = length x.pattern;
    from = length x.pattern + 1;
    to = length x.pattern + 1 + length x.action;
    size = size;
    form = form;
    is = refl;
    behind_is = refl;
  }

  pub pattern_is : pattern_of bytes here_rule ≡ x.pattern
  pattern_is =
      part_is bytes at (length x.pattern) (at + length x.pattern) refl ∙ ap (take (length x.pattern)) e
      ∙ take_at x.pattern (32 ∷ (x.action ++ (10 ∷ rest))) (length x.pattern) refl

  pub action_is : action_of bytes here_rule ≡ x.action
  action_is =
      part_is bytes (at + (length x.pattern + 1)) (length x.action) (at + (length x.pattern + 1 + length x.action)) (omega arith)
      ∙ ap (take (length x.action)) (sym (drop-drop (length x.pattern + 1) at bytes) ∙ behind_blank) ∙ take_at x.action (10 ∷ rest) (length x.action) refl

-- ---- all lines

pub record RulesFrom (bytes : List ℕ) (at : ℕ) (before : List Rule) (xs : List RuleText) : Type 0 where
  pub rules : List Rule
  pub to : ℕ
  pub walk : Walk (RulesLine bytes) (record { at = at; rules = before }) (record { at = to; rules = before ++ rules })
  pub ends : rules_kind (drop to bytes) ≡ kinds.SectionEnd
  pub texts : HaveTexts bytes xs rules

append-nil_rules : (rs : List Rule) → rs ++ [] ≡ rs
append-nil_rules [] = refl
append-nil_rules (r ∷ rs) = ap (λ (x : List Rule). r ∷ x) (append-nil_rules rs)

pub rules_from : (xs : List RuleText) → AllByRecursion IsLine xs → (bytes : List ℕ) (at : ℕ) (before : List Rule) → drop at bytes ≡ lines_of xs → RulesFrom bytes at before xs
rules_from [] all bytes at before e = record {
  rules = [];
  to = at;
  walk = subst (λ (rs : List Rule). Walk (RulesLine bytes) (record { at = at; rules = before }) (record { at = at; rules = rs })) (sym (append-nil_rules before)) here;
  ends = ap rules_kind e;
  texts = refl;
}
rules_from (x ∷ xs) all bytes at before e =
    let r : Rule = here_rule bytes at x (lines_of xs) e all.0 in
    let to : ℕ = at + size bytes at x (lines_of xs) e all.0 in
    let more = rules_from xs all.1 bytes to (before ++ r ∷ []) (behind_line bytes at x (lines_of xs) e all.0) in
    let line : RulesLine bytes (record { at = at; rules = before }) (record { at = to; rules = before ++ r ∷ [] }) = rule r to (has_rule bytes at x (lines_of xs) e all.0) refl in
    record {
      rules = r ∷ more.rules;
      to = more.to;
      walk = step line (subst (λ (rs : List Rule). Walk (RulesLine bytes) (record { at = to; rules = before ++ r ∷ [] }) (record { at = more.to; rules = rs })) (append_assoc before (r ∷ []) more.rules) more.walk);
      ends = more.ends;
      texts = (pattern_is bytes at x (lines_of xs) e all.0, action_is bytes at x (lines_of xs) e all.0, more.texts);
    }
