-- The items are read and their names defined, and what holds of each pattern of the text holds of the one returned.
use Rattle.std.proofs.Common.{◌≤◌, subst, rules, arith, ap, length}
use Rattle.std.specs.Prelude.{IfOk}
use Rattle.std.proofs.lemmas.List.{length-map}
use Rattle.std.proofs.lemmas.Result.{IfOk-weaker}
use Rattle.cs_pattern_parts.specs.declared.items.item.Placed.{Placed}
use Rattle.cs_pattern_parts.specs.Items.Views.{placed_of, placed_all}
use Rattle.cs_pattern_parts.specs.declared.tree.pattern.Pattern.{Pattern}
use Rattle.cs_pattern_parts.specs.Tree.Pattern.{Regex, regex, leaves, nesting}
use Rattle.cs_pattern_parts.specs.Tree.Scannable.{IsScannable, MatchesBytesAlone, MatchesSomeText}
use Rattle.cs_pattern_parts.proofs.OnTree.Matching.{bytes_matched, matches_some}
use Rattle.cs_pattern.specs.Text.Answers.{IsNamed, IsPatternOf}
use Rattle.cs_pattern.specs.Text.Classes.{HaveByteTexts}
use Rattle.cs_pattern.proofs.OnText.ClassBytes.{AreBytes-from_fits, byte_classes_alone}
use Rattle.cs_pattern.proofs.OnText.Within.{scannable, few_leaves, few_nested}
use Rattle.cs_pattern.proofs.text.read.read_pattern.Goals as goal
use Rattle.cs_pattern.proofs.text.read.read_pattern.Goals.{After-drop-items-2}

pub pattern_of_items-requires : goal.pattern_of_items-requires
pattern_of_items-requires c =
    let named : IsNamed c.args.definitions.now c.args.bytes.now (placed_all c.deref-in-None.result.now) = record {
      read = search rules;
      defined = search rules;
      few = omega (arith, length-map c.deref-in-None.result.now placed_of, c.in_ok-items.ensures.short, ap (length {A = Placed}) c.deref-in-None.ensures.value);
    } in
    (c.args.bytes.now, named)

-- what holds of each pattern of the text holds of the one that is returned
returned : (c : After-drop-items-2) (P : Regex → Type 0) → ((r : Regex) → IsPatternOf c.args.definitions.now c.args.bytes.now r → P r) → IfOk c.pattern_of_items.result (λ (p : Pattern). P (regex p))
returned c P h =
    let named : IsNamed c.args.definitions.now c.args.bytes.now (placed_all c.deref-in-None.result.now) = record {
      read = search rules;
      defined = search rules;
      few = omega (arith, length-map c.deref-in-None.result.now placed_of, c.in_ok-items.ensures.short, ap (length {A = Placed}) c.deref-in-None.ensures.value);
    } in
    IfOk-weaker c.pattern_of_items.result _ (λ (p : Pattern). P (regex p)) (λ p is. h (regex p) (is c.args.bytes.now named)) c.pattern_of_items.ensures.read

pub returns-clause-scannable : goal.returns-clause-scannable
returns-clause-scannable c =
    let texts = subst HaveByteTexts c.definitions.view_is c.definitions.invariant.0.texts in
    returned c IsScannable (λ r is. scannable c.args.definitions.now c.args.bytes.now r (AreBytes-from_fits c.args.bytes.now c.type_inv.bytes) texts is)

pub returns-clause-leaves : goal.returns-clause-leaves
returns-clause-leaves c = returned c (λ r. leaves r ≤ 8192) (few_leaves c.args.definitions.now c.args.bytes.now)

pub returns-clause-nested : goal.returns-clause-nested
returns-clause-nested c = returned c (λ r. nesting r ≤ 403) (few_nested c.args.definitions.now c.args.bytes.now)

pub returns-clause-matches : goal.returns-clause-matches
returns-clause-matches c =
    IfOk-weaker c.pattern_of_items.result _ (λ (p : Pattern). MatchesSomeText (regex p))
    (λ p is. matches_some (regex p) is.classes is.eithers) (returns-clause-scannable c)

pub returns-clause-bytes : goal.returns-clause-bytes
returns-clause-bytes c =
    let texts = subst HaveByteTexts c.definitions.view_is c.definitions.invariant.0.texts in
    returned c MatchesBytesAlone (λ r is. bytes_matched r (byte_classes_alone c.args.definitions.now c.args.bytes.now r (AreBytes-from_fits c.args.bytes.now c.type_inv.bytes) texts is))
