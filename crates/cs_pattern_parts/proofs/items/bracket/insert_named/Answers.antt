-- The class has the bytes that pass its test, and they join those that were there.
use Rattle.std.proofs.Common.{◌≡◌, ◌∙◌, sym, ap, Some}
use Rattle.std.specs.Prelude.{◌||◌}
use Rattle.cs_pattern_parts.specs.Items.Members.{has}
use Rattle.cs_pattern_parts.specs.Items.Bracket as spec
use Rattle.cs_pattern_parts.specs.Items.NamedClasses as classes
use Rattle.cs_pattern_parts.proofs.OnItems.Picked.{has_picked, same_picked, or_turned}
use Rattle.cs_pattern_parts.proofs.items.bracket.insert_named.Goals as goal

pub returns-in-Some : goal.returns-in-Some
returns-in-Some c =
    let e : classes.class_of c.args.name.now ≡ Some c.in-Some.class = sym c.class_of.ensures ∙ c.in-Some.is in (
      λ b. ap (λ o. spec.is_refused (spec.class_by o b)) e,
      c.union.ensures
          ∙ same_picked _ _ 256 (λ b lt.
          ap (λ v. has c.args.set.now b || v) (ap (λ s. has s b) c.class_bytes.ensures ∙ has_picked (classes.is_in_class c.in-Some.class) 256 b lt)
          ∙ or_turned (has c.args.set.now b) (classes.is_in_class c.in-Some.class b)
          ∙ sym (ap (λ o. spec.is_yes (spec.class_by o b) || has c.args.set.now b) e)),
    )
