-- The table tells whether it has the list, and one more stands last.
use Rattle.std.proofs.Common.{◌≡◌, ◌∙◌, List, ◌∷◌, [], ◌++◌, ℕ, false, true, refl, sym, ap, subst}
use Rattle.std.specs.Prelude.{Option, None, Some, is_some}
use Rattle.std.specs.Global.{Vec}
use Rattle.std.specs.List.{Contains}
use Rattle.std.specs.Str.{bytes_eq}
use Rattle.std.proofs.lemmas.Bool.{false≢true}
use Rattle.indexmap.proofs.CallerLemmas.{insert_entry-new}
use Rattle.cs_wrong.proofs.OnClasses.Table.{contains_from_has, has, has_from_contains, is_some-lookup, lists_in-push}
use Rattle.cs_wrong.specs.Classes.Met.{lists_in}
use Rattle.cs_wrong.proofs.classes.met.Met.meet.Goals as goal

none_is : (r : Option (Unit {0})) → is_some r ≡ false → r ≡ None
none_is None e = refl
none_is (Some x) e = absurd (false≢true (sym e))

pub returns-then-contains_key-clause-again : goal.returns-then-contains_key-clause-again
returns-then-contains_key-clause-again c =
    let list = c.args.list.now in
    let entries = c.self.inside.lists.entries in
    let there : has list (lists_in entries) ≡ true = sym (is_some-lookup list entries) ∙ sym c.contains_key.ensures ∙ c.if-contains_key.true in
    (λ t. subst (λ (l : List (List ℕ)). Contains l list) c.self.view_is (contains_from_has list (lists_in entries) there), λ h. refl)

pub returns-clause-again : goal.returns-clause-again
returns-clause-again c =
    let list = c.args.list.now in
    let entries = c.self.inside.lists.entries in
    let fresh : has list (lists_in entries) ≡ false = sym (is_some-lookup list entries) ∙ sym c.contains_key.ensures ∙ c.if-contains_key.false in
    (λ t. absurd (false≢true t), λ h. absurd (false≢true (sym fresh ∙ has_from_contains list (lists_in entries) (subst (λ (l : List (List ℕ)). Contains l list) (sym c.self.view_is) h))))

pub returns-clause-lists : goal.returns-clause-lists
returns-clause-lists c =
    let list = c.args.list.now in
    let entries = c.self.inside.lists.entries in
    let v = c.in_ok-list.list in
    let same : v.items ≡ list = c.in_ok-list.ensures.items in
    let fresh : has v.items (lists_in entries) ≡ false =
    ap (λ (t : List ℕ). has t (lists_in entries)) same ∙ sym (is_some-lookup list entries) ∙ sym c.contains_key.ensures ∙ c.if-contains_key.false in
    let absent = none_is _ (is_some-lookup v.items entries ∙ fresh) in
    let put = c.in_ok-insert.ensures.entries ∙ insert_entry-new (λ (x y : Vec ℕ). bytes_eq x.items y.items) c.self.inside.lists v tt absent in
    ap lists_in put ∙ lists_in-push entries v tt list same ∙ ap (λ (l : List (List ℕ)). l ++ list ∷ []) c.self.view_is
