-- What checked definitions hold.
use Rattle.std.proofs.Common.{◌≡◌, ℕ, List, get_or, refl, subst, arith}
use Rattle.std.specs.Prelude.{Some, None, slice_get}
use Rattle.std.specs.Global.{Vec}
use Rattle.std.proofs.lemmas.Option.{slice_get-get_or, slice_get_within}
use Rattle.cs_pattern.specs.declared.operations.measure.Measure.{Measure}
use Rattle.cs_pattern.specs.declared.operations.operations.Op as code
use Rattle.cs_pattern.specs.Text.Answers.{limit_of}
use Rattle.cs_pattern.specs.Text.Checked.{HasBody, IsOrder, AreChecked}
use Rattle.cs_pattern.specs.Text.Checking.{Each, AreAccepted}
use Rattle.cs_pattern.specs.Text.Classes.{HaveByteTexts}
use Rattle.cs_pattern.specs.Operations.Definitions.{Definition}
use Rattle.cs_pattern.specs.Operations.Depth.{leaf}
use Rattle.cs_pattern.specs.Operations.Grammar.{Tree}
use Rattle.cs_pattern.specs.Text.Stages.{AreOperations, AreMeasures, HasTree}
use Rattle.cs_pattern.specs.Text.Substitution.{IsTreeOf, PutIn}
use Rattle.cs_pattern.proofs.OnText.PuttingIn.{one_spelled}
use Rattle.cs_pattern.proofs.OnText.Staged.{accepted}

module _ (ds : List Definition) (trees : Each (HasTree ds) ds) (within : (i : ℕ) (d : Definition) (tree : Tree) → slice_get ds i ≡ Some d → IsTreeOf ds d.text tree → limit_of tree ≡ None) where
  pub all_accepted : AreAccepted ds
  all_accepted i d is = let t = trees i d is in accepted ds d.text t.tree t.is_tree (within i d t.tree is t.is_tree)

  module _ (bodies : List (Vec code.Op)) (measures : List Measure) (order : List ℕ) (operations : AreOperations ds bodies) (ms : AreMeasures ds measures) where
    body : (i : ℕ) (d : Definition) → slice_get ds i ≡ Some d → HasBody ds bodies measures i d
    body i d is =
        let h = operations.each i d is in
        let t = trees i d is in
        let same = one_spelled d.text d.text t.is_tree.spelled h.tree refl t.is_tree.is_spelled h.spelled in
        let lt = slice_get_within ds i d is in
        let size = ms.count in
        record {
          ops = h.ops;
          measure = get_or measures i leaf;
          ops_at = h.there;
          measure_at = slice_get-get_or measures i leaf (omega arith);
          is = record {
            spelled = h.tree;
            is_spelled = h.spelled;
            operations = h.are;
            tree = t.tree;
            put_in = subst (PutIn ds t.tree) same t.is_tree.put_in;
            within = within i d t.tree is t.is_tree;
            measured = ms.each i d t.tree is t.is_tree;
          };
        }

    pub are_checked : HaveByteTexts ds → IsOrder ds order → AreChecked ds bodies measures order
    are_checked texts o = record { texts = texts; body_count = operations.count; measure_count = ms.count; each = body; in_order = o }
