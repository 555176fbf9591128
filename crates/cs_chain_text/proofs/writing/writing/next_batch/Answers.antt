-- The chains that were left are those of the batch and those that are left now.
use Rattle.std.proofs.Common.{◌≡◌, List, [], ◌∷◌, ◌++◌, append_assoc, length, length-append, sym, ap, ◌∙◌, arith}
use Rattle.cs_chain.specs.declared.chains.chain.Chain.{Chain}
use Rattle.cs_chain_text.proofs.writing.writing.next_batch.Goals as goal

-- no chain was left
pub returns-in_default : goal.returns-in_default
returns-in_default c =
    let none = c.in_default.ensures.none in
    record {
      split = none.0 ∙ sym (ap (λ (l : List Chain). l ++ c.next.new.self) c.in_ok-batch.ensures.items ∙ none.1);
      some = λ _. none.0;
      few = omega (arith, ap (λ (l : List Chain). length l) c.in_ok-batch.ensures.items);
    }

pub loop-init : goal.loop-init
loop-init c =
    let first = c.in-Some.first in
    let one = c.in_ok-push.ensures.items ∙ ap (λ (l : List Chain). l ++ first ∷ []) c.in_ok-batch.ensures.items in
    record {
      split = c.in-Some.ensures.some ∙ ap (λ (l : List Chain). l ++ c.next.new.self) (sym one);
      many = omega (arith, ap (λ (l : List Chain). length l) one);
    }

-- no chain more may stand in the batch
pub returns-in_default-next_with : goal.returns-in_default-next_with
returns-in_default-next_with c = record {
  split = c.loop.invariant.split ∙ ap (λ (l : List Chain). c.loop.batch.items ++ l) (sym c.in_default-next_with.ensures.none);
  some = λ none. (let empty : length c.loop.batch.items ≡ 0 = ap (λ (l : List Chain). length l) none in absurd (omega (arith, empty, c.loop.invariant.many)));
  few = omega (arith, c.loop.invariant.many, c.loop-test.true);
}

pub loop-preserved : goal.loop-preserved
loop-preserved c =
    let chain = c.in-Some-next_with.chain in
    let items = c.loop.batch.items in
    let grown = ap (λ (l : List Chain). length l) c.in_ok-push-2.ensures.items in
    record {
      split = c.loop.invariant.split ∙ ap (λ (l : List Chain). items ++ l) c.in-Some-next_with.ensures.some
          ∙ sym (append_assoc items (chain ∷ []) c.next_with.new.chains) ∙ ap (λ (l : List Chain). l ++ c.next_with.new.chains) (sym c.in_ok-push-2.ensures.items);
      many = omega (arith, grown, length-append items (chain ∷ []), c.loop.invariant.many);
    }

-- as many as are taken at once
pub returns : goal.returns
returns c = record {
  split = c.loop.invariant.split;
  some = λ none. (let empty : length c.loop.batch.items ≡ 0 = ap (λ (l : List Chain). length l) none in absurd (omega (arith, empty, c.loop.invariant.many)));
  few = omega (arith, c.loop.invariant.many, c.loop.auto.counter-end);
}
