-- A list that has a tree is inside by the tree's code, and one that has none is outside.
use Rattle.std.proofs.Common.{◌≡◌, ◌↔◌, ℕ, List, refl, sym, ◌∙◌}
use Rattle.cs_deep.specs.Membership.{membership_lines, outside_line}
use Rattle.cs_grammar.specs.Grammar.{PlainGrammar}
use Rattle.cs_grammar.specs.Sentence.{IsSentence}
use Rattle.cs_grammar.specs.Tree.{code}
use Rattle.cs_member.specs.Membership.Membership.{IsMembership}
use Rattle.cs_member.specs.declared.membership.membership.Membership.{Membership}
use Rattle.cs_member.specs.declared.membership.membership.Membership.TheVariants.{Inside, Outside}
use Rattle.cs_deep.proofs.writing.laws.some_membership.Goals as goal

told : (g : PlainGrammar) (tokens text : List ℕ) (m : Membership) → IsMembership g tokens m → text ≡ membership_lines m → (text ≡ outside_line) ↔ (IsSentence g tokens → ⊥)
told g tokens text (Inside rules) is lines = (
  (λ same. absurd (let e = sym lines ∙ same in cc)),
  (λ never. absurd (never (is.tree, is.is_tree, is.yield))),
)
told g tokens text Outside never lines = ((λ same. never), (λ no. lines))

pub returns : goal.returns
returns c = record {
  some = λ g tokens none.
      let outside = λ (sentence : IsSentence g tokens).
      none (membership_lines (Inside (code sentence.0)))
      (record { membership = Inside (code sentence.0); is = record { tree = sentence.0; is_tree = sentence.1; code = refl; yield = sentence.2 }; lines = refl }) in
      none outside_line (record { membership = Outside; is = outside; lines = refl });
  same = λ g tokens text is. told g tokens text is.membership is.is is.lines;
}
