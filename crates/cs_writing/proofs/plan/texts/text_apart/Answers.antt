-- The text up to the last token and then its lexeme is the rule's text, and of tokens that stand apart it scans back.
use Rattle.std.proofs.Common.{◌≡◌, List, [], ◌∷◌, ◌++◌, ℕ, Some, sym, subst}
use Rattle.cs_scanner.specs.Lexeme.Lexeme.{lexeme_in}
use Rattle.cs_texts.specs.Rendering.Rendering.{IsRuleText}
use Rattle.cs_writing.proofs.OnPlan.Texts.{text_to_last}
use Rattle.cs_writing.proofs.plan.texts.text_apart.Goals as goal

pub returns : goal.returns
returns c =
    let lexemes = c.args.texts.now.work.now.lexemes.now in
    let sep = c.args.texts.now.work.now.separator.now in
    let tokens = c.args.tokens.now in
    let front = c.in-Some-split_last.front.now in
    let last = c.in-Some-split_last.last.now in
    let lexeme = c.in-Some-get.lexeme.now in
    let before = c.put_text.new.out.items in
    let has : lexeme_in lexemes last ≡ Some lexeme = sym c.in-Some-get.ensures in
    let whole : IsRuleText lexemes sep (front ++ last ∷ []) (before ++ lexeme) = text_to_last lexemes sep front before last lexeme (c.in_ok-put_text.ensures.text c.if-not-branch.false) has in
    let rule : IsRuleText lexemes sep tokens c.extend_from_slice.new.self.items =
    subst (λ (l : List ℕ). IsRuleText lexemes sep l c.extend_from_slice.new.self.items) (sym c.in-Some-split_last.ensures.cases.0)
    (subst (λ (t : List ℕ). IsRuleText lexemes sep (front ++ last ∷ []) t) (sym c.in_ok-extend_from_slice.ensures.items) whole) in
    (rule, c.requires.scan tokens c.extend_from_slice.new.self.items c.in-Some.ensures rule)
