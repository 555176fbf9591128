-- Token by token, its lexeme and the separator are put; where a token has no lexeme, not all have one.
use Rattle.std.proofs.Common.{◌≡◌, Some, ◌+◌, ◌++◌, [], List, ℕ, ap, sym, ◌∙◌, subst, take, get_or, append_assoc}
use Rattle.std.proofs.lemmas.List.{take_more}
use Rattle.cs_scanner.specs.Lexeme.Lexeme.{lexeme_in}
use Rattle.cs_writing.specs.Mutants.Rows.{IsTextBeside, with_separator}
use Rattle.cs_writing.proofs.OnPlan.Texts.{beside_more, beside_none, none_at}
use Rattle.cs_writing.proofs.plan.joining.put_text.Goals as goal

pub loop-token-init : goal.loop-token-init
loop-token-init c =
    let beside = IsTextBeside c.args.work.now.lexemes.now c.args.work.now.separator.now c.args.side in
    subst (λ (t : List ℕ). beside [] t) (sym c.requires.empty) (beside_none c.args.work.now.lexemes.now c.args.work.now.separator.now c.args.side)

pub loop-token-preserved : goal.loop-token-preserved
loop-token-preserved c =
    let lexemes = c.args.work.now.lexemes.now in
    let sep = c.args.work.now.separator.now in
    let side = c.args.side in
    let tokens = c.args.tokens.now in
    let i = c.loop-token.token-index in
    let token = get_or tokens i 0 in
    let lexeme = c.in-Some.lexeme.now in
    let so_far = c.loop-token.out.items in
    let first = c.in_order.result.0.now in
    let second = c.in_order.result.1.now in
    let has : lexeme_in lexemes token ≡ Some lexeme = sym c.in-Some.ensures in
    let put : c.put_piece-in-loop-token.new.out.items ≡ so_far ++ with_separator sep side lexeme =
    c.in_ok-put_piece-2.ensures ∙ ap (λ (t : List ℕ). t ++ second) c.in_ok-put_piece.ensures
    ∙ append_assoc so_far first second ∙ ap (λ (t : List ℕ). so_far ++ t) c.in_order.ensures in
    subst (λ (t : List ℕ). IsTextBeside lexemes sep side (take (i + 1) tokens) t) (sym put)
    (subst (λ (l : List ℕ). IsTextBeside lexemes sep side l (so_far ++ with_separator sep side lexeme)) (sym (take_more tokens i 0 c.loop-token-test.true))
    (beside_more lexemes sep side (take i tokens) so_far token lexeme c.loop-token.invariant has))

-- a token has no lexeme
pub returns-in_default-clause-there : goal.returns-in_default-clause-there
returns-in_default-clause-there c = λ all.
    absurd (none_at c.args.work.now.lexemes.now c.args.tokens.now c.loop-token.token-index c.loop-token-test.true (sym c.in_default.ensures) all)
