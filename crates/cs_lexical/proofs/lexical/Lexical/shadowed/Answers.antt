-- The rules that win nothing are those whose numbers have no text.
use Rattle.std.proofs.Common.{◌≡◌, ◌∙◌, List, ℕ, Option, Vec, Global, ap, subst}
use Rattle.std.specs.Prelude.{count_by, is_none}
use Rattle.cs_scanner.specs.Lexeme.Texts.{texts_of}
use Rattle.cs_lexical.specs.Least.{LeastTexts, named}
use Rattle.cs_lexical.specs.Lines.{shadowed}
use Rattle.cs_lexical.proofs.lexical.Lexical.shadowed.Goals as goal

pub returns : goal.returns
returns c =
    let inside = c.self.inside in
    let S : LeastTexts → Type 0 = λ t. c.count_texts-apart.result.1 ≡ shadowed t in
    subst S c.self.view_is
    (c.count_texts-apart.ensures.none
    ∙ ap (λ (l : List (Option (Vec ℕ Global))). count_by is_none (named (texts_of l) c.deref-2.result.now)) c.deref.ensures.value
    ∙ ap (λ (l : List ℕ). count_by is_none (named (texts_of inside.texts.items) l)) c.deref-2.ensures.value)
