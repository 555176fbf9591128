-- Kinds by words, as the code finds them.
use Rattle.std.proofs.Common.{◌≡◌, ℕ, List, drop, refl, sym, ap, subst, ◌∙◌}
use Rattle.cs_lex.specs.declared.actions.words.Words.TheVariants as found
use Rattle.cs_lex.specs.Actions.Returns.{Named, Returns}
use Rattle.cs_lex.specs.Actions.Kinds.{ActionKind, foreign, of_named, one_return, other_return, more_returns}
use Rattle.cs_lex.specs.Actions.Views.{FindsWords, HasKindByWords}

pub several : (text : List ℕ) → FindsWords text found.Several → HasKindByWords text foreign
several text h = (h.0, h.1, more_returns h.2.1 h.2.2 h.2.3 h.2.0 h.2.4 refl)

pub one_named : (text rest : List ℕ) (to : ℕ) (n : Named) (k : ActionKind) → FindsWords text (found.One to) → rest ≡ drop to text → Returns rest n → k ≡ of_named n → HasKindByWords text k
one_named text rest to n k h e r is = (h.0, h.1, one_return h.2.1 n h.2.0 h.2.2 (subst (λ (t : List ℕ). Returns t n) (e ∙ ap (λ (i : ℕ). drop i text) (sym h.2.3)) r) is)

pub one_unnamed : (text rest : List ℕ) (to : ℕ) → FindsWords text (found.One to) → rest ≡ drop to text → ((n : Named) → ¬ Returns rest n) → HasKindByWords text foreign
one_unnamed text rest to h e none = (h.0, h.1, other_return h.2.1 h.2.0 h.2.2 (subst (λ (t : List ℕ). (n : Named) → ¬ Returns t n) (e ∙ ap (λ (i : ℕ). drop i text) (sym h.2.3)) none) refl)
