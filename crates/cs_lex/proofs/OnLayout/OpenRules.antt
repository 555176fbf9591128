-- Rules whose action isn't closed.
use Rattle.std.proofs.Common.{◌≡◌, ℕ, ◌+◌, ◌<◌, true, List, length, drop, refl, ap, subst, ◌∙◌, arith}
use Rattle.std.proofs.lemmas.List.{length-drop}
use Rattle.cs_lex.specs.Layout.Forms.{blanks, IsOpenRule}
use Rattle.cs_lex.specs.Layout.Patterns.{IsPattern}
use Rattle.cs_lex.specs.Layout.Runs.{IsOpenRun}

pub open_rule : (text behind rest : List ℕ) (pattern_to k n : ℕ) → IsPattern text pattern_to → behind ≡ drop pattern_to text → k ≡ blanks behind → rest ≡ drop (pattern_to + k) text → IsOpenRun true rest n → n < length rest
    → IsOpenRule text (pattern_to + k + n) × (pattern_to + k + n < length text)
open_rule text behind rest pattern_to k n pattern e blank f stays few = (
  record {
    pattern_to = pattern_to;
    from = pattern_to + k;
    pattern = pattern;
    blank = ap (λ (i : ℕ). pattern_to + i) (blank ∙ ap blanks e);
    stays = (n, subst (λ (t : List ℕ). IsOpenRun true t n) f stays, refl);
  },
  omega (arith, few, ap length f, length-drop (pattern_to + k) text),
)
