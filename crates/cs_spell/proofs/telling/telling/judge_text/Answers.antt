-- A text that scans to the tokens has them all in common, also where no match is the spelling.
use Rattle.std.proofs.Common.{◌≡◌, ℕ, List, true, false, sym, subst}
use Rattle.cs_scanner.specs.Scan.Compared.{scanning}
use Rattle.cs_scanner.specs.Scan.Scan.{Scans}
use Rattle.cs_spell.specs.Texts.Texts.{HasMatch}
use Rattle.cs_spell.proofs.OnTelling.Rendering.{whole_common}
use Rattle.cs_spell.proofs.telling.telling.judge_text.Goals as goal

pub returns-else-has_match : goal.returns-else-has_match
returns-else-has_match c =
    let s = scanning c.args.scanner.now in
    let tokens = c.args.tokens.now in
    let scans : Scans s c.args.text.items tokens = subst (λ (t : List ℕ). Scans s t tokens) c.deref.ensures.value (c.agrees.ensures.whole.0 c.in-Whole.is) in
    let there = subst (λ (t : List ℕ). Scans s t tokens) (sym c.deref-in-Whole.ensures.value) scans in (
      (λ shows.
          let holds : false ≡ true =
          (c.if-has_match.ensures tokens there).1 (subst (λ (t : List ℕ). HasMatch s c.args.rule c.args.spelling.now t) (sym c.deref-in-Whole.ensures.value) shows.1)
          in
          cc),
      whole_common s c.args.text.items tokens scans,
    )
