-- Its text, and its marks.
use Rattle.std.proofs.Common.{List, ℕ, Vec, Global, refl, subst}
use Rattle.std.specs.Prelude.{Option}
use Rattle.cs_scanner.specs.Scan.Compared.{scanning}
use Rattle.cs_texts.specs.declared.rendering.rendered.Rendered.{Rendered}
use Rattle.cs_texts.specs.Rendering.Rendering.{IsRendered, rendering}
use Rattle.cs_texts.specs.declared.splice.marks.TextMark.{TextMark}
use Rattle.cs_texts.specs.Splice.Marks.{AreAligned, AreAllMarks, IfMarked}
use Rattle.cs_texts.proofs.splice.marked.Marked.new.Goals as goal

pub returns : goal.returns
returns c =
    let s = scanning c.args.work.now.scanner.now in
    let lexemes = c.args.work.now.lexemes.now in
    let sep = c.args.work.now.separator.now in
    let tokens = c.args.tokens.now in
    let R : Rendered → Type 0 = λ r. IsRendered s lexemes sep tokens (rendering r) in
    let M : Option (Vec TextMark Global) → Type 0 = λ o. IfMarked s c.deref.result.now tokens o in
    let L : List ℕ → List TextMark → Type 0 = λ text marks. AreAligned lexemes sep tokens text marks in (
      record {
        tokens = c.requires.tokens;
        rendered = subst R c.in-Text.is c.in_ok-rendered.ensures;
        marks = subst (λ t. AreAllMarks s t tokens c.in-Some.marks.items) c.deref.ensures.value (subst M c.in-Some.is c.in_ok-marks.ensures);
        aligned = subst (λ t. L t c.in-Some.marks.items) c.deref-2.ensures.value (subst (λ m. L c.deref-2.result.now m) c.deref-3.ensures.value (c.if-not-are_lexemes.ensures refl));
      },
      refl,
    )
