-- One word more may be a name, up to the most or up to one that may not be.
use Rattle.std.proofs.Common.{◌≡◌, false, take, sym, ap, ◌∙◌, subst, arith}
use Rattle.std.specs.Prelude.{IsTrue, string_bytes}
use Rattle.cs_words.specs.Steps.{AreNames}
use Rattle.cs_words.specs.Words.{is_name, texts}
use Rattle.cs_words.proofs.Standing.{names_more, no_name_in, texts_more, texts_there}
use Rattle.cs_words.proofs.request.count_names.Goals as goal
use Rattle.cs_words.proofs.request.count_names.Goals.{then-place-most-via-then-place-most, then-place-most-via-else-place-most+then-not-may_be_name}

pub returns-then-place-most-clause-stops : goal.returns-then-place-most-clause-stops
returns-then-place-most-clause-stops c = λ few.
    elim c.then-place-most.branch [
      | then-place-most-via-then-place-most w ↦ absurd (omega arith)
      | then-place-most-via-else-place-most+then-not-may_be_name w ↦
          let bytes = string_bytes c.index-words-place.result in
          let none : is_name bytes ≡ false = ap is_name (sym w.as_str.ensures.value) ∙ sym w.may_be_name.ensures ∙ w.if-not-may_be_name.true in
          no_name_in _ bytes _ (texts_there c.args.words.now c.loop-place.place c.index-words-place.result (omega arith) c.index-words-place.is) none
    ]

pub loop-place-preserved : goal.loop-place-preserved
loop-place-preserved c =
    let word = string_bytes c.index-words-place.result in
    let more = texts_more c.args.words.now c.loop-place.place c.index-words-place.result (omega arith) c.index-words-place.is in
    let is : IsTrue (is_name word) = ap is_name (sym c.as_str.ensures.value) ∙ sym c.may_be_name.ensures ∙ c.if-not-may_be_name.false in
    record {
      few = omega (arith, c.if-place-most.false, c.loop-place.invariant.few);
      names = subst (λ ws. AreNames ws) (sym more) (names_more (take c.loop-place.place (texts c.args.words.now)) word c.loop-place.invariant.names is);
    }
