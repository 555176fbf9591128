-- One option more is new, or no option, or none of the command's, or given before.
use Rattle.std.proofs.Common.{◌≡◌, false, [], take, sym, ap, ◌∙◌, subst, arith}
use Rattle.std.specs.Prelude.{string_bytes}
use Rattle.cs_words.specs.Options.{AreNew, IsNewOption, IsOption, kind_of}
use Rattle.cs_words.specs.Commands.{may_have}
use Rattle.cs_words.specs.Words.{texts}
use Rattle.cs_words.proofs.Standing.{new_more, option_stops, texts_more}
use Rattle.cs_words.proofs.GivenLemmas.{AreGiven, lacks, given_more, not_had, twice}
use Rattle.cs_words.proofs.request.read_options.Goals as goal

pub returns-in_default-clause-stops : goal.returns-in_default-clause-stops
returns-in_default-clause-stops c =
    option_stops c.args.words.now c.loop-place.place c.index-words-place.result (omega arith) c.index-words-place.is c.args.command c.loop-place.invariant.stand (λ new. c.in_default.ensures.none new.setting (subst (λ w. IsOption w new.setting) (sym c.as_str.ensures.value) new.is))

pub returns-then-not-set-clause-stops : goal.returns-then-not-set-clause-stops
returns-then-not-set-clause-stops c =
    option_stops c.args.words.now c.loop-place.place c.index-words-place.result (omega arith) c.index-words-place.is c.args.command c.loop-place.invariant.stand (twice (take c.loop-place.place (texts c.args.words.now)) c.loop-place.given c.loop-place.invariant.given c.args.command (string_bytes c.index-words-place.result) c.in-Some.setting c.if-not-set.ensures.twice (subst (λ w. IsOption w c.in-Some.setting) c.as_str.ensures.value c.in-Some.ensures.some))

pub returns-then-not-may_have-clause-stops : goal.returns-then-not-may_have-clause-stops
returns-then-not-may_have-clause-stops c =
    let is : IsOption (string_bytes c.index-words-place.result) c.in-Some.setting = subst (λ w. IsOption w c.in-Some.setting) c.as_str.ensures.value c.in-Some.ensures.some in
    let none : may_have c.args.command (kind_of c.in-Some.setting) ≡ false = ap (may_have c.args.command) (sym c.kind.ensures) ∙ sym c.may_have.ensures ∙ c.if-not-may_have.true in
    option_stops c.args.words.now c.loop-place.place c.index-words-place.result (omega arith) c.index-words-place.is c.args.command c.loop-place.invariant.stand
    (not_had c.args.command (take c.loop-place.place (texts c.args.words.now)) (string_bytes c.index-words-place.result) c.in-Some.setting is none)

pub loop-place-preserved : goal.loop-place-preserved
loop-place-preserved c =
    let before = take c.loop-place.place (texts c.args.words.now) in
    let word = string_bytes c.index-words-place.result in
    let more = texts_more c.args.words.now c.loop-place.place c.index-words-place.result (omega arith) c.index-words-place.is in
    let is : IsOption word c.in-Some.setting = subst (λ w. IsOption w c.in-Some.setting) c.as_str.ensures.value c.in-Some.ensures.some in
    let sets = c.if-not-set.ensures.set in
    let new : IsNewOption c.args.command before word = record {
      setting = c.in-Some.setting;
      is = is;
      had = ap (may_have c.args.command) (sym c.kind.ensures) ∙ sym c.may_have.ensures ∙ c.if-not-may_have.false;
      is_new = lacks before word c.loop-place.given c.set.new.self c.loop-place.invariant.given c.in-Some.setting sets;
    } in
    record {
      stand = subst (λ ws. AreNew c.args.command [] ws) (sym more) (new_more c.args.command [] before word c.loop-place.invariant.stand new);
      given = subst (λ ws. AreGiven ws c.set.new.self) (sym more) (given_more before word c.loop-place.given c.set.new.self c.loop-place.invariant.given c.in-Some.setting sets is);
    }
