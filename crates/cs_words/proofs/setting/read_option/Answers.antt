-- A word without a mark is no option, nor is one with a mark before what isn't a value of that mark.
use Rattle.std.proofs.Common.{◌≡◌, ℕ, List, rules, subst}
use Rattle.cs_words.specs.declared.setting.Setting.{Setting}
use Rattle.cs_words.specs.Options.{IsOption}
use Rattle.cs_words.specs.Values.{IsFirst}
use Rattle.cs_words.proofs.Names.{none_where}
use Rattle.cs_words.proofs.GivenLemmas.{no_mark, not_criteria, not_first, not_operators, not_slips}
use Rattle.cs_words.proofs.setting.read_option.Goals as goal

pub returns-in_err-read_criteria-clause-none : goal.returns-in_err-read_criteria-clause-none
returns-in_err-read_criteria-clause-none c =
    let none : (setting : Setting) → IsOption c.args.word.now setting → ⊥ = not_criteria c.args.word.now c.in-Some.value.now c.in-Some.ensures.some c.in_err-read_criteria.ensures.none in
    none_where _ none

pub returns-in_err-read_operators-clause-none : goal.returns-in_err-read_operators-clause-none
returns-in_err-read_operators-clause-none c =
    let none : (setting : Setting) → IsOption c.args.word.now setting → ⊥ = not_operators c.args.word.now c.in-Some-behind.value.now c.in-Some-behind.ensures.some c.in_err-read_operators.ensures.none in
    none_where _ none

pub returns-in_err-value-clause-none : goal.returns-in_err-value-clause-none
returns-in_err-value-clause-none c =
    let none : (setting : Setting) → IsOption c.args.word.now setting → ⊥ =
    no_mark c.args.word.now c.in_default.ensures.none c.in_default-behind.ensures.none c.in_default-behind-2.ensures.none c.in_default-behind-3.ensures.none c.in_default-behind-4.ensures.none c.in_default-behind-5.ensures.none c.in_default-behind-6.ensures.none c.in_err-value.ensures.none in
    none_where _ none

pub returns-in_err-read_slips-clause-none : goal.returns-in_err-read_slips-clause-none
returns-in_err-read_slips-clause-none c =
    let none : (setting : Setting) → IsOption c.args.word.now setting → ⊥ = not_slips c.args.word.now c.in-Some-behind-6.value.now c.in-Some-behind-6.ensures.some c.in_err-read_slips.ensures.none in
    none_where _ none

pub returns-in_err-read_first-clause-none : goal.returns-in_err-read_first-clause-none
returns-in_err-read_first-clause-none c =
    let same : c.as_bytes-2.result.now ≡ c.in_ok-value.value.now = search rules in
    let other : (first : ℕ) → IsFirst c.in_ok-value.value.now first → ⊥ = subst (λ (v : List ℕ). (first : ℕ) → IsFirst v first → ⊥) same c.in_err-read_first.ensures.none in
    let none : (setting : Setting) → IsOption c.args.word.now setting → ⊥ = not_first c.args.word.now c.in_ok-value.value.now c.in_ok-value.ensures.some other in
    none_where _ none
