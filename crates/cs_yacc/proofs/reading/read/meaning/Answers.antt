-- A second `%start` is the first fault, then one in names; where there is none, the parts give the file.
use Rattle.std.proofs.Common.{◌∙◌, ◌≡◌, take, length, ap, sym, subst, arith}
use Rattle.std.specs.Prelude.{List, None}
use Rattle.cs_yacc.specs.declared.items.item.Placed as held
use Rattle.cs_yacc.specs.Items.Items.{Placed, items_of}
use Rattle.cs_yacc.specs.Items.Views.{placed_all}
use Rattle.cs_yacc.specs.declared.reading.name.TokenName.{TokenName}
use Rattle.cs_yacc.specs.Reading.Meaning.{declared_tokens, nonterminals, distinct, spelled, with_meaning, behind_start, first_start, start_item, file_or_limit, parts_of}
use Rattle.cs_yacc.specs.Reading.Finding.{IsGiven, HoldsSpellings, placed_of_some}
use Rattle.cs_yacc.specs.Reading.Marks.{AreApart}
use Rattle.cs_yacc.proofs.OnReading.Counts.{few_words, few_held}
use Rattle.cs_yacc.proofs.OnReading.Names.{distinct_differ, meant_are_spelled}
use Rattle.cs_yacc.proofs.OnReading.Whole.{gives_second_start, name_fault_behind, gives_fault, gives_rest, started, few_with_meaning, left_fit, parts_same}
use Rattle.cs_yacc.proofs.reading.read.meaning.Goals as goal

pub returns-in-Some : goal.returns-in-Some
returns-in-Some c =
    gives_second_start (placed_all c.args.all.items) c.in-Some.at (c.in-Some.ensures ∙ ap first_start (c.behind_start-rest.ensures ∙ ap (λ (xs : List held.Placed). behind_start (placed_all xs)) c.deref.ensures.value))

pub name_fault-requires : goal.name_fault-requires
name_fault-requires c =
    let all : List Placed = placed_all c.args.all.items in
    let meant : placed_all c.deref-4.result.now ≡ with_meaning all = ap placed_all c.deref-4.ensures.value ∙ c.in_ok-meant.ensures.items in
    subst (λ (ws : List TokenName). HoldsSpellings ws (items_of (placed_all c.deref-4.result.now))) (sym c.in_ok-meant.ensures.words)
    (subst (λ (ps : List Placed). HoldsSpellings (distinct (spelled (items_of all))) (items_of ps)) (sym meant) (meant_are_spelled all))

pub returns-in-Some-name_fault : goal.returns-in-Some-name_fault
returns-in-Some-name_fault c =
    let all : List Placed = placed_all c.args.all.items in
    let items : List Placed = placed_all c.deref-4.result.now in
    let once : None ≡ first_start (behind_start all) = c.in_default.ensures ∙ ap first_start (c.behind_start-rest.ensures ∙ ap (λ (xs : List held.Placed). behind_start (placed_all xs)) c.deref.ensures.value) in
    let named : placed_of_some c.first_item-start.result ≡ start_item all = c.first_item-start.ensures ∙ ap (take 1) (c.behind_start-rest.ensures ∙ ap (λ (xs : List held.Placed). behind_start (placed_all xs)) c.deref.ensures.value) in
    gives_fault all items c.in_ok-declared.declared c.in_ok-lefts.lefts (ap placed_all c.deref-4.ensures.value ∙ c.in_ok-meant.ensures.items)
    (c.in_ok-declared.ensures ∙ ap (λ (xs : List held.Placed). declared_tokens (items_of (placed_all xs))) (c.deref-2.ensures.value ∙ sym c.deref-4.ensures.value))
    (c.in_ok-lefts.ensures ∙ ap (λ (xs : List held.Placed). nonterminals (items_of (placed_all xs))) (c.deref-3.ensures.value ∙ sym c.deref-4.ensures.value)) c.in-Some-name_fault.fault
    (c.in-Some-name_fault.ensures ∙ name_fault_behind all items (placed_of_some c.first_item-start.result) c.in_ok-declared.declared c.in_ok-lefts.lefts once named)

pub file_of-requires-clause-few : goal.file_of-requires-clause-few
file_of-requires-clause-few c =
    omega (arith, few_with_meaning c.args.all.items c.in_ok-meant.meant.items.items c.in_ok-meant.ensures.items, few_held c.in_ok-meant.meant.items.items, c.requires.few)

pub file_of-requires-clause-few_words : goal.file_of-requires-clause-few_words
file_of-requires-clause-few_words c =
    omega (arith, ap length c.in_ok-meant.ensures.words, few_words (items_of (placed_all c.args.all.items)), few_held c.args.all.items, c.requires.few)

pub file_of-requires-clause-lefts : goal.file_of-requires-clause-lefts
file_of-requires-clause-lefts c =
    c.in_ok-lefts.ensures ∙ ap (λ (xs : List held.Placed). nonterminals (items_of (placed_all xs))) c.deref-3.ensures.value

pub file_of-requires-clause-fits : goal.file_of-requires-clause-fits
file_of-requires-clause-fits c =
    let all : List Placed = placed_all c.args.all.items in
    let once : None ≡ first_start (behind_start all) = c.in_default.ensures ∙ ap first_start (c.behind_start-rest.ensures ∙ ap (λ (xs : List held.Placed). behind_start (placed_all xs)) c.deref.ensures.value) in
    let named : placed_of_some c.first_item-start.result ≡ start_item all = c.first_item-start.ensures ∙ ap (take 1) (c.behind_start-rest.ensures ∙ ap (λ (xs : List held.Placed). behind_start (placed_all xs)) c.deref.ensures.value) in
    left_fit all (placed_all c.in_ok-meant.meant.items.items) (placed_of_some c.first_item-start.result) c.in_ok-meant.meant.words c.in_ok-lefts.lefts c.in_ok-meant.ensures.words named c.in_ok-meant.ensures.items
    (c.in_ok-lefts.ensures ∙ ap (λ (xs : List held.Placed). nonterminals (items_of (placed_all xs))) c.deref-3.ensures.value) c.requires.taken
    (started all (placed_all c.deref-4.result.now) c.in_ok-declared.declared c.in_ok-lefts.lefts
    (c.in-None.ensures ∙ name_fault_behind all (placed_all c.deref-4.result.now) (placed_of_some c.first_item-start.result) c.in_ok-declared.declared c.in_ok-lefts.lefts once named))

pub returns : goal.returns
returns c =
    let all : List Placed = placed_all c.args.all.items in
    let items : List Placed = placed_all c.deref-4.result.now in
    let once : None ≡ first_start (behind_start all) = c.in_default.ensures ∙ ap first_start (c.behind_start-rest.ensures ∙ ap (λ (xs : List held.Placed). behind_start (placed_all xs)) c.deref.ensures.value) in
    let named : placed_of_some c.first_item-start.result ≡ start_item all = c.first_item-start.ensures ∙ ap (take 1) (c.behind_start-rest.ensures ∙ ap (λ (xs : List held.Placed). behind_start (placed_all xs)) c.deref.ensures.value) in
    gives_rest all items c.in_ok-declared.declared c.in_ok-lefts.lefts (ap placed_all c.deref-4.ensures.value ∙ c.in_ok-meant.ensures.items)
    (c.in_ok-declared.ensures ∙ ap (λ (xs : List held.Placed). declared_tokens (items_of (placed_all xs))) (c.deref-2.ensures.value ∙ sym c.deref-4.ensures.value))
    (c.in_ok-lefts.ensures ∙ ap (λ (xs : List held.Placed). nonterminals (items_of (placed_all xs))) (c.deref-3.ensures.value ∙ sym c.deref-4.ensures.value)) c.file_of.result
    (c.in-None.ensures ∙ name_fault_behind all items (placed_of_some c.first_item-start.result) c.in_ok-declared.declared c.in_ok-lefts.lefts once named)
    (subst (λ p. IsGiven c.file_of.result (file_or_limit p))
    (parts_same all (placed_all c.in_ok-meant.meant.items.items) (placed_of_some c.first_item-start.result) c.in_ok-meant.meant.words c.in_ok-meant.ensures.words named
    ∙ ap (λ (xs : List held.Placed). parts_of all (placed_all xs)) (sym c.deref-4.ensures.value)) c.file_of.ensures)

pub file_of-requires-clause-apart : goal.file_of-requires-clause-apart
file_of-requires-clause-apart c = subst AreApart (sym c.in_ok-meant.ensures.words) (distinct_differ (spelled (items_of (placed_all c.args.all.items))))
