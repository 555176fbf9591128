-- The key at the place that the set gives is equal to the spelling.
use Rattle.std.proofs.Common.{Some, sym, ap, ◌∙◌, length, arith}
use Rattle.std.specs.Prelude.{not, option_map}
use Rattle.std.proofs.lemmas.List.{length-map}
use Rattle.std.proofs.lemmas.List.Sums.{prefix_len-le-length}
use Rattle.std.proofs.lemmas.Option.{slice_get-map}
use Rattle.cs_yacc.specs.contracts.reading.spelling.SpellingPartialEq.TheImpl as derived
use Rattle.cs_yacc.specs.Reading.SpellingView.{spelling_of, spellings_of, and_one}
use Rattle.cs_yacc.proofs.OnReading.Gathering.{eq_is, insert_is, same_is}
use Rattle.cs_yacc.proofs.reading.spelling.Spellings.place.Goals as goal

pub overflow_cast-result : goal.overflow_cast-result
overflow_cast-result c =
    let keys = c.self.inside.set.keys in
    omega (arith, c.in_ok-place.ensures.index, prefix_len-le-length (λ x. not (derived.eq-value.it c.args.spelling x)) keys, length-map keys spelling_of, ap length c.self.view_is, c.requires)

pub returns : goal.returns
returns c =
    let s = c.in_ok-place.ensures.stored in
    record {
      words = ap spellings_of c.in_ok-place.ensures.keys ∙ (insert_is c.self.inside.set.keys c.args.spelling ∙ ap (λ ss. and_one ss (spelling_of c.args.spelling)) c.self.view_is);
      place = slice_get-map spelling_of c.insert_full.new.self.keys c.in_ok-place.place ∙ (ap (option_map spelling_of) s.1 ∙ ap Some (sym (same_is (spelling_of c.args.spelling) (spelling_of s.0) (sym (eq_is c.args.spelling s.0) ∙ s.2))));
    }
