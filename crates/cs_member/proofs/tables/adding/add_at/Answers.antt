-- The number's list has the entry last, and the other lists stay.
use Rattle.std.proofs.Common.{Some, sym, ap, ◌∙◌, refl}
use Rattle.std.proofs.lemmas.Option.{slice_get-get_or}
use Rattle.cs_member.proofs.tables.adding.add_at.Goals as goal

pub returns : goal.returns
returns g c = record {
  list = c.index_mut.result.now;
  longer = c.push.new.self;
  was = slice_get-get_or c.args.lists.now.items c.args.number c.index_mut.result.now c.requires ∙ ap Some (sym c.index_mut.ensures.value);
  is = c.in_ok-push.ensures.items;
  lists = refl;
}
