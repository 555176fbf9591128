-- A base has the tokens exactly where the map has them as a key, and the entry of a new key is put last.
use Rattle.std.proofs.Common.{◌≡◌, ◌∙◌, ℕ, List, ◌∷◌, [], ◌++◌, false, refl, sym, ap, subst, arith}
use Rattle.std.specs.Prelude.{Option, None, Some, is_some}
use Rattle.std.specs.Global.{Vec}
use Rattle.std.specs.Str.{bytes_eq}
use Rattle.std.proofs.lemmas.Bool.{false≢true}
use Rattle.std.proofs.lemmas.List.{length-map}
use Rattle.indexmap.proofs.CallerLemmas.{insert_entry-new}
use Rattle.cs_writing.specs.Bases.Bases.{PlainBases, IsFree, base_in, bases_in, with_base}
use Rattle.cs_writing.proofs.OnBases.Distinct.{has}
use Rattle.cs_writing.proofs.OnBases.Offers.{any_from_has, none_from_has, is_some-lookup-bases, bases_in-push}
use Rattle.cs_writing.proofs.bases.bases.Bases.offer.Goals as goal
use Rattle.cs_writing.proofs.bases.bases.Bases.offer.Goals.{then-len-self-via-then-len-self, then-len-self-via-else-len-self+then-contains_key}

none_is : (r : Option ℕ) → is_some r ≡ false → r ≡ None
none_is None e = refl
none_is (Some x) e = absurd (false≢true (sym e))

pub returns-then-len-self-clause-taken : goal.returns-then-len-self-clause-taken
returns-then-len-self-clause-taken c = (
  λ t. absurd (false≢true t),
  λ free.
      let tokens = c.args.tokens.now in
      let entries = c.self.inside.goals.entries in
      let h : IsFree (record { most = c.self.inside.most; list = bases_in entries }) tokens = subst (λ (b : PlainBases). IsFree b tokens) (sym c.self.view_is) free in
      elim c.then-len-self.branch [
        | then-len-self-via-then-len-self w ↦ absurd (omega (arith, h.room, w.if-len-self.true, c.len.ensures.len, length-map entries base_in))
        | then-len-self-via-else-len-self+then-contains_key w ↦
            absurd (h.new (any_from_has tokens (bases_in entries) (sym (is_some-lookup-bases tokens entries) ∙ sym w.contains_key.ensures ∙ w.if-contains_key.true)))
      ],
)

pub returns-clause-taken : goal.returns-clause-taken
returns-clause-taken c =
    let tokens = c.args.tokens.now in
    let entries = c.self.inside.goals.entries in
    let fresh : has tokens (bases_in entries) ≡ false = sym (is_some-lookup-bases tokens entries) ∙ sym c.contains_key.ensures ∙ c.if-contains_key.false in
    let free : IsFree (record { most = c.self.inside.most; list = bases_in entries }) tokens =
    record {
      new = none_from_has tokens (bases_in entries) fresh;
      room = omega (arith, c.if-len-self.false, c.len.ensures.len, length-map entries base_in);
    } in
    (λ _. subst (λ (b : PlainBases). IsFree b tokens) c.self.view_is free, λ _. refl)

pub returns-clause-bases : goal.returns-clause-bases
returns-clause-bases c =
    let tokens = c.args.tokens.now in
    let entries = c.self.inside.goals.entries in
    let v = c.in_ok-tokens.tokens in
    let same : v.items ≡ tokens = c.in_ok-tokens.ensures.items in
    let fresh : has v.items (bases_in entries) ≡ false =
    ap (λ (t : List ℕ). has t (bases_in entries)) same ∙ sym (is_some-lookup-bases tokens entries) ∙ sym c.contains_key.ensures ∙ c.if-contains_key.false in
    let absent = none_is _ (is_some-lookup-bases v.items entries ∙ fresh) in
    let put : c.insert.new.self.entries ≡ entries ++ (v, c.args.goal) ∷ [] =
    c.in_ok-insert.ensures.entries ∙ insert_entry-new (λ (x y : Vec ℕ). bytes_eq x.items y.items) c.self.inside.goals v c.args.goal absent in
    ap (λ (l : List (ℕ × List ℕ)). record { most = c.self.inside.most; list = l }) (ap bases_in put ∙ bases_in-push entries v c.args.goal tokens same)
    ∙ ap (λ (b : PlainBases). with_base b c.args.goal tokens) c.self.view_is
