-- Rows in buckets, by what their items await.
use Rattle.std.proofs.Common.{◌≡◌, ℕ, ◌+◌, ◌<◌, ◌≤◌, inl, inr, List, [], ◌∷◌, ◌++◌, Some, length, get_or, refl, sym, ap, ◌∙◌, subst, arith}
use Rattle.std.specs.Prelude.{◌↔◌, Contains, slice_get}
use Rattle.std.specs.Global.{Vec}
use Rattle.std.proofs.Math.ListN.{length-set}
use Rattle.std.proofs.lemmas.Bool.{cases_eq}
use Rattle.std.proofs.lemmas.Option.{slice_get_within, same_Some}
use Rattle.std.proofs.lemmas.List.Elements.{Contains-push, Contains-push_cases, Contains-append_left}
use Rattle.cs_grammar.specs.declared.symbol.Symbol.TheVariants.{Token, Nonterminal}
use Rattle.cs_grammar.specs.Grammar.{PlainGrammar, IsGrammar}
use Rattle.cs_grammar.proofs.Measures.{IsRuleOf-rule}
use Rattle.cs_member.specs.declared.tables.item.Item.{Item}
use Rattle.cs_member.specs.declared.tables.item.Next.{Next}
use Rattle.cs_member.specs.declared.tables.item.Next.TheVariants.{Awaited, Done}
use Rattle.cs_member.specs.declared.chart.now.Origins.{Origins}
use Rattle.cs_member.specs.declared.chart.chart.Row.{Row}
use Rattle.cs_member.specs.Tables.Item.{IsItem, IsNext, over}
use Rattle.cs_member.specs.Tables.Sets.{Has, InWords}
use Rattle.cs_member.specs.Chart.Now.{AreHere, StandsIn, IsHere}
use Rattle.cs_member.specs.Tables.Adding.{IsAdded}
use Rattle.cs_member.specs.Chart.Chart.{IsRow, BucketOf, bucket_of, IsHeld, AreRows}
use Rattle.cs_member.proofs.OnTables.Places.{at_left, at_end, at_push_cases, at_set, at_set_cases, at_set_other}
use Rattle.cs_member.proofs.OnChart.Putting.{not_both, awaited_within}

pub bucket_next : (g : PlainGrammar) (x : Item) (next : Next) → IsGrammar g → IsNext g x next → IsHere g x → BucketOf g (bucket_of next) x
bucket_next g x (Awaited (Token t)) grammar is here = inr (refl, t, is)
bucket_next g x (Awaited (Nonterminal a)) grammar is here = inl ((awaited_within g x a is.rule is.number (IsRuleOf-rule g x.rule is.rule grammar is.number) is).0, is)
bucket_next g x (Done a) grammar is here = absurd (not_both g x here.0 a here.1 is)

-- an item that awaits a symbol can be moved
pub moved : (g : PlainGrammar) (x : Item) → IsGrammar g → IsHere g x → IsItem g (over x) × (x.place < 128)
moved g x grammar here =
    let w = here.1 in
    let lt = slice_get_within w.rule.right x.place here.0 w.at in
    let short = (IsRuleOf-rule g x.rule w.rule grammar w.number).short in
    (record { rule = w.rule; number = w.number; within = omega arith }, omega arith)

stands_left : (old : List Origins) (o : Origins) (x : Item) (j : ℕ) → StandsIn old x j → StandsIn (old ++ o ∷ []) x j
stands_left old o x j h = (h.0, h.1, at_left old (o ∷ []) h.0 h.1 h.2, h.3, h.4)

held_more : (g : PlainGrammar) (old : List Origins) (o : Origins) (b : ℕ) (row : Row) → IsHeld g old b row → IsHeld g (old ++ o ∷ []) b row
held_more g old o b row held = record { fits = held.fits; bucket = held.bucket; back = λ j h. stands_left old o row.item j (held.back j h) }

-- one row more
pub rows_push : (g : PlainGrammar) (old : List Origins) (o : Origins) (rows new : List (Vec Row)) (b : ℕ) (row : Row) → AreRows g old rows → IsAdded b row rows new → row.item ≡ o.item → IsRow g row → BucketOf g b row.item → ((j : ℕ) → InWords row.words.items j ↔ Has o.set.items j) → AreRows g (old ++ o ∷ []) new
rows_push g old o rows new b row before added item fits bucket has =
    let within = slice_get_within rows b added.list added.was in
    let placed : slice_get new b ≡ Some added.longer = ap (λ (l : List (Vec Row)). slice_get l b) added.lists ∙ at_set rows b added.longer within in
    record {
      size = ap (λ (l : List (Vec Row)). length l) added.lists ∙ (length-set rows b added.longer ∙ before.size);
      held = λ d list r at in_it.
          elim (at_set_cases rows b d added.longer list (ap (λ (l : List (Vec Row)). slice_get l d) (sym added.lists) ∙ at)) [
            | inl here ↦
                let in_more : Contains (added.list.items ++ row ∷ []) r = subst (λ (l : List Row). Contains l r) (ap (λ (v : Vec Row). v.items) (sym here.1) ∙ added.is) in_it in
                elim (Contains-push_cases added.list.items row r in_more) [
                  | inl was ↦ held_more g old o d r (subst (λ n. IsHeld g old n r) (sym here.0) (before.held b added.list r added.was was))
                  | inr now ↦
                      let one : IsHeld g (old ++ o ∷ []) b row = record {
                        fits = fits;
                        bucket = bucket;
                        back = λ j h. (length old, o, at_end old o (length old) refl, sym item, (has j).0 h);
                      } in
                      subst (λ n. IsHeld g (old ++ o ∷ []) n r) (sym here.0) (subst (λ (q : Row). IsHeld g (old ++ o ∷ []) b q) now one)
                ]
            | inr other ↦ held_more g old o d r (before.held d list r other in_it)
          ];
      stand = λ x j h.
          elim (at_push_cases old o h.0 h.1 h.2) [
            | inl was ↦
                let s = before.stand x j (h.0, h.1, was, h.3, h.4) in
                elim (cases_eq s.0 b) [
                  | inl same ↦
                      let list : s.1 ≡ added.list = same_Some s.1 added.list (sym s.3 ∙ (ap (λ n. slice_get rows n) same ∙ added.was)) in (
                        b,
                        added.longer,
                        s.2,
                        placed,
                        subst (λ (l : List Row). Contains l s.2) (sym added.is) (Contains-append_left added.list.items (row ∷ []) s.2 (subst (λ (v : Vec Row). Contains v.items s.2) list s.4)),
                        s.5,
                        s.6,
                      )
                  | inr other ↦ (s.0, s.1, s.2, ap (λ (l : List (Vec Row)). slice_get l s.0) added.lists ∙ at_set_other rows b s.0 added.longer s.1 other s.3, s.4, s.5, s.6)
                ]
            | inr last ↦ (
              b,
              added.longer,
              row,
              placed,
              subst (λ (l : List Row). Contains l row) (sym added.is) (Contains-push added.list.items row),
              item ∙ (ap (λ (p : Origins). p.item) last.1 ∙ h.3),
              (has j).1 (subst (λ (p : Origins). Has p.set.items j) (sym last.1) h.4),
            )
          ];
    }

pub rows_none : (g : PlainGrammar) (rows : List (Vec Row)) → length rows ≡ g.nonterminals + 1 → ((b : ℕ) (bucket : Vec Row) → slice_get rows b ≡ Some bucket → bucket.items ≡ []) → AreRows g [] rows
rows_none g rows size empty = record {
  size = size;
  held = λ b bucket row at in_it. absurd (let none = subst (λ (l : List Row). Contains l row) (empty b bucket at) in_it in let lt = none.1 in omega arith);
  stand = λ x j h. absurd (let lt = slice_get_within [] h.0 h.1 h.2 in omega arith);
}

pub bucket_within : (g : PlainGrammar) (b : ℕ) (x : Item) → IsGrammar g → BucketOf g b x → b ≤ g.nonterminals
bucket_within g b x grammar bucket =
    elim bucket [
      | inl some ↦ (awaited_within g x b some.1.rule some.1.number (IsRuleOf-rule g x.rule some.1.rule grammar some.1.number) some.1).1
      | inr none ↦ (let zero = none.0 in omega arith)
    ]

pub here_item : (g : PlainGrammar) (x : Item) → IsHere g x → IsItem g x
here_item g x here =
    let w = here.1 in
    let lt = slice_get_within w.rule.right x.place here.0 w.at in
    record { rule = w.rule; number = w.number; within = omega arith }

-- the item at a place of those that stand here, and its bucket
pub here_at : (g : PlainGrammar) (origins : List Origins) (k : ℕ) (o : Origins) → AreHere g origins → k < length origins → o ≡ get_or origins k o → IsHere g o.item
here_at g origins k o here lt is = subst (λ (r : Origins). IsHere g r.item) (sym is) (here k o lt)

bucket_at : (g : PlainGrammar) (x : Item) (next : Next) (b : ℕ) → IsGrammar g → IsNext g x next → IsHere g x → b ≡ bucket_of next → BucketOf g b x
bucket_at g x next b grammar next_is here is = subst (λ n. BucketOf g n x) (sym is) (bucket_next g x next grammar next_is here)

-- the bucket of the item at a place of those that stand here, and that there is one
pub bucket_here : (g : PlainGrammar) (origins : List Origins) (k : ℕ) (o : Origins) (next : Next) (b : ℕ) → IsGrammar g → AreHere g origins → k < length origins → o ≡ get_or origins k o → IsNext g o.item next → b ≡ bucket_of next → BucketOf g b o.item
bucket_here g origins k o next b grammar here lt is next_is same = bucket_at g o.item next b grammar next_is (here_at g origins k o here lt is) same

pub bucket_low : (g : PlainGrammar) (origins : List Origins) (k : ℕ) (o : Origins) (next : Next) (b : ℕ) → IsGrammar g → AreHere g origins → k < length origins → o ≡ get_or origins k o → IsNext g o.item next → b ≡ bucket_of next → b ≤ g.nonterminals
bucket_low g origins k o next b grammar here lt is next_is same = bucket_within g b o.item grammar (bucket_here g origins k o next b grammar here lt is next_is same)
