-- What is told of pairs, one after another.
use Rattle.std.proofs.Common.{◌≡◌, ℕ, ◌+◌, ◌-◌, ◌<◌, List, [], ◌∷◌, ◌++◌, Option, None, length, get_or, refl, sym, ap, ◌∙◌, subst, ⊎_elim, arith, length-append}
use Rattle.std.proofs.lemmas.Bool.{cases_eq}
use Rattle.std.proofs.lemmas.List.{get_or_default}
use Rattle.cs_grammar.specs.Grammar.{PlainGrammar, IsNumberOf}
use Rattle.cs_grammar.specs.Weights.{Measure}
use Rattle.cs_least.specs.declared.cost.cost.Cost.{Cost}
use Rattle.cs_least.specs.declared.ways.step.Source.{Source}
use Rattle.cs_least.specs.declared.ways.reach.Reach.{Reach}
use Rattle.cs_least.specs.Ways.Ways.{Net, IsReach, AreLeastWays}
use Rattle.cs_pairs.proofs.OnKinds.Reaching.{reach_read}
use Rattle.cs_pairs.proofs.OnKinds.RowLists.{get_before, get_last, rows_more, length_more}
use Rattle.cs_pairs.specs.declared.pairs.meeting.Meeting.{Meeting}
use Rattle.cs_pairs.specs.Pairs.Pairs.{ArePairs, ArePairRows}
use Rattle.cs_pairs.specs.Pairs.Meetings.{TellsMeeting, TellMeetings, AreMeetingRows}

-- what holds of the first so many items by their numbers, and of one more
each_more : {A : Type 0} (Holds : ℕ → A → Type 0) (d : A) (count : ℕ) (items : List A) (x : A) → length items ≡ count → ((n : ℕ) → IsNumberOf count n → Holds n (get_or items (n - 1) d)) → Holds (count + 1) x → (n : ℕ) → IsNumberOf (count + 1) n → Holds n (get_or (items ++ x ∷ []) (n - 1) d)
each_more Holds d count items x many each here n number =
    ⊎_elim
    (λ same.
    let place : length items ≡ n - 1 = omega (arith, same, many) in
    let is : x ≡ get_or (items ++ x ∷ []) (n - 1) d = sym (get_last items x d) ∙ ap (λ i. get_or (items ++ x ∷ []) i d) place in
    subst (λ m. Holds m (get_or (items ++ x ∷ []) (n - 1) d)) (sym same) (subst (Holds (count + 1)) is here))
    (λ other.
    let earlier : IsNumberOf count n = (number.0, omega (arith, number.1, other)) in
    subst (Holds n) (sym (get_before items x (n - 1) d (omega (arith, earlier, many)))) (each n earlier))
    (cases_eq n (count + 1))

module _ (w : Measure) (g : PlainGrammar) where
  pub tell_more : (b count : ℕ) (places : List (Option Meeting)) (found : Option Meeting) → TellMeetings w g b count places → TellsMeeting w g (count + 1) b found → TellMeetings w g b (count + 1) (places ++ found ∷ [])
  tell_more b count places found so_far here = record {
    many = length-append places (found ∷ []) ∙ ap (λ n. n + 1) so_far.many;
    each = each_more (λ a at. TellsMeeting w g a b at) None count places found so_far.many so_far.each here;
  }

  pub rows_none : AreMeetingRows w g 0 []
  rows_none = record { many = refl; each = λ b h. absurd (omega (arith, h)) }

  pub meeting_rows_more : (count : ℕ) (rows : List (List (Option Meeting))) (row : List (Option Meeting)) → AreMeetingRows w g count rows → TellMeetings w g (count + 1) g.tokens row → AreMeetingRows w g (count + 1) (rows ++ row ∷ [])
  meeting_rows_more count rows row so_far here = record {
    many = length-append rows (row ∷ []) ∙ ap (λ n. n + 1) so_far.many;
    each = each_more (λ b r. TellMeetings w g b g.tokens r) [] count rows row so_far.many so_far.each here;
  }

  pub pairs_none : ArePairRows w g 0 []
  pairs_none = record { many = refl; each = λ b h. absurd (omega (arith, h)) }

  pub pair_rows_more : (count : ℕ) (rows : List (List Cost)) (row : List Cost) → ArePairRows w g count rows → ArePairs w g (count + 1) row → ArePairRows w g (count + 1) (rows ++ row ∷ [])
  pair_rows_more count rows row so_far here = record {
    many = length_more (ArePairs w g) count rows row so_far.many;
    each = rows_more (ArePairs w g) count rows row so_far.many so_far.each here;
  }

-- what is told of the node at an index
pub told_at : (limit : ℕ) (net : Net) (sources : List Source) (table : List Reach) → AreLeastWays limit net sources table → (i : ℕ) (d : Reach) → i < net.nodes → IsReach limit net sources (i + 1) (get_or table i d)
told_at limit net sources table least i d within =
    subst (IsReach limit net sources (i + 1)) (reach_read table (i + 1) i d refl (omega (arith, within, least.many))) (least.exact (i + 1))

-- the row of a second token, as the code reads it
pub row_of_meetings : (w : Measure) (g : PlainGrammar) (b : ℕ) (rows : List (List (Option Meeting))) (held row : List (Option Meeting)) (j : ℕ) → AreMeetingRows w g g.tokens rows → IsNumberOf g.tokens b → held ≡ row → row ≡ get_or rows j row → j ≡ b - 1 → TellMeetings w g b g.tokens held
row_of_meetings w g b rows held row j are number is_held is_row is_j =
    let there : held ≡ get_or rows (b - 1) [] = is_held ∙ is_row ∙ ap (λ k. get_or rows k row) is_j ∙ get_or_default rows (b - 1) row [] (omega (arith, number, are.many)) in
    subst (TellMeetings w g b g.tokens) (sym there) (are.each b number)
