-- Marks of the spellings that are used.
use Rattle.std.proofs.Common.{◌≡◌, ◌≢◌, ℕ, zero, suc, ◌+◌, ◌<◌, ◌≤◌, Bool, true, false, cond, eqb, List, [], ◌∷◌, ◌++◌, length, get_or, take, drop, set, map, replicate, refl, sym, ap, ◌∙◌, append_assoc, arith}
use Rattle.std.specs.Prelude.{Some, slice_get, filter, not, ◌||◌}
use Rattle.std.specs.List.{All, AllPairs, flat_map, list_any}
use Rattle.std.proofs.lemmas.Bool.{false_from_ne_true, eqb-true, eqb-false, eq-eqb, ne_eqb}
use Rattle.std.proofs.lemmas.List.{map_more, get_or-map, length-map, at_drop_more, at_drop_all, append-nil}
use Rattle.std.proofs.lemmas.List.Elements.{All-head, All-tail, All-push, All-same}
use Rattle.std.proofs.lemmas.Option.{none-some, same_Some, slice_get-get_or}
use Rattle.cs_yacc.specs.declared.reading.name.TokenName.{TokenName}
use Rattle.cs_yacc.specs.declared.reading.name.TokenName.TheVariants.{Byte}
use Rattle.cs_yacc.specs.Reading.Meaning.{same_spelling, has_spelling, distinct, is_in_use}
use Rattle.cs_yacc.specs.declared.reading.spelled.SpelledRule as held
use Rattle.cs_yacc.specs.declared.reading.spelling.Spelling as code
use Rattle.cs_yacc.specs.Reading.Marks.{AreApart, AreWithin, AreMarksOf, MarksAt, used_here}
use Rattle.cs_yacc.specs.Reading.Places.{name_at, names_at, place_in}
use Rattle.cs_yacc.specs.Reading.RuleView.{rules_in}
use Rattle.cs_yacc.specs.Reading.SpellingView.{spelling_of, spellings_of}
use Rattle.cs_yacc.proofs.OnReading.Gathering.{same_is, same_self, has_distinct}
use Rattle.cs_yacc.proofs.OnReading.Names.{Differ, pairs_head, pairs_tail}

has_last : (done : List TokenName) (w : TokenName) → has_spelling (done ++ w ∷ []) w ≡ true
has_last [] w = rw (same_self w) refl
has_last (v ∷ done) w = step (same_spelling w v) (has_last done w)
  where
    step : (b : Bool) → has_spelling (done ++ w ∷ []) w ≡ true → (b || has_spelling (done ++ w ∷ []) w) ≡ true
    step true h = refl
    step false h = h

has_other : (done : List TokenName) (w v : TokenName) → same_spelling v w ≡ false → has_spelling (done ++ w ∷ []) v ≡ has_spelling done v
has_other [] w v e = rw e refl
has_other (x ∷ done) w v e = ap (λ (b : Bool). same_spelling v x || b) (has_other done w v e)

unlike : (w v : TokenName) → w ≢ v → same_spelling v w ≡ false
unlike w v ne = false_from_ne_true (same_spelling v w) (λ f. ne (sym (same_is v w f)))

others_stay : (done : List TokenName) (w : TokenName) (words : List TokenName) → All (Differ w) words → map (has_spelling (done ++ w ∷ [])) words ≡ map (has_spelling done) words
others_stay done w [] d = refl
others_stay done w (v ∷ words) d = rw (has_other done w v (unlike w v (All-head (Differ w) v words d)), others_stay done w words (All-tail (Differ w) v words d)) refl

at_differs : (v w : TokenName) (words : List TokenName) (k : ℕ) → slice_get words k ≡ Some w → All (Differ v) words → v ≢ w
at_differs v w [] k at d = absurd (none-some w at)
at_differs v w (x ∷ words) zero at d = λ same. All-head (Differ v) x words d (same ∙ sym (same_Some x w at))
at_differs v w (x ∷ words) (suc k) at d = at_differs v w words k at (All-tail (Differ v) x words d)

mark_at : (done : List TokenName) (w : TokenName) (words : List TokenName) (k : ℕ) → slice_get words k ≡ Some w → AllPairs Differ words → set (map (has_spelling done) words) k true ≡ map (has_spelling (done ++ w ∷ [])) words
mark_at done w [] k at d = absurd (none-some w at)
mark_at done w (v ∷ words) zero at d =
    let is : v ≡ w = same_Some v w at in
    let here : has_spelling (done ++ w ∷ []) v ≡ true = rw is (has_last done w) in
    let apart : All (Differ w) words = rw is at (pairs_head v words d) in
    rw (here, others_stay done w words apart) refl
mark_at done w (v ∷ words) (suc k) at d =
    let apart : w ≢ v = λ same. at_differs v w words k at (pairs_head v words d) (sym same) in
    rw (has_other done w v (unlike w v apart), mark_at done w words k at (pairs_tail v words d)) refl

-- the marks of one spelling more
pub mark_more : (done words : List TokenName) (places : List ℕ) (n m : ℕ) (old new : List Bool) → AllPairs Differ words → m ≡ length words → All (λ p. p < m) places → n < length places → old ≡ map (has_spelling (done ++ names_at words (take n places))) words
    → new ≡ set old (get_or places n 0) true → new ≡ map (has_spelling (done ++ names_at words (take (n + 1) places))) words
mark_more done words places n m old new apart size within lt so_far made =
    let k : ℕ = get_or places n 0 in
    let low : k < length words = omega (arith, within n 0 lt, size) in
    let at : slice_get words k ≡ Some (name_at words k) = slice_get-get_or words k (Byte 0) low in
    let before : List TokenName = names_at words (take n places) in
    let more : names_at words (take (n + 1) places) ≡ before ++ name_at words k ∷ [] = map_more (name_at words) places n 0 lt in
    made ∙ (ap (λ (ms : List Bool). set ms k true) so_far ∙ (mark_at (done ++ before) (name_at words k) words k at apart
    ∙ ap (λ (ws : List TokenName). map (has_spelling ws) words) (append_assoc done before (name_at words k ∷ []) ∙ ap (λ (ws : List TokenName). done ++ ws) (sym more))))

-- marks of all, each once
pub marks_distinct : (all words : List TokenName) → map (has_spelling all) words ≡ map (has_spelling (distinct all)) words
marks_distinct all [] = refl
marks_distinct all (w ∷ words) = rw (has_distinct all w, marks_distinct all words) refl

-- ---- marks of the rules

-- The marks tell which spellings are among those done, and more come.
pub record Marking (words : List TokenName) (marks : List Bool) (more all : List TokenName) : Type 0 where
  pub done : List TokenName
  pub tells : AreMarksOf marks words done
  pub all_is : done ++ more ≡ all

none_marked : (words : List TokenName) → replicate (length words) false ≡ map (has_spelling []) words
none_marked [] = refl
none_marked (w ∷ words) = ap (λ (ms : List Bool). false ∷ ms) (none_marked words)

pub marking_none : (words : List TokenName) (n : ℕ) (marks : List Bool) (all : List TokenName) → n ≡ length words → marks ≡ replicate n false → Marking words marks all all
marking_none words n marks all size made = record { done = []; tells = made ∙ (ap (λ (k : ℕ). replicate k false) size ∙ none_marked words); all_is = refl }

pub marking_more : (words : List TokenName) (rules : List held.SpelledRule) (k : ℕ) (r : held.SpelledRule) (old new : List Bool) (all : List TokenName) → AreApart words → Marking words old (flat_map (λ r. r.right) (rules_in words (drop k rules))) all → k < length rules
    → MarksAt old new (get_or rules k r).right.now → Marking words new (flat_map (λ r. r.right) (rules_in words (drop (k + 1) rules))) all
marking_more words rules k r old new all apart m lt marked =
    let here : List TokenName = names_at words (get_or rules k r).right.now in
    let rest : List TokenName = flat_map (λ r. r.right) (rules_in words (drop (k + 1) rules)) in
    let step : flat_map (λ r. r.right) (rules_in words (drop k rules)) ≡ here ++ rest = at_drop_more (λ xs. flat_map (λ r. r.right) (rules_in words xs)) rules k r lt in
    record {
      done = m.done ++ here;
      tells = marked words m.done apart m.tells;
      all_is = append_assoc m.done here rest ∙ ap (λ (x : List TokenName). m.done ++ x) (sym step) ∙ m.all_is;
    }

pub marking_ends : (words : List TokenName) (rules : List held.SpelledRule) (k : ℕ) (marks : List Bool) (all : List TokenName) → Marking words marks (flat_map (λ r. r.right) (rules_in words (drop k rules))) all → length rules ≤ k → AreMarksOf marks words (distinct all)
marking_ends words rules k marks all m le =
    let none : flat_map (λ r. r.right) (rules_in words (drop k rules)) ≡ [] = at_drop_all (λ xs. flat_map (λ r. r.right) (rules_in words xs)) rules k le in
    let whole : m.done ≡ all = sym (append-nil m.done) ∙ ap (λ (x : List TokenName). m.done ++ x) (sym none) ∙ m.all_is in
    m.tells ∙ ap (λ (ws : List TokenName). map (has_spelling ws) words) whole ∙ marks_distinct all words

-- what the mark of a spelling tells
pub tells_at : (marks : List Bool) (words : List code.Spelling) (used : List TokenName) (k : ℕ) (d : Bool) (w : code.Spelling) → AreMarksOf marks (spellings_of words) used → k < length words → get_or marks k d ≡ has_spelling used (spelling_of (get_or words k w))
tells_at marks words used k d w tells lt =
    ap (λ (ms : List Bool). get_or ms k d) tells ∙ (get_or-map (has_spelling used) (spellings_of words) k (spelling_of w) d (omega (arith, lt, length-map words spelling_of)) ∙ ap (has_spelling used) (get_or-map spelling_of words k w (spelling_of w) lt))

-- what the clause of a token in use says of the mark
pub in_use_as_told : (marks : List Bool) (all : List TokenName) (words : List code.Spelling) (used lefts ws : List TokenName) (k : ℕ) (d : Bool) (w : code.Spelling) → AreMarksOf marks all used → spellings_of words ≡ all → k < length words
    → ws ≡ used_here (get_or marks k d) lefts (spelling_of (get_or words k w)) → ws ≡ filter (is_in_use used lefts) (spelling_of (get_or words k w) ∷ [])
in_use_as_told marks all words used lefts ws k d w tells same lt is =
    is ∙ ap (λ (b : Bool). used_here b lefts (spelling_of (get_or words k w))) (tells_at marks words used k d w (tells ∙ ap (map (has_spelling used)) (sym same)) lt)

-- ---- places within the list

next_eqb : (k n : ℕ) → eqb (suc k) (1 + n) ≡ eqb k n
next_eqb k n = step (eqb k n) refl
  where
    step : (b : Bool) → eqb k n ≡ b → eqb (suc k) (1 + n) ≡ b
    step true e = eq-eqb (suc k) (1 + n) (let same : k ≡ n = eqb-true k n e in omega (arith, same))
    step false e = ne_eqb (suc k) (1 + n) (λ same. eqb-false k n e (omega (arith, same)))

same_place : (words : List TokenName) (w : TokenName) (k : ℕ) → AllPairs Differ words → k < length words → eqb k (place_in words w) ≡ same_spelling w (name_at words k)
same_place [] w k d lt = absurd (omega (arith, lt))
same_place (v ∷ words) w zero d lt = here (same_spelling w v)
  where
    here : (b : Bool) → eqb 0 (cond (not b) (1 + place_in words w) 0) ≡ b
    here true = refl
    here false = ne_eqb 0 (1 + place_in words w) (λ same. omega (arith, same))
same_place (v ∷ words) w (suc k) d lt = later (same_spelling w v) refl (same_place words w k (pairs_tail v words d) (omega (arith, lt)))
  where
    later : (b : Bool) → same_spelling w v ≡ b → eqb k (place_in words w) ≡ same_spelling w (name_at words k) → eqb (suc k) (cond (not b) (1 + place_in words w) 0) ≡ same_spelling w (name_at words k)
    later true e h = ne_eqb (suc k) 0 (λ same. omega (arith, same)) ∙ sym (unlike (name_at words k) w (λ same. pairs_head v words d k (Byte 0) (omega (arith, lt)) (sym (same_is w v e) ∙ sym same)))
    later false e h = next_eqb k (place_in words w) ∙ h

-- the place of a spelling is among these exactly where the spelling is at one of them
pub holds_place : (words : List TokenName) (w : TokenName) (places : List ℕ) → AllPairs Differ words → All (λ k. k < length words) places → list_any (λ k. eqb k (place_in words w)) places ≡ has_spelling (names_at words places) w
holds_place words w [] d within = refl
holds_place words w (k ∷ places) d within =
    rw (same_place words w k d (All-head (λ k. k < length words) k places within), holds_place words w places d (All-tail (λ k. k < length words) k places within)) refl

pub within_more : (words : List TokenName) (old new : List held.SpelledRule) (r : held.SpelledRule) (run : List ℕ) → new ≡ old ++ r ∷ [] → r.right.now ≡ run → All (λ k. k < length words) run → AreWithin words old → AreWithin words new
within_more words old new r run made is within before =
    rw made (All-push (λ (q : held.SpelledRule). All (λ k. k < length words) q.right.now) old r before (All-same (λ (k : ℕ). k < length words) r.right.now run is within))
