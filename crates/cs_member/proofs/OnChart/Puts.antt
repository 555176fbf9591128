-- Items that are put one after another.
use Rattle.std.proofs.Common.{◌≡◌, ℕ, ◌+◌, ◌<◌, ◌⊎◌, inl, inr, List, [], ◌∷◌, ◌++◌, Option, length, take, get_or, refl, sym, ap, ◌∙◌, subst, arith, append_assoc, append-nil}
use Rattle.std.specs.Prelude.{◌↔◌}
use Rattle.std.proofs.lemmas.List.{take_more}
use Rattle.std.proofs.lemmas.List.Elements.{All-append, All-nil, Contains-push, Contains-push_cases, Contains-append_left}
use Rattle.cs_grammar.specs.Grammar.{PlainGrammar}
use Rattle.cs_member.specs.declared.tables.item.Item.{Item}
use Rattle.cs_member.specs.declared.tables.word.Word.{Word}
use Rattle.cs_member.specs.declared.chart.now.Now.{Now}
use Rattle.cs_member.specs.declared.chart.now.Span.{Span}
use Rattle.cs_member.specs.declared.chart.chart.Row.{Row}
use Rattle.cs_member.specs.declared.tables.fronts.Front.{Front}
use Rattle.cs_member.specs.Tables.Item.{IsDone, over}
use Rattle.cs_member.specs.Tables.Sets.{Has, InWord, InWords}
use Rattle.cs_member.specs.Chart.Now.{IsKept, IsPast, IsPut, ArePut}
use Rattle.cs_member.specs.Chart.Chart.{OfRows, OfFronts}
use Rattle.cs_member.proofs.OnChart.Rows.{all_more}
use Rattle.cs_member.proofs.OnChart.Putting.{kept_more}
use Rattle.cs_member.proofs.OnTables.Bits.{in_more}

module _ (g : PlainGrammar) (ahead cause : Option ℕ) where
  abbrev pub Of : (Item → ℕ → Type 0) → Span → Type 0
  Of Put s = (s.cause ≡ cause) × (first : Item) × (x : Item) × Put first s.from × IsPast g first x × IsDone g x s.nonterminal

  of_more : (P Q : Item → ℕ → Type 0) → ((x : Item) (j : ℕ) → P x j → Q x j) → (s : Span) → Of P s → Of Q s
  of_more P Q more s h = (h.0, h.1, h.2, more h.1 s.from h.3, h.4, h.5)

  pub puts_none : (Put : Item → ℕ → Type 0) (now : Now) → ((x : Item) (j : ℕ) → Put x j → ⊥) → ArePut g ahead cause Put now now
  puts_none Put now none = record {
    kept = λ x j h. absurd (none x j h);
    passed = λ h. h;
    stood = λ x j h. h;
    stand = λ x j h. inl h;
    more = [];
    grown = sym (append-nil now.spans.items);
    are = All-nil (Of Put);
  }

  -- first some, and then an item more
  pub puts_then : (P R Q : Item → ℕ → Type 0) (old mid new : Now) → ArePut g ahead cause P old mid → ArePut g ahead cause R mid new → ((x : Item) (j : ℕ) → P x j → Q x j) → ((x : Item) (j : ℕ) → R x j → Q x j) → ((x : Item) (j : ℕ) → Q x j → P x j ⊎ R x j) → ArePut g ahead cause Q old new
  puts_then P R Q old mid new first second p r q = record {
    kept = λ x j h. elim (q x j h) [
      | inl before ↦ kept_more g ahead mid new second.more x j second.stood second.grown (first.kept x j before)
      | inr now ↦ second.kept x j now
    ];
    passed = λ h. second.passed (first.passed h);
    stood = λ x j h. second.stood x j (first.stood x j h);
    stand = λ x j h. elim (second.stand x j h) [
      | inl was ↦ elim (first.stand x j was) [
        | inl old ↦ inl old
        | inr found ↦ inr (found.0, p found.0 j found.1, found.2)
      ]
      | inr found ↦ inr (found.0, r found.0 j found.1, found.2)
    ];
    more = first.more ++ second.more;
    grown = second.grown ∙ (ap (λ (l : List Span). l ++ second.more) first.grown ∙ append_assoc old.spans.items first.more second.more);
    are = All-append (Of Q) first.more second.more (all_more (Of P) (Of Q) first.more (of_more P Q p) first.are) (all_more (Of R) (Of Q) second.more (of_more R Q r) second.are);
  }

  -- one item
  pub puts_one : (item : Item) (From : ℕ → Type 0) (old new : Now) → IsPut g ahead cause item From old new → ArePut g ahead cause (λ x j. (x ≡ item) × From j) old new
  puts_one item From old new put = record {
    kept = λ x j h. subst (λ (y : Item). IsKept g ahead new y j) (sym h.0) (put.kept j h.1);
    passed = put.passed;
    stood = put.stood;
    stand = λ x j h. elim (put.stand x j h) [
      | inl was ↦ inl was
      | inr found ↦ inr (item, (refl, found.1), found.0)
    ];
    more = put.more;
    grown = put.grown;
    are = all_more (λ s. (s.cause ≡ cause) × From s.from × (x : Item) × IsPast g item x × IsDone g x s.nonterminal) (Of (λ x j. (x ≡ item) × From j)) put.more
        (λ s h. (h.0, item, h.2, (refl, h.1), h.3, h.4)) put.are;
  }

  pub puts_rows : (rows : List Row) (k : ℕ) (row : Row) (item : Item) (words : List Word) (old mid new : Now) → k < length rows → row ≡ get_or rows k row → item ≡ over row.item → words ≡ row.words.items → ArePut g ahead cause (OfRows (take k rows)) old mid → IsPut g ahead cause item (InWords words) mid new → ArePut g ahead cause (OfRows (take (k + 1) rows)) old new
  puts_rows rows k row item words old mid new lt read item_is words_are before put =
      let is : take (k + 1) rows ≡ take k rows ++ row ∷ [] = take_more rows k row lt ∙ ap (λ (r : Row). take k rows ++ r ∷ []) (sym read) in
      subst (λ (l : List Row). ArePut g ahead cause (OfRows l) old new) (sym is)
      (puts_then (OfRows (take k rows)) (λ x j. (x ≡ item) × InWords words j) (OfRows (take k rows ++ row ∷ [])) old mid new before (puts_one item (InWords words) mid new put)
      (λ x j h. (h.0, Contains-append_left (take k rows) (row ∷ []) h.0 h.1, h.2, h.3))
      (λ x j h. (row, Contains-push (take k rows) row, h.0 ∙ item_is, subst (λ (l : List Word). InWords l j) words_are h.1))
      (λ x j h. elim (Contains-push_cases (take k rows) row h.0 h.1) [
        | inl old ↦ inl (h.0, old, h.2, h.3)
        | inr now ↦ inr (
          h.2 ∙ (ap (λ (r : Row). over r.item) (sym now) ∙ sym item_is),
          subst (λ (l : List Word). InWords l j) (ap (λ (r : Row). r.words.items) (sym now) ∙ sym words_are) h.3,
        )
      ]))

  pub fronts_put : (expected : List ℕ) (fronts : List Front) (from k : ℕ) (d : Front) (old mid new : Now) (From : ℕ → Type 0) → k < length fronts → ((j : ℕ) → From j → j ≡ from) → ((j : ℕ) → j ≡ from → From j) → Has expected (get_or fronts k d).left → ArePut g ahead cause (OfFronts expected (take k fronts) from) old mid → IsPut g ahead cause (get_or fronts k d).item From mid new → ArePut g ahead cause (OfFronts expected (take (k + 1) fronts) from) old new
  fronts_put expected fronts from k d old mid new From lt one two there before put =
      let front : Front = get_or fronts k d in
      let is : take (k + 1) fronts ≡ take k fronts ++ front ∷ [] = take_more fronts k d lt in
      subst (λ (l : List Front). ArePut g ahead cause (OfFronts expected l from) old new) (sym is)
      (puts_then (OfFronts expected (take k fronts) from) (λ x j. (x ≡ front.item) × From j) (OfFronts expected (take k fronts ++ front ∷ []) from) old mid new before (puts_one front.item From mid new put)
      (λ x j h. (h.0, Contains-append_left (take k fronts) (front ∷ []) h.0 h.1, h.2, h.3, h.4))
      (λ x j h. (front, Contains-push (take k fronts) front, there, h.0, one j h.1))
      (λ x j h. elim (Contains-push_cases (take k fronts) front h.0 h.1) [
        | inl old ↦ inl (h.0, old, h.2, h.3, h.4)
        | inr now ↦ inr (subst (λ (f : Front). x ≡ f.item) (sym now) h.3, two j h.4)
      ]))

  pub fronts_skipped : (expected : List ℕ) (fronts : List Front) (from k : ℕ) (d : Front) (old mid : Now) → k < length fronts → (Has expected (get_or fronts k d).left → ⊥) → ArePut g ahead cause (OfFronts expected (take k fronts) from) old mid → ArePut g ahead cause (OfFronts expected (take (k + 1) fronts) from) old mid
  fronts_skipped expected fronts from k d old mid lt never before =
      let front : Front = get_or fronts k d in
      let is : take (k + 1) fronts ≡ take k fronts ++ front ∷ [] = take_more fronts k d lt in
      subst (λ (l : List Front). ArePut g ahead cause (OfFronts expected l from) old mid) (sym is)
      (puts_then (OfFronts expected (take k fronts) from) (λ x j. ⊥) (OfFronts expected (take k fronts ++ front ∷ []) from) old mid mid before (puts_none (λ x j. ⊥) mid (λ x j h. h))
      (λ x j h. (h.0, Contains-append_left (take k fronts) (front ∷ []) h.0 h.1, h.2, h.3, h.4))
      (λ x j h. absurd h)
      (λ x j h. elim (Contains-push_cases (take k fronts) front h.0 h.1) [
        | inl old ↦ inl (h.0, old, h.2, h.3, h.4)
        | inr now ↦ inr (never (subst (λ (f : Front). Has expected f.left) (sym now) h.2))
      ]))

-- the one number of a word
pub only_from : (word : Word) (from : ℕ) → ((n : ℕ) → InWord word n ↔ (n ≡ from)) → (j : ℕ) → InWords (word ∷ []) j ↔ (j ≡ from)
only_from word from has j = (
  (λ h. elim ((in_more [] word j).0 h) [
    | inl none ↦ absurd (let lt = none.1.1 in omega arith)
    | inr here ↦ (has j).0 here
  ]),
  (λ e. (in_more [] word j).1 (inr ((has j).1 e))),
)
