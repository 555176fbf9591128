-- Reading the rules off the items, from the front.
use Rattle.std.proofs.Common.{◌≡◌, ℕ, ◌+◌, ◌<◌, ◌≤◌, Bool, true, false, cond, List, [], ◌∷◌, ◌++◌, length, drop, get_or, refl, sym, ap, subst, ◌∙◌, append_assoc}
use Rattle.std.specs.Prelude.{Option, Some, None, filter, not}
use Rattle.std.proofs.lemmas.List.{append-nil, map_push}
use Rattle.std.proofs.lemmas.List.Elements.{filter-append}
use Rattle.cs_yacc.specs.declared.items.item.Placed as held
use Rattle.cs_yacc.specs.Items.Items.{Item, mark, prologue, directive, unknown, name, literal, number, tag, block, colon, semicolon, bar, comma, items_of}
use Rattle.cs_yacc.specs.Items.Views.{item_of, placed_all}
use Rattle.cs_yacc.specs.declared.reading.name.TokenName.{TokenName}
use Rattle.cs_yacc.specs.declared.reading.name.TokenName.TheVariants.{Word}
use Rattle.cs_yacc.specs.Reading.Meaning.{SpelledRule, bodies, rules_of, rules, is_kept, begins_with_colon, has_spelling, error_spelling}
use Rattle.cs_yacc.specs.declared.reading.spelled.SpelledRule as code
use Rattle.cs_yacc.specs.Reading.Places.{names_at}
use Rattle.cs_yacc.specs.Reading.SpellingView.{spelling_of}
use Rattle.cs_yacc.specs.Reading.RuleView.{opened, next_left, rule_of, rules_in}
use Rattle.cs_yacc.proofs.OnReading.Loops.{rest_at, rest_more, rest_all}

-- the rules that the bodies make, where a left side stands before them
abbrev pub pending : Option TokenName → List (List TokenName) → List SpelledRule
pending None bs = []
pending (Some left) bs = rules_of left bs

name_step : (n : List ℕ) (r : List Item) (left : Option TokenName) (b : Bool) → pending left (cond b [] (bodies r)) ++ (cond b (rules_of (Word n) (bodies r)) [] ++ rules r) ≡ opened (cond b (Some (Word n)) left) (name n) r ++ (pending (cond b (Some (Word n)) left) (bodies r) ++ rules r)
name_step n r None true = refl
name_step n r None false = refl
name_step n r (Some l) true = refl
name_step n r (Some l) false = refl

pub rule_step : (left : Option TokenName) (i : Item) (r : List Item) → pending left (bodies (i ∷ r)) ++ rules (i ∷ r) ≡ opened (next_left left i r) i r ++ (pending (next_left left i r) (bodies r) ++ rules r)
rule_step left (name n) r = name_step n r left (begins_with_colon r)
rule_step None mark r = refl
rule_step None prologue r = refl
rule_step None (directive d) r = refl
rule_step None (unknown w) r = refl
rule_step None number r = refl
rule_step None tag r = refl
rule_step None block r = refl
rule_step None colon r = refl
rule_step None semicolon r = refl
rule_step None bar r = refl
rule_step None comma r = refl
rule_step None (literal b) r = refl
rule_step (Some l) mark r = refl
rule_step (Some l) prologue r = refl
rule_step (Some l) (directive d) r = refl
rule_step (Some l) (unknown w) r = refl
rule_step (Some l) number r = refl
rule_step (Some l) tag r = refl
rule_step (Some l) block r = refl
rule_step (Some l) colon r = refl
rule_step (Some l) semicolon r = refl
rule_step (Some l) bar r = refl
rule_step (Some l) comma r = refl
rule_step (Some l) (literal b) r = refl

-- The rules so far, and what is kept of those that bodies still make for the left side before and of those of the rest, are all.
abbrev pub HasRules : List SpelledRule → Option TokenName → List Item → List SpelledRule → Type 0
HasRules done left rest all = done ++ filter is_kept (pending left (bodies rest) ++ rules rest) ≡ all

module _ (items : List held.Placed) (all : List SpelledRule) where
  pub rules_more : (k : ℕ) (p : held.Placed) (done new : List SpelledRule) (left next : Option TokenName) (after : List held.Placed) → HasRules done left (rest_at items k) all → k < length items
      → after ≡ drop (k + 1) items → next ≡ next_left left (item_of (get_or items k p).item) (items_of (placed_all after))
      → new ≡ done ++ filter is_kept (opened next (item_of (get_or items k p).item) (items_of (placed_all after))) → HasRules new next (rest_at items (k + 1)) all
  rules_more k p done new left next after h lt e n made =
      let i = item_of (get_or items k p).item in
      let r = rest_at items (k + 1) in
      let same : items_of (placed_all after) ≡ r = ap (λ (x : List held.Placed). items_of (placed_all x)) e in
      let next_is : next ≡ next_left left i r = n ∙ ap (next_left left i) same in
      let here = opened (next_left left i r) i r in
      let rest = pending (next_left left i r) (bodies r) ++ rules r in
      let new_is : new ≡ done ++ filter is_kept here = made ∙ rw (same, next_is) refl in
      let so_far : done ++ filter is_kept (pending left (bodies (i ∷ r)) ++ rules (i ∷ r)) ≡ all = subst (λ (x : List Item). HasRules done left x all) (rest_more items k p lt) h in
      let step : filter is_kept (pending left (bodies (i ∷ r)) ++ rules (i ∷ r)) ≡ filter is_kept here ++ filter is_kept rest = ap (filter is_kept) (rule_step left i r) ∙ filter-append is_kept here rest in
      rw (next_is, new_is) (append_assoc done (filter is_kept here) (filter is_kept rest)
      ∙ ap (λ (x : List SpelledRule). done ++ x) (sym step) ∙ so_far)

  pub rules_end : (k : ℕ) (done : List SpelledRule) (left : Option TokenName) → HasRules done left (rest_at items k) all → length items ≤ k → done ≡ all
  rules_end k done left h le = sym (append-nil done) ∙ ap (λ (x : List SpelledRule). done ++ x) (sym (nothing left)) ∙ subst (λ (x : List Item). HasRules done left x all) (rest_all items k le) h
    where
      nothing : (o : Option TokenName) → filter is_kept (pending o (bodies []) ++ rules []) ≡ []
      nothing None = refl
      nothing (Some l) = refl

-- ---- one rule of the code

module _ (words : List TokenName) (old new : List code.SpelledRule) (r : code.SpelledRule) (here : List SpelledRule) (right : List TokenName) (one : here ≡ record { left = spelling_of r.left; right = right } ∷ []) (same : names_at words r.right.now ≡ right) where
  one_here : here ≡ rule_of words r ∷ []
  one_here = one ∙ ap (λ (ws : List TokenName). record { left = spelling_of r.left; right = ws } ∷ []) (sym same)

  kept_here : has_spelling (names_at words r.right.now) error_spelling ≡ false → filter is_kept here ≡ rule_of words r ∷ []
  kept_here none = ap (filter is_kept) one_here ∙ ap (λ (b : Bool). cond (not b) (rule_of words r ∷ []) []) none

  left_out_here : has_spelling (names_at words r.right.now) error_spelling ≡ true → filter is_kept here ≡ []
  left_out_here has = ap (filter is_kept) one_here ∙ ap (λ (b : Bool). cond (not b) (rule_of words r ∷ []) []) has

  pub rule_added : has_spelling (names_at words r.right.now) error_spelling ≡ false → new ≡ old ++ r ∷ [] → rules_in words new ≡ rules_in words old ++ filter is_kept here
  rule_added none made = ap (rules_in words) made ∙ (map_push (rule_of words) old r ∙ ap (λ (x : List SpelledRule). rules_in words old ++ x) (sym (kept_here none)))

pub rule_left_out : (words : List TokenName) (old : List code.SpelledRule) (r : code.SpelledRule) (here : List SpelledRule) (right : List TokenName) → here ≡ record { left = spelling_of r.left; right = right } ∷ [] → names_at words r.right.now ≡ right
    → has_spelling (names_at words r.right.now) error_spelling ≡ true → rules_in words old ≡ rules_in words old ++ filter is_kept here
rule_left_out words old r here right one same has = sym (append-nil (rules_in words old)) ∙ ap (λ (x : List SpelledRule). rules_in words old ++ x) (sym (left_out_here words old old r here right one same has))
