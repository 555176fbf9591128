-- Fronts that are entered one after another.
use Rattle.std.proofs.Common.{◌≡◌, ℕ, ◌+◌, ◌-◌, ◌<◌, ◌≤◌, ◌⊎◌, inl, inr, List, [], Some, length, refl, sym, ap, ◌∙◌, subst, arith}
use Rattle.std.specs.Prelude.{Contains, slice_get}
use Rattle.std.specs.Global.{Vec}
use Rattle.std.proofs.lemmas.Bool.{cases_eq, cases_lt}
use Rattle.std.proofs.lemmas.Option.{slice_get_within, same_Some}
use Rattle.cs_grammar.specs.declared.symbol.Symbol.{Symbol}
use Rattle.cs_grammar.specs.declared.symbol.Symbol.TheVariants.{Token, Nonterminal}
use Rattle.cs_grammar.specs.Grammar.{Production, PlainGrammar, IsGrammar, IsRule}
use Rattle.cs_grammar.specs.Places.{IsEarlier}
use Rattle.cs_grammar.proofs.Measures.{IsRuleOf-rule}
use Rattle.cs_grammar.proofs.OneTree.{one_rule}
use Rattle.cs_member.specs.declared.tables.item.Item.{Item}
use Rattle.cs_member.specs.declared.tables.fronts.Front.{Front}
use Rattle.cs_member.specs.declared.tables.fronts.Fronts.{Fronts}
use Rattle.cs_member.specs.Tables.Adding.{HasAt}
use Rattle.cs_member.specs.Tables.Item.{Awaits, IsEmpty, IsFront, IsItem}
use Rattle.cs_member.specs.Tables.Fronts.{entry, Enters, IsEntry, AreEntered}
use Rattle.cs_member.specs.Tables.Tables.{AreEmpties, AreFronts, HasEmpty}
use Rattle.std.proofs.lemmas.List.Elements.{Contains-get_or}
use Rattle.cs_member.specs.declared.tables.tables.Tables.{Tables}
use Rattle.cs_member.specs.Tables.Expecting.{AreCorners}
use Rattle.cs_member.specs.Tables.Whole.{AreWhole}
use Rattle.cs_member.proofs.OnTables.Lists.{added_size, added_here, added_before, added_cases}
use Rattle.cs_member.proofs.OnTables.Places.{there_at}

pub same_item : (x : Item) (r k : ℕ) → x.rule ≡ r → x.place ≡ k → x ≡ record { rule = r; place = k }
same_item x r k rule place =
    let one : x ≡ record { rule = r; place = x.place } = ap (λ n. let y : Item = record { rule = n; place = x.place } in y) rule in
    one ∙ ap (λ n. let y : Item = record { rule = r; place = n } in y) place

-- at most one symbol is awaited
pub one_awaited : (g : PlainGrammar) (x : Item) (s t : Symbol) → Awaits g x s → Awaits g x t → s ≡ t
one_awaited g x s t a b =
    let rule = one_rule g x.rule x.rule a.rule b.rule refl a.number b.number in
    let there : slice_get b.rule.right x.place ≡ Some s = subst (λ (p : Production). slice_get p.right x.place ≡ Some s) rule a.at in
    let here = b.at in
    cc

one_left : (g : PlainGrammar) (a b : ℕ) (x : Item) → IsFront g a x → IsFront g b x → a ≡ b
one_left g a b x f h = sym f.left ∙ ap (λ (p : Production). p.left) (one_rule g x.rule x.rule f.rule h.rule refl f.number h.number) ∙ h.left

-- an entry that is moved to where it is the same
moved_entry : (lists : List (Vec Front)) (n m a b : ℕ) (x y : Item) → n ≡ m → a ≡ b → x ≡ y → HasAt lists n (entry a x) → HasAt lists m (entry b y)
moved_entry lists n m a b x y number left item h =
    subst (λ k. HasAt lists k (entry b y)) number (subst (λ k. HasAt lists n (entry k y)) left (subst (λ (z : Item). HasAt lists n (entry a z)) item h))

module _ (g : PlainGrammar) (These Those : Item → Type 0) where
  -- the same, where no other items have fronts
  pub entered_more : (fronts : Fronts) → AreEntered g These fronts → ((y : Item) (a : ℕ) (s : Symbol) → Those y → IsFront g a y → Awaits g y s → These y) → AreEntered g Those fronts
  entered_more fronts is less = record {
    tokens_size = is.tokens_size;
    nonterminals_size = is.nonterminals_size;
    corners_size = is.corners_size;
    are_tokens = is.are_tokens;
    are_nonterminals = is.are_nonterminals;
    are_corners = is.are_corners;
    tokens = λ a t y those f w. is.tokens a t y (less y a (Token t) those f w) f w;
    nonterminals = λ a b y those f w. is.nonterminals a b y (less y a (Nonterminal b) those f w) f w;
    corners = λ a b y those f w. is.corners a b y (less y a (Nonterminal b) those f w) f w;
  }

  module _ (left : ℕ) (x : Item) (old new : Fronts) (is : AreEntered g These old) (front : IsFront g left x) (more : (y : Item) → Those y → These y ⊎ (y ≡ x)) where
    here : (y : Item) (a : ℕ) (s t : Symbol) → Awaits g x s → IsFront g a y → Awaits g y t → y ≡ x → (s ≡ t) × (left ≡ a)
    here y a s t w f v same = (
      one_awaited g x s t w (subst (λ (z : Item). Awaits g z t) same v),
      one_left g left a x front (subst (λ (z : Item). IsFront g a z) same f),
    )

    -- one item more, before a token
    pub entered_token : (t : ℕ) → Awaits g x (Token t) → Enters left x (Token t) old new → AreEntered g Those new
    entered_token t w e = record {
      tokens_size = added_size t (entry left x) old.tokens.items new.tokens.items e.0 ∙ is.tokens_size;
      nonterminals_size = ap (λ (v : Vec (Vec Front)). length v.items) e.1 ∙ is.nonterminals_size;
      corners_size = ap (λ (v : Vec (Vec ℕ)). length v.items) e.2 ∙ is.corners_size;
      are_tokens = λ u f h. elim (added_cases t (entry left x) old.tokens.items new.tokens.items e.0 u f h) [
        | inl was ↦ is.are_tokens u f was
        | inr now ↦ subst (λ n. IsEntry g (Token n) f) (sym now.0) (subst (λ (k : Front). IsEntry g (Token t) k) (sym now.1) (x, front, w, refl))
      ];
      are_nonterminals = λ b f h. is.are_nonterminals b f (subst (λ (v : Vec (Vec Front)). HasAt v.items b f) e.1 h);
      are_corners = λ a b h. is.are_corners a b (subst (λ (v : Vec (Vec ℕ)). HasAt v.items a b) e.2 h);
      tokens = λ a u y those f v. elim (more y those) [
        | inl these ↦ added_before t (entry left x) old.tokens.items new.tokens.items e.0 u (entry a y) (is.tokens a u y these f v)
        | inr same ↦
            let one = here y a (Token t) (Token u) w f v same in
            let number : t ≡ u = (let tokens = one.0 in cc) in
            moved_entry new.tokens.items t u left a x y number one.1 (sym same) (added_here t (entry left x) old.tokens.items new.tokens.items e.0)
      ];
      nonterminals = λ a b y those f v. elim (more y those) [
        | inl these ↦ subst (λ (l : Vec (Vec Front)). HasAt l.items b (entry a y)) (sym e.1) (is.nonterminals a b y these f v)
        | inr same ↦ absurd (let one = here y a (Token t) (Nonterminal b) w f v same in let never = one.0 in cc)
      ];
      corners = λ a b y those f v. elim (more y those) [
        | inl these ↦ subst (λ (l : Vec (Vec ℕ)). HasAt l.items a b) (sym e.2) (is.corners a b y these f v)
        | inr same ↦ absurd (let one = here y a (Token t) (Nonterminal b) w f v same in let never = one.0 in cc)
      ];
    }

    -- or before a nonterminal
    pub entered_nonterminal : (b : ℕ) → b ≤ g.nonterminals → Awaits g x (Nonterminal b) → Enters left x (Nonterminal b) old new → AreEntered g Those new
    entered_nonterminal b low w e = record {
      tokens_size = ap (λ (v : Vec (Vec Front)). length v.items) e.0 ∙ is.tokens_size;
      nonterminals_size = added_size b (entry left x) old.nonterminals.items new.nonterminals.items e.1 ∙ is.nonterminals_size;
      corners_size = added_size left b old.corners.items new.corners.items e.2 ∙ is.corners_size;
      are_tokens = λ t f h. is.are_tokens t f (subst (λ (v : Vec (Vec Front)). HasAt v.items t f) e.0 h);
      are_nonterminals = λ d f h. elim (added_cases b (entry left x) old.nonterminals.items new.nonterminals.items e.1 d f h) [
        | inl was ↦ is.are_nonterminals d f was
        | inr now ↦ subst (λ n. IsEntry g (Nonterminal n) f) (sym now.0) (subst (λ (k : Front). IsEntry g (Nonterminal b) k) (sym now.1) (x, front, w, refl))
      ];
      are_corners = λ a d h. elim (added_cases left b old.corners.items new.corners.items e.2 a d h) [
        | inl was ↦ is.are_corners a d was
        | inr now ↦ (let same = now.1 in omega arith)
      ];
      tokens = λ a t y those f v. elim (more y those) [
        | inl these ↦ subst (λ (l : Vec (Vec Front)). HasAt l.items t (entry a y)) (sym e.0) (is.tokens a t y these f v)
        | inr same ↦ absurd (let one = here y a (Nonterminal b) (Token t) w f v same in let never = one.0 in cc)
      ];
      nonterminals = λ a d y those f v. elim (more y those) [
        | inl these ↦ added_before b (entry left x) old.nonterminals.items new.nonterminals.items e.1 d (entry a y) (is.nonterminals a d y these f v)
        | inr same ↦
            let one = here y a (Nonterminal b) (Nonterminal d) w f v same in
            let number : b ≡ d = (let nonterminals = one.0 in cc) in
            moved_entry new.nonterminals.items b d left a x y number one.1 (sym same) (added_here b (entry left x) old.nonterminals.items new.nonterminals.items e.1)
      ];
      corners = λ a d y those f v. elim (more y those) [
        | inl these ↦ added_before left b old.corners.items new.corners.items e.2 a d (is.corners a d y these f v)
        | inr same ↦
            let one = here y a (Nonterminal b) (Nonterminal d) w f v same in
            let number : b ≡ d = (let nonterminals = one.0 in cc) in
            subst (λ n. HasAt new.corners.items n d) one.1 (subst (λ n. HasAt new.corners.items left n) number (added_here left b old.corners.items new.corners.items e.2))
      ];
    }

    pub entered_symbol : (s : Symbol) → ((b : ℕ) → s ≡ Nonterminal b → b ≤ g.nonterminals) → Awaits g x s → Enters left x s old new → AreEntered g Those new
    entered_symbol (Token t) low w e = entered_token t w e
    entered_symbol (Nonterminal b) low w e = entered_nonterminal b (low b refl) w e

none_at : (X : Type 0) (lists : List (Vec X)) (n : ℕ) (e : X) → ((m : ℕ) (list : Vec X) → slice_get lists m ≡ Some list → list.items ≡ []) → HasAt lists n e → ⊥
none_at X lists n e empty h = let has = subst (λ (l : List X). Contains l e) (empty n h.0 h.1) h.2 in let lt = has.1 in omega arith

-- nothing is entered of no rule
pub entered_none : (g : PlainGrammar) (fronts : Fronts) → length fronts.tokens.items ≡ g.tokens + 1 → length fronts.nonterminals.items ≡ g.nonterminals + 1 → length fronts.corners.items ≡ g.nonterminals + 1
    → ((n : ℕ) (list : Vec Front) → slice_get fronts.tokens.items n ≡ Some list → list.items ≡ []) → ((n : ℕ) (list : Vec Front) → slice_get fronts.nonterminals.items n ≡ Some list → list.items ≡ [])
    → ((n : ℕ) (list : Vec ℕ) → slice_get fronts.corners.items n ≡ Some list → list.items ≡ []) → AreEntered g (λ x. x.rule < 1) fronts
entered_none g fronts tokens nonterminals corners no_tokens no_nonterminals no_corners = record {
  tokens_size = tokens;
  nonterminals_size = nonterminals;
  corners_size = corners;
  are_tokens = λ t f h. absurd (none_at Front fronts.tokens.items t f no_tokens h);
  are_nonterminals = λ b f h. absurd (none_at Front fronts.nonterminals.items b f no_nonterminals h);
  are_corners = λ a b h. absurd (none_at ℕ fronts.corners.items a b no_corners h);
  tokens = λ a t x these f w. absurd (let above = f.number.above_zero in omega arith);
  nonterminals = λ a b x these f w. absurd (let above = f.number.above_zero in omega arith);
  corners = λ a b x these f w. absurd (let above = f.number.above_zero in omega arith);
}

-- the items of the rules before one, and of that rule those before a place
abbrev pub Before : ℕ → ℕ → Item → Type 0
Before r k x = IsEarlier x.rule x.place r k

module _ (g : PlainGrammar) (r : ℕ) (p : Production) (rule : IsRule g r p) where
  abbrev at : ℕ → Item
  at k = record { rule = r; place = k }

  pub before_next : (k : ℕ) (y : Item) → Before r (k + 1) y → Before r k y ⊎ (y ≡ at k)
  before_next k y h = elim h [
    | inl less ↦ inl (inl less)
    | inr same ↦ elim (cases_eq y.place k) [
      | inl last ↦ inr (same_item y r k same.0 last)
      | inr other ↦ inl (inr (same.0, (let lt = same.1 in omega arith)))
    ]
  ]

  right_of : (y : Item) (q : Production) → y.rule ≡ r → IsRule g y.rule q → q ≡ p
  right_of y q same number = one_rule g y.rule r q p same number rule

  -- at the end of the rule
  pub before_whole : (k : ℕ) → length p.right ≤ k → (y : Item) (a : ℕ) (s : Symbol) → y.rule < r + 1 → IsFront g a y → Awaits g y s → Before r k y
  before_whole k end y a s lt f w = elim (cases_eq y.rule r) [
    | inl same ↦ inr (
      same,
      (let within = slice_get_within w.rule.right y.place s w.at in let long = ap (λ (q : Production). length q.right) (right_of y w.rule same w.number) in omega arith),
    )
    | inr other ↦ inl (omega arith)
  ]

  -- behind a symbol that has no empty tree
  pub before_cut : (k : ℕ) (s : Symbol) → slice_get p.right k ≡ Some s → ((b : ℕ) → s ≡ Nonterminal b → IsEmpty g b → ⊥) → (y : Item) (a : ℕ) (t : Symbol) → y.rule < r + 1 → IsFront g a y → Awaits g y t → Before r (k + 1) y
  before_cut k s there never y a t lt f w = elim (cases_eq y.rule r) [
    | inl same ↦ inr (
      same,
      elim (cases_lt k y.place) [
        | inl past ↦
            let bare = f.bare k past in
            let one : s ≡ Nonterminal bare.0 = same_Some s (Nonterminal bare.0) (sym there ∙ (ap (λ (q : Production). slice_get q.right k) (sym (right_of y f.rule same f.number)) ∙ bare.1)) in
            absurd (never bare.0 one bare.2)
        | inr low ↦ omega arith
      ],
    )
    | inr other ↦ inl (omega arith)
  ]

  pub front_first : IsFront g p.left (at 0)
  front_first = record { rule = p; number = rule; left = refl; within = omega arith; bare = λ k lt. absurd (omega arith) }

  pub front_next : (k b : ℕ) → IsFront g p.left (at k) → slice_get p.right k ≡ Some (Nonterminal b) → IsEmpty g b → IsFront g p.left (at (k + 1))
  front_next k b f there empty = record {
    rule = p;
    number = rule;
    left = refl;
    within = (let lt = slice_get_within p.right k (Nonterminal b) there in omega arith);
    bare = λ i lt. elim (cases_eq i k) [
      | inl same ↦ (b, ap (λ n. slice_get p.right n) same ∙ there, empty)
      | inr other ↦
          let bare = f.bare i (omega arith) in
          (bare.0, ap (λ (q : Production). slice_get q.right i) (sym (right_of (at k) f.rule refl f.number)) ∙ bare.1, bare.2)
    ];
  }

-- a nonterminal has a rule kept where it has an empty tree
pub kept_empty : (g : PlainGrammar) (empties : List ℕ) (b : ℕ) → AreEmpties g empties → b ≤ g.nonterminals → IsEmpty g b → HasEmpty empties (Nonterminal b)
kept_empty g empties b is low empty =
    let size = is.size in
    let there = there_at empties b (omega arith) in
    elim (cases_eq there.0 0) [
      | inl zero ↦ absurd (is.none b (there.1 ∙ ap Some zero) empty)
      | inr other ↦ (there.0, there.1, (let ne = other in omega arith))
    ]

pub empty_kept : (g : PlainGrammar) (empties : List ℕ) (b : ℕ) → AreEmpties g empties → HasEmpty empties (Nonterminal b) → IsEmpty g b
empty_kept g empties b is h = is.some b h.0 h.1 h.2

-- the symbol is a nonterminal that has an empty tree
pub empty_symbol : (empties : List ℕ) (s : Symbol) → HasEmpty empties s → (b : ℕ) × (s ≡ Nonterminal b) × HasEmpty empties (Nonterminal b)
empty_symbol empties (Token t) h = absurd h
empty_symbol empties (Nonterminal b) h = (b, refl, h)

-- what is entered for all rules
module _ (g : PlainGrammar) (grammar : IsGrammar g) (fronts : Fronts) (is : AreEntered g (λ x. x.rule < length g.rules + 1) fronts) where
  few : (x : Item) (a : ℕ) → IsFront g a x → x.rule < length g.rules + 1
  few x a f = let lt = slice_get_within g.rules (x.rule - 1) f.rule f.number.at in let above = f.number.above_zero in omega arith

  entry_fits : (s : Symbol) (f : Front) → IsEntry g s f → IsItem g f.item × (f.left ≤ g.nonterminals)
  entry_fits s f h =
      let w = h.2 in
      let lt = slice_get_within w.rule.right h.0.place s w.at in
      let low = (IsRuleOf-rule g h.0.rule h.1.rule grammar h.1.number).left.1 in
      let left = h.1.left in (
        subst (λ (y : Item). IsItem g y) (sym h.3) (record { rule = w.rule; number = w.number; within = omega arith }),
        omega arith,
      )

  fronts_are : (symbol_of : ℕ → Symbol) (last : ℕ) (lists : List (Vec Front)) → length lists ≡ last + 1 → ((n : ℕ) (f : Front) → HasAt lists n f → IsEntry g (symbol_of n) f) → AreFronts g symbol_of last lists
  fronts_are symbol_of last lists size entries = record {
    size = size;
    items = λ b list at k d lt. entry_fits (symbol_of b) _ (entries b _ (list, at, Contains-get_or list.items k d lt));
    entries = entries;
  }

  pub tokens_are : AreFronts g Token g.tokens fronts.tokens.items
  tokens_are = fronts_are Token g.tokens fronts.tokens.items is.tokens_size is.are_tokens

  pub nonterminals_are : AreFronts g Nonterminal g.nonterminals fronts.nonterminals.items
  nonterminals_are = fronts_are Nonterminal g.nonterminals fronts.nonterminals.items is.nonterminals_size is.are_nonterminals

  pub corners_are : AreCorners (g.nonterminals + 1) fronts.corners.items
  corners_are = record {
    size = is.corners_size;
    within = λ a list at k d lt. (let low = is.are_corners a _ (list, at, Contains-get_or list.items k d lt) in omega arith);
  }

  in_list : (X : Type 0) (lists : List (Vec X)) (n : ℕ) (e : X) (list : Vec X) → HasAt lists n e → slice_get lists n ≡ Some list → Contains list.items e
  in_list X lists n e list h at = subst (λ (v : Vec X). Contains v.items e) (same_Some h.0 list (sym h.1 ∙ at)) h.2

  pub whole : (tables : Tables) → tables.tokens ≡ fronts.tokens → tables.nonterminals ≡ fronts.nonterminals → tables.corners ≡ fronts.corners → AreWhole g tables
  whole tables tokens nonterminals corners = record {
    tokens = λ a t x list f w at. (
      entry a x,
      in_list Front fronts.tokens.items t (entry a x) list (is.tokens a t x (few x a f) f w) (ap (λ (v : Vec (Vec Front)). slice_get v.items t) (sym tokens) ∙ at),
      refl,
      refl,
    );
    nonterminals = λ a b x list f w at. (
      entry a x,
      in_list Front fronts.nonterminals.items b (entry a x) list (is.nonterminals a b x (few x a f) f w) (ap (λ (v : Vec (Vec Front)). slice_get v.items b) (sym nonterminals) ∙ at),
      refl,
      refl,
    );
    corners = λ a b x list f w at.
        in_list ℕ fronts.corners.items a b list (is.corners a b x (few x a f) f w) (ap (λ (v : Vec (Vec ℕ)). slice_get v.items a) (sym corners) ∙ at);
  }
