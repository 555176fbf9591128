-- Words that are accepted behind what a command takes give one list of options, and a word one seed.
use Rattle.std.proofs.Common.{◌≡◌, ℕ, zero, suc, Bool, true, false, ◌||◌, List, [], ◌∷◌, ◌++◌, Option, None, Some, refl, sym, ap, ◌∙◌, subst, inl, inr, arith}
use Rattle.std.specs.Prelude.{codes, unwrap_or}
use Rattle.std.specs.List.{Contains}
use Rattle.std.proofs.lemmas.List.Elements.{Contains-append_left, Contains-append_right}
use Rattle.cs_choices.specs.declared.criteria.Criteria.{Criteria}
use Rattle.cs_choices.specs.declared.format.Format.{Format}
use Rattle.cs_choices.specs.declared.format.Format.TheVariants.{One, Two}
use Rattle.cs_choices.specs.declared.weigh.Weigh.{Weigh}
use Rattle.cs_choices.specs.declared.weigh.Weigh.TheVariants.{Nodes, Bytes}
use Rattle.cs_choices.specs.declared.operators.Operators.{Operators}
use Rattle.cs_choices.specs.declared.slips.Slips.{Slips}
use Rattle.cs_words.specs.declared.command.Command.{Command}
use Rattle.cs_words.specs.declared.options.Options.{Options}
use Rattle.cs_words.specs.declared.setting.Setting.{Setting}
use Rattle.cs_words.specs.declared.setting.Setting.TheVariants as kind
use Rattle.cs_words.specs.Choices.{Chooses, IsCriteria, IsFormat, IsOperators, IsSlips, IsWeigh, has_criterion, has_operator, has_slip, parts}
use Rattle.cs_words.specs.Options.{AreNew, AreOptions, Give, GiveOr, IsMarked, IsOption, IsValueOf, default_options, mark_of}
use Rattle.cs_words.specs.Values.{IsSeed}
use Rattle.cs_words.proofs.GivenLemmas.{behind_mark, marked, same_mark}
use Rattle.cs_words.proofs.Names.{or_false}
use Rattle.cs_words.proofs.Spellings.{one_spelling}

-- ---- one word of each kind

-- behind a word no other of its kind is new
again : (c : Command) (before words : List (List ℕ)) (v w : List ℕ) (setting : Setting) → AreNew c before words → Contains before v → Contains words w → IsMarked (mark_of setting) v → IsMarked (mark_of setting) w → ⊥
again c before [] v w setting new there (k, within, same) one other = omega (arith, within)
again c before (x ∷ words) v w setting new there (zero, within, same) one other =
    let is : IsMarked (mark_of setting) x = subst (λ u. IsMarked (mark_of setting) u) (sym same) other in
    let marks = same_mark x setting new.0.setting is (marked x new.0.setting new.0.is) in new.0.is_new v there (subst (λ m. IsMarked m v) marks one)
again c before (x ∷ words) v w setting new there (suc k, within, same) one other =
    again c (before ++ x ∷ []) words v w setting new.1 (Contains-append_left before (x ∷ []) v there) (k, omega (arith, within), same) one other

at_end : (before : List (List ℕ)) (x v : List ℕ) → x ≡ v → Contains (before ++ x ∷ []) v
at_end before x v same = Contains-append_right before (x ∷ []) v (0, omega arith, same)

one_word : (c : Command) (before words : List (List ℕ)) (v w : List ℕ) (setting : Setting) → AreNew c before words → Contains words v → Contains words w → IsMarked (mark_of setting) v → IsMarked (mark_of setting) w → v ≡ w
one_word c before [] v w setting new (k, within, same) there one other = absurd (omega (arith, within))
one_word c before (x ∷ words) v w setting new (zero, within, same) (zero, inside, equal) one other = sym same ∙ equal
one_word c before (x ∷ words) v w setting new (zero, within, same) (suc k, inside, equal) one other =
    absurd (again c (before ++ x ∷ []) words v w setting new.1 (at_end before x v same) (k, omega (arith, inside), equal) one other)
one_word c before (x ∷ words) v w setting new (suc k, within, same) (zero, inside, equal) one other =
    absurd (again c (before ++ x ∷ []) words w v setting new.1 (at_end before x w equal) (k, omega (arith, within), same) other one)
one_word c before (x ∷ words) v w setting new (suc k, within, same) (suc j, inside, equal) one other =
    one_word c (before ++ x ∷ []) words v w setting new.1 (k, omega (arith, within), same) (j, omega (arith, inside), equal) one other

-- ---- one value of each word

module _ {A : Type 0} (of : A → Setting) (mark : List ℕ) (marks : (a : A) → mark_of (of a) ≡ mark)
    (once : (value : List ℕ) (a b : A) → IsValueOf (of a) value → IsValueOf (of b) value → a ≡ b) where
  abbrev begins : (word : List ℕ) (a : A) → IsOption word (of a) → IsMarked mark word
  begins word a is = (is.value, is.spelled ∙ ap (λ m. m ++ is.value) (marks a))

  one_value : (v w : List ℕ) (a b : A) → v ≡ w → IsOption v (of a) → IsOption w (of b) → a ≡ b
  one_value v w a b same is other =
      let values : is.value ≡ other.value = behind_mark mark _ _ (sym (begins v a is).1 ∙ same ∙ (begins w b other).1) in
      once other.value a b (subst (λ u. IsValueOf (of a) u) values is.gives) other.gives

  module _ (c : Command) (words : List (List ℕ)) (new : AreNew c [] words) where
    one_given : (a b : Option A) → Give mark of words a → Give mark of words b → a ≡ b
    one_given None None one other = refl
    one_given None (Some b) one (w, there, is) = absurd (one w there (begins w b is))
    one_given (Some a) None (v, there, is) other = absurd (other v there (begins v a is))
    one_given (Some a) (Some b) (v, there, is) (w, inside, other) =
        let mine : IsMarked (mark_of (of a)) w = subst (λ m. IsMarked m w) (sym (marks a)) (begins w b other) in
        ap Some (one_value v w a b (one_word c [] words v w (of a) new there inside (marked v (of a) is) mine) is other)

    one_or : (default a b : A) → GiveOr default mark of words a → GiveOr default mark of words b → a ≡ b
    one_or default a b one other = one.2 ∙ ap (λ g. unwrap_or g default) (one_given one.0 other.0 one.1 other.1) ∙ sym other.2

-- ---- one choice of names

same_bool : (a b : Bool) → (a ≡ true → b ≡ true) → (b ≡ true → a ≡ true) → a ≡ b
same_bool true b to from = sym (to refl)
same_bool false true to from = from refl
same_bool false false to from = refl

module _ (chosen other : List ℕ → Bool) (names : List (List ℕ)) (is : Chooses chosen names) (also : Chooses other names) where
  one_choice : (name : List ℕ) → chosen name ≡ other name
  one_choice name = same_bool (chosen name) (other name) (λ yes. (also.each name).1 ((is.each name).0 yes)) (λ yes. (is.each name).1 ((also.each name).0 yes))

two : (a : Bool) → a ≡ ((a || false) || false)
two a = or_false a ∙ or_false (a || false)

three : (a : Bool) → a ≡ (((a || false) || false) || false)
three a = two a ∙ or_false ((a || false) || false)

letters : (a b : ℕ) (xs ys : List ℕ) → a ∷ xs ≡ b ∷ ys → (a ≡ b → ⊥) → ⊥
letters a b xs ys same apart = let e : a ≡ b = cc in apart e

abbrev criteria_of : Bool → Bool → Bool → Criteria
criteria_of rule cdrc pair = record { rule = rule; cdrc = cdrc; pair = pair }

one_criteria : (value : List ℕ) (a b : Criteria) → IsCriteria value a → IsCriteria value b → a ≡ b
one_criteria value a b one other =
    let e = one_choice (has_criterion a) (has_criterion b) (parts value) one other in
    let rule : a.rule ≡ b.rule = two a.rule ∙ e (codes "rule") ∙ sym (two b.rule) in
    let cdrc : a.cdrc ≡ b.cdrc = or_false a.cdrc ∙ e (codes "cdrc") ∙ sym (or_false b.cdrc) in
    let pair : a.pair ≡ b.pair = e (codes "pair") in
    ap (λ (x : Bool). criteria_of x a.cdrc a.pair) rule ∙ ap (λ (x : Bool). criteria_of b.rule x a.pair) cdrc ∙ ap (λ (x : Bool). criteria_of b.rule b.cdrc x) pair

abbrev slips_of : Bool → Bool → Bool → Slips
slips_of drops doubles swaps = record { drops = drops; doubles = doubles; swaps = swaps }

one_slips : (value : List ℕ) (a b : Slips) → IsSlips value a → IsSlips value b → a ≡ b
one_slips value a b one other =
    let e = one_choice (has_slip a) (has_slip b) (parts value) one other in
    let drops : a.drops ≡ b.drops = two a.drops ∙ e (codes "drop") ∙ sym (two b.drops) in
    let doubles : a.doubles ≡ b.doubles = or_false a.doubles ∙ e (codes "double") ∙ sym (or_false b.doubles) in
    let swaps : a.swaps ≡ b.swaps = e (codes "swap") in
    ap (λ (x : Bool). slips_of x a.doubles a.swaps) drops ∙ ap (λ (x : Bool). slips_of b.drops x a.swaps) doubles ∙ ap (λ (x : Bool). slips_of b.drops b.doubles x) swaps

abbrev operators_of : Bool → Bool → Bool → Bool → Operators
operators_of delete insert replace swap = record { delete = delete; insert = insert; replace = replace; swap = swap }

chosen_operators : (value : List ℕ) (a b : Operators) → Chooses (has_operator a) (parts value) → Chooses (has_operator b) (parts value) → a ≡ b
chosen_operators value a b one other =
    let e = one_choice (has_operator a) (has_operator b) (parts value) one other in
    let delete : a.delete ≡ b.delete = three a.delete ∙ e (codes "delete") ∙ sym (three b.delete) in
    let insert : a.insert ≡ b.insert = two a.insert ∙ e (codes "insert") ∙ sym (two b.insert) in
    let replace : a.replace ≡ b.replace = or_false a.replace ∙ e (codes "replace") ∙ sym (or_false b.replace) in
    let swap : a.swap ≡ b.swap = e (codes "swap") in
    ap (λ (x : Bool). operators_of x a.insert a.replace a.swap) delete ∙ ap (λ (x : Bool). operators_of b.delete x a.replace a.swap) insert
    ∙ ap (λ (x : Bool). operators_of b.delete b.insert x a.swap) replace ∙ ap (λ (x : Bool). operators_of b.delete b.insert b.replace x) swap

-- `none` is the name of no operator
none_chosen : (value : List ℕ) (a : Operators) → value ≡ codes "none" → Chooses (has_operator a) (parts value) → ⊥
none_chosen value a none is =
    let whole : parts (codes "none") ≡ codes "none" ∷ [] = refl in
    let there : Contains (parts value) (codes "none") = subst (λ names. Contains names (codes "none")) (sym (ap parts none ∙ whole)) (0, omega arith, refl) in
    let yes : false ≡ true = (is.each (codes "none")).1 there in cc

one_operators : (value : List ℕ) (a b : Operators) → IsOperators value a → IsOperators value b → a ≡ b
one_operators value a b (inl one) (inl other) = one.1 ∙ sym other.1
one_operators value a b (inl one) (inr other) = absurd (none_chosen value b one.0 other)
one_operators value a b (inr one) (inl other) = absurd (none_chosen value a other.0 one)
one_operators value a b (inr one) (inr other) = chosen_operators value a b one other

one_weigh : (value : List ℕ) (a b : Weigh) → IsWeigh value a → IsWeigh value b → a ≡ b
one_weigh value Nodes Nodes one other = refl
one_weigh value Nodes Bytes one other = absurd (letters 110 98 _ _ (sym one ∙ other) (λ e. omega (arith, e)))
one_weigh value Bytes Nodes one other = absurd (letters 98 110 _ _ (sym one ∙ other) (λ e. omega (arith, e)))
one_weigh value Bytes Bytes one other = refl

one_format : (value : List ℕ) (a b : Format) → IsFormat value a → IsFormat value b → a ≡ b
one_format value One One one other = refl
one_format value One Two one other = absurd (letters 49 50 _ _ (sym one ∙ other) (λ e. omega (arith, e)))
one_format value Two One one other = absurd (letters 50 49 _ _ (sym one ∙ other) (λ e. omega (arith, e)))
one_format value Two Two one other = refl

-- ---- all options

-- each field of both is the same
record AreAlike (a b : Options) : Type 0 where
  criteria : a.criteria ≡ b.criteria
  operators : a.operators ≡ b.operators
  bases : a.bases ≡ b.bases
  separator : a.separator ≡ b.separator
  weigh : a.weigh ≡ b.weigh
  format : a.format ≡ b.format
  slips : a.slips ≡ b.slips
  first : a.first ≡ b.first

alike_are_one : (a b : Options) → AreAlike a b → a ≡ b
alike_are_one a b same =
    let by_fields : a ≡ record { criteria = b.criteria; operators = b.operators; bases = b.bases; separator = b.separator; weigh = b.weigh; format = b.format; slips = b.slips; first = b.first } =
    rw (← same.criteria, ← same.operators, ← same.bases, ← same.separator, ← same.weigh, ← same.format, ← same.slips, ← same.first) refl in by_fields

pub one_options : (c : Command) (words : List (List ℕ)) → AreNew c [] words → (a b : Options) → AreOptions words a → AreOptions words b → a ≡ b
one_options c words new a b one other =
    alike_are_one a b (record {
      criteria = one_or kind.Cover (codes "--criteria=") (λ x. refl) one_criteria c words new default_options.criteria a.criteria b.criteria one.criteria other.criteria;
      operators = one_or kind.Mutate (codes "--mutate=") (λ x. refl) one_operators c words new default_options.operators a.operators b.operators one.operators other.operators;
      bases = one_or kind.Bases (codes "--bases=") (λ x. refl) (λ value x y is also. is.number ∙ sym also.number) c words new default_options.bases a.bases b.bases one.bases other.bases;
      separator =
          one_or kind.Separate (codes "--separator=") (λ x. refl) (λ value x y is also. one_spelling x y value is.0 also.0) c words new default_options.separator a.separator b.separator one.separator other.separator;
      weigh = one_or kind.Weigh (codes "--weigh=") (λ x. refl) one_weigh c words new default_options.weigh a.weigh b.weigh one.weigh other.weigh;
      format = one_or kind.Format (codes "--format=") (λ x. refl) one_format c words new default_options.format a.format b.format one.format other.format;
      slips = one_or kind.Slip (codes "--slips=") (λ x. refl) one_slips c words new default_options.slips a.slips b.slips one.slips other.slips;
      first = one_given kind.First (codes "--first=") (λ x. refl) (λ value x y is also. is.spelled.number ∙ sym also.spelled.number) c words new a.first b.first one.first other.first;
    })

-- ---- seeds

pub one_seed : (value : List ℕ) (a b : ℕ) → IsSeed value a → IsSeed value b → a ≡ b
one_seed value a b one other = one.number ∙ sym other.number
