-- What the options so far say.
use Rattle.std.proofs.Common.{◌≡◌, ℕ, zero, suc, true, false, List, [], ◌∷◌, ◌++◌, Option, None, Some, refl, sym, ap, ◌∙◌, subst, ⊎_elim, arith}
use Rattle.std.specs.Prelude.{IsSome, bytes_eq, codes, if◌then◌else◌, ◌==◌}
use Rattle.std.specs.List.{Contains}
use Rattle.std.proofs.lemmas.List.Elements.{Contains-append_left, Contains-append_right, Contains-append_cases}
use Rattle.cs_words.specs.declared.command.Command.{Command}
use Rattle.cs_words.specs.declared.given.Given.{Given}
use Rattle.cs_words.specs.Commands.{may_have}
use Rattle.cs_words.specs.declared.setting.Kind.{Kind}
use Rattle.cs_words.specs.declared.setting.Kind.TheVariants as kinds
use Rattle.cs_words.specs.declared.setting.Setting.{Setting}
use Rattle.cs_words.specs.declared.setting.Setting.TheVariants.{Cover, Mutate, Bases, Separate, Weigh, Format, Slip, First}
use Rattle.cs_words.specs.Options.{Give, IsMarked, IsNewOption, IsOption, IsValueOf, LacksMark, kind_of, mark_of}
use Rattle.cs_words.specs.Choices.{IsCriteria, IsOperators, IsSlips}
use Rattle.cs_choices.specs.declared.criteria.Criteria.{Criteria}
use Rattle.cs_choices.specs.declared.operators.Operators.{Operators}
use Rattle.cs_choices.specs.declared.slips.Slips.{Slips}
use Rattle.cs_words.specs.Steps.{HasKind, Sets}
use Rattle.cs_words.specs.Values.{IsFirst}

-- the words so far say this
pub record AreGiven (words : List (List ℕ)) (given : Given) : Type 0 where
  pub criteria : Give (codes "--criteria=") Cover words given.criteria
  pub operators : Give (codes "--mutate=") Mutate words given.operators
  pub bases : Give (codes "--bases=") Bases words given.bases
  pub separator : Give (codes "--separator=") Separate words given.separator
  pub weigh : Give (codes "--weigh=") Weigh words given.weigh
  pub format : Give (codes "--format=") Format words given.format
  pub slips : Give (codes "--slips=") Slip words given.slips
  pub first : Give (codes "--first=") First words given.first

-- ---- marks

-- what stands before a value, up to the first `=`
abbrev mark_in : List ℕ → List ℕ
mark_in [] = []
mark_in (b ∷ bs) = if b == 61 then b ∷ [] else b ∷ mark_in bs

in_front : (setting : Setting) (value : List ℕ) → mark_in (mark_of setting ++ value) ≡ mark_of setting
in_front (Cover x) value = refl
in_front (Mutate x) value = refl
in_front (Bases x) value = refl
in_front (Separate x) value = refl
in_front (Weigh x) value = refl
in_front (Format x) value = refl
in_front (Slip x) value = refl
in_front (First x) value = refl

-- a number for each kind, and for its mark
abbrev number_of : Kind → ℕ
number_of kinds.Criteria = 0
number_of kinds.Mutate = 1
number_of kinds.Bases = 2
number_of kinds.Separator = 3
number_of kinds.Weigh = 4
number_of kinds.Format = 5
number_of kinds.Slips = 6
number_of kinds.First = 7

abbrev kind_at : ℕ → Kind
kind_at n =
    if n == 0
    then kinds.Criteria
    else (if n == 1
    then kinds.Mutate
    else (if n == 2
    then kinds.Bases
    else (if n == 3
    then kinds.Separator
    else (if n == 4 then kinds.Weigh else (if n == 5 then kinds.Format else (if n == 6 then kinds.Slips else kinds.First))))))

kind_numbered : (k : Kind) → kind_at (number_of k) ≡ k
kind_numbered kinds.Criteria = refl
kind_numbered kinds.Mutate = refl
kind_numbered kinds.Bases = refl
kind_numbered kinds.Separator = refl
kind_numbered kinds.Weigh = refl
kind_numbered kinds.Format = refl
kind_numbered kinds.Slips = refl
kind_numbered kinds.First = refl

abbrev kind : Setting → ℕ
kind setting = number_of (kind_of setting)

abbrev marks : List (List ℕ)
marks = codes "--criteria=" ∷ codes "--mutate=" ∷ codes "--bases=" ∷ codes "--separator=" ∷ codes "--weigh=" ∷ codes "--format=" ∷ codes "--slips=" ∷ codes "--first=" ∷ []

abbrev place_in : List (List ℕ) → List ℕ → ℕ
place_in [] mark = 0
place_in (m ∷ ms) mark = if bytes_eq m mark then 0 else suc (place_in ms mark)

kind_marked_so : (setting : Setting) → place_in marks (mark_of setting) ≡ kind setting
kind_marked_so (Cover x) = refl
kind_marked_so (Mutate x) = refl
kind_marked_so (Bases x) = refl
kind_marked_so (Separate x) = refl
kind_marked_so (Weigh x) = refl
kind_marked_so (Format x) = refl
kind_marked_so (Slip x) = refl
kind_marked_so (First x) = refl

pub marked : (word : List ℕ) (setting : Setting) → IsOption word setting → IsMarked (mark_of setting) word
marked word setting is = (is.value, is.spelled)

pub same_mark : (word : List ℕ) (s t : Setting) → IsMarked (mark_of s) word → IsMarked (mark_of t) word → mark_of s ≡ mark_of t
same_mark word s t one other = sym (in_front s one.0) ∙ ap mark_in (sym one.1 ∙ other.1) ∙ in_front t other.0

-- one word is of one kind
pub same_kind : (word : List ℕ) (s t : Setting) → IsOption word s → IsOption word t → kind_of s ≡ kind_of t
same_kind word s t one other =
    let marks_same = same_mark word s t (marked word s one) (marked word t other) in
    let numbers : kind s ≡ kind t = sym (kind_marked_so s) ∙ ap (λ mark. place_in marks mark) marks_same ∙ kind_marked_so t in
    sym (kind_numbered (kind_of s)) ∙ ap kind_at numbers ∙ kind_numbered (kind_of t)

-- a word whose kind a command may not have is none of its new options
pub not_had : (c : Command) (before : List (List ℕ)) (word : List ℕ) (setting : Setting) → IsOption word setting → may_have c (kind_of setting) ≡ false → IsNewOption c before word → ⊥
not_had c before word setting is none new =
    let yes : may_have c (kind_of new.setting) ≡ true = new.had in
    let no : may_have c (kind_of new.setting) ≡ false = ap (may_have c) (same_kind word new.setting setting new.is is) ∙ none in
    cc

-- the kind of an option whose word begins with a mark
kind_by_mark : (mark word : List ℕ) (setting : Setting) → ((value : List ℕ) → mark_in (mark ++ value) ≡ mark) → IsOption word setting → IsMarked mark word → kind setting ≡ place_in marks mark
kind_by_mark mark word setting front is m =
    sym (kind_marked_so setting) ∙ ap (λ other. place_in marks other) (sym (in_front setting is.value) ∙ ap mark_in (sym is.spelled ∙ m.1) ∙ front m.0)

nothing : (mark : List ℕ) → LacksMark mark []
nothing mark word there is = omega (arith, there.1)

-- ---- one more option

module _ {A : Type 0} (mark : List ℕ) (of : A → Setting) (words : List (List ℕ)) (word : List ℕ) where
  -- an option of another kind changes nothing of this
  kept : (field : Option A) → Give mark of words field → (IsMarked mark word → ⊥) → Give mark of (words ++ word ∷ []) field
  kept None lacks other = λ w there is. ⊎_elim (λ before. lacks w before is) (λ last. other (subst (λ v. IsMarked mark v) (only w last) is)) (Contains-append_cases words (word ∷ []) w there)
    where
      only : (w : List ℕ) → Contains (word ∷ []) w → w ≡ word
      only w (zero, within, same) = sym same
      only w (suc k, within, same) = absurd (omega (arith, within))
  kept (Some value) (w, there, is) other = (w, Contains-append_left words (word ∷ []) w there, is)

  said : (value : A) → IsOption word (of value) → Give mark of (words ++ word ∷ []) (Some value)
  said value is = (word, Contains-append_right words (word ∷ []) word (0, omega arith, refl), is)

module _ (words : List (List ℕ)) (word : List ℕ) (given more : Given) (are : AreGiven words given) where
  criteria_more : (setting : Setting) → Sets given setting more → IsOption word setting → Give (codes "--criteria=") Cover (words ++ word ∷ []) more.criteria
  criteria_more (Cover x) sets is = subst (λ g. Give (codes "--criteria=") Cover (words ++ word ∷ []) g.criteria) (sym sets.1) (said (codes "--criteria=") Cover words word x is)
  criteria_more setting sets is =
      subst (λ g. Give (codes "--criteria=") Cover (words ++ word ∷ []) g.criteria) (sym sets.1)
      (kept (codes "--criteria=") Cover words word given.criteria are.criteria (λ m. omega (arith, kind_by_mark (codes "--criteria=") word setting (λ value. refl) is m)))

  operators_more : (setting : Setting) → Sets given setting more → IsOption word setting → Give (codes "--mutate=") Mutate (words ++ word ∷ []) more.operators
  operators_more (Mutate x) sets is = subst (λ g. Give (codes "--mutate=") Mutate (words ++ word ∷ []) g.operators) (sym sets.1) (said (codes "--mutate=") Mutate words word x is)
  operators_more setting sets is =
      subst (λ g. Give (codes "--mutate=") Mutate (words ++ word ∷ []) g.operators) (sym sets.1)
      (kept (codes "--mutate=") Mutate words word given.operators are.operators (λ m. omega (arith, kind_by_mark (codes "--mutate=") word setting (λ value. refl) is m)))

  bases_more : (setting : Setting) → Sets given setting more → IsOption word setting → Give (codes "--bases=") Bases (words ++ word ∷ []) more.bases
  bases_more (Bases x) sets is = subst (λ g. Give (codes "--bases=") Bases (words ++ word ∷ []) g.bases) (sym sets.1) (said (codes "--bases=") Bases words word x is)
  bases_more setting sets is =
      subst (λ g. Give (codes "--bases=") Bases (words ++ word ∷ []) g.bases) (sym sets.1)
      (kept (codes "--bases=") Bases words word given.bases are.bases (λ m. omega (arith, kind_by_mark (codes "--bases=") word setting (λ value. refl) is m)))

  separator_more : (setting : Setting) → Sets given setting more → IsOption word setting → Give (codes "--separator=") Separate (words ++ word ∷ []) more.separator
  separator_more (Separate x) sets is = subst (λ g. Give (codes "--separator=") Separate (words ++ word ∷ []) g.separator) (sym sets.1) (said (codes "--separator=") Separate words word x is)
  separator_more setting sets is =
      subst (λ g. Give (codes "--separator=") Separate (words ++ word ∷ []) g.separator) (sym sets.1)
      (kept (codes "--separator=") Separate words word given.separator are.separator (λ m. omega (arith, kind_by_mark (codes "--separator=") word setting (λ value. refl) is m)))

  weigh_more : (setting : Setting) → Sets given setting more → IsOption word setting → Give (codes "--weigh=") Weigh (words ++ word ∷ []) more.weigh
  weigh_more (Weigh x) sets is = subst (λ g. Give (codes "--weigh=") Weigh (words ++ word ∷ []) g.weigh) (sym sets.1) (said (codes "--weigh=") Weigh words word x is)
  weigh_more setting sets is =
      subst (λ g. Give (codes "--weigh=") Weigh (words ++ word ∷ []) g.weigh) (sym sets.1)
      (kept (codes "--weigh=") Weigh words word given.weigh are.weigh (λ m. omega (arith, kind_by_mark (codes "--weigh=") word setting (λ value. refl) is m)))

  format_more : (setting : Setting) → Sets given setting more → IsOption word setting → Give (codes "--format=") Format (words ++ word ∷ []) more.format
  format_more (Format x) sets is = subst (λ g. Give (codes "--format=") Format (words ++ word ∷ []) g.format) (sym sets.1) (said (codes "--format=") Format words word x is)
  format_more setting sets is =
      subst (λ g. Give (codes "--format=") Format (words ++ word ∷ []) g.format) (sym sets.1)
      (kept (codes "--format=") Format words word given.format are.format (λ m. omega (arith, kind_by_mark (codes "--format=") word setting (λ value. refl) is m)))

  slips_more : (setting : Setting) → Sets given setting more → IsOption word setting → Give (codes "--slips=") Slip (words ++ word ∷ []) more.slips
  slips_more (Slip x) sets is = subst (λ g. Give (codes "--slips=") Slip (words ++ word ∷ []) g.slips) (sym sets.1) (said (codes "--slips=") Slip words word x is)
  slips_more setting sets is =
      subst (λ g. Give (codes "--slips=") Slip (words ++ word ∷ []) g.slips) (sym sets.1)
      (kept (codes "--slips=") Slip words word given.slips are.slips (λ m. omega (arith, kind_by_mark (codes "--slips=") word setting (λ value. refl) is m)))

  first_more : (setting : Setting) → Sets given setting more → IsOption word setting → Give (codes "--first=") First (words ++ word ∷ []) more.first
  first_more (First x) sets is = subst (λ g. Give (codes "--first=") First (words ++ word ∷ []) g.first) (sym sets.1) (said (codes "--first=") First words word x is)
  first_more setting sets is =
      subst (λ g. Give (codes "--first=") First (words ++ word ∷ []) g.first) (sym sets.1)
      (kept (codes "--first=") First words word given.first are.first (λ m. omega (arith, kind_by_mark (codes "--first=") word setting (λ value. refl) is m)))

  pub given_more : (setting : Setting) → Sets given setting more → IsOption word setting → AreGiven (words ++ word ∷ []) more
  given_more setting sets is = record {
    criteria = criteria_more setting sets is;
    operators = operators_more setting sets is;
    bases = bases_more setting sets is;
    separator = separator_more setting sets is;
    weigh = weigh_more setting sets is;
    format = format_more setting sets is;
    slips = slips_more setting sets is;
    first = first_more setting sets is;
  }

  -- what is set is new
  pub lacks : (setting : Setting) → Sets given setting more → LacksMark (mark_of setting) words
  lacks (Cover x) sets = subst (λ field. Give (codes "--criteria=") Cover words field) sets.0 are.criteria
  lacks (Mutate x) sets = subst (λ field. Give (codes "--mutate=") Mutate words field) sets.0 are.operators
  lacks (Bases x) sets = subst (λ field. Give (codes "--bases=") Bases words field) sets.0 are.bases
  lacks (Separate x) sets = subst (λ field. Give (codes "--separator=") Separate words field) sets.0 are.separator
  lacks (Weigh x) sets = subst (λ field. Give (codes "--weigh=") Weigh words field) sets.0 are.weigh
  lacks (Format x) sets = subst (λ field. Give (codes "--format=") Format words field) sets.0 are.format
  lacks (Slip x) sets = subst (λ field. Give (codes "--slips=") Slip words field) sets.0 are.slips
  lacks (First x) sets = subst (λ field. Give (codes "--first=") First words field) sets.0 are.first

-- some word begins with the mark
abbrev HasMarked : List ℕ → List (List ℕ) → Type 0
HasMarked mark words = (word : List ℕ) × Contains words word × IsMarked mark word

-- where a field is there, some word has its mark
pub some_marked : {A : Type 0} (mark : List ℕ) (of : A → Setting) (words : List (List ℕ)) (field : Option A) → ((value : A) → mark_of (of value) ≡ mark) → Give mark of words field → IsSome field → HasMarked mark words
some_marked mark of words None same give some = absurd (cc)
some_marked mark of words (Some value) same (w, there, is) some = (w, there, (is.value, is.spelled ∙ ap (λ m. m ++ is.value) (same value)))

module _ (words : List (List ℕ)) (given : Given) (are : AreGiven words given) where
  kind_marked : (setting : Setting) → HasKind given setting → HasMarked (mark_of setting) words
  kind_marked (Cover x) has = some_marked (codes "--criteria=") Cover words given.criteria (λ v. refl) are.criteria has
  kind_marked (Mutate x) has = some_marked (codes "--mutate=") Mutate words given.operators (λ v. refl) are.operators has
  kind_marked (Bases x) has = some_marked (codes "--bases=") Bases words given.bases (λ v. refl) are.bases has
  kind_marked (Separate x) has = some_marked (codes "--separator=") Separate words given.separator (λ v. refl) are.separator has
  kind_marked (Weigh x) has = some_marked (codes "--weigh=") Weigh words given.weigh (λ v. refl) are.weigh has
  kind_marked (Format x) has = some_marked (codes "--format=") Format words given.format (λ v. refl) are.format has
  kind_marked (Slip x) has = some_marked (codes "--slips=") Slip words given.slips (λ v. refl) are.slips has
  kind_marked (First x) has = some_marked (codes "--first=") First words given.first (λ v. refl) are.first has

  -- an option of a kind that is there isn't new
  pub twice : (c : Command) (word : List ℕ) (setting : Setting) → HasKind given setting → IsOption word setting → IsNewOption c words word → ⊥
  twice c word setting has is new =
      let there = kind_marked setting has in
      let same = same_mark word setting new.setting (marked word setting is) (marked word new.setting new.is) in
      new.is_new there.0 there.1 (subst (λ m. IsMarked m there.0) same there.2)

-- ---- words that are no options

pub behind_mark : (mark v w : List ℕ) → mark ++ v ≡ mark ++ w → v ≡ w
behind_mark [] v w same = same
behind_mark (b ∷ mark) v w same = behind_mark mark v w (cc)

-- the value behind a mark gives no setting of its kind
no_value : (mark word value : List ℕ) → ((v : List ℕ) → mark_in (mark ++ v) ≡ mark) → word ≡ mark ++ value
    → ((setting : Setting) → kind setting ≡ place_in marks mark → IsValueOf setting value → ⊥) → (setting : Setting) → IsOption word setting → ⊥
no_value mark word value front is none setting option =
    let marks_same : mark_of setting ≡ mark = sym (in_front setting option.value) ∙ ap mark_in (sym option.spelled ∙ is) ∙ front value in
    let behind : mark ++ option.value ≡ mark ++ value = ap (λ m. m ++ option.value) (sym marks_same) ∙ sym option.spelled ∙ is in
    none setting (kind_by_mark mark word setting front option (value, is)) (subst (λ v. IsValueOf setting v) (behind_mark mark _ _ behind) option.gives)

module _ (word value : List ℕ) where
  pub not_criteria : word ≡ codes "--criteria=" ++ value → ((x : Criteria) → IsCriteria value x → ⊥) → (setting : Setting) → IsOption word setting → ⊥
  not_criteria is none = no_value (codes "--criteria=") word value (λ v. refl) is by_kind
    where
      by_kind : (setting : Setting) → kind setting ≡ 0 → IsValueOf setting value → ⊥
      by_kind (Cover x) same gives = none x gives
      by_kind setting same gives = omega (arith, same)

  pub not_operators : word ≡ codes "--mutate=" ++ value → ((x : Operators) → IsOperators value x → ⊥) → (setting : Setting) → IsOption word setting → ⊥
  not_operators is none = no_value (codes "--mutate=") word value (λ v. refl) is by_kind
    where
      by_kind : (setting : Setting) → kind setting ≡ 1 → IsValueOf setting value → ⊥
      by_kind (Mutate x) same gives = none x gives
      by_kind setting same gives = omega (arith, same)

  pub not_slips : word ≡ codes "--slips=" ++ value → ((x : Slips) → IsSlips value x → ⊥) → (setting : Setting) → IsOption word setting → ⊥
  not_slips is none = no_value (codes "--slips=") word value (λ v. refl) is by_kind
    where
      by_kind : (setting : Setting) → kind setting ≡ 6 → IsValueOf setting value → ⊥
      by_kind (Slip x) same gives = none x gives
      by_kind setting same gives = omega (arith, same)

  pub not_first : word ≡ codes "--first=" ++ value → ((x : ℕ) → IsFirst value x → ⊥) → (setting : Setting) → IsOption word setting → ⊥
  not_first is none = no_value (codes "--first=") word value (λ v. refl) is by_kind
    where
      by_kind : (setting : Setting) → kind setting ≡ 7 → IsValueOf setting value → ⊥
      by_kind (First x) same gives = none x gives
      by_kind setting same gives = omega (arith, same)

pub no_mark : (word : List ℕ) → (IsMarked (codes "--criteria=") word → ⊥) → (IsMarked (codes "--mutate=") word → ⊥) → (IsMarked (codes "--bases=") word → ⊥) → (IsMarked (codes "--separator=") word → ⊥) → (IsMarked (codes "--weigh=") word → ⊥) → (IsMarked (codes "--format=") word → ⊥) → (IsMarked (codes "--slips=") word → ⊥) → (IsMarked (codes "--first=") word → ⊥) → (setting : Setting) → IsOption word setting → ⊥
no_mark word c m b s w f l n (Cover x) option = c (marked word (Cover x) option)
no_mark word c m b s w f l n (Mutate x) option = m (marked word (Mutate x) option)
no_mark word c m b s w f l n (Bases x) option = b (marked word (Bases x) option)
no_mark word c m b s w f l n (Separate x) option = s (marked word (Separate x) option)
no_mark word c m b s w f l n (Weigh x) option = w (marked word (Weigh x) option)
no_mark word c m b s w f l n (Format x) option = f (marked word (Format x) option)
no_mark word c m b s w f l n (Slip x) option = l (marked word (Slip x) option)
no_mark word c m b s w f l n (First x) option = n (marked word (First x) option)
