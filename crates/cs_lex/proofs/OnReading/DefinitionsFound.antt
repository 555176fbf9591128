-- The definitions of a file, as the code hands them on.
use Rattle.std.proofs.Common.{◌≡◌, ℕ, suc, ◌+◌, ◌-◌, ◌<◌, ◌≤◌, Bool, true, false, ◌||◌, List, [], ◌∷◌, ◌++◌, length, take, drop, get_or, Some, slice_get, IsTrue, refl, sym, ap, subst, ◌∙◌, arith}
use Rattle.std.specs.Prelude.{sum_by, nat_lt}
use Rattle.std.specs.List.{position_or_len}
use Rattle.std.specs.Str.{bytes_eq}
use Rattle.std.proofs.lemmas.Bool.{false≢true}
use Rattle.std.proofs.lemmas.Bool.Decides.{nat_tests}
use Rattle.std.proofs.lemmas.List.{take-append-drop, length-map, length-drop, length-take}
use Rattle.std.proofs.lemmas.List.Sums.{sum_by-append}
use Rattle.std.proofs.lemmas.Option.{slice_get_within, slice_get-get_or}
use Rattle.std.proofs.Math.Seq.{drop-cons}
use Rattle.cs_pattern.specs.declared.text.fault.PatternFault.{PatternFault}
use Rattle.cs_pattern.specs.Text.Checking.{IsRefused, stopped, undefined, cyclic, too_large}
use Rattle.cs_pattern.specs.Operations.Definitions as definitions
use Rattle.cs_lex.specs.declared.layout.parts.Part.{Part}
use Rattle.cs_lex.specs.declared.layout.parts.Definition.{Definition}
use Rattle.cs_lex.specs.Layout.Layout as layout
use Rattle.cs_lex.specs.Layout.Lies.{bytes_in}
use Rattle.cs_lex.specs.Reading.Patterns.{spelled, all_spelled}
use Rattle.cs_lex.specs.Reading.Reading.{IsFaultyDefinition}

part_few : (bytes : List ℕ) (p : Part) → length (layout.bytes_of bytes p) ≤ p.to - p.from
part_few bytes p = omega (arith, length-drop p.from (take p.to bytes), length-take p.to bytes)

spelled_few : (bytes : List ℕ) (ds : List Definition) → definitions.total_bytes (all_spelled bytes ds) ≤ sum_by bytes_in ds
spelled_few bytes [] = omega arith
spelled_few bytes (d ∷ ds) =
    omega (
      arith,
      part_few bytes d.name,
      part_few bytes d.substitute,
      spelled_few bytes ds,
      sum_by-append bytes_in (d ∷ []) ds,
      sum_by-append (λ (e : definitions.Definition). length e.name + length e.text) (spelled bytes d ∷ []) (all_spelled bytes ds),
    )

-- the definition stands between those before it and those behind it
stands_there : (ds : List Definition) (i : ℕ) (d : Definition) → i < length ds → d ≡ get_or ds i d → ds ≡ take i ds ++ d ∷ drop (suc i) ds
stands_there ds i d lt is = sym (take-append-drop i ds) ∙ ap (λ (xs : List Definition). take i ds ++ xs) (drop-cons ds i d lt ∙ ap (λ (x : Definition). x ∷ drop (suc i) ds) (sym is))

pub room_left : (bytes : List ℕ) (ds : List Definition) (i : ℕ) (d : Definition) (so_far : List definitions.Definition) (name text : List ℕ) → sum_by bytes_in ds ≤ length bytes → length bytes ≤ 1048576 → i < length ds → d ≡ get_or ds i d
    → so_far ≡ all_spelled bytes (take i ds) → name ≡ layout.bytes_of bytes d.name → text ≡ layout.bytes_of bytes d.substitute → definitions.total_bytes so_far + length name + length text ≤ 1048576
room_left bytes ds i d so_far name text together short lt is e n t =
    let whole : sum_by bytes_in ds ≡ sum_by bytes_in (take i ds) + sum_by bytes_in (d ∷ drop (suc i) ds) = ap (sum_by bytes_in) (stands_there ds i d lt is) ∙ sum_by-append bytes_in (take i ds) (d ∷ drop (suc i) ds) in
    omega (arith, whole, sum_by-append bytes_in (d ∷ []) (drop (suc i) ds), spelled_few bytes (take i ds), ap definitions.total_bytes e, part_few bytes d.name, part_few bytes d.substitute, ap length n, ap length t)

neither : (a b : Bool) → (a || b) ≡ false → (a ≡ false) × (b ≡ false)
neither true b e = absurd (false≢true (sym e))
neither false b e = (refl, e)

not_there : (bytes name : List ℕ) (ds : List Definition) → layout.has_name (layout.names_of bytes ds) name ≡ false → position_or_len (λ (d : definitions.Definition). bytes_eq name d.name) (all_spelled bytes ds) ≡ length (all_spelled bytes ds)
not_there bytes name [] e = refl
not_there bytes name (d ∷ ds) e =
    let p = neither (bytes_eq name (layout.bytes_of bytes d.name)) (layout.has_name (layout.names_of bytes ds) name) e in
    rw p.0 (ap (λ (n : ℕ). 1 + n) (not_there bytes name ds p.1) ∙ sym (suc_is (length (all_spelled bytes ds))))
  where
    suc_is : (n : ℕ) → suc n ≡ 1 + n
    suc_is n = omega arith

pub is_new : (bytes name : List ℕ) (ds : List Definition) (so_far : List definitions.Definition) → so_far ≡ all_spelled bytes ds → layout.has_name (layout.names_of bytes ds) name ≡ false → definitions.has_name name so_far ≡ false
is_new bytes name ds so_far e new =
    let there : definitions.has_name name (all_spelled bytes ds) ≡ false = by_place (position_or_len (λ (d : definitions.Definition). bytes_eq name d.name) (all_spelled bytes ds)) refl (not_there bytes name ds new) in
    subst (λ (xs : List definitions.Definition). definitions.has_name name xs ≡ false) (sym e) there
  where
    by_place : (n : ℕ) → position_or_len (λ (d : definitions.Definition). bytes_eq name d.name) (all_spelled bytes ds) ≡ n → n ≡ length (all_spelled bytes ds) → definitions.has_name name (all_spelled bytes ds) ≡ false
    by_place n p q =
        let less : nat_lt (position_or_len (λ (d : definitions.Definition). bytes_eq name d.name) (all_spelled bytes ds)) (length (all_spelled bytes ds)) ≡ false = grind (arith, nat_tests) in
        rw less refl

pub not_twice : (bytes : List ℕ) (ds : List Definition) (i : ℕ) (d : Definition) (so_far : List definitions.Definition) (name : List ℕ) → layout.HaveNewNames bytes ds → i < length ds → d ≡ get_or ds i d
    → so_far ≡ all_spelled bytes (take i ds) → name ≡ layout.bytes_of bytes d.name → IsTrue (definitions.has_name name so_far) → ⊥
not_twice bytes ds i d so_far name new lt is e n twice =
    let got : slice_get ds i ≡ Some d = slice_get-get_or ds i d lt ∙ ap Some (sym is) in
    let none : layout.has_name (layout.names_of bytes (take i ds)) name ≡ false = subst (λ (x : List ℕ). layout.has_name (layout.names_of bytes (take i ds)) x ≡ false) (sym n) (new i d got) in
    false≢true (sym (is_new bytes name (take i ds) so_far e none) ∙ twice)

-- ---- refused definitions

module _ (ds : List definitions.Definition) (index : ℕ) (f : PatternFault) where
  refused_within : IsRefused ds index f → index < length ds
  refused_within (stopped s) = slice_get_within ds index s.definition s.is
  refused_within (undefined at e u) = slice_get_within ds index u.definition u.is
  refused_within (cyclic at e u) = slice_get_within ds index u.definition u.is
  refused_within (too_large t) = slice_get_within ds index t.definition t.is

pub index_within : (bytes : List ℕ) (all : List Definition) (ds : List definitions.Definition) (index : ℕ) (f : PatternFault) → ds ≡ all_spelled bytes all → IsRefused ds index f → index < length all
index_within bytes all ds index f e h = omega (arith, refused_within ds index f h, ap length e, length-map all (spelled bytes))

pub refused_there : (bytes : List ℕ) (all : List Definition) (ds : List definitions.Definition) (index : ℕ) (f : PatternFault) (d : Definition) → ds ≡ all_spelled bytes all → IsRefused ds index f
    → (e : Definition) × IsFaultyDefinition bytes all e f × ((get_or all index d).substitute.from ≡ e.substitute.from)
refused_there bytes all ds index f d e h = (
  get_or all index d,
  record {
    index = index;
    stands = slice_get-get_or all index d (index_within bytes all ds index f e h);
    refused = subst (λ (xs : List definitions.Definition). IsRefused xs index f) e h;
  },
  refl,
)
