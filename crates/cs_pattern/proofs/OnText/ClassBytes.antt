-- Where the text and the texts of the definitions are bytes, each class of the text's pattern has a byte, and bytes alone.
use Rattle.std.proofs.Common.{Fits, w8, get_or, arith, ◌≡◌, ℕ, zero, suc, ◌+◌, ◌-◌, ◌<◌, List, [], ◌∷◌, ◌++◌, map, drop, replicate, sym, subst, inl, inr}
use Rattle.std.specs.Prelude.{Some, slice_get, ◌==◌, not}
use Rattle.std.proofs.lemmas.List.Elements.{All-head, All-tail, All-drop, All-from_get_or}
use Rattle.cs_pattern_parts.specs.declared.items.item.Repetition.{Repetition}
use Rattle.cs_pattern_parts.specs.declared.items.item.Repetition.TheVariants.{Optional, Exactly, AtLeast, Between}
use Rattle.cs_pattern_parts.specs.Items.Items.{Item, class, quoted, named, opening, repetition, bar, closing, Placed, items_of}
use Rattle.cs_pattern_parts.specs.Items.Members.{bytes_where}
use Rattle.cs_pattern_parts.specs.Items.Spelling as spelling
use Rattle.cs_pattern_parts.specs.Items.Spelling.{SpellsClass}
use Rattle.cs_pattern_parts.proofs.OnItems.Fronts.{complete}
use Rattle.cs_pattern_parts.specs.Items.StandsFor.{AreBytes, HasSomeByte}
use Rattle.cs_pattern_parts.proofs.OnItems.StandingFor.{bytes_where-bytes, one_byte-has_byte, front-stands_for_bytes}
use Rattle.cs_pattern.specs.declared.text.place.PatternPlace.{PatternPlace}
use Rattle.cs_pattern.specs.Text.Classes.{HaveByteTexts}
use Rattle.cs_pattern_parts.specs.Tree.Scannable.{EachClass, EachClassOf, HasNoEmptyClass, HasByteClasses}
use Rattle.cs_pattern.specs.Operations.Definitions.{Definition}
use Rattle.cs_pattern.specs.Operations.Grammar.{Tree, LastBranch, Or, Branch, LastPiece, Beside, Piece, Repeated, Atom, Bytes, Quote, Name, Group, tree_items, branch_items, piece_items, atom_items, all_repeated, branch_parts, piece_parts, piece_regex, atom_regex}
use Rattle.cs_pattern_parts.specs.Tree.Pattern.{alone_or}
use Rattle.cs_pattern_parts.specs.Tree.Pattern.{Regex, Empty, Join, Either, Many, Parts, Nothing, Then, parts_of}
use Rattle.cs_pattern_parts.specs.Tree.Repeated as repeats
use Rattle.cs_pattern.specs.Text.Substitution.{SpellsTree, PutIn, BranchPutIn, PiecePutIn, AtomPutIn}
use Rattle.cs_pattern.specs.Text.Table.{ReadsTo}
use Rattle.cs_pattern.specs.Text.Answers.{IsPatternOf}

module _ (P : List ℕ → Type 0) (one : (b : ℕ) → b < 256 → P (bytes_where (λ c. c == b))) (of_class : (text : List ℕ) (n : ℕ) (set : List ℕ) → AreBytes text → spelling.Spells text n (class set) → P set) where
  -- ---- what repetitions and quoted texts make

  copies_and : (n : ℕ) (r : Regex) (rs : List Regex) → EachClass P r → EachClassOf P (parts_of rs) → EachClassOf P (parts_of (replicate n r ++ rs))
  copies_and zero r rs h k = k
  copies_and (suc n) r rs h k = (h, copies_and n r rs h k)

  copies : (n : ℕ) (r : Regex) → EachClass P r → EachClassOf P (parts_of (replicate n r))
  copies zero r h = tt
  copies (suc n) r h = (h, copies n r h)

  at_least_keeps : (n : ℕ) (r : Regex) → EachClass P r → EachClass P (repeats.at_least n r)
  at_least_keeps zero r h = h
  at_least_keeps (suc n) r h = copies_and (suc n) r (Many r ∷ []) h (h, tt)

  repeated_keeps : (r : Regex) (n : Repetition) → EachClass P r → EachClass P (repeats.repeated r n)
  repeated_keeps r Optional h = (h, (tt, tt))
  repeated_keeps r (Exactly n) h = copies n r h
  repeated_keeps r (AtLeast n) h = at_least_keeps n r h
  repeated_keeps r (Between n m) h = copies_and n r (replicate (m - n) (repeats.optional r)) h (copies (m - n) (repeats.optional r) (h, (tt, tt)))

  all_repeated_keeps : (r : Regex) (rs : List Repetition) → EachClass P r → EachClass P (all_repeated r rs)
  all_repeated_keeps r [] h = h
  all_repeated_keeps r (n ∷ rs) h = all_repeated_keeps (repeats.repeated r n) rs (repeated_keeps r n h)

  byte_classes : (bytes : List ℕ) → AreBytes bytes → EachClassOf P (parts_of (map repeats.one_byte bytes))
  byte_classes [] h = tt
  byte_classes (b ∷ bytes) h = (one b (All-head (λ c. c < 256) b bytes h), byte_classes bytes (All-tail (λ c. c < 256) b bytes h))

  quoted_classes : (bytes : List ℕ) → AreBytes bytes → EachClass P (repeats.quoted bytes)
  quoted_classes [] h = tt
  quoted_classes (b ∷ bytes) h = byte_classes (b ∷ bytes) h

  joined : (ps : Parts) → EachClassOf P ps → EachClass P (alone_or Join ps)
  joined Nothing h = tt
  joined (Then r Nothing) h = h.0
  joined (Then r (Then s rs)) h = h

  one_of : (ps : Parts) → EachClassOf P ps → EachClass P (alone_or Either ps)
  one_of Nothing h = tt
  one_of (Then r Nothing) h = h.0
  one_of (Then r (Then s rs)) h = h

  -- ---- the items of a text

  -- a class is P, and what is quoted are bytes
  abbrev StandsWell : Item → Type 0
  StandsWell (class set) = P set
  StandsWell (quoted bytes) = AreBytes bytes
  StandsWell (named name) = Unit {0}
  StandsWell opening = Unit {0}
  StandsWell closing = Unit {0}
  StandsWell bar = Unit {0}
  StandsWell (repetition r) = Unit {0}

  stands_well : (text : List ℕ) (n : ℕ) (i : Item) → AreBytes text → spelling.Spells text n i → StandsWell i
  stands_well text n (class set) h s = of_class text n set h s
  stands_well text n (quoted bytes) h s = front-stands_for_bytes text (quoted bytes) n h (complete text n (quoted bytes) s)
  stands_well text n (named name) h s = tt
  stands_well text n opening h s = tt
  stands_well text n closing h s = tt
  stands_well text n bar h s = tt
  stands_well text n (repetition r) h s = tt

  abbrev StandForBytes : List Item → Type 0
  StandForBytes [] = Unit {0}
  StandForBytes (i ∷ is) = StandsWell i × StandForBytes is

  left : (xs ys : List Item) → StandForBytes (xs ++ ys) → StandForBytes xs
  left [] ys h = tt
  left (x ∷ xs) ys h = (h.0, left xs ys h.1)

  right : (xs ys : List Item) → StandForBytes (xs ++ ys) → StandForBytes ys
  right [] ys h = h
  right (x ∷ xs) ys h = right xs ys h.1

  items_stand : (text : List ℕ) (at : ℕ) (p : PatternPlace) (xs : List Placed) (to : ℕ) (last : PatternPlace) → AreBytes text → ReadsTo text at p xs to last → StandForBytes (items_of xs)
  items_stand text at p [] to last h r = tt
  items_stand text at p (x ∷ xs) to last h r =
      (stands_well (drop at text) r.0 x.item (All-drop (λ b. b < 256) at text h) r.3, items_stand text (at + r.0) r.1 xs to last h r.5)

  spelled_stand : (text : List ℕ) (tree : Tree) → AreBytes text → SpellsTree text tree → StandForBytes (tree_items tree)
  spelled_stand text tree h s =
      let r = s.read in
      subst StandForBytes s.derived (items_stand text 0 _ s.items _ r.last h r.read)

  definition_bytes : (ds : List Definition) (i : ℕ) (d : Definition) → HaveByteTexts ds → slice_get ds i ≡ Some d → AreBytes d.text
  definition_bytes [] i d h e = absurd (cc e)
  definition_bytes (x ∷ ds) zero d h e = let f : x ≡ d = cc e in subst (λ (y : Definition). AreBytes y.text) f (All-head (λ (y : Definition). AreBytes y.text) x ds h)
  definition_bytes (x ∷ ds) (suc i) d h e = definition_bytes ds i d (All-tail (λ (y : Definition). AreBytes y.text) x ds h) e

  -- ---- trees with definitions put in

  abbrev no_names : List ℕ → Regex
  no_names name = Empty

  module _ (ds : List Definition) (h : HaveByteTexts ds) where
    mutual
      branches : (u t : Tree) → PutIn ds u t → StandForBytes (tree_items t) → EachClassOf P (branch_parts no_names u)
      branches (LastBranch b) t p k = (joined (piece_parts no_names b) (pieces b p.0 p.2 (subst (λ (x : Tree). StandForBytes (tree_items x)) p.1 k)), tt)
      branches (Or b u) t p k =
          let j = subst (λ (x : Tree). StandForBytes (tree_items x)) p.2 k in
          (joined (piece_parts no_names b) (pieces b p.0 p.3 (left (branch_items p.0) (bar ∷ tree_items p.1) j)), branches u p.1 p.4 (right (branch_items p.0) (bar ∷ tree_items p.1) j).1)

      pieces : (b c : Branch) → BranchPutIn ds b c → StandForBytes (branch_items c) → EachClassOf P (piece_parts no_names b)
      pieces (LastPiece q) c p k = (piece q p.0 p.2 (subst (λ (x : Branch). StandForBytes (branch_items x)) p.1 k), tt)
      pieces (Beside q b) c p k =
          let j = subst (λ (x : Branch). StandForBytes (branch_items x)) p.2 k in
          (piece q p.0 p.3 (left (piece_items p.0) (branch_items p.1) j), pieces b p.1 p.4 (right (piece_items p.0) (branch_items p.1) j))

      piece : (q w : Piece) → PiecePutIn ds q w → StandForBytes (piece_items w) → EachClass P (piece_regex no_names q)
      piece (Repeated a rs) w p k =
          let j = subst (λ (x : Piece). StandForBytes (piece_items x)) p.1 k in
          all_repeated_keeps (atom_regex no_names a) rs (atom a p.0 p.2 (left (atom_items p.0) (map repetition rs) j))

      atom : (a w : Atom) → AtomPutIn ds a w → StandForBytes (atom_items w) → EachClass P (atom_regex no_names a)
      atom (Bytes set) w p k = (subst (λ (x : Atom). StandForBytes (atom_items x)) p k).0
      atom (Quote bytes) w p k = quoted_classes bytes (subst (λ (x : Atom). StandForBytes (atom_items x)) p k).0
      atom (Name name) w p k = absurd p
      atom (Group t) w (inl p) k =
          let j = subst (λ (x : Atom). StandForBytes (atom_items x)) p.1 k in
          one_of (branch_parts no_names t) (branches t p.0 p.2 (left (tree_items p.0) (closing ∷ []) j.1))
      atom (Group t) w (inr p) k =
          let def = p.2.2 in
          let stand = spelled_stand p.2.0.text p.2.1 (definition_bytes ds def.index p.2.0 h def.is) p.2.3 in
          one_of (branch_parts no_names t) (branches t p.2.1 p.2.4 stand)

  pub each_class : (ds : List Definition) (text : List ℕ) (pattern : Regex) → AreBytes text → HaveByteTexts ds → IsPatternOf ds text pattern → EachClass P pattern
  each_class ds text pattern h k is =
      let t = is.is_tree in
      subst (EachClass P) (sym is.is) (one_of (branch_parts no_names is.tree) (branches ds k is.tree t.spelled t.put_in (spelled_stand text t.spelled h t.is_spelled)))

-- ---- classes

class_bytes : (text : List ℕ) (n : ℕ) (set : List ℕ) → SpellsClass text n set → AreBytes set
class_bytes text n set (spelling.byte b plain s) = bytes_where-bytes (λ c. c == b)
class_bytes text n set (spelling.escape rest m b is e size) = bytes_where-bytes (λ c. c == b)
class_bytes text n set (spelling.full_stop s) = bytes_where-bytes (λ c. not (c == 10))
class_bytes text n set (spelling.bracket s b) = b.is_set.bytes

pub no_empty_class : (ds : List Definition) (text : List ℕ) (pattern : Regex) → AreBytes text → HaveByteTexts ds → IsPatternOf ds text pattern → HasNoEmptyClass pattern
no_empty_class = each_class HasSomeByte one_byte-has_byte (λ text n set h s. front-stands_for_bytes text (class set) n h (complete text n (class set) s))

pub byte_classes_alone : (ds : List Definition) (text : List ℕ) (pattern : Regex) → AreBytes text → HaveByteTexts ds → IsPatternOf ds text pattern → HasByteClasses pattern
byte_classes_alone = each_class AreBytes (λ b lt. bytes_where-bytes (λ c. c == b)) (λ text n set h s. class_bytes text n set s)

-- the numbers of a slice of bytes, as its type has them
pub AreBytes-from_fits : (xs : List ℕ) → ((k : ℕ) → Fits w8 (get_or xs k 0)) → AreBytes xs
AreBytes-from_fits xs h = All-from_get_or (λ b. b < 256) xs 0 (λ k lt. omega (arith, h k))
