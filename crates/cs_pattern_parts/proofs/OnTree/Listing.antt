-- The nodes of a pattern: of a stack, their leaves, and what is made of them again.
use Rattle.std.proofs.Common.{Bor, ◌≡◌, ℕ, zero, suc, ◌+◌, ◌-◌, ◌≤◌, ◌<◌, List, [], ◌∷◌, ◌++◌, length, map, take, drop, slice_index_or, get_or, refl, sym, ap, ◌∙◌, arith, append_assoc, append-nil}
use Rattle.std.proofs.lemmas.List.{length-append, length-map, map-append, take-map, take_more, drop-map, take_at, drop_at, get_or_at}
use Rattle.std.specs.Global.{Box, Vec}
use Rattle.cs_pattern_parts.specs.declared.tree.pattern.Pattern.{Pattern}
use Rattle.cs_pattern_parts.specs.declared.tree.pattern.Pattern.TheVariants as variants
use Rattle.cs_pattern_parts.specs.Tree.Pattern.{Regex, Empty, Class, Join, Either, Many, Parts, Nothing, Then, parts_of, leaves, all_leaves, regex}
use Rattle.cs_pattern_parts.specs.Tree.Nodes.{values, listed, parts_in, nodes_of, nodes_of_parts, nodes_in, own_leaves, all_own_leaves, below, last, top, with_node, with_nodes}
use Rattle.cs_pattern_parts.proofs.OnTree.Unfolding.{regex-Join, regex-Either, regex-Many}

-- ---- parts as a list

pub listed_parts : (rs : List Regex) → listed (parts_of rs) ≡ rs
listed_parts [] = refl
listed_parts (r ∷ rs) = ap (λ t. r ∷ t) (listed_parts rs)

pub parts_listed : (ps : Parts) → parts_of (listed ps) ≡ ps
parts_listed Nothing = refl
parts_listed (Then r rs) = ap (Then r) (parts_listed rs)

-- ---- the nodes of a stack

pub nodes_append : (xs ys : List Regex) → nodes_in (xs ++ ys) ≡ nodes_in ys ++ nodes_in xs
nodes_append [] ys = sym (append-nil (nodes_in ys))
nodes_append (x ∷ xs) ys = ap (λ t. t ++ nodes_of x) (nodes_append xs ys) ∙ append_assoc (nodes_in ys) (nodes_in xs) (nodes_of x)

nodes_listed : (ps : Parts) → nodes_in (listed ps) ≡ nodes_of_parts ps
nodes_listed Nothing = refl
nodes_listed (Then r rs) = ap (λ t. t ++ nodes_of r) (nodes_listed rs)

-- a node, and the nodes of its parts
node_first : (r : Regex) → nodes_of r ≡ r ∷ nodes_in (parts_in r)
node_first Empty = refl
node_first (Class set) = refl
node_first (Join ps) = ap (λ t. Join ps ∷ t) (sym (nodes_listed ps))
node_first (Either ps) = ap (λ t. Either ps ∷ t) (sym (nodes_listed ps))
node_first (Many r) = refl

-- the top of a stack gives way to its parts
pub opened : (stack : List Regex) (r : Regex) → nodes_in (stack ++ r ∷ []) ≡ r ∷ nodes_in (stack ++ parts_in r)
opened stack r =
    nodes_append stack (r ∷ [])
    ∙ ap (λ t. t ++ nodes_in stack) (node_first r)
    ∙ ap (λ t. r ∷ t) (sym (nodes_append stack (parts_in r)))

pub values_push : (xs : List (Bor Pattern)) (x : Bor Pattern) → values (xs ++ x ∷ []) ≡ values xs ++ regex x.now ∷ []
values_push xs x = map-append (λ p. regex p.now) xs (x ∷ [])

module _ (node : Pattern) where
  pub join_opened : (parts : Vec Pattern) (ps : List Pattern) → node ≡ variants.Join parts → ps ≡ parts.items → map regex ps ≡ parts_in (regex node)
  join_opened parts ps e f = ap (map regex) f ∙ sym (ap (λ n. parts_in (regex n)) e ∙ ap parts_in (regex-Join parts) ∙ listed_parts (map regex parts.items))

  pub either_opened : (parts : Vec Pattern) (ps : List Pattern) → node ≡ variants.Either parts → ps ≡ parts.items → map regex ps ≡ parts_in (regex node)
  either_opened parts ps e f = ap (map regex) f ∙ sym (ap (λ n. parts_in (regex n)) e ∙ ap parts_in (regex-Either parts) ∙ listed_parts (map regex parts.items))

  pub many_opened : (part : Box Pattern) (p : Pattern) → node ≡ variants.Many part → p ≡ part.value → regex p ∷ [] ≡ parts_in (regex node)
  many_opened part p e f = ap (λ q. regex q ∷ []) f ∙ sym (ap (λ n. parts_in (regex n)) e ∙ ap parts_in (regex-Many part))

-- a node is taken off the stack, and its parts are put there
module _ (pending popped then : List (Bor Pattern)) (node : Bor Pattern) (was : pending ≡ popped ++ node ∷ []) (is : values then ≡ values popped ++ parts_in (regex node.now)) where
  one_less : nodes_in (values pending) ≡ regex node.now ∷ nodes_in (values then)
  one_less =
      ap (λ ps. nodes_in (values ps)) was
      ∙ ap nodes_in (values_push popped node)
      ∙ opened (values popped) (regex node.now)
      ∙ ap (λ t. regex node.now ∷ nodes_in t) (sym is)

  pub less_left : length (nodes_in (values then)) < length (nodes_in (values pending))
  less_left = let e = ap length one_less in omega (arith, e)

  pub one_more : (nodes more : List (Bor Pattern)) (all : List Regex) → values nodes ++ nodes_in (values pending) ≡ all → more ≡ nodes ++ node ∷ [] → values more ++ nodes_in (values then) ≡ all
  one_more nodes more all e f =
      ap (λ t. values t ++ nodes_in (values then)) f
      ∙ ap (λ t. t ++ nodes_in (values then)) (values_push nodes node)
      ∙ append_assoc (values nodes) (regex node.now ∷ []) (nodes_in (values then))
      ∙ ap (λ t. values nodes ++ t) (sym one_less)
      ∙ e

-- ---- leaves

pub leaves_append : (xs ys : List Regex) → all_own_leaves (xs ++ ys) ≡ all_own_leaves xs + all_own_leaves ys
leaves_append [] ys = omega arith
leaves_append (x ∷ xs) ys = omega (arith, leaves_append xs ys)

mutual
  pub leaves_counted : (r : Regex) → all_own_leaves (nodes_of r) ≡ leaves r
  leaves_counted Empty = omega arith
  leaves_counted (Class set) = omega arith
  leaves_counted (Join ps) = omega (arith, all_counted ps)
  leaves_counted (Either ps) = omega (arith, all_counted ps)
  leaves_counted (Many r) = omega (arith, leaves_counted r)

  all_counted : (ps : Parts) → all_own_leaves (nodes_of_parts ps) ≡ all_leaves ps
  all_counted Nothing = omega arith
  all_counted (Then r rs) = omega (arith, leaves_append (nodes_of_parts rs) (nodes_of r), leaves_counted r, all_counted rs)

-- the first nodes have no more leaves than all
pub leaves_within : (n : ℕ) (rs : List Regex) → all_own_leaves (take n rs) ≤ all_own_leaves rs
leaves_within zero rs = omega arith
leaves_within (suc n) [] = omega arith
leaves_within (suc n) (r ∷ rs) = omega (arith, leaves_within n rs)

module _ (r : Regex) (nodes : List (Bor Pattern)) (are : values nodes ≡ nodes_of r) where
  pub few_leaves : (n : ℕ) → all_own_leaves (values (take n nodes)) ≤ leaves r
  few_leaves n = omega (arith, ap all_own_leaves (sym (take-map (λ (p : Bor Pattern). regex p.now) n nodes)), leaves_within n (values nodes), ap all_own_leaves are, leaves_counted r)

  pub all_found : all_own_leaves (values nodes) ≡ leaves r
  all_found = ap all_own_leaves are ∙ leaves_counted r

pub next_leaves : (nodes : List (Bor Pattern)) (i : ℕ) (d : Bor Pattern) → i < length nodes → all_own_leaves (values (take (i + 1) nodes)) ≡ all_own_leaves (values (take i nodes)) + own_leaves (regex (get_or nodes i d).now)
next_leaves nodes i d lt =
    let e = ap (λ t. all_own_leaves (values t)) (take_more nodes i d lt) ∙ ap all_own_leaves (values_push (take i nodes) (get_or nodes i d)) in
    let f = leaves_append (values (take i nodes)) (regex (get_or nodes i d).now ∷ []) in
    omega (arith, e, f)

-- ---- the top of a stack

-- so many parts as the node has were on top, and give way to the node
module _ (old rs made mid : List Regex) (n : ℕ) (e : n ≡ length rs) (f : made ≡ last n old) (g : mid ≡ below n old) where
  count : n ≡ length (listed (parts_of rs))
  count = e ∙ sym (ap length (listed_parts rs))

  joined : mid ++ Join (parts_of made) ∷ [] ≡ with_node old (Join (parts_of rs))
  joined =
      ap (λ t. t ++ Join (parts_of made) ∷ []) g
      ∙ ap (λ t. below n old ++ Join (parts_of t) ∷ []) f
      ∙ ap (λ m. below m old ++ Join (parts_of (last m old)) ∷ []) count

  either_joined : mid ++ Either (parts_of made) ∷ [] ≡ with_node old (Either (parts_of rs))
  either_joined =
      ap (λ t. t ++ Either (parts_of made) ∷ []) g
      ∙ ap (λ t. below n old ++ Either (parts_of t) ∷ []) f
      ∙ ap (λ m. below m old ++ Either (parts_of (last m old)) ∷ []) count

left : (xs : List Pattern) (n count : ℕ) → n ≡ length xs - count → n ≡ length (map regex xs) - count
left xs n count e = omega (arith, length-map xs regex)

pub taken : (xs ys : List Pattern) (n count : ℕ) → ys ≡ drop n xs → n ≡ length xs - count → map regex ys ≡ last count (map regex xs)
taken xs ys n count e f = ap (map regex) e ∙ sym (drop-map regex n xs) ∙ ap (λ m. drop m (map regex xs)) (left xs n count f)

pub kept : (xs ys : List Pattern) (n count : ℕ) → ys ≡ take n xs → n ≡ length xs - count → map regex ys ≡ below count (map regex xs)
kept xs ys n count e f = ap (map regex) e ∙ sym (take-map regex n xs) ∙ ap (λ m. take m (map regex xs)) (left xs n count f)

module _ (node : Pattern) (parts copies : Vec Pattern) (old mid : List Regex) (n : ℕ) (size : n ≡ length parts.items) (f : map regex copies.items ≡ last n old) (g : mid ≡ below n old) where
  same_size : n ≡ length (map regex parts.items)
  same_size = size ∙ sym (length-map parts.items regex)

  pub join_put : node ≡ variants.Join parts → mid ++ regex (variants.Join copies) ∷ [] ≡ with_node old (regex node)
  join_put is =
      ap (λ t. mid ++ t ∷ []) (regex-Join copies)
      ∙ joined old (map regex parts.items) (map regex copies.items) mid n same_size f g
      ∙ ap (with_node old) (sym (ap regex is ∙ regex-Join parts))

  pub either_put : node ≡ variants.Either parts → mid ++ regex (variants.Either copies) ∷ [] ≡ with_node old (regex node)
  either_put is =
      ap (λ t. mid ++ t ∷ []) (regex-Either copies)
      ∙ either_joined old (map regex parts.items) (map regex copies.items) mid n same_size f g
      ∙ ap (with_node old) (sym (ap regex is ∙ regex-Either parts))

-- ---- made again

-- the parts on top of a stack, and what is below
on_top : (xs ys : List Regex) → length (xs ++ ys) - length ys ≡ length xs
on_top xs ys = omega (arith, length-append xs ys)

last_on : (xs ys : List Regex) → last (length ys) (xs ++ ys) ≡ ys
last_on xs ys = ap (λ n. drop n (xs ++ ys)) (on_top xs ys) ∙ drop_at xs ys (length xs) refl

below_on : (xs ys : List Regex) → below (length ys) (xs ++ ys) ≡ xs
below_on xs ys = ap (λ n. take n (xs ++ ys)) (on_top xs ys) ∙ take_at xs ys (length xs) refl

top_on : (xs : List Regex) (r : Regex) → top (xs ++ r ∷ []) ≡ r
top_on xs r = ap (λ n. slice_index_or (xs ++ r ∷ []) n Empty) (on_top xs (r ∷ [])) ∙ get_or_at xs r [] Empty (length xs) refl

node_put : (stack : List Regex) (r : Regex) → with_node (stack ++ parts_in r) r ≡ stack ++ r ∷ []
node_put stack Empty = ap (λ t. t ++ Empty ∷ []) (append-nil stack)
node_put stack (Class set) = ap (λ t. t ++ Class set ∷ []) (append-nil stack)
node_put stack (Join ps) =
    ap (λ t. t ++ Join (parts_of (last (length (listed ps)) (stack ++ listed ps))) ∷ []) (below_on stack (listed ps))
    ∙ ap (λ t. stack ++ Join (parts_of t) ∷ []) (last_on stack (listed ps))
    ∙ ap (λ t. stack ++ Join t ∷ []) (parts_listed ps)
node_put stack (Either ps) =
    ap (λ t. t ++ Either (parts_of (last (length (listed ps)) (stack ++ listed ps))) ∷ []) (below_on stack (listed ps))
    ∙ ap (λ t. stack ++ Either (parts_of t) ∷ []) (last_on stack (listed ps))
    ∙ ap (λ t. stack ++ Either t ∷ []) (parts_listed ps)
node_put stack (Many r) =
    ap (λ t. t ++ Many (top (stack ++ r ∷ [])) ∷ []) (below_on stack (r ∷ []))
    ∙ ap (λ t. stack ++ Many t ∷ []) (top_on stack r)

put : (stack : List Regex) (r : Regex) (more before : List Regex) → before ≡ with_nodes stack more ++ parts_in r → with_node before r ≡ with_nodes stack more ++ r ∷ []
put stack r more before e = ap (λ t. with_node t r) e ∙ node_put (with_nodes stack more) r

mutual
  made : (stack : List Regex) (r : Regex) (more : List Regex) → with_nodes stack (nodes_of r ++ more) ≡ with_nodes stack more ++ r ∷ []
  made stack Empty more = put stack Empty more (with_nodes stack more) (sym (append-nil (with_nodes stack more)))
  made stack (Class set) more = put stack (Class set) more (with_nodes stack more) (sym (append-nil (with_nodes stack more)))
  made stack (Join ps) more = put stack (Join ps) more (with_nodes stack (nodes_of_parts ps ++ more)) (all_made stack ps more)
  made stack (Either ps) more = put stack (Either ps) more (with_nodes stack (nodes_of_parts ps ++ more)) (all_made stack ps more)
  made stack (Many r) more = put stack (Many r) more (with_nodes stack (nodes_of r ++ more)) (made stack r more)

  all_made : (stack : List Regex) (ps : Parts) (more : List Regex) → with_nodes stack (nodes_of_parts ps ++ more) ≡ with_nodes stack more ++ listed ps
  all_made stack Nothing more = sym (append-nil (with_nodes stack more))
  all_made stack (Then r rs) more =
      ap (with_nodes stack) (append_assoc (nodes_of_parts rs) (nodes_of r) more)
      ∙ all_made stack rs (nodes_of r ++ more)
      ∙ ap (λ t. t ++ listed rs) (made stack r more)
      ∙ append_assoc (with_nodes stack more) (r ∷ []) (listed rs)

pub all_again : (r : Regex) → with_nodes [] (nodes_of r) ≡ r ∷ []
all_again r = ap (with_nodes []) (sym (append-nil (nodes_of r))) ∙ made [] r []

-- the last node made again
pub last_made : (stack nodes : List Regex) (r : Regex) → with_nodes stack (nodes ++ r ∷ []) ≡ with_nodes (with_node stack r) nodes
last_made stack [] r = refl
last_made stack (x ∷ nodes) r = ap (λ t. with_node t x) (last_made stack nodes r)

pub copied_first : (stack : List Pattern) (nodes : List Regex) (r : Regex) → stack ≡ [] → nodes ≡ nodes_of r → with_nodes (map regex stack) nodes ≡ r ∷ []
copied_first stack nodes r e f = ap (λ t. with_nodes (map regex t) nodes) e ∙ ap (with_nodes []) f ∙ all_again r

pub copied_more : (nodes popped : List (Bor Pattern)) (node : Bor Pattern) (stack then all : List Regex) → with_nodes stack (values nodes) ≡ all → nodes ≡ popped ++ node ∷ [] → then ≡ with_node stack (regex node.now) → with_nodes then (values popped) ≡ all
copied_more nodes popped node stack then all e f g =
    ap (λ t. with_nodes t (values popped)) g
    ∙ sym (ap (λ t. with_nodes stack (values t)) f ∙ ap (with_nodes stack) (values_push popped node) ∙ last_made stack (values popped) (regex node.now))
    ∙ e
