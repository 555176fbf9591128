-- What tasks write: rule numbers, one after another.
use Rattle.std.proofs.Common.{◌≡◌, ℕ, ◌+◌, ◌-◌, ◌≤◌, inl, inr, List, [], ◌∷◌, ◌++◌, Option, None, Some, length, take, drop, reverse, refl, sym, ap, ◌∙◌, subst, arith, append_assoc, append-nil, ◌<◌, ◌^◌}
use Rattle.std.specs.Prelude.{All, slice_get, slice_index}
use Rattle.std.specs.List.{slice_range}
use Rattle.std.specs.Option.{option_to_list}
use Rattle.std.proofs.Math.Seq.{take-append-add}
use Rattle.std.proofs.lemmas.List.{length-append, length-drop, length-take, length-take-le, take-append-drop, reverse-append, take_all, drop_all}
use Rattle.std.proofs.lemmas.List.Elements.{All-nil, All-cons, All-append, All-head, All-tail, All-weaker}
use Rattle.std.proofs.lemmas.Option.{slice_get_within, same_Some}
use Rattle.cs_grammar.specs.declared.symbol.Symbol.{Symbol}
use Rattle.cs_grammar.specs.declared.symbol.Symbol.TheVariants.{Token, Nonterminal}
use Rattle.cs_grammar.specs.Grammar.{Production, PlainGrammar, IsGrammar, IsRule, IsSymbol}
use Rattle.cs_grammar.proofs.Measures.{All-at, IsRuleOf-rule}
use Rattle.cs_grammar.specs.Tree.{Tree, Leaf, Node, Forest, Bare, Grown, IsTree, AreTrees, code, codes_of, yield, yields}
use Rattle.cs_grammar.specs.Context.{join}
use Rattle.cs_grammar.proofs.Forests.{AreTrees-join, codes_of-join, yields-join}
use Rattle.cs_grammar.proofs.OneTree.{one_rule}
use Rattle.cs_member.specs.declared.tables.item.Item.{Item}
use Rattle.cs_member.specs.declared.derivation.back.Back.{Back}
use Rattle.cs_member.specs.declared.chart.chart.Position.{Position}
use Rattle.cs_member.specs.declared.chart.now.Span.{Span}
use Rattle.cs_member.specs.declared.tables.tables.Tables.{Tables}
use Rattle.cs_member.specs.declared.derivation.writing.Task.{Task}
use Rattle.cs_member.specs.declared.derivation.writing.Task.TheVariants.{Rule, Empty, Trees, Tree as TreeOf}
use Rattle.cs_member.specs.Tables.Item.{Awaits, IsDone, IsFront, over}
use Rattle.cs_member.specs.Tables.Tables.{AreEmpties, AreRounds, HasEmpty, IsFoundBefore, IsKeptRule}
use Rattle.cs_member.specs.Derivation.Back.{HasChild, IsBack}
use Rattle.cs_member.specs.Derivation.Writing.{Between, AreTreesTo, Writes, WritesAll, IsTask, IsAbove, IsTaken, IsTakenBelow, IsWhole, rank_of, LeavesFront, empty_tasks, child_tasks}
use Rattle.std.proofs.lemmas.Bool.{cases_eq}
use Rattle.cs_member.proofs.OnTables.Places.{at_from_take, take_step, drop_step}
use Rattle.cs_member.proofs.OnTables.Entering.{kept_empty}
use Rattle.cs_member.proofs.OnDerivation.Leading.{past_all, all_from}

pub empty_tasks_push : (xs : List Symbol) (s : Symbol) → empty_tasks (xs ++ s ∷ []) ≡ empty_tasks xs ++ empty_tasks (s ∷ [])
empty_tasks_push [] s = refl
empty_tasks_push (Token t ∷ xs) s = empty_tasks_push xs s
empty_tasks_push (Nonterminal a ∷ xs) s = ap (λ (l : List Task). Empty a ∷ l) (empty_tasks_push xs s)

pub no_empty_task : (s : Symbol) → ((n : ℕ) → s ≡ Nonterminal n → ⊥) → empty_tasks (s ∷ []) ≡ []
no_empty_task (Token t) never = refl
no_empty_task (Nonterminal n) never = absurd (never n refl)

range_short_enough : (xs : List Symbol) (a b : ℕ) → length xs ≤ 128 → length (slice_range xs a b) ≤ 128
range_short_enough xs a b short = (let long = length-take (b - a) (drop a xs) in let rest = length-drop a xs in omega arith)

-- the front of a list up to one place, and from there to another
pub take_split : {X : Type 0} (xs : List X) (a b : ℕ) → a ≤ b → a ≤ length xs → take b xs ≡ take a xs ++ slice_range xs a b
take_split {X} xs a b le within =
    let long : length (take a xs) ≡ a = length-take-le a xs within in
    let sum : b ≡ length (take a xs) + (b - a) = omega arith in
    ap (λ (l : List X). take b l) (sym (take-append-drop a xs)) ∙ (ap (λ n. take n (take a xs ++ drop a xs)) sum ∙ take-append-add (take a xs) (drop a xs) (b - a))

pub take_around : {X : Type 0} (xs : List X) (a b : ℕ) (x : X) → slice_get xs a ≡ Some x → a + 1 ≤ b → take b xs ≡ take a xs ++ x ∷ slice_range xs (a + 1) b
take_around {X} xs a b x at le =
    let within = slice_get_within xs a x at in
    take_split xs (a + 1) b le (omega arith) ∙ (ap (λ (l : List X). l ++ slice_range xs (a + 1) b) (take_step xs a x at) ∙ append_assoc (take a xs) (x ∷ []) (slice_range xs (a + 1) b))

reverse_option : (o : Option ℕ) → reverse (option_to_list o) ≡ option_to_list o
reverse_option None = refl
reverse_option (Some n) = refl

module _ (g : PlainGrammar) (tokens : List ℕ) (chart : List Position) where
  -- what several lists of tasks write
  pub writes_split : (ts us : List Task) (rules : List ℕ) → WritesAll g tokens chart (ts ++ us) rules → (a : List ℕ) × (b : List ℕ) × WritesAll g tokens chart ts a × WritesAll g tokens chart us b × (rules ≡ a ++ b)
  writes_split [] us rules h = ([], rules, refl, h, refl)
  writes_split (t ∷ ts) us rules h =
      let s = writes_split ts us h.1 h.3 in
      (h.0 ++ s.0, s.1, (h.0, s.0, h.2, s.2, refl), s.3, h.4 ∙ (ap (λ (l : List ℕ). h.0 ++ l) s.4 ∙ sym (append_assoc h.0 s.0 s.1)))

  pub writes_push : (ts : List Task) (t : Task) (a b : List ℕ) → WritesAll g tokens chart ts a → Writes g tokens chart t b → WritesAll g tokens chart (ts ++ t ∷ []) (a ++ b)
  writes_push [] t a b h w = (b, [], w, refl, ap (λ (l : List ℕ). l ++ b) h ∙ sym (append-nil b))
  writes_push (u ∷ ts) t a b h w =
      let s = writes_push ts t h.1 b h.3 w in
      (h.0, h.1 ++ b, h.2, s, ap (λ (l : List ℕ). l ++ b) h.4 ∙ append_assoc h.0 h.1 b)

  -- the empty trees of symbols
  pub empties_written : (empties : List ℕ) (xs : List Symbol) → All (HasEmpty empties) xs → (rules : List ℕ) → WritesAll g tokens chart (empty_tasks xs) rules → (f : Forest) × AreTrees g xs f × (yields f ≡ []) × (rules ≡ codes_of f)
  empties_written empties [] all rules h = (Bare, tt, refl, h)
  empties_written empties (Token t ∷ xs) all rules h = absurd (All-head (HasEmpty empties) (Token t) xs all)
  empties_written empties (Nonterminal a ∷ xs) all rules h =
      let t = h.2.0 in
      let f = empties_written empties xs (All-tail (HasEmpty empties) (Nonterminal a) xs all) h.1 h.3 in (
        Grown t f.0,
        (h.2.1, f.1),
        ap (λ (l : List ℕ). l ++ yields f.0) h.2.2 ∙ f.2,
        h.4 ∙ (ap (λ (l : List ℕ). l ++ h.1) h.2.3 ∙ ap (λ (l : List ℕ). code t ++ l) f.3),
      )

  pub empties_there : (tables : Tables) (xs : List Symbol) → All (HasEmpty tables.empties.items) xs → All (IsTask g tables chart) (empty_tasks xs)
  empties_there tables [] all = All-nil (IsTask g tables chart)
  empties_there tables (Token t ∷ xs) all = absurd (All-head (HasEmpty tables.empties.items) (Token t) xs all)
  empties_there tables (Nonterminal a ∷ xs) all =
      All-cons (IsTask g tables chart) (Empty a) (empty_tasks xs) (All-head (HasEmpty tables.empties.items) (Nonterminal a) xs all)
      (empties_there tables xs (All-tail (HasEmpty tables.empties.items) (Nonterminal a) xs all))

  pub empties_few : (xs : List Symbol) → length (empty_tasks xs) ≤ length xs
  empties_few [] = omega arith
  empties_few (Token t ∷ xs) = (let h = empties_few xs in omega arith)
  empties_few (Nonterminal a ∷ xs) = (let h = empties_few xs in omega arith)

  -- and their ranks
  pub empties_lower : (rounds : List ℕ) (n limit : ℕ) (xs : List Symbol) → n + 1 ≤ limit → All (IsFoundBefore rounds n) xs → All (λ t. rank_of rounds t < limit) (empty_tasks xs)
  empties_lower rounds n limit [] le all = All-nil (λ t. rank_of rounds t < limit)
  empties_lower rounds n limit (Token t ∷ xs) le all = empties_lower rounds n limit xs le (All-tail (IsFoundBefore rounds n) (Token t) xs all)
  empties_lower rounds n limit (Nonterminal a ∷ xs) le all =
      let first = All-head (IsFoundBefore rounds n) (Nonterminal a) xs all in
      All-cons (λ t. rank_of rounds t < limit) (Empty a) (empty_tasks xs) (omega arith) (empties_lower rounds n limit xs le (All-tail (IsFoundBefore rounds n) (Nonterminal a) xs all))

  found_within_rounds : (empties rounds : List ℕ) (n : ℕ) → AreRounds g empties rounds → length empties ≤ n → (s : Symbol) → HasEmpty empties s → IsFoundBefore rounds n s
  found_within_rounds empties rounds n is le (Token t) h = tt
  found_within_rounds empties rounds n is le (Nonterminal b) h = (let low = is.below b h in omega arith)

  -- any empty trees
  pub any_lower : (empties rounds : List ℕ) (limit : ℕ) (xs : List Symbol) → AreRounds g empties rounds → length empties + 1 ≤ limit → All (HasEmpty empties) xs → All (λ t. rank_of rounds t < limit) (empty_tasks xs)
  any_lower empties rounds limit xs is le all =
      empties_lower rounds (length empties) limit xs le
      (All-weaker (HasEmpty empties) (IsFoundBefore rounds (length empties)) (found_within_rounds empties rounds (length empties) is (omega arith)) xs all)

  child_few : (at : ℕ) (child : Option ℕ) → length (child_tasks at child) ≤ 1
  child_few at None = omega arith
  child_few at (Some m) = omega arith

  child_lower : (rounds : List ℕ) (at limit : ℕ) (child : Option ℕ) → IsAbove at child limit → All (λ t. rank_of rounds t < limit) (child_tasks at child)
  child_lower rounds at limit None above = All-nil (λ t. rank_of rounds t < limit)
  child_lower rounds at limit (Some m) above = All-cons (λ t. rank_of rounds t < limit) (TreeOf m at) [] (above.children m refl) (All-nil (λ t. rank_of rounds t < limit))

  -- a child behind trees, and empty trees behind that
  pub trees_joined : (x y : Item) (p : Production) (s : Symbol) (from k at : ℕ) (f : Forest) (t : Tree) (e : Forest) → IsRule g x.rule p → y.rule ≡ x.rule → slice_get p.right x.place ≡ Some s → x.place + 1 ≤ y.place
      → AreTreesTo g tokens x from k f → IsTree g s t → Between tokens k at (yield t) → AreTrees g (slice_range p.right (x.place + 1) y.place) e → yields e ≡ [] → AreTreesTo g tokens y from at (join f (Grown t e))
  trees_joined x y p s from k at f t e number same there le trees tree between are none =
      let one : trees.rule ≡ p = one_rule g x.rule x.rule trees.rule p refl trees.number number in
      let front : AreTrees g (take x.place p.right) f = subst (λ (q : Production). AreTrees g (take x.place q.right) f) one trees.are in
      record {
        rule = p;
        number = subst (λ n. IsRule g n p) (sym same) number;
        are = subst (λ (l : List Symbol). AreTrees g l (join f (Grown t e))) (sym (take_around p.right x.place y.place s there le))
            (AreTrees-join g f (Grown t e) (take x.place p.right) (s ∷ slice_range p.right (x.place + 1) y.place) front (tree, are));
        between =
            let tail : yields (Grown t e) ≡ yield t = ap (λ (l : List ℕ). yield t ++ l) none ∙ append-nil (yield t) in
            let all : yields (join f (Grown t e)) ≡ yields f ++ yield t = yields-join f (Grown t e) ∙ ap (λ (l : List ℕ). yields f ++ l) tail in
            trees.between ∙ (ap (λ (l : List ℕ). yields f ++ l) between ∙ (sym (append_assoc (yields f) (yield t) (drop at tokens)) ∙ ap (λ (l : List ℕ). l ++ drop at tokens) (sym all)));
      }

  -- the tree of a child
  pub child_written : (x : Item) (begin at : ℕ) (child : Option ℕ) → HasChild g tokens chart x begin at child → (rules : List ℕ) → WritesAll g tokens chart (child_tasks at child) rules
      → (s : Symbol) × (t : Tree) × Awaits g x s × IsTree g s t × Between tokens begin at (yield t) × (rules ≡ code t)
  child_written x begin at None h rules w = (Token h.0, Leaf h.0, h.3, refl, drop_step tokens begin h.0 h.1 ∙ ap (λ n. h.0 ∷ drop n tokens) h.2, w)
  child_written x begin at (Some m) h rules w =
      let tree = w.2 in
      let p : tree.0 ≡ h.0 = same_Some tree.0 h.0 (sym tree.3 ∙ h.2) in
      let s : tree.1 ≡ h.1 = same_Some tree.1 h.1 (sym tree.4 ∙ (ap (λ (q : Position). slice_get q.spans.items m) p ∙ h.3)) in
      let is_tree : IsTree g (Nonterminal h.1.nonterminal) tree.2 = subst (λ (u : Span). IsTree g (Nonterminal u.nonterminal) tree.2) s tree.5.0 in
      let from : tree.1.from ≡ begin = ap (λ (u : Span). u.from) s ∙ h.4 in
      let between : Between tokens begin at (yield tree.2) = subst (λ n. Between tokens n at (yield tree.2)) from tree.5.1 in
      let rules_are : rules ≡ w.0 = w.4 ∙ (ap (λ (l : List ℕ). w.0 ++ l) w.3 ∙ append-nil w.0) in
      (Nonterminal h.1.nonterminal, tree.2, h.5, is_tree, between, rules_are ∙ tree.6)

  child_there : (tables : Tables) (x : Item) (begin at : ℕ) (child : Option ℕ) → HasChild g tokens chart x begin at child → All (IsTask g tables chart) (child_tasks at child)
  child_there tables x begin at None h = All-nil (IsTask g tables chart)
  child_there tables x begin at (Some m) h =
      All-cons (IsTask g tables chart) (TreeOf m at) [] (h.0, h.2, slice_get_within h.0.spans.items m h.1 h.3) (All-nil (IsTask g tables chart))

  -- the tasks on the way back write the trees of what is found
  pub back_taken : (tables : Tables) (grammar : IsGrammar g) (empties : AreEmpties g tables.empties.items) (rounds : AreRounds g tables.empties.items tables.rounds.items) (limit : ℕ) (p : Production) (from at : ℕ) (child : Option ℕ) (back : Back) (old new : List Task)
      → IsAbove at child limit → IsBack g tokens chart at from child back → IsRule g back.found.rule p
      → new ≡ old ++ (Trees back.before from back.begin ∷ (child_tasks at child ++ empty_tasks (slice_range p.right (back.before.place + 1) back.found.place)))
      → IsTakenBelow g tokens tables chart limit (Trees back.found from at) None old new
  back_taken tables grammar empties rounds limit p from at child back old new above is number grown =
      let x = back.before in
      let y = back.found in
      let range = slice_range p.right (x.place + 1) y.place in
      let first : IsRule g x.rule p = subst (λ n. IsRule g n p) is.past.same number in
      let all : All (HasEmpty tables.empties.items) range = past_all g tables.empties.items grammar empties (over x) y p first is.past in
      let front = Trees x from back.begin in
      let behind = child_tasks at child ++ empty_tasks range in
      record {
        more = front ∷ behind;
        grown = grown;
        few =
            let range_few = empties_few range in
            let range_short : length range ≤ 128 = range_short_enough p.right (x.place + 1) y.place (IsRuleOf-rule g x.rule p grammar first).short in
            let one_child = child_few at child in
            let both = length-append (child_tasks at child) (empty_tasks range) in
            omega arith;
        lower =
            let size = empties.size in
            let most = grammar.nonterminals in
            let position = above.positions in
            let earlier = is.earlier in
            All-cons (λ t. rank_of tables.rounds.items t < limit) front behind (omega arith)
            (All-append (λ t. rank_of tables.rounds.items t < limit) (child_tasks at child) (empty_tasks range) (child_lower tables.rounds.items at limit child above)
            (any_lower tables.empties.items tables.rounds.items limit range rounds (omega arith) all));
        tasks = All-cons (IsTask g tables chart) front behind is.there
            (All-append (IsTask g tables chart) (child_tasks at child) (empty_tasks range) (child_there tables x back.begin at child is.awaits) (empties_there tables range all));
        writes = λ rules w.
            let f = w.2.0 in
            let parts = writes_split (child_tasks at child) (empty_tasks range) w.1 w.3 in
            let c = child_written x back.begin at child is.awaits parts.0 parts.2 in
            let e = empties_written tables.empties.items range all parts.1 parts.3 in
            let one : c.2.rule ≡ p = one_rule g x.rule x.rule c.2.rule p refl c.2.number first in
            let there : slice_get p.right x.place ≡ Some c.0 = subst (λ (q : Production). slice_get q.right x.place ≡ Some c.0) one c.2.at in
            let trees = trees_joined x y p c.0 from back.begin at f c.1 e.0 first is.past.same there is.past.low w.2.1 c.3 c.4 e.1 e.2 in
            let tail : w.1 ≡ codes_of (Grown c.1 e.0) = parts.4 ∙ (ap (λ (l : List ℕ). l ++ parts.1) c.5 ∙ ap (λ (l : List ℕ). code c.1 ++ l) e.3) in
            let body : codes_of f ++ w.1 ≡ codes_of (join f (Grown c.1 e.0)) = ap (λ (l : List ℕ). codes_of f ++ l) tail ∙ sym (codes_of-join f (Grown c.1 e.0)) in (
              join f (Grown c.1 e.0),
              trees,
              append-nil rules ∙ (w.4 ∙ (ap (λ (l : List ℕ). l ++ w.1) w.2.2 ∙ (ap (λ (l : List ℕ). x.rule ∷ l) body ∙ ap (λ n. n ∷ codes_of (join f (Grown c.1 e.0))) (sym is.past.same)))),
            );
      }

  -- the rule of an item and the empty trees before its place
  front_written : (tables : Tables) (x : Item) (p : Production) → All (HasEmpty tables.empties.items) (take x.place p.right) → (rules : List ℕ) → WritesAll g tokens chart (Rule x.rule ∷ empty_tasks (take x.place p.right)) rules
      → (f : Forest) × AreTrees g (take x.place p.right) f × (yields f ≡ []) × (rules ≡ x.rule ∷ codes_of f)
  front_written tables x p all rules w =
      let f = empties_written tables.empties.items (take x.place p.right) all w.1 w.3 in
      (f.0, f.1, f.2, w.4 ∙ (ap (λ (l : List ℕ). l ++ w.1) w.2 ∙ ap (λ (l : List ℕ). x.rule ∷ l) f.3))

  front_there : (tables : Tables) (x : Item) (p : Production) → All (HasEmpty tables.empties.items) (take x.place p.right) → All (IsTask g tables chart) (Rule x.rule ∷ empty_tasks (take x.place p.right))
  front_there tables x p all = All-cons (IsTask g tables chart) (Rule x.rule) (empty_tasks (take x.place p.right)) tt (empties_there tables (take x.place p.right) all)

  front_few : (x : Item) (p : Production) → length p.right ≤ 128 → length (Rule x.rule ∷ empty_tasks (take x.place p.right)) ≤ 130
  front_few x p short = (let few = empties_few (take x.place p.right) in let long = length-take x.place p.right in omega arith)

  pub front_taken : (tables : Tables) (grammar : IsGrammar g) (empties : AreEmpties g tables.empties.items) (rounds : AreRounds g tables.empties.items tables.rounds.items) (x : Item) (from at : ℕ) (old new : List Task) → (left : LeavesFront g x old new) → from ≡ at → All (HasEmpty tables.empties.items) (take x.place left.rule.right) → IsTaken g tokens tables chart (Trees x from at) None old new
  front_taken tables grammar empties rounds x from at old new left here all = record {
    more = Rule x.rule ∷ empty_tasks (take x.place left.rule.right);
    grown = left.grown;
    few = front_few x left.rule (IsRuleOf-rule g x.rule left.rule grammar left.number).short;
    lower =
        let limit = rank_of tables.rounds.items (Trees x from at) in
        let size = empties.size in
        let most = grammar.nonterminals in
        All-cons (λ t. rank_of tables.rounds.items t < limit) (Rule x.rule) (empty_tasks (take x.place left.rule.right)) (omega arith)
        (any_lower tables.empties.items tables.rounds.items limit (take x.place left.rule.right) rounds (omega arith) all);
    tasks = front_there tables x left.rule all;
    writes = λ rules w.
        let f = front_written tables x left.rule all rules w in (
          f.0,
          record {
            rule = left.rule;
            number = left.number;
            are = f.1;
            between = ap (λ n. drop n tokens) here ∙ ap (λ (l : List ℕ). l ++ drop at tokens) (sym f.2);
          },
          append-nil rules ∙ f.3,
        );
  }

  pub empty_taken : (tables : Tables) (grammar : IsGrammar g) (rounds : AreRounds g tables.empties.items tables.rounds.items) (a : ℕ) (x : Item) (old new : List Task) → (left : LeavesFront g x old new) → slice_get tables.empties.items a ≡ Some x.rule → IsKeptRule g tables.empties.items a x.rule → x.place ≡ length left.rule.right → IsTaken g tokens tables chart (Empty a) None old new
  empty_taken tables grammar rounds a x old new left at kept end =
      let one : kept.rule ≡ left.rule = one_rule g x.rule x.rule kept.rule left.rule refl kept.number left.number in
      let whole : take x.place left.rule.right ≡ left.rule.right = take_all x.place left.rule.right (omega arith) in
      let right : All (HasEmpty tables.empties.items) left.rule.right = subst (λ (q : Production). All (HasEmpty tables.empties.items) q.right) one kept.all in
      let all : All (HasEmpty tables.empties.items) (take x.place left.rule.right) = subst (λ (l : List Symbol). All (HasEmpty tables.empties.items) l) (sym whole) right in
      let left_is : left.rule.left ≡ a = ap (λ (q : Production). q.left) (sym one) ∙ kept.left in
      record {
        more = Rule x.rule ∷ empty_tasks (take x.place left.rule.right);
        grown = left.grown;
        few = front_few x left.rule (IsRuleOf-rule g x.rule left.rule grammar left.number).short;
        lower =
            let limit = rank_of tables.rounds.items (Empty a) in
            let round = slice_index tables.rounds.items a in
            let before : All (IsFoundBefore tables.rounds.items round) left.rule.right = rounds.earlier a x.rule left.rule at kept.number.above_zero left.number in
            let front : All (IsFoundBefore tables.rounds.items round) (take x.place left.rule.right) = subst (λ (l : List Symbol). All (IsFoundBefore tables.rounds.items round) l) (sym whole) before in
            All-cons (λ t. rank_of tables.rounds.items t < limit) (Rule x.rule) (empty_tasks (take x.place left.rule.right)) (omega arith)
            (empties_lower tables.rounds.items round limit (take x.place left.rule.right) (omega arith) front);
        tasks = front_there tables x left.rule all;
        writes = λ rules w.
            let f = front_written tables x left.rule all rules w in
            (Node x.rule f.0, (left.rule, left.number, ap Nonterminal (sym left_is), subst (λ (l : List Symbol). AreTrees g l f.0) whole f.1), f.2, append-nil rules ∙ f.3);
      }

  -- the trees of a whole rule are the tree of a span
  pub tree_taken : (tables : Tables) (limit : ℕ) (x : Item) (n at : ℕ) (p : Position) (s : Span) (old new : List Task) → slice_get chart at ≡ Some p → slice_get p.spans.items n ≡ Some s → IsDone g x s.nonterminal
      → IsTakenBelow g tokens tables chart limit (Trees x s.from at) None old new → IsTakenBelow g tokens tables chart limit (TreeOf n at) None old new
  tree_taken tables limit x n at p s old new at_p at_s done taken = record {
    more = taken.more;
    grown = taken.grown;
    few = taken.few;
    lower = taken.lower;
    tasks = taken.tasks;
    writes = λ rules w.
        let h = taken.writes rules w in
        let one : h.1.rule ≡ done.rule = one_rule g x.rule x.rule h.1.rule done.rule refl h.1.number done.number in
        let whole : take x.place done.rule.right ≡ done.rule.right = take_all x.place done.rule.right (let end = done.whole in omega arith) in
        let front : AreTrees g (take x.place done.rule.right) h.0 = subst (λ (q : Production). AreTrees g (take x.place q.right) h.0) one h.1.are in
        let are : AreTrees g done.rule.right h.0 = subst (λ (l : List Symbol). AreTrees g l h.0) whole front in
        (p, s, Node x.rule h.0, at_p, at_s, ((done.rule, done.number, ap Nonterminal (sym done.left), are), h.1.between), h.2);
  }

  -- the rules of the tasks that are left, before those that are written
  pub task_taken : (tables : Tables) (task last : Task) (written : Option ℕ) (pending rest new : List Task) (backwards : List ℕ) → pending ≡ rest ++ last ∷ [] → IsTaken g tokens tables chart last written rest new
      → ((rules : List ℕ) → WritesAll g tokens chart pending rules → Writes g tokens chart task (rules ++ reverse backwards))
      → (rules : List ℕ) → WritesAll g tokens chart new rules → Writes g tokens chart task (rules ++ reverse (backwards ++ option_to_list written))
  task_taken tables task last written pending rest new backwards is taken before rules w =
      let parts = writes_split rest taken.more rules (subst (λ (l : List Task). WritesAll g tokens chart l rules) taken.grown w) in
      let one = taken.writes parts.1 parts.3 in
      let all = writes_push rest last parts.0 (parts.1 ++ option_to_list written) parts.2 one in
      let whole = before (parts.0 ++ (parts.1 ++ option_to_list written)) (subst (λ (l : List Task). WritesAll g tokens chart l (parts.0 ++ (parts.1 ++ option_to_list written))) (sym is) all) in
      let turned : reverse (backwards ++ option_to_list written) ≡ option_to_list written ++ reverse backwards = reverse-append backwards (option_to_list written) ∙ ap (λ (l : List ℕ). l ++ reverse backwards) (reverse_option written) in
      let same : (parts.0 ++ (parts.1 ++ option_to_list written)) ++ reverse backwards ≡ rules ++ reverse (backwards ++ option_to_list written) =
      append_assoc parts.0 (parts.1 ++ option_to_list written) (reverse backwards)
      ∙ (ap (λ (l : List ℕ). parts.0 ++ l) (append_assoc parts.1 (option_to_list written) (reverse backwards))
      ∙ (sym (append_assoc parts.0 parts.1 (option_to_list written ++ reverse backwards))
      ∙ (ap (λ (l : List ℕ). l ++ (option_to_list written ++ reverse backwards)) (sym parts.4) ∙ ap (λ (l : List ℕ). rules ++ l) (sym turned)))) in
      subst (λ (l : List ℕ). Writes g tokens chart task l) same whole

-- what is left on the way back, one after another
pub back_grown : (old mid new cs es : List Task) (task : Task) → mid ≡ (old ++ task ∷ []) ++ cs → new ≡ mid ++ es → new ≡ old ++ (task ∷ (cs ++ es))
back_grown old mid new cs es task first second =
    second ∙ (ap (λ (l : List Task). l ++ es) first ∙ (append_assoc (old ++ task ∷ []) cs es ∙ append_assoc old (task ∷ []) (cs ++ es)))

pub no_child_task : (at : ℕ) (o : Option ℕ) → ((n : ℕ) → o ≡ Some n → ⊥) → child_tasks at o ≡ []
no_child_task at None never = refl
no_child_task at (Some n) never = absurd (never n refl)

child_awaited : (g : PlainGrammar) (tokens : List ℕ) (chart : List Position) (x : Item) (begin at : ℕ) (child : Option ℕ) → HasChild g tokens chart x begin at child → (s : Symbol) × Awaits g x s
child_awaited g tokens chart x begin at None h = (Token h.0, h.3)
child_awaited g tokens chart x begin at (Some m) h = (Nonterminal h.1.nonterminal, h.5)

-- what is found lies within its rule
pub found_within : (g : PlainGrammar) (tokens : List ℕ) (chart : List Position) (at from : ℕ) (child : Option ℕ) (back : Back) (p : Production) → IsBack g tokens chart at from child back → IsRule g back.found.rule p → back.found.place ≤ length p.right
found_within g tokens chart at from child back p is number =
    let x = back.before in
    let y = back.found in
    let first : IsRule g x.rule p = subst (λ n. IsRule g n p) is.past.same number in
    let low = is.past.low in
    elim (cases_eq y.place (x.place + 1)) [
      | inl same ↦
          let s = child_awaited g tokens chart x back.begin at child is.awaits in
          let one : s.1.rule ≡ p = one_rule g x.rule x.rule s.1.rule p refl s.1.number first in
          let lt = slice_get_within s.1.rule.right x.place s.0 s.1.at in
          let long = ap (λ (q : Production). length q.right) one in
          omega arith
      | inr other ↦
          let bare = is.past.bare (y.place - 1) (omega arith) (omega arith) in
          let w = bare.1 in
          let one : w.rule ≡ p = one_rule g x.rule x.rule w.rule p refl w.number first in
          let lt = slice_get_within w.rule.right (y.place - 1) (Nonterminal bare.0) w.at in
          let long = ap (λ (q : Production). length q.right) one in
          omega arith
    ]

-- the symbols before a front have empty trees
pub front_empties : (g : PlainGrammar) (empties : List ℕ) (a : ℕ) (x : Item) (p : Production) → IsGrammar g → IsRule g x.rule p → AreEmpties g empties → IsFront g a x → All (HasEmpty empties) (take x.place p.right)
front_empties g empties a x p grammar number is front =
    all_from (HasEmpty empties) (take x.place p.right)
    (λ k s at.
    let lt = slice_get_within (take x.place p.right) k s at in
    let long = length-take x.place p.right in
    let bare = front.bare k (omega arith) in
    let same : front.rule ≡ p = one_rule g x.rule x.rule front.rule p refl front.number number in
    let there : slice_get p.right k ≡ Some (Nonterminal bare.0) = subst (λ (q : Production). slice_get q.right k ≡ Some (Nonterminal bare.0)) same bare.1 in
    let one : Nonterminal bare.0 ≡ s = same_Some (Nonterminal bare.0) s (sym there ∙ at_from_take p.right x.place k s at) in
    let low = (All-at (IsSymbol g.tokens g.nonterminals) p.right k (Nonterminal bare.0) (IsRuleOf-rule g x.rule p grammar number).right there).1 in
    subst (λ (t : Symbol). HasEmpty empties t) one (kept_empty g empties bare.0 is low bare.2))

-- the first task, and no more
pub first_task : (g : PlainGrammar) (tokens : List ℕ) (chart : List Position) (task : Task) (pending : List Task) (backwards : List ℕ) → pending ≡ task ∷ [] → backwards ≡ [] → (rules : List ℕ) → WritesAll g tokens chart pending rules → Writes g tokens chart task (rules ++ reverse backwards)
first_task g tokens chart task pending backwards is none rules w =
    let h = subst (λ (l : List Task). WritesAll g tokens chart l rules) is w in
    let same : rules ≡ h.0 = h.4 ∙ (ap (λ (l : List ℕ). h.0 ++ l) h.3 ∙ append-nil h.0) in
    let all : rules ++ reverse backwards ≡ h.0 = ap (λ (l : List ℕ). rules ++ reverse l) none ∙ (append-nil rules ∙ same) in
    subst (λ (l : List ℕ). Writes g tokens chart task l) (sym all) h.2

pub no_task : (g : PlainGrammar) (tokens : List ℕ) (chart : List Position) (task : Task) (pending : List Task) (backwards : List ℕ) → pending ≡ [] → ((rules : List ℕ) → WritesAll g tokens chart pending rules → Writes g tokens chart task (rules ++ reverse backwards)) → Writes g tokens chart task (reverse backwards)
no_task g tokens chart task pending backwards none all = all [] (subst (λ (l : List Task). WritesAll g tokens chart l []) (sym none) refl)

pub nothing_popped : (tasks : List Task) → length tasks ≡ 0 → tasks ≡ []
nothing_popped [] none = refl
nothing_popped (t ∷ ts) none = absurd (omega arith)

pub no_tokens : (tokens : List ℕ) → length tokens ≡ 0 → tokens ≡ []
no_tokens [] none = refl
no_tokens (t ∷ ts) none = absurd (omega arith)

-- a child's number is small
pub child_small : (g : PlainGrammar) (tokens : List ℕ) (chart : List Position) (x : Item) (begin at m : ℕ) (child : Option ℕ) → HasChild g tokens chart x begin at child → child ≡ Some m → m < 2 ^ 63
child_small g tokens chart x begin at m None h is = absurd cc
child_small g tokens chart x begin at m (Some n) h is =
    let lt = slice_get_within h.0.spans.items n h.1 h.3 in
    let ok = h.0.spans.ok in
    let small = h.0.spans.small in
    let same = same_Some n m is in
    omega arith

-- the tree of the whole list
module _ (g : PlainGrammar) (tokens : List ℕ) (tables : Tables) (chart : List Position) where
  pub whole_tree : (at n : ℕ) (p : Position) (s : Span) → at ≡ length tokens → slice_get chart at ≡ Some p → slice_get p.spans.items n ≡ Some s → s.nonterminal ≡ g.start → s.from ≡ 0 → IsWhole g tokens tables chart (TreeOf n at)
  whole_tree at n p s last at_p at_s start from = record {
    there = (p, at_p, slice_get_within p.spans.items n s at_s);
    yields = λ rules w.
        let one : w.0 ≡ p = same_Some w.0 p (sym w.3 ∙ at_p) in
        let same : w.1 ≡ s = same_Some w.1 s (sym w.4 ∙ (ap (λ (q : Position). slice_get q.spans.items n) one ∙ at_s)) in
        let nonterminal : w.1.nonterminal ≡ g.start = ap (λ (u : Span). u.nonterminal) same ∙ start in
        let begin : w.1.from ≡ 0 = ap (λ (u : Span). u.from) same ∙ from in
        record {
          tree = w.2;
          is_tree = subst (λ a. IsTree g (Nonterminal a) w.2) nonterminal w.5.0;
          code = w.6;
          yield = ap (λ k. drop k tokens) (sym begin) ∙ (w.5.1 ∙ (ap (λ (l : List ℕ). yield w.2 ++ l) (drop_all at tokens (omega arith)) ∙ append-nil (yield w.2)));
        };
  }

  pub whole_empty : length tokens ≡ 0 → HasEmpty tables.empties.items (Nonterminal g.start) → IsWhole g tokens tables chart (Empty g.start)
  whole_empty none empty = record {
    there = empty;
    yields = λ rules w. record { tree = w.0; is_tree = w.1; code = w.3; yield = no_tokens tokens none ∙ sym w.2 };
  }
