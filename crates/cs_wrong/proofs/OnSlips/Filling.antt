-- What the rule numbers of a context and of trees in its hole lead to.
use Rattle.std.proofs.Common.{◌≡◌, ℕ, ◌-◌, List, [], ◌∷◌, ◌++◌, map, refl, sym, ap, ◌∙◌, subst, append_assoc, append-nil}
use Rattle.std.specs.Prelude.{All}
use Rattle.std.proofs.lemmas.List.Elements.{All-append, All-cons, All-head, All-nil, All-tail}
use Rattle.cs_grammar.proofs.Forests.{AreTrees-join, codes_of-join, yields-join}
use Rattle.cs_grammar.proofs.Leading.{derives_more}
use Rattle.cs_grammar.proofs.OneAnswer.{derives_forest, one_form, same_form}
use Rattle.cs_grammar.specs.Context.{Context, Hole, IsContext, Under, code_after, code_before, join, plug}
use Rattle.cs_grammar.specs.Grammar.{IsGrammar, IsNumberOf, IsSymbolOf, PlainGrammar}
use Rattle.cs_grammar.specs.Leftmost.{Derives, form, from_start}
use Rattle.cs_grammar.specs.Tree.{AreTrees, Bare, Forest, Grown, Node, Tree, codes_of, yield, yields}
use Rattle.cs_grammar.specs.declared.symbol.Symbol.{Symbol}
use Rattle.cs_grammar.specs.declared.symbol.Symbol.TheVariants.{Token, Nonterminal}
use Rattle.cs_least.proofs.OnCost.Rules.{well_formed_at}
use Rattle.cs_wrong.specs.Slips.Found.{Fills}

-- one derivation behind another
pub derives_then : (g : PlainGrammar) (a b : List ℕ) (xs ys zs : List Symbol) → Derives g xs a ys → Derives g ys b zs → Derives g xs (a ++ b) zs
derives_then g [] b xs ys zs first second = subst (λ (l : List Symbol). Derives g l b zs) (sym first) second
derives_then g (r ∷ a) b xs ys zs first second =
    (first.0, first.1, first.2, first.3, first.4, derives_then g a b (map Token first.1 ++ (first.0.right ++ first.2)) ys zs first.5 second)

-- the rules of trees lead to what they yield
pub forest_leads : (g : PlainGrammar) (f : Forest) (xs : List Symbol) (done : List ℕ) (rest : List Symbol) → AreTrees g xs f → Derives g (map Token done ++ (xs ++ rest)) (codes_of f) (map Token (done ++ yields f) ++ rest)
forest_leads g f xs done rest are =
    let there = derives_forest g [] (map Token (done ++ yields f) ++ rest) f xs done rest [] are refl in
    subst (λ (l : List ℕ). Derives g (map Token done ++ (xs ++ rest)) l (map Token (done ++ yields f) ++ rest)) (append-nil (codes_of f)) there

-- the rules before the hole of a context lead to it; those behind it are of trees of the symbols that stand behind
pub record Opened (g : PlainGrammar) (b : Symbol) (c : Context) : Type 0 where
  pub done : List ℕ
  pub rest : List Symbol
  pub trees : Forest
  pub leads : Derives g (from_start g) (code_before c) (map Token done ++ b ∷ rest)
  pub are : AreTrees g rest trees
  pub codes : codes_of trees ≡ code_after c
  pub yields_so : (t : Tree) → yield (plug c t) ≡ done ++ yield t ++ yields trees

regroup : (done l t r f : List ℕ) → done ++ (l ++ (t ++ r)) ++ f ≡ (done ++ l) ++ t ++ (r ++ f)
regroup done l t r f = simp append_assoc

pub opened : (g : PlainGrammar) (c : Context) (b : Symbol) → IsContext g b c → Opened g b c
opened g Hole b is = record {
  done = [];
  rest = [];
  trees = Bare;
  leads = ap (λ (x : Symbol). x ∷ []) (sym is);
  are = tt;
  codes = refl;
  yields_so = λ t. sym (append-nil (yield t));
}
opened g (Under outer r left right) b is =
    let p = is.0 in
    let xs = is.1 in
    let ys = is.2 in
    let o = opened g outer (Nonterminal p.left) is.7 in
    let to_rule = derives_more g (code_before outer) (from_start g) o.done o.rest r p is.3 o.leads in
    let shape : p.right ++ o.rest ≡ xs ++ (b ∷ (ys ++ o.rest)) = ap (λ (l : List Symbol). l ++ o.rest) is.4 ∙ append_assoc xs (b ∷ ys) o.rest in
    let at_rule = subst (λ (l : List Symbol). Derives g (from_start g) (code_before outer ++ r ∷ []) (map Token o.done ++ l)) shape to_rule in
    let lefts = forest_leads g left xs o.done (b ∷ (ys ++ o.rest)) is.5 in
    let all = derives_then g (code_before outer ++ r ∷ []) (codes_of left) (from_start g) (map Token o.done ++ (xs ++ (b ∷ (ys ++ o.rest)))) (map Token (o.done ++ yields left) ++ b ∷ (ys ++ o.rest)) at_rule lefts in
    record {
      done = o.done ++ yields left;
      rest = ys ++ o.rest;
      trees = join right o.trees;
      leads = subst (λ (l : List ℕ). Derives g (from_start g) l (map Token (o.done ++ yields left) ++ b ∷ (ys ++ o.rest))) (append_assoc (code_before outer) (r ∷ []) (codes_of left)) all;
      are = AreTrees-join g right o.trees ys o.rest is.6 o.are;
      codes = codes_of-join right o.trees ∙ ap (λ (l : List ℕ). codes_of right ++ l) o.codes;
      yields_so = λ t.
          o.yields_so (Node r (join left (Grown t right)))
          ∙ ap (λ (l : List ℕ). o.done ++ l ++ yields o.trees) (yields-join left (Grown t right))
          ∙ regroup o.done (yields left) (yield t) (yields right) (yields o.trees)
          ∙ ap (λ (l : List ℕ). (o.done ++ yields left) ++ yield t ++ l) (sym (yields-join right o.trees));
    }

-- with trees of other symbols in the hole
pub filled : (g : PlainGrammar) (c : Context) (left : ℕ) (symbols : List Symbol) (f : Forest) (r : ℕ) → IsContext g (Nonterminal left) c → AreTrees g symbols f
    → Fills g (code_before c) symbols (codes_of f ++ code_after c) (yield (plug c (Node r f)))
filled g c left symbols f r around are =
    let o = opened g c (Nonterminal left) around in
    let first = forest_leads g f symbols o.done o.rest are in
    let second = forest_leads g o.trees o.rest (o.done ++ yields f) [] o.are in
    let ended = append-nil o.rest in
    let from = subst (λ (l : List Symbol). Derives g (map Token (o.done ++ yields f) ++ l) (codes_of o.trees) (map Token (o.done ++ yields f ++ yields o.trees) ++ [])) ended second in
    let both = derives_then g (codes_of f) (codes_of o.trees) (map Token o.done ++ (symbols ++ o.rest)) (map Token (o.done ++ yields f) ++ o.rest) (map Token (o.done ++ yields f ++ yields o.trees) ++ []) first from in
    let ends = subst (λ (l : List Symbol). Derives g (map Token o.done ++ (symbols ++ o.rest)) (codes_of f ++ codes_of o.trees) l) (append-nil (map Token (o.done ++ yields f ++ yields o.trees))) both in
    let coded = subst (λ (l : List ℕ). Derives g (map Token o.done ++ (symbols ++ o.rest)) (codes_of f ++ l) (map Token (o.done ++ yields f ++ yields o.trees))) o.codes ends in
    record {
      done = o.done;
      left = left;
      rest = o.rest;
      to_hole = o.leads;
      to_end = subst (λ (l : List ℕ). Derives g (map Token o.done ++ (symbols ++ o.rest)) (codes_of f ++ code_after c) (map Token l)) (sym (o.yields_so (Node r f))) coded;
    }

pub same_tokens : (a b : List ℕ) → map Token a ≡ map Token b → a ≡ b
same_tokens [] [] e = refl
same_tokens [] (y ∷ b) e = absurd cc
same_tokens (x ∷ a) [] e = absurd cc
same_tokens (x ∷ a) (y ∷ b) e =
    let tail : map Token a ≡ map Token b = cc in
    let rest = same_tokens a b tail in
    let head : x ≡ y = cc in
    cc

-- what they lead to is one list
pub one_filling : (g : PlainGrammar) (before : List ℕ) (symbols : List Symbol) (rules a b : List ℕ) → Fills g before symbols rules a → Fills g before symbols rules b → a ≡ b
one_filling g before symbols rules a b h k =
    let same = same_form h.done k.done h.left k.left h.rest k.rest (one_form g before (from_start g) (from_start g) (form h.done h.left h.rest) (form k.done k.left k.rest) refl h.to_hole k.to_hole) in
    let begin : map Token h.done ++ (symbols ++ h.rest) ≡ map Token k.done ++ (symbols ++ k.rest) =
    ap (λ (l : List ℕ). map Token l ++ (symbols ++ h.rest)) same.done ∙ ap (λ (l : List Symbol). map Token k.done ++ (symbols ++ l)) same.rest in
    same_tokens a b (one_form g rules (map Token h.done ++ (symbols ++ h.rest)) (map Token k.done ++ (symbols ++ k.rest)) (map Token a) (map Token b) begin h.to_end k.to_end)

-- ---- symbols of the grammar

module _ {X : Type 0} (P : X → Type 0) where
  pub all_left : (xs ys : List X) → All P (xs ++ ys) → All P xs
  all_left [] ys h = All-nil P
  all_left (x ∷ xs) ys h = All-cons P x xs (All-head P x (xs ++ ys) h) (all_left xs ys (All-tail P x (xs ++ ys) h))

  pub all_right : (xs ys : List X) → All P (xs ++ ys) → All P ys
  all_right [] ys h = h
  all_right (x ∷ xs) ys h = all_right xs ys (All-tail P x (xs ++ ys) h)

-- what symbols of the grammar lead to are such ones
pub leads_within : (g : PlainGrammar) → IsGrammar g → (rules : List ℕ) (xs ys : List Symbol) → All (IsSymbolOf g) xs → Derives g xs rules ys → All (IsSymbolOf g) ys
leads_within g is [] xs ys all h = subst (λ (l : List Symbol). All (IsSymbolOf g) l) h all
leads_within g is (r ∷ rules) xs ys all h =
    let p = h.0 in
    let there = subst (λ (l : List Symbol). All (IsSymbolOf g) l) h.4 all in
    let dones = all_left (IsSymbolOf g) (map Token h.1) (Nonterminal p.left ∷ h.2) there in
    let rests = All-tail (IsSymbolOf g) (Nonterminal p.left) h.2 (all_right (IsSymbolOf g) (map Token h.1) (Nonterminal p.left ∷ h.2) there) in
    let rights = (well_formed_at g (r - 1) p is h.3.at).right in
    leads_within g is rules (map Token h.1 ++ (p.right ++ h.2)) ys
    (All-append (IsSymbolOf g) (map Token h.1) (p.right ++ h.2) dones (All-append (IsSymbolOf g) p.right h.2 rights rests)) h.5

pub tokens_within : (g : PlainGrammar) (tokens : List ℕ) → All (IsSymbolOf g) (map Token tokens) → All (IsNumberOf g.tokens) tokens
tokens_within g [] h = All-nil (IsNumberOf g.tokens)
tokens_within g (t ∷ tokens) h =
    All-cons (IsNumberOf g.tokens) t tokens (All-head (IsSymbolOf g) (Token t) (map Token tokens) h) (tokens_within g tokens (All-tail (IsSymbolOf g) (Token t) (map Token tokens) h))

-- what they lead to with symbols of the grammar in the hole are its tokens
pub filled_within : (g : PlainGrammar) → IsGrammar g → (before : List ℕ) (symbols : List Symbol) (rules tokens : List ℕ) → All (IsSymbolOf g) symbols → Fills g before symbols rules tokens → All (IsNumberOf g.tokens) tokens
filled_within g is before symbols rules tokens all h =
    let start = All-cons (IsSymbolOf g) (Nonterminal g.start) [] is.start (All-nil (IsSymbolOf g)) in
    let hole = leads_within g is before (from_start g) (form h.done h.left h.rest) start h.to_hole in
    let dones = all_left (IsSymbolOf g) (map Token h.done) (Nonterminal h.left ∷ h.rest) hole in
    let rests = All-tail (IsSymbolOf g) (Nonterminal h.left) h.rest (all_right (IsSymbolOf g) (map Token h.done) (Nonterminal h.left ∷ h.rest) hole) in
    tokens_within g tokens (leads_within g is rules (map Token h.done ++ (symbols ++ h.rest)) (map Token tokens)
    (All-append (IsSymbolOf g) (map Token h.done) (symbols ++ h.rest) dones (All-append (IsSymbolOf g) symbols h.rest all rests)) h.to_end)
