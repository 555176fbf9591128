-- A code that is put into the table of codes, and what is known of goals then.
use Rattle.std.proofs.Common.{◌≡◌, ℕ, ◌+◌, Bool, true, false, not, List, [], ◌∷◌, ◌++◌, map, take, length, refl, sym, ap, ◌∙◌, subst}
use Rattle.std.specs.Prelude.{Result, Ok, Err, OnOk, is_err}
use Rattle.std.specs.List.{list_any, position_or_len}
use Rattle.std.proofs.lemmas.Bool.{false≢true}
use Rattle.std.proofs.lemmas.List.{length-map, take_at}
use Rattle.indexmap.specs.IndexSet.{insert_key}
use Rattle.cs_grammar.specs.Grammar.{PlainGrammar}
use Rattle.cs_grammar.specs.Leftmost.{IsYield}
use Rattle.cs_goals.specs.declared.goal.Goal.{Goal}
use Rattle.cs_goals.specs.declared.goal.Goal.TheVariants.{Rule}
use Rattle.cs_verdicts.specs.declared.cases.code.Code.{Code}
use Rattle.cs_verdicts.specs.contracts.cases.code.CodePartialEq.TheImpl as derived
use Rattle.cs_verdicts.specs.Cases.Cases.{PlainCases}
use Rattle.cs_verdicts.specs.Cases.Met.{AreContexts, AreInsideAdded, AreMetAdded, framed_pairs}
use Rattle.cs_verdicts.specs.Cases.Table.{AreAllAdded, AreFirstCases, IsGrown, IsOwn, codes_in}
use Rattle.cs_verdicts.proofs.OnCases.Adding.{added_both}
use Rattle.cs_verdicts.proofs.OnCases.Keyed.{codes_in-push, insert_known, insert_new, is_code, last_number, new_code, own_number}
use Rattle.cs_verdicts.proofs.OnCases.Listed.{all_met}
use Rattle.cs_verdicts.proofs.OnCases.Lowest.{known_own, new_own, tells_more}

-- ---- results

pub OnOk_then : {A E P Q : Type 0} (r : Result A E) → (P → Q) → OnOk r P → OnOk r Q
OnOk_then (Ok a) f h = f h
OnOk_then (Err e) f h = h

pub on_ok : {A E P : Type 0} (r : Result A E) → is_err r ≡ false → OnOk r P → P
on_ok (Ok a) fine h = h
on_ok (Err e) fine h = absurd (false≢true (sym fine))

-- ---- goals

-- all goals that the tree meets: its rules and contexts, and its pairs
behind_rules : (g : PlainGrammar) (rules : List ℕ) (front contexts : List Goal) → AreContexts g rules [] contexts → AreContexts g rules front (front ++ contexts)
behind_rules g rules front contexts are = record {
  tree = are.tree;
  is_tree = are.is_tree;
  of_code = are.of_code;
  behind = ap (λ (l : List Goal). front ++ l) are.behind;
}

pub all_added : (g : PlainGrammar) (rules tokens : List ℕ) (n : ℕ) (old mid new : List (Goal × ℕ)) → IsYield g rules tokens → AreInsideAdded g rules n old mid → AreAllAdded mid (framed_pairs tokens) n new → AreMetAdded g rules n old new
all_added g rules tokens n old mid new yields inside pairs =
    let front = map Rule rules ++ inside.contexts in
    record {
      goals = front ++ framed_pairs tokens;
      are = all_met g rules tokens (front ++ framed_pairs tokens) front (behind_rules g rules (map Rule rules) inside.contexts inside.are) yields refl;
      added = added_both old mid new front (framed_pairs tokens) n inside.added pairs;
    }

-- what was there before goals were added
pub cut_back : (old new left : List (Goal × ℕ)) (n : ℕ) → n ≡ length old → IsGrown old new → left ≡ take n new → left ≡ old
cut_back old new left n long grown cut = cut ∙ ap (λ (l : List (Goal × ℕ)). take n l) grown.1 ∙ take_at old grown.0 n (sym long)

-- ---- codes

abbrev pub plain : PlainGrammar → List Code → PlainCases
plain g keys = record { grammar = g; codes = codes_in keys }

not_false : (b : Bool) → not b ≡ false → b ≡ true
not_false true e = refl
not_false false e = absurd (false≢true (sym e))

not_true : (b : Bool) → not b ≡ true → b ≡ false
not_true true e = absurd (false≢true e)
not_true false e = refl

module _ (g : PlainGrammar) (keys new : List Code) (v : Code) (index : ℕ) (fresh : Bool) (added : fresh ≡ not (list_any (is_code v) keys)) (put : new ≡ insert_key derived.eq-value.it keys v) (at : index ≡ position_or_len (is_code v) keys) where
  abbrev code : List ℕ
  code = v.rules.items

  there : fresh ≡ false → list_any (is_code v) keys ≡ true
  there e = not_false (list_any (is_code v) keys) (sym added ∙ e)

  absent : fresh ≡ true → list_any (is_code v) keys ≡ false
  absent e = not_true (list_any (is_code v) keys) (sym added ∙ e)

  pub placed_known : fresh ≡ false → IsOwn (plain g keys) code (plain g new) (index + 1, false)
  placed_known e =
      let has = there e in
      subst (λ (ks : List Code). IsOwn (plain g keys) code (plain g ks) (index + 1, false)) (sym (put ∙ insert_known v keys has))
      (subst (λ i. IsOwn (plain g keys) code (plain g keys) (i + 1, false)) (sym at) (known_own (plain g keys) code (position_or_len (is_code v) keys + 1) (own_number v keys has)))

  -- the code is new
  module _ (is_new : fresh ≡ true) where
    grown_keys : new ≡ keys ++ v ∷ []
    grown_keys = put ∙ insert_new v keys (absent is_new)

    grown_codes : codes_in new ≡ codes_in keys ++ code ∷ []
    grown_codes = ap codes_in grown_keys ∙ codes_in-push keys v

    last_index : index ≡ length keys
    last_index = at ∙ last_number v keys (absent is_new)

    last_code : index + 1 ≡ length (codes_in keys) + 1
    last_code = ap (λ n. n + 1) (last_index ∙ sym (length-map keys (λ (w : Code). w.rules.items)))

    pub placed_new : IsOwn (plain g keys) code (plain g new) (index + 1, true)
    placed_new =
        new_own (plain g keys) (plain g new) code (index + 1) (new_code v keys (absent is_new)) (ap (λ (codes : List (List ℕ)). record { grammar = g; codes = codes }) grown_codes) last_code

    pub tells_new : (firsts after : List (Goal × ℕ)) → AreFirstCases g (codes_in keys) firsts → AreMetAdded g code (index + 1) firsts after → AreFirstCases g (codes_in new) after
    tells_new firsts after tells met =
        subst (λ (codes : List (List ℕ)). AreFirstCases g codes after) (sym grown_codes) (tells_more g (codes_in keys) firsts after code met.goals (index + 1) last_code tells met.are met.added)

    pub taken_back : (left : List Code) → left ≡ take index new → left ≡ keys
    taken_back left cut = cut ∙ ap (λ (ks : List Code). take index ks) grown_keys ∙ take_at keys (v ∷ []) index (sym last_index)
