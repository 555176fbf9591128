-- One rule more.
use Rattle.std.proofs.Common.{◌≡◌, ℕ, ◌+◌, ◌<◌, List, [], ◌∷◌, ◌++◌, suc, refl, sym, ap, ◌∙◌, subst, arith, length, map, take, drop, get_or, add-one}
use Rattle.std.proofs.lemmas.List.{take_more}
use Rattle.std.proofs.Math.Seq.{drop-cons}
use Rattle.cs_pattern_parts.specs.declared.tree.pattern.Pattern.{Pattern}
use Rattle.cs_pattern_parts.specs.Tree.Pattern.{Regex, regex}
use Rattle.cs_scanner.specs.declared.automaton.program.Rule.{Rule}
use Rattle.cs_scanner.specs.Automaton.Meaning.{re, res, classes, all_classes}
use Rattle.cs_scanner.specs.Automaton.Places.{letters, all_letters}
use Rattle.cs_scanner.specs.Automaton.Programs.{IsRule, AreRules}

map_push : (ps : List Pattern) (p : Pattern) → map regex (ps ++ p ∷ []) ≡ map regex ps ++ regex p ∷ []
map_push [] p = refl
map_push (q ∷ ps) p = ap (λ t. regex q ∷ t) (map_push ps p)

rules_push : (rules : List Rule) (rule : Rule) (from : ℕ) (rs : List Regex) (r : Regex) → AreRules rules from rs → IsRule rule (from + all_letters (res rs)) r → AreRules (rules ++ rule ∷ []) from (rs ++ r ∷ [])
rules_push [] rule from [] r h is = let e : from + 0 ≡ from = omega arith in (subst (λ n. IsRule rule n r) e is, tt)
rules_push [] rule from (s ∷ rs) r h is = absurd h
rules_push (q ∷ rules) rule from [] r h is = absurd h
rules_push (q ∷ rules) rule from (s ∷ rs) r h is =
    let e : from + (letters (re s) + all_letters (res rs)) ≡ from + letters (re s) + all_letters (res rs) = omega arith in
    (h.0, rules_push rules rule (from + letters (re s)) rs r h.1 (subst (λ n. IsRule rule n r) e is))

letters_push : (rs : List Regex) (r : Regex) → all_letters (res (rs ++ r ∷ [])) ≡ all_letters (res rs) + letters (re r)
letters_push [] r = omega arith
letters_push (s ∷ rs) r = omega (arith, letters_push rs r)

-- a pattern more of the front
pub front_more : (ps : List Pattern) (i : ℕ) (p : Pattern) → i < length ps → p ≡ get_or ps i p → map regex (take (i + 1) ps) ≡ map regex (take i ps) ++ regex p ∷ []
front_more ps i p lt is = ap (map regex) (take_more ps i p lt) ∙ map_push (take i ps) (get_or ps i p) ∙ ap (λ t. map regex (take i ps) ++ regex t ∷ []) (sym is)

pub rules_more : (rules : List Rule) (rule : Rule) (ps : List Pattern) (i n : ℕ) (p : Pattern) → i < length ps → p ≡ get_or ps i p → AreRules rules 0 (map regex (take i ps)) → n ≡ all_letters (res (map regex (take i ps))) → IsRule rule n (regex p) → AreRules (rules ++ rule ∷ []) 0 (map regex (take (i + 1) ps))
rules_more rules rule ps i n p lt is h e rule_is =
    let from : n ≡ 0 + all_letters (res (map regex (take i ps))) = omega (arith, e) in
    subst (λ t. AreRules (rules ++ rule ∷ []) 0 t) (sym (front_more ps i p lt is)) (rules_push rules rule 0 (map regex (take i ps)) (regex p) h (subst (λ m. IsRule rule m (regex p)) from rule_is))

pub letters_more : (ps : List Pattern) (i : ℕ) (p : Pattern) → i < length ps → p ≡ get_or ps i p → all_letters (res (map regex (take (i + 1) ps))) ≡ all_letters (res (map regex (take i ps))) + letters (re (regex p))
letters_more ps i p lt is = ap (λ t. all_letters (res t)) (front_more ps i p lt is) ∙ letters_push (map regex (take i ps)) (regex p)

drop_more : {X : Type 0} (xs : List X) (i : ℕ) (x : X) → i < length xs → x ≡ get_or xs i x → drop i xs ≡ x ∷ drop (i + 1) xs
drop_more xs i x lt is = drop-cons xs i x lt ∙ ap (λ t. t ∷ drop (suc i) xs) (sym is) ∙ ap (λ n. x ∷ drop n xs) (sym (add-one i))

pub letters_left : (ps : List Pattern) (i : ℕ) (p : Pattern) → i < length ps → p ≡ get_or ps i p → all_letters (res (map regex (drop i ps))) ≡ letters (re (regex p)) + all_letters (res (map regex (drop (i + 1) ps)))
letters_left ps i p lt is = ap (λ t. all_letters (res (map regex t))) (drop_more ps i p lt is)

pub classes_left : (ps : List Pattern) (i : ℕ) (p : Pattern) → i < length ps → p ≡ get_or ps i p → all_classes (res (map regex (drop i ps))) ≡ classes (re (regex p)) ++ all_classes (res (map regex (drop (i + 1) ps)))
classes_left ps i p lt is = ap (λ t. all_classes (res (map regex t))) (drop_more ps i p lt is)
