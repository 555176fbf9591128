-- Bytes say one line at most.
use Rattle.std.proofs.Common.{◌≡◌, ℕ, Bool, true, false, cond, List, [], ◌∷◌, ◌++◌, Option, None, Some, map, refl, sym, ap, ◌∙◌, arith}
use Rattle.std.specs.Prelude.{◌==◌, codes, All, slice_index_or}
use Rattle.std.proofs.lemmas.Bool.{both_ways, eq-eqb}
use Rattle.std.proofs.lemmas.List.{same_from_push}
use Rattle.std.proofs.lemmas.List.Elements.{All-head, All-tail}
use Rattle.cs_choices.specs.declared.weigh.Weigh.{Weigh}
use Rattle.cs_choices.specs.declared.weigh.Weigh.TheVariants.{Nodes, Bytes}
use Rattle.cs_lines.specs.Words.Words.{numeral, quoted, IsWord}
use Rattle.cs_lines.specs.Words.Edits.{EditWords, Deletes, Inserts, Replaces, Swaps}
use Rattle.cs_lines.specs.Lines.Line.{SetKind, Productive, Reachable, Empty, RowKind, First, Last, Next, GoalWords, OfRule, OfContext, OfPair, VerdictWords, Feasible, Infeasible, Large, Counts, Line, Opening, Weighing, TokenLine, RuleLine, LexemeLine, SetLine, RowLine, CaseLine, DeriveLine, TokensLine, TextLine, NoLexemeLine, NoScanLine, GoalLine, BaseLine, NegativeLine, EndLine}
use Rattle.cs_lines.specs.Lines.Texts.{joined, weigh_word, set_word, row_word, goal_words, verdict_words, edit_words, words, edit_names, goal_names, names, Says}
use Rattle.cs_lines.specs.Lines.Spelled.{spelled_or_none}
use Rattle.cs_lines.proofs.OnTexts.Words.{AreFree, joined_same, first_word, word_free, words_free, same_numeral, same_numerals, numeral_free, numerals_free}
use Rattle.cs_lines.proofs.OnTexts.Quotes.{same_text}

-- ---- the kind of a line, which its first bytes tell

abbrev pub at : List ℕ → ℕ → ℕ
at text k = slice_index_or text k 0

abbrev pub rank : Line → ℕ
rank Opening = 0
rank (Weighing weigh) = 1
rank (TokenLine n name) = 2
rank (RuleLine n left right) = 3
rank (LexemeLine name text) = 4
rank (SetLine kind names) = 5
rank (RowLine kind name names) = 6
rank (CaseLine n size) = 7
rank (DeriveLine rules) = 8
rank (TokensLine names) = 9
rank (TextLine text) = 10
rank (NoLexemeLine name) = 11
rank (NoScanLine after) = 12
rank (GoalLine n goal verdict) = 13
rank (BaseLine n goal) = 14
rank (NegativeLine n base edit left right at) = 15
rank (EndLine counts) = 16

-- by the third, fourth and eleventh byte
abbrev pub indented_rank : List ℕ → ℕ
indented_rank text =
    cond (at text 2 == 100) 8 (cond (at text 2 == 110) (cond (at text 10 == 108) 11 12) (cond (at text 3 == 111) 9 10))

-- the eighth byte of a line of a set
abbrev pub is_set_byte : ℕ → Bool
is_set_byte b = cond (b == 112) true (cond (b == 114) true (b == 101))

-- by the second and the eighth byte, behind a `c`
abbrev pub closed_rank : List ℕ → ℕ
closed_rank text = cond (at text 1 == 111) 0 (cond (at text 1 == 97) 7 (cond (is_set_byte (at text 7)) 5 6))

abbrev pub tag : List ℕ → ℕ
tag text =
    cond (at text 0 == 32) (indented_rank text)
    (cond (at text 0 == 99) (closed_rank text)
    (cond (at text 0 == 119) 1
    (cond (at text 0 == 116) 2
    (cond (at text 0 == 114) 3
    (cond (at text 0 == 108) 4
    (cond (at text 0 == 103) 13
    (cond (at text 0 == 98) 14
    (cond (at text 0 == 110) 15 16))))))))

pub tagged : (l : Line) → tag (joined (words l)) ≡ rank l
tagged Opening = refl
tagged (Weighing weigh) = refl
tagged (TokenLine n name) = refl
tagged (RuleLine n left right) = refl
tagged (LexemeLine name None) = refl
tagged (LexemeLine name (Some text)) = refl
tagged (SetLine Productive []) = refl
tagged (SetLine Productive (x ∷ xs)) = refl
tagged (SetLine Reachable []) = refl
tagged (SetLine Reachable (x ∷ xs)) = refl
tagged (SetLine Empty []) = refl
tagged (SetLine Empty (x ∷ xs)) = refl
tagged (RowLine First name names) = refl
tagged (RowLine Last name names) = refl
tagged (RowLine Next name names) = refl
tagged (CaseLine n size) = refl
tagged (DeriveLine []) = refl
tagged (DeriveLine (r ∷ rules)) = refl
tagged (TokensLine []) = refl
tagged (TokensLine (x ∷ xs)) = refl
tagged (TextLine text) = refl
tagged (NoLexemeLine name) = refl
tagged (NoScanLine after) = refl
tagged (GoalLine n goal verdict) = refl
tagged (BaseLine n goal) = refl
tagged (NegativeLine n base edit left right at) = refl
tagged (EndLine counts) = refl

-- ---- parts of lines

-- words that begin otherwise are apart
pub apart : (w v : List ℕ) → (at w 0 == at v 0) ≡ false → w ≡ v → ⊥
apart w v ne e = both_ways (at w 0 == at v 0) ne (eq-eqb (at w 0) (at v 0) (ap (λ (x : List ℕ). at x 0) e))

abbrev pub head : List (List ℕ) → List ℕ
head ws = slice_index_or ws 0 []

pub lists_apart : (ws vs : List (List ℕ)) → (at (head ws) 0 == at (head vs) 0) ≡ false → ws ≡ vs → ⊥
lists_apart ws vs ne e = apart (head ws) (head vs) ne (ap head e)

same_weigh : (a b : Weigh) → weigh_word a ≡ weigh_word b → a ≡ b
same_weigh Nodes Nodes e = refl
same_weigh Bytes Bytes e = refl
same_weigh a b e = absurd (apart (weigh_word a) (weigh_word b) refl e)

pub weigh_free : (a : Weigh) → AreFree (weigh_word a ∷ [])
weigh_free Nodes = (refl, tt)
weigh_free Bytes = (refl, tt)

same_set : (a b : SetKind) → set_word a ≡ set_word b → a ≡ b
same_set Productive Productive e = refl
same_set Reachable Reachable e = refl
same_set Empty Empty e = refl
same_set a b e = absurd (apart (set_word a) (set_word b) refl e)

pub set_free : (a : SetKind) (others : List (List ℕ)) → AreFree others → AreFree (set_word a ∷ others)
set_free Productive others f = (refl, f)
set_free Reachable others f = (refl, f)
set_free Empty others f = (refl, f)

same_row : (a b : RowKind) → row_word a ≡ row_word b → a ≡ b
same_row First First e = refl
same_row Last Last e = refl
same_row Next Next e = refl
same_row a b e = absurd (apart (row_word a) (row_word b) refl e)

pub row_free : (a : RowKind) (others : List (List ℕ)) → AreFree others → AreFree (row_word a ∷ others)
row_free First others f = (refl, f)
row_free Last others f = (refl, f)
row_free Next others f = (refl, f)

-- a goal and what stands behind it
pub same_goal : (a b : GoalWords) (r s : List (List ℕ)) → goal_words a r ≡ goal_words b s → (a ≡ b) × (r ≡ s)
same_goal (OfRule r) (OfRule q) x y e =
    let n : numeral r ≡ numeral q = cc in
    let rest : x ≡ y = cc in
    (ap OfRule (same_numeral r q n), rest)
same_goal (OfContext p i q) (OfContext s j t) x y e =
    let outer : p ≡ s = same_numeral p s (cc) in
    let place : i ≡ j = same_numeral i j (cc) in
    let inner : q ≡ t = same_numeral q t (cc) in
    let rest : x ≡ y = cc in
    (ap (λ k. OfContext k i q) outer ∙ ap (λ k. OfContext s k q) place ∙ ap (λ k. OfContext s j k) inner, rest)
same_goal (OfPair a b) (OfPair c d) x y e =
    let left : a ≡ c = cc in
    let right : b ≡ d = cc in
    let rest : x ≡ y = cc in
    (ap (λ (w : List ℕ). OfPair w b) left ∙ ap (λ (w : List ℕ). OfPair c w) right, rest)
same_goal a b x y e = absurd (lists_apart (goal_words a x) (goal_words b y) refl e)

pub goal_free : (a : GoalWords) (others : List (List ℕ)) → All IsWord (goal_names a) → AreFree others → AreFree (goal_words a others)
goal_free (OfRule r) others h f = (refl, (numeral_free r, f))
goal_free (OfContext p i q) others h f = (refl, (numeral_free p, (numeral_free i, (numeral_free q, f))))
goal_free (OfPair a b) others h f =
    (refl, (word_free a (All-head IsWord a (b ∷ []) h), (word_free b (All-head IsWord b [] (All-tail IsWord a (b ∷ []) h)), f)))

same_verdict : (a b : VerdictWords) → verdict_words a ≡ verdict_words b → a ≡ b
same_verdict (Feasible s c f) (Feasible t d g) e =
    let size : s ≡ t = same_numeral s t (cc) in
    let case : c ≡ d = same_numeral c d (cc) in
    let first : f ≡ g = same_numeral f g (cc) in
    ap (λ k. Feasible k c f) size ∙ ap (λ k. Feasible t k f) case ∙ ap (λ k. Feasible t d k) first
same_verdict Infeasible Infeasible e = refl
same_verdict Large Large e = refl
same_verdict a b e = absurd (lists_apart (verdict_words a) (verdict_words b) refl e)

pub verdict_free : (a : VerdictWords) → AreFree (verdict_words a)
verdict_free (Feasible s c f) = (refl, (numeral_free s, (refl, (numeral_free c, (refl, (numeral_free f, tt))))))
verdict_free Infeasible = (refl, tt)
verdict_free Large = (refl, tt)

-- an edit and what stands behind it
pub same_edit : (a b : EditWords) (r s : List (List ℕ)) → edit_words a r ≡ edit_words b s → (a ≡ b) × (r ≡ s)
same_edit (Deletes i) (Deletes j) x y e =
    let rest : x ≡ y = cc in
    (ap Deletes (same_numeral i j (cc)), rest)
same_edit (Inserts i a) (Inserts j b) x y e =
    let place : i ≡ j = same_numeral i j (cc) in
    let name : a ≡ b = cc in
    let rest : x ≡ y = cc in
    (ap (λ k. Inserts k a) place ∙ ap (λ (w : List ℕ). Inserts j w) name, rest)
same_edit (Replaces i a) (Replaces j b) x y e =
    let place : i ≡ j = same_numeral i j (cc) in
    let name : a ≡ b = cc in
    let rest : x ≡ y = cc in
    (ap (λ k. Replaces k a) place ∙ ap (λ (w : List ℕ). Replaces j w) name, rest)
same_edit (Swaps i) (Swaps j) x y e =
    let rest : x ≡ y = cc in
    (ap Swaps (same_numeral i j (cc)), rest)
same_edit a b x y e = absurd (lists_apart (edit_words a x) (edit_words b y) refl e)

pub edit_free : (a : EditWords) (others : List (List ℕ)) → All IsWord (edit_names a) → AreFree others → AreFree (edit_words a others)
edit_free (Deletes i) others h f = (refl, (numeral_free i, f))
edit_free (Inserts i a) others h f = (refl, (numeral_free i, (word_free a (All-head IsWord a [] h), f)))
edit_free (Replaces i a) others h f = (refl, (numeral_free i, (word_free a (All-head IsWord a [] h), f)))
edit_free (Swaps i) others h f = (refl, (numeral_free i, f))

-- ---- lines of one kind

pub one_name : (a : List ℕ) → All IsWord (a ∷ []) → AreFree (a ∷ [])
one_name a h = words_free (a ∷ []) h

same_token : (n m : ℕ) (a b : List ℕ) → All IsWord (a ∷ []) → All IsWord (b ∷ []) → joined (words (TokenLine n a)) ≡ joined (words (TokenLine m b)) → TokenLine n a ≡ TokenLine m b
same_token n m a b h k e =
    let same = joined_same (codes "token") (numeral n ∷ a ∷ []) (codes "token") (numeral m ∷ b ∷ []) (refl, (numeral_free n, one_name a h)) (refl, (numeral_free m, one_name b k)) e in
    let number : n ≡ m = same_numeral n m (cc) in
    let name : a ≡ b = cc in
    ap (λ x. TokenLine x a) number ∙ ap (λ (w : List ℕ). TokenLine m w) name

same_rule : (n m : ℕ) (a b : List ℕ) (r s : List (List ℕ)) → All IsWord (a ∷ r) → All IsWord (b ∷ s) → joined (words (RuleLine n a r)) ≡ joined (words (RuleLine m b s)) → RuleLine n a r ≡ RuleLine m b s
same_rule n m a b r s h k e =
    let free = words_free (a ∷ r) h in
    let free' = words_free (b ∷ s) k in
    let same = joined_same (codes "rule") (numeral n ∷ a ∷ codes ":" ∷ r) (codes "rule") (numeral m ∷ b ∷ codes ":" ∷ s) (refl, (numeral_free n, (free.0, (refl, free.1)))) (refl, (numeral_free m, (free'.0, (refl, free'.1)))) e in
    let number : n ≡ m = same_numeral n m (cc) in
    let left : a ≡ b = cc in
    let right : r ≡ s = cc in
    ap (λ x. RuleLine x a r) number ∙ ap (λ (w : List ℕ). RuleLine m w r) left ∙ ap (λ (ws : List (List ℕ)). RuleLine m b ws) right

pub same_tail : (t u : Option (List ℕ)) → spelled_or_none t ≡ spelled_or_none u → t ≡ u
same_tail None None e = refl
same_tail (Some t) (Some u) e = ap Some (same_text t u e)
same_tail t u e = absurd (apart (spelled_or_none t) (spelled_or_none u) refl e)

pub lexeme_text : (a : List ℕ) (t : Option (List ℕ)) → joined (words (LexemeLine a t)) ≡ codes "lexeme" ++ 32 ∷ (a ++ 32 ∷ spelled_or_none t)
lexeme_text a None = refl
lexeme_text a (Some t) = refl

same_lexeme : (a b : List ℕ) (t u : Option (List ℕ)) → All IsWord (a ∷ []) → All IsWord (b ∷ []) → joined (words (LexemeLine a t)) ≡ joined (words (LexemeLine b u)) → LexemeLine a t ≡ LexemeLine b u
same_lexeme a b t u h k e =
    let whole = sym (lexeme_text a t) ∙ e ∙ lexeme_text b u in
    let front = first_word (codes "lexeme") (codes "lexeme") (a ++ 32 ∷ spelled_or_none t) (b ++ 32 ∷ spelled_or_none u) refl refl whole in
    let parts = first_word a b (spelled_or_none t) (spelled_or_none u) (word_free a (All-head IsWord a [] h)) (word_free b (All-head IsWord b [] k)) front.1 in
    ap (λ (w : List ℕ). LexemeLine w t) parts.0 ∙ ap (λ (o : Option (List ℕ)). LexemeLine b o) (same_tail t u parts.1)

same_claims : (a b : SetKind) (r s : List (List ℕ)) → All IsWord r → All IsWord s → joined (words (SetLine a r)) ≡ joined (words (SetLine b s)) → SetLine a r ≡ SetLine b s
same_claims a b r s h k e =
    let same = joined_same (codes "closed") (set_word a ∷ r) (codes "closed") (set_word b ∷ s) (refl, set_free a r (words_free r h)) (refl, set_free b s (words_free s k)) e in
    let kind : a ≡ b = same_set a b (cc) in
    let names : r ≡ s = cc in
    ap (λ (x : SetKind). SetLine x r) kind ∙ ap (λ (ws : List (List ℕ)). SetLine b ws) names

same_rows : (a b : RowKind) (c d : List ℕ) (r s : List (List ℕ)) → All IsWord (c ∷ r) → All IsWord (d ∷ s) → joined (words (RowLine a c r)) ≡ joined (words (RowLine b d s)) → RowLine a c r ≡ RowLine b d s
same_rows a b c d r s h k e =
    let free = words_free (c ∷ r) h in
    let free' = words_free (d ∷ s) k in
    let same = joined_same (codes "closed") (row_word a ∷ c ∷ codes ":" ∷ r) (codes "closed") (row_word b ∷ d ∷ codes ":" ∷ s) (refl, row_free a (c ∷ codes ":" ∷ r) (free.0, (refl, free.1))) (refl, row_free b (d ∷ codes ":" ∷ s) (free'.0, (refl, free'.1))) e in
    let kind : a ≡ b = same_row a b (cc) in
    let name : c ≡ d = cc in
    let names : r ≡ s = cc in
    ap (λ (x : RowKind). RowLine x c r) kind ∙ ap (λ (w : List ℕ). RowLine b w r) name ∙ ap (λ (ws : List (List ℕ)). RowLine b d ws) names

same_case : (n m x y : ℕ) → joined (words (CaseLine n x)) ≡ joined (words (CaseLine m y)) → CaseLine n x ≡ CaseLine m y
same_case n m x y e =
    let same = joined_same (codes "case") (numeral n ∷ codes "size" ∷ numeral x ∷ []) (codes "case") (numeral m ∷ codes "size" ∷ numeral y ∷ []) (refl, (numeral_free n, (refl, (numeral_free x, tt)))) (refl, (numeral_free m, (refl, (numeral_free y, tt)))) e in
    let number : n ≡ m = same_numeral n m (cc) in
    let size : x ≡ y = same_numeral x y (cc) in
    ap (λ k. CaseLine k x) number ∙ ap (λ k. CaseLine m k) size

same_derivation : (r s : List ℕ) → joined (words (DeriveLine r)) ≡ joined (words (DeriveLine s)) → DeriveLine r ≡ DeriveLine s
same_derivation r s e =
    let same = joined_same [] ([] ∷ codes "derive" ∷ map numeral r) [] ([] ∷ codes "derive" ∷ map numeral s) (refl, (refl, (refl, numerals_free r))) (refl, (refl, (refl, numerals_free s))) e in
    let rules : map numeral r ≡ map numeral s = cc in
    ap DeriveLine (same_numerals r s rules)

same_tokens : (r s : List (List ℕ)) → All IsWord r → All IsWord s → joined (words (TokensLine r)) ≡ joined (words (TokensLine s)) → TokensLine r ≡ TokensLine s
same_tokens r s h k e =
    let same = joined_same [] ([] ∷ codes "tokens" ∷ r) [] ([] ∷ codes "tokens" ∷ s) (refl, (refl, (refl, words_free r h))) (refl, (refl, (refl, words_free s k))) e in
    let names : r ≡ s = cc in
    ap TokensLine names

same_text_line : (t u : List ℕ) → joined (words (TextLine t)) ≡ joined (words (TextLine u)) → TextLine t ≡ TextLine u
same_text_line t u e =
    let inner : quoted t ≡ quoted u = cc in
    ap TextLine (same_text t u inner)

same_no_lexeme : (a b : List ℕ) → joined (words (NoLexemeLine a)) ≡ joined (words (NoLexemeLine b)) → NoLexemeLine a ≡ NoLexemeLine b
same_no_lexeme a b e = let name : a ≡ b = cc in ap NoLexemeLine name

same_no_scan : (n m : ℕ) → joined (words (NoScanLine n)) ≡ joined (words (NoScanLine m)) → NoScanLine n ≡ NoScanLine m
same_no_scan n m e = let number : numeral n ≡ numeral m = cc in ap NoScanLine (same_numeral n m number)

same_goal_line : (n m : ℕ) (a b : GoalWords) (v w : VerdictWords) → All IsWord (goal_names a) → All IsWord (goal_names b) → joined (words (GoalLine n a v)) ≡ joined (words (GoalLine m b w)) → GoalLine n a v ≡ GoalLine m b w
same_goal_line n m a b v w h k e =
    let same = joined_same (codes "goal") (numeral n ∷ goal_words a (verdict_words v)) (codes "goal") (numeral m ∷ goal_words b (verdict_words w)) (refl, (numeral_free n, goal_free a (verdict_words v) h (verdict_free v))) (refl, (numeral_free m, goal_free b (verdict_words w) k (verdict_free w))) e in
    let number : n ≡ m = same_numeral n m (cc) in
    let rest : goal_words a (verdict_words v) ≡ goal_words b (verdict_words w) = cc in
    let parts = same_goal a b (verdict_words v) (verdict_words w) rest in
    ap (λ x. GoalLine x a v) number ∙ ap (λ (x : GoalWords). GoalLine m x v) parts.0 ∙ ap (λ (x : VerdictWords). GoalLine m b x) (same_verdict v w parts.1)

same_base : (n m x y : ℕ) → joined (words (BaseLine n x)) ≡ joined (words (BaseLine m y)) → BaseLine n x ≡ BaseLine m y
same_base n m x y e =
    let same = joined_same (codes "base") (numeral n ∷ codes "goal" ∷ numeral x ∷ []) (codes "base") (numeral m ∷ codes "goal" ∷ numeral y ∷ []) (refl, (numeral_free n, (refl, (numeral_free x, tt)))) (refl, (numeral_free m, (refl, (numeral_free y, tt)))) e in
    let number : n ≡ m = same_numeral n m (cc) in
    let goal : x ≡ y = same_numeral x y (cc) in
    ap (λ k. BaseLine k x) number ∙ ap (λ k. BaseLine m k) goal

-- the words of a pair and its place
abbrev pub pair_words : List ℕ → List ℕ → ℕ → List (List ℕ)
pair_words left right place = codes "pair" ∷ left ∷ right ∷ codes "at" ∷ numeral place ∷ []

pub pair_free : (a b : List ℕ) (more : List (List ℕ)) (place : ℕ) → All IsWord (a ∷ b ∷ more) → AreFree (pair_words a b place)
pair_free a b more place h =
    (refl, (word_free a (All-head IsWord a (b ∷ more) h), (word_free b (All-head IsWord b more (All-tail IsWord a (b ∷ more) h)), (refl, (numeral_free place, tt)))))

pub negative_free : (n x : ℕ) (edit : EditWords) (a b : List ℕ) (place : ℕ) → All IsWord (a ∷ b ∷ edit_names edit) → AreFree (words (NegativeLine n x edit a b place))
negative_free n x edit a b place h =
    (refl, (numeral_free n, (refl, (numeral_free x, edit_free edit (pair_words a b place) (All-tail IsWord b (edit_names edit) (All-tail IsWord a (b ∷ edit_names edit) h)) (pair_free a b (edit_names edit) place h)))))

same_negative : (n m x y : ℕ) (p q : EditWords) (a b c d : List ℕ) (i j : ℕ) → All IsWord (a ∷ b ∷ edit_names p) → All IsWord (c ∷ d ∷ edit_names q) → joined (words (NegativeLine n x p a b i)) ≡ joined (words (NegativeLine m y q c d j)) → NegativeLine n x p a b i ≡ NegativeLine m y q c d j
same_negative n m x y p q a b c d i j h k e =
    let same = joined_same (codes "negative") (numeral n ∷ codes "base" ∷ numeral x ∷ edit_words p (pair_words a b i)) (codes "negative") (numeral m ∷ codes "base" ∷ numeral y ∷ edit_words q (pair_words c d j)) (negative_free n x p a b i h) (negative_free m y q c d j k) e in
    let number : n ≡ m = same_numeral n m (cc) in
    let base : x ≡ y = same_numeral x y (cc) in
    let rest : edit_words p (pair_words a b i) ≡ edit_words q (pair_words c d j) = cc in
    let parts = same_edit p q (pair_words a b i) (pair_words c d j) rest in
    let pair = parts.1 in
    let left : a ≡ c = cc in
    let right : b ≡ d = cc in
    let place : i ≡ j = same_numeral i j (cc) in
    ap (λ z. NegativeLine z x p a b i) number ∙ ap (λ z. NegativeLine m z p a b i) base ∙ ap (λ (z : EditWords). NegativeLine m y z a b i) parts.0
    ∙ ap (λ (z : List ℕ). NegativeLine m y q z b i) left ∙ ap (λ (z : List ℕ). NegativeLine m y q c z i) right ∙ ap (λ z. NegativeLine m y q c d z) place

pub counts_free : (c : Counts) → AreFree (words (EndLine c))
counts_free c =
    (refl, (refl, (numeral_free c.goals, (refl, (numeral_free c.feasible, (refl, (numeral_free c.infeasible, (refl, (numeral_free c.large, (refl, (numeral_free c.negatives, (refl, (numeral_free c.cases, tt)))))))))))))

abbrev pub counts_of : ℕ → ℕ → ℕ → ℕ → ℕ → ℕ → Counts
counts_of g f i l n c = record { goals = g; feasible = f; infeasible = i; large = l; negatives = n; cases = c }

abbrev pub tail_of : Counts → List (List ℕ)
tail_of c =
    codes "goals" ∷ numeral c.goals ∷ codes "feasible" ∷ numeral c.feasible ∷ codes "infeasible" ∷ numeral c.infeasible
    ∷ codes "large" ∷ numeral c.large ∷ codes "negatives" ∷ numeral c.negatives ∷ codes "cases" ∷ numeral c.cases ∷ []

same_end : (c d : Counts) → joined (words (EndLine c)) ≡ joined (words (EndLine d)) → EndLine c ≡ EndLine d
same_end c d e =
    let same = joined_same (codes "end") (tail_of c) (codes "end") (tail_of d) (counts_free c) (counts_free d) e in
    let goals : c.goals ≡ d.goals = same_numeral c.goals d.goals (cc) in
    let feasible : c.feasible ≡ d.feasible = same_numeral c.feasible d.feasible (cc) in
    let infeasible : c.infeasible ≡ d.infeasible = same_numeral c.infeasible d.infeasible (cc) in
    let large : c.large ≡ d.large = same_numeral c.large d.large (cc) in
    let negatives : c.negatives ≡ d.negatives = same_numeral c.negatives d.negatives (cc) in
    let cases : c.cases ≡ d.cases = same_numeral c.cases d.cases (cc) in
    ap EndLine
    (ap (λ x. counts_of x c.feasible c.infeasible c.large c.negatives c.cases) goals
    ∙ ap (λ x. counts_of d.goals x c.infeasible c.large c.negatives c.cases) feasible
    ∙ ap (λ x. counts_of d.goals d.feasible x c.large c.negatives c.cases) infeasible
    ∙ ap (λ x. counts_of d.goals d.feasible d.infeasible x c.negatives c.cases) large
    ∙ ap (λ x. counts_of d.goals d.feasible d.infeasible d.large x c.cases) negatives
    ∙ ap (λ x. counts_of d.goals d.feasible d.infeasible d.large d.negatives x) cases)

-- ---- one line

same_line : (l k : Line) → rank l ≡ rank k → All IsWord (names l) → All IsWord (names k) → joined (words l) ≡ joined (words k) → l ≡ k
same_line Opening Opening r f g e = refl
same_line (Weighing a) (Weighing b) r f g e =
    let same = joined_same (codes "weigh") (weigh_word a ∷ []) (codes "weigh") (weigh_word b ∷ []) (refl, weigh_free a) (refl, weigh_free b) e in
    ap Weighing (same_weigh a b (cc))
same_line (TokenLine n a) (TokenLine m b) r f g e = same_token n m a b f g e
same_line (RuleLine n a x) (RuleLine m b y) r f g e = same_rule n m a b x y f g e
same_line (LexemeLine a t) (LexemeLine b u) r f g e = same_lexeme a b t u f g e
same_line (SetLine a x) (SetLine b y) r f g e = same_claims a b x y f g e
same_line (RowLine a c x) (RowLine b d y) r f g e = same_rows a b c d x y f g e
same_line (CaseLine n x) (CaseLine m y) r f g e = same_case n m x y e
same_line (DeriveLine x) (DeriveLine y) r f g e = same_derivation x y e
same_line (TokensLine x) (TokensLine y) r f g e = same_tokens x y f g e
same_line (TextLine t) (TextLine u) r f g e = same_text_line t u e
same_line (NoLexemeLine a) (NoLexemeLine b) r f g e = same_no_lexeme a b e
same_line (NoScanLine n) (NoScanLine m) r f g e = same_no_scan n m e
same_line (GoalLine n a v) (GoalLine m b w) r f g e = same_goal_line n m a b v w f g e
same_line (BaseLine n x) (BaseLine m y) r f g e = same_base n m x y e
same_line (NegativeLine n x p a b i) (NegativeLine m y q c d j) r f g e = same_negative n m x y p q a b c d i j f g e
same_line (EndLine c) (EndLine d) r f g e = same_end c d e
same_line l k r f g e = absurd (omega (arith, r))

pub one_line : (bytes : List ℕ) (l k : Line) → Says bytes l → Says bytes k → l ≡ k
one_line bytes l k h i =
    let text = (same_from_push (joined (words l)) (joined (words k)) 10 10 (sym h.text ∙ i.text)).0 in
    same_line l k (sym (tagged l) ∙ ap tag text ∙ tagged k) h.are_words i.are_words text
