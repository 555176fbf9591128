-- The generated yacc file is accepted, and short.
use Rattle.std.proofs.Common.{◌≡◌, ℕ, ◌*◌, ◌≤◌, List, [], ◌∷◌, ◌++◌, length, refl, sym, ap, subst, ◌∙◌, arith, length-append}
use Rattle.std.specs.Prelude.{codes}
use Rattle.std.specs.List.{AllByRecursion, flat_map}
use Rattle.std.proofs.lemmas.List.{length-map}
use Rattle.cs_yacc.specs.Items.Items.{items_of}
use Rattle.cs_yacc.specs.Items.Table.{IsTaken}
use Rattle.cs_yacc.specs.Reading.Meaning.{file_with, parts_of}
use Rattle.cs_yacc.specs.Reading.Reading.{IsYaccFile, IsAccepted}
use Rattle.cs_gen.specs.declared.symbol.Symbol.{Symbol}
use Rattle.cs_gen.specs.declared.symbol.Symbol.TheVariants.{Token, Nonterminal}
use Rattle.cs_gen.specs.Rules.{Line, lines}
use Rattle.cs_gen.specs.Texts.{up_to, name, names, alternatives, declaration, line_text, yacc_text, token_rule, lex_text}
use Rattle.cs_gen.proofs.Digits.{short_decimal, numbers_below}
use Rattle.cs_gen.proofs.KnownLines.{IsKnown, AreKnown, AreBodies, IsLine, AreLines, known_lines, lefts_are}
use Rattle.cs_gen.proofs.FileItems.{all_tokens, tokens_known, file_items}
use Rattle.cs_gen.proofs.Laid.{file_read}
use Rattle.cs_gen.proofs.Taken.{file_taken}
use Rattle.cs_gen.proofs.Meant.{file_meant}

many_lines : (seed : ℕ) → length (lines seed) ≡ 40
many_lines seed = sym (length-map (lines seed) (λ (l : Line). l.left)) ∙ ap length (lefts_are seed)

taken_lines : (ls : List Line) → length ls ≡ 40 → IsTaken (file_items ls)
taken_lines [] e = absurd (omega arith)
taken_lines (l ∷ ls) e = file_taken l ls

pub yacc_accepted : (seed : ℕ) → IsAccepted (yacc_text seed)
unfolding IsYaccFile
yacc_accepted seed =
    let read = file_read seed in
    let ps = read.0 in
    let taken : IsTaken (items_of ps) = subst IsTaken (sym read.2) (taken_lines (lines seed) (many_lines seed)) in
    (file_with (parts_of ps ps), record { items = ps; read = read.1; taken = taken; is = file_meant (lines seed) ps (known_lines seed) (lefts_are seed) read.2 })

-- ---- length

short_name : (s : Symbol) → IsKnown s → length (name s) ≤ 3
short_name (Token n) h = omega (arith, short_decimal n 24 h.1 (omega arith))
short_name (Nonterminal n) h = omega (arith, short_decimal n 40 h.1 (omega arith))

short_names : (ss : List Symbol) → AreKnown ss → length (names ss) ≤ 4 * length ss
short_names [] h = omega arith
short_names (s ∷ ss) h = omega (arith, length-append (name s) (names ss), short_name s h.0, short_names ss h.1)

short_alternatives : (bs : List (List Symbol)) → AreBodies bs → length (alternatives bs) ≤ 14 * length bs
short_alternatives [] h = omega arith
short_alternatives (b ∷ bs) h =
    let is = h.0 in
    let few = is.few in
    omega (arith, few, length-append (names b) (alternatives bs), short_names b is.known, short_alternatives bs h.1)

short_line : (l : Line) → IsLine l → length (line_text l) ≤ 62
short_line l h =
    let first = h.first in
    let few = first.few in
    let others = h.few in
    let left = name (Nonterminal l.left) in
    omega (
      arith,
      few,
      others,
      short_name (Nonterminal l.left) h.left,
      short_names l.first first.known,
      short_alternatives l.others h.others,
      length-append (left ++ codes " :" ++ names l.first ++ alternatives l.others) (codes " ;\n"),
      length-append (left ++ codes " :" ++ names l.first) (alternatives l.others),
      length-append (left ++ codes " :") (names l.first),
      length-append left (codes " :"),
    )

short_lines : (ls : List Line) → AreLines ls → length (flat_map line_text ls) ≤ 62 * length ls
short_lines [] h = omega arith
short_lines (l ∷ ls) h = omega (arith, length-append (line_text l) (flat_map line_text ls), short_line l h.0, short_lines ls h.1)

pub yacc_short : (seed : ℕ) → length (yacc_text seed) ≤ 1048576
unfolding yacc_text
yacc_short seed =
    omega (
      arith,
      many_lines seed,
      length-append declaration (flat_map line_text (lines seed)),
      short_lines (lines seed) (known_lines seed),
      length-append (codes "%token" ++ names all_tokens) (codes "\n%%\n"),
      length-append (codes "%token") (names all_tokens),
      short_names all_tokens tokens_known,
    )

-- ---- the lex file's length

short_rules : (numbers : List ℕ) → AllByRecursion (λ number. number ≤ 24) numbers → length (flat_map token_rule numbers) ≤ 16 * length numbers
short_rules [] h = omega arith
short_rules (number ∷ numbers) h =
    let n = name (Token number) in
    omega (
      arith,
      length-append (token_rule number) (flat_map token_rule numbers),
      length-append (n ++ codes " return " ++ n) (codes ";\n"),
      length-append (n ++ codes " return ") n,
      length-append n (codes " return "),
      short_decimal number 24 h.0 (omega arith),
      short_rules numbers h.1,
    )

pub lex_short : length lex_text ≤ 1048576
unfolding lex_text
lex_short =
    let some : length (up_to 24) ≡ 24 = refl in
    omega (arith, some, length-append (codes "%%\n" ++ flat_map token_rule (up_to 24)) (codes "[ \\n]+ ;\n"), length-append (codes "%%\n") (flat_map token_rule (up_to 24)), short_rules (up_to 24) (numbers_below 24 24 (omega arith)))
