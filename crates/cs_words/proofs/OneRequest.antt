-- Words ask for one request, or have one first bad place.
use Rattle.std.proofs.Common.{◌≡◌, ◌⊎◌, ℕ, inl, inr, List, [], ◌∷◌, ◌++◌, length, Result, Ok, Err, refl, sym, ap, ◌∙◌, subst, arith}
use Rattle.std.proofs.lemmas.List.{length-append}
use Rattle.cs_words.specs.declared.command.Command.{Command}
use Rattle.cs_words.specs.declared.options.Options.{Options}
use Rattle.cs_words.specs.Commands.{Files, Seed, Taken, command_word, taken_count, taken_of}
use Rattle.cs_words.specs.Options.{AreNew, AreOptions}
use Rattle.cs_words.specs.Requests.{AreArguments, AskFor, IsAsked, Names, Number, PlainArguments, PlainRequest, request_with}
use Rattle.cs_words.specs.Values.{IsSeed}
use Rattle.cs_words.proofs.OneBad.{bad_not_accepted, one_bad}
use Rattle.cs_words.proofs.OneOptions.{one_options, one_seed}
use Rattle.cs_words.proofs.Standing.{IsLonger, alike, grammar_count, no_options, pair_count}

same_parts : (xs us ys vs : List (List ℕ)) → length xs ≡ length us → xs ++ ys ≡ us ++ vs → (xs ≡ us) × (ys ≡ vs)
same_parts [] [] ys vs lengths same = (refl, same)
same_parts [] (u ∷ us) ys vs lengths same = absurd (omega (arith, lengths))
same_parts (x ∷ xs) [] ys vs lengths same = absurd (omega (arith, lengths))
same_parts (x ∷ xs) (u ∷ us) ys vs lengths same =
    let heads : x ≡ u = cc in
    let tails : xs ++ ys ≡ us ++ vs = cc in
    let rest = same_parts xs us ys vs (omega (arith, lengths)) tails in
    (ap (λ h. h ∷ xs) heads ∙ ap (λ ws. u ∷ ws) rest.0, rest.1)

counted : (taken : Taken) (words : List (List ℕ)) (arguments : PlainArguments) → AreArguments taken words arguments → length words ≡ taken_count taken
counted (Files roles) words (Names names) are = ap length are.0 ∙ are.1
counted (Files roles) words (Number number) are = absurd are
counted Seed words (Names names) are = absurd are
counted Seed words (Number number) are = ap length are.1

one_arguments : (taken : Taken) (words : List (List ℕ)) (a b : PlainArguments) → AreArguments taken words a → AreArguments taken words b → a ≡ b
one_arguments (Files roles) words (Names names) (Names others) one other = ap Names (sym one.0 ∙ other.0)
one_arguments (Files roles) words (Names names) (Number number) one other = absurd other
one_arguments (Files roles) words (Number number) b one other = absurd one
one_arguments Seed words (Names names) b one other = absurd one
one_arguments Seed words (Number number) (Names names) one other = absurd other
one_arguments Seed words (Number number) (Number more) one other =
    let same : one.0 ∷ [] ≡ other.0 ∷ [] = sym one.1 ∙ other.1 in
    let texts : other.0 ≡ one.0 = cc in
    ap Number (one_seed one.0 number more one.2 (subst (λ (text : List ℕ). IsSeed text more) texts other.2))

-- a command that takes a lex file besides has one word more than the other
longer_apart : (a b : PlainRequest) (words : List (List ℕ)) (one : AskFor words a) (other : AskFor words b) → IsLonger a.command b.command → one.behind ++ one.rest ≡ other.behind ++ other.rest → ⊥
longer_apart a b words one other longer tails =
    let none : other.rest ≡ [] = no_options longer.grammar other.rest (subst (λ (e : Command). AreNew e [] other.rest) longer.is_grammar other.stand) in
    omega (
      arith,
      ap length tails,
      length-append one.behind one.rest,
      length-append other.behind other.rest,
      ap length none,
      counted (taken_of a.command) one.behind a.arguments one.arguments,
      counted (taken_of b.command) other.behind b.arguments other.arguments,
      pair_count a.command longer.pair longer.is_pair,
      grammar_count b.command longer.grammar longer.is_grammar,
    )

one_request : (words : List (List ℕ)) (a b : PlainRequest) → AskFor words a → AskFor words b → a ≡ b
one_request words a b one other = by_command (alike a.command b.command fronts)
  where
    same : command_word a.command ∷ one.behind ++ one.rest ≡ command_word b.command ∷ other.behind ++ other.rest
    same = sym one.split ∙ other.split

    fronts : command_word a.command ≡ command_word b.command
    fronts = (let whole = same in cc)

    tails : one.behind ++ one.rest ≡ other.behind ++ other.rest
    tails = (let whole = same in cc)

    by_command : (a.command ≡ b.command) ⊎ (IsLonger a.command b.command ⊎ IsLonger b.command a.command) → a ≡ b
    by_command (inr (inl longer)) = absurd (longer_apart a b words one other longer tails)
    by_command (inr (inr longer)) = absurd (longer_apart b a words other one longer (sym tails))
    by_command (inl is) =
        let commands : b.command ≡ a.command = sym is in
        let given : AreArguments (taken_of a.command) other.behind b.arguments = subst (λ (c : Command). AreArguments (taken_of c) other.behind b.arguments) commands other.arguments in
        let many = counted (taken_of a.command) one.behind a.arguments one.arguments in
        let parts = same_parts one.behind other.behind one.rest other.rest (many ∙ sym (counted (taken_of a.command) other.behind b.arguments given)) tails in
        let arguments = one_arguments (taken_of a.command) one.behind a.arguments b.arguments one.arguments (subst (λ ws. AreArguments (taken_of a.command) ws b.arguments) (sym parts.0) given) in
        let options = one_options a.command one.rest one.stand a.options b.options one.options (subst (λ ws. AreOptions ws b.options) (sym parts.1) other.options) in
        ap (λ (c : Command). request_with c a.arguments a.options) (sym commands) ∙ ap (λ (x : PlainArguments). request_with b.command x a.options) arguments
        ∙ ap (λ (o : Options). request_with b.command b.arguments o) options

pub one_asked : (words : List (List ℕ)) (a b : Result PlainRequest ℕ) → IsAsked words a → IsAsked words b → a ≡ b
one_asked words (Ok a) (Ok b) one other = ap Ok (one_request words a b one.1 other.1)
one_asked words (Ok a) (Err at) one other = absurd (bad_not_accepted words at other one.0)
one_asked words (Err at) (Ok b) one other = absurd (bad_not_accepted words at one other.0)
one_asked words (Err at) (Err place) one other = ap Err (one_bad words at place one other)
