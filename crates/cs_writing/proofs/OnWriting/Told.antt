-- The lines of entries in a plan's format.
use Rattle.std.proofs.Common.{◌≡◌, ℕ, ◌+◌, List, [], ◌++◌, length, refl, sym, ap, ◌∙◌, subst, Option, arith}
use Rattle.cs_verdicts.specs.Cases.Cases.{PlainCases, no_cases}
use Rattle.cs_grammar.specs.Weights.{Weighed}
use Rattle.cs_goals.specs.declared.goal.Goal.{Goal}
use Rattle.cs_goals.specs.Goals.{goals}
use Rattle.cs_choices.specs.declared.format.Format.{Format}
use Rattle.cs_choices.specs.declared.format.Format.TheVariants.{One, Two}
use Rattle.cs_manifest.specs.Manifest.Manifest.{GoalEntry, HasOneText, Texts, goal_entry_lines, goal_texts, shared_entry_lines}
use Rattle.cs_manifest.proofs.OnManifest.OneManifest.{one_entry, one_rendered_if, one_zip}
use Rattle.cs_manifest.proofs.OnManifest.OneShared.{one_list_of_shared}
use Rattle.cs_writing.specs.declared.plan.plan.Plan.{Plan}
use Rattle.cs_writing.specs.Plan.Plans.{IsEntryIn, choice_in, format_by, lexemes_in, texts_in}
use Rattle.cs_writing.specs.Writing.Written.{AreEntriesIn, AreGoals, AreLinesOf, lines_from, shared_lines_from}
use Rattle.cs_writing.proofs.OnWriting.Cases.{as_many, shared_append, shared_split}
use Rattle.cs_manifest.proofs.OnOutput.Numbered.{numbered_both}

module _ (plan : Plan) where
  -- lines of entries and of more
  pub lines_both : (format : Format) (number : ℕ) (before mid after : PlainCases) (xs ys : List GoalEntry) (first second : List ℕ) → AreLinesOf format plan number before xs mid first
      → AreLinesOf format plan (number + length xs) mid ys after second → AreLinesOf format plan number before (xs ++ ys) after (first ++ second)
  lines_both One number before mid after xs ys first second a b = (
    ap (λ (l : List ℕ). l ++ second) a.0 ∙ ap (λ (l : List ℕ). lines_from plan.yacc.now number xs ++ l) b.0
        ∙ sym (numbered_both (goal_entry_lines plan.yacc.now) number xs ys),
    b.1 ∙ a.1,
  )
  lines_both Two number before mid after xs ys first second a b = record {
    list = a.list ++ b.list;
    are = shared_append (texts_in plan) (lexemes_in plan) before mid after xs ys a.list b.list a.are b.are;
    whole = ap (λ (l : List ℕ). l ++ second) a.whole ∙ ap (λ (l : List ℕ). shared_lines_from plan.yacc.now number a.list ++ l) b.whole
        ∙ ap (λ (n : ℕ). shared_lines_from plan.yacc.now number a.list ++ shared_lines_from plan.yacc.now n b.list) many
        ∙ sym (numbered_both (shared_entry_lines plan.yacc.now) number a.list b.list);
  }
    where
      many : number + length xs ≡ number + length a.list
      many = omega (arith, as_many (texts_in plan) (lexemes_in plan) before mid xs a.list a.are)

  pub lines_none : (format : Format) (number : ℕ) (cases : PlainCases) → AreLinesOf format plan number cases [] cases []
  lines_none One number cases = (refl, refl)
  lines_none Two number cases = record { list = []; are = (refl, refl); whole = refl }

  module _ (one : (texts : Option Texts) → HasOneText texts) where
    -- entries have one text of lines
    pub one_told : (format : Format) (number : ℕ) (before after other : PlainCases) (entries : List GoalEntry) (lines others : List ℕ) → AreLinesOf format plan number before entries after lines
        → AreLinesOf format plan number before entries other others → (after ≡ other) × (lines ≡ others)
    one_told One number before after other entries lines others a b = (a.1 ∙ sym b.1, a.0 ∙ sym b.0)
    one_told Two number before after other entries lines others a b =
        let same = one_list_of_shared (texts_in plan) (lexemes_in plan) (one_rendered_if (texts_in plan) (one (texts_in plan)) (lexemes_in plan)) before after other entries a.list b.list a.are b.are in
        (same.0, a.whole ∙ ap (shared_lines_from plan.yacc.now number) same.1 ∙ sym b.whole)

    -- the lines of more entries begin with those of their front
    pub told_front : (format : Format) (number : ℕ) (before mid after : PlainCases) (xs ys : List GoalEntry) (first whole : List ℕ) → AreLinesOf format plan number before xs mid first
        → AreLinesOf format plan number before (xs ++ ys) after whole → (more : List ℕ) × (whole ≡ first ++ more)
    told_front One number before mid after xs ys first whole a b = (
      lines_from plan.yacc.now (number + length xs) ys,
      b.0 ∙ numbered_both (goal_entry_lines plan.yacc.now) number xs ys
          ∙ ap (λ (l : List ℕ). l ++ lines_from plan.yacc.now (number + length xs) ys) (sym a.0),
    )
    told_front Two number before mid after xs ys first whole a b =
        let split = shared_split (texts_in plan) (lexemes_in plan) before after xs ys b.list b.are in
        let front = one_told Two number before split.mid mid xs (shared_lines_from plan.yacc.now number split.front) first (record { list = split.front; are = split.first; whole = refl }) a in
        let more = shared_lines_from plan.yacc.now (number + length split.front) split.behind in (
          more,
          b.whole ∙ ap (shared_lines_from plan.yacc.now number) split.is ∙ numbered_both (shared_entry_lines plan.yacc.now) number split.front split.behind
              ∙ ap (λ (l : List ℕ). l ++ more) front.1,
        )

    module _ (of : Weighed) where
      pub one_in : (goal : Goal) (a b : GoalEntry) → IsEntryIn plan of goal a → IsEntryIn plan of goal b → a ≡ b
      one_in = one_entry (goal_texts (choice_in plan)) (one (goal_texts (choice_in plan))) (lexemes_in plan) of

      -- the entries of all goals are one list
      pub one_list : (a b : List GoalEntry) → AreEntriesIn plan of a → AreEntriesIn plan of b → a ≡ b
      one_list a b ha hb = one_zip one_in (goals of.grammar plan.criteria) a b ha hb

      -- and so are their cases and their lines
      pub record AreSame (entries others : List GoalEntry) (cases other : PlainCases) (lines more : List ℕ) : Type 0 where
        pub entries_are : entries ≡ others
        pub cases_are : cases ≡ other
        pub lines_are : lines ≡ more

      pub one_goals : (entries others : List GoalEntry) (cases other : PlainCases) (lines more : List ℕ) → AreGoals plan of entries cases lines → AreGoals plan of others other more
          → AreSame entries others cases other lines more
      one_goals entries others cases other lines more a b =
          let same = one_list entries others a.all b.all in
          let none = no_cases plan.yacc.now.grammar in
          let moved = subst (λ (es : List GoalEntry). AreLinesOf (format_by plan.form) plan 1 none es other more) (sym same) b.told in
          let told = one_told (format_by plan.form) 1 none cases other entries lines more a.told moved in
          record { entries_are = same; cases_are = told.0; lines_are = told.1 }
