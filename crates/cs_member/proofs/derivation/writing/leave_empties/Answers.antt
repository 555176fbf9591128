-- Of one symbol more a nonterminal leaves its empty tree, and a token nothing.
use Rattle.std.proofs.Common.{◌≡◌, ◌+◌, List, [], ◌∷◌, ◌++◌, get_or, take, sym, ap, ◌∙◌, append_assoc, append-nil}
use Rattle.std.proofs.lemmas.List.{take_more}
use Rattle.std.specs.Global.{Vec}
use Rattle.cs_grammar.specs.declared.symbol.Symbol.{Symbol}
use Rattle.cs_grammar.specs.declared.symbol.Symbol.TheVariants.{Token}
use Rattle.cs_member.specs.declared.derivation.writing.Task.{Task}
use Rattle.cs_member.specs.declared.derivation.writing.Task.TheVariants.{Empty}
use Rattle.cs_member.specs.Derivation.Writing.{empty_tasks}
use Rattle.cs_member.proofs.OnDerivation.Spelling.{empty_tasks_push, no_empty_task}
use Rattle.cs_member.proofs.derivation.writing.leave_empties.Goals as goal
use Rattle.cs_member.proofs.derivation.writing.leave_empties.Goals.{in-Nonterminal+in_ok-push, in_default}

pub loop-symbol-preserved : goal.loop-symbol-preserved
loop-symbol-preserved c =
    let symbols = c.args.symbols.now in
    let old = c.args.tasks.now.items in
    let k = c.loop-symbol.symbol-index in
    let s : Symbol = get_or symbols k (Token 0) in
    let before = empty_tasks (take k symbols) in
    let split : empty_tasks (take (k + 1) symbols) ≡ before ++ empty_tasks (s ∷ []) = ap (λ (l : List Symbol). empty_tasks l) (take_more symbols k (Token 0) c.loop-symbol-test.true) ∙ empty_tasks_push (take k symbols) s in
    elim c.match-symbol.branch [
      | in-Nonterminal+in_ok-push w ↦
          let last : empty_tasks (s ∷ []) ≡ Empty w.in-Nonterminal.nonterminal ∷ [] = ap (λ (x : Symbol). empty_tasks (x ∷ [])) w.in-Nonterminal.is in
          ap (λ (v : Vec Task). v.items) w.tasks-is ∙ (w.in_ok-push.ensures.items ∙ (ap (λ (l : List Task). l ++ Empty w.in-Nonterminal.nonterminal ∷ []) c.loop-symbol.invariant
          ∙ (append_assoc old before (Empty w.in-Nonterminal.nonterminal ∷ []) ∙ ap (λ (l : List Task). old ++ l) (ap (λ (l : List Task). before ++ l) (sym last) ∙ sym split))))
      | in_default w ↦
          let last : empty_tasks (s ∷ []) ≡ [] = no_empty_task s w.in_default.not-Nonterminal in
          ap (λ (v : Vec Task). v.items) w.tasks-is ∙ (c.loop-symbol.invariant ∙ ap (λ (l : List Task). old ++ l) (sym (append-nil before) ∙ (ap (λ (l : List Task). before ++ l) (sym last) ∙ sym split)))
    ]
