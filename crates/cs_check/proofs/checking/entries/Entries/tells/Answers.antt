-- The lines tell of one list of tokens, which is the one that is held.
use Rattle.std.proofs.Common.{ℕ, List, map, ap, ◌∙◌, sym}
use Rattle.cs_lines.specs.Words.Names.{token_of}
use Rattle.cs_check.specs.Passing.Places.{last_part}
use Rattle.cs_check.proofs.OnChecking.Once.{one_told}
use Rattle.cs_check.proofs.OnChecking.Told.{told_now}
use Rattle.cs_check.proofs.checking.entries.Entries.tells.Goals as goal

pub returns : goal.returns
returns c = λ lines t follows.
    let file = c.args.file.now in
    let tokens = c.args.self.now.tokens.items in
    let told = told_now file lines tokens (last_part lines) follows t.told in
    let named = ap (λ (l : List ℕ). map (token_of file) l) c.deref.ensures.value in (
      λ e. (tokens, told, c.are_tokens.ensures.0 e ∙ named),
      λ h. c.are_tokens.ensures.1
          (h.2 ∙ ap (λ (l : List ℕ). map (token_of file) l) (one_told file (c.one_tree.ensures file.grammar) lines h.0 tokens h.1 told) ∙ sym named),
    )
