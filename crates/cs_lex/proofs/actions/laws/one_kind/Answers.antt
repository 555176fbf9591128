-- A bar, a mark and no mark exclude one another, and the first mark and the words are found in one way.
use Rattle.cs_lex.proofs.OnActions.OneKind as lemmas
use Rattle.cs_lex.proofs.actions.laws.one_kind.Goals as goal

pub returns : goal.returns
returns c = lemmas.one_kind
