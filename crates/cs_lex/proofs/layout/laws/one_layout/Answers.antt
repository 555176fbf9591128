-- The definitions are one list that ends at one place, and from there the rules are one list.
use Rattle.cs_lex.proofs.OnLayout.Uniqueness as lemmas
use Rattle.cs_lex.proofs.layout.laws.one_layout.Goals as goal

pub returns : goal.returns
returns c = lemmas.one_layout
