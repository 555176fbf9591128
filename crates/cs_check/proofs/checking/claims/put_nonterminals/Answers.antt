-- Name by name, the set gets its nonterminal; a name of none ends it.
use Rattle.std.proofs.Common.{ℕ, List, refl, ◌∙◌}
use Rattle.cs_lines.specs.Lines.Read.{names_in}
use Rattle.cs_check.specs.Passing.Head.{IsNonterminalName}
use Rattle.cs_check.specs.Checking.Claims.{IsWithNonterminals}
use Rattle.cs_check.proofs.OnChecking.Named.{taken_none, taken_all, taken_not, taken_more}
use Rattle.cs_check.proofs.OnChecking.Taking.{none_nonterminals, more_nonterminals}
use Rattle.cs_check.proofs.checking.claims.put_nonterminals.Goals as goal

pub loop-name-init : goal.loop-name-init
loop-name-init c = record {
  long = c.requires;
  taken =
      taken_none (IsNonterminalName c.args.file.now) (λ (taken : List (List ℕ)). IsWithNonterminals c.args.file.now taken c.args.set.now c.args.set.now) (names_in c.args.names)
      (none_nonterminals c.args.file.now c.args.set.now);
}

pub loop-name-preserved : goal.loop-name-preserved
loop-name-preserved c =
    let file = c.args.file.now in
    let old = c.args.set.now in
    let mid = c.loop-name.set in
    let new = c.insert.new.self in
    let name = c.in-Some.name.now in
    let number = c.in-Some-look_for_nonterminal.nonterminal in
    let named = c.in-Some-look_for_nonterminal.ensures.some in
    record {
      long = c.insert.ensures.length ∙ c.loop-name.invariant.long;
      taken =
          taken_more (IsNonterminalName file) (λ (taken : List (List ℕ)). IsWithNonterminals file taken old mid) (λ (taken : List (List ℕ)). IsWithNonterminals file taken old new)
          (names_in c.args.names) (names_in c.loop-name.rest) c.loop-name.invariant.taken name (names_in c.next.new.self) c.in-Some.ensures (number, named)
          (λ taken before. more_nonterminals file old mid new taken name number named c.insert.ensures.members before);
    }

pub returns-in-None-clause-known : goal.returns-in-None-clause-known
returns-in-None-clause-known c = (
  λ e. absurd cc,
  λ each. absurd (taken_not (IsNonterminalName c.args.file.now) (λ (taken : List (List ℕ)). IsWithNonterminals c.args.file.now taken c.args.set.now c.loop-name.set)
      (names_in c.args.names) (names_in c.loop-name.rest) c.loop-name.invariant.taken c.in-Some.name.now (names_in c.next.new.self) c.in-Some.ensures
      (λ known. c.in-None.ensures.none known.0 known.1) each),
)

pub returns-clause-known : goal.returns-clause-known
returns-clause-known c = (
  λ e. (taken_all (IsNonterminalName c.args.file.now) (λ (taken : List (List ℕ)). IsWithNonterminals c.args.file.now taken c.args.set.now c.loop-name.set)
      (names_in c.args.names) (names_in c.loop-name.rest) c.loop-name.invariant.taken c.in_default.ensures).0,
  λ h. refl,
)

pub returns-clause-put : goal.returns-clause-put
returns-clause-put c =
    (taken_all (IsNonterminalName c.args.file.now) (λ (taken : List (List ℕ)). IsWithNonterminals c.args.file.now taken c.args.set.now c.loop-name.set)
    (names_in c.args.names) (names_in c.loop-name.rest) c.loop-name.invariant.taken c.in_default.ensures).1
