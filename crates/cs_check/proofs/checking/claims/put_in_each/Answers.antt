-- Name by name, the set of its token gets the nonterminal; a name of no token ends it.
use Rattle.std.proofs.Common.{◌≡◌, ◌<◌, ℕ, Bool, List, [], length, get_or, set, ap, ◌∙◌, subst, refl, arith}
use Rattle.std.proofs.lemmas.List.{get_or_default}
use Rattle.cs_lines.specs.Lines.Read.{names_in}
use Rattle.cs_closed.specs.Closed.Sets.{IsWith}
use Rattle.cs_check.specs.Passing.Head.{IsTokenName}
use Rattle.cs_check.specs.Checking.Claims.{IsWithTokens}
use Rattle.cs_check.proofs.OnChecking.Inserts.{with_pair, set_table}
use Rattle.cs_check.proofs.OnChecking.Named.{taken_none, taken_all, taken_not, taken_more}
use Rattle.cs_check.proofs.OnChecking.Taking.{none_tokens, more_tokens}
use Rattle.cs_check.proofs.checking.claims.put_in_each.Goals as goal

pub loop-name-init : goal.loop-name-init
loop-name-init c = record {
  table = c.requires.table;
  taken =
      taken_none (IsTokenName c.args.file.now) (λ (taken : List (List ℕ)). IsWithTokens c.args.file.now taken c.args.nonterminal c.args.table.now c.args.table.now) (names_in c.args.names)
      (none_tokens c.args.file.now c.args.nonterminal c.args.table.now);
}

pub loop-name-preserved : goal.loop-name-preserved
loop-name-preserved c =
    let file = c.args.file.now in
    let old = c.args.table.now in
    let mid = c.loop-name.table in
    let place = c.place_of.result in
    let row = c.insert.new.self in
    let name = c.in-Some.name.now in
    let token = c.in-Some-look_up_token.token in
    let named = c.in-Some-look_up_token.ensures.some in
    let number = named.is_number in
    let rows = c.loop-name.invariant.table.rows in
    let low : place < length mid = omega arith in
    let item : get_or mid place c.index-table-place_of.result ≡ get_or mid place [] = get_or_default mid place c.index-table-place_of.result [] low in
    let with : IsWith (get_or mid place []) c.args.nonterminal row = subst (λ (s : List Bool). IsWith s c.args.nonterminal row) item c.insert.ensures.members in
    let long : length row ≡ file.grammar.nonterminals = c.insert.ensures.length ∙ ap (λ (s : List Bool). length s) item ∙ c.loop-name.invariant.table.each place [] low in
    record {
      table = set_table file.grammar.tokens file.grammar.nonterminals place mid row c.loop-name.invariant.table long;
      taken =
          taken_more (IsTokenName file) (λ (taken : List (List ℕ)). IsWithTokens file taken c.args.nonterminal old mid) (λ (taken : List (List ℕ)). IsWithTokens file taken c.args.nonterminal old (set mid place row))
          (names_in c.args.names) (names_in c.loop-name.rest) c.loop-name.invariant.taken name (names_in c.next.new.self) c.in-Some.ensures (token, named)
          (λ taken before. more_tokens file c.args.nonterminal old mid (set mid place row) taken name token named
          (with_pair mid place row low c.args.nonterminal with token (omega arith)) before);
    }

pub returns-in-None-clause-known : goal.returns-in-None-clause-known
returns-in-None-clause-known c = (
  λ e. absurd cc,
  λ each. absurd (taken_not (IsTokenName c.args.file.now) (λ (taken : List (List ℕ)). IsWithTokens c.args.file.now taken c.args.nonterminal c.args.table.now c.loop-name.table)
      (names_in c.args.names) (names_in c.loop-name.rest) c.loop-name.invariant.taken c.in-Some.name.now (names_in c.next.new.self) c.in-Some.ensures
      (λ known. c.in-None.ensures.none known.0 known.1) each),
)

pub returns-clause-known : goal.returns-clause-known
returns-clause-known c = (
  λ e. (taken_all (IsTokenName c.args.file.now) (λ (taken : List (List ℕ)). IsWithTokens c.args.file.now taken c.args.nonterminal c.args.table.now c.loop-name.table)
      (names_in c.args.names) (names_in c.loop-name.rest) c.loop-name.invariant.taken c.in_default.ensures).0,
  λ h. refl,
)

pub returns-clause-put : goal.returns-clause-put
returns-clause-put c =
    (taken_all (IsTokenName c.args.file.now) (λ (taken : List (List ℕ)). IsWithTokens c.args.file.now taken c.args.nonterminal c.args.table.now c.loop-name.table)
    (names_in c.args.names) (names_in c.loop-name.rest) c.loop-name.invariant.taken c.in_default.ensures).1
