-- Candidates that were taken one after another.
use Rattle.std.proofs.Common.{◌≡◌, true, false, List, [], ◌∷◌, ◌++◌, append_assoc, length, refl, sym, ap, ◌∙◌, subst, ℕ, Option, None, Some}
use Rattle.std.specs.Prelude.{All, IfNone}
use Rattle.std.proofs.lemmas.List.Elements.{All-append, All-cons, All-head, All-nil, All-tail}
use Rattle.cs_choices.specs.declared.operators.Operators.{Operators}
use Rattle.cs_deep.proofs.OnEdits.Ahead.{meets, passes}
use Rattle.cs_deep.specs.Edits.Candidates.{AreCandidates, IsCandidate, LooksAhead, StandsAhead, Takes, TakesNext, TellsAt, edits_in}
use Rattle.cs_deep.specs.declared.edits.candidates.Ahead.{Ahead}
use Rattle.cs_deep.specs.declared.edits.candidates.Ahead.TheVariants.{Found, Unknown}
use Rattle.cs_deep.specs.declared.edits.candidates.Candidate.{Candidate}
use Rattle.cs_grammar.specs.Grammar.{PlainGrammar}
use Rattle.cs_mutate.proofs.Searching.{edits_fit}
use Rattle.cs_mutate.specs.Edit.{Fits}
use Rattle.cs_mutate.specs.Edits.{edits}
use Rattle.cs_mutate.specs.Negatives.{Finds, Search, search_of}
use Rattle.cs_mutate.specs.declared.negative.Negative.{Negative}
use Rattle.cs_mutate.specs.declared.edit.Edit.{Edit}

pub takes_none : (s : Search) (batch : List Candidate) → batch ≡ [] → Takes s batch s
takes_none s batch none = record {
  grammar = refl;
  base = refl;
  edits = ap (λ (l : List Candidate). edits_in l ++ s.edits) (sym none);
  each = subst (λ (l : List Candidate). All (IsCandidate s.grammar s.base) l) (sym none) (All-nil (IsCandidate s.grammar s.base));
}

edits_push : (batch : List Candidate) (c : Candidate) → edits_in (batch ++ c ∷ []) ≡ edits_in batch ++ c.edit ∷ []
edits_push [] c = refl
edits_push (x ∷ batch) c = ap (λ (l : List Edit). x.edit ∷ l) (edits_push batch c)

each_push : (P : Candidate → Type 0) (batch : List Candidate) (c : Candidate) → All P batch → P c → All P (batch ++ c ∷ [])
each_push P batch c each here = All-append P batch (c ∷ []) each (All-cons P c [] here (All-nil P))

pub takes_more : (old mid new : Search) (batch more : List Candidate) (c : Candidate) → Takes old batch mid → TakesNext mid (Some c) new → new.grammar ≡ mid.grammar → new.base ≡ mid.base
    → more ≡ batch ++ c ∷ [] → Takes old more new
takes_more old mid new batch more c far next grammar base is =
    let here = subst (λ (w : List ℕ). IsCandidate old.grammar w c) far.base (subst (λ (g : PlainGrammar). IsCandidate g mid.base c) far.grammar next.1) in
    let whole : old.edits ≡ edits_in (batch ++ c ∷ []) ++ new.edits =
    far.edits ∙ ap (λ (l : List Edit). edits_in batch ++ l) next.0 ∙ sym (append_assoc (edits_in batch) (c.edit ∷ []) new.edits)
    ∙ ap (λ (l : List Edit). l ++ new.edits) (sym (edits_push batch c)) in
    record {
      grammar = grammar ∙ far.grammar;
      base = base ∙ far.base;
      edits = whole ∙ ap (λ (l : List Candidate). edits_in l ++ new.edits) (sym is);
      each = subst (λ (l : List Candidate). All (IsCandidate old.grammar old.base) l) (sym is) (each_push (IsCandidate old.grammar old.base) batch c far.each here);
    }

-- no edit was left
pub takes_last : (old mid new : Search) (batch : List Candidate) → Takes old batch mid → mid.edits ≡ [] → new.edits ≡ [] → new.grammar ≡ mid.grammar → new.base ≡ mid.base → Takes old batch new
takes_last old mid new batch far none still grammar base = record {
  grammar = grammar ∙ far.grammar;
  base = base ∙ far.base;
  edits = far.edits ∙ ap (λ (l : List Edit). edits_in batch ++ l) (none ∙ sym still);
  each = far.each;
}

-- nothing was taken where no edit was left
pub none_taken : (old mid : Search) (batch : List Candidate) → Takes old batch mid → mid.edits ≡ [] → batch ≡ [] → old.edits ≡ []
none_taken old mid batch far none empty = far.edits ∙ ap (λ (l : List Edit). edits_in batch ++ l) none ∙ ap (λ (l : List Candidate). edits_in l ++ []) empty

-- none was given
pub none_given : (old new : Search) (found : Option Candidate) → ((c : Candidate) → found ≡ Some c → ⊥) → TakesNext old found new → (old.edits ≡ []) × (new.edits ≡ [])
none_given old new None not_some next = next
none_given old new (Some c) not_some next = absurd (not_some c refl)

-- ---- a search that has begun

module _ (g : PlainGrammar) (w : List ℕ) (c : Operators) (many : ℕ) (list : List Edit) (s : Search)
    (is : s ≡ search_of g w c) (list_is : list ≡ edits many w c) (many_is : many ≡ g.tokens) where
  all : list ≡ edits g.tokens w c
  all = list_is ∙ ap (λ (n : ℕ). edits n w c) many_is

  pub begun : AreCandidates (record { grammar = s.grammar; base = s.base; edits = list }) Unknown s
  begun =
      let here : AreCandidates (record { grammar = g; base = w; edits = list }) Unknown (search_of g w c) =
      record { fits = subst (λ (l : List Edit). All (Fits (length w) g.tokens) l) (sym all) (edits_fit g.tokens w c); stands = sym all } in
      subst (λ (x : Search). AreCandidates (record { grammar = x.grammar; base = x.base; edits = list }) Unknown x) (sym is) here

  pub begun_is : record { grammar = s.grammar; base = s.base; edits = list } ≡ search_of g w c
  begun_is =
      let first : Search → Search = λ (x : Search). record { grammar = x.grammar; base = x.base; edits = list } in
      let second : List Edit → Search = λ (l : List Edit). record { grammar = g; base = w; edits = l } in
      ap first is ∙ ap second all

-- ---- one edit after another

-- what is found ahead is the first negative of the edits that are left
pub looked : (list : List Edit) (ahead : Ahead) (old : Search) (found : Option Negative) (new : Search) → StandsAhead (record { grammar = old.grammar; base = old.base; edits = list }) ahead old.edits
    → LooksAhead ahead old found new → Finds old.grammar old.base list found new.edits
looked list Unknown old found new stands looks = subst (λ (l : List Edit). Finds old.grammar old.base l found new.edits) stands looks
looked list (Found f) old found new stands looks =
    subst (λ (l : List Edit). Finds old.grammar old.base list found l) (sym looks.1) (subst (λ (x : Option Negative). Finds old.grammar old.base list x old.edits) (sym looks.0) stands)

-- none was given of the edits
pub no_edit : {P : Type 0} (found : Option Edit) → ((e : Edit) → found ≡ Some e → ⊥) → IfNone found P → P
no_edit None not_some so = so
no_edit (Some e) not_some so = absurd (not_some e refl)

-- the second walk refused, so that all stands as before
pub refused_so : (list : List Edit) (ahead : Ahead) (old new : Search) → AreCandidates (record { grammar = old.grammar; base = old.base; edits = list }) ahead old → new.grammar ≡ old.grammar
    → new.base ≡ old.base → new.edits ≡ old.edits → AreCandidates (record { grammar = new.grammar; base = new.base; edits = list }) ahead new
refused_so list ahead old new is grammar base edits =
    let same : old ≡ new =
    ap (λ (g : PlainGrammar). record { grammar = g; base = old.base; edits = old.edits }) (sym grammar)
    ∙ ap (λ (w : List ℕ). record { grammar = new.grammar; base = w; edits = old.edits }) (sym base)
    ∙ ap (λ (l : List Edit). record { grammar = new.grammar; base = new.base; edits = l }) (sym edits) in
    subst (λ (s : Search). AreCandidates (record { grammar = s.grammar; base = s.base; edits = list }) ahead s) same is

-- what was looked for is known of these edits
pub record HasLooked (list : List Edit) (found : Option Negative) (s : Search) : Type 0 where
  pub fits : All (Fits (length s.base) s.grammar.tokens) list
  pub finds : Finds s.grammar s.base list found s.edits

pub looked_so : (list : List Edit) (ahead : Ahead) (old : Search) (found : Option Negative) (new : Search) → AreCandidates (record { grammar = old.grammar; base = old.base; edits = list }) ahead old
    → LooksAhead ahead old found new → new.grammar ≡ old.grammar → new.base ≡ old.base → HasLooked list found new
looked_so list ahead old found new is looks grammar base = record {
  fits = subst (λ (g : PlainGrammar). All (Fits (length new.base) g.tokens) list) (sym grammar) (subst (λ (w : List ℕ). All (Fits (length w) old.grammar.tokens) list) (sym base) is.fits);
  finds = subst (λ (g : PlainGrammar). Finds g new.base list found new.edits) (sym grammar)
      (subst (λ (w : List ℕ). Finds old.grammar w list found new.edits) (sym base) (looked list ahead old found new is.stands looks));
}

module _ (list : List Edit) (found : Option Negative) (s : Search) (has : HasLooked list found s) where
  -- no edit is left
  pub none_ahead : (rest : List Edit) → list ≡ [] → rest ≡ [] → AreCandidates (record { grammar = s.grammar; base = s.base; edits = rest }) (Found found) s
  none_ahead rest none still =
      let same : list ≡ rest = none ∙ sym still in
      record {
        fits = subst (λ (l : List Edit). All (Fits (length s.base) s.grammar.tokens) l) same has.fits;
        stands = subst (λ (l : List Edit). Finds s.grammar s.base l found s.edits) same has.finds;
      }

  module _ (edit : Edit) (rest : List Edit) (is : list ≡ edit ∷ rest) where
    fits : All (Fits (length s.base) s.grammar.tokens) (edit ∷ rest)
    fits = subst (λ (l : List Edit). All (Fits (length s.base) s.grammar.tokens) l) is has.fits

    finds : Finds s.grammar s.base (edit ∷ rest) found s.edits
    finds = subst (λ (l : List Edit). Finds s.grammar s.base l found s.edits) is has.finds

    left_fit : All (Fits (length s.base) s.grammar.tokens) rest
    left_fit = All-tail (Fits (length s.base) s.grammar.tokens) edit rest fits

    first_fits : Fits (length s.base) s.grammar.tokens edit
    first_fits = All-head (Fits (length s.base) s.grammar.tokens) edit rest fits

    -- the first edit is the negative that stands ahead
    pub met_left : TellsAt found edit true → AreCandidates (record { grammar = s.grammar; base = s.base; edits = rest }) Unknown s
    met_left at = record { fits = left_fit; stands = (meets s.grammar s.base found s.edits rest edit finds at).1 }

    met_is : TellsAt found edit true → IsCandidate s.grammar s.base (record { edit = edit; negative = true })
    met_is at = record { fits = first_fits; marked = (meets s.grammar s.base found s.edits rest edit finds at).0 }

    -- it isn't
    pub passed_left : TellsAt found edit false → AreCandidates (record { grammar = s.grammar; base = s.base; edits = rest }) (Found found) s
    passed_left at = record { fits = left_fit; stands = (passes s.grammar s.base found s.edits rest edit finds at).1 }

    passed_is : TellsAt found edit false → IsCandidate s.grammar s.base (record { edit = edit; negative = false })
    passed_is at = record { fits = first_fits; marked = (passes s.grammar s.base found s.edits rest edit finds at).0 }

    -- what was taken of the search as it stood before
    module _ (old : Search) (list_is : old.edits ≡ list) (grammar : s.grammar ≡ old.grammar) (base : s.base ≡ old.base) where
      taken : (c : Candidate) → c.edit ≡ edit → IsCandidate s.grammar s.base c → TakesNext old (Some c) (record { grammar = s.grammar; base = s.base; edits = rest })
      taken c its candidate = (
        list_is ∙ is ∙ ap (λ (e : Edit). e ∷ rest) (sym its),
        subst (λ (w : List ℕ). IsCandidate old.grammar w c) base (subst (λ (g : PlainGrammar). IsCandidate g s.base c) grammar candidate),
      )

      pub met_taken : TellsAt found edit true → TakesNext old (Some (record { edit = edit; negative = true })) (record { grammar = s.grammar; base = s.base; edits = rest })
      met_taken at = taken (record { edit = edit; negative = true }) refl (met_is at)

      pub passed_taken : TellsAt found edit false → TakesNext old (Some (record { edit = edit; negative = false })) (record { grammar = s.grammar; base = s.base; edits = rest })
      passed_taken at = taken (record { edit = edit; negative = false }) refl (passed_is at)
