-- What a walk over a text knows: its stack after each leaf, and what its end says of the text.
use Rattle.std.proofs.Common.{◌≡◌, ◌<◌, ℕ, List, [], ◌∷◌, ◌++◌, refl, sym, subst, arith}
use Rattle.wb_base.specs.declared.symbol.Symbol.{Symbol}
use Rattle.wb_base.specs.declared.symbol.Symbol.TheVariants.{Terminal}
use Rattle.wb_grammar_theory.specs.Lookaheads.{CanShift}
use Rattle.wb_grammar_theory.specs.Productions.{end_of}
use Rattle.wb_grammar_theory.specs.Trees.{Forest, leaf, leaves, nothing, symbols}
use Rattle.wb_scan_theory.specs.declared.stop_kind.StopKind.{StopKind}
use Rattle.wb_scan_theory.specs.declared.stop_kind.StopKind.TheVariants.{NoToken, Unexpected}
use Rattle.wb_scan_theory.specs.Machine.{Follows, Keeps, joined}
use Rattle.wb_scan_theory.specs.Parts.{IsPrefixOf}
use Rattle.wb_scan_theory.specs.Readings.{AreOnText, Gives, StopsFor, terminals_of}
use Rattle.wb_scan_theory.specs.Texts.{ParsesTo}
use Rattle.wb_scan_theory.specs.Tokens.{Next, NextToken, missing, over, token}
use Rattle.wb_scan_theory.proofs.BackLemmas.{whole}
use Rattle.wb_scan_theory.proofs.FactLemmas.{has_trees, parsable}
use Rattle.wb_scan_theory.proofs.ForestLemmas.{symbols_joined}
use Rattle.wb_scan_theory.proofs.StepLemmas.{accept_gives, first_follows, first_keeps, shift_follows, shift_keeps}
use Rattle.wb_scan_theory.proofs.TextLemmas.{is_one}
use Rattle.wb_scan_theory.proofs.UniqueLemmas.{one_gift}
use Rattle.wb_scan.specs.Views.{LanguageParts}
use Rattle.wb_parser_states.specs.declared.outcome.Outcome.{Outcome}
use Rattle.wb_parser_states.specs.declared.outcome.Outcome.TheVariants.{Shifts, Accepts, Stops}
use Rattle.wb_parser_states.specs.Stacks.{AreStates, last_or}
use Rattle.wb_parser_states.proofs.ReadyLemmas.{scanned}
use Rattle.wb_parser_states.proofs.StateLemmas.{leaf_push}
use Rattle.wb_parser_expected.specs.Inner.Trials.{HasTables, IsTried, Reaches, Stands}
use Rattle.wb_parser_expected.specs.Inner.Walks.{HasRead, HasStopped}
use Rattle.wb_parser_expected.proofs.TrialLemmas.{tried_never}

module _ (parts : LanguageParts) (text : List ℕ) where
  -- at the beginning nothing was read
  pub first_read : (states : List ℕ) → states ≡ [] → HasRead parts text states 0
  first_read states is = record {
    stack = nothing;
    states_are = subst (λ z. AreStates parts.language.grammar parts.tables [] z nothing) (sym is) tt;
    keeps = first_keeps parts.language.grammar (NextToken parts.language text);
    follows = λ t. first_follows parts.language.grammar t;
  }

  -- the machine stands before each terminal
  pub stands_at : {states : List ℕ} {at : ℕ} → (h : HasRead parts text states at) → (t : ℕ) →
      Stands parts.language.grammar parts.tables states h.stack t
  stands_at h t =
      record { states_are = h.states_are; derived = h.keeps.derived; viable = h.keeps.is_prefix; follows = h.follows t }

  module _ (has : HasTables parts) where
    -- what was scanned at the state on top is next
    pub next_is : {states : List ℕ} {at : ℕ} → (h : HasRead parts text states at) → (slice : List ℕ) (top : ℕ) (next : Next) →
        top ≡ last_or 0 slice → slice ≡ states →
        ((prefix : List Symbol) → IsPrefixOf parts.language.grammar parts.tables top prefix →
        NextToken parts.language text prefix at next) → NextToken parts.language text (symbols h.stack) at next
    next_is {states} {at} h slice top next top_is slice_is found =
        scanned parts text has.tables_of states slice h.stack (symbols h.stack) h.states_are refl at top next top_is slice_is found

    -- the machine keeps what it has to after reductions before what is next
    pub keeps_on : {states : List ℕ} {at : ℕ} → (h : HasRead parts text states at) → (s : Next) (t place : ℕ) →
        NextToken parts.language text (symbols h.stack) at s → Gives parts.language.grammar s t place → {states' : List ℕ} →
        (r : Reaches parts.language.grammar parts.tables t h.stack states') →
        Keeps parts.language.grammar (NextToken parts.language text) r.stack' (symbols h.stack) at
    keeps_on {at = at} h s t place n gives r =
        let g = parts.language.grammar in
        record {
          derived = r.stands.derived;
          is_prefix = r.stands.viable;
          on_text = subst (λ z. AreOnText (NextToken parts.language text) [] 0 z (symbols h.stack) at) (sym r.leaves_are) h.keeps.on_text;
          follows = λ s' u place' is gives'.
              let there : Gives g s' t place = subst (λ z. Gives g z t place)
              (is_one parts.language has.language text (symbols h.stack) at s s' n is) gives in
              subst (λ z. Follows g r.stack' z) ((one_gift g s' t u place place' there gives').1) r.stands.follows;
        }

    -- a token that can be shifted is read
    pub read_more : {states : List ℕ} {at : ℕ} → (h : HasRead parts text states at) → (states' pushed : List ℕ) (begin t : ℕ)
        (lexeme : List ℕ) (after target : ℕ) →
        NextToken parts.language text (symbols h.stack) at (token begin t lexeme after) → IsTried parts t states states' (Shifts target) →
        pushed ≡ states' ++ target ∷ [] → HasRead parts text pushed after
    read_more {at = at} h states' pushed begin t lexeme after target n tried pushed_is =
        let g = parts.language.grammar in
        let free = (parsable g has.language.deterministic).free in
        let c = tried h.stack (stands_at h t) in
        let stack : Forest = c.reaches.stack' in
        let new : Forest = joined stack (leaf t lexeme nothing) in
        let named : symbols new ≡ symbols stack ++ Terminal t ∷ [] = symbols_joined stack (leaf t lexeme nothing) in
        let keeps = shift_keeps g free (NextToken parts.language text) stack (symbols h.stack) at
        (keeps_on h (token begin t lexeme after) t begin n (refl, refl) c.reaches) begin t lexeme after n c.can in
        record {
          stack = new;
          states_are = subst (λ z. AreStates g parts.tables [] z new) (sym pushed_is)
              (leaf_push g parts.tables [] states' stack target t lexeme c.reaches.stands.states_are c.goes);
          keeps = subst (λ z. Keeps g (NextToken parts.language text) new z after) (sym named) keeps;
          follows = λ u. shift_follows g free stack t lexeme c.can c.reaches.stands.follows u;
        }

    -- where the end is next, and is accepted, the text has a tree
    pub is_whole : {states : List ℕ} {at : ℕ} → (h : HasRead parts text states at) → (states' : List ℕ) (t place : ℕ) →
        t ≡ end_of parts.language.grammar → NextToken parts.language text (symbols h.stack) at (over place) →
        IsTried parts t states states' Accepts → (tree : Forest) × ParsesTo parts.language text tree
    is_whole {at = at} h states' t place t_is n tried =
        let g = parts.language.grammar in
        let w = tried h.stack (stands_at h t) in (
          w.reaches.stack',
          accept_gives g (NextToken parts.language text) w.reaches.stack' (symbols h.stack) at place
              (keeps_on h (over place) t place n (sym t_is, refl) w.reaches) n w.root,
        )

    -- the text stops, where what is next stops it
    pub stops_on : {states : List ℕ} {at : ℕ} → (h : HasRead parts text states at) → (found : Next) (place : ℕ) (kind : StopKind) →
        NextToken parts.language text (symbols h.stack) at found →
        StopsFor parts.language.grammar found (terminals_of (leaves [] h.stack)) place kind → HasStopped parts text states place kind
    stops_on {at = at} h found place kind n stops =
        let g = parts.language.grammar in
        let w = whole g (has_trees g has.language.deterministic) h.stack h.keeps.derived h.keeps.is_prefix in
        record {
          at = at;
          read = h;
          stop = record {
            tree = w.tree;
            is_tree = w.is_tree;
            read = leaves [] h.stack;
            rest = w.rest;
            is = w.is;
            prefix = symbols h.stack;
            at = at;
            on_text = h.keeps.on_text;
            found = found;
            is_next = n;
            stops = stops;
          };
          leaves_are = refl;
        }

    -- it stops at nothing
    pub stops_at_nothing : {states : List ℕ} {at : ℕ} → (h : HasRead parts text states at) → (place : ℕ) →
        NextToken parts.language text (symbols h.stack) at (missing place) → HasStopped parts text states place NoToken
    stops_at_nothing h place n = stops_on h (missing place) place NoToken n refl

    -- it stops at a terminal that is next, with which no tree goes on
    pub stops_before : {states : List ℕ} {at : ℕ} → (h : HasRead parts text states at) → (found : Next) (t place : ℕ) (states' : List ℕ) →
        NextToken parts.language text (symbols h.stack) at found → Gives parts.language.grammar found t place →
        IsTried parts t states states' Stops → HasStopped parts text states place (Unexpected t)
    stops_before {states} h found t place states' n gives tried =
        stops_on h found place (Unexpected t) n (gives, tried_never parts has t states states' tried h.stack (stands_at h t))

    -- so it does at a token that can't be shifted
    pub stops_at_token : {states : List ℕ} {at : ℕ} → (h : HasRead parts text states at) → (states' : List ℕ) (begin t : ℕ)
        (lexeme : List ℕ) (after : ℕ) (outcome : Outcome) → t < parts.language.grammar.terminals →
        NextToken parts.language text (symbols h.stack) at (token begin t lexeme after) →
        IsTried parts t states states' outcome → ((target : ℕ) → outcome ≡ Shifts target → ⊥) →
        HasStopped parts text states begin (Unexpected t)
    stops_at_token h states' begin t lexeme after (Shifts target) lt n tried not = absurd (not target refl)
    stops_at_token h states' begin t lexeme after Accepts lt n tried not =
        let e : t ≡ end_of parts.language.grammar = (tried h.stack (stands_at h t)).is_end in absurd (omega (arith, e, lt))
    stops_at_token h states' begin t lexeme after Stops lt n tried not =
        stops_before h (token begin t lexeme after) t begin states' n (refl, refl) tried

    -- and at the end of the text, where that isn't accepted
    pub stops_at_end : {states : List ℕ} {at : ℕ} → (h : HasRead parts text states at) → (states' : List ℕ) (t place : ℕ)
        (outcome : Outcome) → t ≡ end_of parts.language.grammar → NextToken parts.language text (symbols h.stack) at (over place) →
        IsTried parts t states states' outcome → (outcome ≡ Accepts → ⊥) → HasStopped parts text states place (Unexpected t)
    stops_at_end h states' t place (Shifts target) t_is n tried not =
        let g = parts.language.grammar in
        let c = tried h.stack (stands_at h t) in
        absurd ((parsable g has.language.deterministic).no_end (symbols c.reaches.stack')
        (subst (λ z. CanShift g (symbols c.reaches.stack') z) t_is c.can))
    stops_at_end h states' t place Accepts t_is n tried not = absurd (not refl)
    stops_at_end h states' t place Stops t_is n tried not = stops_before h (over place) t place states' n (sym t_is, refl) tried
