-- What becomes of a leaf: what was scanned is next after leaves without markers, and is read, a marker, or the end of the walk.
use Rattle.std.proofs.Common.{◌≡◌, ◌<◌, ◌≤◌, ℕ, Bool, List, [], ◌∷◌, ◌++◌, length, take, refl, sym, ◌∙◌, ap, subst, arith, slice_range}
use Rattle.std.specs.Prelude.{All}
use Rattle.std.proofs.Math.Seq.{take-append_seam}
use Rattle.std.proofs.lemmas.List.{take_all}
use Rattle.std.proofs.lemmas.List.Elements.{All-push}
use Rattle.wb_base.specs.declared.symbol.Symbol.{Symbol}
use Rattle.wb_termset.specs.Sets.{IsMember}
use Rattle.wb_grammar_theory.specs.Productions.{end_of}
use Rattle.wb_grammar_theory.specs.Trees.{Leaf}
use Rattle.wb_lookahead.specs.Contents.{size_of}
use Rattle.wb_scan_theory.specs.Facts.{IsLanguage}
use Rattle.wb_scan_theory.specs.Parts.{AreTablesOf, IsPrefixOf}
use Rattle.wb_scan_theory.specs.Tokens.{Next, NextToken, token}
use Rattle.wb_scan_theory.proofs.TokenLemmas.{taken}
use Rattle.wb_scan.specs.Scans.{next_in, IsInside}
use Rattle.wb_scan.specs.Views.{LanguageParts}
use Rattle.wb_scan.specs.declared.scanned.Scanned.{Scanned}
use Rattle.wb_scan.specs.declared.scanned.Scanned.TheVariants.{Token, End, NoToken}
use Rattle.wb_parser_states.specs.declared.outcome.Outcome.{Outcome}
use Rattle.wb_parser_states.specs.declared.outcome.Outcome.TheVariants.{Shifts, Accepts, Stops}
use Rattle.wb_parser_states.specs.Stacks.{last_or}
use Rattle.wb_parser_states.specs.Steps.{AreAt, AreReached, HasOutcome, IsOutcome}
use Rattle.wb_parser_states.proofs.ReadyLemmas.{first_ready, scanned, shifted}
use Rattle.wb_parser_states.proofs.StateLemmas.{top_pushed}
use Rattle.wb_reading_theory.specs.Markers.{HasNoMarker, IsMarkerAt, IsPlain}
use Rattle.wb_reading_theory.proofs.EndLemmas.{stack_marker}
use Rattle.wb_reading_theory.proofs.TreeLemmas.{plain_joined}
use Rattle.wb_reading.specs.declared.ahead.Ahead.TheVariants.{Marker, Leaf as OtherLeaf, NoLeaf}
use Rattle.wb_reading.specs.declared.leaf.Round.TheVariants.{Goes}
use Rattle.wb_reading.specs.declared.leaf.Stop.{Stop}
use Rattle.wb_reading.specs.declared.leaf.Stop.TheVariants.{Asks, Done}
use Rattle.wb_reading.specs.Inner.Walks.{AreSound, HasRead, IsAhead, IsAsked, StaysSound, StopsSound}
use Rattle.wb_reading.proofs.WalkLemmas.{ended_plain, stuck_plain}

-- leaves without markers were read up to the place, and this is next
pub record IsNext (parts : LanguageParts) (markers : List Bool) (text states : List ℕ) (at : ℕ) (next : Next) : Type 0 where
  pub read : List Leaf
  pub plain : HasNoMarker markers read
  pub prefix : List Symbol
  pub are : AreAt parts text states read prefix at
  pub is_next : NextToken parts.language text prefix at next

-- what is ahead is a leaf that is no marker, and is next
pub record IsLeafAhead (markers : List Bool) (t end : ℕ) (next : Next) : Type 0 where
  pub begin : ℕ
  pub lexeme : List ℕ
  pub is : next ≡ token begin t lexeme end
  pub unmarked : ¬ IsMember markers t

-- the bounds of such a leaf
pub record IsLeafInside (count size from t end : ℕ) : Type 0 where
  pub below : t < count
  pub on : from < end
  pub within : end ≤ size

module _ (markers : List Bool) (text : List ℕ) where
  -- where no leaf is ahead, no token is next
  no_token : (answer : Scanned) → IsAhead markers answer NoLeaf → (begin t : ℕ) (piece : List ℕ) (after : ℕ) →
      next_in text answer ≡ token begin t piece after → ⊥
  no_token (Token terminal at lexeme end) is begin t piece after e = absurd is
  no_token (End at) is begin t piece after e = cc
  no_token (NoToken at) is begin t piece after e = cc

  pub leaf_ahead : (answer : Scanned) (t end : ℕ) → IsAhead markers answer (OtherLeaf t end) →
      IsLeafAhead markers t end (next_in text answer)
  leaf_ahead (Token terminal at lexeme after) t end (not, t_is, end_is) = record {
    begin = at;
    lexeme = slice_range text lexeme after;
    is = λ k. token at (sym t_is k) (slice_range text lexeme after) (sym end_is k);
    unmarked = subst (λ z. ¬ IsMember markers z) (sym t_is) not;
  }
  leaf_ahead (End at) t end is = absurd is
  leaf_ahead (NoToken at) t end is = absurd is

  pub leaf_inside : (answer : Scanned) (count size from t end : ℕ) → IsInside count size from answer →
      IsAhead markers answer (OtherLeaf t end) → IsLeafInside count size from t end
  leaf_inside (Token terminal at lexeme after) count size from t end (below, on, first, second, some, within) (not, t_is, end_is) = record {
    below = subst (λ z. z < count) (sym t_is) below;
    on = omega (arith, on, some, end_is);
    within = omega (arith, within, end_is);
  }
  leaf_inside (End at) count size from t end inside is = absurd is
  leaf_inside (NoToken at) count size from t end inside is = absurd is

module _ (parts : LanguageParts) (markers : List Bool) (text : List ℕ) where
  -- at the beginning nothing was read
  pub first_read : (states : List ℕ) → states ≡ [] → HasRead parts markers text states 0
  first_read states is = ([], tt, first_ready parts text states is)

  -- what was scanned at the state on top is next
  pub next_is : AreTablesOf parts.language.grammar parts.tables → (states slice : List ℕ) (at top : ℕ) (next : Next) →
      top ≡ last_or 0 slice → slice ≡ states →
      ((prefix : List Symbol) → IsPrefixOf parts.language.grammar parts.tables top prefix →
      NextToken parts.language text prefix at next) → HasRead parts markers text states at → IsNext parts markers text states at next
  next_is of states slice at top next top_is slice_is found (read, plain, (prefix, are, same)) = record {
    read = read;
    plain = plain;
    prefix = prefix;
    are = are;
    is_next = scanned parts text of states slice are.stack prefix are.states_are same at top next top_is slice_is found;
  }

  module _ (ok : IsLanguage parts.language) where
    -- where no leaf is ahead, there is no marker
    pub ended : (states : List ℕ) (at : ℕ) (answer : Scanned) → IsNext parts markers text states at (next_in text answer) →
        IsAhead markers answer NoLeaf → IsPlain parts.language markers text
    ended states at answer n is =
        ended_plain parts.language markers ok text n.are.stack n.prefix at n.are.keeps
        (subst (HasNoMarker markers) (sym n.are.leaves_are) n.plain) (next_in text answer) n.is_next (no_token markers text answer is)

    -- a marker that is ahead is the first
    pub marked : (states : List ℕ) (at : ℕ) (answer : Scanned) (begin t : ℕ) → IsNext parts markers text states at (next_in text answer) →
        IsAhead markers answer (Marker begin t) → IsMarkerAt parts.language markers text begin t
    marked states at (Token terminal place lexeme end) begin t n (marks, begin_is, t_is) =
        let first = stack_marker parts.language markers ok text n.are.stack n.prefix at n.are.keeps
        (subst (HasNoMarker markers) (sym n.are.leaves_are) n.plain) place terminal (slice_range text lexeme end) end n.is_next
        marks in
        subst (λ z. IsMarkerAt parts.language markers text z t) (sym begin_is)
        (subst (λ z. IsMarkerAt parts.language markers text place z) (sym t_is) first)
    marked states at (End place) begin t n is = absurd is
    marked states at (NoToken place) begin t n is = absurd is

    -- what can be done on a token that is next
    pub outcome_is : (states states' : List ℕ) (at begin t : ℕ) (lexeme : List ℕ) (after : ℕ) (outcome : Outcome) →
        (n : IsNext parts markers text states at (token begin t lexeme after)) → HasOutcome parts t states states' outcome →
        IsOutcome parts text t states' n.read n.prefix at outcome
    outcome_is states states' at begin t lexeme after outcome n has =
        has text n.read n.prefix at begin (token begin t lexeme after) n.is_next (refl, refl) n.are

    -- a token that is no marker and can be shifted is read
    pub read_more : (states states' pushed : List ℕ) (at begin t : ℕ) (lexeme : List ℕ) (after target : ℕ) →
        IsNext parts markers text states at (token begin t lexeme after) → HasOutcome parts t states states' (Shifts target) →
        pushed ≡ states' ++ target ∷ [] → ¬ IsMember markers t → HasRead parts markers text pushed after
    read_more states states' pushed at begin t lexeme after target n has pushed_is unmarked =
        let (x, t_is, ready) = shifted parts text ok states' pushed n.read n.prefix at begin t lexeme after target pushed_is n.is_next
        (outcome_is states states' at begin t lexeme after (Shifts target) n has) in (
          n.read ++ x ∷ [],
          plain_joined markers n.read (x ∷ []) n.plain (subst (λ z. ¬ IsMember markers z) (sym t_is) unmarked, tt),
          ready,
        )

    -- where a token that is no marker can't be shifted, there is no marker
    pub stopped : (states states' : List ℕ) (at begin t : ℕ) (lexeme : List ℕ) (after : ℕ) (outcome : Outcome) →
        ((target : ℕ) → outcome ≡ Shifts target → ⊥) → IsNext parts markers text states at (token begin t lexeme after) →
        HasOutcome parts t states states' outcome → ¬ IsMember markers t → IsPlain parts.language markers text
    stopped states states' at begin t lexeme after (Shifts target) not n has unmarked = absurd (not target refl)
    stopped states states' at begin t lexeme after Accepts not n has unmarked =
        let whole = outcome_is states states' at begin t lexeme after Accepts n has in
        let e : t ≡ end_of parts.language.grammar = whole.is_end in
        let h : t < end_of parts.language.grammar = (taken ok.written n.is_next begin t lexeme after refl).0 in absurd (omega arith)
    stopped states states' at begin t lexeme after Stops not n has unmarked =
        let stuck = outcome_is states states' at begin t lexeme after Stops n has in
        stuck_plain parts.language markers ok text stuck.are.stack n.prefix at stuck.are.keeps
        (subst (HasNoMarker markers) (sym stuck.are.leaves_are) n.plain) begin t lexeme after n.is_next unmarked stuck.no_shift
        stuck.no_reduction

  -- a leaf that is ahead is asked for at the states that are reached
  pub leaf_asked : (states others : List ℕ) (at kept : ℕ) (answer : Scanned) (t end : ℕ) →
      IsNext parts markers text states at (next_in text answer) → IsAhead markers answer (OtherLeaf t end) →
      AreReached parts t states others kept → IsAsked parts markers text (take kept others) t end
  leaf_asked states others at kept answer t end n is reached =
      let leaf = leaf_ahead markers text answer t end is in
      let next = subst (IsNext parts markers text states at) leaf.is n in
      record {
        read = next.read;
        plain = next.plain;
        prefix = next.prefix;
        at = at;
        are = reached.carries text next.read next.prefix at leaf.begin (token leaf.begin t leaf.lexeme end) next.is_next (refl, refl) next.are;
        begin = leaf.begin;
        lexeme = leaf.lexeme;
        is_next = next.is_next;
        unmarked = leaf.unmarked;
      }

  -- and it is of the grammar, and ends further on
  pub stops_sound : (states others : List ℕ) (at kept : ℕ) (answer : Scanned) (t end : ℕ) → AreSound parts states →
      IsInside parts.language.grammar.terminals (length text) at answer → IsAhead markers answer (OtherLeaf t end) →
      AreReached parts t states others kept → StopsSound parts (length text) at others (Asks kept t end)
  stops_sound states others at kept answer t end sound inside is reached =
      let bounds = leaf_inside markers text answer parts.language.grammar.terminals (length text) at t end inside is in
      let below : t < parts.language.grammar.terminals = bounds.below in (
        record { language = sound.language; tables_of = sound.tables_of; states_below = reached.below },
        bounds.on,
        bounds.within,
        omega (arith, below),
      )

  -- what is asked for is next
  pub asked_next : (states : List ℕ) (t after : ℕ) (asked : IsAsked parts markers text states t after) →
      IsNext parts markers text states asked.at (token asked.begin t asked.lexeme after)
  asked_next states t after asked = record {
    read = asked.read;
    plain = asked.plain;
    prefix = asked.prefix;
    are = asked.are;
    is_next = asked.is_next;
  }

  -- with one state of the tables more, the states are those of the tables
  pub sound_pushed : (states states' pushed : List ℕ) (target : ℕ) → AreSound parts states → All (λ s. s < size_of parts.tables) states' →
      pushed ≡ states' ++ target ∷ [] → target < size_of parts.tables → AreSound parts pushed
  sound_pushed states states' pushed target sound below pushed_is lt = record {
    language = sound.language;
    tables_of = sound.tables_of;
    states_below = subst (All (λ s. s < size_of parts.tables)) (sym pushed_is) (All-push (λ s. s < size_of parts.tables) states' target below lt);
  }

  -- where a leaf was shifted, the first states are those of the tables, and the text goes on further, at the last of them
  pub stays_sound : (states states' new : List ℕ) (count at : ℕ) (answer : Scanned) (t end target state : ℕ) → AreSound parts states →
      All (λ s. s < size_of parts.tables) states' → take count new ≡ states' ++ target ∷ [] → count ≤ length new →
      target < size_of parts.tables → IsInside parts.language.grammar.terminals (length text) at answer →
      IsAhead markers answer (OtherLeaf t end) → state ≡ target → StaysSound parts (length text) at new (Goes end state count)
  stays_sound states states' new count at answer t end target state sound below new_is count_le lt inside is state_is =
      let bounds = leaf_inside markers text answer parts.language.grammar.terminals (length text) at t end inside is in (
        sound_pushed states states' (take count new) target sound below new_is lt,
        bounds.on,
        bounds.within,
        state_is ∙ top_pushed states' (take count new) target new_is,
        count_le,
      )

-- what ends further on than a place does so than one before it
pub stops_from : (parts : LanguageParts) (size from at : ℕ) (states : List ℕ) (stop : Stop) → from ≤ at → StopsSound parts size at states stop →
    StopsSound parts size from states stop
stops_from parts size from at states (Asks kept t end) le (sound, on, within, below) = (sound, omega (arith, on, le), within, below)
stops_from parts size from at states (Done found) le sound = tt

-- a list that was made longer begins with what it had
pub begins_so : (old longer slice after : List ℕ) (count size : ℕ) → count ≡ length old → count ≤ size → longer ≡ take size old ++ after →
    slice ≡ longer → take count slice ≡ old
begins_so old longer slice after count size count_is le longer_is slice_is =
    ap (take count) (slice_is ∙ (longer_is ∙ ap (λ z. z ++ after) (take_all size old (omega (arith, count_is, le))))) ∙
    (ap (λ k. take k (old ++ after)) count_is ∙ take-append_seam old after)

-- the first of what came into the place of a whole list
pub first_of : (new after shorter : List ℕ) (size kept : ℕ) → length new ≡ size → shorter ≡ take kept (take size (new ++ after)) →
    shorter ≡ take kept new
first_of new after shorter size kept size_is is =
    is ∙ ap (take kept) (ap (λ k. take k (new ++ after)) (sym size_is) ∙ take-append_seam new after)
