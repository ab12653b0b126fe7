-- How an automaton is followed along a text.
use Rattle.std.proofs.Common.{◌≡◌, ◌<◌, ◌≤◌, ◌+◌, ℕ, List, [], ◌∷◌, ◌++◌, length, get_or, refl, sym, ◌∙◌, ap, subst, inl, inr, arith}
use Rattle.std.specs.Prelude.{◌↔◌, ◌==◌, Bool, true, false, Contains, IsNone, None, Option, slice_range}
use Rattle.std.proofs.lemmas.Bool.{cases_lt}
use Rattle.wb_scan.proofs.RangeLemmas.{range_none, range_snoc, range_split}
use Rattle.wb_lemmas.proofs.Numbers.{eqb_true, eqb_false}
use Rattle.wb_lemmas.proofs.Parts.{no_elements}
use Rattle.wb_lemmas.proofs.Members.{nothing_in, contains_first}
use Rattle.wb_automata.specs.Automata.{AutomatonView, LeadsTo, MatchesIn, GoesOn}
use Rattle.wb_scan.specs.Inner.Longest.{IsLongest, IsSeenTo}

-- the text up to a place was read, from the start of the set to a state, with the longest match so far
pub record IsReading (automaton : AutomatonView) (set : ℕ) (text : List ℕ) (at place state found end : ℕ) : Type 0 where
  pub size : place ≤ length text
  pub here : LeadsTo automaton set (slice_range text at place) state
  pub below : state < length automaton.paths
  pub longest : IsLongest automaton set text at place found end
  pub found_below : found < length automaton.paths

pub reading_init : (automaton : AutomatonView) (set : ℕ) (text : List ℕ) (at state : ℕ) → at ≤ length text →
    LeadsTo automaton set [] state → state < length automaton.paths → IsReading automaton set text at at state state at
reading_init automaton set text at state size leads below = record {
  size = size;
  here = subst (λ z. LeadsTo automaton set z state) (sym (range_none text at at (omega arith))) leads;
  below = below;
  longest = record {
    from = omega arith;
    within = omega arith;
    matched = inl refl;
    none_after =
        λ other terminal lt le m. absurd (omega arith);
  };
  found_below = below;
}

-- the text up to one place further
pub piece_more : (text : List ℕ) (at place : ℕ) → at ≤ place → place < length text →
    slice_range text at (place + 1) ≡ slice_range text at place ++ get_or text place 0 ∷ []
piece_more text at place from lt = range_snoc text at place 0 from lt

-- one byte further, at a state that accepts nothing
pub reading_passes : (automaton : AutomatonView) (set : ℕ) (text : List ℕ) (at place state found end next b : ℕ) →
    IsReading automaton set text at place state found end → place < length text → b ≡ get_or text place 0 →
    next < length automaton.paths →
    ((s : ℕ) (x : List ℕ) → LeadsTo automaton s x state → LeadsTo automaton s (x ++ b ∷ []) next) → (accepted : List ℕ) →
    ((terminal s : ℕ) (x : List ℕ) → LeadsTo automaton s x next → Contains accepted terminal ↔ MatchesIn automaton s terminal x) →
    accepted ≡ [] → IsReading automaton set text at (place + 1) next found end
reading_passes automaton set text at place state found end next b r lt b_is below leads accepted exact nothing_is =
    let from : at ≤ end = r.longest.from in
    let within : end ≤ place = r.longest.within in
    let there : LeadsTo automaton set (slice_range text at (place + 1)) next =
    subst (λ z. LeadsTo automaton set z next)
    (ap (λ z. slice_range text at place ++ z ∷ []) b_is ∙ sym (piece_more text at place (omega arith) lt))
    (leads set (slice_range text at place) r.here) in
    record {
      size = omega arith;
      here = there;
      below = below;
      longest = record {
        from = from;
        within = omega arith;
        matched = r.longest.matched;
        none_after = λ other terminal after le m. elim (cases_lt other (place + 1)) [
          | inl early ↦ r.longest.none_after other terminal after (omega arith) m
          | inr late ↦ (let same : other ≡ place + 1 = omega arith in
              let listed : Contains accepted terminal = (exact terminal set (slice_range text at (place + 1)) there).1
              (subst (λ z. MatchesIn automaton set terminal (slice_range text at z)) same m) in
              nothing_in terminal (subst (λ z. Contains z terminal) nothing_is listed))
        ];
      };
      found_below = r.found_below;
    }

-- whether a list is empty, as its length is tested
pub nothing_listed : (xs : List ℕ) (b : Bool) → b ≡ (length xs == 0) → b ≡ true → xs ≡ []
nothing_listed xs b is e = no_elements xs (eqb_true (length xs) 0 (sym is ∙ e))

pub some_listed : (xs : List ℕ) (b : Bool) → b ≡ (length xs == 0) → b ≡ false → xs ≡ [] → ⊥
some_listed xs b is e nil = eqb_false (length xs) 0 (sym is ∙ e) (ap (λ z. length z) nil)

some_one : (accepted : List ℕ) → (accepted ≡ [] → ⊥) → (terminal : ℕ) × Contains accepted terminal
some_one [] some = absurd (some refl)
some_one (x ∷ xs) some = (x, contains_first x xs)

-- one byte further, at a state that accepts something
pub reading_finds : (automaton : AutomatonView) (set : ℕ) (text : List ℕ) (at place state found end next b : ℕ) →
    IsReading automaton set text at place state found end → place < length text → b ≡ get_or text place 0 →
    next < length automaton.paths →
    ((s : ℕ) (x : List ℕ) → LeadsTo automaton s x state → LeadsTo automaton s (x ++ b ∷ []) next) → (accepted : List ℕ) →
    ((terminal s : ℕ) (x : List ℕ) → LeadsTo automaton s x next → Contains accepted terminal ↔ MatchesIn automaton s terminal x) →
    (accepted ≡ [] → ⊥) → IsReading automaton set text at (place + 1) next next (place + 1)
reading_finds automaton set text at place state found end next b r lt b_is below leads accepted exact some =
    let (terminal, listed) = some_one accepted some in
    let from : at ≤ end = r.longest.from in
    let within : end ≤ place = r.longest.within in
    let there : LeadsTo automaton set (slice_range text at (place + 1)) next =
    subst (λ z. LeadsTo automaton set z next)
    (ap (λ z. slice_range text at place ++ z ∷ []) b_is ∙ sym (piece_more text at place (omega arith) lt))
    (leads set (slice_range text at place) r.here) in
    record {
      size = omega arith;
      here = there;
      below = below;
      longest = record {
        from = omega arith;
        within = omega arith;
        matched = inr (omega arith, there, (terminal, (exact terminal set (slice_range text at (place + 1)) there).0 listed));
        none_after = λ other terminal after le m. absurd (omega arith);
      };
      found_below = below;
    }

-- where no match goes on with the next byte
module _ (automaton : AutomatonView) (set : ℕ) (text : List ℕ) (at place state found end b : ℕ) (step : Option ℕ)
    (r : IsReading automaton set text at place state found end) (lt : place < length text) (b_is : b ≡ get_or text place 0)
    (none : (s : ℕ) (x : List ℕ) → LeadsTo automaton s x state → IsNone step ↔ (¬ GoesOn automaton s (x ++ b ∷ []))) (is : IsNone step) where
  stuck : ¬ GoesOn automaton set (slice_range text at (place + 1))
  stuck =
      let from : at ≤ end = r.longest.from in
      let within : end ≤ place = r.longest.within in
      subst (λ z. ¬ GoesOn automaton set z)
      (ap (λ z. slice_range text at place ++ z ∷ []) b_is ∙ sym (piece_more text at place (omega arith) lt))
      ((none set (slice_range text at place) r.here).0 is)

  -- the longest one up to here is the longest
  pub reading_stops : IsLongest automaton set text at (length text) found end
  reading_stops =
      let from : at ≤ end = r.longest.from in
      let within : end ≤ place = r.longest.within in
      record {
        from = from;
        within = omega arith;
        matched = r.longest.matched;
        none_after = λ other terminal after le m. elim (cases_lt place other) [
          | inl late ↦ stuck (record {
            terminal = terminal;
            rest = slice_range text (place + 1) other;
            is = subst (MatchesIn automaton set terminal) (range_split text at (place + 1) other (omega arith) (omega arith)) m;
          })
          | inr early ↦ r.longest.none_after other terminal after (omega arith) m
        ];
      }

  -- and that byte was the last to be looked at
  pub seen_stops : IsSeenTo automaton set text at (place + 1)
  seen_stops =
      let from : at ≤ end = r.longest.from in
      let within : end ≤ place = r.longest.within in (omega arith, inl (omega arith, stuck))

pub reading_ends : (automaton : AutomatonView) (set : ℕ) (text : List ℕ) (at place state found end : ℕ) →
    IsReading automaton set text at place state found end → length text ≤ place → IsLongest automaton set text at (length text) found end
reading_ends automaton set text at place state found end r le =
    let size : place ≤ length text = r.size in
    subst (λ z. IsLongest automaton set text at z found end) (let e : place ≡ length text = omega arith in e) r.longest

-- and so where no match goes on from a state
pub reading_halts : (automaton : AutomatonView) (set : ℕ) (text : List ℕ) (at place state found end : ℕ) →
    IsReading automaton set text at place state found end →
    ((s byte : ℕ) (x : List ℕ) → LeadsTo automaton s x state → ¬ GoesOn automaton s (x ++ byte ∷ [])) →
    IsLongest automaton set text at (length text) found end
reading_halts automaton set text at place state found end r never = elim (cases_lt place (length text)) [
  | inl lt ↦ reading_stops automaton set text at place state found end (get_or text place 0) None r lt refl
      (λ s x leads. (λ e. never s (get_or text place 0) x leads, λ e. refl)) refl
  | inr le ↦ reading_ends automaton set text at place state found end r le
]

-- the end of the text was seen, where it is reached
pub seen_ends : (automaton : AutomatonView) (set : ℕ) (text : List ℕ) (at place state found end : ℕ) →
    IsReading automaton set text at place state found end → length text ≤ place → IsSeenTo automaton set text at (place + 1)
seen_ends automaton set text at place state found end r le =
    let size : place ≤ length text = r.size in
    let from : at ≤ end = r.longest.from in
    let within : end ≤ place = r.longest.within in (omega arith, inr (omega arith))

-- and so where no match goes on from a state
pub seen_halts : (automaton : AutomatonView) (set : ℕ) (text : List ℕ) (at place state found end : ℕ) →
    IsReading automaton set text at place state found end →
    ((s byte : ℕ) (x : List ℕ) → LeadsTo automaton s x state → ¬ GoesOn automaton s (x ++ byte ∷ [])) →
    IsSeenTo automaton set text at (place + 1)
seen_halts automaton set text at place state found end r never = elim (cases_lt place (length text)) [
  | inl lt ↦ seen_stops automaton set text at place state found end (get_or text place 0) None r lt refl
      (λ s x leads. (λ e. never s (get_or text place 0) x leads, λ e. refl)) refl
  | inr le ↦ seen_ends automaton set text at place state found end r le
]
