-- How an automaton is followed along a text by what is listed of its states.
use Rattle.std.proofs.Common.{◌≡◌, ◌<◌, ◌≤◌, ◌+◌, ℕ, List, [], ◌∷◌, ◌++◌, length, get_or, refl, inl, inr, arith}
use Rattle.std.specs.Prelude.{◌↔◌, IsNone, Option, Some, false, slice_get, true}
use Rattle.wb_automata.specs.Automata.{AutomatonView, GoesOn, LeadsTo}
use Rattle.wb_scan.specs.declared.landing.Landing.{Landing}
use Rattle.wb_scan.specs.Inner.Longest.{IsKeptTo, IsReached}
use Rattle.wb_scan.specs.Inner.Rankings.{AreMarked}
use Rattle.wb_scan.specs.Words.{accepts_in}
use Rattle.wb_scan.proofs.LandingLemmas.{no_landing}
use Rattle.wb_scan.proofs.LongestLemmas.{IsReading, reading_init, reading_passes, reading_finds, reading_stops, reading_halts, reading_ends}
use Rattle.wb_scan.proofs.LongestLemmas.{seen_stops, seen_halts, seen_ends}

-- the text up to a place was read, and of the state of the longest match so far this landing is kept
pub record IsReadingBy (automaton : AutomatonView) (landings : List Landing) (set : ℕ) (text : List ℕ) (at place state end : ℕ)
    (landing : Landing) : Type 0 where
  pub found : ℕ
  pub reading : IsReading automaton set text at place state found end
  pub kept : IsKeptTo landings at found end landing

module _ (automaton : AutomatonView) (landings : List Landing) (set : ℕ) (text : List ℕ) (at : ℕ) where
  pub by_init : (state : ℕ) → at ≤ length text → LeadsTo automaton set [] state → state < length automaton.paths →
      IsReadingBy automaton landings set text at at state at no_landing
  by_init state size leads below =
      record { found = state; reading = reading_init automaton set text at state size leads below; kept = inl (refl, refl) }

  module _ (place state end : ℕ) (landing : Landing) (by : IsReadingBy automaton landings set text at place state end landing) where
    -- one byte further, to a state that is listed
    module _ (marked : AreMarked automaton landings) (next b : ℕ) (to : Landing) (lt : place < length text) (b_is : b ≡ get_or text place 0)
        (below : next < length automaton.paths)
        (leads : (s : ℕ) (x : List ℕ) → LeadsTo automaton s x state → LeadsTo automaton s (x ++ b ∷ []) next)
        (listed : slice_get landings next ≡ Some to) where
      pub by_passes : accepts_in to.word ≡ false → IsReadingBy automaton landings set text at (place + 1) next end landing
      by_passes e =
          let mark = marked next to listed in
          record {
            found = by.found;
            reading = reading_passes automaton set text at place state by.found end next b by.reading lt b_is below leads mark.accepted
                mark.exact (mark.none e);
            kept = by.kept;
          }

      pub by_finds : accepts_in to.word ≡ true → IsReadingBy automaton landings set text at (place + 1) next (place + 1) to
      by_finds e =
          let mark = marked next to listed in
          let from = by.reading.longest.from in
          let within = by.reading.longest.within in
          record {
            found = next;
            reading = reading_finds automaton set text at place state by.found end next b by.reading lt b_is below leads mark.accepted
                mark.exact (mark.some e);
            kept = inr (omega (arith, from, within), listed);
          }

    -- where no match goes on with the next byte
    pub by_stops : (b : ℕ) (step : Option ℕ) → place < length text → b ≡ get_or text place 0 →
        ((s : ℕ) (x : List ℕ) → LeadsTo automaton s x state → IsNone step ↔ (¬ GoesOn automaton s (x ++ b ∷ []))) → IsNone step →
        IsReached automaton landings set text at (record { end = end; landing = landing; examined = place + 1 })
    by_stops b step lt b_is none is = record {
      state = by.found;
      below = by.reading.found_below;
      longest = reading_stops automaton set text at place state by.found end b step by.reading lt b_is none is;
      kept = by.kept;
      seen = seen_stops automaton set text at place state by.found end b step by.reading lt b_is none is;
    }

    -- where none goes on from the state
    pub by_halts : ((s byte : ℕ) (x : List ℕ) → LeadsTo automaton s x state → ¬ GoesOn automaton s (x ++ byte ∷ [])) →
        IsReached automaton landings set text at (record { end = end; landing = landing; examined = place + 1 })
    by_halts never = record {
      state = by.found;
      below = by.reading.found_below;
      longest = reading_halts automaton set text at place state by.found end by.reading never;
      kept = by.kept;
      seen = seen_halts automaton set text at place state by.found end by.reading never;
    }

    -- where the text ends
    pub by_ends : length text ≤ place →
        IsReached automaton landings set text at (record { end = end; landing = landing; examined = place + 1 })
    by_ends le = record {
      state = by.found;
      below = by.reading.found_below;
      longest = reading_ends automaton set text at place state by.found end by.reading le;
      kept = by.kept;
      seen = seen_ends automaton set text at place state by.found end by.reading le;
    }
