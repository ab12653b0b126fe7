-- The first state that accepts has the least text.
use Rattle.std.proofs.Common.{◌≡◌, ℕ, ◌+◌, ◌≤◌, ◌<◌, Bool, List, [], ◌∷◌, ◌++◌, refl, sym, ◌∙◌, ap, subst, arith, inl, inr, Some, length}
use Rattle.std.proofs.Common.{get_or, append-nil}
use Rattle.std.specs.Prelude.{slice_get}
use Rattle.std.proofs.lemmas.Bool.{cases_eq, cases_lt}
use Rattle.std.proofs.lemmas.Option.{slice_get-get_or, slice_get_within, same_Some}
use Rattle.wb_regex.specs.Filled.{Filled}
use Rattle.wb_regex.specs.Tree.{Tree, Set, Sequence, Choice, Star, Plus, Maybe}
use Rattle.wb_regex.specs.Matches as w
use Rattle.wb_termset.specs.Sets.{IsMember}
use Rattle.wb_automata.specs.Order.{IsAtMost}
use Rattle.wb_automata.specs.Automata.{AutomatonView, Path, IsMatch, MatchesIn, GoesOn, LeadsTo, IsOrdered}
use Rattle.wb_automata.specs.Inner.LeastStates.{HasAll, IsLeastState, AreApartBelow}
use Rattle.wb_automata.specs.Overlaps.{IsLeastMatch}
use Rattle.wb_automata.proofs.OrderLemmas.{IsLatest, latest_next}
use Rattle.wb_automata.proofs.WalkLemmas.{alike_same}

-- an expression whose sets hold bytes matches some text
pub filled_match : (t : Tree) → Filled t → (x : List ℕ) × w.Matches t x
filled_match (Set words) (b, h) = (b ∷ [], w.byte h refl)
filled_match (Sequence r s) (f, g) = let (x, m) = filled_match r f in let (y, k) = filled_match s g in (x ++ y, w.both m k refl)
filled_match (Choice r s) (f, g) = let (x, m) = filled_match r f in (x, w.left m)
filled_match (Star r) f = ([], w.none refl)
filled_match (Plus r) f = let (x, m) = filled_match r f in (x ++ [], w.once m (w.none refl) refl)
filled_match (Maybe r) f = ([], w.absent refl)

pub match_goes : (automaton : AutomatonView) (s k : ℕ) (x : List ℕ) → MatchesIn automaton s k x → GoesOn automaton s x
match_goes automaton s k x m = record { terminal = k; rest = []; is = subst (MatchesIn automaton s k) (sym (append-nil x)) m }

-- the path of a state leads to it
pub path_leads : (automaton : AutomatonView) (state : ℕ) (path : Path) → slice_get automaton.paths state ≡ Some path
    → LeadsTo automaton path.set path.text state
path_leads automaton state path at = record { path = path; at = at; alike = alike_same automaton path }

-- a text that leads to none of the first states isn't earlier than the path of the next
pub late_path : (automaton : AutomatonView) (state s : ℕ) (path : Path) (text : List ℕ) → IsOrdered automaton
    → slice_get automaton.paths state ≡ Some path → GoesOn automaton s text →
    ((early : ℕ) → early < state → LeadsTo automaton s text early → ⊥) → IsLatest (record { set = s; text = text }) path
late_path automaton state s path text ordered at g apart =
    let f = ordered.every s text g in
    elim (cases_lt f.state state) [
      | inl early ↦ absurd (apart f.state early f.leads)
      | inr late ↦ elim (cases_eq f.state state) [
        | inl same ↦ subst (IsLatest (record { set = s; text = text }))
            (same_Some f.leads.path path (sym f.leads.at ∙ ap (slice_get automaton.paths) same ∙ at)) f.least
        | inr after ↦ latest_next path f.leads.path (record { set = s; text = text })
            (inr (ordered.sorted state f.state path f.leads.path (omega arith) at f.leads.at)) f.least
      ]
    ]

-- the first state that accepts
pub least_state : (automaton : AutomatonView) (terminal state : ℕ) → IsOrdered automaton → state < length automaton.paths
    → AreApartBelow automaton terminal state →
    ((s : ℕ) (text : List ℕ) → LeadsTo automaton s text state → MatchesIn automaton s terminal text) → IsLeastState automaton terminal state
least_state automaton terminal state ordered lt apart accepts =
    let path : Path = get_or automaton.paths state (record { set = 0; text = [] }) in
    let at : slice_get automaton.paths state ≡ Some path = slice_get-get_or automaton.paths state (record { set = 0; text = [] }) lt in
    record {
      path = path;
      at = at;
      matches = accepts path.set path.text (path_leads automaton state path at);
      least = λ s other m. late_path automaton state s path other ordered at (match_goes automaton s terminal other m)
          (λ early less leads. apart early s other less leads m);
    }

-- no state accepts
pub none_accepts : (automaton : AutomatonView) (terminal n : ℕ) → IsOrdered automaton → length automaton.paths ≤ n
    → AreApartBelow automaton terminal n → (s : ℕ) (text : List ℕ) → ¬ MatchesIn automaton s terminal text
none_accepts automaton terminal n ordered le apart s text m =
    let f = ordered.every s text (match_goes automaton s terminal text m) in
    apart f.state s text (omega (arith, slice_get_within automaton.paths f.state f.leads.path f.leads.at)) f.leads m

-- one state more
pub apart_more : (automaton : AutomatonView) (terminal n : ℕ) → AreApartBelow automaton terminal n →
    ((s : ℕ) (text : List ℕ) → LeadsTo automaton s text n → ¬ MatchesIn automaton s terminal text)
    → AreApartBelow automaton terminal (n + 1)
apart_more automaton terminal n before here state s text lt l m = elim (cases_lt state n) [
  | inl early ↦ before state s text early l m
  | inr late ↦ here s text (subst (LeadsTo automaton s text) (let e : state ≡ n = omega arith in e) l) m
]

-- what a terminal matches
pub tree_matches : (terminals : List Tree) (k : ℕ) (r : Tree) (x : List ℕ) → slice_get terminals k ≡ Some r → IsMatch terminals k x
    → w.Matches r x
tree_matches terminals k r x at m = subst (λ z. w.Matches z x) (same_Some m.tree r (sym m.at ∙ at)) m.matches

-- all terminals are in the one set
pub in_all : (automaton : AutomatonView) (n k : ℕ) (r : Tree) (x : List ℕ) → HasAll n automaton.sets → k < n
    → slice_get automaton.terminals k ≡ Some r → w.Matches r x → MatchesIn automaton 0 k x
in_all automaton n k r x h lt at m = record {
  considered = record { flags = h.set; at = ap (λ z. slice_get z 0) h.one; has = h.all k lt };
  is = record { tree = r; at = at; matches = m };
}

-- the path of a state that isn't later than a text from the one start has no later text
pub at_most : (path : Path) (shared : List ℕ) → IsLatest (record { set = 0; text = shared }) path → IsAtMost path.text shared
at_most path shared (inl e) = inl (ap (λ z. z.text) e)
at_most path shared (inr (inl lt)) = absurd (omega arith)
at_most path shared (inr (inr (same, before))) = inr before

-- the text of the first state that accepts a terminal is the least that it matches
pub least_of : (automaton : AutomatonView) (n k : ℕ) (r : Tree) (state : ℕ) (text : List ℕ) → HasAll n automaton.sets → k < n
    → slice_get automaton.terminals k ≡ Some r → ((path : Path) → slice_get automaton.paths state ≡ Some path → text ≡ path.text)
    → IsLeastState automaton k state → IsLeastMatch r text
least_of automaton n k r state text all lt at is l =
    subst (IsLeastMatch r) (sym (is l.path l.at)) (record {
      matches = tree_matches automaton.terminals k r l.path.text at l.matches.is;
      least = λ other m. at_most l.path other (l.least 0 other (in_all automaton n k r other all lt at m));
    })

-- one set of all numbers below the count, as far as it is made
pub record AllBelow (set : List Bool) (count i : ℕ) : Type 0 where
  pub len : length set ≡ count
  pub all : (t : ℕ) → t < i → IsMember set t
