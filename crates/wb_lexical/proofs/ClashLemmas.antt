-- A state with an undecided pair is a clash by the text of its path, and without one nothing clashes.
use Rattle.std.proofs.Common.{◌≡◌, ℕ, ◌+◌, ◌≤◌, ◌<◌, ◌⊎◌, Bool, List, [], sym, ◌∙◌, ap, subst, arith, inl, inr, Some, length, get_or}
use Rattle.std.specs.Prelude.{slice_get, Contains, ◌↔◌}
use Rattle.std.proofs.lemmas.Bool.{cases_lt}
use Rattle.std.proofs.lemmas.List.{get_or_default}
use Rattle.std.proofs.lemmas.Option.{slice_get-get_or, slice_get_within}
use Rattle.wb_regex.specs.Tree.{Tree}
use Rattle.wb_automata.specs.Order.{IsAtMost}
use Rattle.wb_automata.specs.Automata.{AutomatonView, Path, IsEarlier, IsMatch, MatchesIn, LeadsTo, IsOrdered}
use Rattle.wb_automata.proofs.LeastLemmas.{match_goes, path_leads, late_path}
use Rattle.wb_lexical.specs.Clash.{AreOrdered, IsClash, HasNoClash}
use Rattle.wb_lexical.specs.Inner.Undecided.{IsUndecided, IsLeastClash, HasNoUndecided}

-- with none of the first i as the second, the pair is undecided
abbrev pub NoRightBelow : List ℕ → List (ℕ × ℕ) → ℕ → ℕ → Type 0
NoRightBelow accepted preferences left i = (k : ℕ) → k < i → ¬ IsUndecided accepted preferences left (get_or accepted k 0)

pub right_more : (accepted : List ℕ) (preferences : List (ℕ × ℕ)) (left i : ℕ) → ¬ IsUndecided accepted preferences left
    (get_or accepted i 0) → NoRightBelow accepted preferences left i → NoRightBelow accepted preferences left (i + 1)
right_more accepted preferences left i here before k lt u = elim (cases_lt k i) [
  | inl early ↦ before k early u
  | inr late ↦ here (subst (λ z. IsUndecided accepted preferences left (get_or accepted z 0)) (let e : k ≡ i = omega arith in e) u)
]

pub right_end : (accepted : List ℕ) (preferences : List (ℕ × ℕ)) (left i : ℕ) → length accepted ≤ i
    → NoRightBelow accepted preferences left i → (right : ℕ) → ¬ IsUndecided accepted preferences left right
right_end accepted preferences left i le before right u =
    let (k, lt, is) = u.right_listed in
    before k (omega arith) (subst (IsUndecided accepted preferences left) (sym (get_or_default accepted k 0 right lt ∙ is)) u)

-- with none of the first i as the first, a pair is undecided
abbrev pub NoLeftBelow : List ℕ → List (ℕ × ℕ) → ℕ → Type 0
NoLeftBelow accepted preferences i = (k right : ℕ) → k < i → ¬ IsUndecided accepted preferences (get_or accepted k 0) right

pub left_more : (accepted : List ℕ) (preferences : List (ℕ × ℕ)) (i : ℕ) →
    ((right : ℕ) → ¬ IsUndecided accepted preferences (get_or accepted i 0) right) → NoLeftBelow accepted preferences i
    → NoLeftBelow accepted preferences (i + 1)
left_more accepted preferences i here before k right lt u = elim (cases_lt k i) [
  | inl early ↦ before k right early u
  | inr late ↦ here right (subst (λ z. IsUndecided accepted preferences (get_or accepted z 0) right) (let e : k ≡ i = omega arith in e) u)
]

pub left_end : (accepted : List ℕ) (preferences : List (ℕ × ℕ)) (i : ℕ) → length accepted ≤ i → NoLeftBelow accepted preferences i →
    (left right : ℕ) → ¬ IsUndecided accepted preferences left right
left_end accepted preferences i le before left right u =
    let (k, lt, is) = u.left_listed in
    before k right (omega arith) (subst (λ z. IsUndecided accepted preferences z right) (sym (get_or_default accepted k 0 left lt ∙ is)) u)

-- a state accepts what the texts that lead to it match
abbrev pub Accepts : AutomatonView → ℕ → List ℕ → Type 0
Accepts automaton state accepted = (terminal set : ℕ) (text : List ℕ) → LeadsTo automaton set text state
    → Contains accepted terminal ↔ MatchesIn automaton set terminal text

-- the texts that lead to the first n states have no clash
abbrev pub IsClearBelow : AutomatonView → List (ℕ × ℕ) → ℕ → Type 0
IsClearBelow automaton preferences n = (s set left right : ℕ) (text : List ℕ) → s < n → LeadsTo automaton set text s → left < right
    → MatchesIn automaton set left text → MatchesIn automaton set right text → ¬ ¬ AreOrdered preferences left right

-- one state more
pub clear_more : (automaton : AutomatonView) (accepted : List ℕ) (preferences : List (ℕ × ℕ)) (n : ℕ) → Accepts automaton n accepted →
    ((left right : ℕ) → ¬ IsUndecided accepted preferences left right) → IsClearBelow automaton preferences n
    → IsClearBelow automaton preferences (n + 1)
clear_more automaton accepted preferences n exact decided before s set left right text lt leads less p q free = elim (cases_lt s n) [
  | inl early ↦ before s set left right text early leads less p q free
  | inr late ↦
      let l : LeadsTo automaton set text n = subst (LeadsTo automaton set text) (let e : s ≡ n = omega arith in e) leads in
      decided left right (record {
        less = less;
        left_listed = (exact left set text l).1 p;
        right_listed =
            (exact right set text l).1 q;
        unordered = free;
      })
]

-- all states
pub clear_end : (automaton : AutomatonView) (preferences : List (ℕ × ℕ)) (n : ℕ) → IsOrdered automaton → length automaton.paths ≤ n
    → IsClearBelow automaton preferences n → HasNoUndecided automaton preferences
clear_end automaton preferences n ordered le clear set left right text less p q =
    let f = ordered.every set text (match_goes automaton set left text p) in
    clear f.state set left right text (omega (arith, slice_get_within automaton.paths f.state f.leads.path f.leads.at)) f.leads less p q

-- the first undecided pair is a clash by the text of its state, and that is the least that the two share
pub clash_at : (automaton : AutomatonView) (accepted : List ℕ) (preferences : List (ℕ × ℕ)) (state set left right : ℕ) (text : List ℕ)
    → IsOrdered automaton → state < length automaton.paths → Accepts automaton state accepted → IsClearBelow automaton preferences state →
    ((path : Path) → slice_get automaton.paths state ≡ Some path → set ≡ path.set) →
    ((path : Path) → slice_get automaton.paths state ≡ Some path → text ≡ path.text) → IsUndecided accepted preferences left right
    → IsLeastClash automaton preferences set left right text
clash_at automaton accepted preferences state set left right text ordered lt exact clear is_set is_text u =
    let path : Path = get_or automaton.paths state (record { set = 0; text = [] }) in
    let at : slice_get automaton.paths state ≡ Some path = slice_get-get_or automaton.paths state (record { set = 0; text = [] }) lt in
    let l = path_leads automaton state path at in
    let p : MatchesIn automaton path.set left path.text = (exact left path.set path.text l).0 u.left_listed in
    let q : MatchesIn automaton path.set right path.text = (exact right path.set path.text l).0 u.right_listed in
    subst (λ z. IsLeastClash automaton preferences z left right text) (sym (is_set path at))
    (subst (IsLeastClash automaton preferences path.set left right) (sym (is_text path at)) (record {
      less = u.less;
      left_matches = p;
      right_matches = q;
      unordered = u.unordered;
      least = λ other m k.
          let p' : MatchesIn automaton path.set left other = record { considered = p.considered; is = m } in
          let q' : MatchesIn automaton path.set right other = record { considered = q.considered; is = k } in
          at_most path other (late_path automaton state path.set path other ordered at (match_goes automaton path.set left other p')
          (λ early less leads. clear early path.set left right other less leads u.less p' q' u.unordered));
    }))
  where
    at_most : (path : Path) (other : List ℕ) → (path ≡ record { set = path.set; text = other }) ⊎ IsEarlier path
        (record { set = path.set; text = other }) → IsAtMost path.text other
    at_most path other (inl e) = inl (ap (λ z. z.text) e)
    at_most path other (inr (inl less)) = absurd (omega arith)
    at_most path other (inr (inr (e, before))) = inr before

-- what the automaton of terminals and sets says of them
pub clash_is : (automaton : AutomatonView) (terminals : List Tree) (sets : List (List Bool)) (preferences : List (ℕ × ℕ))
    (set left right : ℕ) (text : List ℕ) → automaton.terminals ≡ terminals → automaton.sets ≡ sets
    → IsLeastClash automaton preferences set left right text → IsClash terminals sets preferences set left right text
clash_is automaton terminals sets preferences set left right text e f c = subst (λ z. IsClash z sets preferences set left right text) e
    (subst (λ z. IsClash automaton.terminals z preferences set left right text) f (record {
      different = (let lt = c.less in λ same. omega arith);
      left_in = c.left_matches.considered;
      right_in = c.right_matches.considered;
      left_matches = c.left_matches.is;
      right_matches = c.right_matches.is;
      unordered = c.unordered;
    }))

pub least_is : (automaton : AutomatonView) (terminals : List Tree) (preferences : List (ℕ × ℕ)) (set left right : ℕ) (text : List ℕ)
    → automaton.terminals ≡ terminals → IsLeastClash automaton preferences set left right text → (other : List ℕ)
    → IsMatch terminals left other → IsMatch terminals right other → IsAtMost text other
least_is automaton terminals preferences set left right text e c =
    subst (λ z. (other : List ℕ) → IsMatch z left other → IsMatch z right other → IsAtMost text other) e c.least

pub no_clash : (automaton : AutomatonView) (terminals : List Tree) (sets : List (List Bool)) (preferences : List (ℕ × ℕ))
    → automaton.terminals ≡ terminals → automaton.sets ≡ sets → HasNoUndecided automaton preferences → HasNoClash terminals sets preferences
no_clash automaton terminals sets preferences e f none = subst (λ z. HasNoClash z sets preferences) e
    (subst (λ z. HasNoClash automaton.terminals z preferences) f (λ set left right text c. elim (cases_lt left right) [
      | inl less ↦ none set left right text less (record { considered = c.left_in; is = c.left_matches })
          (record { considered = c.right_in; is = c.right_matches }) c.unordered
      | inr past ↦ none set right left text (let d = c.different in omega arith) (record { considered = c.right_in; is = c.right_matches })
          (record { considered = c.left_in; is = c.left_matches }) (λ o. c.unordered (elim o [ inl a ↦ inr a | inr b ↦ inl b ]))
    ]))
