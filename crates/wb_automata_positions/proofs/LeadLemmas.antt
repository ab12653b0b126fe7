-- From each leaf of an expression some text leads to its end.
use Rattle.std.proofs.Common.{◌≡◌, ℕ, ◌+◌, ◌≤◌, ◌<◌, List, [], ◌∷◌, ◌++◌, refl, sym, ap, subst, arith, inl, inr, Some, length, get_or}
use Rattle.std.specs.Prelude.{slice_get}
use Rattle.std.proofs.lemmas.Bool.{cases_lt}
use Rattle.wb_regex.specs.Tree.{Tree, Set, Sequence, Choice, Star, Plus, Maybe}
use Rattle.wb_regex.specs.Covers as w
use Rattle.wb_regex.specs.Filled.{Filled}
use Rattle.wb_regex.specs.Matches.{Matches, byte, both, left, none, once, absent}
use Rattle.wb_regex.specs.declared.node.RegexNode.{RegexNode}
use Rattle.wb_regex.specs.declared.node.RegexNode.TheVariants as n
use Rattle.wb_automata_positions.specs.declared.places.Place.{Place}
use Rattle.wb_automata_positions.specs.declared.places.Place.TheVariants as p
use Rattle.wb_automata_positions.specs.Places.{Runs, moves}
use Rattle.wb_automata_positions.specs.Tables.{LeadsOn}
use Rattle.wb_automata_positions.proofs.ReachLemmas.{complete}
use Rattle.wb_automata_positions.proofs.RunLemmas.{IsMade}

-- some text matches an expression in which no byte set is empty
pub some_text : (tree : Tree) → Filled tree → (x : List ℕ) × Matches tree x
some_text (Set words) (b, h) = (b ∷ [], byte h refl)
some_text (Sequence r s) (f, g) = (let (x, m) = some_text r f in let (y, k) = some_text s g in (x ++ y, both m k refl))
some_text (Choice r s) (f, g) = (let (x, m) = some_text r f in (x, left m))
some_text (Star r) f = ([], none refl)
some_text (Plus r) f = (let (x, m) = some_text r f in (x ++ [], once m (none refl) refl))
some_text (Maybe r) f = ([], absent refl)

module _ (nodes : List RegexNode) (next : List ℕ) (places : List Place) (h : IsMade nodes next places) where
  abbrev after : ℕ → ℕ
  after i = get_or next i 0

  at_node : (i j : ℕ) (node : RegexNode) → slice_get nodes j ≡ Some node → i ≡ j → slice_get nodes i ≡ Some node
  at_node i j node is e = subst (λ z. slice_get nodes z ≡ Some node) (sym e) is

  from_same : (i j : ℕ) → i ≡ j → LeadsOn places j → LeadsOn places i
  from_same i j e l = subst (LeadsOn places) (sym e) l

  -- a match of the node leads on to where it goes on
  through : {s e : ℕ} {tree : Tree} → w.Covers nodes s e tree → Filled tree → (i : ℕ) → e ≡ i + 1 → LeadsOn places (after i)
      → LeadsOn places i
  through {s} {e} {tree} c filled i g l =
      let (x, m) = some_text tree filled in
      record {
        number = l.number;
        text = x ++ l.text;
        runs = complete nodes next places h l.number c i x l.text (x ++ l.text) g m l.runs refl;
      }

  along : (i q : ℕ) (place : Place) → slice_get places i ≡ Some place → ((number : ℕ) (x : List ℕ) → Runs places q number x
      → Runs places i number x) → LeadsOn places q → LeadsOn places i
  along i q place at run l = record { number = l.number; text = l.text; runs = run l.number l.text l.runs }

  pub leads_each : {s e : ℕ} {tree : Tree} → w.Covers nodes s e tree → Filled tree → (i : ℕ) → e ≡ i + 1 → LeadsOn places (after i)
      → (q : ℕ) → s ≤ q → q < e → LeadsOn places (after q)
  leads_each (w.set {s = s} words at f) filled i g l q ge lt = from_same (after q) (after i) (ap after (let k : q ≡ i = omega arith in k)) l
  leads_each (w.sequence a b c d at f) (fill, fill') i g l q ge lt =
      let here = at_node i (b + 1) (n.Sequence a b) at (omega arith) in
      let (to_b, to_next) = h.continues i (n.Sequence a b) here in
      let last : LeadsOn places (after b) = from_same (after b) (after i) to_next l in
      elim (cases_lt q (a + 1)) [
        | inl early ↦ leads_each c fill a refl (from_same (after a) b to_b (through d fill' b refl last)) q ge early
        | inr past ↦ elim (cases_lt q (b + 1)) [
          | inl late ↦ leads_each d fill' b refl last q past late
          | inr own ↦ from_same (after q) (after i) (ap after (let k : q ≡ i = omega arith in k)) l
        ]
      ]
  leads_each (w.choice a b c d at f) (fill, fill') i g l q ge lt =
      let here = at_node i (b + 1) (n.Choice a b) at (omega arith) in
      let (left_next, right_next) = h.continues i (n.Choice a b) here in
      elim (cases_lt q (a + 1)) [
        | inl early ↦ leads_each c fill a refl (from_same (after a) (after i) left_next l) q ge early
        | inr past ↦ elim (cases_lt q (b + 1)) [
          | inl late ↦ leads_each d fill' b refl (from_same (after b) (after i) right_next l) q past late
          | inr own ↦ from_same (after q) (after i) (ap after (let k : q ≡ i = omega arith in k)) l
        ]
      ]
  leads_each (w.star a c at f) filled i g l q ge lt =
      let here = at_node i (a + 1) (n.Star a) at (omega arith) in
      let again : LeadsOn places i = along i (after i) (p.Fork a (after i)) (h.first i (n.Star a) here)
      (λ number x run. moves (p.Fork a (after i)) (after i) (h.first i (n.Star a) here) (inr refl) run) l in
      elim (cases_lt q (a + 1)) [
        | inl early ↦ leads_each c filled a refl (from_same (after a) i (h.continues i (n.Star a) here) again) q ge early
        | inr own ↦ from_same (after q) (after i) (ap after (let k : q ≡ i = omega arith in k)) l
      ]
  leads_each (w.plus a c at f) filled i g l q ge lt =
      let here = at_node i (a + 1) (n.Plus a) at (omega arith) in
      let again : LeadsOn places (length nodes + i) = along (length nodes + i) (after i) (p.Fork a (after i)) (h.again i (n.Plus a) here)
      (λ number x run. moves (p.Fork a (after i)) (after i) (h.again i (n.Plus a) here) (inr refl) run) l in
      elim (cases_lt q (a + 1)) [
        | inl early ↦ leads_each c filled a refl (from_same (after a) (length nodes + i) (h.continues i (n.Plus a) here) again) q ge early
        | inr own ↦ from_same (after q) (after i) (ap after (let k : q ≡ i = omega arith in k)) l
      ]
  leads_each (w.maybe a c at f) filled i g l q ge lt =
      let here = at_node i (a + 1) (n.Maybe a) at (omega arith) in
      elim (cases_lt q (a + 1)) [
        | inl early ↦ leads_each c filled a refl (from_same (after a) (after i) (h.continues i (n.Maybe a) here) l) q ge early
        | inr own ↦ from_same (after q) (after i) (ap after (let k : q ≡ i = omega arith in k)) l
      ]
