-- Nodes whose parts come before them, and which expression of a list has a place.
use Rattle.std.proofs.Common.{◌≡◌, ℕ, zero, suc, ◌+◌, ◌≤◌, ◌<◌, sym, subst, arith, inl, inr, add-one}
use Rattle.std.proofs.lemmas.Bool.{cases_lt}
use Rattle.wb_regex.specs.declared.node.RegexNode.{RegexNode}
use Rattle.wb_regex.specs.declared.node.RegexNode.TheVariants as n
use Rattle.wb_automata_positions.specs.Inner.Parts.{PartsBelow}

pub parts_more : (node : RegexNode) (i m : ℕ) → i ≤ m → PartsBelow i node → PartsBelow m node
parts_more (n.Set words) i m le h = h
parts_more (n.Sequence a b) i m le (x, y) = (omega arith, omega arith)
parts_more (n.Choice a b) i m le (x, y) = (omega arith, omega arith)
parts_more (n.Star a) i m le h = omega arith
parts_more (n.Plus a) i m le h = omega arith
parts_more (n.Maybe a) i m le h = omega arith

pub record Located (bound : ℕ → ℕ) (m j : ℕ) : Type 0 where
  pub number : ℕ
  pub lt : number < m
  pub least : bound number ≤ j
  pub below : j < bound (number + 1)

pub locate : (bound : ℕ → ℕ) (m j : ℕ) → bound 0 ≡ 0 → j < bound m → Located bound m j
locate bound zero j z lt = absurd (omega arith)
locate bound (suc m) j z lt = elim (cases_lt j (bound m)) [
  | inl less ↦ let l =
      locate bound m j z less in let k = l.lt in record { number = l.number; lt = omega arith; least = l.least; below = l.below }
  | inr past ↦ record { number = m; lt = omega arith; least = past; below = subst (λ k. j < bound k) (sym (add-one m)) lt }
]
