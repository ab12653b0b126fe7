-- Numbers that are moved up: below and past a bound, and once each.
use Rattle.std.proofs.Common.{◌≡◌, ◌≢◌, ◌+◌, ◌-◌, ◌<◌, ◌≤◌, ◌∙◌, ◌⊎◌, ℕ, refl, sym, ap, inl, inr, arith}
use Rattle.std.proofs.lemmas.Bool.{cond_below, cond_above, cases_lt}
use Rattle.wb_base.specs.Grammar.{GrammarView}
use Rattle.wb_grammar_theory.specs.declared.item.Item.{Item}
use Rattle.wb_determinism.specs.declared.numbers.Numbers.{Numbers}
use Rattle.wb_determinism.specs.Extensions.{IsPartOf, numbers_of}
use Rattle.wb_determinism.specs.Inner.Numbers.{AreInTurn}
use Rattle.wb_determinism.specs.Numbers.{lifted, item_up}

-- the numbers of a host's grammar and of one of which it is a part
pub numbers_in_turn : (host both : GrammarView) (holes : ℕ) → IsPartOf host both holes → AreInTurn (numbers_of host both holes)
numbers_in_turn host both holes part = record {
  own_terminals = omega arith;
  terminals = part.more_terminals;
  own_productions = omega arith;
  productions = part.more_productions;
}

pub lifted_below : (own more n : ℕ) → n < own → lifted own more n ≡ n
lifted_below own more n below = sym (cond_below n own n (n + more) below)

pub lifted_past : (own more n : ℕ) → own ≤ n → lifted own more n ≡ n + more
lifted_past own more n past = sym (cond_above n own n (n + more) (n + more) past refl)

-- no two numbers are moved to one
pub lifted_once : (own more a b : ℕ) → lifted own more a ≡ lifted own more b → a ≡ b
lifted_once own more a b same = both (cases_lt a own) (cases_lt b own)
  where
    both : (a < own) ⊎ (own ≤ a) → (b < own) ⊎ (own ≤ b) → a ≡ b
    both (inl x) (inl y) = sym (lifted_below own more a x) ∙ same ∙ lifted_below own more b y
    both (inl x) (inr y) =
        let p = lifted_below own more a x in
        let q = lifted_past own more b y in
        omega (arith, x, y, p, q, same)
    both (inr x) (inl y) =
        let p = lifted_past own more a x in
        let q = lifted_below own more b y in
        omega (arith, x, y, p, q, same)
    both (inr x) (inr y) =
        let p = lifted_past own more a x in
        let q = lifted_past own more b y in
        omega (arith, x, y, p, q, same)

-- no two items
pub item_up_once : (m : Numbers) (a b : Item) → item_up m a ≡ item_up m b → a ≡ b
item_up_once m a b same =
    let production = lifted_once m.own_productions (m.both_productions - m.host_productions) a.production b.production
    (ap (λ (i : Item). i.production) same) in
    let dot = ap (λ (i : Item). i.dot) same in
    (λ k. record { production = production k; dot = dot k })

-- a number between the host's own and what comes after the extension's is none that was moved
pub none_between : (own more number n : ℕ) → own ≤ number → number < own + more → number ≢ lifted own more n
none_between own more number n from to same = by (cases_lt n own)
  where
    by : (n < own) ⊎ (own ≤ n) → ⊥
    by (inl below) = let p = lifted_below own more n below in omega (arith, from, to, p, same)
    by (inr past) = let p = lifted_past own more n past in omega (arith, from, to, p, same)
