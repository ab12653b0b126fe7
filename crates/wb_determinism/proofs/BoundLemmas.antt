-- Productions of items are those of the grammar, or `S' -> S`.
use Rattle.std.proofs.Common.{◌<◌, ◌≤◌, ◌-◌, ◌⊎◌, ℕ, List, length, sym, subst, inl, inr, arith}
use Rattle.std.specs.Prelude.{Contains}
use Rattle.std.proofs.lemmas.Bool.{cases_lt}
use Rattle.wb_base.specs.declared.symbol.Symbol.{Symbol}
use Rattle.wb_base.specs.Grammar.{GrammarView}
use Rattle.wb_grammar_theory.specs.declared.item.Item.{Item}
use Rattle.wb_grammar_theory.specs.Closure.{InClosure, kernel, opened}
use Rattle.wb_grammar_theory.specs.Items.{IsValidItem, start, close, move}
use Rattle.wb_grammar_theory.proofs.ProductionLemmas.{production_within}
use Rattle.wb_determinism.specs.declared.context.Context.{Context}
use Rattle.wb_determinism.specs.declared.numbers.Numbers.{Numbers}
use Rattle.wb_determinism.specs.Numbers.{production_up}
use Rattle.wb_determinism.specs.Inner.Numbers.{AreInTurn}
use Rattle.wb_determinism.specs.Inner.Contexts.{IsContext, host_of}
use Rattle.wb_determinism.specs.Inner.Envelopes.{AreInKernel}
use Rattle.wb_determinism.proofs.NumberLemmas.{lifted_past}

-- of a valid item
pub valid_bound : {g : GrammarView} {prefix : List Symbol} {item : Item} {t : ℕ} → IsValidItem g prefix item t
    → item.production ≤ length g.productions
valid_bound start = omega arith
valid_bound {g} (close item t b rest q u right v is rule first) = let within = production_within g q b right rule in omega (arith, within)
valid_bound {g} (move item x rest prefix {moved = moved} v is longer_is moved_is) =
    subst (λ (i : Item). i.production ≤ length g.productions) (sym moved_is) (valid_bound v)

-- of a closure
pub closure_bound : {g : GrammarView} {K : Item → Type 0} → ((i : Item) → K i → i.production ≤ length g.productions) → {item : Item}
    → InClosure g K item → item.production ≤ length g.productions
closure_bound below (kernel {item = item} k) = below item k
closure_bound {g} below (opened item b rest q right c is rule) = let within = production_within g q b right rule in omega (arith, within)

-- a number that is in range when it was moved was in range before
pub moved_bound : (m : Numbers) → AreInTurn m → (p : ℕ) → production_up m p ≤ m.both_productions → p ≤ m.host_productions
moved_bound m turn p within = by (cases_lt p m.own_productions)
  where
    by : (p < m.own_productions) ⊎ (m.own_productions ≤ p) → p ≤ m.host_productions
    by (inl below) = omega (arith, below, turn.own_productions)
    by (inr past) =
        let is = lifted_past m.own_productions (m.both_productions - m.host_productions) p past in
        omega (arith, is, within, turn.productions)

-- of the closure of the host's items of a kernel
pub own_bound : (c : Context) → IsContext c → (s : ℕ) (own : List Item) → AreInKernel c s own → {item : Item}
    → InClosure (host_of c) (Contains own) item → item.production ≤ c.numbers.now.host_productions
own_bound c h s own are {item = item} within =
    subst (λ (n : ℕ). item.production ≤ n) (sym h.host_productions)
    (closure_bound (λ i listed. subst (λ (n : ℕ). i.production ≤ n) h.host_productions (moved_bound c.numbers.now h.numbers i.production
    (subst (λ (n : ℕ). production_up c.numbers.now i.production ≤ n) (sym h.both_productions) (valid_bound ((are i listed).0).1)))) within)
