-- Items that a nonterminal opens.
use Rattle.std.proofs.Common.{◌≡◌, ℕ, ◌+◌, ◌<◌, ◌≤◌, List, length, Some, refl, sym, ◌∙◌, ap, subst, inl, inr, arith}
use Rattle.std.specs.Prelude.{slice_get, slice_index_or, Contains}
use Rattle.std.proofs.lemmas.Option.{slice_get-get_or}
use Rattle.wb_lemmas.proofs.Members.{contains_at}
use Rattle.wb_base.specs.declared.symbol.Symbol.{Symbol}
use Rattle.wb_base.specs.Grammar.{GrammarView}
use Rattle.wb_grammar_theory.specs.declared.item.Item.{Item}
use Rattle.wb_grammar_theory.specs.Productions.{IsProduction}
use Rattle.wb_grammar_theory.specs.Items.{advance, initial_item, HasItem}
use Rattle.wb_grammar_theory.specs.States.{start, close, move}
use Rattle.wb_grammar_theory.proofs.DotLemmas.{top_no_production}
use Rattle.wb_grammar_theory.proofs.FlowLemmas.{flows_complete, flows_has, same_itself}
use Rattle.wb_grammar_theory.proofs.ProductionLemmas.{production_once, production_within}
use Rattle.wb_items.specs.Apart.{BelongTogether, Opens}
use Rattle.wb_items.specs.Kernels.{KernelsView, AreKernels, count_of, prefix_of}
use Rattle.wb_items.specs.Table.{AreProductionsOf}
use Rattle.wb_lookahead.specs.Inner.Spreading.{FlowsTo, IsProductionOf}

same_initial : (p q : ℕ) → initial_item p ≡ initial_item q → p ≡ q
same_initial p q e = ap (λ (i : Item). i.production) e

no_dot : (item : Item) (q : ℕ) → advance item ≡ initial_item q → ⊥
no_dot item q e = (let f : item.dot + 1 ≡ 0 = ap (λ (i : Item). i.dot) e in omega (arith, f))

-- an item whose dot isn't at the left end is opened by none
pub moved_alone : (g : GrammarView) (item : Item) → 0 < item.dot → (b : ℕ) → ¬ Opens g b item
moved_alone g item lt b (dot, _, _) = omega (arith, dot, lt)

-- and so is one of the added production
pub past_alone : (g : GrammarView) (item : Item) → length g.productions ≤ item.production → (b : ℕ) → ¬ Opens g b item
past_alone g item le b (_, right, rule) = (let lt = production_within g item.production b right rule in omega (arith, le, lt))

-- a listed production of a nonterminal
pub first_listed : (g : GrammarView) (b p : ℕ) (numbers : List ℕ) → AreProductionsOf g b numbers → slice_get numbers 0 ≡ Some p →
    IsProductionOf g b p
first_listed g b p numbers are at = are.sound p (contains_at numbers p 0 at)

-- the same terminals flow to the initial items of a nonterminal
initial_flows : (kernels : KernelsView) {s : ℕ} {item : Item} {t : ℕ} → FlowsTo kernels s item t → (b p q : ℕ) (w v : List Symbol) →
    IsProduction kernels.grammar p b w → IsProduction kernels.grammar q b v → item ≡ initial_item p → FlowsTo kernels s (initial_item q) t
initial_flows kernels start b p q w v one other e = absurd
    (top_no_production kernels.grammar p b w one (sym (ap (λ (i : Item). i.production) e)))
initial_flows kernels (close item t c rest r u right f is rule first) b p q w v one other e =
    let same : r ≡ p = same_initial r p e in
    let same_left : c ≡ b =
    (production_once kernels.grammar p c b right w (subst (λ n. IsProduction kernels.grammar n c right) same rule) one).0 in
    close item t c rest q u v f is (subst (λ n. IsProduction kernels.grammar q n v) (sym same_left) other) first
initial_flows kernels (move item x rest s f is next moved_is) b p q w v one other e = absurd (no_dot item p (sym moved_is ∙ e))

-- and from one initial item to each of its nonterminal
pub initial_flows_all : (kernels : KernelsView) {s : ℕ} {t : ℕ} (b p q : ℕ) (w v : List Symbol) → IsProduction kernels.grammar p b w →
    IsProduction kernels.grammar q b v →
    FlowsTo kernels s (initial_item p) t → FlowsTo kernels s (initial_item q) t
initial_flows_all kernels b p q w v one other f = initial_flows kernels f b p q w v one other refl

-- an item of a kernel's closure has something that flows to it
pub item_flows : {kernels : KernelsView} → AreKernels kernels → (s : ℕ) → s < count_of kernels → (item : Item) →
    HasItem kernels.grammar (prefix_of kernels s) item →
    (t : ℕ) × FlowsTo kernels s item t
item_flows {kernels} h s lt item
    (t, v) = (t, flows_complete (prefix_of kernels) h.live h.states v s lt (same_itself kernels.grammar (prefix_of kernels s)))

-- where an initial item is, all of its nonterminal are
pub initial_all : {kernels : KernelsView} → AreKernels kernels → (s : ℕ) → s < count_of kernels → (b p q : ℕ) (w v : List Symbol) →
    IsProduction kernels.grammar p b w → IsProduction kernels.grammar q b v →
    HasItem kernels.grammar (prefix_of kernels s) (initial_item p) → HasItem kernels.grammar (prefix_of kernels s) (initial_item q)
initial_all {kernels} h s lt b p q w v one other has =
    let (t, f) = item_flows h s lt (initial_item p) has in
    flows_has (prefix_of kernels) h.live h.states (initial_flows_all kernels b p q w v one other f)

-- an item with its dot at the left end is its production's initial item
pub initial_is : (item : Item) → item.dot ≤ 0 → item ≡ initial_item item.production
initial_is item le = (let e : item.dot ≡ 0 = omega arith in λ i. record { production = item.production; dot = e i })

-- what flows to an item flows to those that it belongs with
pub belong_flows : (kernels : KernelsView) {s : ℕ} {t : ℕ} (one item : Item) → BelongTogether kernels.grammar one item →
    FlowsTo kernels s one t → FlowsTo kernels s item t
belong_flows kernels {s} {t} one item (inl same) f = subst (λ z. FlowsTo kernels s z t) same f
belong_flows kernels {s} {t} one item (inr (b, (dot, w, one_rule), (dot', v, rule))) f =
    subst (λ z. FlowsTo kernels s z t) (sym (initial_is item (omega (arith, dot'))))
    (initial_flows kernels f b one.production item.production w v one_rule rule (initial_is one (omega (arith, dot))))
