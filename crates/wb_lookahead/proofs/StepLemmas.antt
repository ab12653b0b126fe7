-- Steps between kernels, and the items that they lead to.
use Rattle.std.proofs.Common.{◌≡◌, ℕ, ◌<◌, List, ◌∷◌, Some, refl, sym, ◌∙◌, ap}
use Rattle.std.specs.Prelude.{slice_get}
use Rattle.wb_base.specs.declared.symbol.Symbol.{Symbol}
use Rattle.wb_base.specs.declared.symbol.Symbol.TheVariants.{Nonterminal}
use Rattle.wb_grammar_theory.specs.declared.item.Item.{Item}
use Rattle.wb_grammar_theory.specs.Items as valid
use Rattle.wb_grammar_theory.specs.Items.{after_dot, advance, initial_item, HasItem, IsValidItem}
use Rattle.wb_grammar_theory.specs.Productions.{IsProduction}
use Rattle.wb_grammar_theory.proofs.KernelLemmas.{kernel_decides}
use Rattle.wb_grammar_theory.proofs.FlowLemmas.{same_back, same_then}
use Rattle.wb_items.specs.Kernels.{KernelsView, AreKernels, LeadsTo, closure_of, count_of, prefix_of}
use Rattle.wb_items.specs.Lookaheads.{AreLookaheadsOf, LookaheadsView, items_in, row_of}
use Rattle.wb_items.proofs.CallerLemmas.{row_items}

-- a symbol leads to one kernel alone
pub step_once : {kernels : KernelsView} → AreKernels kernels → (s : ℕ) (x : Symbol) (a b : ℕ) → LeadsTo kernels s x a →
    LeadsTo kernels s x b → a ≡ b
step_once {kernels} h s x a b p q = h.states.each_once a b p.1 q.1 (same_then p.3 (same_back q.3))

-- where a symbol leads, the items that move over it are
pub step_has : {kernels : KernelsView} → AreKernels kernels → (s : ℕ) (x : Symbol) (next : ℕ) (item : Item) (rest : List Symbol) →
    LeadsTo kernels s x next → HasItem kernels.grammar (prefix_of kernels s) item → after_dot kernels.grammar item ≡ x ∷ rest →
    HasItem kernels.grammar (prefix_of kernels next) (advance item)
step_has {kernels} h s x next item rest p (t, v) is =
    kernel_decides h.live (valid.move item x rest (prefix_of kernels s) v is refl refl) (prefix_of kernels next) (same_back p.3)

-- the initial items of a nonterminal after a dot are there
pub initial_has : {kernels : KernelsView} → AreKernels kernels → (s b : ℕ) (item : Item) (rest : List Symbol) (q : ℕ)
    (right : List Symbol) → HasItem kernels.grammar (prefix_of kernels s) item → after_dot kernels.grammar item ≡ Nonterminal b ∷ rest →
    IsProduction kernels.grammar q b right → HasItem kernels.grammar (prefix_of kernels s) (initial_item q)
initial_has {kernels} h s b item rest q right (t, v) is rule =
    let (u, f) = h.live item (Nonterminal b) rest is t in (u, valid.close item t b rest q u right v is rule f)

-- a place of a row is that of the closure
pub closure_at : {kernels : KernelsView} → AreKernels kernels → (lookaheads : LookaheadsView) →
    AreLookaheadsOf kernels lookaheads →
    (s : ℕ) (item : Item) (at : ℕ) → slice_get (items_in (row_of lookaheads s)) at ≡ Some item →
    slice_get (closure_of kernels s) at ≡ Some item
closure_at h lookaheads shape s item at e = ap (λ z. slice_get z at) (sym (row_items h lookaheads shape s)) ∙ e

-- and a place of the closure one of the row
pub row_at : {kernels : KernelsView} → AreKernels kernels → (lookaheads : LookaheadsView) → AreLookaheadsOf kernels lookaheads →
    (s : ℕ) → s < count_of kernels → (item : Item) (at : ℕ) → slice_get (closure_of kernels s) at ≡ Some item →
    slice_get (items_in (row_of lookaheads s)) at ≡ Some item
row_at h lookaheads shape s lt item at e = ap (λ z. slice_get z at) (row_items h lookaheads shape s) ∙ e
