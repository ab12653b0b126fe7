-- Lookaheads as they flow between states are those of the prefixes.
use Rattle.std.proofs.Common.{◌≡◌, ℕ, ◌<◌, List, [], ◌∷◌, ◌++◌, refl, sym, subst, arith}
use Rattle.std.specs.Prelude.{◌↔◌}
use Rattle.wb_base.specs.declared.symbol.Symbol.{Symbol}
use Rattle.wb_base.specs.Grammar.{GrammarView}
use Rattle.wb_grammar_theory.specs.declared.item.Item.{Item}
use Rattle.wb_grammar_theory.specs.Items.{IsValidItem, IsViablePrefix, HasItem, SameKernel, start_item, after_dot, advance}
use Rattle.wb_grammar_theory.specs.Productions.{end_of}
use Rattle.wb_grammar_theory.specs.Lookaheads.{IsLookahead}
use Rattle.wb_grammar_theory.specs.Items as valid
use Rattle.wb_grammar_theory.specs.Shape.{IsLive}
use Rattle.wb_grammar_theory.specs.States.{AreStates, Flows, start, close, move}
use Rattle.wb_grammar_theory.proofs.KernelLemmas.{same_move, kernel_decides}

pub same_itself : (g : GrammarView) (a : List Symbol) → SameKernel g a a
same_itself g a item = (λ h. h, λ h. h)

pub same_then : {g : GrammarView} {a b c : List Symbol} → SameKernel g a b → SameKernel g b c → SameKernel g a c
same_then p q item = (λ h. (q item).0 ((p item).0 h), λ h. (p item).1 ((q item).1 h))

pub same_back : {g : GrammarView} {a b : List Symbol} → SameKernel g a b → SameKernel g b a
same_back p item = ((p item).1, (p item).0)

-- a state, which is in range
pub zero_state : {g : GrammarView} {count : ℕ} (prefix_of : ℕ → List Symbol) {Next : ℕ → Symbol → ℕ → Type 0} →
    AreStates g count prefix_of Next → 0 < count
zero_state {g} prefix_of h =
    let (s, lt, same) = h.all [] (start_item g, end_of g, valid.start) in omega arith

-- what flows to a state is a lookahead of its prefix
pub flows_sound : {g : GrammarView} {count : ℕ} (prefix_of : ℕ → List Symbol) {Next : ℕ → Symbol → ℕ → Type 0} → IsLive g →
    AreStates g count prefix_of Next → {s : ℕ} {item : Item} {t : ℕ} → Flows g Next s item t → IsLookahead g (prefix_of s) item t
flows_sound {g} prefix_of live h start = (
  prefix_of 0,
  same_itself g (prefix_of 0),
  subst (λ z. IsValidItem g z (start_item g) (end_of g))
      (sym h.first) valid.start,
)
flows_sound prefix_of live h (close item t b rest q u right f is rule first) =
    let (other, same, v) = flows_sound prefix_of live h f in
    (other, same, valid.close item t b rest q u right v is rule first)
flows_sound prefix_of live h (move item x rest s {t} {s'} f is next moved_is) =
    let (other, same, v) = flows_sound prefix_of live h f in (
      other ++ x ∷ [],
      same_then ((h.next s x s').0 next).3 (same_move live (prefix_of s) other x same),
      valid.move item x rest other v is refl moved_is,
    )

pub flows_within : {g : GrammarView} {count : ℕ} (prefix_of : ℕ → List Symbol) {Next : ℕ → Symbol → ℕ → Type 0} →
    AreStates g count prefix_of Next → {s : ℕ} {item : Item} {t : ℕ} → Flows g Next s item t → s < count
flows_within prefix_of h start = zero_state prefix_of h
flows_within prefix_of h (close item t b rest q u right f is rule first) = flows_within prefix_of h f
flows_within prefix_of h (move item x rest s {t} {s'} f is next moved_is) = ((h.next s x s').0 next).1

pub flows_has : {g : GrammarView} {count : ℕ} (prefix_of : ℕ → List Symbol) {Next : ℕ → Symbol → ℕ → Type 0} → IsLive g →
    AreStates g count prefix_of Next → {s : ℕ} {item : Item} {t : ℕ} → Flows g Next s item t → HasItem g (prefix_of s) item
flows_has prefix_of live h {s = s} f =
    let (other, same, v) = flows_sound prefix_of live h f in kernel_decides live v (prefix_of s) (same_back same)

-- an item with its dot before a symbol moves on, to a state with the item advanced
pub record Onward (g : GrammarView) (count : ℕ) (prefix_of : ℕ → List Symbol) (Next : ℕ → Symbol → ℕ → Type 0) (s : ℕ) (x : Symbol)
    (item : Item) : Type 0 where
  pub to : ℕ
  pub next : Next s x to
  pub has : HasItem g (prefix_of to) (advance item)

pub onward : {g : GrammarView} {count : ℕ} (prefix_of : ℕ → List Symbol) {Next : ℕ → Symbol → ℕ → Type 0} → IsLive g →
    AreStates g count prefix_of Next → (s : ℕ) → s < count → (item : Item) (x : Symbol) (rest : List Symbol) →
    HasItem g (prefix_of s) item → after_dot g item ≡ x ∷ rest → Onward g count prefix_of Next s x item
onward {g} prefix_of live h s lt item x rest (t, v) is =
    let w : IsValidItem g (prefix_of s ++ x ∷ []) (advance item) t = valid.move item x rest (prefix_of s) v is refl refl in
    let moves : IsViablePrefix g (prefix_of s ++ x ∷ []) = (advance item, t, w) in
    let (s', lt', same) = h.all (prefix_of s ++ x ∷ []) moves in
    record { to = s'; next = (h.next s x s').1 (lt, lt', moves, same); has = kernel_decides live w (prefix_of s') (same_back same) }

-- what is valid for a prefix flows to its state
pub flows_complete : {g : GrammarView} {count : ℕ} (prefix_of : ℕ → List Symbol) {Next : ℕ → Symbol → ℕ → Type 0} → IsLive g →
    AreStates g count prefix_of Next → {prefix : List Symbol} {item : Item} {t : ℕ} → IsValidItem g prefix item t → (s : ℕ) → s < count →
    SameKernel g (prefix_of s) prefix → Flows g Next s item t
flows_complete {g} prefix_of {Next} live h valid.start s lt same =
    let zero : s ≡ 0 = h.each_once s 0 lt (zero_state prefix_of h) (subst (λ z. SameKernel g (prefix_of s) z) (sym h.first) same) in
    subst (λ z. Flows g Next z (start_item g) (end_of g)) (sym zero) start
flows_complete prefix_of live h (valid.close item t b rest q u right v is rule first) s lt same =
    close item t b rest q u right (flows_complete prefix_of live h v s lt same) is rule first
flows_complete {g} prefix_of {Next} live h {prefix = longer}
    (valid.move item x rest shorter {t} {moved = moved} v is longer_is moved_is) s lt same =
    let (s', lt', same') = h.all shorter (item, t, v) in
    let step : SameKernel g (prefix_of s) (prefix_of s' ++ x ∷ []) =
    same_then (subst (λ z. SameKernel g (prefix_of s) z) longer_is same) (same_back (same_move live (prefix_of s') shorter x same')) in
    let (u, w) = kernel_decides live v (prefix_of s') (same_back same') in
    let moves : IsViablePrefix g (prefix_of s' ++ x ∷ []) = (moved, u, valid.move item x rest (prefix_of s') w is refl moved_is) in
    move item x rest s' (flows_complete prefix_of live h v s' lt' same') is ((h.next s' x s).1 (lt', lt, moves, step)) moved_is

-- what flows is the lookahead
pub flows_exact : (g : GrammarView) (count : ℕ) (prefix_of : ℕ → List Symbol) (Next : ℕ → Symbol → ℕ → Type 0) → IsLive g →
    AreStates g count prefix_of Next → (s : ℕ) → s < count → (item : Item) (t : ℕ) →
    Flows g Next s item t ↔ IsLookahead g (prefix_of s) item t
flows_exact g count prefix_of Next live h s lt item t =
    (flows_sound prefix_of live h, λ (other, same, v). flows_complete prefix_of live h v s lt same)
