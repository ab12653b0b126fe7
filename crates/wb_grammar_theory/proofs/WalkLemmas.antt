-- Walks that lead back give cycles.
use Rattle.std.proofs.Common.{◌≡◌, ◌≢◌, ℕ, ◌<◌, ◌+◌, zero, suc, List, [], ◌∷◌, length, Some, ◌⊎◌, refl, sym, ◌∙◌, ap, subst, inl, inr}
use Rattle.std.proofs.Common.{arith}
use Rattle.std.specs.Prelude.{slice_get, ◌↔◌, Contains}
use Rattle.std.proofs.lemmas.Option.{slice_get-get_or}
use Rattle.wb_base.specs.Grammar.{GrammarView}
use Rattle.wb_grammar_theory.specs.Cycles.{DerivesItself, IsHiddenLeftRecursive, IsLeftCorner, IsHiddenCorner, IsFollowedBy}
use Rattle.wb_grammar_theory.specs.Cycles.{IsCycleOf, IsUnitCycle, IsHiddenCycle}
use Rattle.wb_grammar_theory.specs.Walks.{Walk, one, more, HiddenWalk, last, here, later}
use Rattle.wb_grammar_theory.proofs.HiddenLemmas.{hidden_is}
use Rattle.wb_grammar_theory.proofs.CycleLemmas.{cycle_walk, unit_cycle_member, follower_place, cycle_of_one}

-- the relation leads from each to the next, and from the last to b
abbrev AreChained : (ℕ → ℕ → Type 0) → List ℕ → ℕ → Type 0
AreChained R [] b = ⊥
AreChained R (x ∷ []) b = R x b
AreChained R (x ∷ y ∷ list) b = R x y × AreChained R (y ∷ list) b

-- the places of a walk, but for its end
walk_chained : {R : ℕ → ℕ → Type 0} {a b : ℕ} → Walk R a b → (rest : List ℕ) × AreChained R (a ∷ rest) b
walk_chained (one r) = ([], r)
walk_chained (more {b = b} r w) = (let (rest, c) = walk_chained w in (b ∷ rest, (r, c)))

chained_next : (R : ℕ → ℕ → Type 0) (list : List ℕ) (b : ℕ) → AreChained R list b → (i x y : ℕ) → slice_get list i ≡ Some x →
    slice_get list (suc i) ≡ Some y → R x y
chained_next R [] b c i x y at next = absurd c
chained_next R (z ∷ []) b c i x y at next = cc
chained_next R (z ∷ w ∷ list) b c zero x y at next = (let e : z ≡ x = cc in let f : w ≡ y = cc in subst (λ n. R n y) e (subst (R z) f c.0))
chained_next R (z ∷ w ∷ list) b c (suc i) x y at next = chained_next R (w ∷ list) b c.1 i x y at next

chained_last : (R : ℕ → ℕ → Type 0) (list : List ℕ) (b : ℕ) → AreChained R list b → (i x : ℕ) → slice_get list i ≡ Some x →
    suc i ≡ length list → R x b
chained_last R [] b c i x at is = absurd c
chained_last R (z ∷ []) b c zero x at is = (let e : z ≡ x = cc in subst (λ n. R n b) e c)
chained_last R (z ∷ []) b c (suc i) x at is = absurd (omega arith)
chained_last R (z ∷ w ∷ list) b c zero x at is = absurd (omega arith)
chained_last R (z ∷ w ∷ list) b c (suc i) x at is = chained_last R (w ∷ list) b c.1 i x at (omega arith)

-- a chain back to its first is a cycle
chained_cycle : (R : ℕ → ℕ → Type 0) (a : ℕ) (rest : List ℕ) → AreChained R (a ∷ rest) a → IsCycleOf R (a ∷ rest)
chained_cycle R a rest c = record { nonempty = omega arith; each = each }
  where
    each : (x y : ℕ) → IsFollowedBy (a ∷ rest) x y → R x y
    each x y f = elim f.other [
      | inl next ↦ (let e : f.place + 1 ≡ suc f.place = omega arith in
          chained_next R (a ∷ rest) a c f.place x y f.one (subst (λ n. slice_get (a ∷ rest) n ≡ Some y) e next))
      | inr around ↦ (let same : a ≡ y = (let first : Some a ≡ Some y = around.1 in cc) in
          subst (R x) same (chained_last R (a ∷ rest) a c f.place x f.one (omega (arith, around.0))))
    ]

-- a chain with a hidden corner at a place
record HiddenChain (g : GrammarView) (list : List ℕ) (b : ℕ) : Type 0 where
  chained : AreChained (IsLeftCorner g) list b
  place : ℕ
  above : ℕ
  below : ℕ
  at : slice_get list place ≡ Some above
  next : (slice_get list (suc place) ≡ Some below) ⊎ ((suc place ≡ length list) × (below ≡ b))
  hidden : IsHiddenCorner g above below

hidden_chained : {g : GrammarView} {a b : ℕ} → HiddenWalk g a b → (rest : List ℕ) × HiddenChain g (a ∷ rest) b
hidden_chained {a = a} {b = b} (last c) = (
  [],
  record {
    chained = c.corner;
    place = 0;
    above = a;
    below = b;
    at = refl;
    next = inr
        (omega arith, refl);
    hidden = c;
  },
)
hidden_chained {a = a} (here {b = b} c w) =
    let (rest, chained) = walk_chained w in
    (b ∷ rest, record { chained = (c.corner, chained); place = 0; above = a; below = b; at = refl; next = inl refl; hidden = c })
hidden_chained (later {b = b} c h) =
    let (rest, chain) = hidden_chained h in (
      b ∷ rest,
      record {
        chained = (c, chain.chained);
        place = suc chain.place;
        above = chain.above;
        below = chain.below;
        at = chain.at;
        next = elim chain.next [ inl next ↦ inl next | inr end ↦ inr (omega (arith, end.0), end.1) ];
        hidden = chain.hidden;
      },
    )

Walk-hidden : {g : GrammarView} {a b c : ℕ} → Walk (IsLeftCorner g) a b → HiddenWalk g b c → HiddenWalk g a c
Walk-hidden (one r) h = later r h
Walk-hidden (more r w) h = later r (Walk-hidden w h)

-- a nonterminal is hidden left recursive where it is in a cycle that shows it
pub hidden_cycle_is : (g : GrammarView) (a : ℕ) → IsHiddenLeftRecursive g a ↔ ((list : List ℕ) × IsHiddenCycle g list × Contains list a)
hidden_cycle_is g a = (there, λ (list, cycle, has). back list cycle has)
  where
    there : IsHiddenLeftRecursive g a → (list : List ℕ) × IsHiddenCycle g list × Contains list a
    there h =
        let (rest, chain) = hidden_chained ((hidden_is g a).0 h) in (
          a ∷ rest,
          record {
            cycle = chained_cycle (IsLeftCorner g) a rest chain.chained;
            above = chain.above;
            below = chain.below;
            place = record {
              place = chain.place;
              one = chain.at;
              other = elim chain.next [
                | inl next ↦ inl (let e : suc chain.place ≡ chain.place + 1 = omega arith in subst
                    (λ n. slice_get (a ∷ rest) n ≡ Some chain.below) e next)
                | inr end ↦ inr (omega (arith, end.0), ap Some (sym end.1))
              ];
            };
            hidden = chain.hidden;
          },
          (0, omega arith, refl),
        )

    back : (list : List ℕ) → IsHiddenCycle g list → Contains list a → IsHiddenLeftRecursive g a
    back list cycle has =
        let (i, within, is) = has in
        let at : slice_get list i ≡ Some a = slice_get-get_or list i a within ∙ ap Some is in
        let (j, below_at) = follower_place list cycle.above cycle.below cycle.place in
        let to : Walk (IsLeftCorner g) a cycle.above = cycle_walk
        (IsLeftCorner g) list cycle.cycle i cycle.place.place a cycle.above at cycle.place.one in
        let from : Walk (IsLeftCorner g) cycle.below a = cycle_walk (IsLeftCorner g) list cycle.cycle j i cycle.below a below_at at in
        (hidden_is g a).1 (Walk-hidden to (here cycle.hidden from))

-- a nonterminal derives itself where it is in a unit cycle
pub unit_cycle_in : (g : GrammarView) (a : ℕ) → DerivesItself g a ↔ ((list : List ℕ) × IsUnitCycle g list × Contains list a)
unit_cycle_in g a = (
  λ cycle. (a ∷ [], cycle_of_one g a cycle, (0, omega arith, refl)),
  λ (list, cycle, (i, within, is)). unit_cycle_member g list cycle i a (slice_get-get_or list i a within ∙ ap Some is),
)
