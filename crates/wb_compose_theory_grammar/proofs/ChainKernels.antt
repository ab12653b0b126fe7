-- Kernels of the host of chains, with the lookaheads of their items.
use Rattle.std.proofs.Common.{◌≡◌, ◌≢◌, ◌≤◌, ◌+◌, ◌∙◌, ◌⊎◌, ◌∷◌, ◌++◌, [], ℕ, zero, suc, List, drop, length, take, refl, sym, ap}
use Rattle.std.proofs.Common.{subst, inl, inr, arith, reverse}
use Rattle.std.proofs.lemmas.Bool.{cases_lt}
use Rattle.std.proofs.lemmas.Option.{same_Some}
use Rattle.wb_base.specs.declared.symbol.Symbol.{Symbol}
use Rattle.wb_base.specs.declared.symbol.Symbol.TheVariants.{Terminal, Nonterminal}
use Rattle.wb_base.specs.Grammar.{Production}
use Rattle.wb_grammar_theory.specs.declared.item.Item.{Item}
use Rattle.wb_grammar_theory.proofs.DerivesLemmas.{Derives-same}
use Rattle.wb_grammar_theory.specs.Derives.{IsFirst, expand}
use Rattle.wb_grammar_theory.specs.Items.{HasItem, IsValidItem, after_dot, close, move, start}
use Rattle.wb_grammar_theory.specs.Productions.{IsProduction, right_of}
use Rattle.wb_compose_theory.specs.Blocks.{lift}
use Rattle.wb_compose_theory_grammar.specs.ChainExample.{chain_holes}
use Rattle.wb_compose_theory_grammar.proofs.ChainConflicts.{opens_a_back, opens_back}
use Rattle.wb_compose_theory_grammar.proofs.ChainLemmas.{Rule, Starts, chain, holed, last, marked, none_after, number, one, right, top}
use Rattle.wb_compose_theory_grammar.proofs.PlaceLemmas.{lift_below, lift_past}

-- an item
abbrev pub item_of : ℕ → ℕ → Item
item_of p d = record { production = p; dot = d }

-- the host's prefix with the kernel of a prefix, by its last symbols in reverse
abbrev pub kernel_prefix : List Symbol → List Symbol
kernel_prefix [] = []
kernel_prefix (Terminal zero ∷ s) = Terminal 0 ∷ []
kernel_prefix (Terminal (suc zero) ∷ s) = Terminal 0 ∷ Terminal 1 ∷ []
kernel_prefix (Terminal (suc (suc zero)) ∷ s) = []
kernel_prefix (Terminal (suc (suc (suc t))) ∷ s) = Terminal 2 ∷ []
kernel_prefix (Nonterminal zero ∷ []) = Nonterminal 0 ∷ []
kernel_prefix (Nonterminal zero ∷ x ∷ s) = Nonterminal 1 ∷ Nonterminal 0 ∷ []
kernel_prefix (Nonterminal (suc a) ∷ s) = Nonterminal 1 ∷ []

-- the number of a production in the host
abbrev pub own_number : Rule → ℕ
own_number chain = 0
own_number last = 1
own_number one = 2
own_number marked = 0
own_number holed = 3
own_number top = 4

-- the bridge has none
pub not_marked : (p : ℕ) → lift 3 1 p ≡ 3 → ⊥
not_marked p e = elim (cases_lt p 3) [
  | inl low ↦ (let f = lift_below 3 1 p low in omega (arith, e, f, low))
  | inr high ↦ (let f = lift_past 3 1 p high in omega (arith, e, f, high))
]

-- a number that moved up to this one
moved_up : (p n own : ℕ) → lift 3 1 p ≡ n → lift 3 1 own ≡ n → p ≡ own
moved_up p n own e f = elim (cases_lt p 3) [
  | inl low ↦ elim (cases_lt own 3) [
    | inl near ↦ (let a = lift_below 3 1 p low in let b = lift_below 3 1 own near in omega (arith, a, b, e, f))
    | inr far ↦ (let a = lift_below 3 1 p low in let b = lift_past 3 1 own far in absurd (omega (arith, a, b, e, f, low, far)))
  ]
  | inr high ↦ elim (cases_lt own 3) [
    | inl near ↦ (let a = lift_past 3 1 p high in let b = lift_below 3 1 own near in absurd (omega (arith, a, b, e, f, high, near)))
    | inr far ↦ (let a = lift_past 3 1 p high in let b = lift_past 3 1 own far in omega (arith, a, b, e, f))
  ]
]

pub own_is : (k : Rule) (p : ℕ) → lift 3 1 p ≡ number k → p ≡ own_number k
own_is chain p e = moved_up p 0 0 e refl
own_is last p e = moved_up p 1 1 e refl
own_is one p e = moved_up p 2 2 e refl
own_is marked p e = absurd (not_marked p e)
own_is holed p e = moved_up p 4 3 e refl
own_is top p e = moved_up p 5 4 e refl

-- what comes after a production in the host
abbrev pub OwnLooks : Rule → ℕ → Type 0
OwnLooks one u = (u ≡ 0) ⊎ (u ≡ 2)
OwnLooks other u = u ≡ 3

-- items of S, where S is after a dot before the end
record Open (prefix : List Symbol) : Type 0 where
  chained : IsValidItem chain_holes prefix (item_of 0 0) 3
  ended : IsValidItem chain_holes prefix (item_of 1 0) 3
  hole : IsValidItem chain_holes prefix (item_of 3 0) 3

open_at : {prefix : List Symbol} {item : Item} → IsValidItem chain_holes prefix item 3 → after_dot chain_holes item ≡ Nonterminal 0 ∷ [] →
    Open prefix
open_at {prefix} {item} v e = record {
  chained = close item 3 0 [] 0 3 (Nonterminal 1 ∷ Nonterminal 0 ∷ []) v e refl ([], Derives-same chain_holes (Terminal 3 ∷ []));
  ended = close item 3 0 [] 1 3 (Terminal 0 ∷ Terminal 1 ∷ []) v e refl ([], Derives-same chain_holes (Terminal 3 ∷ []));
  hole = close item 3 0 [] 3 3 (Terminal 2 ∷ []) v e refl ([], Derives-same chain_holes (Terminal 3 ∷ []));
}

-- what begins S is c or the hole
first_s : (u : ℕ) → (u ≡ 0) ⊎ (u ≡ 2) → IsFirst chain_holes (Nonterminal 0 ∷ Terminal 3 ∷ []) u
first_s u (inl e) = subst (IsFirst chain_holes (Nonterminal 0 ∷ Terminal 3 ∷ [])) (sym e) (
  Terminal 1 ∷ Terminal 3 ∷ [],
  expand 1 0 (Terminal 0 ∷ Terminal 1 ∷ []) (Terminal 0 ∷ Terminal 1 ∷ []) (Terminal 3 ∷ []) refl
      (Derives-same chain_holes (Terminal 0 ∷ Terminal 1 ∷ [])) (Derives-same chain_holes (Terminal 3 ∷ [])) refl,
)
first_s u (inr e) = subst (IsFirst chain_holes (Nonterminal 0 ∷ Terminal 3 ∷ [])) (sym e) (
  Terminal 3 ∷ [],
  expand 3 0 (Terminal 2 ∷ []) (Terminal 2 ∷ []) (Terminal 3 ∷ []) refl (Derives-same chain_holes (Terminal 2 ∷ []))
      (Derives-same chain_holes (Terminal 3 ∷ [])) refl,
)

-- the item of A, where that of `S -> A S` is
one_at : {prefix : List Symbol} → Open prefix → (u : ℕ) → (u ≡ 0) ⊎ (u ≡ 2) → IsValidItem chain_holes prefix (item_of 2 0) u
one_at o u which = close (item_of 0 0) 3 1 (Nonterminal 0 ∷ []) 2 u (Terminal 0 ∷ []) o.chained refl refl (first_s u which)

at_start : Open []
at_start = open_at start refl

chain_one : IsValidItem chain_holes (Nonterminal 1 ∷ []) (item_of 0 1) 3
chain_one = move (item_of 0 0) (Nonterminal 1) (Nonterminal 0 ∷ []) [] at_start.chained refl refl refl

after_a : Open (Nonterminal 1 ∷ [])
after_a = open_at chain_one refl

pub last_one : IsValidItem chain_holes (Terminal 0 ∷ []) (item_of 1 1) 3
last_one = move (item_of 1 0) (Terminal 0) (Terminal 1 ∷ []) [] at_start.ended refl refl refl

pub one_one : (u : ℕ) → (u ≡ 0) ⊎ (u ≡ 2) → IsValidItem chain_holes (Terminal 0 ∷ []) (item_of 2 1) u
one_one u which = move (item_of 2 0) (Terminal 0) [] [] (one_at at_start u which) refl refl refl

-- an initial item of S is valid where S begins
s_initial : (P : List Symbol → Type 0) → P [] → P (Nonterminal 1 ∷ []) → (s : List Symbol) →
    (reverse s ≡ []) ⊎ ((r : List Symbol) × (reverse s ≡ Nonterminal 1 ∷ r)) → P (kernel_prefix (reverse s))
s_initial P first after s (inl e) = subst (λ z. P (kernel_prefix z)) (sym e) first
s_initial P first after s (inr (r, e)) = subst (λ z. P (kernel_prefix z)) (sym e) after

-- that of A, where the marker isn't before it
a_initial : (P : List Symbol → Type 0) → P [] → P (Nonterminal 1 ∷ []) → (s : List Symbol) →
    ((r : List Symbol) → reverse s ≡ Terminal 2 ∷ r → ⊥) →
    (reverse s ≡ []) ⊎ ((r : List Symbol) × (reverse s ≡ Nonterminal 1 ∷ r)) ⊎ ((r : List Symbol) × (reverse s ≡ Terminal 2 ∷ r)) →
    P (kernel_prefix (reverse s))
a_initial P first after s none (inl e) = subst (λ z. P (kernel_prefix z)) (sym e) first
a_initial P first after s none (inr (inl (r, e))) = subst (λ z. P (kernel_prefix z)) (sym e) after
a_initial P first after s none (inr (inr (r, e))) = absurd (none r e)

-- so each item of the host's is valid at the host's prefix, where none is right after the marker
pub own_valid : (k : Rule) (d u : ℕ) (s : List Symbol) → d ≤ length (right k) → Starts k s → number k ≢ 3 → OwnLooks k u →
    ((r : List Symbol) → reverse (take d (right k)) ++ reverse s ≡ Terminal 2 ∷ r → ⊥) →
    IsValidItem chain_holes (kernel_prefix (reverse (take d (right k)) ++ reverse s)) (item_of (own_number k) d) u
own_valid chain zero u s le starts own looks none =
    subst (IsValidItem chain_holes (kernel_prefix (reverse s)) (item_of 0 0)) (sym looks)
    (s_initial (λ z. IsValidItem chain_holes z (item_of 0 0) 3) at_start.chained after_a.chained s (opens_back s starts))
own_valid chain (suc zero) u s le starts own looks none =
    subst (IsValidItem chain_holes (Nonterminal 1 ∷ []) (item_of 0 1)) (sym looks) chain_one
own_valid chain (suc (suc zero)) u s le starts own looks none =
    subst (IsValidItem chain_holes (Nonterminal 1 ∷ Nonterminal 0 ∷ []) (item_of 0 2)) (sym looks)
    (move (item_of 0 1) (Nonterminal 0) [] (Nonterminal 1 ∷ []) chain_one refl refl refl)
own_valid chain (suc (suc (suc d))) u s le starts own looks none = absurd (omega (arith, le))
own_valid last zero u s le starts own looks none =
    subst (IsValidItem chain_holes (kernel_prefix (reverse s)) (item_of 1 0)) (sym looks)
    (s_initial (λ z. IsValidItem chain_holes z (item_of 1 0) 3) at_start.ended after_a.ended s (opens_back s starts))
own_valid last (suc zero) u s le starts own looks none =
    subst (IsValidItem chain_holes (Terminal 0 ∷ []) (item_of 1 1)) (sym looks) last_one
own_valid last (suc (suc zero)) u s le starts own looks none =
    subst (IsValidItem chain_holes (Terminal 0 ∷ Terminal 1 ∷ []) (item_of 1 2)) (sym looks)
    (move (item_of 1 1) (Terminal 1) [] (Terminal 0 ∷ []) last_one refl refl refl)
own_valid last (suc (suc (suc d))) u s le starts own looks none = absurd (omega (arith, le))
own_valid one zero u s le starts own looks none =
    a_initial (λ z. IsValidItem chain_holes z (item_of 2 0) u) (one_at at_start u looks) (one_at after_a u looks) s none
    (opens_a_back s starts)
own_valid one (suc zero) u s le starts own looks none = one_one u looks
own_valid one (suc (suc d)) u s le starts own looks none = absurd (omega (arith, le))
own_valid marked d u s le starts own looks none = absurd (own refl)
own_valid holed zero u s le starts own looks none =
    subst (IsValidItem chain_holes (kernel_prefix (reverse s)) (item_of 3 0)) (sym looks)
    (s_initial (λ z. IsValidItem chain_holes z (item_of 3 0) 3) at_start.hole after_a.hole s (opens_back s starts))
own_valid holed (suc zero) u s le starts own looks none =
    subst (IsValidItem chain_holes (Terminal 2 ∷ []) (item_of 3 1)) (sym looks)
    (move (item_of 3 0) (Terminal 2) [] [] at_start.hole refl refl refl)
own_valid holed (suc (suc d)) u s le starts own looks none = absurd (omega (arith, le))
own_valid top zero u s le starts own looks none =
    subst (λ z. IsValidItem chain_holes (kernel_prefix (reverse z)) (item_of 4 0) u) (sym starts)
    (subst (IsValidItem chain_holes [] (item_of 4 0)) (sym looks) start)
own_valid top (suc zero) u s le starts own looks none =
    subst (λ z. IsValidItem chain_holes (kernel_prefix (Nonterminal 0 ∷ reverse z)) (item_of 4 1) u) (sym starts)
    (subst (IsValidItem chain_holes (Nonterminal 0 ∷ []) (item_of 4 1)) (sym looks)
    (move (item_of 4 0) (Nonterminal 0) [] [] start refl refl refl))
own_valid top (suc (suc d)) u s le starts own looks none = absurd (omega (arith, le))

-- beside `A -> . c` is `S -> . c y`, and beside `A -> c .` is `S -> c . y`
abbrev Beside : List Symbol → ℕ → ℕ → Type 0
Beside prefix zero zero = HasItem chain_holes prefix (item_of 1 0)
Beside prefix (suc (suc zero)) zero = HasItem chain_holes prefix (item_of 1 0)
Beside prefix (suc (suc zero)) (suc zero) = HasItem chain_holes prefix (item_of 1 1)
Beside prefix p d = Unit {0}

-- A is after the dot of `S -> . A S` alone
before_a : (p d : ℕ) (rest : List Symbol) → drop d (right_of chain_holes p) ≡ Nonterminal 1 ∷ rest → (p ≡ 0) × (d ≡ 0)
before_a zero zero rest e = (refl, refl)
before_a zero (suc zero) rest e = absurd (cc e)
before_a zero (suc (suc d)) rest e = absurd (none_after d (Nonterminal 1) rest e)
before_a (suc zero) zero rest e = absurd (cc e)
before_a (suc zero) (suc zero) rest e = absurd (cc e)
before_a (suc zero) (suc (suc d)) rest e = absurd (none_after d (Nonterminal 1) rest e)
before_a (suc (suc zero)) zero rest e = absurd (cc e)
before_a (suc (suc zero)) (suc d) rest e = absurd (none_after d (Nonterminal 1) rest e)
before_a (suc (suc (suc zero))) zero rest e = absurd (cc e)
before_a (suc (suc (suc zero))) (suc d) rest e = absurd (none_after d (Nonterminal 1) rest e)
before_a (suc (suc (suc (suc zero)))) zero rest e = absurd (cc e)
before_a (suc (suc (suc (suc zero)))) (suc d) rest e = absurd (none_after d (Nonterminal 1) rest e)
before_a (suc (suc (suc (suc (suc p))))) d rest e = absurd (none_after d (Nonterminal 1) rest e)

-- a move
beside_move : (p d : ℕ) (x : Symbol) (rest prefix : List Symbol) → drop d (right_of chain_holes p) ≡ x ∷ rest → Beside prefix p d →
    Beside (prefix ++ x ∷ []) p (suc d)
beside_move zero d x rest prefix e has = tt
beside_move (suc zero) d x rest prefix e has = tt
beside_move (suc (suc zero)) zero x rest prefix e (t, v) =
    let f : Terminal 0 ≡ x = cc in (
      t,
      subst (λ z. IsValidItem chain_holes (prefix ++ z ∷ []) (item_of 1 1) t) f
          (move (item_of 1 0) (Terminal 0) (Terminal 1 ∷ []) prefix v refl refl refl),
    )
beside_move (suc (suc zero)) (suc d) x rest prefix e has = tt
beside_move (suc (suc (suc p))) d x rest prefix e has = tt

pub beside : {prefix : List Symbol} {item : Item} {t : ℕ} → IsValidItem chain_holes prefix item t → Beside prefix item.production item.dot
beside start = tt
beside (close item t b rest zero u w {prefix} v is rule f) =
    let b_is : 0 ≡ b = ap (λ (z : Production). z.0) (same_Some (0, Nonterminal 1 ∷ Nonterminal 0 ∷ []) (b, w) rule) in (
      u,
      close item t b rest 1 u (Terminal 0 ∷ Terminal 1 ∷ []) v is
          (subst (λ z. IsProduction chain_holes 1 z (Terminal 0 ∷ Terminal 1 ∷ [])) b_is refl) f,
    )
beside (close item t b rest (suc zero) u w v is rule f) = tt
beside (close item t b rest (suc (suc zero)) u w {prefix} v is rule f) =
    let b_is : b ≡ 1 = ap (λ (z : Production). z.0) (sym (same_Some (1, Terminal 0 ∷ []) (b, w) rule)) in
    let here = before_a item.production item.dot rest (is ∙ ap (λ z. Nonterminal z ∷ rest) b_is) in
    subst (λ d. Beside prefix 0 d) here.1 (subst (λ p. Beside prefix p item.dot) here.0 (beside v))
beside (close item t b rest (suc (suc (suc q))) u w v is rule f) = tt
beside (move item x rest prefix {t} {longer} {moved} v is longer_is moved_is) =
    let p_is : moved.production ≡ item.production = ap (λ (i : Item). i.production) moved_is in
    let d_is : moved.dot ≡ suc item.dot = (let e : moved.dot ≡ item.dot + 1 = ap (λ (i : Item). i.dot) moved_is in omega (arith, e)) in
    subst (λ z. Beside z moved.production moved.dot) (sym longer_is) (subst (λ p. Beside (prefix ++ x ∷ []) p moved.dot) (sym p_is)
    (subst (Beside (prefix ++ x ∷ []) item.production) (sym d_is) (beside_move item.production item.dot x rest prefix is (beside v))))
