-- The small world is certified.
use Rattle.std.proofs.Common.{◌++◌, ◌+◌, ◌∙◌, ◌∷◌, ◌≡◌, ◌≢◌, ◌⊎◌, List, [], ap, arith, drop, inl, inr, refl, subst, suc, sym, zero, ℕ}
use Rattle.wb_base.specs.declared.symbol.Symbol.{Symbol}
use Rattle.wb_base.specs.declared.symbol.Symbol.TheVariants.{Nonterminal, Terminal}
use Rattle.wb_grammar_theory.specs.declared.item.Item.{Item}
use Rattle.wb_grammar_theory.specs.Derives.{empty, next}
use Rattle.wb_grammar_theory.specs.Items.{initial_item}
use Rattle.wb_compose_theory.proofs.DerivesLemmas.{DerivesIn-same, derives_terminal}
use Rattle.wb_compose_theory.proofs.ExampleMarkLemmas.{marked_example}
use Rattle.wb_compose_theory.proofs.KernelLemmas.{closure_kernel, first_kernels, same_itself, shapes}
use Rattle.wb_compose_theory.proofs.PartLemmas.{plus_in}
use Rattle.wb_compose_theory.proofs.StepLemmas.{item_source}
use Rattle.wb_compose_theory.specs.Composable.{HasEnvelopeConflictIn, IsEnvelopeLookaheadIn, IsFitForParsingIn, IsNewHostKernelIn}
use Rattle.wb_compose_theory.specs.Derives.{AreProductiveIn, DerivesIn, DerivesItselfIn, IsHiddenLeftRecursiveIn, IsReachableIn, done}
use Rattle.wb_compose_theory.specs.Derives.{expand}
use Rattle.wb_compose_theory.specs.Example.{example, example_production_owner, example_right, example_symbol_owner}
use Rattle.wb_compose_theory.specs.Homes.{AreComposableApart, of}
use Rattle.wb_compose_theory.specs.Items.{HasItemIn, InClosureIn, IsKernelItemIn, IsValidItemIn, SameKernelIn, after_dot_in, close, move}
use Rattle.wb_compose_theory.specs.Items.{start, start_item_in}
use Rattle.wb_compose_theory.specs.Lookaheads.{HasNoConflictIn, IsLookaheadIn}
use Rattle.wb_compose_theory.specs.Marks.{phi}
use Rattle.wb_compose_theory.specs.Worlds.{Has, IsProductionIn, Part, alone, both, extension, plain, plus}

-- a production of a part has one terminal
one_terminal : (part : Part) (p : ℕ) → IsProductionIn example part p → example_right p ≡ Terminal p ∷ []
one_terminal part zero rule = refl
one_terminal part (suc zero) rule = refl
one_terminal part (suc (suc zero)) rule = refl
one_terminal part (suc (suc (suc zero))) rule = refl
one_terminal part (suc (suc (suc (suc p)))) rule = absurd rule

-- S derives a text in each part
productive_example : (part : Part) → AreProductiveIn example part
productive_example part zero has =
    (Terminal 0 ∷ [], expand 0 0 (Terminal 0 ∷ []) [] tt refl (DerivesIn-same example part (Terminal 0 ∷ [])) done refl, next 0 empty)
productive_example part (suc a) has = absurd has

-- S is reachable
reachable_zero : (part : Part) → IsReachableIn example part 0
reachable_zero part = ([], [], DerivesIn-same example part (Nonterminal 0 ∷ []))

-- there is no unit cycle
no_unit : (part : Part) (a : ℕ) → DerivesItselfIn example part a → ⊥
no_unit part a (p, rule, left, d) =
    let t = derives_terminal p [] d (one_terminal part p rule) in
    let f = t.1 in cc

-- there is no hidden left recursion
no_hidden_example : (part : Part) (a : ℕ) → IsHiddenLeftRecursiveIn example part a → ⊥
no_hidden_example part a (p, b, c, rule, left, d, ne, nothing) = go b ne nothing ((derives_terminal p [] d (one_terminal part p rule)).1)
  where
    go : (b : List Symbol) → b ≢ [] → DerivesIn example part b [] →
        b ++ Nonterminal a ∷ c ≡ Terminal p ∷ ((derives_terminal p [] d (one_terminal part p rule)).0) → ⊥
    go [] ne nothing e = ne refl
    go (y ∷ b) ne nothing e =
        let f : y ≡ Terminal p = cc in
        let t = derives_terminal p b nothing (ap (λ z. z ∷ b) f) in
        let g = t.1 in cc

-- the production of a symbol
abbrev number : Symbol → ℕ
number (Terminal t) = t
number (Nonterminal a) = 4

-- a valid item's production has one symbol, and its number follows from it
record Single (p : ℕ) : Type 0 where
  x : Symbol
  right : example_right p ≡ x ∷ []
  is : p ≡ number x

-- so is each valid item's
single : {part : Part} {prefix : List Symbol} {i : Item} {t : ℕ} → IsValidItemIn example part prefix i t → Single i.production
single {part} {i = i} v = elim (item_source v) [
  | inl is ↦ record { x = Nonterminal 0; right = ap example_right is; is = is }
  | inr rule ↦ record { x = Terminal i.production; right = one_terminal part i.production rule; is = refl }
]

-- where an item is valid
data Place (prefix : List Symbol) (i : Item) (t : ℕ) : Type 0 where
  at_start : t ≡ 4 → prefix ≡ [] → i.dot ≡ 0 → Place prefix i t
  after_one : (x : Symbol) → t ≡ 4 → prefix ≡ x ∷ [] → i.production ≡ number x → i.dot ≡ 1 → example_right i.production ≡ x ∷ [] →
      Place prefix i t

-- nothing is after a dot that comes after the one symbol
over_one : (p d : ℕ) (x y : Symbol) (rest : List Symbol) → example_right p ≡ x ∷ [] → d ≡ 1 → drop d (example_right p) ≡ y ∷ rest → ⊥
over_one p d x y rest e f g =
    let h : drop 1 (x ∷ []) ≡ y ∷ rest = ap (drop 1) (sym e) ∙ (ap (λ z. drop z (example_right p)) (sym f) ∙ g) in
    let k : [] ≡ y ∷ rest = h in cc

-- what is after a dot before the one symbol
head_one : (p d : ℕ) (x y : Symbol) (rest : List Symbol) → example_right p ≡ x ∷ [] → d ≡ 0 → drop d (example_right p) ≡ y ∷ rest →
    (x ≡ y) × (rest ≡ [])
head_one p d x y rest e f g =
    let h : x ∷ [] ≡ y ∷ rest = sym e ∙ (ap (λ z. drop z (example_right p)) (sym f) ∙ g) in
    ((cc), (cc))

-- each valid item is at one of these places
place : {part : Part} {prefix : List Symbol} {i : Item} {t : ℕ} → IsValidItemIn example part prefix i t → Place prefix i t
place start = at_start refl refl refl
place {part} (close item t b rest q u {prefix} v is rule left (x, d)) = go (place v)
  where
    s : Single item.production
    s = single v

    go : Place prefix item t → Place prefix (initial_item q) u
    go (at_start t_is prefix_is dot_is) =
        let h = head_one item.production item.dot s.x (Nonterminal b) rest s.right dot_is is in
        let r = h.1 in
        let e : rest ++ Terminal t ∷ [] ≡ Terminal t ∷ [] = ap (λ z. z ++ Terminal t ∷ []) r in
        let k = derives_terminal t [] d e in
        let f : u ≡ t = (let k1 = k.1 in cc) in
        at_start (f ∙ t_is) prefix_is refl
    go (after_one y t_is prefix_is p_is dot_is right_is) =
        absurd (over_one item.production item.dot s.x (Nonterminal b) rest s.right dot_is is)
place {part} (move item x rest prefix {t} {longer} {moved} v is longer_is moved_is) = go (place v)
  where
    s : Single item.production
    s = single v

    go : Place prefix item t → Place longer moved t
    go (at_start t_is prefix_is dot_is) =
        let h = head_one item.production item.dot s.x x rest s.right dot_is is in
        after_one x t_is (longer_is ∙ ap (λ z. z ++ x ∷ []) prefix_is) (ap (λ z. z.production) moved_is ∙ (s.is ∙ ap number h.0))
        (let f : moved.dot ≡ item.dot + 1 = ap (λ z. z.dot) moved_is in omega arith)
        (ap (λ z. example_right z.production) moved_is ∙ (s.right ∙ ap (λ z. z ∷ []) h.0))
    go (after_one y t_is prefix_is p_is dot_is right_is) = absurd (over_one item.production item.dot s.x x rest s.right dot_is is)

-- the end is the only lookahead
ends : {part : Part} {prefix : List Symbol} {i : Item} {t : ℕ} → IsValidItemIn example part prefix i t → t ≡ 4
ends {prefix = prefix} {i} {t} v = go (place v)
  where
    go : Place prefix i t → t ≡ 4
    go (at_start e f g) = e
    go (after_one x e f g h r) = e

-- a complete item is valid after its symbol alone
record Complete (prefix : List Symbol) (i : Item) : Type 0 where
  x : Symbol
  prefix_is : prefix ≡ x ∷ []
  number_is : i.production ≡ number x
  dot_is : i.dot ≡ 1

-- a complete item is
complete : {part : Part} {prefix : List Symbol} {i : Item} {t : ℕ} → IsValidItemIn example part prefix i t → after_dot_in example i ≡ [] →
    Complete prefix i
complete {prefix = prefix} {i} {t} v over = go (place v)
  where
    s : Single i.production
    s = single v

    go : Place prefix i t → Complete prefix i
    go (at_start e f g) =
        let h : s.x ∷ [] ≡ [] = sym s.right ∙ (ap (λ z. drop z (example_right i.production)) (sym g) ∙ over) in cc
    go (after_one x e f g h r) = record { x = x; prefix_is = f; number_is = g; dot_is = h }

-- the item after its symbol is valid only there
same_number : {part : Part} (x : Symbol) (prefix : List Symbol) (i : Item) → prefix ≡ x ∷ [] → HasItemIn example part prefix i →
    i.production ≡ number x ⊎ (i.dot ≡ 0)
same_number x prefix i e (t, v) = go (place v)
  where
    go : Place prefix i t → (i.production ≡ number x) ⊎ (i.dot ≡ 0)
    go (at_start a b c) = inr c
    go (after_one y a b c d r) = let f : y ∷ [] ≡ x ∷ [] = sym b ∙ e in let g : y ≡ x = cc in inl (c ∙ ap number g)

-- a shift and a reduction at one prefix
no_shift_reduce : (part : Part) (prefix : List Symbol) (t : ℕ) (i : Item) (rest : List Symbol) {u : ℕ} →
    IsValidItemIn example part prefix i u → after_dot_in example i ≡ Terminal t ∷ rest → (j : Item) → after_dot_in example j ≡ [] →
    (other : List Symbol) → SameKernelIn example part prefix part other → {s : ℕ} → IsValidItemIn example part other j s → ⊥
no_shift_reduce part prefix t i rest {u} v is j over other same v' = go (place v)
  where
    s : Single i.production
    s = single v

    c : Complete other j
    c = complete v' over

    go : Place prefix i u → ⊥
    go (at_start a b d) =
        let k : IsKernelItemIn example part prefix (start_item_in example) =
        subst (λ z. IsKernelItemIn example part z (start_item_in example)) (sym b) ((4, start), inr (refl, refl)) in
        let (has, why) = (same (start_item_in example)).0 k in
        elim why [
          | inl ne ↦ ne refl
          | inr e ↦ (let f : c.x ∷ [] ≡ [] = sym c.prefix_is ∙ e.1 in cc)
        ]
    go (after_one x a b d e r) = over_one i.production i.dot s.x (Terminal t) rest s.right e is

-- no part has a conflict
no_conflict_example : (part : Part) → HasNoConflictIn example part
no_conflict_example part prefix t (inl (p, can, red)) =
    let (u, v) = can.has in
    let (other, same, v') = red.lookahead in
    no_shift_reduce part prefix t can.item can.rest v can.before_dot red.item red.complete other same v'
no_conflict_example part prefix t (inr (p, q, ne, one, two)) =
    let (other, same, v) = one.lookahead in
    let (other', same', v') = two.lookahead in
    let c = complete v one.complete in
    let d = complete v' two.complete in
    let dot : one.item.dot ≢ 0 =
    λ e. (let f : one.item.dot ≡ 1 = c.dot_is in let g : 0 ≡ 1 = sym e ∙ f in omega arith) in
    let k = (same' one.item).0 ((same one.item).1 ((t, v), inl dot)) in
    elim (same_number d.x other' one.item d.prefix_is k.0) [
      | inl e ↦ ne (sym one.production ∙ (e ∙ (sym d.number_is ∙ two.production)))
      | inr e ↦ dot e
    ]

-- the lookahead rule holds
lookaheads_example : (e : ℕ) (prefix : List Symbol) (item : Item) (t : ℕ) → IsKernelItemIn example plus prefix item →
    IsLookaheadIn example (both e) prefix item t → IsLookaheadIn example plus prefix item (phi example t)
lookaheads_example e prefix item t ((s, v), why) (other, same, v') =
    let a : s ≡ phi example t = ends v ∙ sym (ap (phi example) (ends v')) in
    (prefix, same_itself example plus prefix, subst (IsValidItemIn example plus prefix item) a v)

-- each kernel of host items is one of the host with holes
plus_item : (p : ℕ) (x : Symbol) → example_right p ≡ x ∷ [] → (p ≡ 4) ⊎ IsProductionIn example plus p → (i : Item) → i.production ≡ p →
    i.dot ≡ 1 → IsValidItemIn example plus (x ∷ []) i 4
plus_item p x right (inl is) i i_is dot_is =
    move (initial_item 4) x [] [] start (ap example_right (sym is) ∙ right) refl
    (λ k. record { production = (i_is ∙ is) k; dot = dot_is k })
plus_item p x right (inr rule) i i_is dot_is =
    move (initial_item p) x [] []
    (close (initial_item 4) 4 0 [] p 4 start refl rule refl ([], DerivesIn-same example plus (Terminal 4 ∷ []))) right refl
    (λ k. record { production = i_is k; dot = dot_is k })

-- a production that isn't the extension's is of the host with holes
plus_source : (e p : ℕ) → (p ≡ 4) ⊎ IsProductionIn example (both e) p → example_production_owner p ≢ extension e →
    (p ≡ 4) ⊎ IsProductionIn example plus p
plus_source e p (inl is) ne = inl is
plus_source e zero (inr rule) ne = inr tt
plus_source e (suc zero) (inr rule) ne = absurd (ne (ap extension rule))
plus_source e (suc (suc zero)) (inr rule) ne = absurd (ne (ap extension rule))
plus_source e (suc (suc (suc zero))) (inr rule) ne = inr tt
plus_source e (suc (suc (suc (suc p)))) (inr rule) ne = absurd rule

-- there is no new host kernel
no_new : (e : ℕ) (prefix : List Symbol) → IsNewHostKernelIn example e prefix → (i : Item) → IsKernelItemIn example (both e) prefix i → ⊥
no_new e prefix new i k = go (place ((k.0).1))
  where
    s : Single i.production
    s = single ((k.0).1)

    go : Place prefix i ((k.0).0) → ⊥
    go (at_start a b c) = new.is_new [] (subst (λ z. SameKernelIn example plus [] (both e) z) (sym b) (first_kernels plus (both e)))
    go (after_one x a b c d r) =
        let v = plus_item i.production x r (plus_source e i.production (item_source ((k.0).1)) (new.within i k)) i refl d in
        new.is_new (x ∷ []) (subst (λ z. SameKernelIn example plus (x ∷ []) (both e) z) (sym b)
        (shapes marked_example (productive_example plus) (productive_example (both e)) (plus_in (of e)) v))

-- the envelope rule holds
envelope_example : (e : ℕ) (prefix : List Symbol) → IsNewHostKernelIn example e prefix → (item : Item) (t : ℕ) →
    InClosureIn example plus (IsKernelItemIn example (both e) prefix) item → IsLookaheadIn example (both e) prefix item t →
    IsEnvelopeLookaheadIn example (IsKernelItemIn example (both e) prefix) item (phi example t)
envelope_example e prefix new item t c looks = let (i, k) = closure_kernel c in absurd (no_new e prefix new i k)

-- no envelope has a conflict
free_example : (e : ℕ) (prefix : List Symbol) → IsNewHostKernelIn example e prefix → (t : ℕ) →
    HasEnvelopeConflictIn example (IsKernelItemIn example (both e) prefix) t → ⊥
free_example e prefix new t (inl (p, can, red)) = let (i, k) = closure_kernel can.within in no_new e prefix new i k
free_example e prefix new t (inr (p, q, ne, one, two)) = let (i, k) = closure_kernel one.within in no_new e prefix new i k

-- each nonterminal is reachable
reachable_example : (part : Part) (a : ℕ) → Has part (example_symbol_owner (Nonterminal a)) → IsReachableIn example part a
reachable_example part zero has = reachable_zero part
reachable_example part (suc a) has = absurd has

-- each part is fit
fit_example : (part with_holes : Part) → IsFitForParsingIn example part with_holes
fit_example part with_holes = record {
  reduced = record { reachable = reachable_example part; productive = productive_example part };
  no_unit_cycle = no_unit with_holes;
  no_hidden_left_recursion = no_hidden_example with_holes;
}

-- the host and both extensions are certified
pub certified_example : AreComposableApart example 2
certified_example = record {
  of_host = record { fit = fit_example plain plus; no_conflict = no_conflict_example plus };
  of_extension = λ e below. record {
    fit = fit_example (alone e) (both e);
    no_conflict = no_conflict_example (both e);
    keeps_lookaheads = lookaheads_example e;
    stays_in_envelope = record { lookaheads = envelope_example e; no_conflict = free_example e };
  };
}
