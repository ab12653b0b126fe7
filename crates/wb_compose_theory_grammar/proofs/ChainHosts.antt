-- The host of chains with its hole is part of what it is with its extension, so neither has a conflict, a unit cycle or hidden left recursion,
-- and the extension is one.
use Rattle.std.proofs.Common.{◌≡◌, ◌<◌, ◌≤◌, ◌+◌, ◌∙◌, ◌⊎◌, ◌∷◌, ◌++◌, [], ℕ, zero, suc, List, drop, length, map, refl, sym, ap}
use Rattle.std.proofs.Common.{subst, inl, inr, arith}
use Rattle.std.specs.Prelude.{All}
use Rattle.std.proofs.lemmas.List.{length-append}
use Rattle.std.proofs.lemmas.List.Elements.{All-cons, All-nil}
use Rattle.std.proofs.lemmas.Option.{same_Some}
use Rattle.wb_lemmas.proofs.Members.{contains_first}
use Rattle.wb_lemmas.proofs.Places.{nothing_at}
use Rattle.wb_base.specs.declared.symbol.Symbol.{Symbol}
use Rattle.wb_base.specs.declared.symbol.Symbol.TheVariants.{Terminal, Nonterminal}
use Rattle.wb_base.specs.Grammar.{GrammarView, IsGrammar, IsProductionBelow, IsSymbolBelow, Production}
use Rattle.wb_grammar_theory.specs.declared.item.Item.{Item}
use Rattle.wb_grammar_theory.proofs.DerivesLemmas.{Derives-same}
use Rattle.wb_grammar_theory.specs.Cycles.{HasNoHiddenLeftRecursion, HasNoUnitCycle}
use Rattle.wb_grammar_theory.specs.Derives.{Derives, done, empty, expand, keep, next}
use Rattle.wb_grammar_theory.specs.Items.{IsValidItem, after_dot, close, move, start}
use Rattle.wb_grammar_theory.specs.Lookaheads.{HasNoConflict}
use Rattle.wb_grammar_theory.specs.Productions.{IsProduction, right_of}
use Rattle.wb_grammar_theory.specs.Shape.{IsProductive, IsReachable, IsReduced}
use Rattle.wb_compose_theory.proofs.RenamingLemmas.{map_join}
use Rattle.wb_compose_theory.specs.Renamings.{renamed, renamed_item}
use Rattle.wb_compose_theory.specs.Worlds.{on}
use Rattle.wb_compose_theory_grammar.specs.ChainExample.{chain_both, chain_both_holes, chain_holes, chain_host, chain_mark, chain_piece}
use Rattle.wb_compose_theory_grammar.specs.ChainExample.{chain_productions, chain_up}
use Rattle.wb_compose_theory_grammar.specs.Pieces.{IsMarker, IsOwnProduction, IsPiece, bridge}
use Rattle.wb_compose_theory_grammar.proofs.ChainConflicts.{no_shift_reduce, one_reduction}
use Rattle.wb_compose_theory_grammar.proofs.ChainLemmas.{derived, placed, terminal_head}
use Rattle.wb_compose_theory_grammar.proofs.ExampleLemmas.{lift_once}
use Rattle.wb_compose_theory_grammar.proofs.PlaceLemmas.{lift_past}

-- the rest of a list
map_drop : (d : ℕ) (w : List Symbol) → drop d (map (renamed chain_up) w) ≡ map (renamed chain_up) (drop d w)
map_drop zero w = refl
map_drop (suc d) [] = refl
map_drop (suc d) (x ∷ w) = map_drop d w

-- right sides with the extension
rights_up : (p : ℕ) → right_of chain_both_holes (chain_up.production p) ≡ map (renamed chain_up) (right_of chain_holes p)
rights_up zero = refl
rights_up (suc zero) = refl
rights_up (suc (suc zero)) = refl
rights_up (suc (suc (suc zero))) = refl
rights_up (suc (suc (suc (suc zero)))) = refl
rights_up (suc (suc (suc (suc (suc p))))) =
    let more : suc (suc (suc (suc (suc p)))) + 1 ≡ suc (suc (suc (suc (suc (suc p))))) = omega arith in
    ap (right_of chain_both_holes) (lift_past 3 1 (suc (suc (suc (suc (suc p))))) (omega arith) ∙ more)

-- what is after a dot
pub after_up : (item : Item) →
    after_dot chain_both_holes (renamed_item chain_up item) ≡ map (renamed chain_up) (after_dot chain_holes item)
after_up item =
    ap (drop item.dot) (rights_up item.production) ∙ map_drop item.dot (right_of chain_holes item.production)

-- productions
pub rule_up : (p a : ℕ) (w : List Symbol) → IsProduction chain_holes p a w →
    IsProduction chain_both_holes (chain_up.production p) (chain_up.nonterminal a) (map (renamed chain_up) w)
rule_up zero a w rule =
    subst (λ (z : Production). IsProduction chain_both_holes 0 (chain_up.nonterminal z.0) (map (renamed chain_up) z.1))
    (same_Some (0, Nonterminal 1 ∷ Nonterminal 0 ∷ []) (a, w) rule) refl
rule_up (suc zero) a w rule =
    subst (λ (z : Production). IsProduction chain_both_holes 1 (chain_up.nonterminal z.0) (map (renamed chain_up) z.1))
    (same_Some (0, Terminal 0 ∷ Terminal 1 ∷ []) (a, w) rule) refl
rule_up (suc (suc zero)) a w rule =
    subst (λ (z : Production). IsProduction chain_both_holes 2 (chain_up.nonterminal z.0) (map (renamed chain_up) z.1))
    (same_Some (1, Terminal 0 ∷ []) (a, w) rule) refl
rule_up (suc (suc (suc zero))) a w rule =
    subst (λ (z : Production). IsProduction chain_both_holes 4 (chain_up.nonterminal z.0) (map (renamed chain_up) z.1))
    (same_Some (0, Terminal 2 ∷ []) (a, w) rule) refl
rule_up (suc (suc (suc (suc p)))) a w rule = absurd (nothing_at (a, w) p rule)

-- derivations
derives_up : {v w : List Symbol} → Derives chain_holes w v → Derives chain_both_holes (map (renamed chain_up) w) (map (renamed chain_up) v)
derives_up done = done
derives_up (keep x r) = keep (renamed chain_up x) (derives_up r)
derives_up (expand p a w u v rule r s is) =
    expand (chain_up.production p) (chain_up.nonterminal a) (map (renamed chain_up) w) (map (renamed chain_up) u) (map (renamed chain_up) v)
    (rule_up p a w rule) (derives_up r) (derives_up s) (ap (map (renamed chain_up)) is ∙ map_join chain_up u v)

-- valid items
pub valid_up : {prefix : List Symbol} {item : Item} {t : ℕ} → IsValidItem chain_holes prefix item t →
    IsValidItem chain_both_holes (map (renamed chain_up) prefix) (renamed_item chain_up item) (chain_up.terminal t)
valid_up start = start
valid_up (close item t b rest q u w {prefix} v is rule (x, d)) =
    close (renamed_item chain_up item) (chain_up.terminal t) (chain_up.nonterminal b) (map (renamed chain_up) rest) (chain_up.production q)
    (chain_up.terminal u) (map (renamed chain_up) w) (valid_up v) (after_up item ∙ ap (map (renamed chain_up)) is) (rule_up q b w rule) (
      map (renamed chain_up) x,
      subst (λ z. Derives chain_both_holes z (Terminal (chain_up.terminal u) ∷ map (renamed chain_up) x))
          (map_join chain_up rest (Terminal t ∷ [])) (derives_up d),
    )
valid_up (move item x rest prefix v is longer_is moved_is) =
    move (renamed_item chain_up item) (renamed chain_up x) (map (renamed chain_up) rest) (map (renamed chain_up) prefix) (valid_up v)
    (after_up item ∙ ap (map (renamed chain_up)) is) (ap (map (renamed chain_up)) longer_is ∙ map_join chain_up prefix (x ∷ []))
    (ap (renamed_item chain_up) moved_is)

-- no conflict in the host with its hole
pub host_conflict : HasNoConflict chain_holes
host_conflict prefix t (inl (p, can, red)) =
    let (other, same, v) = red.lookahead in
    no_shift_reduce (map (renamed chain_up) can.rest) (placed (valid_up can.has.1))
    (after_up can.item ∙ ap (map (renamed chain_up)) can.before_dot) (placed (valid_up red.has.1))
    (after_up red.item ∙ ap (map (renamed chain_up)) red.complete) (placed (valid_up v))
host_conflict prefix t (inr (p, q, ne, first, second)) =
    ne (sym first.production ∙ (lift_once 3 1 first.item.production second.item.production
    (one_reduction (placed (valid_up first.has.1)) (after_up first.item ∙ ap (map (renamed chain_up)) first.complete)
    (placed (valid_up second.has.1)) (after_up second.item ∙ ap (map (renamed chain_up)) second.complete)) ∙ second.production))

-- a right side is at least two symbols long, or a terminal
wide : (p a : ℕ) (w : List Symbol) → IsProduction chain_both_holes p a w → (2 ≤ length w) ⊎ ((t : ℕ) × (w ≡ Terminal t ∷ []))
wide zero a w rule =
    let e = ap (λ (z : Production). length z.1) (same_Some (0, Nonterminal 1 ∷ Nonterminal 0 ∷ []) (a, w) rule) in inl (omega (arith, e))
wide (suc zero) a w rule =
    let e = ap (λ (z : Production). length z.1) (same_Some (0, Terminal 0 ∷ Terminal 1 ∷ []) (a, w) rule) in inl (omega (arith, e))
wide (suc (suc zero)) a w rule = inr (0, ap (λ (z : Production). z.1) (sym (same_Some (1, Terminal 0 ∷ []) (a, w) rule)))
wide (suc (suc (suc zero))) a w rule =
    let e = ap (λ (z : Production). length z.1) (same_Some (0, Terminal 2 ∷ Nonterminal 1 ∷ Nonterminal 0 ∷ []) (a, w) rule) in
    inl (omega (arith, e))
wide (suc (suc (suc (suc zero)))) a w rule = inr (3, ap (λ (z : Production). z.1) (sym (same_Some (0, Terminal 3 ∷ []) (a, w) rule)))
wide (suc (suc (suc (suc (suc p))))) a w rule = absurd (nothing_at (a, w) p rule)

some_right : (p a : ℕ) (w : List Symbol) → IsProduction chain_both_holes p a w → 1 ≤ length w
some_right p a w rule = elim (wide p a w rule) [
  | inl more ↦ omega (arith, more)
  | inr (t, is) ↦ (let e = ap (λ (z : List Symbol). length z) is in omega (arith, e))
]

-- nothing becomes shorter
longer : {v w : List Symbol} → Derives chain_both_holes w v → length w ≤ length v
longer done = omega arith
longer (keep x r) = let e = longer r in omega (arith, e)
longer (expand p a w u v rule r s is) =
    let one = some_right p a w rule in
    let first = longer r in
    let rest = longer s in
    let joined = length-append u v in
    let e = ap (λ (z : List Symbol). length z) is in
    omega (arith, one, first, rest, joined, e)

-- no nonterminal derives itself, and none is hidden left recursive
pub both_unit : HasNoUnitCycle chain_both_holes
both_unit a (p, w, rule, d) = elim (wide p a w rule) [
  | inl more ↦ (let e = longer d in omega (arith, more, e))
  | inr (t, is) ↦
      (let b = derived d (Terminal t) [] is in
      let f = terminal_head t b.first b.head in
      let g : Nonterminal a ≡ b.first = (let h = b.is in cc) in
      let bad : Nonterminal a ≡ Terminal t = g ∙ f in absurd (cc bad))
]

pub both_hidden : HasNoHiddenLeftRecursion chain_both_holes
both_hidden a (p, w, [], c, rule, d, ne, nothing) = ne refl
both_hidden a (p, w, x ∷ b, c, rule, d, ne, nothing) = let e = longer nothing in omega (arith, e)

pub host_unit : HasNoUnitCycle chain_holes
host_unit a (p, w, rule, d) =
    both_unit (chain_up.nonterminal a) (chain_up.production p, map (renamed chain_up) w, rule_up p a w rule, derives_up d)

pub host_hidden : HasNoHiddenLeftRecursion chain_holes
host_hidden a (p, w, [], c, rule, d, ne, nothing) = ne refl
host_hidden a (p, w, x ∷ b, c, rule, d, ne, nothing) = let e = longer (derives_up nothing) in omega (arith, e)

-- a grammar with the host's productions is reduced
module _ (g : GrammarView) (first : g.start ≡ 0) (few : g.nonterminals ≡ 2)
    (chain : IsProduction g 0 0 (Nonterminal 1 ∷ Nonterminal 0 ∷ [])) (last : IsProduction g 1 0 (Terminal 0 ∷ Terminal 1 ∷ []))
    (one : IsProduction g 2 1 (Terminal 0 ∷ [])) where
  reachable : (a : ℕ) → a < g.nonterminals → IsReachable g a
  reachable zero less =
      subst (λ z. (u v : List Symbol) × Derives g (Nonterminal z ∷ []) (u ++ Nonterminal 0 ∷ v)) (sym first)
      ([], [], Derives-same g (Nonterminal 0 ∷ []))
  reachable (suc zero) less =
      subst (λ z. (u v : List Symbol) × Derives g (Nonterminal z ∷ []) (u ++ Nonterminal 1 ∷ v)) (sym first) (
        [],
        Nonterminal 0 ∷ [],
        expand 0 0 (Nonterminal 1 ∷ Nonterminal 0 ∷ []) (Nonterminal 1 ∷ Nonterminal 0 ∷ []) [] chain
            (Derives-same g (Nonterminal 1 ∷ Nonterminal 0 ∷ [])) done refl,
      )
  reachable (suc (suc a)) less = absurd (omega (arith, less, few))

  productive : (a : ℕ) → a < g.nonterminals → IsProductive g a
  productive zero less = (
    Terminal 0 ∷ Terminal 1 ∷ [],
    expand 1 0 (Terminal 0 ∷ Terminal 1 ∷ []) (Terminal 0 ∷ Terminal 1 ∷ []) [] last (Derives-same g (Terminal 0 ∷ Terminal 1 ∷ [])) done
        refl,
    next 0 (next 1 empty),
  )
  productive (suc zero) less =
      (Terminal 0 ∷ [], expand 2 1 (Terminal 0 ∷ []) (Terminal 0 ∷ []) [] one (Derives-same g (Terminal 0 ∷ [])) done refl, next 0 empty)
  productive (suc (suc a)) less = absurd (omega (arith, less, few))

  pub chain_reduced : IsReduced g
  chain_reduced = record { reachable = reachable; productive = productive }

-- productions are in range
pub two : (m : ℕ) (x y : Symbol) → IsSymbolBelow m 2 x → IsSymbolBelow m 2 y → All (IsSymbolBelow m 2) (x ∷ y ∷ [])
two m x y first second =
    All-cons (IsSymbolBelow m 2) x (y ∷ []) first (All-cons (IsSymbolBelow m 2) y [] second (All-nil (IsSymbolBelow m 2)))

pub host_below : (m : ℕ) → 2 ≤ m → (more : List Production) → All (IsProductionBelow m 2) more →
    All (IsProductionBelow m 2) (chain_productions ++ more)
host_below m le more all =
    All-cons (IsProductionBelow m 2) (0, Nonterminal 1 ∷ Nonterminal 0 ∷ [])
    ((0, Terminal 0 ∷ Terminal 1 ∷ []) ∷ (1, Terminal 0 ∷ []) ∷ more)
    (record { left = omega arith; right = two m (Nonterminal 1) (Nonterminal 0) (omega arith) (omega arith) })
    (All-cons (IsProductionBelow m 2) (0, Terminal 0 ∷ Terminal 1 ∷ []) ((1, Terminal 0 ∷ []) ∷ more)
    (record { left = omega arith; right = two m (Terminal 0) (Terminal 1) (omega (arith, le)) (omega (arith, le)) })
    (All-cons (IsProductionBelow m 2) (1, Terminal 0 ∷ []) more (record {
      left = omega arith;
      right = All-cons (IsSymbolBelow m 2) (Terminal 0) [] (omega (arith, le)) (All-nil (IsSymbolBelow m 2));
    }) all))

pub host_grammar : IsGrammar chain_host
host_grammar =
    record { start_below = omega arith; productions_below = host_below 2 (omega arith) [] (All-nil (IsProductionBelow 2 2)) }

pub both_grammar : IsGrammar chain_both
both_grammar = record {
  start_below = omega arith;
  productions_below = host_below 3 (omega arith) ((0, Terminal 2 ∷ Nonterminal 1 ∷ Nonterminal 0 ∷ []) ∷ [])
      (All-cons (IsProductionBelow 3 2) (0, Terminal 2 ∷ Nonterminal 1 ∷ Nonterminal 0 ∷ []) [] (record {
        left = omega arith;
        right = All-cons (IsSymbolBelow 3 2) (Terminal 2) (Nonterminal 1 ∷ Nonterminal 0 ∷ []) (omega arith)
            (two 3 (Nonterminal 1) (Nonterminal 0) (omega arith) (omega arith));
      }) (All-nil (IsProductionBelow 3 2)));
}

-- the extension is one of the host
marker_at : (m a : ℕ) → chain_mark m ≡ on a → IsMarker chain_host (0 ∷ []) chain_piece m a
marker_at zero a e = cc
marker_at (suc zero) a e = cc
marker_at (suc (suc zero)) a e =
    let is : 0 ≡ a = cc in
    subst (IsMarker chain_host (0 ∷ []) chain_piece 2) is (record {
      own = omega arith;
      within = omega arith;
      extensible_left = contains_first 0 [];
      own_bridge = omega arith;
      bridge_is = (Nonterminal 1 ∷ Nonterminal 0 ∷ [], refl);
    })
marker_at (suc (suc (suc m))) a e = cc

own_at : (p a : ℕ) (w : List Symbol) → 3 ≤ p → IsProduction chain_both p a w → IsOwnProduction chain_host chain_piece p a w
own_at zero a w le rule = absurd (omega (arith, le))
own_at (suc zero) a w le rule = absurd (omega (arith, le))
own_at (suc (suc zero)) a w le rule = absurd (omega (arith, le))
own_at (suc (suc (suc zero))) a w le rule =
    bridge 2 0 (Nonterminal 1 ∷ Nonterminal 0 ∷ []) refl refl
    (ap (λ (z : Production). z.1) (sym (same_Some (0, Terminal 2 ∷ Nonterminal 1 ∷ Nonterminal 0 ∷ []) (a, w) rule))) (tt, (tt, tt))
own_at (suc (suc (suc (suc p)))) a w le rule = absurd (nothing_at (a, w) p rule)

pub chain_is_piece : IsPiece chain_host (0 ∷ []) chain_piece
chain_is_piece = record {
  is_grammar = both_grammar;
  extends = record {
    terminals = omega arith;
    nonterminals = omega arith;
    start = refl;
    productions = ((0, Terminal 2 ∷ Nonterminal 1 ∷ Nonterminal 0 ∷ []) ∷ [], refl);
  };
  markers = marker_at;
  own_productions = own_at;
}
