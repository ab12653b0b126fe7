-- The extension of the host of chains meets the lookahead rule and the envelope rule.
use Rattle.std.proofs.Common.{◌≡◌, ◌≢◌, ◌≤◌, ◌∙◌, ◌⊎◌, ◌∷◌, ◌++◌, [], ℕ, zero, suc, List, length, map, take, refl, sym, ap}
use Rattle.std.proofs.Common.{subst, inl, inr, arith, reverse}
use Rattle.std.proofs.lemmas.List.Elements.{All-cons, All-nil}
use Rattle.wb_base.specs.declared.symbol.Symbol.{Symbol}
use Rattle.wb_base.specs.declared.symbol.Symbol.TheVariants.{Terminal, Nonterminal}
use Rattle.wb_base.specs.Grammar.{IsProductionBelow, IsSymbolBelow}
use Rattle.wb_grammar_theory.specs.declared.item.Item.{Item}
use Rattle.wb_grammar_theory.proofs.LiveLemmas.{reduced_live}
use Rattle.wb_grammar_theory.specs.Closure.{InClosure, kernel, opened}
use Rattle.wb_grammar_theory.specs.Items.{HasItem, IsKernelItem, IsValidItem, SameKernel, close, start_item}
use Rattle.wb_grammar_theory.specs.Lookaheads.{IsLookahead}
use Rattle.wb_grammar_theory.specs.Shape.{IsLive}
use Rattle.wb_compose_theory.specs.Numbered.{HasEnvelopeConflict, HostKernel, KeepsLookaheads, StaysInEnvelope}
use Rattle.wb_compose_theory.specs.Renamings.{renamed, renamed_item}
use Rattle.wb_compose_theory_grammar.specs.ChainExample.{chain_both_holes, chain_holes, chain_piece, chain_up}
use Rattle.wb_compose_theory_grammar.specs.Numberings.{phi_of}
use Rattle.wb_compose_theory_grammar.proofs.ChainConflicts.{back_of, no_shift_reduce, one_reduction}
use Rattle.wb_compose_theory_grammar.proofs.ChainHosts.{after_up, chain_reduced, host_below, two, rule_up, valid_up}
use Rattle.wb_compose_theory_grammar.proofs.ChainKernels.{OwnLooks, beside, item_of, kernel_prefix, last_one, not_marked, one_one, own_is}
use Rattle.wb_compose_theory_grammar.proofs.ChainKernels.{own_number, own_valid}
use Rattle.wb_compose_theory_grammar.proofs.ChainLemmas.{AfterA, Looks, Place, Rule, chain, holed, last, marked, number, one, placed, right, top}
use Rattle.wb_compose_theory_grammar.proofs.ExampleLemmas.{lift_once, member}

-- where markers go
abbrev pub chain_phi : ℕ → ℕ
chain_phi = phi_of (0 ∷ []) chain_piece

-- what comes after a production, by its number
abbrev LooksAt : ℕ → ℕ → Type 0
LooksAt (suc (suc zero)) t = AfterA t
LooksAt n t = t ≡ 4

to_number : (k : Rule) (t : ℕ) → Looks k t → LooksAt (number k) t
to_number chain t looks = looks
to_number last t looks = looks
to_number one t looks = looks
to_number marked t looks = looks
to_number holed t looks = looks
to_number top t looks = looks

of_number : (k : Rule) (t : ℕ) → LooksAt (number k) t → Looks k t
of_number chain t looks = looks
of_number last t looks = looks
of_number one t looks = looks
of_number marked t looks = looks
of_number holed t looks = looks
of_number top t looks = looks

-- it is one for both places of an item
same_looks : {prefix other : List Symbol} {item : Item} {s t : ℕ} (p : Place prefix item s) (q : Place other item t) → Looks p.rule t
same_looks {t = t} p q =
    of_number p.rule t (subst (λ n. LooksAt n t) (sym q.number_is ∙ p.number_is) (to_number q.rule t q.looks))

-- an image in the host
image : (k : Rule) (t : ℕ) → Looks k t → number k ≢ 3 → (u : ℕ) × (chain_up.terminal u ≡ chain_phi t) × OwnLooks k u
image chain t e own = (3, ap chain_phi (sym e), refl)
image last t e own = (3, ap chain_phi (sym e), refl)
image one t (inl e) own = (0, ap chain_phi (sym e), inl refl)
image one t (inr (inl e)) own = (2, ap chain_phi (sym e), inr refl)
image one t (inr (inr e)) own = (2, ap chain_phi (sym e), inr refl)
image marked t e own = absurd (own refl)
image holed t e own = (3, ap chain_phi (sym e), refl)
image top t e own = (3, ap chain_phi (sym e), refl)

some_look : (k : Rule) → (u : ℕ) × OwnLooks k u
some_look one = (0, inl refl)
some_look chain = (3, refl)
some_look last = (3, refl)
some_look marked = (3, refl)
some_look holed = (3, refl)
some_look top = (3, refl)

-- the marker ends no item of the host
not_marker : (k : Rule) (d : ℕ) (s r : List Symbol) → d ≤ length (right k) → d ≢ 0 → number k ≢ 3 →
    reverse (take d (right k)) ++ s ≡ Terminal 2 ∷ r → ⊥
not_marker k zero s r le some own e = some refl
not_marker chain (suc zero) s r le some own e = cc
not_marker chain (suc (suc zero)) s r le some own e = cc
not_marker chain (suc (suc (suc d))) s r le some own e = omega (arith, le)
not_marker last (suc zero) s r le some own e = cc
not_marker last (suc (suc zero)) s r le some own e = cc
not_marker last (suc (suc (suc d))) s r le some own e = omega (arith, le)
not_marker one (suc zero) s r le some own e = cc
not_marker one (suc (suc d)) s r le some own e = omega (arith, le)
not_marker marked (suc d) s r le some own e = own refl
not_marker holed (suc zero) s r le some own e = cc
not_marker holed (suc (suc d)) s r le some own e = omega (arith, le)
not_marker top (suc zero) s r le some own e = cc
not_marker top (suc (suc d)) s r le some own e = omega (arith, le)

-- what ends with c is `S -> c . y` or `A -> c .`
ends_with_c : (k : Rule) (d : ℕ) (s r : List Symbol) → d ≤ length (right k) → d ≢ 0 → number k ≢ 3 →
    reverse (take d (right k)) ++ s ≡ Terminal 0 ∷ r → ((own_number k ≡ 1) ⊎ (own_number k ≡ 2)) × (d ≡ 1)
ends_with_c k zero s r le some own e = absurd (some refl)
ends_with_c chain (suc zero) s r le some own e = absurd (cc e)
ends_with_c chain (suc (suc zero)) s r le some own e = absurd (cc e)
ends_with_c chain (suc (suc (suc d))) s r le some own e = absurd (omega (arith, le))
ends_with_c last (suc zero) s r le some own e = (inl refl, refl)
ends_with_c last (suc (suc zero)) s r le some own e = absurd (cc e)
ends_with_c last (suc (suc (suc d))) s r le some own e = absurd (omega (arith, le))
ends_with_c one (suc zero) s r le some own e = (inr refl, refl)
ends_with_c one (suc (suc d)) s r le some own e = absurd (omega (arith, le))
ends_with_c marked (suc d) s r le some own e = absurd (own refl)
ends_with_c holed (suc zero) s r le some own e = absurd (cc e)
ends_with_c holed (suc (suc d)) s r le some own e = absurd (omega (arith, le))
ends_with_c top (suc zero) s r le some own e = absurd (cc e)
ends_with_c top (suc (suc d)) s r le some own e = absurd (omega (arith, le))

-- the place of an item of the host isn't that of the bridge
host_place : {prefix : List Symbol} (i : Item) {t : ℕ} (p : Place prefix (renamed_item chain_up i) t) → number p.rule ≢ 3
host_place i p e = not_marked i.production (p.number_is ∙ e)

-- an item of the host by its place
item_is : {prefix : List Symbol} (i : Item) {t : ℕ} (p : Place prefix (renamed_item chain_up i) t) →
    item_of (own_number p.rule) i.dot ≡ i
item_is i p = let e = own_is p.rule i.production p.number_is in λ z. record { production = sym e z; dot = i.dot }

-- it is valid at the host's prefix
valid_there : {prefix : List Symbol} (i : Item) {t : ℕ} (p : Place prefix (renamed_item chain_up i) t) →
    ((r : List Symbol) → reverse prefix ≡ Terminal 2 ∷ r → ⊥) → (u : ℕ) → OwnLooks p.rule u →
    IsValidItem chain_holes (kernel_prefix (reverse prefix)) i u
valid_there {prefix} i p none u looks =
    subst (λ z. IsValidItem chain_holes (kernel_prefix z) i u) (sym (back_of p))
    (subst (λ z. IsValidItem chain_holes (kernel_prefix (reverse (take i.dot (right p.rule)) ++ reverse p.begins)) z u) (item_is i p)
    (own_valid p.rule i.dot u p.begins p.within p.starts (host_place i p) looks (λ r e. none r (back_of p ∙ e))))

module _ (prefix : List Symbol) where
  -- after the marker no kernel is of the host's items
  none_after_marker : (i : Item) → HostKernel chain_both_holes chain_up prefix i → (r : List Symbol) → reverse prefix ≡ Terminal 2 ∷ r → ⊥
  none_after_marker i ((t, v), inl some) r e =
      let p = placed v in
      not_marker p.rule i.dot (reverse p.begins) r p.within some (host_place i p) (sym (back_of p) ∙ e)
  none_after_marker i ((t, v), inr (is, nothing)) r e = let bad : [] ≡ Terminal 2 ∷ r = ap reverse (sym nothing) ∙ e in cc

  -- the kernel is within that of the host's prefix
  contains : ((r : List Symbol) → reverse prefix ≡ Terminal 2 ∷ r → ⊥) → (i : Item) → HostKernel chain_both_holes chain_up prefix i →
      IsKernelItem chain_holes (kernel_prefix (reverse prefix)) i
  contains none i ((t, v), why) =
      let p = placed v in
      let (u, looks) = some_look p.rule in (
        (u, valid_there i p none u looks),
        elim why [
          | inl some ↦ inl some
          | inr (is, nothing) ↦ inr (
            (let e : chain_up.production i.production ≡ 5 = ap (λ (z : Item). z.production) is in
                let d : i.dot ≡ 0 = ap (λ (z : Item). z.dot) is in
                let n = own_is top i.production e in
                λ z. record { production = n z; dot = d z }),
            ap (λ z. kernel_prefix (reverse z)) nothing,
          )
        ],
      )

-- with its holes the grammar is reduced
both_live : IsLive chain_both_holes
both_live = reduced_live chain_both_holes (record {
  start_below = omega arith;
  productions_below = host_below 4 (omega arith)
      ((0, Terminal 2 ∷ Nonterminal 1 ∷ Nonterminal 0 ∷ []) ∷ (0, Terminal 3 ∷ []) ∷ [])
      (All-cons (IsProductionBelow 4 2) (0, Terminal 2 ∷ Nonterminal 1 ∷ Nonterminal 0 ∷ []) ((0, Terminal 3 ∷ []) ∷ []) (record {
        left = omega arith;
        right = All-cons (IsSymbolBelow 4 2) (Terminal 2) (Nonterminal 1 ∷ Nonterminal 0 ∷ []) (omega arith)
            (two 4 (Nonterminal 1) (Nonterminal 0) (omega arith) (omega arith));
      }) (All-cons (IsProductionBelow 4 2) (0, Terminal 3 ∷ []) [] (record {
        left = omega arith;
        right = All-cons (IsSymbolBelow 4 2) (Terminal 3) [] (omega arith) (All-nil (IsSymbolBelow 4 2));
      }) (All-nil (IsProductionBelow 4 2))));
}) (chain_reduced chain_both_holes refl refl refl refl refl)

-- what is in the closure of a kernel of the host's items is there
in_both : {prefix : List Symbol} {item : Item} → InClosure chain_holes (HostKernel chain_both_holes chain_up prefix) item →
    HasItem chain_both_holes prefix (renamed_item chain_up item)
in_both (kernel x) = x.0
in_both (opened item b rest q w c is rule) =
    let (t, v) = in_both c in
    let e = after_up item ∙ ap (map (renamed chain_up)) is in
    let (u, f) = both_live (renamed_item chain_up item) (Nonterminal (chain_up.nonterminal b)) (map (renamed chain_up) rest) e t in (
      u,
      close (renamed_item chain_up item) t (chain_up.nonterminal b) (map (renamed chain_up) rest) (chain_up.production q) u
          (map (renamed chain_up) w) v e (rule_up q b w rule) f,
    )

-- the envelope rule
pub chain_stays : StaysInEnvelope chain_holes chain_both_holes chain_up chain_phi
chain_stays = record { lookaheads = λ prefix new item t c looks. found prefix item t c looks; no_conflict = λ prefix new t x. free prefix t x }
  where
    found : (prefix : List Symbol) (item : Item) (t : ℕ) → InClosure chain_holes (HostKernel chain_both_holes chain_up prefix) item →
        IsLookahead chain_both_holes prefix (renamed_item chain_up item) t → (u : ℕ) × (chain_up.terminal u ≡ chain_phi t) ×
        ((other : List Symbol) × ((i : Item) → HostKernel chain_both_holes chain_up prefix i → IsKernelItem chain_holes other i) ×
        IsLookahead chain_holes other item u)
    found prefix item t c (other, same, v) =
        let (i, x) = member c in
        let (s, w) = in_both c in
        let p = placed w in
        let (u, u_is, looks) = image p.rule t (same_looks p (placed v)) (host_place item p) in (
          u,
          u_is,
          (
            kernel_prefix (reverse prefix),
            contains prefix (none_after_marker prefix i x),
            (
              kernel_prefix (reverse prefix),
              (λ j. (λ y. y, λ y. y)),
              valid_there item p (none_after_marker prefix i x) u looks,
            ),
          ),
        )

    free : (prefix : List Symbol) (t : ℕ) → HasEnvelopeConflict chain_holes (HostKernel chain_both_holes chain_up prefix) t → ⊥
    free prefix t (inl (p, can, red)) =
        let (other, within, (another, same, v)) = red.lookahead in
        no_shift_reduce (map (renamed chain_up) can.rest) (placed (in_both can.within).1)
        (after_up can.item ∙ ap (map (renamed chain_up)) can.before_dot) (placed (in_both red.within).1)
        (after_up red.item ∙ ap (map (renamed chain_up)) red.complete) (placed (valid_up v))
    free prefix t (inr (p, q, ne, first, second)) =
        ne (sym first.production ∙ (lift_once 3 1 first.item.production second.item.production
        (one_reduction (placed (in_both first.within).1) (after_up first.item ∙ ap (map (renamed chain_up)) first.complete)
        (placed (in_both second.within).1) (after_up second.item ∙ ap (map (renamed chain_up)) second.complete)) ∙ second.production))

-- a kernel of the host after c
kernel_at_c : (prefix r : List Symbol) → reverse (map (renamed chain_up) prefix) ≡ Terminal 0 ∷ r → (j : Item) →
    IsKernelItem chain_holes prefix j → (j ≡ item_of 1 1) ⊎ (j ≡ item_of 2 1)
kernel_at_c prefix r e j ((t, v), inr (is, nothing)) =
    let bad : [] ≡ Terminal 0 ∷ r = ap (λ z. reverse (map (renamed chain_up) z)) (sym nothing) ∙ e in absurd (cc bad)
kernel_at_c prefix r e j ((t, v), inl some) =
    let p = placed (valid_up v) in
    let (which, d) = ends_with_c p.rule j.dot (reverse p.begins) r p.within some (host_place j p) (sym (back_of p) ∙ e) in
    elim which [
      | inl n ↦ inl (sym (item_is j p) ∙ (λ z. record { production = n z; dot = d z }))
      | inr n ↦ inr (sym (item_is j p) ∙ (λ z. record { production = n z; dot = d z }))
    ]

-- after c all such kernels are one
same_at_c : (prefix r : List Symbol) → reverse (map (renamed chain_up) prefix) ≡ Terminal 0 ∷ r →
    IsKernelItem chain_holes prefix (item_of 2 1) → SameKernel chain_holes prefix (Terminal 0 ∷ [])
same_at_c prefix r e has j = (
  λ x. elim (kernel_at_c prefix r e j x) [
    | inl is ↦ subst (IsKernelItem chain_holes (Terminal 0 ∷ [])) (sym is) ((3, last_one), inl (λ f. omega (arith, f)))
    | inr is ↦ subst (IsKernelItem chain_holes (Terminal 0 ∷ [])) (sym is) ((0, one_one 0 (inl refl)), inl (λ f. omega (arith, f)))
  ],
  λ x. elim (kernel_at_c (Terminal 0 ∷ []) [] refl j x) [
    | inl is ↦ subst (IsKernelItem chain_holes prefix) (sym is) (beside ((has.0).1), inl (λ f. omega (arith, f)))
    | inr is ↦ subst (IsKernelItem chain_holes prefix) (sym is) has
  ],
)

-- the lookahead rule
pub chain_keeps : KeepsLookaheads chain_holes chain_both_holes chain_up chain_phi
chain_keeps prefix item t ((s, v), why) (other, same, w) =
    let p = placed (valid_up v) in
    go p.rule p.looks (same_looks p (placed w)) (own_is p.rule item.production p.number_is) p.within (reverse p.begins) (back_of p)
    (host_place item p)
  where
    Kept : Type 0
    Kept = (u : ℕ) × (chain_up.terminal u ≡ chain_phi t) × IsLookahead chain_holes prefix item u

    ended : chain_up.terminal s ≡ 4 → t ≡ 4 → Kept
    ended own e = (s, own ∙ ap chain_phi (sym e), (prefix, (λ i. (λ x. x, λ x. x)), v))

    go : (k : Rule) → Looks k (chain_up.terminal s) → Looks k t → item.production ≡ own_number k → item.dot ≤ length (right k) →
        (z : List Symbol) → reverse (map (renamed chain_up) prefix) ≡ reverse (take item.dot (right k)) ++ z → number k ≢ 3 → Kept
    go chain own looks n le z back host = ended own looks
    go last own looks n le z back host = ended own looks
    go marked own looks n le z back host = ended own looks
    go holed own looks n le z back host = ended own looks
    go top own looks n le z back host = ended own looks
    go one own looks n le z back host =
        let d = dot why in
        let is : item ≡ item_of 2 1 = λ j. record { production = n j; dot = d j } in
        let (u, u_is, which) = image one t looks host in
        let e : reverse (map (renamed chain_up) prefix) ≡ Terminal 0 ∷ z = back ∙ ap (λ m. reverse (take m (right one)) ++ z) d in (
          u,
          u_is,
          (
            Terminal 0 ∷ [],
            same_at_c prefix z e (subst (IsKernelItem chain_holes prefix) is ((s, v), why)),
            subst (λ i. IsValidItem chain_holes (Terminal 0 ∷ []) i u) (sym is) (one_one u which),
          ),
        )
      where
        dot : (item.dot ≢ 0) ⊎ ((item ≡ start_item chain_holes) × (prefix ≡ [])) → item.dot ≡ 1
        dot (inl some) = by item.dot some le
          where
            by : (d : ℕ) → d ≢ 0 → d ≤ 1 → d ≡ 1
            by zero ne less = absurd (ne refl)
            by (suc zero) ne less = refl
            by (suc (suc d)) ne less = absurd (omega (arith, less))
        dot (inr (start, nothing)) =
            let f : item.production ≡ 4 = ap (λ (i : Item). i.production) start in absurd (omega (arith, f, n))
