-- At a prefix of the host the valid terminals of the union are, besides marks, those of the host.
use Rattle.std.proofs.Common.{◌++◌, ◌∙◌, ◌∷◌, ◌≡◌, ◌≢◌, ◌⊎◌, List, [], ap, drop, inl, inr, refl, subst, suc, sym, zero, ℕ}
use Rattle.std.specs.Prelude.{◌↔◌}
use Rattle.wb_base.specs.declared.symbol.Symbol.{Symbol}
use Rattle.wb_base.specs.declared.symbol.Symbol.TheVariants.{Nonterminal, Terminal}
use Rattle.wb_grammar_theory.specs.declared.item.Item.{Item}
use Rattle.wb_grammar_theory.specs.Items.{initial_item}
use Rattle.wb_compose_theory.proofs.ActionLemmas.{Acts, plus_acts, reduce, reducing}
use Rattle.wb_compose_theory.proofs.DerivesLemmas.{DerivesIn-append, DerivesIn-same, DerivesIn-split, begins_cut, derives_terminal}
use Rattle.wb_compose_theory.proofs.DerivesLemmas.{valid_more}
use Rattle.wb_compose_theory.proofs.FirstLemmas.{Begins, begins_project, by_itself, by_mark, nullable_project}
use Rattle.wb_compose_theory.proofs.HomeLemmas.{main}
use Rattle.wb_compose_theory.proofs.KernelLemmas.{Found, chain, find_item, flip, found, opens, shapes}
use Rattle.wb_compose_theory.proofs.MarkLemmas.{Clean, bare_not_on, phi_bare}
use Rattle.wb_compose_theory.proofs.PartLemmas.{plain_in, productive_plus, productive_union}
use Rattle.wb_compose_theory.proofs.StepLemmas.{item_source, live, open_names, rest_clean}
use Rattle.wb_compose_theory.specs.Composable.{IsComposableHostIn}
use Rattle.wb_compose_theory.specs.Derives.{AreProductiveIn, DerivesIn, IsFirstIn}
use Rattle.wb_compose_theory.specs.Homes.{AreComposableApart, part_of}
use Rattle.wb_compose_theory.specs.Items.{HasItemIn, IsValidItemIn, IsViablePrefixIn, SameKernelIn, after_dot_in, close, move, start}
use Rattle.wb_compose_theory.specs.Lookaheads.{CanReduceIn, CanShiftIn, IsLookaheadIn, IsValidTerminalIn}
use Rattle.wb_compose_theory.specs.Marks.{IsMarked, Shape, marked, phi, unmarked}
use Rattle.wb_compose_theory.specs.Stands.{StandsFor, as_hole, itself}
use Rattle.wb_compose_theory.specs.Worlds.{Has, IsProductionIn, Owner, Part, World, bare, extension, hole, host, plain, plus, top, union}

-- what can begin with a bare terminal in any part can do so in the part of its symbols
data Starts (w : World) (part : Part) (rest : List Symbol) (t u : ℕ) : Type 0 where
  inside : ((s : ℕ) → IsFirstIn w part (rest ++ Terminal s ∷ []) u) → Starts w part rest t u
  after_all : u ≡ t → IsFirstIn w part (rest ++ Terminal t ∷ []) u → Starts w part rest t u

-- what can begin with a bare terminal
starts : {w : World} {all part : Part} → IsMarked w → (rest : List Symbol) (t u : ℕ) → w.mark u ≡ bare → Clean w part rest →
    IsFirstIn w all (rest ++ Terminal t ∷ []) u → Starts w part rest t u
starts {w} {all} {part} ok rest t u mark clean (v, d) =
    let s = DerivesIn-split rest d in
    elim (begins_cut (Terminal u) v s.front s.back s.is) [
      | inl n ↦ ends (nullable_project ok s.of_front n.0 clean) (derives_terminal t [] s.of_back refl) n.1
      | inr n ↦ begins (begins_project ok s.of_front u n.0 n.1 clean)
    ]
  where
    ends : DerivesIn w part rest [] → {back : List Symbol} → (v' : List Symbol) × (back ≡ Terminal t ∷ v') → back ≡ Terminal u ∷ v →
        Starts w part rest t u
    ends n {back} (v', e) f =
        let g : Terminal u ∷ v ≡ Terminal t ∷ v' = sym f ∙ e in
        let same : u ≡ t = cc in
        after_all same (
          [],
          subst (λ z. DerivesIn w part (rest ++ Terminal t ∷ []) (Terminal z ∷ [])) (sym same)
              (DerivesIn-append n (DerivesIn-same w part (Terminal t ∷ []))),
        )

    begins : Begins w part rest u → Starts w part rest t u
    begins (by_itself v' m r) = inside (λ s. (v' ++ Terminal s ∷ [], DerivesIn-append r (DerivesIn-same w part (Terminal s ∷ []))))
    begins (by_mark h v' m r) = absurd (bare_not_on h (sym mark ∙ m))

-- an item that isn't a hole's is valid for the prefix in the host too, with the same lookaheads besides holes
pub record InPlain (w : World) (prefix : List Symbol) (item : Item) (t : ℕ) : Type 0 where
  pub has : HasItemIn w plain prefix item
  pub valid : w.mark t ≡ bare → IsValidItemIn w plain prefix item t

-- an item with its dot before a nonterminal isn't a hole's
pub open_source : {w : World} → IsMarked w → (item : Item) (b : ℕ) (rest : List Symbol) → w.production_owner item.production ≢ top →
    after_dot_in w item ≡ Nonterminal b ∷ rest → w.production_owner item.production ≢ hole
open_source {w} ok item b rest not_top is source = go (ok.bridges.shape item.production)
  where
    no_drop : (d : ℕ) (x : ℕ) → drop d (Terminal x ∷ []) ≡ Nonterminal b ∷ rest → ⊥
    no_drop zero x e = cc
    no_drop (suc zero) x e = cc
    no_drop (suc (suc d)) x e = cc

    go : Shape w item.production → ⊥
    go (unmarked bares) = ok.named.no_hole (w.left item.production) (sym (ok.named.unmarked_owner item.production bares not_top) ∙ source)
    go (marked m h rest' mark p_is right bares) =
        let m_is : m ≡ w.hole_on h =
        ok.holes.hole_only m h mark (sym (ok.bridges.bridge_owner m h mark) ∙ (ap w.production_owner (sym p_is) ∙ source)) in
        let right_is : w.right item.production ≡ Terminal (w.hole_on h) ∷ [] = ap w.right p_is ∙
        (ap (λ z. w.right (w.production_of z)) m_is ∙ ok.holes.hole_right m h mark) in
        no_drop item.dot (w.hole_on h) (sym (ap (drop item.dot) right_is) ∙ is)

-- a production of the host with holes that isn't a hole's is the host's
plain_rule : (w : World) (p : ℕ) → IsProductionIn w plus p → w.production_owner p ≢ hole → IsProductionIn w plain p
plain_rule w p rule ne = go (w.production_owner p) refl
  where
    go : (o : Owner) → w.production_owner p ≡ o → IsProductionIn w plain p
    go host is = subst (Has plain) (sym is) tt
    go hole is = absurd (ne is)
    go (extension k) is = absurd (subst (Has plus) is rule)
    go top is = absurd (subst (Has plus) is rule)

-- nor is a valid one
source_open : {w : World} {prefix : List Symbol} {item : Item} {t : ℕ} → IsMarked w → IsValidItemIn w plus prefix item t →
    (b : ℕ) (rest : List Symbol) → after_dot_in w item ≡ Nonterminal b ∷ rest → w.production_owner item.production ≢ hole
source_open {w} {item = item} ok v b rest is = go (item_source v)
  where
    go : (item.production ≡ w.top_production) ⊎ IsProductionIn w plus item.production → w.production_owner item.production ≢ hole
    go (inl e) source = let f : top ≡ hole = sym ok.start.top_owner ∙ (ap w.production_owner (sym e) ∙ source) in cc
    go (inr rule) source = open_source ok item b rest (λ e. subst (Has plus) e rule) is source

-- an item of the host with holes
pub plain_valid : {w : World} {prefix : List Symbol} {item : Item} {t : ℕ} → IsMarked w → IsComposableHostIn w →
    IsValidItemIn w plus prefix item t → w.production_owner item.production ≢ hole → InPlain w prefix item t
plain_valid {w} ok h start ne = record { has = (w.end_terminal, start); valid = λ e. start }
plain_valid {w} ok h (close item t b rest q u {prefix} v is rule left f) ne =
    go (plain_valid ok h v (source_open ok v b rest is))
  where
    go : InPlain w prefix item t → InPlain w prefix (initial_item q) u
    go k =
        let (s, vs) = k.has in
        let (c, g) = live h.fit.reduced.productive rest ((open_names ok vs b rest is).1) s in
        let mine = plain_rule w q rule ne in
        record {
          has = (c, close item s b rest q c vs is mine left g);
          valid = λ mark. bare_case mine s vs mark (starts ok rest t u mark (rest_clean ok vs b rest is) f);
        }
      where
        bare_case : IsProductionIn w plain q → (s : ℕ) → IsValidItemIn w plain prefix item s → w.mark u ≡ bare → Starts w plain rest t u →
            IsValidItemIn w plain prefix (initial_item q) u
        bare_case mine s vs mark (inside first) = close item s b rest q u vs is mine left (first s)
        bare_case mine s vs mark (after_all same first) = close item t b rest q u (k.valid (ap w.mark (sym same) ∙ mark)) is mine left first
plain_valid {w} ok h (move item x rest prefix {t} {longer} {moved} v is longer_is moved_is) ne =
    let same : moved.production ≡ item.production = ap (λ i. i.production) moved_is in
    let k = plain_valid ok h v (λ e. ne (ap w.production_owner same ∙ e)) in
    let (s, vs) = k.has in
    record {
      has = (s, move item x rest prefix vs is longer_is moved_is);
      valid = λ mark. move item x rest prefix (k.valid mark) is longer_is moved_is;
    }

-- no item of the union is a hole's
pub union_not_hole : {w : World} {n : ℕ} {prefix : List Symbol} {item : Item} {t : ℕ} → IsMarked w →
    IsValidItemIn w (union n) prefix item t → w.production_owner item.production ≢ hole
union_not_hole {w} {n} {item = item} ok v = go (item_source v)
  where
    go : (item.production ≡ w.top_production) ⊎ IsProductionIn w (union n) item.production → w.production_owner item.production ≢ hole
    go (inl e) source = let f : top ≡ hole = sym ok.start.top_owner ∙ (ap w.production_owner (sym e) ∙ source) in cc
    go (inr rule) source = subst (Has (union n)) source rule

-- the valid terminals of the union at a prefix of the host
pub host_terminals : (w : World) (n : ℕ) → IsMarked w → AreComposableApart w n → (prefix : List Symbol) → IsViablePrefixIn w plain prefix →
    (t : ℕ) → w.mark t ≡ bare → IsValidTerminalIn w (union n) prefix t ↔ IsValidTerminalIn w plain prefix t
host_terminals w n ok c prefix (item0, t0, v0) t mark = (down, up)
  where
    pp : AreProductiveIn w plain
    pp = c.of_host.fit.reduced.productive

    pu : AreProductiveIn w (union n)
    pu = productive_union ok n c

    in_union : SameKernelIn w plain prefix (union n) prefix
    in_union = shapes ok pp pu (plain_in (union n)) v0

    in_plus : SameKernelIn w plain prefix plus prefix
    in_plus = shapes ok pp (productive_plus ok c.of_host) (plain_in plus) v0

    up : IsValidTerminalIn w plain prefix t → IsValidTerminalIn w (union n) prefix t
    up (inl can) = let (s, v) = can.has in
        inl (record { item = can.item; rest = can.rest; has = (s, valid_more (plain_in (union n)) v); before_dot = can.before_dot })
    up (inr (p, red)) =
        let (other, same, v) = red.lookahead in
        let (s, here) = red.has in
        inr (
          p,
          record {
            item = red.item;
            production = red.production;
            complete = red.complete;
            has = (s, valid_more (plain_in (union n)) here);
            lookahead = (
              other,
              chain (flip in_union) (chain same (shapes ok pp pu (plain_in (union n)) v)),
              valid_more (plain_in (union n)) v,
            );
          },
        )

    shifted : (i : Item) (rest : List Symbol) → after_dot_in w i ≡ Terminal t ∷ rest → Found w plain prefix i → CanShiftIn w plain prefix t
    shifted i rest is (found has) = record { item = i; rest = rest; has = has; before_dot = is }
    shifted i rest is (opens m h j rest' m_mark i_is has before) =
        let (rest2, right) = ok.bridges.bridge_right m h m_mark in
        let e : Terminal m ∷ rest2 ≡ Terminal t ∷ rest = sym right ∙ (sym (ap (after_dot_in w) i_is) ∙ is) in
        let f : m ≡ t = cc in
        absurd (bare_not_on h (sym mark ∙ (ap w.mark (sym f) ∙ m_mark)))

    over_same : {j : Item} (i : Item) → after_dot_in w i ≡ [] → StandsFor w i j → j ≡ i
    over_same i over (itself bares same) = same
    over_same i over (as_hole m h m_mark i_is j_is) =
        let (rest2, right) = ok.bridges.bridge_right m h m_mark in
        let e : Terminal m ∷ rest2 ≡ [] = sym right ∙ (sym (ap (after_dot_in w) i_is) ∙ over) in cc

    reduces : {p : ℕ} (i : Item) → i.production ≡ p → after_dot_in w i ≡ [] → IsLookaheadIn w (union n) prefix i t →
        CanReduceIn w plain prefix p t
    reduces {p} i p_is over (other, same, v) =
        let k = main ok c v in
        let item_is : k.item ≡ i = over_same i over k.stands in
        let here : SameKernelIn w plus prefix (part_of k.home) k.other = chain (flip in_plus) (chain in_union (chain same k.same)) in
        let a = plus_acts ok c k.home k.listed prefix k.other (reduce p) t here
        (i, (p_is, over), subst (λ z. IsValidItemIn w (part_of k.home) k.other z (phi w t)) item_is k.valid) in
        plain_one a.other a.same a.acts
      where
        plain_one : (other : List Symbol) → SameKernelIn w plus prefix plus other → Acts w plus other (reduce p) (phi w t) →
            CanReduceIn w plain prefix p t
        plain_one other same' (j, (q_is, over'), v') =
            let not_hole : w.production_owner j.production ≢ hole =
            λ e. union_not_hole ok v (ap w.production_owner (p_is ∙ sym q_is) ∙ e) in
            let pv = (plain_valid ok c.of_host (subst (λ z. IsValidItemIn w plus other j z) (phi_bare w t mark) v') not_hole).valid mark in
            reducing ok pp (flip (chain in_plus (chain same' (flip (shapes ok pp (productive_plus ok c.of_host) (plain_in plus) pv))))) j
            p t q_is over' pv

    reduced : (p : ℕ) → CanReduceIn w (union n) prefix p t → CanReduceIn w plain prefix p t
    reduced p red = reduces red.item red.production red.complete red.lookahead

    down : IsValidTerminalIn w (union n) prefix t → IsValidTerminalIn w plain prefix t
    down (inl can) = let (s, v) = can.has in inl (shifted can.item can.rest can.before_dot (find_item ok pp (flip in_union) v))
    down (inr (p, r)) = inr (p, reduced p r)
