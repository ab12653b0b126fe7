-- What is valid in the union is valid, up to phi, in a grammar that was certified, at a prefix with the same kernel.
use Rattle.std.proofs.Common.{◌++◌, ◌+◌, ◌∙◌, ◌∷◌, ◌≡◌, ◌≢◌, ◌⊎◌, List, [], ap, arith, inl, inr, refl, subst, sym, ℕ}
use Rattle.wb_base.specs.declared.symbol.Symbol.{Symbol}
use Rattle.wb_base.specs.declared.symbol.Symbol.TheVariants.{Nonterminal, Terminal}
use Rattle.wb_grammar_theory.specs.declared.item.Item.{Item}
use Rattle.wb_grammar_theory.specs.Items.{advance, initial_item}
use Rattle.wb_compose_theory.proofs.DerivesLemmas.{derives_more, valid_more}
use Rattle.wb_compose_theory.proofs.KernelLemmas.{advanced, chain, first_kernels, flip, item_step, mark_step, moved_from, shapes}
use Rattle.wb_compose_theory.proofs.MarkLemmas.{Follows, at_mark, clear, follows, has_host, phi_bare, phi_phi}
use Rattle.wb_compose_theory.proofs.PartLemmas.{home_holes, plain_in, plus_in, productive_both, productive_home, productive_plus}
use Rattle.wb_compose_theory.proofs.PartLemmas.{productive_union}
use Rattle.wb_compose_theory.proofs.ReachLemmas.{reach}
use Rattle.wb_compose_theory.proofs.StepLemmas.{close_step, hole_left, hole_rule, item_source, live, open_names, stands_open}
use Rattle.wb_compose_theory.specs.Derives.{AreProductiveIn}
use Rattle.wb_compose_theory.specs.Homes.{AreComposableApart, Home, IsListed, of, of_host, part_of}
use Rattle.wb_compose_theory.specs.Items.{IsKernelItemIn, IsValidItemIn, SameKernelIn, after_dot_in, close, move, start, start_item_in}
use Rattle.wb_compose_theory.specs.Lookaheads.{IsLookaheadIn}
use Rattle.wb_compose_theory.specs.Marks.{Each, IsBare, IsMarked, phi}
use Rattle.wb_compose_theory.specs.Stands.{StandsFor, as_hole, itself}
use Rattle.wb_compose_theory.specs.Worlds.{Has, IsProductionIn, Owner, Part, World, both, extension, hole, host, on, plain, plus, top}
use Rattle.wb_compose_theory.specs.Worlds.{union}

-- an item with its dot not at the left end has no mark after it
pub moved_bare : {w : World} → IsMarked w → (item : Item) → item.dot ≢ 0 → Each (IsBare w) (after_dot_in w item)
moved_bare {w} ok item ne = go (follows ok item)
  where
    go : Follows w item → Each (IsBare w) (after_dot_in w item)
    go (clear bares) = bares
    go (at_mark m h rest mark is opens bares) = absurd (ne (ap (λ i. i.dot) is))

-- so has the start item
pub start_bare : {w : World} → IsMarked w → Each (IsBare w) (after_dot_in w (start_item_in w))
start_bare {w} ok = subst (Each (IsBare w)) (sym ok.start.top_right) (tt, tt)

-- so has a kernel item
pub kernel_bare : {w : World} {part : Part} {prefix : List Symbol} → IsMarked w → (item : Item) → IsKernelItemIn w part prefix item →
    Each (IsBare w) (after_dot_in w item)
kernel_bare ok item (has, inl ne) = moved_bare ok item ne
kernel_bare {w} ok item (has, inr (is, empty)) = subst (λ z. Each (IsBare w) (after_dot_in w z)) (sym is) (start_bare ok)

-- the lookahead rule, at every certified grammar, wherever its kernel is one of the host with holes
pub to_plus : {w : World} {n : ℕ} → IsMarked w → AreComposableApart w n → (home : Home) → IsListed n home →
    (a b : List Symbol) (item : Item) (t : ℕ) → SameKernelIn w plus a (part_of home) b → IsKernelItemIn w plus a item →
    IsValidItemIn w (part_of home) b item (phi w t) → IsLookaheadIn w plus a item (phi w t)
to_plus ok c of_host l a b item t same k v = (b, same, v)
to_plus {w} ok c (of e) l a b item t same k v =
    let x = c.of_extension e l in
    let up : SameKernelIn w plus a (both e) a = shapes ok (productive_plus ok c.of_host) (productive_both ok e x) (plus_in (of e))
    ((k.0).1) in
    let (other, same', v') = x.keeps_lookaheads a item (phi w t) k (b, chain (flip up) same, v) in
    (other, same', subst (λ z. IsValidItemIn w plus other item z) (phi_phi w ok t) v')

-- items that move to one are one
advance_same : (i j : Item) → advance i ≡ advance j → i ≡ j
advance_same i j e =
    let p : i.production ≡ j.production = ap (λ z. z.production) e in
    let d : i.dot + 1 ≡ j.dot + 1 = ap (λ z. z.dot) e in
    let f : i.dot ≡ j.dot = omega arith in
    λ k. record { production = p k; dot = f k }

-- a bridge's initial item is valid where its hole's is
twin : {w : World} {part : Part} {prefix : List Symbol} {i : Item} {u : ℕ} → IsMarked w → ((o : Owner) → Has plus o → Has part o) →
    (m h : ℕ) → w.mark m ≡ on h → IsProductionIn w part (w.production_of m) → IsValidItemIn w plus prefix i u →
    i ≡ initial_item (w.production_of (w.hole_on h)) → IsValidItemIn w part prefix (initial_item (w.production_of m)) u
twin {w} ok more m h mark rule start i_is =
    let e : w.top_production ≡ w.production_of (w.hole_on h) = ap (λ z. z.production) i_is in
    let f : Nonterminal w.start_symbol ∷ [] ≡ Terminal (w.hole_on h) ∷ [] = sym ok.start.top_right ∙
    (ap w.right e ∙ ok.holes.hole_right m h mark) in cc
twin {w} {part} ok more m h mark rule (close item t b rest q u {prefix} v is rule' left (x, d)) i_is =
    let e : q ≡ w.production_of (w.hole_on h) = ap (λ z. z.production) i_is in
    let same : h ≡ b = sym (hole_left ok m h mark) ∙ (ap w.left (sym e) ∙ left) in
    close item t b rest (w.production_of m) u (valid_more more v) is rule (ok.bridges.bridge_left m h mark ∙ same) (x, derives_more more d)
twin ok more m h mark rule (move item x rest prefix {moved = moved} v is longer_is moved_is) i_is =
    absurd (advanced item moved moved_is (ap (λ z. z.dot) i_is))

-- what the item stands for is valid, with what the terminal becomes by phi, in a certified grammar at a prefix with the same kernel
pub record Known (w : World) (n : ℕ) (part : Part) (prefix : List Symbol) (i : Item) (t : ℕ) : Type 0 where
  pub home : Home
  pub listed : IsListed n home
  pub other : List Symbol
  pub item : Item
  pub stands : StandsFor w i item
  pub same : SameKernelIn w part prefix (part_of home) other
  pub valid : IsValidItemIn w (part_of home) other item (phi w t)

-- a certified grammar that has the production
record Owned (w : World) (n : ℕ) (p : ℕ) : Type 0 where
  home : Home
  listed : IsListed n home
  rule : IsProductionIn w (part_of home) p

-- each production of the union is of a certified grammar
owned : (w : World) (n p : ℕ) → IsProductionIn w (union n) p → Owned w n p
owned w n p rule = go (w.production_owner p) refl
  where
    go : (o : Owner) → w.production_owner p ≡ o → Owned w n p
    go host e = record { home = of_host; listed = tt; rule = subst (Has plus) (sym e) tt }
    go hole e = absurd (subst (Has (union n)) e rule)
    go (extension k) e = record { home = of k; listed = subst (Has (union n)) e rule; rule = subst (Has (both k)) (sym e) refl }
    go top e = absurd (subst (Has (union n)) e rule)

-- the production of a valid item is of the union
pub mark_rule : {w : World} {n : ℕ} {prefix : List Symbol} {i : Item} {t : ℕ} → IsMarked w → (m h : ℕ) → w.mark m ≡ on h →
    IsValidItemIn w (union n) prefix i t → i ≡ initial_item (w.production_of m) → IsProductionIn w (union n) (w.production_of m)
mark_rule {w} {n} {i = i} ok m h mark v is = go (item_source v)
  where
    go : (i.production ≡ w.top_production) ⊎ IsProductionIn w (union n) i.production → IsProductionIn w (union n) (w.production_of m)
    go (inl e) =
        let (rest, right) = ok.bridges.bridge_right m h mark in
        let f : w.top_production ≡ w.production_of m = sym e ∙ ap (λ z. z.production) is in
        let g : Nonterminal w.start_symbol ∷ [] ≡ Terminal m ∷ rest = sym ok.start.top_right ∙ (ap w.right f ∙ right) in cc
    go (inr rule) = subst (λ z. IsProductionIn w (union n) z.production) is rule

-- from a hole's item at any certified grammar to the bridge at its own
record Hop (w : World) (n : ℕ) (m : ℕ) (t : ℕ) : Type 0 where
  home : Home
  listed : IsListed n home
  other : List Symbol
  valid : IsValidItemIn w (part_of home) other (initial_item (w.production_of m)) (phi w t)

-- the bridge is valid in its own certified grammar where what it stands for is valid in any
hop : {w : World} {n : ℕ} → IsMarked w → AreComposableApart w n → (home : Home) → IsListed n home → (m h t : ℕ) → w.mark m ≡ on h →
    IsProductionIn w (union n) (w.production_of m) → (b : List Symbol) →
    IsValidItemIn w (part_of home) b (initial_item (w.production_of (w.hole_on h))) (phi w t) → Hop w n m t
hop {w} {n} ok c home listed m h t mark rule b v =
    let o = reach ok pp (plain_in plus) h
    (c.of_host.fit.reduced.reachable h (has_host plain (w.symbol_owner (Nonterminal h)) (ok.bridges.bridge_host m h mark))) in
    let (u, f) = live pp o.rest ((open_names ok o.valid h o.rest o.is).1) o.t in
    let there : IsValidItemIn w plus o.prefix hole_item u = close o.item o.t h o.rest (w.production_of (w.hole_on h)) u o.valid o.is
    (hole_rule ok plus tt m h mark) (hole_left ok m h mark) f in
    let same : SameKernelIn w plus (o.prefix ++ Terminal (w.hole_on h) ∷ []) (part_of home) (b ++ Terminal (w.hole_on h) ∷ []) =
    mark_step ok o.prefix b (w.hole_on h) h [] [] hole_item hole_item u (phi w t) (ok.holes.hole_mark m h mark) there
    (ok.holes.hole_right m h mark) v (ok.holes.hole_right m h mark) in
    let moved : IsValidItemIn w plus (o.prefix ++ Terminal (w.hole_on h) ∷ []) (advance hole_item) u =
    move hole_item (Terminal (w.hole_on h)) [] o.prefix there (ok.holes.hole_right m h mark) refl refl in
    let back = to_plus ok c home listed (o.prefix ++ Terminal (w.hole_on h) ∷ []) (b ++ Terminal (w.hole_on h) ∷ [])
    (advance hole_item) t same ((u, moved), inl (advanced hole_item (advance hole_item) refl))
    (move hole_item (Terminal (w.hole_on h)) [] b v (ok.holes.hole_right m h mark) refl refl) in
    let k = moved_from back.2 (advanced hole_item (advance hole_item) refl) in
    let own = owned w n (w.production_of m) rule in
    record {
      home = own.home;
      listed = own.listed;
      other = k.prefix;
      valid = twin ok (plus_in own.home) m h mark own.rule k.valid (sym (advance_same hole_item k.item k.is));
    }
  where
    pp : AreProductiveIn w plus
    pp = productive_plus ok c.of_host

    hole_item : Item
    hole_item = initial_item (w.production_of (w.hole_on h))

-- what is valid in the union is so in a certified grammar
pub main : {w : World} {n : ℕ} {prefix : List Symbol} {i : Item} {t : ℕ} → IsMarked w → AreComposableApart w n →
    IsValidItemIn w (union n) prefix i t → Known w n (union n) prefix i t
main {w} {n} ok c start = record {
  home = of_host;
  listed = tt;
  other = [];
  item = start_item_in w;
  stands = itself (start_bare ok) refl;
  same = first_kernels (union n) plus;
  valid = subst (λ z. IsValidItemIn w plus [] (start_item_in w) z) (sym (phi_bare w w.end_terminal ok.start.end_bare)) start;
}
main {w} {n} ok c (close item t b rest q u {prefix} v is rule left f) =
    let k = main ok c v in
    let same : k.item ≡ item = stands_open ok k.stands b rest is in
    let s = close_step ok (home_holes k.home) item t b rest q u
    (subst (λ z. IsValidItemIn w (part_of k.home) k.other z (phi w t)) same k.valid) is rule left f in
    record { home = k.home; listed = k.listed; other = k.other; item = s.item; stands = s.stands; same = k.same; valid = s.valid }
main {w} {n} ok c (move item x rest prefix {t} {longer} {moved} v is longer_is moved_is) =
    go (main ok c v)
  where
    stays : StandsFor w moved moved
    stays = itself (moved_bare ok moved (advanced item moved moved_is)) refl

    go : Known w n (union n) prefix item t → Known w n (union n) longer moved t
    go k = by k.stands
      where
        by : StandsFor w item k.item → Known w n (union n) longer moved t
        by (itself bares same) =
            let here = subst (λ z. IsValidItemIn w (part_of k.home) k.other z (phi w t)) same k.valid in
            record {
              home = k.home;
              listed = k.listed;
              other = k.other ++ x ∷ [];
              item = moved;
              stands = stays;
              same = subst (λ z. SameKernelIn w (union n) z (part_of k.home) (k.other ++ x ∷ [])) (sym longer_is)
                  (item_step ok (productive_union ok n c) (productive_home ok c k.home k.listed) x rest k.same v here is);
              valid = move item x rest k.other here is refl moved_is;
            }
        by (as_hole m h mark item_is hole_is) =
            let (rest', right) = ok.bridges.bridge_right m h mark in
            let begins : after_dot_in w item ≡ Terminal m ∷ rest' = ap (after_dot_in w) item_is ∙ right in
            let j = hop ok c k.home k.listed m h t mark (mark_rule ok m h mark v item_is) k.other
            (subst (λ z. IsValidItemIn w (part_of k.home) k.other z (phi w t)) hole_is k.valid) in
            let e : x ∷ rest ≡ Terminal m ∷ rest' = sym is ∙ begins in
            let x_is : x ≡ Terminal m = cc in
            record {
              home = j.home;
              listed = j.listed;
              other = j.other ++ Terminal m ∷ [];
              item = moved;
              stands = stays;
              same = subst (λ z. SameKernelIn w (union n) z (part_of j.home) (j.other ++ Terminal m ∷ []))
                  (sym (longer_is ∙ ap (λ z. prefix ++ z ∷ []) x_is))
                  (mark_step ok prefix j.other m h rest' rest' item (initial_item (w.production_of m)) t
                  (phi w t) mark v begins j.valid right);
              valid = move (initial_item (w.production_of m)) (Terminal m) rest' j.other j.valid right refl (moved_is ∙ ap advance item_is);
            }
