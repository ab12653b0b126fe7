-- The lookaheads of the union are those of the certified grammars.
use Rattle.std.proofs.Common.{◌++◌, ◌<◌, ◌∙◌, ◌∷◌, ◌≡◌, ◌≢◌, ◌⊎◌, List, [], ap, inl, inr, refl, subst, sym, ℕ}
use Rattle.std.specs.Prelude.{◌↔◌}
use Rattle.wb_base.specs.declared.symbol.Symbol.{Symbol}
use Rattle.wb_base.specs.declared.symbol.Symbol.TheVariants.{Nonterminal, Terminal}
use Rattle.wb_grammar_theory.specs.declared.item.Item.{Item}
use Rattle.wb_grammar_theory.specs.Items.{initial_item}
use Rattle.wb_compose_theory.proofs.ActionLemmas.{plus_looks}
use Rattle.wb_compose_theory.proofs.DerivesLemmas.{DerivesIn-append, DerivesIn-same, DerivesIn-split, DerivesIn-then, begins_cut}
use Rattle.wb_compose_theory.proofs.DerivesLemmas.{derives_terminal}
use Rattle.wb_compose_theory.proofs.FirstLemmas.{Begins, begins_project, by_itself, by_mark, nullable_project}
use Rattle.wb_compose_theory.proofs.HomeLemmas.{main, mark_rule}
use Rattle.wb_compose_theory.proofs.HostTerminalLemmas.{open_source, union_not_hole}
use Rattle.wb_compose_theory.proofs.KernelLemmas.{advanced, chain, first_kernels, flip, item_step, same_itself}
use Rattle.wb_compose_theory.proofs.MarkLemmas.{Clean, bare_not_on, each_append, phi_bare, phi_on, phi_phi}
use Rattle.wb_compose_theory.proofs.PartLemmas.{productive_home, productive_union}
use Rattle.wb_compose_theory.proofs.StepLemmas.{Named, hole_left, item_source, live, open_names, rest_clean, rule_names}
use Rattle.wb_compose_theory.specs.Derives.{DerivesIn, IsFirstIn, done, expand, keep}
use Rattle.wb_compose_theory.specs.Homes.{AreComposableApart, Home, IsListed, of, of_host, part_of}
use Rattle.wb_compose_theory.specs.Items.{HasItemIn, IsKernelItemIn, IsValidItemIn, SameKernelIn, after_dot_in, close, move, start}
use Rattle.wb_compose_theory.specs.Items.{start_item_in}
use Rattle.wb_compose_theory.specs.Lookaheads.{IsLookaheadIn}
use Rattle.wb_compose_theory.specs.Marks.{IsMarked, phi}
use Rattle.wb_compose_theory.specs.Stands.{IsHostLookahead, IsPartLookahead, StandsFor, as_hole, itself}
use Rattle.wb_compose_theory.specs.Worlds.{Has, IsProductionIn, Mark, Owner, Part, World, bare, both, extension, hole, host, on, plus, top}
use Rattle.wb_compose_theory.specs.Worlds.{union}

-- phi tells bare terminals apart, and for marks their nonterminal
pub phi_from_bare : (w : World) → IsMarked w → (u t : ℕ) → phi w u ≡ phi w t → w.mark t ≡ bare → u ≡ t
phi_from_bare w ok u t e mark = go (w.mark u) refl
  where
    go : (m : Mark) → w.mark u ≡ m → u ≡ t
    go bare f = sym (phi_bare w u f) ∙ (e ∙ phi_bare w t mark)
    go (on h) f =
        let g : w.hole_on h ≡ t = sym (phi_on w u h f) ∙ (e ∙ phi_bare w t mark) in
        absurd (bare_not_on h (sym mark ∙ (ap w.mark (sym g) ∙ ok.holes.hole_mark u h f)))

-- phi tells marks on different nonterminals apart
pub phi_from_on : (w : World) → IsMarked w → (u t h : ℕ) → phi w u ≡ phi w t → w.mark t ≡ on h → w.mark u ≡ on h
phi_from_on w ok u t h e mark = go (w.mark u) refl
  where
    go : (m : Mark) → w.mark u ≡ m → w.mark u ≡ on h
    go bare f =
        let g : u ≡ w.hole_on h = sym (phi_bare w u f) ∙ (e ∙ phi_on w t h mark) in
        ap w.mark g ∙ ok.holes.hole_mark t h mark
    go (on k) f =
        let g : w.hole_on k ≡ w.hole_on h = sym (phi_on w u k f) ∙ (e ∙ phi_on w t h mark) in
        f ∙ (sym (ok.holes.hole_mark u k f) ∙ (ap w.mark g ∙ ok.holes.hole_mark t h mark))

-- what derives from symbols of a part has symbols of the part
pub names_derive : {w : World} {part : Part} {a x : List Symbol} → IsMarked w → DerivesIn w part a x → Named w part a → Named w part x
names_derive ok done named = named
names_derive ok (keep y r) named = (named.0, names_derive ok r named.1)
names_derive {w} {part} ok (expand p b u v rule left r s is) named =
    subst (Named w part) (sym is)
    (each_append (λ x. Has part (w.symbol_owner x)) u v (names_derive ok r (rule_names ok part p rule)) (names_derive ok s named.1))

-- a lookahead is a terminal of the part
pub lookahead_named : {w : World} {part : Part} {prefix : List Symbol} {i : Item} {t : ℕ} → IsMarked w → IsValidItemIn w part prefix i t →
    Has part (w.symbol_owner (Terminal t))
lookahead_named {w} {part} ok start = subst (Has part) (sym ok.start.end_host) tt
lookahead_named {w} {part} ok (close item t b rest q u v is rule left (x, d)) =
    (names_derive ok d (each_append (λ x. Has part (w.symbol_owner x)) rest (Terminal t ∷ []) ((open_names ok v b rest is).1)
    (lookahead_named ok v, tt))).0
lookahead_named ok (move item x rest prefix v is longer_is moved_is) = lookahead_named ok v

-- the item is valid in the union for the very same prefix, with all terminals of the union that phi takes to the same
pub record Back (w : World) (n : ℕ) (prefix : List Symbol) (j : Item) (t : ℕ) : Type 0 where
  pub has : HasItemIn w (union n) prefix j
  pub valid : (u : ℕ) → Has (union n) (w.symbol_owner (Terminal u)) → phi w u ≡ phi w t → IsValidItemIn w (union n) prefix j u

-- a production of a certified grammar that isn't a hole's is of the union
union_rule : (w : World) (n : ℕ) (home : Home) → IsListed n home → (p : ℕ) → IsProductionIn w (part_of home) p →
    w.production_owner p ≢ hole → IsProductionIn w (union n) p
union_rule w n home l p rule ne = go home l (w.production_owner p) refl rule
  where
    go : (home : Home) → IsListed n home → (o : Owner) → w.production_owner p ≡ o → IsProductionIn w (part_of home) p →
        IsProductionIn w (union n) p
    go home l host is rule = subst (Has (union n)) (sym is) tt
    go home l hole is rule = absurd (ne is)
    go of_host l (extension k) is rule = absurd (subst (Has plus) is rule)
    go (of e) l (extension k) is rule =
        let same : k ≡ e = subst (Has (both e)) is rule in
        subst (Has (union n)) (sym is) (subst (λ z. z < n) (sym same) l)
    go of_host l top is rule = absurd (subst (Has plus) is rule)
    go (of e) l top is rule = absurd (subst (Has (both e)) is rule)

-- an item with its dot before a nonterminal isn't a hole's
not_hole : {w : World} {part : Part} {prefix : List Symbol} {item : Item} {t : ℕ} → IsMarked w → IsValidItemIn w part prefix item t →
    (b : ℕ) (rest : List Symbol) → after_dot_in w item ≡ Nonterminal b ∷ rest → w.production_owner item.production ≢ hole
not_hole {w} {part} {item = item} ok v b rest is = go (item_source v)
  where
    go : (item.production ≡ w.top_production) ⊎ IsProductionIn w part item.production → w.production_owner item.production ≢ hole
    go (inl e) source = let f : top ≡ hole = sym ok.start.top_owner ∙ (ap w.production_owner (sym e) ∙ source) in cc
    go (inr rule) source = open_source ok item b rest (λ e. subst (Has part) e rule) is source

-- an initial item is valid in the union
close_back : {w : World} {n : ℕ} {part : Part} {prefix : List Symbol} → IsMarked w → AreComposableApart w n →
    (item : Item) (t b : ℕ) (rest : List Symbol) (u : ℕ) → Back w n prefix item t → after_dot_in w item ≡ Nonterminal b ∷ rest →
    IsFirstIn w part (rest ++ Terminal t ∷ []) u → (q : ℕ) → IsProductionIn w (union n) q → w.left q ≡ b →
    Back w n prefix (initial_item q) u
close_back {w} {n} {part} {prefix} ok c item t b rest u k is (x, d) q rule left =
    let (s, vs) = k.has in
    let (e, f) = live (productive_union ok n c) rest ((open_names ok vs b rest is).1) s in
    record { has = (e, close item s b rest q e vs is rule left f); valid = λ y hy same. each y hy same s vs (rest_clean ok vs b rest is) }
  where
    each : (y : ℕ) → Has (union n) (w.symbol_owner (Terminal y)) → phi w y ≡ phi w u → (s : ℕ) → IsValidItemIn w (union n) prefix item s →
        Clean w (union n) rest → IsValidItemIn w (union n) prefix (initial_item q) y
    each y hy same s vs clean =
        let p = DerivesIn-split rest d in
        elim (begins_cut (Terminal u) x p.front p.back p.is) [
          | inl n' ↦ ends (nullable_project ok p.of_front n'.0 clean) (derives_terminal t [] p.of_back refl) n'.1
          | inr n' ↦ begins (begins_project ok p.of_front u n'.0 n'.1 clean)
        ]
      where
        last : (z : ℕ) → DerivesIn w (union n) (Terminal z ∷ []) (Terminal z ∷ [])
        last z = DerivesIn-same w (union n) (Terminal z ∷ [])

        ends : DerivesIn w (union n) rest [] → {back : List Symbol} → (v' : List Symbol) × (back ≡ Terminal t ∷ v') →
            back ≡ Terminal u ∷ x → IsValidItemIn w (union n) prefix (initial_item q) y
        ends empty {back} (v', f) g =
            let h : Terminal t ∷ v' ≡ Terminal u ∷ x = sym f ∙ g in
            let t_is : t ≡ u = cc in
            close item y b rest q y (k.valid y hy (same ∙ ap (phi w) (sym t_is))) is rule left ([], DerivesIn-append empty (last y))

        begins : Begins w (union n) rest u → IsValidItemIn w (union n) prefix (initial_item q) y
        begins (by_itself v' mark r) =
            let y_is : y ≡ u = phi_from_bare w ok y u same mark in
            close item s b rest q y vs is rule left (
              v' ++ Terminal s ∷ [],
              subst (λ z. DerivesIn w (union n) (rest ++ Terminal s ∷ []) (Terminal z ∷ v' ++ Terminal s ∷ []))
                  (sym y_is) (DerivesIn-append r (last s)),
            )
        begins (by_mark h v' mark r) =
            let y_mark : w.mark y ≡ on h = phi_from_on w ok y u h same mark in
            let (rest', right) = ok.bridges.bridge_right y h y_mark in
            let y_rule : IsProductionIn w (union n) (w.production_of y) =
            subst (Has (union n)) (sym (ok.bridges.bridge_owner y h y_mark)) hy in
            let bridged : DerivesIn w (union n) (Nonterminal h ∷ v') (Terminal y ∷ (rest' ++ v')) =
            expand (w.production_of y) h (Terminal y ∷ rest') v' y_rule (ok.bridges.bridge_left y h y_mark)
            (subst (λ z. DerivesIn w (union n) z (Terminal y ∷ rest')) (sym right) (DerivesIn-same w (union n) (Terminal y ∷ rest')))
            (DerivesIn-same w (union n) v') refl in
            close item s b rest q y vs is rule left ((rest' ++ v') ++ Terminal s ∷ [], DerivesIn-append (DerivesIn-then r bridged) (last s))

-- an item that isn't a hole's is valid in the union
pub back : {w : World} {n : ℕ} → IsMarked w → AreComposableApart w n → (home : Home) → IsListed n home →
    {prefix : List Symbol} {j : Item} {t : ℕ} → IsValidItemIn w (part_of home) prefix j t → w.production_owner j.production ≢ hole →
    Back w n prefix j t
back {w} {n} ok c home l start ne =
    record {
      has = (w.end_terminal, start);
      valid = λ u hu same. subst (λ z. IsValidItemIn w (union n) [] (start_item_in w) z)
          (sym (phi_from_bare w ok u w.end_terminal same ok.start.end_bare)) start;
    }
back {w} {n} ok c home l (close item t b rest q u v is rule left f) ne =
    close_back ok c item t b rest u (back ok c home l v (not_hole ok v b rest is)) is f q (union_rule w n home l q rule ne) left
back {w} {n} ok c home l (move item x rest prefix {moved = moved} v is longer_is moved_is) ne =
    let same : moved.production ≡ item.production = ap (λ i. i.production) moved_is in
    let k = back ok c home l v (λ e. ne (ap w.production_owner same ∙ e)) in
    let (s, vs) = k.has in
    record {
      has = (s, move item x rest prefix vs is longer_is moved_is);
      valid = λ u hu e. move item x rest prefix (k.valid u hu e) is longer_is moved_is;
    }

-- such a prefix has the same kernel in the union
pub back_same : {w : World} {n : ℕ} → IsMarked w → AreComposableApart w n → (home : Home) → IsListed n home →
    {prefix : List Symbol} {j : Item} {t : ℕ} → IsValidItemIn w (part_of home) prefix j t → w.production_owner j.production ≢ hole →
    SameKernelIn w (part_of home) prefix (union n) prefix
back_same {n = n} ok c home l start ne = first_kernels (part_of home) (union n)
back_same ok c home l (close item t b rest q u v is rule left f) ne = back_same ok c home l v (not_hole ok v b rest is)
back_same {w} {n} ok c home l (move item x rest prefix {longer = longer} {moved = moved} v is longer_is moved_is) ne =
    let same : moved.production ≡ item.production = ap (λ i. i.production) moved_is in
    let here : w.production_owner item.production ≢ hole = λ e. ne (ap w.production_owner same ∙ e) in
    let k = back ok c home l v here in
    let (s, vs) = k.has in
    subst (λ z. SameKernelIn w (part_of home) z (union n) z) (sym longer_is)
    (item_step ok (productive_home ok c home l) (productive_union ok n c) x rest (back_same ok c home l v here) v vs is)

-- the same for a bridge, from its hole's item
record Bridged (w : World) (n : ℕ) (home : Home) (prefix : List Symbol) (q t : ℕ) : Type 0 where
  back : Back w n prefix (initial_item q) t
  same : SameKernelIn w (part_of home) prefix (union n) prefix

-- a bridge is valid in the union where its hole's production is in a certified grammar
bridged : {w : World} {n : ℕ} → IsMarked w → AreComposableApart w n → (home : Home) → IsListed n home → (m h : ℕ) → w.mark m ≡ on h →
    IsProductionIn w (union n) (w.production_of m) → {prefix : List Symbol} {i : Item} {t : ℕ} →
    IsValidItemIn w (part_of home) prefix i t → i ≡ initial_item (w.production_of (w.hole_on h)) →
    Bridged w n home prefix (w.production_of m) t
bridged {w} ok c home l m h mark rule start i_is =
    let e : w.top_production ≡ w.production_of (w.hole_on h) = ap (λ z. z.production) i_is in
    let f : Nonterminal w.start_symbol ∷ [] ≡ Terminal (w.hole_on h) ∷ [] = sym ok.start.top_right ∙
    (ap w.right e ∙ ok.holes.hole_right m h mark) in cc
bridged {w} ok c home l m h mark rule (close item t b rest q u v is rule' left f) i_is =
    let e : q ≡ w.production_of (w.hole_on h) = ap (λ z. z.production) i_is in
    let same : h ≡ b = sym (hole_left ok m h mark) ∙ (ap w.left (sym e) ∙ left) in
    let ne = not_hole ok v b rest is in
    record {
      back = close_back ok c item t b rest u (back ok c home l v ne) is f (w.production_of m) rule (ok.bridges.bridge_left m h mark ∙ same);
      same = back_same ok c home l v ne;
    }
bridged ok c home l m h mark rule (move item x rest prefix {moved = moved} v is longer_is moved_is) i_is =
    absurd (advanced item moved moved_is (ap (λ z. z.dot) i_is))

-- the lookaheads of the union
pub lookaheads : (w : World) (n : ℕ) → IsMarked w → AreComposableApart w n → (prefix : List Symbol) (i : Item) →
    HasItemIn w (union n) prefix i → (t : ℕ) →
    IsLookaheadIn w (union n) prefix i t ↔ (Has (union n) (w.symbol_owner (Terminal t)) × IsPartLookahead w n prefix i t)
lookaheads w n ok c prefix i (t0, v0) t = (there, here)
  where
    there : IsLookaheadIn w (union n) prefix i t → Has (union n) (w.symbol_owner (Terminal t)) × IsPartLookahead w n prefix i t
    there (other, same, v) =
        let k = main ok c v in (
          lookahead_named ok v,
          record {
            home = k.home;
            listed = k.listed;
            other = k.other;
            item = k.item;
            stands = k.stands;
            same = chain same k.same;
            lookahead = (k.other, same_itself w (part_of k.home) k.other, k.valid);
          },
        )

    here : Has (union n) (w.symbol_owner (Terminal t)) × IsPartLookahead w n prefix i t → IsLookaheadIn w (union n) prefix i t
    here (named, k) =
        let (other, same, v) = k.lookahead in
        go k.stands other (chain k.same same) v
      where
        go : StandsFor w i k.item → (other : List Symbol) → SameKernelIn w (union n) prefix (part_of k.home) other →
            IsValidItemIn w (part_of k.home) other k.item (phi w t) → IsLookaheadIn w (union n) prefix i t
        go (itself bares item_is) other same v =
            let v' = subst (λ z. IsValidItemIn w (part_of k.home) other z (phi w t)) item_is v in
            let ne = union_not_hole ok v0 in (
              other,
              chain same (back_same ok c k.home k.listed v' ne),
              (back ok c k.home k.listed v' ne).valid t named (sym (phi_phi w ok t)),
            )
        go (as_hole m h mark i_is item_is) other same v =
            let b = bridged ok c k.home k.listed m h mark (mark_rule ok m h mark v0 i_is) v item_is in (
              other,
              chain same b.same,
              subst (λ z. IsValidItemIn w (union n) other z t) (sym i_is)
                  (b.back.valid t named (sym (phi_phi w ok t))),
            )

-- what stands for what stands for an item stands for it
stands_then : {w : World} → IsMarked w → {i j k : Item} → StandsFor w i j → StandsFor w j k → StandsFor w i k
stands_then {w} ok {i} {j} {k} (itself bares j_is) s = subst (λ z. StandsFor w z k) j_is s
stands_then {w} ok (as_hole m h mark i_is j_is) (itself bares k_is) = as_hole m h mark i_is (k_is ∙ j_is)
stands_then {w} ok (as_hole m h mark i_is j_is) (as_hole m' h' mark' j_is' k_is) =
    let p : w.production_of m' ≡ w.production_of (w.hole_on h) = ap (λ z. z.production) (sym j_is' ∙ j_is) in
    let e : h' ≡ h = sym (ok.bridges.bridge_left m' h' mark') ∙ (ap w.left p ∙ hole_left ok m h mark) in
    as_hole m h mark i_is (k_is ∙ ap (λ z. initial_item (w.production_of (w.hole_on z))) e)

-- where the kernel is one of the host with holes, they are those of that grammar
pub host_lookaheads : (w : World) (n : ℕ) → IsMarked w → AreComposableApart w n → (prefix a : List Symbol) →
    SameKernelIn w plus a (union n) prefix → (i : Item) (t : ℕ) → IsPartLookahead w n prefix i t ↔ IsHostLookahead w a i t
host_lookaheads w n ok c prefix a here i t = (there, back')
  where
    there : IsPartLookahead w n prefix i t → IsHostLookahead w a i t
    there k =
        let (other, same, v) = k.lookahead in
        let s = plus_looks ok c k.home k.listed a (chain here (chain k.same same)) v in
        record {
          item = s.item;
          stands = stands_then ok k.stands s.stands;
          lookahead =
              subst (λ z. IsLookaheadIn w plus a s.item z) (phi_phi w ok t) s.looks;
        }

    back' : IsHostLookahead w a i t → IsPartLookahead w n prefix i t
    back' k = record { home = of_host; listed = tt; other = a; item = k.item; stands = k.stands; same = flip here; lookahead = k.lookahead }

-- where the kernel has an item of an extension, only the grammar with that extension has the kernel
pub home_of : {w : World} {n : ℕ} → IsMarked w → (prefix : List Symbol) (e : ℕ) (k : Item) → IsKernelItemIn w (union n) prefix k →
    w.production_owner k.production ≡ extension e → (home : Home) (other : List Symbol) →
    SameKernelIn w (union n) prefix (part_of home) other → home ≡ of e
home_of {w} ok prefix e k in_kernel source home other same = go home other ((((same k).0 in_kernel).0).1)
  where
    go : (home : Home) (other : List Symbol) {s : ℕ} → IsValidItemIn w (part_of home) other k s → home ≡ of e
    go of_host other v = elim (item_source v) [
      | inl is ↦ (let f : top ≡ extension e = sym ok.start.top_owner ∙ (ap w.production_owner (sym is) ∙ source) in cc)
      | inr rule ↦ absurd (subst (Has plus) source rule)
    ]
    go (of f) other v = elim (item_source v) [
      | inl is ↦ (let g : top ≡ extension e = sym ok.start.top_owner ∙ (ap w.production_owner (sym is) ∙ source) in cc)
      | inr rule ↦ (let same : e ≡ f = subst (Has (both f)) source rule in ap of (sym same))
    ]
