-- The kernels after marks: each is one item, and after a hole it is one of the host with holes.
use Rattle.std.proofs.Common.{◌++◌, ◌∙◌, ◌∷◌, ◌≡◌, List, [], ap, inl, inr, refl, subst, sym, ℕ}
use Rattle.std.specs.Prelude.{◌↔◌}
use Rattle.wb_base.specs.declared.symbol.Symbol.{Symbol}
use Rattle.wb_base.specs.declared.symbol.Symbol.TheVariants.{Nonterminal, Terminal}
use Rattle.wb_grammar_theory.specs.declared.item.Item.{Item}
use Rattle.wb_grammar_theory.proofs.KernelLemmas.{snoc_not_nil, snoc_parts}
use Rattle.wb_grammar_theory.specs.Items.{advance, initial_item}
use Rattle.wb_compose_theory.proofs.KernelLemmas.{Moved, advanced, mark_step, moved_from}
use Rattle.wb_compose_theory.proofs.MarkLemmas.{has_host, mark_opens}
use Rattle.wb_compose_theory.proofs.PartLemmas.{plain_in, productive_plus}
use Rattle.wb_compose_theory.proofs.ReachLemmas.{reach}
use Rattle.wb_compose_theory.proofs.StepLemmas.{hole_left, hole_rule, live, open_names}
use Rattle.wb_compose_theory.specs.Homes.{AreComposableApart, Home, IsListed, part_of}
use Rattle.wb_compose_theory.specs.Items.{IsKernelItemIn, IsValidItemIn, IsViablePrefixIn, SameKernelIn, close}
use Rattle.wb_compose_theory.specs.Items.{move}
use Rattle.wb_compose_theory.specs.Marks.{IsMarked}
use Rattle.wb_compose_theory.specs.Worlds.{Part, World, hole, on, plain, plus, top}
use Rattle.wb_compose_theory_kernels.proofs.WorldMoves.{AtHole, Before, at_hole, before}

-- the kernel after a mark is one item
pub marked_kernel : {w : World} {part : Part} → IsMarked w → (prefix : List Symbol) (m h : ℕ) → w.mark m ≡ on h →
    IsViablePrefixIn w part (prefix ++ Terminal m ∷ []) → (item : Item) →
    IsKernelItemIn w part (prefix ++ Terminal m ∷ []) item ↔ (item ≡ advance (initial_item (w.production_of m)))
marked_kernel {w} {part} ok prefix m h mark (i, t, v) item = (there, here (before v prefix (Terminal m) refl))
  where
    there : IsKernelItemIn w part (prefix ++ Terminal m ∷ []) item → item ≡ advance (initial_item (w.production_of m))
    there ((u, v'), inr (is, empty)) = absurd (snoc_not_nil prefix (Terminal m) empty)
    there ((u, v'), inl ne) =
        let k = moved_from v' ne in
        let p = snoc_parts prefix k.prefix (Terminal m) k.x k.longer_is in
        k.is ∙ ap advance (mark_opens ok k.item m h k.rest (k.before_dot ∙ ap (λ z. z ∷ k.rest) (sym p.1)) mark)

    here : Before w part prefix (Terminal m) → item ≡ advance (initial_item (w.production_of m)) →
        IsKernelItemIn w part (prefix ++ Terminal m ∷ []) item
    here b is =
        let moved_is : item ≡ advance b.item = is ∙ ap advance (sym (mark_opens ok b.item m h b.rest b.is mark)) in
        ((b.t, move b.item (Terminal m) b.rest prefix b.valid b.is refl moved_is), inl (advanced b.item item moved_is))

-- a kernel with a hole's item is one of the host with holes
pub hole_kernel : {w : World} {n : ℕ} → IsMarked w → AreComposableApart w n → (home : Home) → IsListed n home → (other : List Symbol)
    (j : Item) → IsKernelItemIn w (part_of home) other j → w.production_owner j.production ≡ hole →
    (o : List Symbol) × IsViablePrefixIn w plus o × SameKernelIn w plus o (part_of home) other
hole_kernel {w} ok c home l other j ((t, v), inr (is, empty)) owner =
    let f : top ≡ hole = sym ok.start.top_owner ∙ (ap (λ z. w.production_owner z.production) (sym is) ∙ owner) in cc
hole_kernel {w} {n} ok c home l other j ((t, v), inl ne) owner = go (moved_from v ne)
  where
    go : Moved w (part_of home) other j t →
        (o : List Symbol) × IsViablePrefixIn w plus o × SameKernelIn w plus o (part_of home) other
    go k = at (at_hole ok k.item k.x k.rest k.before_dot (ap (λ z. w.production_owner z.production) (sym k.is) ∙ owner))
      where
        at : AtHole w k.item k.x → (o : List Symbol) × IsViablePrefixIn w plus o × SameKernelIn w plus o (part_of home) other
        at e =
            let h : ℕ = e.nonterminal in
            let m : ℕ = w.hole_on h in
            let r = reach ok (productive_plus ok c.of_host) (plain_in plus) h
            (c.of_host.fit.reduced.reachable h (has_host plain (w.symbol_owner (Nonterminal h)) (ok.bridges.bridge_host m h e.mark))) in
            let (u, f) = live (productive_plus ok c.of_host) r.rest ((open_names ok r.valid h r.rest r.is).1) r.t in
            let there : IsValidItemIn w plus r.prefix (initial_item (w.production_of (w.hole_on h))) u =
            close r.item r.t h r.rest (w.production_of (w.hole_on h)) u r.valid r.is (hole_rule ok plus tt m h e.mark)
            (hole_left ok m h e.mark) f in
            let right = ok.holes.hole_right m h e.mark in
            let same : SameKernelIn w plus (r.prefix ++ Terminal m ∷ []) (part_of home) (k.prefix ++ Terminal m ∷ []) =
            mark_step ok r.prefix k.prefix m h [] k.rest (initial_item (w.production_of (w.hole_on h))) k.item u t e.mark there right
            k.valid
            (k.before_dot ∙ ap (λ z. z ∷ k.rest) e.symbol) in (
              r.prefix ++ Terminal m ∷ [],
              (
                advance (initial_item (w.production_of (w.hole_on h))),
                u,
                move (initial_item (w.production_of (w.hole_on h))) (Terminal m) [] r.prefix there right refl refl,
              ),
              subst (λ z. SameKernelIn w plus (r.prefix ++ Terminal m ∷ []) (part_of home) z)
                  (sym (k.longer_is ∙ ap (λ z. k.prefix ++ z ∷ []) e.symbol)) same,
            )
