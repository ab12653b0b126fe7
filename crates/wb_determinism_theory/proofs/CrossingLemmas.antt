-- What a marker brings from all kernels of the host is one set of the host.
use Rattle.std.proofs.Common.{◌++◌, ◌+◌, ◌∷◌, ◌≡◌, List, [], ap, arith, refl, subst, sym, ℕ}
use Rattle.std.specs.Prelude.{◌↔◌}
use Rattle.wb_base.specs.declared.symbol.Symbol.{Symbol}
use Rattle.wb_base.specs.declared.symbol.Symbol.TheVariants.{Terminal}
use Rattle.wb_grammar_theory.specs.declared.item.Item.{Item}
use Rattle.wb_grammar_theory.specs.Items.{advance, initial_item}
use Rattle.wb_compose_theory.proofs.KernelLemmas.{advanced, mark_step, moved_from, same_itself}
use Rattle.wb_compose_theory.specs.Items.{HasItemIn, IsValidItemIn, move}
use Rattle.wb_compose_theory.specs.Lookaheads.{IsLookaheadIn}
use Rattle.wb_compose_theory.specs.Marks.{IsMarked}
use Rattle.wb_compose_theory.specs.Worlds.{Part, World, on}

-- items that move to one are one
once : (i j : Item) → advance i ≡ advance j → i ≡ j
once i j e =
    let p : i.production ≡ j.production = ap (λ z. z.production) e in
    let d : i.dot + 1 ≡ j.dot + 1 = ap (λ z. z.dot) e in
    let f : i.dot ≡ j.dot = omega arith in
    λ k. record { production = p k; dot = f k }

-- the lookaheads after a mark are those before it, at all prefixes
pub crossing : {w : World} {part : Part} → IsMarked w → (prefix : List Symbol) (m h : ℕ) → w.mark m ≡ on h →
    HasItemIn w part prefix (initial_item (w.production_of m)) → (t : ℕ) →
    IsLookaheadIn w part (prefix ++ Terminal m ∷ []) (advance (initial_item (w.production_of m))) t ↔
    ((other : List Symbol) × IsLookaheadIn w part other (initial_item (w.production_of m)) t)
crossing {w} {part} ok prefix m h mark (u, v) t = (there, back)
  where
    item : Item
    item = initial_item (w.production_of m)

    there : IsLookaheadIn w part (prefix ++ Terminal m ∷ []) (advance item) t →
        (other : List Symbol) × IsLookaheadIn w part other item t
    there (o, same, v') =
        let k = moved_from v' (advanced item (advance item) refl) in
        let k_is : item ≡ k.item = once item k.item k.is in
        (k.prefix, (k.prefix, same_itself w part k.prefix, subst (λ z. IsValidItemIn w part k.prefix z t) (sym k_is) k.valid))

    back : (other : List Symbol) × IsLookaheadIn w part other item t →
        IsLookaheadIn w part (prefix ++ Terminal m ∷ []) (advance item) t
    back (other, (o, same, v')) =
        let (rest, right) = ok.bridges.bridge_right m h mark in (
          o ++ Terminal m ∷ [],
          mark_step ok prefix o m h rest rest item item u t mark v right v' right,
          move item (Terminal m) rest o v' right refl refl,
        )
