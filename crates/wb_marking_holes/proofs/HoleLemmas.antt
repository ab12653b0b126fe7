-- Productions of holes as they are added one after another.
use Rattle.std.proofs.Common.{◌≡◌, ◌∙◌, ◌+◌, ◌-◌, ◌<◌, ◌≤◌, ℕ, zero, suc, List, [], ◌∷◌, ◌++◌, take, length, sym, ap, get_or, arith, subst}
use Rattle.std.proofs.Common.{IfSome, slice_get}
use Rattle.std.proofs.lemmas.List.{take_more}
use Rattle.std.proofs.lemmas.Option.{get_or_from_slice_get}
use Rattle.wb_base.specs.declared.symbol.Symbol.{Symbol}
use Rattle.wb_base.specs.Grammar.{GrammarView, Production}
use Rattle.wb_lemmas.proofs.Parts.{append_assoc}
use Rattle.wb_lemmas.proofs.Places.{at_within}
use Rattle.wb_base.specs.declared.symbol.Symbol.TheVariants.{Terminal}
use Rattle.wb_marking_holes.specs.Holes.{hole_productions}

-- the production of one hole
abbrev one_hole : ℕ → ℕ → List Production
one_hole x k = (x, Terminal k ∷ []) ∷ []

-- one nonterminal more
pub holes_more : (next : ℕ) (xs : List ℕ) (place d : ℕ) → place < length xs → hole_productions next (take (place + 1) xs)
    ≡ hole_productions next (take place xs) ++ (get_or xs place d, Terminal (next + place) ∷ []) ∷ []
holes_more next [] place d within = absurd (omega (arith, within))
holes_more next (x ∷ xs) zero d within =
    ap (λ (k : ℕ). one_hole x k) (omega arith)
holes_more next (x ∷ xs) (suc place) d within =
    let head : Production = (x, Terminal next ∷ []) in
    let step : hole_productions (suc next) (take (place + 1) xs)
    ≡ hole_productions (suc next) (take place xs) ++ (get_or xs place d, Terminal (suc next + place) ∷ []) ∷ [] =
    holes_more (suc next) xs place d (omega (arith, within)) in
    let same : suc next + place ≡ next + suc place = omega arith in
    let count : suc place + 1 ≡ suc (place + 1) = omega arith in
    ap (λ (k : ℕ). hole_productions next (take k (x ∷ xs))) count
    ∙ ap (λ (rest : List Production). head ∷ rest) step
    ∙ ap (λ (k : ℕ). head ∷ (hole_productions (suc next) (take place xs) ++ (get_or xs place d, Terminal k ∷ []) ∷ [])) same

-- what was added, with one production more
pub added_more : (old made after : GrammarView) (xs : List ℕ) (first hole d : ℕ) → first ≤ hole → hole < first + length xs
    → made ≡ record old { productions = old.productions ++ hole_productions first (take (hole - first) xs) }
    → after ≡ record made { productions = made.productions ++ (get_or xs (hole - first) d, Terminal hole ∷ []) ∷ [] }
    → after ≡ record old { productions = old.productions ++ hole_productions first (take (hole + 1 - first) xs) }
added_more old made after xs first hole d from within was now =
    let place = hole - first in
    let same : first + place ≡ hole = omega (arith, from) in
    let next : hole + 1 - first ≡ place + 1 = omega (arith, from) in
    let step : hole_productions first (take (hole + 1 - first) xs)
    ≡ hole_productions first (take place xs) ++ (get_or xs place d, Terminal hole ∷ []) ∷ [] =
    ap (λ k. hole_productions first (take k xs)) next ∙ holes_more first xs place d (omega (arith, from, within))
    ∙ ap (λ k. hole_productions first (take place xs) ++ (get_or xs place d, Terminal k ∷ []) ∷ []) same in
    now ∙ ap (λ (m : GrammarView). record m { productions = m.productions ++ (get_or xs place d, Terminal hole ∷ []) ∷ [] }) was
    ∙ ap (λ ps. record old { productions = ps })
    (append_assoc old.productions (hole_productions first (take place xs)) ((get_or xs place d, Terminal hole ∷ []) ∷ [])
    ∙ ap (λ ps. old.productions ++ ps) (sym step))

-- a grammar's productions that were copied, with one more
pub copied_more : (old made after g : GrammarView) (p left : ℕ) (right : List Symbol) → p < length g.productions
    → IfSome (slice_get g.productions p) (λ q. left ≡ q.0) → IfSome (slice_get g.productions p) (λ q. right ≡ q.1)
    → made ≡ record old { productions = take p g.productions }
    → after ≡ record made { productions = made.productions ++ (left, right) ∷ [] }
    → after ≡ record old { productions = take (p + 1) g.productions }
copied_more old made after g p left right within is_left is_right was now =
    let (q, at) = at_within g.productions p within in
    let l : left ≡ q.0 = subst (λ o. IfSome o (λ z. left ≡ z.0)) at is_left in
    let r : right ≡ q.1 = subst (λ o. IfSome o (λ z. right ≡ z.1)) at is_right in
    let here : get_or g.productions p q ≡ q = get_or_from_slice_get g.productions p q q at in
    let step : take (p + 1) g.productions ≡ take p g.productions ++ (left, right) ∷ [] =
    take_more g.productions p q within ∙ ap (λ z. take p g.productions ++ z ∷ []) here
    ∙ ap (λ (z : ℕ). take p g.productions ++ (z, q.1) ∷ []) (sym l) ∙ ap (λ (z : List Symbol). take p g.productions ++ (left, z) ∷ []) (sym r) in
    now ∙ ap (λ (m : GrammarView). record m { productions = m.productions ++ (left, right) ∷ [] }) was
    ∙ ap (λ ps. record old { productions = ps }) (sym step)
