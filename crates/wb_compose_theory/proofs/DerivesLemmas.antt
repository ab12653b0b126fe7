-- Laws of derivations in one part, and from part to part.
use Rattle.std.proofs.Common.{◌++◌, ◌∙◌, ◌∷◌, ◌≡◌, ◌⊎◌, List, [], ap, append_assoc, inl, inr, refl, subst, sym, ℕ}
use Rattle.wb_base.specs.declared.symbol.Symbol.{Symbol}
use Rattle.wb_base.specs.declared.symbol.Symbol.TheVariants.{Terminal}
use Rattle.wb_grammar_theory.specs.declared.item.Item.{Item}
use Rattle.wb_compose_theory.specs.Derives.{DerivesIn, done, expand, keep}
use Rattle.wb_compose_theory.specs.Items.{IsValidItemIn, close, move, start}
use Rattle.wb_compose_theory.specs.Worlds.{Has, Owner, Part, World}

-- a list derives itself
pub DerivesIn-same : (w : World) (part : Part) (a : List Symbol) → DerivesIn w part a a
DerivesIn-same w part [] = done
DerivesIn-same w part (x ∷ a) = keep x (DerivesIn-same w part a)

-- joined lists derive joined lists
pub DerivesIn-append : {w : World} {part : Part} {a b c d : List Symbol} → DerivesIn w part a b → DerivesIn w part c d →
    DerivesIn w part (a ++ c) (b ++ d)
DerivesIn-append done e = e
DerivesIn-append (keep x r) e = keep x (DerivesIn-append r e)
DerivesIn-append {d = d} (expand p b u v rule left r s is) e =
    expand p b u (v ++ d) rule left r (DerivesIn-append s e) (ap (λ z. z ++ d) is ∙ append_assoc u v d)

-- what a joined list derives is joined of what its parts derive
pub record Split (w : World) (part : Part) (a b x : List Symbol) : Type 0 where
  pub front : List Symbol
  pub back : List Symbol
  pub is : x ≡ front ++ back
  pub of_front : DerivesIn w part a front
  pub of_back : DerivesIn w part b back

-- what a joined list derives is joined
pub DerivesIn-split : {w : World} {part : Part} (a : List Symbol) {b x : List Symbol} → DerivesIn w part (a ++ b) x → Split w part a b x
DerivesIn-split [] {x = x} r = record { front = []; back = x; is = refl; of_front = done; of_back = r }
DerivesIn-split (y ∷ a) (keep x r) =
    let s = DerivesIn-split a r in
    record { front = y ∷ s.front; back = s.back; is = ap (λ z. y ∷ z) s.is; of_front = keep y s.of_front; of_back = s.of_back }
DerivesIn-split (y ∷ a) (expand p b u v rule left r s is) =
    let t = DerivesIn-split a s in
    record {
      front = u ++ t.front;
      back = t.back;
      is = is ∙ (ap (λ z. u ++ z) t.is ∙ sym (append_assoc u t.front t.back));
      of_front = expand p b u t.front rule left r t.of_front refl;
      of_back = t.of_back;
    }

-- a derivation goes on
pub DerivesIn-then : {w : World} {part : Part} {a b c : List Symbol} → DerivesIn w part a b → DerivesIn w part b c → DerivesIn w part a c
DerivesIn-then done e = e
DerivesIn-then (keep x r) (keep y e) = keep y (DerivesIn-then r e)
DerivesIn-then (keep x r) (expand p b u v rule left e f is) = expand p b u v rule left e (DerivesIn-then r f) is
DerivesIn-then {w} {part} {c = c} (expand p b u v rule left r s is) e =
    let t = DerivesIn-split u (subst (λ z. DerivesIn w part z c) is e) in
    expand p b t.front t.back rule left (DerivesIn-then r t.of_front) (DerivesIn-then s t.of_back) t.is

-- where a joined list begins
pub begins_cut : (x : Symbol) (r u v : List Symbol) → x ∷ r ≡ u ++ v → ((u ≡ []) × (v ≡ x ∷ r)) ⊎ ((u' : List Symbol) × (u ≡ x ∷ u'))
begins_cut x r [] v e = inl (refl, sym e)
begins_cut x r (y ∷ u) v e = inr (u, (let h : x ≡ y = cc in ap (λ z. z ∷ u) (sym h)))

-- what begins with a terminal derives what begins with it
pub derives_terminal : {w : World} {part : Part} {a x : List Symbol} (t : ℕ) (rest : List Symbol) → DerivesIn w part a x →
    a ≡ Terminal t ∷ rest → (v : List Symbol) × (x ≡ Terminal t ∷ v)
derives_terminal t rest done e = cc
derives_terminal t rest (keep y {a} {b} r) e = (b, (let h : y ≡ Terminal t = cc in ap (λ z. z ∷ b) h))
derives_terminal t rest (expand p b u v rule left r s is) e = cc

-- what a part derives a larger part derives
pub derives_more : {w : World} {part other : Part} {a x : List Symbol} → ((o : Owner) → Has part o → Has other o) → DerivesIn w part a x →
    DerivesIn w other a x
derives_more more done = done
derives_more more (keep y r) = keep y (derives_more more r)
derives_more {w} more (expand p b u v rule left r s is) = expand p b u v (more (w.production_owner p) rule) left (derives_more more r)
    (derives_more more s) is

-- what is valid in a part is valid in a larger part
pub valid_more : {w : World} {part other : Part} {prefix : List Symbol} {item : Item} {t : ℕ} → ((o : Owner) → Has part o → Has other o) →
    IsValidItemIn w part prefix item t → IsValidItemIn w other prefix item t
valid_more more start = start
valid_more {w} more (close item t b rest q u v is rule left (f, d)) =
    close item t b rest q u (valid_more more v) is (more (w.production_owner q) rule) left (f, derives_more more d)
valid_more more (move item x rest prefix v is longer_is moved_is) = move item x rest prefix (valid_more more v) is longer_is moved_is
