-- What is passed on from an item by the rest after its nonterminal.
use Rattle.std.proofs.Common.{◌≡◌, ℕ, ◌+◌, ◌<◌, ◌≤◌, zero, suc, Bool, List, [], ◌∷◌, ◌++◌, length, get_or, drop, Some, sym, ◌∙◌, ap, subst}
use Rattle.std.proofs.Common.{inl, inr, arith}
use Rattle.std.specs.Prelude.{slice_get, IfSome}
use Rattle.std.proofs.lemmas.Option.{slice_get-get_or}
use Rattle.wb_base.specs.declared.symbol.Symbol.{Symbol}
use Rattle.wb_base.specs.declared.symbol.Symbol.TheVariants.{Terminal, Nonterminal}
use Rattle.wb_base.specs.Grammar.{GrammarView, Production}
use Rattle.wb_termset.specs.Sets.{IsMember}
use Rattle.wb_grammar_theory.specs.declared.item.Item.{Item}
use Rattle.wb_grammar_theory.specs.Productions.{IsProduction}
use Rattle.wb_grammar_theory.specs.Derives.{Derives, done, IsFirst}
use Rattle.wb_grammar_theory.specs.Items.{after_dot, initial_item}
use Rattle.wb_grammar_theory.proofs.DotLemmas.{after_advance, after_initial}
use Rattle.wb_items.specs.Table.{AreProductionsOf}
use Rattle.wb_lookahead.specs.declared.first_of.Rest.{Rest}
use Rattle.wb_lookahead.specs.Inner.Rests.{AreRests, IsOpening}
use Rattle.wb_lookahead.specs.Inner.Spreading.{IsProductionOf}
use Rattle.wb_items.specs.Lookaheads.{Lists, LookaheadsView}
use Rattle.wb_lookahead.proofs.PassLemmas.{first_then, rest_past}
use Rattle.wb_lookahead.proofs.RestLemmas.{nothing_first}

-- the production of a number below the count
pub production_there : (g : GrammarView) (p : ℕ) → p < length g.productions → (a : ℕ) × (right : List Symbol) × IsProduction g p a right
production_there g p lt =
    let d : Production = (0, []) in
    let r : Production = get_or g.productions p d in
    (r.0, r.1, slice_get-get_or g.productions p d lt)

not_past : (right : List Symbol) (d : ℕ) (x : Symbol) (rest : List Symbol) → drop d right ≡ x ∷ rest → d < length right
not_past [] zero x rest e = cc
not_past [] (suc d) x rest e = cc
not_past (y ∷ right) zero x rest e = omega arith
not_past (y ∷ right) (suc d) x rest e = (let lt = not_past right d x rest e in omega arith)

first_left : (right : List Symbol) (d : ℕ) (x : Symbol) (rest : List Symbol) → drop d right ≡ x ∷ rest → slice_get right d ≡ Some x
first_left [] zero x rest e = cc
first_left [] (suc d) x rest e = cc
first_left (y ∷ right) zero x rest e = cc
first_left (y ∷ right) (suc d) x rest e = first_left right d x rest e

-- the rest after the symbol after a dot, in the table of rests
pub rest_there : (g : GrammarView) (rests : List (List Rest)) → AreRests g rests → (item : Item) → item.production < length g.productions →
    (x : Symbol) (rest : List Symbol) → after_dot g item ≡ x ∷ rest → (row : List Rest) → slice_get rests item.production ≡ Some row →
    (item.dot < length row) × ((r : Rest) → slice_get row item.dot ≡ Some r → IsOpening g x rest r)
rest_there g rests are item lt x rest is row at =
    let (a, right, rule) = production_there g item.production lt in
    let row_is = are.each item.production a right row at rule in
    let right_is = after_initial g item.production a right rule in
    let here : drop item.dot right ≡ x ∷ rest = ap (drop item.dot) (sym right_is) ∙ is in
    let within = not_past right item.dot x rest here in
    let rest_is : drop (item.dot + 1) right ≡ rest = ap (drop (item.dot + 1)) (sym right_is) ∙ after_advance g item x rest is in (
      omega (arith, row_is.len, within),
      λ r r_at. subst (λ z. IsOpening g x z r) rest_is
          (row_is.each item.dot r x r_at (first_left right item.dot x rest here)),
    )

-- nothing is after the start in the added production
pub nothing_after : (g : GrammarView) (item : Item) → length g.productions ≤ item.production → (x : Symbol) (rest : List Symbol) →
    after_dot g item ≡ x ∷ rest → Derives g rest []
nothing_after g item le x rest is = subst (λ z. Derives g z []) (rest_past g item le x rest is) done

pub nothing_begins : (g : GrammarView) (item : Item) → length g.productions ≤ item.production → (x : Symbol) (rest : List Symbol) →
    after_dot g item ≡ x ∷ rest → (u : ℕ) → IsFirst g rest u → ⊥
nothing_begins g item le x rest is u f = nothing_first u (subst (λ z. IsFirst g z u) (sym (rest_past g item le x rest is)) f)

-- what begins the rest, and the terminals where it derives the empty text, is all that opens
pub open_lists : (g : GrammarView) (set : List Bool) (lookaheads : LookaheadsView) (s : ℕ) (item : Item) (n p0 : ℕ)
    (rest0 : List Symbol) →
    after_dot g item ≡ Nonterminal n ∷ rest0 →
    ((p : ℕ) → IsProductionOf g n p → (u : ℕ) → Lists lookaheads s (initial_item p0) u → Lists lookaheads s (initial_item p) u) →
    ((u : ℕ) → IsFirst g rest0 u → Lists lookaheads s (initial_item p0) u) →
    (Derives g rest0 [] → (t : ℕ) → IsMember set t → Lists lookaheads s (initial_item p0) t) →
    (t u b p : ℕ) (rest : List Symbol) → after_dot g item ≡ Nonterminal b ∷ rest → IsProductionOf g b p → IsMember set t →
    IsFirst g (rest ++ Terminal t ∷ []) u →
    Lists lookaheads s (initial_item p) u
open_lists g set lookaheads s item n p0 rest0 here together of_rest of_set t u b p rest at rule has begins =
    let heads : Nonterminal b ∷ rest ≡ Nonterminal n ∷ rest0 = sym at ∙ here in
    let same : b ≡ n = cc in
    let rest_is : rest ≡ rest0 = cc in
    together p (subst (λ z. IsProductionOf g z p) same rule) u
    (elim (first_then rest0 t u (subst (λ z. IsFirst g (z ++ Terminal t ∷ []) u) rest_is begins)) [
      | inl f ↦ of_rest u f
      | inr (empty, t_is) ↦ subst (Lists lookaheads s (initial_item p0)) t_is (of_set empty t has)
    ])

-- a nonterminal has no production where none is listed
pub none_listed : (g : GrammarView) (b : ℕ) (numbers : List ℕ) → AreProductionsOf g b numbers → length numbers ≤ 0 →
    (q : ℕ) (right : List Symbol) → IsProduction g q b right → ⊥
none_listed g b numbers are none q right rule = (let there = are.complete q right rule in omega (arith, none, there.1))

-- a number that is listed is that of a production of the nonterminal
pub left_is : (g : GrammarView) (p left : ℕ) → p < length g.productions → IfSome (slice_get g.productions p) (λ r. left ≡ r.0) →
    (right : List Symbol) × IsProduction g p left right
left_is g p left lt e =
    let (a, right, rule) = production_there g p lt in
    let same : left ≡ a = subst (λ o. IfSome o (λ r. left ≡ r.0)) rule e in
    (right, subst (λ z. IsProduction g p z right) (sym same) rule)
