-- The kernels of `S -> x`, as its certificate lists them.
use Rattle.std.proofs.Common.{◌≡◌, ℕ, ◌⊎◌, zero, suc, List, [], ◌∷◌, refl, sym, ◌∙◌, ap, subst, inl, inr, arith}
use Rattle.std.proofs.lemmas.Option.{same_Some}
use Rattle.wb_base.specs.declared.symbol.Symbol.{Symbol}
use Rattle.wb_base.specs.declared.symbol.Symbol.TheVariants.{Terminal, Nonterminal}
use Rattle.wb_grammar_theory.specs.declared.item.Item.{Item}
use Rattle.wb_grammar_theory.specs.Productions.{IsProduction}
use Rattle.wb_grammar_theory.specs.Items.{after_dot, advance, initial_item}
use Rattle.wb_grammar_theory.specs.Closure.{MovesTo}
use Rattle.wb_recheck_theory.specs.declared.line.Line.{Line}
use Rattle.wb_recheck_theory.specs.Lines.{IsItemAt, at_first, at_opened, at_moved, IsKernelItemAt, IsMoveOf}
use Rattle.wb_recheck_theory.specs.Lines.{IsGoodLine, AreGoodLines, AreMovesListed}
use Rattle.wb_recheck_theory.specs.Examples.{one, one_lines}
use Rattle.wb_recheck_theory.proofs.ExampleLemmas.{item, after_is}
use Rattle.wb_recheck_theory.proofs.ClosureLemmas.{closure_there, kernel_moved}

-- the four items, each at its kernel
pub data Four (k : ℕ) (i : Item) : Type 0 where
  whole : k ≡ 0 → i ≡ item 1 0 → Four k i
  begin : k ≡ 0 → i ≡ item 0 0 → Four k i
  shifted : k ≡ 1 → i ≡ item 0 1 → Four k i
  reduced : k ≡ 2 → i ≡ item 1 1 → Four k i

-- the one item with its dot before a nonterminal
pub one_opened : {k : ℕ} {i : Item} (b : ℕ) (rest : List Symbol) → Four k i → after_dot one i ≡ Nonterminal b ∷ rest →
    (k ≡ 0) × (i ≡ item 1 0) × (rest ≡ [])
one_opened b rest (whole z e) is =
    let h : Nonterminal 0 ∷ [] ≡ Nonterminal b ∷ rest = after_is one 1 0 e is in (z, e, let f : [] ≡ rest = cc in sym f)
one_opened b rest (begin z e) is = let h : Terminal 0 ∷ [] ≡ Nonterminal b ∷ rest = after_is one 0 0 e is in cc
one_opened b rest (shifted z e) is = let h : [] ≡ Nonterminal b ∷ rest = after_is one 0 1 e is in cc
one_opened b rest (reduced z e) is = let h : [] ≡ Nonterminal b ∷ rest = after_is one 1 1 e is in cc

-- the two that move
pub one_moved : {k : ℕ} {i new : Item} (x : Symbol) (rest : List Symbol) → Four k i → after_dot one i ≡ x ∷ rest → new ≡ advance i →
    (k ≡ 0) × (((x ≡ Nonterminal 0) × (new ≡ item 1 1)) ⊎ ((x ≡ Terminal 0) × (new ≡ item 0 1)))
one_moved x rest (whole z e) is new_is =
    let h : Nonterminal 0 ∷ [] ≡ x ∷ rest = after_is one 1 0 e is in
    let f : Nonterminal 0 ≡ x = cc in
    (z, inl (sym f, new_is ∙ ap advance e))
one_moved x rest (begin z e) is new_is =
    let h : Terminal 0 ∷ [] ≡ x ∷ rest = after_is one 0 0 e is in
    let f : Terminal 0 ≡ x = cc in
    (z, inr (sym f, new_is ∙ ap advance e))
one_moved x rest (shifted z e) is new_is = let h : [] ≡ x ∷ rest = after_is one 0 1 e is in cc
one_moved x rest (reduced z e) is new_is = let h : [] ≡ x ∷ rest = after_is one 1 1 e is in cc

pub rule_zero : (q b : ℕ) (right : List Symbol) → IsProduction one q b right → q ≡ 0
rule_zero zero b right rule = refl
rule_zero (suc q) b right rule = cc

four : {k : ℕ} {i : Item} → IsItemAt one one_lines k i → Four k i
four (at_first z is) = whole z is
four (at_opened i b rest q right at is rule new_is) =
    let (z, e, nothing) = one_opened b rest (four at) is in begin z (new_is ∙ ap initial_item (rule_zero q b right rule))
four {i = new} (at_moved zero line i rest at k_is j is new_is) =
    let h : record { from = 0; symbol = Terminal 0 } ≡ line = cc in
    let f : Terminal 0 ≡ line.symbol = ap (λ l. l.symbol) h in
    let (z, m) = one_moved line.symbol rest (four j) is new_is in
    elim m [
      | inl (x, n) ↦ absurd (let c : Terminal 0 ≡ Nonterminal 0 = f ∙ x in cc)
      | inr (x, n) ↦ shifted k_is n
    ]
four {i = new} (at_moved (suc zero) line i rest at k_is j is new_is) =
    let h : record { from = 0; symbol = Nonterminal 0 } ≡ line = cc in
    let f : Nonterminal 0 ≡ line.symbol = ap (λ l. l.symbol) h in
    let (z, m) = one_moved line.symbol rest (four j) is new_is in
    elim m [
      | inl (x, n) ↦ reduced k_is n
      | inr (x, n) ↦ absurd (let c : Nonterminal 0 ≡ Terminal 0 = f ∙ x in cc)
    ]
four (at_moved (suc (suc zero)) line i rest at k_is j is new_is) = cc
four (at_moved (suc (suc (suc n))) line i rest at k_is j is new_is) = cc

at_whole : IsItemAt one one_lines 0 (item 1 0)
at_whole = at_first refl refl

at_begin : IsItemAt one one_lines 0 (item 0 0)
at_begin = at_opened (item 1 0) 0 [] 0 (Terminal 0 ∷ []) at_whole refl refl refl

apart : (i j : Item) → i ≡ j → (i.production ≡ j.production) × (i.dot ≡ j.dot)
apart i j e = (ap (λ z. z.production) e, ap (λ z. z.dot) e)

by_terminal : MovesTo one (IsKernelItemAt one one_lines 0) (Terminal 0) (item 0 1)
by_terminal = record { item = item 0 0; rest = []; within = closure_there at_begin; before_dot = refl; is = refl }

by_start : MovesTo one (IsKernelItemAt one one_lines 0) (Nonterminal 0) (item 1 1)
by_start = record { item = item 1 0; rest = []; within = closure_there at_whole; before_dot = refl; is = refl }

abbrev by_x : Line
by_x = record { from = 0; symbol = Terminal 0 }

abbrev by_s : Line
by_s = record { from = 0; symbol = Nonterminal 0 }

pub move_terminal : IsMoveOf one one_lines 0 (Terminal 0) 1
move_terminal = kernel_moved one one_lines 0 by_x refl

pub move_start : IsMoveOf one one_lines 0 (Nonterminal 0) 2
move_start = kernel_moved one one_lines 1 by_s refl

-- which kernel has the item
kernel_of : (k p d : ℕ) → Four k (item p (suc d)) → ((p ≡ 0) × (k ≡ 1)) ⊎ ((p ≡ 1) × (k ≡ 2))
kernel_of k p d (whole z e) = absurd (omega (arith, (apart (item p (suc d)) (item 1 0) e).1))
kernel_of k p d (begin z e) = absurd (omega (arith, (apart (item p (suc d)) (item 0 0) e).1))
kernel_of k p d (shifted z e) = inl ((apart (item p (suc d)) (item 0 1) e).0, z)
kernel_of k p d (reduced z e) = inr ((apart (item p (suc d)) (item 1 1) e).0, z)

pub to_terminal : (m : ℕ) → IsMoveOf one one_lines 0 (Terminal 0) m → m ≡ 1
to_terminal m h = elim (kernel_of m 0 0 (four (((h (item 0 1)).1 by_terminal).0))) [
  | inl (p, z) ↦ z
  | inr (p, z) ↦ absurd (omega (arith, p))
]

pub to_start : (m : ℕ) → IsMoveOf one one_lines 0 (Nonterminal 0) m → m ≡ 2
to_start m h = elim (kernel_of m 1 0 (four (((h (item 1 1)).1 by_start).0))) [
  | inl (p, z) ↦ absurd (omega (arith, p))
  | inr (p, z) ↦ z
]

x_good : IsGoodLine one one_lines 0 by_x
x_good = record {
  from = omega arith;
  moves = (item 0 0, [], at_begin, refl);
  new = λ m lt k. let f = to_terminal m k in omega (arith, f, lt);
}

s_good : IsGoodLine one one_lines 1 by_s
s_good = record {
  from = omega arith;
  moves = (item 1 0, [], at_whole, refl);
  new = λ m lt k. let f = to_start m k in omega (arith, f, lt);
}

pub lines_good : AreGoodLines one one_lines
lines_good zero line at = subst (IsGoodLine one one_lines 0) (same_Some by_x line at) x_good
lines_good (suc zero) line at = subst (IsGoodLine one one_lines 1) (same_Some by_s line at) s_good
lines_good (suc (suc zero)) line at = cc
lines_good (suc (suc (suc n))) line at = cc

pub moves_listed : AreMovesListed one one_lines
moves_listed k x lt (i, rest, at, is) =
    let (z, m) = one_moved x rest (four at) is refl in
    elim m [
      | inl (e, n) ↦ (
        2,
        omega arith,
        subst (λ y. IsMoveOf one one_lines y x 2) (sym z)
            (subst (λ y. IsMoveOf one one_lines 0 y 2) (sym e) move_start),
      )
      | inr (e, n) ↦ (
        1,
        omega arith,
        subst (λ y. IsMoveOf one one_lines y x 1) (sym z)
            (subst (λ y. IsMoveOf one one_lines 0 y 1) (sym e) move_terminal),
      )
    ]
