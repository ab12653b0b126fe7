-- The host of chains with its extension and holes has no conflict.
use Rattle.std.proofs.Common.{◌≡◌, ◌≤◌, ◌∙◌, ◌⊎◌, ◌∷◌, ◌++◌, [], ℕ, zero, suc, List, drop, length, take, refl, sym, ap}
use Rattle.std.proofs.Common.{subst, inl, inr, arith, reverse}
use Rattle.std.proofs.lemmas.List.{reverse-append}
use Rattle.wb_base.specs.declared.symbol.Symbol.{Symbol}
use Rattle.wb_base.specs.declared.symbol.Symbol.TheVariants.{Terminal, Nonterminal}
use Rattle.wb_grammar_theory.specs.declared.item.Item.{Item}
use Rattle.wb_grammar_theory.specs.Items.{after_dot}
use Rattle.wb_grammar_theory.specs.Lookaheads.{HasNoConflict}
use Rattle.wb_compose_theory_grammar.specs.ChainExample.{chain_both_holes}
use Rattle.wb_compose_theory_grammar.proofs.ChainLemmas.{Looks, Opens, OpensA, Place, Rule, Starts, after_is, chain, holed, last}
use Rattle.wb_compose_theory_grammar.proofs.ChainLemmas.{marked, none_after, number, one, placed, right, top}

-- the production that a prefix ends with, by its last symbols in reverse; 9 where it ends with none
abbrev pub key : List Symbol → ℕ
key [] = 9
key (Terminal zero ∷ s) = 2
key (Terminal (suc zero) ∷ s) = 1
key (Terminal (suc (suc zero)) ∷ s) = 9
key (Terminal (suc (suc (suc t))) ∷ s) = 4
key (Nonterminal zero ∷ []) = 5
key (Nonterminal zero ∷ Terminal t ∷ s) = 9
key (Nonterminal zero ∷ Nonterminal a ∷ []) = 0
key (Nonterminal zero ∷ Nonterminal a ∷ Terminal t ∷ s) = 3
key (Nonterminal zero ∷ Nonterminal a ∷ Nonterminal b ∷ s) = 0
key (Nonterminal (suc a) ∷ s) = 9

-- a prefix in reverse
pub back_of : {prefix : List Symbol} {item : Item} {t : ℕ} (p : Place prefix item t) →
    reverse prefix ≡ reverse (take item.dot (right p.rule)) ++ reverse p.begins
back_of {prefix} {item} p = ap reverse p.prefix_is ∙ reverse-append p.begins (take item.dot (right p.rule))

-- what is before S in reverse
pub opens_back : (s : List Symbol) → Opens s → (reverse s ≡ []) ⊎ ((r : List Symbol) × (reverse s ≡ Nonterminal 1 ∷ r))
opens_back s (inl e) = inl (ap reverse e)
opens_back s (inr (r, e)) = inr (reverse r, ap reverse e ∙ reverse-append r (Nonterminal 1 ∷ []))

-- and before A
pub opens_a_back : (s : List Symbol) → OpensA s →
    (reverse s ≡ []) ⊎ ((r : List Symbol) × (reverse s ≡ Nonterminal 1 ∷ r)) ⊎ ((r : List Symbol) × (reverse s ≡ Terminal 2 ∷ r))
opens_a_back s (inl (inl e)) = inl (ap reverse e)
opens_a_back s (inl (inr (r, e))) = inr (inl (reverse r, ap reverse e ∙ reverse-append r (Nonterminal 1 ∷ [])))
opens_a_back s (inr (r, e)) = inr (inr (reverse r, ap reverse e ∙ reverse-append r (Terminal 2 ∷ [])))

-- no production ends there
opens_key : (s : List Symbol) → OpensA s → key (reverse s) ≡ 9
opens_key s opens = go (opens_a_back s opens)
  where
    go : (reverse s ≡ []) ⊎ ((r : List Symbol) × (reverse s ≡ Nonterminal 1 ∷ r)) ⊎ ((r : List Symbol) × (reverse s ≡ Terminal 2 ∷ r))
        → key (reverse s) ≡ 9
    go (inl e) = ap key e
    go (inr (inl (r, e))) = ap key e
    go (inr (inr (r, e))) = ap key e

-- a whole production has its key
whole_key : (k : Rule) (s : List Symbol) → Starts k s → key (reverse (right k) ++ reverse s) ≡ number k
whole_key chain s starts = go (opens_back s starts)
  where
    go : (reverse s ≡ []) ⊎ ((r : List Symbol) × (reverse s ≡ Nonterminal 1 ∷ r)) →
        key (Nonterminal 0 ∷ Nonterminal 1 ∷ reverse s) ≡ 0
    go (inl e) = ap (λ z. key (Nonterminal 0 ∷ Nonterminal 1 ∷ z)) e
    go (inr (r, e)) = ap (λ z. key (Nonterminal 0 ∷ Nonterminal 1 ∷ z)) e
whole_key last s starts = refl
whole_key one s starts = refl
whole_key marked s starts = refl
whole_key holed s starts = refl
whole_key top s starts = ap (λ z. key (Nonterminal 0 ∷ reverse z)) starts

-- what is complete is whole
whole : (d : ℕ) (w : List Symbol) → d ≤ length w → drop d w ≡ [] → take d w ≡ w
whole zero [] le e = refl
whole zero (x ∷ w) le e = absurd (cc e)
whole (suc d) [] le e = absurd (omega (arith, le))
whole (suc d) (x ∷ w) le e = ap (λ z. x ∷ z) (whole d w (omega (arith, le)) e)

-- so of a complete item
pub complete_key : {prefix : List Symbol} {item : Item} {t : ℕ} (p : Place prefix item t) → after_dot chain_both_holes item ≡ [] →
    key (reverse prefix) ≡ number p.rule
complete_key {prefix} {item} p over =
    ap key (back_of p ∙ ap (λ z. reverse z ++ reverse p.begins)
    (whole item.dot (right p.rule) p.within (sym (after_is p) ∙ over))) ∙ whole_key p.rule p.begins p.starts

-- before a terminal no production ends, but `A -> c` before y
shift_key : (k : Rule) (d t : ℕ) (s rest : List Symbol) → Starts k s → drop d (right k) ≡ Terminal t ∷ rest →
    (key (reverse (take d (right k)) ++ reverse s) ≡ 9) ⊎ ((key (reverse (take d (right k)) ++ reverse s) ≡ 2) × (t ≡ 1))
shift_key chain zero t s rest starts e = absurd (cc e)
shift_key chain (suc zero) t s rest starts e = absurd (cc e)
shift_key chain (suc (suc n)) t s rest starts e = absurd (none_after n (Terminal t) rest e)
shift_key last zero t s rest starts e = inl (opens_key s (inl starts))
shift_key last (suc zero) t s rest starts e = inr (refl, (let f : t ≡ 1 = cc in f))
shift_key last (suc (suc n)) t s rest starts e = absurd (none_after n (Terminal t) rest e)
shift_key one zero t s rest starts e = inl (opens_key s starts)
shift_key one (suc n) t s rest starts e = absurd (none_after n (Terminal t) rest e)
shift_key marked zero t s rest starts e = inl (opens_key s (inl starts))
shift_key marked (suc zero) t s rest starts e = absurd (cc e)
shift_key marked (suc (suc zero)) t s rest starts e = absurd (cc e)
shift_key marked (suc (suc (suc n))) t s rest starts e = absurd (none_after n (Terminal t) rest e)
shift_key holed zero t s rest starts e = inl (opens_key s (inl starts))
shift_key holed (suc n) t s rest starts e = absurd (none_after n (Terminal t) rest e)
shift_key top zero t s rest starts e = absurd (cc e)
shift_key top (suc n) t s rest starts e = absurd (none_after n (Terminal t) rest e)

-- where `A -> c` ends, y isn't after it
not_nine : (k : Rule) → number k ≡ 9 → ⊥
not_nine chain e = omega (arith, e)
not_nine last e = omega (arith, e)
not_nine one e = omega (arith, e)
not_nine marked e = omega (arith, e)
not_nine holed e = omega (arith, e)
not_nine top e = omega (arith, e)

not_y : (k : Rule) (t : ℕ) → number k ≡ 2 → Looks k t → t ≡ 1 → ⊥
not_y chain t e looks f = omega (arith, e)
not_y last t e looks f = omega (arith, e)
not_y one t e (inl g) f = omega (arith, f, g)
not_y one t e (inr (inl g)) f = omega (arith, f, g)
not_y one t e (inr (inr g)) f = omega (arith, f, g)
not_y marked t e looks f = omega (arith, e)
not_y holed t e looks f = omega (arith, e)
not_y top t e looks f = omega (arith, e)

-- a shift and a reduction at one prefix can't be, whatever prefix the lookahead is from
pub no_shift_reduce : {prefix other : List Symbol} {i j : Item} {s t u : ℕ} (rest : List Symbol) (p : Place prefix i s) →
    after_dot chain_both_holes i ≡ Terminal t ∷ rest → (q : Place prefix j u) → after_dot chain_both_holes j ≡ [] →
    (r : Place other j t) → ⊥
no_shift_reduce {prefix} {other} {i} {j} {s} {t} rest p before q over r =
    go (subst (λ z. (key z ≡ 9) ⊎ ((key z ≡ 2) × (t ≡ 1))) (sym (back_of p))
    (shift_key p.rule i.dot t p.begins rest p.starts (sym (after_is p) ∙ before)))
  where
    go : (key (reverse prefix) ≡ 9) ⊎ ((key (reverse prefix) ≡ 2) × (t ≡ 1)) → ⊥
    go (inl e) = not_nine q.rule (sym (complete_key q over) ∙ e)
    go (inr (e, f)) = not_y r.rule t (sym r.number_is ∙ (q.number_is ∙ (sym (complete_key q over) ∙ e))) r.looks f

-- nor can two reductions
pub one_reduction : {prefix : List Symbol} {i j : Item} {s u : ℕ} (p : Place prefix i s) → after_dot chain_both_holes i ≡ [] →
    (q : Place prefix j u) → after_dot chain_both_holes j ≡ [] → i.production ≡ j.production
one_reduction p over q ends = p.number_is ∙ (sym (complete_key p over) ∙ (complete_key q ends ∙ sym q.number_is))

-- so there is no conflict
pub both_conflict : HasNoConflict chain_both_holes
both_conflict prefix t (inl (p, can, red)) =
    let (other, same, v) = red.lookahead in
    no_shift_reduce can.rest (placed can.has.1) can.before_dot (placed red.has.1) red.complete (placed v)
both_conflict prefix t (inr (p, q, ne, first, second)) =
    ne (sym first.production ∙ (one_reduction (placed first.has.1) first.complete (placed second.has.1) second.complete
    ∙ second.production))
