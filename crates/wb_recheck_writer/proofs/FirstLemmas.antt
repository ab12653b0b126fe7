-- What begins symbols with a terminal after them, and which symbols are after that after a dot.
use Rattle.std.proofs.Common.{◌≡◌, ℕ, ◌<◌, ◌≤◌, ◌+◌, Bool, true, false, zero, suc, List, [], ◌∷◌, length, drop, refl, sym, ◌∙◌, ap}
use Rattle.std.proofs.Common.{subst}
use Rattle.std.proofs.Common.{inl, inr, arith}
use Rattle.std.specs.Prelude.{IfSome, slice_get, slice_set}
use Rattle.std.proofs.lemmas.Bool.{true≢false}
use Rattle.wb_lemmas.proofs.Places.{at_within}
use Rattle.wb_base.specs.declared.symbol.Symbol.{Symbol}
use Rattle.wb_base.specs.declared.symbol.Symbol.TheVariants.{Terminal}
use Rattle.wb_base.specs.Grammar.{GrammarView, Production}
use Rattle.wb_termset.specs.Sets.{IsMember}
use Rattle.wb_termset.proofs.CallerLemmas.{IsMember-insert, IsMember-insert_same, IsSubset-insert}
use Rattle.wb_grammar_theory.specs.declared.item.Item.{Item}
use Rattle.wb_grammar_theory.specs.Productions.{IsProduction, right_in}
use Rattle.wb_grammar_theory.specs.Derives.{Derives, keep, IsFirst}
use Rattle.wb_grammar_theory.specs.Items.{after_dot}
use Rattle.wb_grammar_theory.proofs.DerivesLemmas.{Derives-same, First-append}
use Rattle.wb_grammar_theory.proofs.DotLemmas.{after_initial, after_advance}
use Rattle.wb_lookahead.specs.Inner.Rests.{IsRest}
use Rattle.wb_recheck_writer.specs.Inner.Reached.{IsFirstSet}

-- a terminal alone begins with itself
terminal_there : {g : GrammarView} (t u : ℕ) → IsFirst g (Terminal t ∷ []) u → u ≡ t
terminal_there t u (v, keep (Terminal x) r) = refl

terminal_back : {g : GrammarView} (t u : ℕ) → u ≡ t → IsFirst g (Terminal t ∷ []) u
terminal_back {g} t u same =
    ([], subst (λ z. Derives g (Terminal t ∷ []) (Terminal z ∷ [])) (sym same) (Derives-same g (Terminal t ∷ [])))

-- symbols that derive no empty text
pub first_closed : (g : GrammarView) (w : List Symbol) (t : ℕ) (set : List Bool) → IsRest g w (record { set = set; empty = false }) →
    IsFirstSet g w t set
first_closed g w t set rest = record {
  each = λ u. (
    λ has. (First-append g w (Terminal t ∷ []) u).1 (inl ((rest.first u).0 has)),
    λ f. elim ((First-append g w (Terminal t ∷ []) u).0 f) [
      | inl here ↦ (rest.first u).1 here
      | inr (empty, later) ↦ absurd (true≢false (sym (rest.empty.1 empty)))
    ],
  );
}

-- symbols that do: the terminal after them is one more
pub first_open : (g : GrammarView) (w : List Symbol) (t : ℕ) (set new : List Bool) → IsRest g w (record { set = set; empty = true }) →
    t < length set → new ≡ slice_set set t true → IsFirstSet g w t new
first_open g w t set new rest lt is = record {
  each = λ u. (
    λ has. elim (IsMember-insert set t u (subst (λ z. IsMember z u) is has)) [
      | inl old ↦ (First-append g w (Terminal t ∷ []) u).1 (inl ((rest.first u).0 old))
      | inr same ↦ (First-append g w (Terminal t ∷ []) u).1 (inr (rest.empty.0 refl, terminal_back t u same))
    ],
    λ f. subst (λ z. IsMember z u) (sym is) (elim ((First-append g w (Terminal t ∷ []) u).0 f) [
      | inl here ↦ IsSubset-insert set t u ((rest.first u).1 here)
      | inr (empty, later) ↦ subst (IsMember (slice_set set t true)) (sym (terminal_there t u later)) (IsMember-insert_same set t lt)
    ]),
  );
}

-- the symbols after that after the dot, in a production
pub rest_within : (g : GrammarView) (item : Item) (a : ℕ) (right : List Symbol) → IsProduction g item.production a right →
    (x : Symbol) (rest : List Symbol) → after_dot g item ≡ x ∷ rest → drop (item.dot + 1) right ≡ rest
rest_within g item a right rule x rest is =
    ap (drop (item.dot + 1)) (sym (after_initial g item.production a right rule)) ∙ after_advance g item x rest is

-- where it is read
pub rest_read : (g : GrammarView) (item : Item) (right : List Symbol) → item.production < length g.productions →
    IfSome (slice_get g.productions item.production) (λ p. right ≡ p.1) → (x : Symbol) (rest : List Symbol) →
    after_dot g item ≡ x ∷ rest → drop (item.dot + 1) right ≡ rest
rest_read g item right lt read x rest is =
    let (p, at) = at_within g.productions item.production lt in
    let same : right ≡ p.1 = subst (λ o. IfSome o (λ q. right ≡ q.1)) at read in
    ap (drop (item.dot + 1)) same ∙ rest_within g item p.0 p.1 at x rest is

-- where the dot is at the right end there is no symbol
nothing_left : (d : ℕ) (w : List Symbol) (x : Symbol) (rest : List Symbol) → length w ≤ d → drop d w ≡ x ∷ rest → ⊥
nothing_left zero [] x rest le is = cc
nothing_left (suc d) [] x rest le is = cc
nothing_left zero (y ∷ w) x rest le is = absurd (omega (arith, le))
nothing_left (suc d) (y ∷ w) x rest le is = nothing_left d w x rest (omega (arith, le)) is

pub rest_ended : (g : GrammarView) (item : Item) (a : ℕ) (right : List Symbol) → IsProduction g item.production a right →
    length right ≤ item.dot → (x : Symbol) (rest : List Symbol) → after_dot g item ≡ x ∷ rest → [] ≡ rest
rest_ended g item a right rule le x rest is =
    absurd (nothing_left item.dot right x rest le (ap (drop item.dot) (sym (after_initial g item.production a right rule)) ∙ is))

pub rest_ended_read : (g : GrammarView) (item : Item) (right : List Symbol) → item.production < length g.productions →
    IfSome (slice_get g.productions item.production) (λ p. right ≡ p.1) → length right ≤ item.dot → (x : Symbol) (rest : List Symbol) →
    after_dot g item ≡ x ∷ rest → [] ≡ rest
rest_ended_read g item right lt read le x rest is =
    let (p, at) = at_within g.productions item.production lt in
    let same : right ≡ p.1 = subst (λ o. IfSome o (λ q. right ≡ q.1)) at read in
    rest_ended g item p.0 p.1 at (let long : length right ≡ length p.1 = ap length same in omega (arith, long, le)) x rest is

-- and in the production of the start there is one symbol at most
past : (rs : List Production) (s p : ℕ) → length rs ≤ p → (d : ℕ) (x : Symbol) (rest : List Symbol) →
    drop d (right_in rs s p) ≡ x ∷ rest → [] ≡ rest
past [] s zero le zero x rest is = cc
past [] s zero le (suc zero) x rest is = cc
past [] s zero le (suc (suc d)) x rest is = cc
past [] s (suc p) le zero x rest is = cc
past [] s (suc p) le (suc d) x rest is = cc
past (r ∷ rs) s zero le d x rest is = absurd (omega (arith, le))
past (r ∷ rs) s (suc p) le d x rest is = past rs s p (omega (arith, le)) d x rest is

pub rest_past : (g : GrammarView) (item : Item) → length g.productions ≤ item.production → (x : Symbol) (rest : List Symbol) →
    after_dot g item ≡ x ∷ rest → [] ≡ rest
rest_past g item le x rest is = past g.productions g.start item.production le item.dot x rest is
