-- From which place on symbols derive the empty text.
use Rattle.std.proofs.Common.{◌≡◌, ℕ, ◌+◌, ◌-◌, ◌<◌, ◌≤◌, zero, suc, List, [], ◌∷◌, length, drop, get_or, sym, subst, inl, inr}
use Rattle.std.proofs.Common.{arith}
use Rattle.std.specs.Prelude.{◌↔◌}
use Rattle.std.proofs.lemmas.Bool.{cases_lt}
use Rattle.std.proofs.lemmas.List.{drop_all}
use Rattle.wb_base.specs.declared.symbol.Symbol.{Symbol}
use Rattle.wb_base.specs.Grammar.{GrammarView}
use Rattle.wb_grammar_theory.specs.Derives.{Derives, done}
use Rattle.wb_grammar_theory.proofs.DerivesLemmas.{Derives-append, Nullable-parts}
use Rattle.wb_digraph.proofs.BackLemmas.{drop_at}

-- where symbols derive the empty text, those from a place on do
drop_empty : (g : GrammarView) (w : List Symbol) (n : ℕ) → Derives g w [] → Derives g (drop n w) []
drop_empty g w zero d = d
drop_empty g [] (suc n) d = done
drop_empty g (x ∷ w) (suc n) d = drop_empty g w n (Nullable-parts x w d).tail

-- and each does
each_empty : (g : GrammarView) (w : List Symbol) (k j : ℕ) (default : Symbol) → k ≤ j → j < length w → Derives g (drop k w) [] →
    Derives g (get_or w j default ∷ []) []
each_empty g [] k j default le lt d = absurd (omega arith)
each_empty g (x ∷ w) zero zero default le lt d = (Nullable-parts x w d).head
each_empty g (x ∷ w) zero (suc j) default le lt d =
    each_empty g w zero j default (omega arith) (omega (arith, lt)) (Nullable-parts x w d).tail
each_empty g (x ∷ w) (suc k) zero default le lt d = absurd (omega arith)
each_empty g (x ∷ w) (suc k) (suc j) default le lt d = each_empty g w k j default (omega arith) (omega (arith, lt)) d

-- none at the end
pub empty_start : (g : GrammarView) (w : List Symbol) → Derives g (drop (length w) w) []
empty_start g w = subst (λ z. Derives g z []) (sym (drop_all (length w) w (omega arith))) done

-- one symbol more
pub empty_more : (g : GrammarView) (w : List Symbol) (from : ℕ) (default : Symbol) → 0 < from → from ≤ length w →
    Derives g (get_or w (from - 1) default ∷ []) [] → Derives g (drop from w) [] → Derives g (drop (from - 1) w) []
empty_more g w from default some le one rest =
    let e : (from - 1) + 1 ≡ from = omega arith in
    subst (λ z. Derives g z []) (sym (drop_at w (from - 1) default (omega arith)))
    (Derives-append one (subst (λ z. Derives g (drop z w) []) (sym e) rest))

later_empty : (g : GrammarView) (w : List Symbol) (from k : ℕ) → from ≤ k → Derives g (drop from w) [] → Derives g (drop k w) []
later_empty g w zero k le d = drop_empty g w k d
later_empty g w (suc from) zero le d = absurd (omega arith)
later_empty g [] (suc from) (suc k) le d = done
later_empty g (x ∷ w) (suc from) (suc k) le d = later_empty g w from k (omega arith) d

-- the place from which on they do, before which a symbol doesn't
pub empty_stop : (g : GrammarView) (w : List Symbol) (from : ℕ) (default : Symbol) → 0 < from → from ≤ length w →
    (Derives g (get_or w (from - 1) default ∷ []) [] → ⊥) → Derives g (drop from w) [] → (k : ℕ) → k ≤ length w →
    (from ≤ k) ↔ Derives g (drop k w) []
empty_stop g w from default some le one rest k within = (
  λ past. later_empty g w from k past rest,
  λ d. elim (cases_lt k from) [
    | inl lt ↦ absurd (one (each_empty g w k (from - 1) default (omega arith) (omega arith) d))
    | inr ge ↦ ge
  ],
)

-- all of them do
pub empty_all : (g : GrammarView) (w : List Symbol) (from : ℕ) → from ≤ 0 → Derives g (drop from w) [] → (k : ℕ) → k ≤ length w →
    (from ≤ k) ↔ Derives g (drop k w) []
empty_all g w from none_before rest k within = (λ past. later_empty g w from k past rest, λ d. omega arith)
