-- The small world has its names and marks as they should be.
use Rattle.std.proofs.Common.{◌∷◌, ◌≡◌, ◌≢◌, ◌⊎◌, List, [], ap, inl, inr, refl, suc, sym, zero, ℕ}
use Rattle.wb_base.specs.declared.symbol.Symbol.{Symbol}
use Rattle.wb_base.specs.declared.symbol.Symbol.TheVariants.{Nonterminal, Terminal}
use Rattle.wb_compose_theory.specs.Example.{example, example_mark, example_production_owner, example_right, example_symbol_owner}
use Rattle.wb_compose_theory.specs.Marks.{Each, IsBare, IsMarked, Shape, marked, unmarked}
use Rattle.wb_compose_theory.specs.Worlds.{bare, hole, host, on, top}

-- each production has a mark at its beginning alone, or none
shape_example : (p : ℕ) → Shape example p
shape_example zero = unmarked (refl, tt)
shape_example (suc zero) = marked 1 0 [] refl refl refl tt
shape_example (suc (suc zero)) = marked 2 0 [] refl refl refl tt
shape_example (suc (suc (suc zero))) = marked 3 0 [] refl refl refl tt
shape_example (suc (suc (suc (suc zero)))) = unmarked (tt, tt)
shape_example (suc (suc (suc (suc (suc p))))) = unmarked tt

-- marks are on S
on_zero : (m h : ℕ) → example_mark m ≡ on h → 0 ≡ h
on_zero zero h e = cc
on_zero (suc zero) h e = cc
on_zero (suc (suc zero)) h e = cc
on_zero (suc (suc (suc zero))) h e = cc
on_zero (suc (suc (suc (suc m)))) h e = cc

-- where there is a mark, a claim on the three marks is enough
at_marks : (C : ℕ → Type 0) → C 1 → C 2 → C 3 → (m h : ℕ) → example_mark m ≡ on h → C m
at_marks C a b c zero h e = absurd (let f : bare ≡ on h = e in cc)
at_marks C a b c (suc zero) h e = a
at_marks C a b c (suc (suc zero)) h e = b
at_marks C a b c (suc (suc (suc zero))) h e = c
at_marks C a b c (suc (suc (suc (suc m)))) h e = absurd (let f : bare ≡ on h = e in cc)

-- productions use the host's symbols and their owner's
names_example : (p : ℕ) → example_production_owner p ≢ top →
    Each (λ x. (example_symbol_owner x ≡ host) ⊎ (example_symbol_owner x ≡ example_production_owner p)) (example_right p)
names_example zero ne = (inl refl, tt)
names_example (suc zero) ne = (inr refl, tt)
names_example (suc (suc zero)) ne = (inr refl, tt)
names_example (suc (suc (suc zero))) ne = (inr refl, tt)
names_example (suc (suc (suc (suc p)))) ne = absurd (ne refl)

-- a production without a mark is the host's
unmarked_example : (p : ℕ) → Each (IsBare example) (example_right p) → example_production_owner p ≢ top → example_production_owner p ≡ host
unmarked_example zero bares ne = refl
unmarked_example (suc zero) bares ne = let f : on 0 ≡ bare = bares.0 in cc
unmarked_example (suc (suc zero)) bares ne = let f : on 0 ≡ bare = bares.0 in cc
unmarked_example (suc (suc (suc zero))) bares ne = let f : on 0 ≡ bare = bares.0 in cc
unmarked_example (suc (suc (suc (suc p)))) bares ne = absurd (ne refl)

-- no nonterminal is a hole's
no_hole_example : (a : ℕ) → example_symbol_owner (Nonterminal a) ≢ hole
no_hole_example zero e = cc
no_hole_example (suc a) e = cc

-- there is one hole
only_hole : (m : ℕ) → example_symbol_owner (Terminal m) ≡ hole → m ≡ 3
only_hole zero e = cc
only_hole (suc zero) e = cc
only_hole (suc (suc zero)) e = cc
only_hole (suc (suc (suc zero))) e = refl
only_hole (suc (suc (suc (suc m)))) e = cc

-- names and marks are as they should be
pub marked_example : IsMarked example
marked_example = record {
  start = record { top_right = refl; top_owner = refl; start_host = refl; end_host = refl; end_bare = refl };
  named = record { uses = names_example; unmarked_owner = unmarked_example; no_hole = no_hole_example };
  bridges = record {
    shape = shape_example;
    bridge_left = on_zero;
    bridge_host = λ m a e. ap (λ z. example_symbol_owner (Nonterminal z)) (sym (on_zero m a e));
    bridge_right = at_marks (λ m. (rest : List Symbol) × (example_right m ≡ Terminal m ∷ rest)) ([], refl) ([], refl) ([], refl);
    bridge_owner = at_marks (λ m. example_production_owner m ≡ example_symbol_owner (Terminal m)) refl refl refl;
  };
  holes = record {
    hole_only = λ m a e. only_hole m;
    hole_mark = λ m a e. ap on (on_zero m a e);
    hole_owner = λ m a e. refl;
    hole_right = λ m a e. refl;
  };
}
