-- The lookaheads of `S -> C B`, `C -> c`, where B has no production, as a certificate lists them.
use Rattle.std.proofs.Common.{◌≡◌, ◌≢◌, ℕ, ◌<◌, zero, suc, [], ◌∷◌, ◌++◌, Option, Some, None, refl, sym, ◌∙◌, ap, subst, arith}
use Rattle.std.specs.Prelude.{slice_get}
use Rattle.std.proofs.lemmas.Option.{same_Some}
use Rattle.wb_base.specs.declared.symbol.Symbol.TheVariants.{Terminal, Nonterminal}
use Rattle.wb_grammar_theory.specs.declared.item.Item.{Item}
use Rattle.wb_grammar_theory.specs.Derives.{IsFirst}
use Rattle.wb_grammar_theory.specs.Items.{initial_item}
use Rattle.wb_grammar_theory.specs.Shape.{IsLive}
use Rattle.wb_grammar_theory.proofs.DerivesLemmas.{Derives-same}
use Rattle.wb_recheck_theory.specs.Entries.{IsFollowed, opens, moves_on, IsListed, IsGoodEntry, AreGoodEntries}
use Rattle.wb_recheck_theory.specs.Certificates.{IsCertificate}
use Rattle.wb_recheck_theory.specs.Examples.{dead, dead_lines, dead_entries}
use Rattle.wb_recheck_theory.proofs.CertificateLemmas.{item_sound}
use Rattle.wb_recheck_theory.proofs.DeadLemmas.{stuck, dead_never}
use Rattle.wb_recheck_theory.proofs.ExampleLemmas.{item, entry, entry_parts, listed_at, first_of_end}
use Rattle.wb_recheck_theory.proofs.DeadLines.{Seven, before_start, before_c_b, after_start, after_c, after_b, Opened, opens_s, opens_c}
use Rattle.wb_recheck_theory.proofs.DeadLines.{opens_b, opened, Moves, by_start, by_c, by_x, by_b, moves, number_of, rule_of, only}
use Rattle.wb_recheck_theory.proofs.DeadLines.{at_start, at_s, at_b, past_start, past_b, move_start, move_c, move_b}
use Rattle.wb_recheck_theory.proofs.DeadLines.{dead_good, dead_moves_listed, dead_listed}
use Rattle.wb_recheck_theory.specs.Lines.{IsItemAt}

-- the five entries by their places
data Which (n k : ℕ) (i : Item) (t : ℕ) : Type 0 where
  of_before_start : n ≡ 0 → k ≡ 0 → i ≡ item 2 0 → t ≡ 1 → Which n k i t
  of_before_c : n ≡ 1 → k ≡ 0 → i ≡ item 0 0 → t ≡ 1 → Which n k i t
  of_after_start : n ≡ 2 → k ≡ 2 → i ≡ item 2 1 → t ≡ 1 → Which n k i t
  of_after_c : n ≡ 3 → k ≡ 3 → i ≡ item 0 1 → t ≡ 1 → Which n k i t
  of_after_b : n ≡ 4 → k ≡ 4 → i ≡ item 0 2 → t ≡ 1 → Which n k i t

which : (n k : ℕ) (i : Item) (t : ℕ) (o : Option ℕ) → slice_get dead_entries n ≡ Some (entry k i t o) → Which n k i t
which zero k i t o e = let (a, b, c) = entry_parts 0 (item 2 0) 1 None k i t o e in of_before_start refl a b c
which (suc zero) k i t o e = let (a, b, c) = entry_parts 0 (item 0 0) 1 (Some 0) k i t o e in of_before_c refl a b c
which (suc (suc zero)) k i t o e = let (a, b, c) = entry_parts 2 (item 2 1) 1 (Some 0) k i t o e in of_after_start refl a b c
which (suc (suc (suc zero))) k i t o e = let (a, b, c) = entry_parts 3 (item 0 1) 1 (Some 1) k i t o e in of_after_c refl a b c
which (suc (suc (suc (suc zero)))) k i t o e = let (a, b, c) = entry_parts 4 (item 0 2) 1 (Some 3) k i t o e in of_after_b refl a b c
which (suc (suc (suc (suc (suc zero))))) k i t o e = cc
which (suc (suc (suc (suc (suc (suc n)))))) k i t o e = cc

seven_of : {n k : ℕ} {i : Item} {t : ℕ} → Which n k i t → Seven k i × (t ≡ 1)
seven_of (of_before_start n a b c) = (before_start a b, c)
seven_of (of_before_c n a b c) = (before_c_b a b, c)
seven_of (of_after_start n a b c) = (after_start a b, c)
seven_of (of_after_c n a b c) = (after_c a b, c)
seven_of (of_after_b n a b c) = (after_b a b, c)

item_at : (k : ℕ) (i : Item) {k' : ℕ} {i' : Item} → IsItemAt dead dead_lines k i → k' ≡ k → i' ≡ i → IsItemAt dead dead_lines k' i'
item_at k i {k'} {i'} at a b =
    subst (λ z. IsItemAt dead dead_lines z i') (sym a) (subst (λ z. IsItemAt dead dead_lines k z) (sym b) at)

item_of : {n k : ℕ} {i : Item} {t : ℕ} → Which n k i t → IsItemAt dead dead_lines k i
item_of (of_before_start n a b c) = item_at 0 (item 2 0) at_start a b
item_of (of_before_c n a b c) = item_at 0 (item 0 0) at_s a b
item_of (of_after_start n a b c) = item_at 2 (item 2 1) past_start a b
item_of (of_after_c n a b c) = item_at 3 (item 0 1) at_b a b
item_of (of_after_b n a b c) = item_at 4 (item 0 2) past_b a b

-- no entry is of `C -> c`, and each item is at one place
abbrev place_for : ℕ → ℕ → ℕ
place_for zero zero = 1
place_for zero (suc zero) = 3
place_for zero (suc (suc d)) = 4
place_for (suc p) zero = 0
place_for (suc p) (suc d) = 2

at_place : {n k : ℕ} {i : Item} {t : ℕ} → Which n k i t → n ≡ place_for i.production i.dot
at_place (of_before_start n a b c) = n ∙ ap (λ (j : Item). place_for j.production j.dot) (sym b)
at_place (of_before_c n a b c) = n ∙ ap (λ (j : Item). place_for j.production j.dot) (sym b)
at_place (of_after_start n a b c) = n ∙ ap (λ (j : Item). place_for j.production j.dot) (sym b)
at_place (of_after_c n a b c) = n ∙ ap (λ (j : Item). place_for j.production j.dot) (sym b)
at_place (of_after_b n a b c) = n ∙ ap (λ (j : Item). place_for j.production j.dot) (sym b)

not_of_c : {n k : ℕ} {i : Item} {t : ℕ} → Which n k i t → i.production ≢ 1
not_of_c (of_before_start n a b c) is = omega (arith, is, ap (λ (j : Item). j.production) b)
not_of_c (of_before_c n a b c) is = omega (arith, is, ap (λ (j : Item). j.production) b)
not_of_c (of_after_start n a b c) is = omega (arith, is, ap (λ (j : Item). j.production) b)
not_of_c (of_after_c n a b c) is = omega (arith, is, ap (λ (j : Item). j.production) b)
not_of_c (of_after_b n a b c) is = omega (arith, is, ap (λ (j : Item). j.production) b)

-- where B comes after, no terminal begins what comes after
no_first : (t u : ℕ) → ¬ IsFirst dead (Nonterminal 2 ∷ Terminal t ∷ []) u
no_first t u (v, d) = stuck d (Terminal t ∷ []) refl refl

-- what follows is one of the five
closed : (n k : ℕ) (i : Item) (t : ℕ) → Which n k i t → (k' : ℕ) (i' : Item) (t' : ℕ) → IsFollowed dead dead_lines k i t k' i' t' →
    IsListed dead_entries k' i' t'
closed n k i t w k' i' t' (opens b rest q right is rule h same is_item) = by_left (opened b rest (seven_of w).0 is)
  where
    left : b ≡ q
    left = (rule_of q b right rule).0

    by_left : Opened k b rest → IsListed dead_entries k' i' t'
    by_left (opens_s z e r) =
        let first = first_of_end dead rest t t' r h in
        listed_at dead_entries 1 0 (item 0 0) 1 (Some 0) refl (same ∙ z) (is_item ∙ ap initial_item (sym left ∙ e)) (first ∙ (seven_of w).1)
    by_left (opens_c z e r) = absurd (no_first t t' (subst (λ x. IsFirst dead (x ++ Terminal t ∷ []) t') r h))
    by_left (opens_b e) = absurd (let below = (rule_of q b right rule).1 in let is_q = left in omega (arith, below, e, is_q))
closed n k i t w k' i' t' (moves_on x rest is lt m is_item same) = by_move (moves x rest (seven_of w).0 is is_item)
  where
    reached : k' ≡ number_of x
    reached = only k x k' i rest (item_of w) is m

    end : t' ≡ 1
    end = same ∙ (seven_of w).1

    by_move : Moves k x i' → IsListed dead_entries k' i' t'
    by_move (by_start z e new) = listed_at dead_entries 2 2 (item 2 1) 1 (Some 0) refl (reached ∙ ap number_of e) new end
    by_move (by_c z e new) = listed_at dead_entries 3 3 (item 0 1) 1 (Some 1) refl (reached ∙ ap number_of e) new end
    by_move (by_b z e new) = listed_at dead_entries 4 4 (item 0 2) 1 (Some 3) refl (reached ∙ ap number_of e) new end
    by_move (by_x z e new) = absurd (not_of_c w (ap (λ (j : Item). j.production) (sym is_item ∙ new)))

differs : (n k p d t : ℕ) → n ≡ place_for p d → (m : ℕ) (o : Option ℕ) → m < n →
    slice_get dead_entries m ≡ Some (entry k (item p d) t o) → ⊥
differs n k p d t place m o lt at = let other = at_place (which m k (item p d) t o at) in omega (arith, place, lt, other)

before_c_good : IsGoodEntry dead dead_lines dead_entries 1 (entry 0 (item 0 0) 1 (Some 0))
before_c_good = record {
  in_range = record { kernel = omega arith; production = omega arith; dot = omega arith; terminal = omega arith };
  different = differs 1 0 0 0 1 refl;
  place = 0;
  origin = refl;
  earlier = omega arith;
  source = entry 0 (item 2 0) 1 None;
  at = refl;
  follows = opens 0 [] 0 (Nonterminal 1 ∷ Nonterminal 2 ∷ []) refl refl ([], Derives-same dead (Terminal 1 ∷ [])) refl refl;
}

after_start_good : IsGoodEntry dead dead_lines dead_entries 2 (entry 2 (item 2 1) 1 (Some 0))
after_start_good = record {
  in_range = record { kernel = omega arith; production = omega arith; dot = omega arith; terminal = omega arith };
  different = differs 2 2 2 1 1 refl;
  place = 0;
  origin = refl;
  earlier = omega arith;
  source = entry 0 (item 2 0) 1 None;
  at = refl;
  follows = moves_on (Nonterminal 0) [] refl (omega arith) move_start refl refl;
}

after_c_good : IsGoodEntry dead dead_lines dead_entries 3 (entry 3 (item 0 1) 1 (Some 1))
after_c_good = record {
  in_range = record { kernel = omega arith; production = omega arith; dot = omega arith; terminal = omega arith };
  different = differs 3 3 0 1 1 refl;
  place = 1;
  origin = refl;
  earlier = omega arith;
  source = entry 0 (item 0 0) 1 (Some 0);
  at = refl;
  follows = moves_on (Nonterminal 1) (Nonterminal 2 ∷ []) refl (omega arith) move_c refl refl;
}

after_b_good : IsGoodEntry dead dead_lines dead_entries 4 (entry 4 (item 0 2) 1 (Some 3))
after_b_good = record {
  in_range = record { kernel = omega arith; production = omega arith; dot = omega arith; terminal = omega arith };
  different = differs 4 4 0 2 1 refl;
  place = 3;
  origin = refl;
  earlier = omega arith;
  source = entry 3 (item 0 1) 1 (Some 1);
  at = refl;
  follows = moves_on (Nonterminal 2) [] refl (omega arith) move_b refl refl;
}

dead_entries_good : AreGoodEntries dead dead_lines dead_entries
dead_entries_good zero e at =
    subst (IsGoodEntry dead dead_lines dead_entries 1) (same_Some (entry 0 (item 0 0) 1 (Some 0)) e at) before_c_good
dead_entries_good (suc zero) e at =
    subst (IsGoodEntry dead dead_lines dead_entries 2) (same_Some (entry 2 (item 2 1) 1 (Some 0)) e at) after_start_good
dead_entries_good (suc (suc zero)) e at =
    subst (IsGoodEntry dead dead_lines dead_entries 3) (same_Some (entry 3 (item 0 1) 1 (Some 1)) e at) after_c_good
dead_entries_good (suc (suc (suc zero))) e at =
    subst (IsGoodEntry dead dead_lines dead_entries 4) (same_Some (entry 4 (item 0 2) 1 (Some 3)) e at) after_b_good
dead_entries_good (suc (suc (suc (suc zero)))) e at = cc
dead_entries_good (suc (suc (suc (suc (suc n))))) e at = cc

pub dead_certificate : IsCertificate dead dead_lines dead_entries
dead_certificate = record {
  lines_good = dead_good;
  entry_first = refl;
  entries_good = dead_entries_good;
  moves_listed = dead_moves_listed;
  entries_listed = λ k i t (n, o, at). closed n k i t (which n k i t o at);
}

-- so after some dot nothing comes that a terminal begins
pub dead_not_live : ¬ IsLive dead
dead_not_live live = let (t, v) = item_sound live dead_lines dead_good dead_listed.0 in dead_never v refl
