-- The lookaheads of `S -> x`, as its certificate lists them.
use Rattle.std.proofs.Common.{◌≡◌, ℕ, ◌+◌, ◌*◌, ◌<◌, zero, suc, [], ◌∷◌, Option, Some, None, refl, sym, ◌∙◌, ap}
use Rattle.std.proofs.Common.{subst, inl, inr, arith}
use Rattle.std.specs.Prelude.{slice_get}
use Rattle.std.proofs.lemmas.List.Elements.{All-cons, All-nil}
use Rattle.std.proofs.lemmas.Option.{same_Some}
use Rattle.wb_base.specs.declared.symbol.Symbol.TheVariants.{Terminal, Nonterminal}
use Rattle.wb_base.specs.Grammar.{IsSymbolBelow, IsProductionBelow, IsGrammar}
use Rattle.wb_grammar_theory.specs.declared.item.Item.{Item}
use Rattle.wb_grammar_theory.specs.Derives.{expand, done, next, empty}
use Rattle.wb_grammar_theory.specs.Items.{initial_item}
use Rattle.wb_grammar_theory.specs.Shape.{IsLive, IsProductive}
use Rattle.wb_grammar_theory.proofs.DerivesLemmas.{Derives-same}
use Rattle.wb_grammar_theory.proofs.LiveLemmas.{live}
use Rattle.wb_recheck_theory.specs.Lines.{IsMoveOf}
use Rattle.wb_recheck_theory.specs.Entries.{IsFollowed, opens, moves_on, IsListed, IsGoodEntry, AreGoodEntries, AreFollowersListed}
use Rattle.wb_recheck_theory.specs.Certificates.{IsCertificate}
use Rattle.wb_recheck_theory.specs.Examples.{one, one_lines, one_entries, one_entries_with, one_last}
use Rattle.wb_recheck_theory.proofs.ExampleLemmas.{item, entry, entry_parts, listed_at, first_of_end}
use Rattle.wb_recheck_theory.proofs.OneLemmas.{Four, whole, begin, shifted, reduced, one_opened, one_moved, rule_zero}
use Rattle.wb_recheck_theory.proofs.OneLemmas.{move_terminal, move_start, to_terminal, to_start, lines_good, moves_listed}

-- the four entries by their places
data Which (n k : ℕ) (i : Item) (t : ℕ) : Type 0 where
  of_whole : n ≡ 0 → k ≡ 0 → i ≡ item 1 0 → t ≡ 1 → Which n k i t
  of_begin : n ≡ 1 → k ≡ 0 → i ≡ item 0 0 → t ≡ 1 → Which n k i t
  of_reduced : n ≡ 2 → k ≡ 2 → i ≡ item 1 1 → t ≡ 1 → Which n k i t
  of_shifted : n ≡ 3 → k ≡ 1 → i ≡ item 0 1 → t ≡ 1 → Which n k i t

which : (n k : ℕ) (i : Item) (t : ℕ) (o : Option ℕ) → slice_get one_entries n ≡ Some (entry k i t o) → Which n k i t
which zero k i t o e = let (a, b, c) = entry_parts 0 (item 1 0) 1 None k i t o e in of_whole refl a b c
which (suc zero) k i t o e = let (a, b, c) = entry_parts 0 (item 0 0) 1 (Some 0) k i t o e in of_begin refl a b c
which (suc (suc zero)) k i t o e = let (a, b, c) = entry_parts 2 (item 1 1) 1 (Some 0) k i t o e in of_reduced refl a b c
which (suc (suc (suc zero))) k i t o e = let (a, b, c) = entry_parts 1 (item 0 1) 1 (Some 1) k i t o e in of_shifted refl a b c
which (suc (suc (suc (suc zero)))) k i t o e = cc
which (suc (suc (suc (suc (suc n))))) k i t o e = cc

listed : {n k : ℕ} {i : Item} {t : ℕ} → Which n k i t → IsListed one_entries k i t
listed (of_whole n a b c) = listed_at one_entries 0 0 (item 1 0) 1 None refl a b c
listed (of_begin n a b c) = listed_at one_entries 1 0 (item 0 0) 1 (Some 0) refl a b c
listed (of_reduced n a b c) = listed_at one_entries 2 2 (item 1 1) 1 (Some 0) refl a b c
listed (of_shifted n a b c) = listed_at one_entries 3 1 (item 0 1) 1 (Some 1) refl a b c

four_of : {n k : ℕ} {i : Item} {t : ℕ} → Which n k i t → Four k i × (t ≡ 1)
four_of (of_whole n a b c) = (whole a b, c)
four_of (of_begin n a b c) = (begin a b, c)
four_of (of_reduced n a b c) = (reduced a b, c)
four_of (of_shifted n a b c) = (shifted a b, c)

-- what follows is one of the four
closed : (k : ℕ) (i : Item) (t : ℕ) → Four k i → t ≡ 1 → (k' : ℕ) (i' : Item) (t' : ℕ) → IsFollowed one one_lines k i t k' i' t' →
    IsListed one_entries k' i' t'
closed k i t f is_end k' i' t' (opens b rest q right is rule h same is_item) =
    let (z, e, nothing) = one_opened b rest f is in
    let n = first_of_end one rest t t' nothing h in
    listed (of_begin refl (same ∙ z) (is_item ∙ ap initial_item (rule_zero q b right rule)) (n ∙ is_end))
closed k i t f is_end k' i' t' (moves_on x rest is lt m is_item same) =
    let (z, either) = one_moved x rest f is is_item in
    let by_first : IsMoveOf one one_lines 0 x k' = subst (λ y. IsMoveOf one one_lines y x k') z m in
    elim either [
      | inl (e, n) ↦ listed (of_reduced refl (to_start k' (subst (λ y. IsMoveOf one one_lines 0 y k') e by_first)) n (same ∙ is_end))
      | inr (e, n) ↦ listed (of_shifted refl (to_terminal k' (subst (λ y. IsMoveOf one one_lines 0 y k') e by_first)) n (same ∙ is_end))
    ]

-- an entry's item says at which place it is
by_item : {n k : ℕ} {i : Item} {t : ℕ} → Which n k i t → n + i.production ≡ 2 * i.dot + 1
by_item (of_whole n a b c) = omega (arith, n, ap (λ (z : Item). z.production) b, ap (λ (z : Item). z.dot) b)
by_item (of_begin n a b c) = omega (arith, n, ap (λ (z : Item). z.production) b, ap (λ (z : Item). z.dot) b)
by_item (of_reduced n a b c) = omega (arith, n, ap (λ (z : Item). z.production) b, ap (λ (z : Item). z.dot) b)
by_item (of_shifted n a b c) = omega (arith, n, ap (λ (z : Item). z.production) b, ap (λ (z : Item). z.dot) b)

differs : (n k p d t : ℕ) → n + p ≡ 2 * d + 1 → (m : ℕ) (o : Option ℕ) → m < n → slice_get one_entries m ≡ Some (entry k (item p d) t o) → ⊥
differs n k p d t place m o lt at = let other = by_item (which m k (item p d) t o at) in omega (arith, place, lt, other)

begin_good : IsGoodEntry one one_lines one_entries 1 (entry 0 (item 0 0) 1 (Some 0))
begin_good = record {
  in_range = record { kernel = omega arith; production = omega arith; dot = omega arith; terminal = omega arith };
  different = differs 1 0 0 0 1 (omega arith);
  place = 0;
  origin = refl;
  earlier = omega arith;
  source = entry 0 (item 1 0) 1 None;
  at = refl;
  follows = opens 0 [] 0 (Terminal 0 ∷ []) refl refl ([], Derives-same one (Terminal 1 ∷ [])) refl refl;
}

reduced_good : IsGoodEntry one one_lines one_entries 2 (entry 2 (item 1 1) 1 (Some 0))
reduced_good = record {
  in_range = record { kernel = omega arith; production = omega arith; dot = omega arith; terminal = omega arith };
  different = differs 2 2 1 1 1 (omega arith);
  place = 0;
  origin = refl;
  earlier = omega arith;
  source = entry 0 (item 1 0) 1 None;
  at = refl;
  follows = moves_on (Nonterminal 0) [] refl (omega arith) move_start refl refl;
}

shifted_good : IsGoodEntry one one_lines one_entries 3 (entry 1 (item 0 1) 1 (Some 1))
shifted_good = record {
  in_range = record { kernel = omega arith; production = omega arith; dot = omega arith; terminal = omega arith };
  different = differs 3 1 0 1 1 (omega arith);
  place = 1;
  origin = refl;
  earlier = omega arith;
  source = entry 0 (item 0 0) 1 (Some 0);
  at = refl;
  follows = moves_on (Terminal 0) [] refl (omega arith) move_terminal refl refl;
}

entries_good : AreGoodEntries one one_lines one_entries
entries_good zero e at =
    subst (IsGoodEntry one one_lines one_entries 1) (same_Some (entry 0 (item 0 0) 1 (Some 0)) e at) begin_good
entries_good (suc zero) e at =
    subst (IsGoodEntry one one_lines one_entries 2) (same_Some (entry 2 (item 1 1) 1 (Some 0)) e at) reduced_good
entries_good (suc (suc zero)) e at =
    subst (IsGoodEntry one one_lines one_entries 3) (same_Some (entry 1 (item 0 1) 1 (Some 1)) e at) shifted_good
entries_good (suc (suc (suc zero))) e at = cc
entries_good (suc (suc (suc (suc n)))) e at = cc

pub one_certificate : IsCertificate one one_lines one_entries
one_certificate = record {
  lines_good = lines_good;
  entry_first = refl;
  entries_good = entries_good;
  moves_listed = moves_listed;
  entries_listed = λ k i t (n, o, at). (let (f, is_end) = four_of (which n k i t o at) in closed k i t f is_end);
}

-- without the last entry there is none for what follows from the second, when x is shifted
pub one_missing : ¬ AreFollowersListed one one_lines (one_entries_with []) 0 (item 0 0) 1
one_missing all = by_place (all 1 (item 0 1) 1 follows)
  where
    follows : IsFollowed one one_lines 0 (item 0 0) 1 1 (item 0 1) 1
    follows = moves_on (Terminal 0) [] refl (omega arith) move_terminal refl refl

    by_place : IsListed (one_entries_with []) 1 (item 0 1) 1 → ⊥
    by_place (zero, o, at) = let (a, b, d) = entry_parts 0 (item 1 0) 1 None 1 (item 0 1) 1 o at in omega (arith, a)
    by_place (suc zero, o, at) = let (a, b, d) = entry_parts 0 (item 0 0) 1 (Some 0) 1 (item 0 1) 1 o at in omega (arith, a)
    by_place (suc (suc zero), o, at) = let (a, b, d) = entry_parts 2 (item 1 1) 1 (Some 0) 1 (item 0 1) 1 o at in omega (arith, a)
    by_place (suc (suc (suc zero)), o, at) = cc
    by_place (suc (suc (suc (suc n))), o, at) = cc

-- and it doesn't follow from the first
pub one_wrong_origin : ¬ IsGoodEntry one one_lines (one_entries_with (one_last 0 ∷ [])) 3 (one_last 0)
one_wrong_origin good =
    let first : 0 ≡ good.place = same_Some 0 good.place good.origin in
    let at = subst (λ n. slice_get (one_entries_with (one_last 0 ∷ [])) n ≡ Some good.source) (sym first) good.at in
    let is : entry 0 (item 1 0) 1 None ≡ good.source = same_Some (entry 0 (item 1 0) 1 None) good.source at in
    never (subst (λ e. IsFollowed one one_lines e.kernel e.item e.terminal 1 (item 0 1) 1) (sym is) good.follows)
  where
    never : IsFollowed one one_lines 0 (item 1 0) 1 1 (item 0 1) 1 → ⊥
    never (opens b rest q right is rule first same is_item) = omega (arith, same)
    never (moves_on x rest is lt m is_item same) = omega (arith, ap (λ (i : Item). i.production) is_item)

one_grammar : IsGrammar one
one_grammar = record {
  start_below = omega arith;
  productions_below = All-cons (IsProductionBelow 1 1) (0, Terminal 0 ∷ []) []
      (record { left = omega arith; right = All-cons (IsSymbolBelow 1 1) (Terminal 0) [] (omega arith) (All-nil (IsSymbolBelow 1 1)) })
      (All-nil (IsProductionBelow 1 1));
}

productive : (a : ℕ) → a < 1 → IsProductive one a
productive zero lt =
    (Terminal 0 ∷ [], expand 0 0 (Terminal 0 ∷ []) (Terminal 0 ∷ []) [] refl (Derives-same one (Terminal 0 ∷ [])) done refl, next 0 empty)
productive (suc a) lt = absurd (omega (arith, lt))

pub one_live : IsLive one
one_live = live one one_grammar productive
