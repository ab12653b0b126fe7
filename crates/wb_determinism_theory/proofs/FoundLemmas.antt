-- Which kernels are new, in numbers; and true sets are spread.
use Rattle.std.proofs.Common.{◌++◌, ◌∙◌, ◌∷◌, ◌≡◌, ◌⊎◌, ◌<◌, ◌≤◌, List, [], ap, arith, inl, inr, map, refl, subst, sym, ℕ}
use Rattle.std.specs.Prelude.{◌↔◌, Bool, IsTrue}
use Rattle.std.proofs.lemmas.Bool.{cases_lt}
use Rattle.wb_base.specs.declared.symbol.Symbol.{Symbol}
use Rattle.wb_base.specs.declared.symbol.Symbol.TheVariants.{Nonterminal, Terminal}
use Rattle.wb_base.specs.Grammar.{GrammarView}
use Rattle.wb_grammar_theory.specs.declared.item.Item.{Item}
use Rattle.wb_grammar_theory.specs.Derives.{IsFirst}
use Rattle.wb_grammar_theory.specs.Items.{HasItem, IsValidItem, IsViablePrefix, SameKernel, advance, after_dot, initial_item, start_item}
use Rattle.wb_grammar_theory.specs.Items as valid
use Rattle.wb_grammar_theory.specs.Lookaheads.{IsLookahead}
use Rattle.wb_grammar_theory.specs.Productions.{IsProduction, end_of}
use Rattle.wb_grammar_theory.specs.Shape.{IsLive}
use Rattle.wb_grammar_theory.specs.States.{IsNext}
use Rattle.wb_grammar_theory.proofs.DotLemmas.{after_initial}
use Rattle.wb_grammar_theory.proofs.FlowLemmas.{same_back, same_then}
use Rattle.wb_grammar_theory.proofs.KernelLemmas.{kernel_decides, same_move}
use Rattle.wb_compose_theory.proofs.RenamingLemmas.{map_join, split_list}
use Rattle.wb_compose_theory.specs.Numbered.{IsHostKernel}
use Rattle.wb_compose_theory.specs.Renamings.{Renaming, renamed}
use Rattle.wb_determinism_theory.specs.Beside.{AreFound, AreHostFirst, HasNumberOf, IsBeside, IsKeptBeside, IsSpreadOver}
use Rattle.wb_determinism_theory.specs.Beside.{StandsAs, bridge, itself}
use Rattle.wb_determinism_theory.proofs.OverLemmas.{same_up}

module _ {g k : GrammarView} {up : Renaming} {phi : ℕ → ℕ} {own count : ℕ} {prefix_of host_of : ℕ → List Symbol}
    (beside : IsBeside g k up phi) (first : AreHostFirst g k up phi own count prefix_of host_of) where
  -- the kernel of a number of the host's
  pub host_kernel_at : (n : ℕ) → n < own → IsHostKernel g k up (prefix_of n) (host_of n)
  host_kernel_at n lt =
      subst (λ z. IsHostKernel g k up z (host_of n)) (sym (first.lifted n lt)) (beside.kernels (host_of n) (first.host n lt))

  -- a prefix of the host has a number
  pub host_number_of : (other prefix : List Symbol) → IsViablePrefix g other → IsHostKernel g k up prefix other →
      HasNumberOf g k up phi count prefix_of prefix
  host_number_of other prefix viable is =
      let (n, n_lt, n_same) = first.all_host other viable in
      let within = first.within in
      (n, omega arith, same_up (host_of n) other (prefix_of n) prefix (host_kernel_at n n_lt) is n_same)

module _ {g k : GrammarView} {up : Renaming} {phi : ℕ → ℕ} {own count : ℕ} {prefix_of host_of : ℕ → List Symbol}
    (beside : IsBeside g k up phi) (live_k : IsLive k) (found : AreFound g k up phi own count prefix_of host_of) where
  -- each prefix has a number
  pub found_all : {prefix : List Symbol} {i : Item} {t : ℕ} → IsValidItem k prefix i t → HasNumberOf g k up phi count prefix_of prefix
  found_all valid.start =
      host_number_of beside found.first [] [] (start_item g, end_of g, valid.start)
      (beside.kernels [] (start_item g, end_of g, valid.start))
  found_all (valid.close item t b rest q u right v is rule f) = found_all v
  found_all (valid.move item x rest prefix {t} {longer} {moved} v is longer_is moved_is) =
      let (n, lt, same) = found_all v in
      let (u, vn) = kernel_decides live_k v (prefix_of n) (same_back same) in
      let (m, m_lt, m_same) = at n lt vn (cases_lt n own) in
      subst (HasNumberOf g k up phi count prefix_of) (sym longer_is)
      (m, m_lt, same_then m_same (same_move live_k (prefix_of n) prefix x same))
    where
      at : (n : ℕ) → n < count → {u : ℕ} → IsValidItem k (prefix_of n) item u → (n < own) ⊎ (own ≤ n) →
          HasNumberOf g k up phi count prefix_of (prefix_of n ++ x ∷ [])
      at n lt {u} vn (inr ge) = found.onward n ge lt x (advance item, u, valid.move item x rest (prefix_of n) vn is refl refl)
      at n lt {u} vn (inl host) =
          let z = (beside.items (prefix_of n) (host_of n) (host_kernel_at beside found.first n host) item).0 (u, vn) in
          go z.stands z.has
        where
          go : {j : Item} → StandsAs g k up phi item j → HasItem g (host_of n) j →
              HasNumberOf g k up phi count prefix_of (prefix_of n ++ x ∷ [])
          go (bridge m h q p a b rest' right ne up_is of_k of_g i_is own_is) has =
              let f : x ∷ rest ≡ Terminal m ∷ rest' =
              sym is ∙ (ap (after_dot k) i_is ∙ after_initial k q a (Terminal m ∷ rest') of_k) in
              let x_is : x ≡ Terminal m = cc in
              subst (λ z. HasNumberOf g k up phi count prefix_of (prefix_of n ++ z ∷ [])) (sym x_is)
              (found.crossed n host m ne (subst (λ z. IsViablePrefix k (prefix_of n ++ z ∷ [])) x_is
              (advance item, u, valid.move item x rest (prefix_of n) vn is refl refl)))
          go {j} (itself i_is) (c, vj) =
              let here : map (renamed up) (after_dot g j) ≡ x ∷ rest =
              sym (beside.dots (host_of n) j (c, vj)) ∙ (ap (after_dot k) (sym i_is) ∙ is) in
              let (y, more, dot_is, y_is, more_is) = split_list up (after_dot g j) x rest here in
              let viable : IsViablePrefix g (host_of n ++ y ∷ []) = (advance j, c, valid.move j y more (host_of n) vj dot_is refl refl) in
              let longer_up : prefix_of n ++ x ∷ [] ≡ map (renamed up) (host_of n ++ y ∷ []) =
              ap (λ z. z ++ x ∷ []) (found.first.lifted n host) ∙
              (ap (λ z. map (renamed up) (host_of n) ++ z ∷ []) (sym y_is) ∙ sym (map_join up (host_of n) (y ∷ []))) in
              host_number_of beside found.first (host_of n ++ y ∷ []) (prefix_of n ++ x ∷ []) viable
              (subst (λ z. IsHostKernel g k up z (host_of n ++ y ∷ [])) (sym longer_up) (beside.kernels (host_of n ++ y ∷ []) viable))

-- where the lookahead rule holds, sets that are the lookaheads are spread
pub met : {g k : GrammarView} {up : Renaming} {phi : ℕ → ℕ} {own count : ℕ} {prefix_of host_of : ℕ → List Symbol}
    {set : ℕ → Item → ℕ → Bool} → IsBeside g k up phi → IsKeptBeside g k up phi → IsLive k →
    AreHostFirst g k up phi own count prefix_of host_of →
    ((s : ℕ) → s < count → (i : Item) (t : ℕ) → IsTrue (set s i t) ↔ IsLookahead k (prefix_of s) i t) →
    IsSpreadOver g k up phi own count prefix_of host_of set
met {g} {k} {up} {phi} {own} {count} {prefix_of} {host_of} {set} beside kept live first exact = record {
  first = first;
  known = λ s lt i t. (
    λ member. (kept.lookaheads (prefix_of s) (host_of s) (host_kernel_at beside first s lt) i t).0 ((exact s (wide s lt) i t).0 member),
    λ x. (exact s (wide s lt) i t).1 ((kept.lookaheads (prefix_of s) (host_of s) (host_kernel_at beside first s lt) i t).1 x),
  );
  sound = λ s ge lt i t member. (exact s lt i t).0 member;
  crosses = λ s s' lt m ne next i t rest is member. moved s s' (wide s lt) (Terminal m) next i t rest is member;
  closes = λ s ge lt i t b rest q u right member is rule f. closed s lt i t b rest q u right member is rule f;
  moves = λ s s' ge lt x next i t rest is member. moved s s' lt x next i t rest is member;
}
  where
    wide : (s : ℕ) → s < own → s < count
    wide s lt = let within = first.within in omega (arith, lt, within)

    closed : (s : ℕ) → s < count → (i : Item) (t b : ℕ) (rest : List Symbol) (q u : ℕ) (right : List Symbol) → IsTrue (set s i t) →
        after_dot k i ≡ Nonterminal b ∷ rest → IsProduction k q b right → IsFirst k (rest ++ Terminal t ∷ []) u →
        IsTrue (set s (initial_item q) u)
    closed s lt i t b rest q u right member is rule f =
        let (o, same, v) = (exact s lt i t).0 member in
        (exact s lt (initial_item q) u).1 (o, same, valid.close i t b rest q u right v is rule f)

    moved : (s s' : ℕ) → s < count → (x : Symbol) → IsNext k count prefix_of s x s' → (i : Item) (t : ℕ) (rest : List Symbol) →
        after_dot k i ≡ x ∷ rest → IsTrue (set s i t) → IsTrue (set s' (advance i) t)
    moved s s' lt x next i t rest is member =
        let (o, same, v) = (exact s lt i t).0 member in
        (exact s' (next.1) (advance i) t).1
        (o ++ x ∷ [], same_then (next.3) (same_move live (prefix_of s) o x same), valid.move i x rest o v is refl refl)
