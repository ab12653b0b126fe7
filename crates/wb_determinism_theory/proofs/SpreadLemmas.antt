-- Sets that begin with what is known and spread from markers on are the lookaheads.
use Rattle.std.proofs.Common.{◌++◌, ◌∷◌, ◌≡◌, ◌⊎◌, ◌<◌, ◌≤◌, List, [], arith, inl, inr, subst, sym, ℕ}
use Rattle.std.specs.Prelude.{◌↔◌, Bool, IsTrue}
use Rattle.wb_base.specs.declared.symbol.Symbol.{Symbol}
use Rattle.wb_grammar_theory.specs.declared.item.Item.{Item}
use Rattle.wb_grammar_theory.specs.Items.{advance, initial_item}
use Rattle.wb_compose_theory.proofs.ActionLemmas.{same_has}
use Rattle.wb_compose_theory.proofs.KernelLemmas.{chain, first_kernels, flip, item_step}
use Rattle.wb_compose_theory.specs.Composable.{KeepsLookaheadsIn}
use Rattle.wb_compose_theory.specs.Derives.{AreProductiveIn}
use Rattle.wb_compose_theory.specs.Items.{IsValidItemIn, IsViablePrefixIn, SameKernelIn, close, move, start}
use Rattle.wb_compose_theory.specs.Items.{start_item_in}
use Rattle.wb_compose_theory.specs.Lookaheads.{IsLookaheadIn}
use Rattle.wb_compose_theory.specs.Marks.{IsMarked}
use Rattle.wb_compose_theory.specs.Worlds.{World, both, plus}
use Rattle.wb_determinism_theory.specs.Known.{IsKnownLookahead, IsMarkerOf}
use Rattle.wb_determinism_theory.specs.Reached.{AreOnce, AreReached}
use Rattle.wb_determinism_theory.specs.Spread.{IsSpread}
use Rattle.wb_determinism_theory.proofs.KnownLemmas.{Stays, host_same, known_closes, known_looks_bare, known_moves, known_same}
use Rattle.wb_determinism_theory.proofs.KnownLemmas.{known_start, known_true, stays}
use Rattle.wb_determinism_theory.proofs.ReachedLemmas.{below, reached}

module _ {w : World} {e own count : ℕ} {prefix_of : ℕ → List Symbol} {set : ℕ → Item → ℕ → Bool} (ok : IsMarked w)
    (p : AreProductiveIn w plus) (q : AreProductiveIn w (both e)) (r : AreReached w e own count prefix_of)
    (once : AreOnce w e count prefix_of) (spread : IsSpread w e own count prefix_of set) where
  -- a number of the host's
  host_at : (s : ℕ) → s < own → SameKernelIn w plus (prefix_of s) (both e) (prefix_of s)
  host_at s lt = host_same ok p q ((r.host s lt).2)

  -- what is known at a prefix of the host with holes is in the set of the number that has its kernel
  known_at : (prefix : List Symbol) → IsViablePrefixIn w plus prefix → (s : ℕ) → s < count →
      SameKernelIn w plus prefix (both e) (prefix_of s) → (i : Item) (t : ℕ) → IsKnownLookahead w e prefix i t → IsTrue (set s i t)
  known_at prefix viable s lt same i t k =
      let (n, n_lt, n_same) = r.all_host prefix viable in
      let within = r.within in
      let n_count : n < count = omega arith in
      let e' : n ≡ s = once n s n_count lt (chain (flip (host_at n n_lt)) (chain n_same same)) in
      subst (λ z. IsTrue (set z i t)) e' ((spread.known n n_lt i t).1 (known_same (flip n_same) k))

  -- what is valid is in the sets
  complete : {prefix : List Symbol} {i : Item} {t : ℕ} → IsValidItemIn w (both e) prefix i t → (s : ℕ) → s < count →
      SameKernelIn w (both e) (prefix_of s) (both e) prefix → IsTrue (set s i t)
  complete start s lt same =
      known_at [] (start_item_in w, w.end_terminal, start) s lt (chain (first_kernels plus (both e)) (flip same)) (start_item_in w)
      w.end_terminal (known_start ok [] (first_kernels plus plus))
  complete (close item t b rest n u v is rule left f) s lt same = go (complete v s lt same) (below s own)
    where
      go : IsTrue (set s item t) → (s < own) ⊎ (own ≤ s) → IsTrue (set s (initial_item n) u)
      go member (inr ge) = spread.closes s ge lt item t b rest n u member is rule left f
      go member (inl host) =
          (spread.known s host (initial_item n) u).1
          (known_closes ok q (prefix_of s) item t b rest n u ((spread.known s host item t).0 member) is rule left f)
  complete {t = t} (move item x rest shorter {longer = longer} {moved = moved} v is longer_is moved_is) s lt same =
      let (n, n_lt, n_same) = reached ok p q r v in
      let (u, vn) = same_has ok q shorter (prefix_of n) (flip n_same) v in
      let step : SameKernelIn w (both e) (prefix_of n ++ x ∷ []) (both e) (shorter ++ x ∷ []) = item_step ok q q x rest n_same vn v is in
      let to : SameKernelIn w (both e) (prefix_of s) (both e) (prefix_of n ++ x ∷ []) =
      chain (subst (λ z. SameKernelIn w (both e) (prefix_of s) (both e) z) longer_is same) (flip step) in
      subst (λ z. IsTrue (set s z t)) (sym moved_is) (go n n_lt vn to (complete v n n_lt n_same) (below n own))
    where
      go : (n : ℕ) → n < count → {u : ℕ} → IsValidItemIn w (both e) (prefix_of n) item u →
          SameKernelIn w (both e) (prefix_of s) (both e) (prefix_of n ++ x ∷ []) → IsTrue (set n item t) → (n < own) ⊎ (own ≤ n) →
          IsTrue (set s (advance item) t)
      go n n_lt vn to member (inr ge) = spread.moves n s ge n_lt lt x to item t rest is member
      go n n_lt vn to member (inl host) = over (known_moves ok p (prefix_of n) item t x rest ((spread.known n host item t).0 member) is)
          (stays ok p q (host_at n host) vn x rest is)
        where
          over : IsMarkerOf w e x ⊎ IsKnownLookahead w e (prefix_of n ++ x ∷ []) (advance item) t →
              IsMarkerOf w e x ⊎ Stays w e (prefix_of n) (prefix_of n) x item → IsTrue (set s (advance item) t)
          over (inl m) j = spread.crosses n s host lt x m to item t rest is member
          over (inr k) (inl m) = spread.crosses n s host lt x m to item t rest is member
          over (inr k) (inr j) =
              known_at (prefix_of n ++ x ∷ []) (advance item, j.t, j.moved) s lt (chain j.same (flip to)) (advance item) t k

  -- the sets are the lookaheads
  pub spread_exact : (s : ℕ) → s < count → (i : Item) (t : ℕ) → IsTrue (set s i t) ↔ IsLookaheadIn w (both e) (prefix_of s) i t
  spread_exact s lt i t = (there (below s own), λ (b, same, v). complete v s lt same)
    where
      there : (s < own) ⊎ (own ≤ s) → IsTrue (set s i t) → IsLookaheadIn w (both e) (prefix_of s) i t
      there (inr ge) member = spread.sound s ge lt i t member
      there (inl host) member = known_true ok p q (prefix_of s) (prefix_of s) (host_at s host) i t ((spread.known s host i t).0 member)

  -- and the lookahead rule holds
  pub spread_keeps : KeepsLookaheadsIn w e
  spread_keeps prefix item t in_kernel looks =
      let viable : IsViablePrefixIn w plus prefix = (item, (in_kernel.0).0, (in_kernel.0).1) in
      let (n, n_lt, n_same) = r.all_host prefix viable in
      let within = r.within in
      let n_count : n < count = omega arith in
      let to : SameKernelIn w (both e) (prefix_of n) (both e) prefix =
      chain (flip (host_at n n_lt)) (chain n_same (host_same ok p q ((in_kernel.0).1))) in
      let (b, same, v) = looks in
      let k = (spread.known n n_lt item t).0 (complete v n n_count (chain to same)) in
      known_looks_bare ok prefix item t in_kernel (known_same n_same k)
