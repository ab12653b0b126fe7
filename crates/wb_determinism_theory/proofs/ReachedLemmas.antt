-- Which kernels are new.
use Rattle.std.proofs.Common.{◌++◌, ◌∙◌, ◌∷◌, ◌≡◌, ◌⊎◌, ◌<◌, ◌≤◌, List, [], ap, append_assoc, arith, inl, inr, refl, subst, sym, ℕ}
use Rattle.std.specs.Prelude.{◌↔◌}
use Rattle.std.proofs.lemmas.Bool.{cases_lt}
use Rattle.wb_base.specs.declared.symbol.Symbol.{Symbol}
use Rattle.wb_base.specs.declared.symbol.Symbol.TheVariants.{Terminal}
use Rattle.wb_grammar_theory.specs.declared.item.Item.{Item}
use Rattle.wb_grammar_theory.specs.Items.{advance, initial_item}
use Rattle.wb_compose_theory.proofs.ActionLemmas.{same_has}
use Rattle.wb_compose_theory.proofs.KernelLemmas.{advanced, chain, flip, item_step, moved_from}
use Rattle.wb_compose_theory.proofs.KernelLemmas.{first_kernels}
use Rattle.wb_grammar_theory.proofs.KernelLemmas.{snoc_not_nil, snoc_parts}
use Rattle.wb_compose_theory.proofs.MarkLemmas.{mark_opens}
use Rattle.wb_compose_theory.specs.Derives.{AreProductiveIn}
use Rattle.wb_compose_theory.specs.Items.{IsKernelItemIn, IsValidItemIn, IsViablePrefixIn, SameKernelIn, after_dot_in, close, move, start}
use Rattle.wb_compose_theory.specs.Items.{start_item_in}
use Rattle.wb_compose_theory.specs.Marks.{IsMarked}
use Rattle.wb_compose_theory.specs.Worlds.{Part, World, both, on, plus}
use Rattle.wb_determinism_theory.specs.Known.{IsCrossing, IsMarkerOf}
use Rattle.wb_determinism_theory.specs.Reached.{AreReached, HasNumber}
use Rattle.wb_determinism_theory.proofs.KnownLemmas.{Stays, host_same, stays}

-- a prefix is one of the host with holes, with the same kernel, or is so up to a marker
pub split : {w : World} {e : ℕ} {prefix : List Symbol} {i : Item} {t : ℕ} → IsMarked w → AreProductiveIn w plus →
    AreProductiveIn w (both e) → IsValidItemIn w (both e) prefix i t → IsViablePrefixIn w plus prefix ⊎ IsCrossing w e prefix
split {w} ok p q start = inl (start_item_in w, w.end_terminal, start)
split ok p q (close item t b rest r u v is rule left f) = split ok p q v
split {w} {e} ok p q (move item x rest prefix {t} {longer} {moved} v is longer_is moved_is) = go (split ok p q v)
  where
    one_more : (front : List Symbol) (m : Symbol) (r : List Symbol) → prefix ≡ front ++ m ∷ r → longer ≡ front ++ m ∷ (r ++ x ∷ [])
    one_more front m r prefix_is = longer_is ∙ (ap (λ z. z ++ x ∷ []) prefix_is ∙ append_assoc front (m ∷ r) (x ∷ []))

    go : IsViablePrefixIn w plus prefix ⊎ IsCrossing w e prefix → IsViablePrefixIn w plus longer ⊎ IsCrossing w e longer
    go (inr c) =
        inr (record {
          front = c.front;
          marker = c.marker;
          rest = c.rest ++ x ∷ [];
          is = one_more c.front c.marker c.rest c.is;
          of_host = c.of_host;
          is_marker = c.is_marker;
        })
    go (inl viable) = over (stays ok p q (host_same ok p q (viable.2)) v x rest is)
      where
        over : IsMarkerOf w e x ⊎ Stays w e prefix prefix x item → IsViablePrefixIn w plus longer ⊎ IsCrossing w e longer
        over (inl m) = inr (record { front = prefix; marker = x; rest = []; is = longer_is; of_host = viable; is_marker = m })
        over (inr s) = inl (advance item, s.t, subst (λ z. IsValidItemIn w plus z (advance item) s.t) (sym longer_is) s.moved)

-- the kernel after a marker is the one item of its bridge
pub marker_kernel : {w : World} {part : Part} → IsMarked w → (a : List Symbol) (m h : ℕ) → w.mark m ≡ on h →
    (i : Item) (t : ℕ) (rest : List Symbol) → IsValidItemIn w part a i t → after_dot_in w i ≡ Terminal m ∷ rest → (item : Item) →
    IsKernelItemIn w part (a ++ Terminal m ∷ []) item ↔ (item ≡ advance (initial_item (w.production_of m)))
marker_kernel {w} {part} ok a m h mark i t rest v is item = (there, back)
  where
    mine : i ≡ initial_item (w.production_of m)
    mine = mark_opens ok i m h rest is mark

    there : IsKernelItemIn w part (a ++ Terminal m ∷ []) item → item ≡ advance (initial_item (w.production_of m))
    there ((u, v'), inr (is', empty)) = absurd (snoc_not_nil a (Terminal m) empty)
    there ((u, v'), inl ne) =
        let k = moved_from v' ne in
        let parts = snoc_parts a k.prefix (Terminal m) k.x k.longer_is in
        let other : k.item ≡ initial_item (w.production_of m) =
        mark_opens ok k.item m h k.rest (subst (λ z. after_dot_in w k.item ≡ z ∷ k.rest) (sym parts.1) k.before_dot) mark in
        k.is ∙ ap advance other

    back : item ≡ advance (initial_item (w.production_of m)) → IsKernelItemIn w part (a ++ Terminal m ∷ []) item
    back item_is = (
      (t, move i (Terminal m) rest a v is refl (item_is ∙ ap advance (sym mine))),
      inl (advanced i item (item_is ∙ ap advance (sym mine))),
    )

-- a number is one of the host's or one of the others
pub below : (s own : ℕ) → (s < own) ⊎ (own ≤ s)
below s own = cases_lt s own

-- a prefix of the host with holes has a number
pub host_number : {w : World} {e own count : ℕ} {prefix_of : ℕ → List Symbol} → IsMarked w → AreProductiveIn w plus →
    AreProductiveIn w (both e) → AreReached w e own count prefix_of → (prefix : List Symbol) → IsViablePrefixIn w plus prefix →
    {other : List Symbol} → SameKernelIn w plus prefix (both e) other → HasNumber w e count prefix_of other
host_number ok p q r prefix viable same =
    let (s, lt, same') = r.all_host prefix viable in
    let within = r.within in
    (s, omega arith, chain (flip (host_same ok p q ((r.host s lt).2))) (chain same' same))

-- each prefix has a number
pub reached : {w : World} {e own count : ℕ} {prefix_of : ℕ → List Symbol} {prefix : List Symbol} {i : Item} {t : ℕ} → IsMarked w →
    AreProductiveIn w plus → AreProductiveIn w (both e) → AreReached w e own count prefix_of → IsValidItemIn w (both e) prefix i t →
    HasNumber w e count prefix_of prefix
reached {w} {e} {own} {count} {prefix_of} ok p q r start = host_number ok p q r [] (start_item_in w, w.end_terminal, start)
    (first_kernels plus (both e))
reached ok p q r (close item t b rest n u v is rule left f) = reached ok p q r v
reached {w} {e} {own} {count} {prefix_of} ok p q r (move item x rest prefix {t} {longer} {moved} v is longer_is moved_is) =
    let (s, lt, same) = reached ok p q r v in
    subst (HasNumber w e count prefix_of) (sym longer_is) (go s lt same (below s own))
  where
    go : (s : ℕ) → s < count → SameKernelIn w (both e) (prefix_of s) (both e) prefix → (s < own) ⊎ (own ≤ s) →
        HasNumber w e count prefix_of (prefix ++ x ∷ [])
    go s lt same where_is =
        let (u, vs) = same_has ok q prefix (prefix_of s) (flip same) v in
        let step = item_step ok q q x rest same vs v is in
        let (n, n_lt, n_same) = at s lt vs where_is in
        (n, n_lt, chain n_same step)
      where
        at : (s : ℕ) → s < count → {u : ℕ} → IsValidItemIn w (both e) (prefix_of s) item u → (s < own) ⊎ (own ≤ s) →
            HasNumber w e count prefix_of (prefix_of s ++ x ∷ [])
        at s lt {u} vs (inr ge) = r.onward s ge lt x (advance item, u, move item x rest (prefix_of s) vs is refl refl)
        at s lt {u} vs (inl below) = over (stays ok p q (host_same ok p q ((r.host s below).2)) vs x rest is)
          where
            over : IsMarkerOf w e x ⊎ Stays w e (prefix_of s) (prefix_of s) x item → HasNumber w e count prefix_of (prefix_of s ++ x ∷ [])
            over (inl m) = r.crossed s below x m (advance item, u, move item x rest (prefix_of s) vs is refl refl)
            over (inr k) = host_number ok p q r (prefix_of s ++ x ∷ []) (advance item, k.t, k.moved) k.same

-- so it is at each prefix that ends with the marker
pub marker_kernel_at : {w : World} {part : Part} → IsMarked w → (a : List Symbol) (m h : ℕ) → w.mark m ≡ on h →
    {i : Item} {t : ℕ} → IsValidItemIn w part (a ++ Terminal m ∷ []) i t → (item : Item) →
    IsKernelItemIn w part (a ++ Terminal m ∷ []) item ↔ (item ≡ advance (initial_item (w.production_of m)))
marker_kernel_at {w} {part} ok a m h mark v = opened_by refl v
  where
    opened_by : {longer : List Symbol} {i : Item} {t : ℕ} → longer ≡ a ++ Terminal m ∷ [] → IsValidItemIn w part longer i t →
        (item : Item) →
        IsKernelItemIn w part (a ++ Terminal m ∷ []) item ↔ (item ≡ advance (initial_item (w.production_of m)))
    opened_by e start item = absurd (snoc_not_nil a (Terminal m) (sym e))
    opened_by e (close j s b rest n u v' is rule left f) item = opened_by e v' item
    opened_by e (move j x rest prefix {t = s} v' is longer_is moved_is) item =
        let parts = snoc_parts a prefix (Terminal m) x (sym e ∙ longer_is) in
        marker_kernel ok a m h mark j s rest (subst (λ z. IsValidItemIn w part z j s) (sym parts.0) v')
        (is ∙ ap (λ z. z ∷ rest) (sym parts.1)) item
