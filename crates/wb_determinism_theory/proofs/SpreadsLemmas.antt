-- What is known and what spreads from markers on are the lookaheads.
use Rattle.std.proofs.Common.{◌++◌, ◌∙◌, ◌∷◌, ◌≡◌, ◌⊎◌, ◌<◌, List, [], ap, arith, inl, inr, map, refl, subst, sym, ℕ}
use Rattle.std.specs.Prelude.{◌↔◌}
use Rattle.wb_base.specs.declared.symbol.Symbol.{Symbol}
use Rattle.wb_base.specs.declared.symbol.Symbol.TheVariants.{Terminal}
use Rattle.wb_base.specs.Grammar.{GrammarView}
use Rattle.wb_grammar_theory.specs.declared.item.Item.{Item}
use Rattle.wb_grammar_theory.specs.Items.{IsKernelItem, IsViablePrefix, SameKernel, advance, after_dot, initial_item, start_item}
use Rattle.wb_grammar_theory.specs.Items as valid
use Rattle.wb_grammar_theory.specs.Lookaheads.{IsLookahead}
use Rattle.wb_grammar_theory.specs.Productions.{IsProduction, end_of}
use Rattle.wb_grammar_theory.specs.Shape.{IsLive}
use Rattle.wb_grammar_theory.specs.States.{AreStates, Flows, IsNext}
use Rattle.wb_grammar_theory.proofs.DotLemmas.{after_initial, top_no_production}
use Rattle.wb_grammar_theory.proofs.FlowLemmas.{flows_exact, same_back, same_itself, same_then, zero_state}
use Rattle.wb_grammar_theory.proofs.KernelLemmas.{kernel_decides, same_move}
use Rattle.wb_compose_theory.proofs.RenamingLemmas.{map_join, split_list}
use Rattle.wb_compose_theory.specs.Numbered.{IsHostKernel, KeepsKernelLookaheads}
use Rattle.wb_compose_theory.specs.Renamings.{Renaming, renamed, renamed_item}
use Rattle.wb_determinism_theory.specs.Beside.{AreHostFirst, IsBeside, IsKeptBeside, IsKnown, StandsAs, bridge, itself}
use Rattle.wb_determinism_theory.specs.Spreads.{Spreads, StaysKnown}
use Rattle.wb_determinism_theory.proofs.FoundLemmas.{host_kernel_at}
use Rattle.wb_determinism_theory.proofs.OverLemmas.{same_up}

module _ {g k : GrammarView} {up : Renaming} {phi : ℕ → ℕ} {own count : ℕ} {prefix_of host_of : ℕ → List Symbol}
    (beside : IsBeside g k up phi) (live_g : IsLive g) (live_k : IsLive k)
    (states : AreStates k count prefix_of (IsNext k count prefix_of)) (first : AreHostFirst g k up phi own count prefix_of host_of) where
  -- what is known at one of the host's numbers, or spreads
  data Has (s : ℕ) (i : Item) (t : ℕ) : Type 0 where
    known : s < own → IsKnown g k up phi (host_of s) i t → Has s i t
    spread : Spreads g k up phi own count prefix_of host_of s i t → Has s i t

  -- what is known rests on the kernel alone
  same_known : (a b : List Symbol) → SameKernel g a b → (i : Item) (t : ℕ) → IsKnown g k up phi a i t → IsKnown g k up phi b i t
  same_known a b same i t x = go x.lookahead
    where
      go : IsLookahead g a x.own x.u → IsKnown g k up phi b i t
      go (o, to, v) =
          record { named = x.named; own = x.own; stands = x.stands; u = x.u; is = x.is; lookahead = (o, same_then (same_back same) to, v) }

  -- what is known at a prefix of the host is known at the number of its kernel
  at_number : (other prefix : List Symbol) → IsViablePrefix g other → IsHostKernel g k up prefix other → (s : ℕ) → s < count →
      SameKernel k (prefix_of s) prefix → (i : Item) (t : ℕ) → IsKnown g k up phi other i t → Has s i t
  at_number other prefix viable is s lt same i t x =
      let (n, n_lt, n_same) = first.all_host other viable in
      let within = first.within in
      let n_count : n < count = omega arith in
      let e : n ≡ s = states.each_once n s n_count lt
      (same_then (same_up (host_of n) other (prefix_of n) prefix (host_kernel_at beside first n n_lt) is n_same) (same_back same)) in
      subst (λ z. Has z i t) e (known n_lt (same_known other (host_of n) (same_back n_same) i t x))

  -- over a symbol
  over : (n s' : ℕ) → n < own → (i : Item) (t : ℕ) (x : Symbol) (rest : List Symbol) → IsKnown g k up phi (host_of n) i t →
      after_dot k i ≡ x ∷ rest → IsNext k count prefix_of n x s' → Has s' (advance i) t
  over n s' host i t x rest z is next = go z.stands z.lookahead
    where
      go : StandsAs g k up phi i z.own → IsLookahead g (host_of n) z.own z.u → Has s' (advance i) t
      go (bridge m h q p a b rest' right ne up_is of_k of_g i_is own_is) l =
          let f : after_dot k i ≡ Terminal m ∷ rest' = ap (after_dot k) i_is ∙ after_initial k q a (Terminal m ∷ rest') of_k in
          let e : x ∷ rest ≡ Terminal m ∷ rest' = sym is ∙ f in
          let x_is : x ≡ Terminal m = cc in
          spread (Spreads.crossed n m i rest' host z f ne (subst (λ y. IsNext k count prefix_of n y s') x_is next) refl)
      go (itself i_is) (o, same, v) =
          let (u, vo) = kernel_decides live_g v (host_of n) (same_back same) in
          let here : map (renamed up) (after_dot g z.own) ≡ x ∷ rest =
          sym (beside.dots (host_of n) z.own (u, vo)) ∙ (ap (after_dot k) (sym i_is) ∙ is) in
          let (y, more, dot_is, y_is, more_is) = split_list up (after_dot g z.own) x rest here in
          let viable : IsViablePrefix g (host_of n ++ y ∷ []) =
          (advance z.own, u, valid.move z.own y more (host_of n) vo dot_is refl refl) in
          let longer : prefix_of n ++ x ∷ [] ≡ map (renamed up) (host_of n ++ y ∷ []) =
          ap (λ c. c ++ x ∷ []) (first.lifted n host) ∙
          (ap (λ c. map (renamed up) (host_of n) ++ c ∷ []) (sym y_is) ∙ sym (map_join up (host_of n) (y ∷ []))) in
          at_number (host_of n ++ y ∷ []) (map (renamed up) (host_of n ++ y ∷ [])) viable (beside.kernels (host_of n ++ y ∷ []) viable) s'
          (next.1) (subst (SameKernel k (prefix_of s')) longer (next.3)) (advance i) t
          (record {
            named = z.named;
            own = advance z.own;
            stands = itself (ap advance i_is);
            u = z.u;
            is = z.is;
            lookahead = (o ++ y ∷ [], same_move live_g (host_of n) o y same, valid.move z.own y more o v dot_is refl refl);
          })

  -- the start
  start_has : IsKnown g k up phi [] (start_item k) (end_of k)
  start_has = record {
    named = omega arith;
    own = start_item g;
    stands = itself (ap initial_item (sym beside.top_up));
    u = end_of g;
    is = beside.end_up ∙ sym beside.end_phi;
    lookahead = ([], same_itself g [], valid.start);
  }

  -- what flows is known or spreads
  has_all : {s : ℕ} {i : Item} {t : ℕ} → Flows k (IsNext k count prefix_of) s i t → Has s i t
  has_all Flows.start =
      at_number [] [] (start_item g, end_of g, valid.start) (beside.kernels [] (start_item g, end_of g, valid.start)) 0
      (zero_state prefix_of states) (subst (λ z. SameKernel k z []) (sym states.first) (same_itself k [])) (start_item k) (end_of k)
      start_has
  has_all {s} (Flows.close item t b rest q u right f is rule first_is) = go (has_all f)
    where
      go : Has s item t → Has s (initial_item q) u
      go (spread x) = spread (Spreads.closed item t b rest q u right x is rule first_is)
      go (known lt x) = known lt (beside.closed (host_of s) item t b rest q u right x is rule first_is)
  has_all (Flows.move item x rest n {t = t} {s' = s'} {moved = further} f is next further_is) = go (has_all f)
    where
      go : Has n item t → Has s' further t
      go (spread y) = spread (Spreads.moved item x rest n y is next further_is)
      go (known lt y) = subst (λ z. Has s' z t) (sym further_is) (over n s' lt item t x rest y is next)

  -- and is true
  spreads_true : {s : ℕ} {i : Item} {t : ℕ} → Spreads g k up phi own count prefix_of host_of s i t → IsLookahead k (prefix_of s) i t
  spreads_true (Spreads.crossed n m i rest {t} {s'} lt x is ne next moved_is) =
      let (o, same, v) = beside.true (prefix_of n) (host_of n) (host_kernel_at beside first n lt) i t x in (
        o ++ Terminal m ∷ [],
        same_then (next.3) (same_move live_k (prefix_of n) o (Terminal m) same),
        valid.move i (Terminal m) rest o v is refl moved_is,
      )
  spreads_true (Spreads.closed i t b rest q u right x is rule f) =
      let (o, same, v) = spreads_true x in (o, same, valid.close i t b rest q u right v is rule f)
  spreads_true (Spreads.moved i x rest n y is next further_is) =
      let (o, same, v) = spreads_true y in
      (o ++ x ∷ [], same_then (next.3) (same_move live_k (prefix_of n) o x same), valid.move i x rest o v is refl further_is)

  -- the lookaheads
  pub spreads_exact : (s : ℕ) → s < count → (i : Item) (t : ℕ) →
      IsLookahead k (prefix_of s) i t ↔
      (((s < own) × IsKnown g k up phi (host_of s) i t) ⊎ Spreads g k up phi own count prefix_of host_of s i t)
  spreads_exact s lt i t = (
    λ l. there (has_all ((flows_exact k count prefix_of
        (IsNext k count prefix_of) live_k states s lt i t).1 l)),
    back,
  )
    where
      there : Has s i t → ((s < own) × IsKnown g k up phi (host_of s) i t) ⊎ Spreads g k up phi own count prefix_of host_of s i t
      there (known host x) = inl (host, x)
      there (spread x) = inr x

      back : ((s < own) × IsKnown g k up phi (host_of s) i t) ⊎ Spreads g k up phi own count prefix_of host_of s i t →
          IsLookahead k (prefix_of s) i t
      back (inl (host, x)) = beside.true (prefix_of s) (host_of s) (host_kernel_at beside first s host) i t x
      back (inr x) = spreads_true x

  -- the lookahead rule holds where nothing spreads to the host's numbers that isn't known
  pub stays_keeps : StaysKnown g k up phi own count prefix_of host_of → KeepsKernelLookaheads g k up phi
  stays_keeps stays prefix other item t is in_kernel looks =
      let viable : IsViablePrefix g other = (item, (in_kernel.0).0, (in_kernel.0).1) in
      let (n, n_lt, n_same) = first.all_host other viable in
      let within = first.within in
      let n_count : n < count = omega arith in
      let to : SameKernel k (prefix_of n) prefix =
      same_up (host_of n) other (prefix_of n) prefix (host_kernel_at beside first n n_lt) is n_same in
      let (b, same, v) = looks in
      at n n_lt n_same ((spreads_exact n n_count (renamed_item up item) t).0 (b, same_then to same, v))
    where
      item_is : (a b : Item) → renamed_item up a ≡ renamed_item up b → a ≡ b
      item_is a b e =
          let p : a.production ≡ b.production = beside.production_once a.production b.production (ap (λ z. z.production) e) in
          let d : a.dot ≡ b.dot = ap (λ z. z.dot) e in
          λ j. record { production = p j; dot = d j }

      no_bridge : (q a : ℕ) (right : List Symbol) → IsProduction k q a right → renamed_item up item ≡ initial_item q → ⊥
      no_bridge q a right rule e = by_kernel in_kernel
        where
          by_kernel : IsKernelItem g other item → ⊥
          by_kernel (has, inl ne) = ne (ap (λ z. z.dot) e)
          by_kernel (has, inr (start_is, empty)) =
              top_no_production k q a right rule
              (ap (λ z. z.production) (sym e) ∙ (ap (λ z. up.production z.production) start_is ∙ beside.top_up))

      by : IsKnown g k up phi other (renamed_item up item) t → (u : ℕ) × (up.terminal u ≡ phi t) × IsLookahead g other item u
      by z = stand z.stands
        where
          stand : StandsAs g k up phi (renamed_item up item) z.own → (u : ℕ) × (up.terminal u ≡ phi t) × IsLookahead g other item u
          stand (itself e) = (z.u, z.is, subst (λ y. IsLookahead g other y z.u) (sym (item_is item z.own e)) z.lookahead)
          stand (bridge m h q p a b rest right ne up_is of_k of_g i_is own_is) = absurd (no_bridge q a (Terminal m ∷ rest) of_k i_is)

      at : (n : ℕ) → n < own → SameKernel g (host_of n) other →
          ((n < own) × IsKnown g k up phi (host_of n) (renamed_item up item) t) ⊎
          Spreads g k up phi own count prefix_of host_of n (renamed_item up item) t →
          (u : ℕ) × (up.terminal u ≡ phi t) × IsLookahead g other item u
      at n lt same (inl (host, x)) = by (same_known (host_of n) other same (renamed_item up item) t x)
      at n lt same (inr x) = by (same_known (host_of n) other same (renamed_item up item) t (stays n lt (renamed_item up item) t x))

  -- and only there
  pub keeps_stays : IsKeptBeside g k up phi → StaysKnown g k up phi own count prefix_of host_of
  keeps_stays kept s lt i t x = (kept.lookaheads (prefix_of s) (host_of s) (host_kernel_at beside first s lt) i t).0 (spreads_true x)
