-- Sets that spread from markers on are the lookaheads, in numbers.
use Rattle.std.proofs.Common.{◌++◌, ◌∙◌, ◌∷◌, ◌≡◌, ◌≢◌, ◌⊎◌, ◌<◌, ◌≤◌, List, [], ap, arith, inl, inr, map, refl, subst, sym, ℕ}
use Rattle.std.specs.Prelude.{◌↔◌, Bool, IsTrue}
use Rattle.std.proofs.lemmas.Bool.{cases_lt}
use Rattle.wb_base.specs.declared.symbol.Symbol.{Symbol}
use Rattle.wb_base.specs.declared.symbol.Symbol.TheVariants.{Terminal}
use Rattle.wb_base.specs.Grammar.{GrammarView}
use Rattle.wb_grammar_theory.specs.declared.item.Item.{Item}
use Rattle.wb_grammar_theory.specs.Items.{IsKernelItem, IsValidItem, IsViablePrefix, SameKernel, advance, after_dot}
use Rattle.wb_grammar_theory.specs.Items.{initial_item, move, start_item}
use Rattle.wb_grammar_theory.specs.Items as valid
use Rattle.wb_grammar_theory.specs.Lookaheads.{IsLookahead}
use Rattle.wb_grammar_theory.specs.Productions.{IsProduction, end_of}
use Rattle.wb_grammar_theory.specs.Shape.{IsLive}
use Rattle.wb_grammar_theory.specs.States.{AreStates, Flows, IsNext}
use Rattle.wb_grammar_theory.proofs.DotLemmas.{after_initial, top_no_production}
use Rattle.wb_grammar_theory.proofs.FlowLemmas.{flows_exact, flows_within, same_back, same_itself, same_then, zero_state}
use Rattle.wb_grammar_theory.proofs.KernelLemmas.{kernel_decides, same_move}
use Rattle.wb_compose_theory.proofs.RenamingLemmas.{map_join, split_list}
use Rattle.wb_compose_theory.specs.Numbered.{IsHostKernel, KeepsKernelLookaheads}
use Rattle.wb_compose_theory.specs.Renamings.{Renaming, renamed, renamed_item}
use Rattle.wb_determinism_theory.specs.Beside.{IsBeside, IsKnown, IsSpreadOver, StandsAs, bridge, itself}

-- kernels of g that are the same are so in k
pub same_up : {g k : GrammarView} {up : Renaming} (a b p q : List Symbol) → IsHostKernel g k up p a → IsHostKernel g k up q b →
    SameKernel g a b → SameKernel k p q
same_up {g} {k} {up} a b p q x y same item =
    (half a b p q x y (λ i. (same i).0) item, half b a q p y x (λ i. (same i).1) item)
  where
    half : (a b p q : List Symbol) → IsHostKernel g k up p a → IsHostKernel g k up q b → ((i : Item) → IsKernelItem g a i →
        IsKernelItem g b i)
        → (item : Item) → IsKernelItem k p item → IsKernelItem k q item
    half a b p q x y f item z =
        let (i, is) = x.within item z in
        subst (IsKernelItem k q) (sym is) ((y.same i).0 (f i ((x.same i).1 (subst (IsKernelItem k p) is z))))

module _ {g k : GrammarView} {up : Renaming} {phi : ℕ → ℕ} {own count : ℕ} {prefix_of host_of : ℕ → List Symbol}
    {set : ℕ → Item → ℕ → Bool} (beside : IsBeside g k up phi) (live_g : IsLive g) (live_k : IsLive k)
    (states : AreStates k count prefix_of (IsNext k count prefix_of))
    (spread : IsSpreadOver g k up phi own count prefix_of host_of set) where
  -- what is known rests on the kernel alone
  known_same : (a b : List Symbol) → SameKernel g a b → (i : Item) (t : ℕ) → IsKnown g k up phi a i t → IsKnown g k up phi b i t
  known_same a b same i t x = go x.lookahead
    where
      go : IsLookahead g a x.own x.u → IsKnown g k up phi b i t
      go (o, to, v) =
          record { named = x.named; own = x.own; stands = x.stands; u = x.u; is = x.is; lookahead = (o, same_then (same_back same) to, v) }

  -- the kernel of a number of the host's
  host_at : (n : ℕ) → n < own → IsHostKernel g k up (prefix_of n) (host_of n)
  host_at n lt = subst (λ z. IsHostKernel g k up z (host_of n)) (sym (spread.first.lifted n lt)) (beside.kernels (host_of n)
      (spread.first.host n lt))

  -- what is known at a prefix of the host is in the set of the number that has its kernel
  known_at : (other prefix : List Symbol) → IsViablePrefix g other → IsHostKernel g k up prefix other → (s : ℕ) → s < count →
      SameKernel k (prefix_of s) prefix → (i : Item) (t : ℕ) → IsKnown g k up phi other i t → IsTrue (set s i t)
  known_at other prefix viable is s lt same i t x =
      let (n, n_lt, n_same) = spread.first.all_host other viable in
      let within = spread.first.within in
      let n_count : n < count = omega arith in
      let e : n ≡ s = states.each_once n s n_count lt
      (same_then (same_up (host_of n) other (prefix_of n) prefix (host_at n n_lt) is n_same) (same_back same)) in
      subst (λ z. IsTrue (set z i t)) e ((spread.known n n_lt i t).1 (known_same other (host_of n) (same_back n_same) i t x))

  -- over a symbol that is no marker what is known stays so
  record Onward (other : List Symbol) (i : Item) (t : ℕ) (x : Symbol) : Type 0 where
    y : Symbol
    y_is : x ≡ renamed up y
    viable : IsViablePrefix g (other ++ y ∷ [])
    known : IsKnown g k up phi (other ++ y ∷ []) (advance i) t

  -- the symbol is a marker
  record IsMarker (x : Symbol) : Type 0 where
    m : ℕ
    is : x ≡ Terminal m
    ne : phi m ≢ m

  onward : (other : List Symbol) (i : Item) (t : ℕ) (x : Symbol) (rest : List Symbol) → IsKnown g k up phi other i t →
      after_dot k i ≡ x ∷ rest → IsMarker x ⊎ Onward other i t x
  onward other i t x rest z is = go z.stands z.lookahead
    where
      go : StandsAs g k up phi i z.own → IsLookahead g other z.own z.u → IsMarker x ⊎ Onward other i t x
      go (bridge m h q p a b rest' right ne up_is of_k of_g i_is own_is) l =
          let f : x ∷ rest ≡ Terminal m ∷ rest' =
          sym is ∙ (ap (after_dot k) i_is ∙ after_initial k q a (Terminal m ∷ rest') of_k) in
          inl (record { m = m; is = cc; ne = ne })
      go (itself i_is) (o, same, v) =
          let (u, vo) = kernel_decides live_g v other (same_back same) in
          let here : map (renamed up) (after_dot g z.own) ≡ x ∷ rest =
          sym (beside.dots other z.own (u, vo)) ∙ (ap (after_dot k) (sym i_is) ∙ is) in
          let (y, more, dot_is, y_is, more_is) = split_list up (after_dot g z.own) x rest here in
          inr (record {
            y = y;
            y_is = sym y_is;
            viable = (advance z.own, u, valid.move z.own y more other vo dot_is refl refl);
            known = record {
              named = z.named;
              own = advance z.own;
              stands = itself (ap advance i_is);
              u = z.u;
              is = z.is;
              lookahead = (o ++ y ∷ [], same_move live_g other o y same, valid.move z.own y more o v dot_is refl refl);
            };
          })

  -- the start
  start_known : IsKnown g k up phi [] (start_item k) (end_of k)
  start_known = record {
    named = omega arith;
    own = start_item g;
    stands = itself (ap initial_item (sym beside.top_up));
    u = end_of g;
    is = beside.end_up ∙ sym beside.end_phi;
    lookahead = ([], same_itself g [], valid.start);
  }

  -- what flows is in the sets
  complete : {s : ℕ} {i : Item} {t : ℕ} → Flows k (IsNext k count prefix_of) s i t → IsTrue (set s i t)
  complete Flows.start =
      known_at [] [] (start_item g, end_of g, valid.start) (beside.kernels [] (start_item g, end_of g, valid.start)) 0
      (zero_state prefix_of states) (subst (λ z. SameKernel k z []) (sym states.first) (same_itself k [])) (start_item k) (end_of k)
      start_known
  complete {s} (Flows.close item t b rest q u right f is rule first) = go (complete f) (flows_within prefix_of states f) (cases_lt s own)
    where
      go : IsTrue (set s item t) → s < count → (s < own) ⊎ (own ≤ s) → IsTrue (set s (initial_item q) u)
      go member lt (inr ge) = spread.closes s ge lt item t b rest q u right member is rule first
      go member lt (inl host) =
          (spread.known s host (initial_item q) u).1
          (beside.closed (host_of s) item t b rest q u right ((spread.known s host item t).0 member) is rule first)
  complete (Flows.move item x rest n {t} {s'} {moved} f is next moved_is) =
      subst (λ z. IsTrue (set s' z t)) (sym moved_is) (go (complete f) (flows_within prefix_of states f) (cases_lt n own))
    where
      go : IsTrue (set n item t) → n < count → (n < own) ⊎ (own ≤ n) → IsTrue (set s' (advance item) t)
      go member lt (inr ge) = spread.moves n s' ge lt x next item t rest is member
      go member lt (inl host) = over (onward (host_of n) item t x rest ((spread.known n host item t).0 member) is)
        where
          over : IsMarker x ⊎ Onward (host_of n) item t x → IsTrue (set s' (advance item) t)
          over (inl m) =
              spread.crosses n s' host m.m m.ne (subst (λ z. IsNext k count prefix_of n z s') m.is next) item t rest
              (is ∙ ap (λ z. z ∷ rest) m.is) member
          over (inr o) =
              let longer : prefix_of n ++ x ∷ [] ≡ map (renamed up) (host_of n ++ o.y ∷ []) =
              ap (λ z. z ++ x ∷ []) (spread.first.lifted n host) ∙
              (ap (λ z. map (renamed up) (host_of n) ++ z ∷ []) o.y_is ∙ sym (map_join up (host_of n) (o.y ∷ []))) in
              known_at (host_of n ++ o.y ∷ []) (map (renamed up) (host_of n ++ o.y ∷ [])) o.viable
              (beside.kernels (host_of n ++ o.y ∷ []) o.viable) s' (next.1)
              (subst (SameKernel k (prefix_of s')) longer (next.3)) (advance item) t o.known

  -- the sets are the lookaheads
  pub over_exact : (s : ℕ) → s < count → (i : Item) (t : ℕ) → IsTrue (set s i t) ↔ IsLookahead k (prefix_of s) i t
  over_exact s lt i t = (
    there (cases_lt s own),
    λ l. complete ((flows_exact k count prefix_of
        (IsNext k count prefix_of) live_k states s lt i t).1 l),
  )
    where
      there : (s < own) ⊎ (own ≤ s) → IsTrue (set s i t) → IsLookahead k (prefix_of s) i t
      there (inr ge) member = spread.sound s ge lt i t member
      there (inl host) member = beside.true (prefix_of s) (host_of s) (host_at s host) i t ((spread.known s host i t).0 member)

  -- and the lookahead rule by kernels holds
  pub over_keeps : KeepsKernelLookaheads g k up phi
  over_keeps prefix other item t is in_kernel looks =
      let viable : IsViablePrefix g other = (item, (in_kernel.0).0, (in_kernel.0).1) in
      let (n, n_lt, n_same) = spread.first.all_host other viable in
      let within = spread.first.within in
      let n_count : n < count = omega arith in
      let to : SameKernel k (prefix_of n) prefix = same_up (host_of n) other (prefix_of n) prefix (host_at n n_lt) is n_same in
      let (b, same, v) = looks in
      let x = (spread.known n n_lt (renamed_item up item) t).0
      ((over_exact n n_count (renamed_item up item) t).1 (b, same_then to same, v)) in
      by (known_same (host_of n) other n_same (renamed_item up item) t x)
    where
      item_is : (a b : Item) → renamed_item up a ≡ renamed_item up b → a ≡ b
      item_is a b e =
          let p : a.production ≡ b.production = beside.production_once a.production b.production (ap (λ z. z.production) e) in
          let d : a.dot ≡ b.dot = ap (λ z. z.dot) e in
          λ j. record { production = p j; dot = d j }

      no_bridge : (q a : ℕ) (right : List Symbol) → IsProduction k q a right → renamed_item up item ≡ initial_item q → ⊥
      no_bridge q a right rule e = by_kernel in_kernel
        where
          by_kernel : IsKernelItem g other item → ⊥
          by_kernel (has, inl ne) = ne (ap (λ z. z.dot) e)
          by_kernel (has, inr (start_is, empty)) =
              top_no_production k q a right rule
              (ap (λ z. z.production) (sym e) ∙ (ap (λ z. up.production z.production) start_is ∙ beside.top_up))

      by : IsKnown g k up phi other (renamed_item up item) t → (u : ℕ) × (up.terminal u ≡ phi t) × IsLookahead g other item u
      by z = stand z.stands
        where
          stand : StandsAs g k up phi (renamed_item up item) z.own → (u : ℕ) × (up.terminal u ≡ phi t) × IsLookahead g other item u
          stand (itself e) = (z.u, z.is, subst (λ y. IsLookahead g other y z.u) (sym (item_is item z.own e)) z.lookahead)
          stand (bridge m h q p a b rest right ne up_is of_k of_g i_is own_is) = absurd (no_bridge q a (Terminal m ∷ rest) of_k i_is)
