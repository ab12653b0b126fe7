-- Where all is passed on, the lookaheads are what is listed at new numbers and what is known at the host's.
use Rattle.std.proofs.Common.{◌≡◌, ◌⊎◌, ◌+◌, ◌<◌, ◌∙◌, ◌∷◌, ◌++◌, [], Bool, List, ℕ, length, map, refl, sym, ap, subst, inl, inr}
use Rattle.std.proofs.Common.{arith}
use Rattle.std.specs.Prelude.{◌↔◌}
use Rattle.wb_base.specs.declared.symbol.Symbol.{Symbol}
use Rattle.wb_base.specs.declared.symbol.Symbol.TheVariants.{Terminal}
use Rattle.wb_base.specs.Grammar.{GrammarView}
use Rattle.wb_grammar_theory.specs.declared.item.Item.{Item}
use Rattle.wb_grammar_theory.specs.Items.{IsViablePrefix, SameKernel, advance, after_dot, initial_item, start_item}
use Rattle.wb_grammar_theory.specs.Items as valid
use Rattle.wb_grammar_theory.specs.Lookaheads.{IsLookahead}
use Rattle.wb_grammar_theory.specs.Productions.{end_of}
use Rattle.wb_grammar_theory.specs.States.{Flows, IsNext}
use Rattle.wb_grammar_theory.proofs.DotLemmas.{after_initial}
use Rattle.wb_grammar_theory.proofs.FlowLemmas.{flows_exact, same_back, same_itself, same_then, zero_state}
use Rattle.wb_grammar_theory.proofs.KernelLemmas.{kernel_decides, same_move}
use Rattle.wb_items.specs.Kernels.{prefix_of}
use Rattle.wb_compose_theory.proofs.RenamingLemmas.{map_join, split_list}
use Rattle.wb_compose_theory.specs.Numbered.{IsHostKernel, KeepsKernelLookaheads}
use Rattle.wb_compose_theory.specs.Renamings.{renamed}
use Rattle.wb_determinism_theory.specs.Beside.{IsKnown, StandsAs, bridge, itself}
use Rattle.wb_determinism_theory.specs.Spreads.{Spreads}
use Rattle.wb_determinism_theory.proofs.OverLemmas.{same_up}
use Rattle.wb_determinism_theory.proofs.SpreadsLemmas.{spreads_exact, stays_keeps}
use Rattle.wb_determinism_lookaheads.specs.declared.context.Context.{Context}
use Rattle.wb_determinism_lookaheads.specs.Inner.Spreading.{AreTrue, Arrives, IsAllPassed, IsContext, both_of, count_in, host_of}
use Rattle.wb_determinism_lookaheads.specs.Inner.Spreading.{image_of, own_of, prefix_in, up_of, with_sets}
use Rattle.wb_determinism_lookaheads.specs.NewLookaheads.{Lists}
use Rattle.wb_determinism_lookaheads.proofs.CrossLemmas.{crosses_listed}
use Rattle.wb_determinism_lookaheads.proofs.StartLemmas.{host_kernel}

module _ {c : Context} (ok : IsContext c) {sets : List (List (List Bool))} (true : AreTrue c sets) (passed : IsAllPassed c sets) where
  abbrev g : GrammarView
  g = (host_of c).grammar

  abbrev k : GrammarView
  k = both_of c

  abbrev Known : List Symbol → Item → ℕ → Type 0
  Known = IsKnown g k (up_of c) (image_of c)

  abbrev host_prefix : ℕ → List Symbol
  host_prefix = prefix_of (host_of c)

  abbrev Leads : ℕ → Symbol → ℕ → Type 0
  Leads = IsNext k (count_in c) (prefix_in c)

  -- what is known rests on the kernel alone
  same_known : (a b : List Symbol) → SameKernel g a b → (i : Item) (t : ℕ) → Known a i t → Known b i t
  same_known a b same i t x = go x.lookahead
    where
      go : IsLookahead g a x.own x.u → Known b i t
      go (o, to, v) =
          record { named = x.named; own = x.own; stands = x.stands; u = x.u; is = x.is; lookahead = (o, same_then (same_back same) to, v) }

  -- what is known at a prefix of the host is known at the number of its kernel
  at_number : (other prefix : List Symbol) → IsViablePrefix g other → IsHostKernel g k (up_of c) prefix other → (s : ℕ) → s < count_in c →
      SameKernel k (prefix_in c s) prefix → (i : Item) (t : ℕ) → Known other i t → Arrives c sets s i t
  at_number other prefix viable is s lt same i t x =
      let (n, n_lt, n_same) = ok.new.found.first.all_host other viable in
      let within = ok.new.found.first.within in
      let n_count : n < count_in c = omega (arith, n_lt, within) in
      let e : n ≡ s = ok.new.states.each_once n s n_count lt
      (same_then (same_up (host_prefix n) other (prefix_in c n) prefix (host_kernel ok n n_lt) is n_same) (same_back same)) in
      subst (λ z. Arrives c sets z i t) e (inr (n_lt, same_known other (host_prefix n) (same_back n_same) i t x))

  -- over a symbol
  over : (n s' : ℕ) → n < own_of c → (i : Item) (t : ℕ) (x : Symbol) (rest : List Symbol) → Known (host_prefix n) i t →
      after_dot k i ≡ x ∷ rest → Leads n x s' → Arrives c sets s' (advance i) t
  over n s' host i t x rest z is next = go z.stands z.lookahead
    where
      go : StandsAs g k (up_of c) (image_of c) i z.own → IsLookahead g (host_prefix n) z.own z.u → Arrives c sets s' (advance i) t
      go (bridge m h q p a b rest' right ne up_is of_k of_g i_is own_is) l =
          let f : after_dot k i ≡ Terminal m ∷ rest' = ap (after_dot k) i_is ∙ after_initial k q a (Terminal m ∷ rest') of_k in
          let e : x ∷ rest ≡ Terminal m ∷ rest' = sym is ∙ f in
          let x_is : x ≡ Terminal m = cc in
          inl (crosses_listed ok passed n s' m host ne (subst (λ y. Leads n y s') x_is next) i t rest' f z)
      go (itself i_is) (o, same, v) =
          let live_g = ok.given.kernels.live in
          let (u, vo) = kernel_decides live_g v (host_prefix n) (same_back same) in
          let here : map (renamed (up_of c)) (after_dot g z.own) ≡ x ∷ rest =
          sym (ok.given.beside.dots (host_prefix n) z.own (u, vo)) ∙ (ap (after_dot k) (sym i_is) ∙ is) in
          let (y, more, dot_is, y_is, more_is) = split_list (up_of c) (after_dot g z.own) x rest here in
          let viable : IsViablePrefix g (host_prefix n ++ y ∷ []) =
          (advance z.own, u, valid.move z.own y more (host_prefix n) vo dot_is refl refl) in
          let longer : prefix_in c n ++ x ∷ [] ≡ map (renamed (up_of c)) (host_prefix n ++ y ∷ []) =
          ap (λ d. d ++ x ∷ []) (ok.new.found.first.lifted n host) ∙
          (ap (λ d. map (renamed (up_of c)) (host_prefix n) ++ d ∷ []) (sym y_is) ∙ sym (map_join (up_of c) (host_prefix n) (y ∷ []))) in
          at_number (host_prefix n ++ y ∷ []) (map (renamed (up_of c)) (host_prefix n ++ y ∷ [])) viable
          (ok.given.beside.kernels (host_prefix n ++ y ∷ []) viable) s'
          (next.1) (subst (SameKernel k (prefix_in c s')) longer (next.3)) (advance i) t
          (record {
            named = z.named;
            own = advance z.own;
            stands = itself (ap advance i_is);
            u = z.u;
            is = z.is;
            lookahead = (o ++ y ∷ [], same_move live_g (host_prefix n) o y same, valid.move z.own y more o v dot_is refl refl);
          })

  -- the start
  start_has : Known [] (start_item k) (end_of k)
  start_has = record {
    named = omega arith;
    own = start_item g;
    stands = itself (ap initial_item (sym ok.given.beside.top_up));
    u = end_of g;
    is = ok.given.beside.end_up ∙ sym ok.given.beside.end_phi;
    lookahead = ([], same_itself g [], valid.start);
  }

  -- a new number's place is below their count
  below : (s i : ℕ) → s < count_in c → s ≡ own_of c + i → i < length c.new.now.index.kernels
  below s i lt is = let e = ok.new.kernels_len in omega (arith, lt, is, e)

  -- what flows arrives
  pub all_arrive : {s : ℕ} {i : Item} {t : ℕ} → Flows k Leads s i t → s < count_in c → Arrives c sets s i t
  all_arrive Flows.start lt =
      at_number [] [] (start_item g, end_of g, valid.start) (ok.given.beside.kernels [] (start_item g, end_of g, valid.start)) 0
      (zero_state (prefix_in c) ok.new.states)
      (subst (λ z. SameKernel k z []) (sym ok.new.states.first) (same_itself k [])) (start_item k) (end_of k) start_has
  all_arrive {s} (Flows.close item t b rest q u right f is rule first_is) lt = go (all_arrive f lt)
    where
      go : Arrives c sets s item t → Arrives c sets s (initial_item q) u
      go (inr (host, x)) = inr (host, ok.given.beside.closed (host_prefix s) item t b rest q u right x is rule first_is)
      go (inl (i, e, (j, one, slot, belong, has))) = inl (
        i,
        e,
        (passed.slots i j (below s i lt e) one slot item belong).opens b q t u rest right is rule has first_is,
      )
  all_arrive (Flows.move item x rest n {t = t} {s' = s'} {moved = further} f is next further_is) lt = go (all_arrive f (next.0))
    where
      go : Arrives c sets n item t → Arrives c sets s' further t
      go (inr (host, y)) = subst (λ z. Arrives c sets s' z t) (sym further_is) (over n s' host item t x rest y is next)
      go (inl (i, e, (j, one, slot, belong, has))) = subst (λ z. Arrives c sets s' z t) (sym further_is)
          ((passed.slots i j (below n i (next.0) e) one slot item belong).moves x rest s' t is
          (subst (λ z. Leads z x s') e next) has)

  arrives_at : (s : ℕ) → s < count_in c → (i : Item) (t : ℕ) → IsLookahead k (prefix_in c s) i t → Arrives c sets s i t
  arrives_at s lt i t l =
      all_arrive ((flows_exact k (count_in c) (prefix_in c) Leads ok.given.live ok.new.states s lt i t).1 l) lt

  -- at a new number the lookaheads are what is listed
  pub listed_exact : (i : ℕ) → i < length c.new.now.index.steps → (item : Item) (t : ℕ) →
      Lists k (with_sets c sets) i item t ↔ IsLookahead k (prefix_in c (own_of c + i)) item t
  listed_exact i lt item t = (
    true i lt item t,
    λ l. go (arrives_at (own_of c + i) (omega (arith, lt)) item t l),
  )
    where
      go : Arrives c sets (own_of c + i) item t → Lists k (with_sets c sets) i item t
      go (inl (n, e, listed)) = let same : n ≡ i = omega (arith, e) in subst (λ z. Lists k (with_sets c sets) z item t) same listed
      go (inr (host, x)) = absurd (omega (arith, host))

  -- and the lookahead rule by kernels holds
  pub listed_keeps : KeepsKernelLookaheads g k (up_of c) (image_of c)
  listed_keeps =
      stays_keeps ok.given.beside ok.given.kernels.live ok.given.live ok.new.states ok.new.found.first
      (λ s host i t x. go s host i t (arrives_at s (within s host) i t (spread_true s host i t (inr x))))
    where
      within : (s : ℕ) → s < own_of c → s < count_in c
      within s host = let w = ok.new.found.first.within in omega (arith, host, w)

      spread_true : (s : ℕ) → s < own_of c → (i : Item) (t : ℕ) → ((s < own_of c) × Known (host_prefix s) i t) ⊎
          Spreads g k (up_of c) (image_of c) (own_of c) (count_in c) (prefix_in c) host_prefix s i t → IsLookahead k (prefix_in c s) i t
      spread_true s host i t x =
          (spreads_exact ok.given.beside ok.given.kernels.live ok.given.live ok.new.states ok.new.found.first s (within s host) i t).1 x

      go : (s : ℕ) → s < own_of c → (i : Item) (t : ℕ) → Arrives c sets s i t → Known (host_prefix s) i t
      go s host i t (inl (n, e, listed)) = absurd (omega (arith, host, e))
      go s host i t (inr (z, x)) = x
