-- Sets at the new numbers, tested where they lead back, and what is known at the host's are the lookaheads.
use Rattle.std.proofs.Common.{◌++◌, ◌∙◌, ◌∷◌, ◌≡◌, ◌⊎◌, ◌<◌, ◌≤◌, List, [], ap, arith, inl, inr, map, refl, subst, sym, ℕ}
use Rattle.std.specs.Prelude.{◌↔◌, Bool, IsTrue}
use Rattle.std.proofs.lemmas.Bool.{cases_lt}
use Rattle.wb_base.specs.declared.symbol.Symbol.{Symbol}
use Rattle.wb_base.specs.declared.symbol.Symbol.TheVariants.{Terminal}
use Rattle.wb_base.specs.Grammar.{GrammarView}
use Rattle.wb_grammar_theory.specs.declared.item.Item.{Item}
use Rattle.wb_grammar_theory.specs.Items.{IsKernelItem, IsViablePrefix, SameKernel, advance, after_dot, initial_item, start_item}
use Rattle.wb_grammar_theory.specs.Items as valid
use Rattle.wb_grammar_theory.specs.Lookaheads.{IsLookahead}
use Rattle.wb_grammar_theory.specs.Productions.{end_of}
use Rattle.wb_grammar_theory.specs.Shape.{IsLive}
use Rattle.wb_grammar_theory.specs.States.{AreStates, Flows, IsNext}
use Rattle.wb_grammar_theory.proofs.DotLemmas.{after_initial}
use Rattle.wb_grammar_theory.proofs.FlowLemmas.{flows_exact, same_back, same_itself, same_then, zero_state}
use Rattle.wb_grammar_theory.proofs.KernelLemmas.{kernel_decides, same_move}
use Rattle.wb_compose_theory.proofs.RenamingLemmas.{map_join, split_list}
use Rattle.wb_compose_theory.specs.Numbered.{IsHostKernel, KeepsKernelLookaheads}
use Rattle.wb_compose_theory.specs.Renamings.{Renaming, renamed}
use Rattle.wb_determinism_theory.specs.Beside.{AreHostFirst, IsBeside, IsKnown, StandsAs, bridge, itself}
use Rattle.wb_determinism_theory.specs.Spreads.{Spreads}
use Rattle.wb_determinism_theory.specs.Tested.{IsTested}
use Rattle.wb_determinism_theory.proofs.FoundLemmas.{host_kernel_at}
use Rattle.wb_determinism_theory.proofs.OverLemmas.{same_up}
use Rattle.wb_determinism_theory.proofs.SpreadsLemmas.{spreads_exact, stays_keeps}

module _ {g k : GrammarView} {up : Renaming} {phi : ℕ → ℕ} {own count : ℕ} {prefix_of host_of : ℕ → List Symbol}
    {set : ℕ → Item → ℕ → Bool} (beside : IsBeside g k up phi) (live_g : IsLive g) (live_k : IsLive k)
    (states : AreStates k count prefix_of (IsNext k count prefix_of)) (first : AreHostFirst g k up phi own count prefix_of host_of)
    (tested : IsTested g k up phi own count prefix_of host_of set) where
  -- what is known at one of the host's numbers, or is in the set of another
  data Has (s : ℕ) (i : Item) (t : ℕ) : Type 0 where
    known : s < own → IsKnown g k up phi (host_of s) i t → Has s i t
    member : own ≤ s → IsTrue (set s i t) → Has s i t

  -- what is known rests on the kernel alone
  same_known : (a b : List Symbol) → SameKernel g a b → (i : Item) (t : ℕ) → IsKnown g k up phi a i t → IsKnown g k up phi b i t
  same_known a b same i t x = go x.lookahead
    where
      go : IsLookahead g a x.own x.u → IsKnown g k up phi b i t
      go (o, to, v) =
          record { named = x.named; own = x.own; stands = x.stands; u = x.u; is = x.is; lookahead = (o, same_then (same_back same) to, v) }

  -- what is known at a prefix of the host is known at the number of its kernel
  at_number : (other prefix : List Symbol) → IsViablePrefix g other → IsHostKernel g k up prefix other → (s : ℕ) → s < count →
      SameKernel k (prefix_of s) prefix → (i : Item) (t : ℕ) → IsKnown g k up phi other i t → Has s i t
  at_number other prefix viable is s lt same i t x =
      let (n, n_lt, n_same) = first.all_host other viable in
      let within = first.within in
      let n_count : n < count = omega arith in
      let e : n ≡ s = states.each_once n s n_count lt
      (same_then (same_up (host_of n) other (prefix_of n) prefix (host_kernel_at beside first n n_lt) is n_same) (same_back same)) in
      subst (λ z. Has z i t) e (known n_lt (same_known other (host_of n) (same_back n_same) i t x))

  -- over a symbol
  over : (n s' : ℕ) → n < own → (i : Item) (t : ℕ) (x : Symbol) (rest : List Symbol) → IsKnown g k up phi (host_of n) i t →
      after_dot k i ≡ x ∷ rest → IsNext k count prefix_of n x s' → Has s' (advance i) t
  over n s' host i t x rest z is next = go z.stands z.lookahead
    where
      go : StandsAs g k up phi i z.own → IsLookahead g (host_of n) z.own z.u → Has s' (advance i) t
      go (bridge m h q p a b rest' right ne up_is of_k of_g i_is own_is) l =
          let f : after_dot k i ≡ Terminal m ∷ rest' = ap (after_dot k) i_is ∙ after_initial k q a (Terminal m ∷ rest') of_k in
          let e : x ∷ rest ≡ Terminal m ∷ rest' = sym is ∙ f in
          let x_is : x ≡ Terminal m = cc in
          let leads : IsNext k count prefix_of n (Terminal m) s' = subst (λ y. IsNext k count prefix_of n y s') x_is next in
          let new : own ≤ s' = tested.leaves n s' m host ne leads in
          member new (tested.crosses n s' host new m ne leads i t rest' f z)
      go (itself i_is) (o, same, v) =
          let (u, vo) = kernel_decides live_g v (host_of n) (same_back same) in
          let here : map (renamed up) (after_dot g z.own) ≡ x ∷ rest =
          sym (beside.dots (host_of n) z.own (u, vo)) ∙ (ap (after_dot k) (sym i_is) ∙ is) in
          let (y, more, dot_is, y_is, more_is) = split_list up (after_dot g z.own) x rest here in
          let viable : IsViablePrefix g (host_of n ++ y ∷ []) =
          (advance z.own, u, valid.move z.own y more (host_of n) vo dot_is refl refl) in
          let longer : prefix_of n ++ x ∷ [] ≡ map (renamed up) (host_of n ++ y ∷ []) =
          ap (λ c. c ++ x ∷ []) (first.lifted n host) ∙
          (ap (λ c. map (renamed up) (host_of n) ++ c ∷ []) (sym y_is) ∙ sym (map_join up (host_of n) (y ∷ []))) in
          at_number (host_of n ++ y ∷ []) (map (renamed up) (host_of n ++ y ∷ [])) viable (beside.kernels (host_of n ++ y ∷ []) viable) s'
          (next.1) (subst (SameKernel k (prefix_of s')) longer (next.3)) (advance i) t
          (record {
            named = z.named;
            own = advance z.own;
            stands = itself (ap advance i_is);
            u = z.u;
            is = z.is;
            lookahead = (o ++ y ∷ [], same_move live_g (host_of n) o y same, valid.move z.own y more o v dot_is refl refl);
          })

  -- the start
  start_has : IsKnown g k up phi [] (start_item k) (end_of k)
  start_has = record {
    named = omega arith;
    own = start_item g;
    stands = itself (ap initial_item (sym beside.top_up));
    u = end_of g;
    is = beside.end_up ∙ sym beside.end_phi;
    lookahead = ([], same_itself g [], valid.start);
  }

  -- what flows is
  has_all : {s : ℕ} {i : Item} {t : ℕ} → Flows k (IsNext k count prefix_of) s i t → s < count → Has s i t
  has_all Flows.start lt =
      at_number [] [] (start_item g, end_of g, valid.start) (beside.kernels [] (start_item g, end_of g, valid.start)) 0
      (zero_state prefix_of states) (subst (λ z. SameKernel k z []) (sym states.first) (same_itself k [])) (start_item k) (end_of k)
      start_has
  has_all {s} (Flows.close item t b rest q u right f is rule first_is) lt = go (has_all f lt)
    where
      go : Has s item t → Has s (initial_item q) u
      go (member ge x) = member ge (tested.closes s ge lt item t b rest q u right x is rule first_is)
      go (known below x) = known below (beside.closed (host_of s) item t b rest q u right x is rule first_is)
  has_all (Flows.move item x rest n {t = t} {s' = s'} {moved = further} f is next further_is) lt = go (has_all f (next.0))
    where
      go : Has n item t → Has s' further t
      go (known below y) = subst (λ z. Has s' z t) (sym further_is) (over n s' below item t x rest y is next)
      go (member ge y) = subst (λ z. Has s' z t) (sym further_is) (to (cases_lt s' own))
        where
          to : (s' < own) ⊎ (own ≤ s') → Has s' (advance item) t
          to (inl below) = known below (tested.returns n s' ge below x next item t rest is y)
          to (inr new) = member new (tested.moves n s' ge new x next item t rest is y)

  -- at the host's numbers lookaheads are what is known
  pub tested_host : (s : ℕ) → s < own → (i : Item) (t : ℕ) → IsLookahead k (prefix_of s) i t ↔ IsKnown g k up phi (host_of s) i t
  tested_host s below i t =
      let within = first.within in
      let lt : s < count = omega (arith, below, within) in (
        λ l. go (has_all ((flows_exact k count prefix_of (IsNext k count prefix_of) live_k states s lt i t).1 l) lt),
        beside.true (prefix_of s) (host_of s) (host_kernel_at beside first s below) i t,
      )
    where
      go : Has s i t → IsKnown g k up phi (host_of s) i t
      go (known z x) = x
      go (member ge x) = absurd (omega (arith, ge, below))

  -- at the others the members of the sets
  pub tested_new : (s : ℕ) → own ≤ s → s < count → (i : Item) (t : ℕ) → IsLookahead k (prefix_of s) i t ↔ IsTrue (set s i t)
  tested_new s ge lt i t = (
    λ l. go (has_all ((flows_exact k count prefix_of (IsNext k count prefix_of) live_k states s lt i t).1 l) lt),
    tested.sound s ge lt i t,
  )
    where
      go : Has s i t → IsTrue (set s i t)
      go (known below x) = absurd (omega (arith, ge, below))
      go (member z x) = x

  -- and the lookahead rule by kernels holds
  pub tested_keeps : KeepsKernelLookaheads g k up phi
  tested_keeps =
      stays_keeps beside live_g live_k states first
      (λ s below i t x. (tested_host s below i t).0 (spread_true s below i t (inr x)))
    where
      spread_true : (s : ℕ) → s < own → (i : Item) (t : ℕ) →
          ((s < own) × IsKnown g k up phi (host_of s) i t) ⊎ Spreads g k up phi own count prefix_of host_of s i t →
          IsLookahead k (prefix_of s) i t
      spread_true s below i t x =
          let within = first.within in
          let lt : s < count = omega (arith, below, within) in
          (spreads_exact beside live_g live_k states first s lt i t).1 x
