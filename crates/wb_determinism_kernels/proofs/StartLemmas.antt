-- The kernels after markers, one terminal after another.
use Rattle.std.proofs.Common.{◌≡◌, ◌≢◌, ◌+◌, ◌<◌, ◌∙◌, ◌∷◌, ◌++◌, [], List, ℕ, Some, length, map, refl, sym, ap, subst, inl, inr, arith}
use Rattle.std.specs.Prelude.{◌↔◌, Contains, Option, slice_get}
use Rattle.std.proofs.lemmas.Bool.{cases_eq}
use Rattle.wb_lemmas.proofs.Members.{contains_first, nothing_in, push_contains, push_contains_last}
use Rattle.wb_lemmas.proofs.Places.{at_push}
use Rattle.wb_base.specs.declared.symbol.Symbol.{Symbol}
use Rattle.wb_base.specs.declared.symbol.Symbol.TheVariants.{Terminal}
use Rattle.wb_base.specs.Grammar.{GrammarView}
use Rattle.wb_grammar_theory.specs.declared.item.Item.{Item}
use Rattle.wb_grammar_theory.specs.Items.{IsKernelItem, IsViablePrefix, advance, initial_item, move}
use Rattle.wb_grammar_theory.specs.Productions.{IsProduction}
use Rattle.wb_grammar_theory.proofs.DotLemmas.{after_initial}
use Rattle.wb_grammar_theory.proofs.ProductionLemmas.{production_within}
use Rattle.wb_items.specs.Moved.{IsKernelFor}
use Rattle.wb_items.specs.Kernels.{KernelsView, count_of, prefix_of}
use Rattle.wb_items.specs.Table.{Leads}
use Rattle.wb_compose_theory.specs.Numbered.{IsHostKernel}
use Rattle.wb_compose_theory.specs.Renamings.{renamed}
use Rattle.wb_determinism_kernels.specs.declared.before_hole.BeforeHole.{BeforeHole}
use Rattle.wb_determinism_kernels.specs.declared.numbers.Numbers.{Numbers}
use Rattle.wb_determinism_kernels.specs.declared.starts.Start.{Start}
use Rattle.wb_determinism_kernels.specs.Given.{IsGiven}
use Rattle.wb_determinism_kernels.specs.NewKernels.{BeginsWith, IndexView, IsStart, prefixes_beside}
use Rattle.wb_determinism_kernels.specs.Numbers.{phi_by, up_by}
use Rattle.wb_determinism_kernels.specs.Inner.Growing.{AreFoundSoFar, IsAdded}
use Rattle.wb_determinism_kernels.specs.Inner.Holes.{AfterUpTo, HasNoHole, IsBefore}
use Rattle.wb_determinism_kernels.specs.Inner.Starting.{AreStarted}
use Rattle.wb_determinism_kernels.proofs.CrossingLemmas.{crossed_kernel, crosses_back, crossing_there}
use Rattle.wb_determinism_kernels.proofs.GrowLemmas.{leads_grows}
use Rattle.wb_determinism_kernels.proofs.NumberLemmas.{lift_once}
use Rattle.wb_determinism_kernels.proofs.PrefixLemmas.{host_at, host_is}

-- no terminal has been looked at
pub started_none : (host : KernelsView) (k : GrammarView) (m : Numbers) (images : List (Option ℕ)) (found : IndexView) →
    AreFoundSoFar host k (up_by m) found → AreStarted host k m images found [] 0
started_none host k m images found so_far = record {
  so_far = so_far;
  starts_are = λ i start at. cc;
  started = λ marker s prefix lt below at ne viable. absurd (omega (arith, lt));
}

-- the prefix of a number of the host
abbrev pub lifted_prefix : Numbers → KernelsView → ℕ → List Symbol
lifted_prefix m host s = map (renamed (up_by m)) (prefix_of host s)

module _ {host : KernelsView} {k : GrammarView} {m : Numbers} {images : List (Option ℕ)} (given : IsGiven host k m images) where
  host_kernel : (s : ℕ) → s < count_of host → IsHostKernel host.grammar k (up_by m) (map (renamed (up_by m)) (prefix_of host s))
      (prefix_of host s)
  host_kernel s lt = given.beside.kernels (prefix_of host s) (given.kernels.states.prefixes s lt)

  after_marker_kernel : (marker hole : ℕ) (before : BeforeHole) → phi_by m images marker ≢ marker →
      (up_by m).terminal hole ≡ phi_by m images marker → IsBefore host hole before → (item : Item) →
      IsKernelItem k (lifted_prefix m host before.state ++ Terminal marker ∷ []) item ↔
      ((q a : ℕ) × (rest : List Symbol) × IsProduction k q a (Terminal marker ∷ rest) × (item ≡ advance (initial_item q)))
  after_marker_kernel marker hole before ne up_is is_before =
      crossed_kernel given (lifted_prefix m host before.state) (prefix_of host before.state) (host_kernel before.state is_before.below)
      marker ne
      hole before.production up_is is_before.has is_before.begins

  -- the items after a marker are the kernel after it
  pub after_kernel : (steps : IndexView) (marker hole : ℕ) (before : BeforeHole) (items : List Item) → phi_by m images marker ≢ marker →
      (up_by m).terminal hole ≡ phi_by m images marker → IsBefore host hole before →
      AfterUpTo k marker items (length k.productions) → (items ≡ [] → ⊥) → (prefix : List Symbol) →
      slice_get (prefixes_beside (up_by m) host steps.steps) before.state ≡ Some prefix →
      IsKernelFor k (prefix ++ Terminal marker ∷ []) items
  after_kernel steps marker hole before items ne up_is is_before after some prefix at =
      let p_is = host_is (up_by m) host steps.steps before.state prefix is_before.below at in
      subst (λ z. IsKernelFor k (z ++ Terminal marker ∷ []) items) (sym p_is) (record {
        viable = viable items after some;
        exact = λ item. (
          λ listed.
              let (q, a, rest, lt, rule, is) = after.sound item listed in
              (after_marker_kernel marker hole before ne up_is is_before item).1 (q, a, rest, rule, is),
          λ has.
              let (q, a, rest, rule, is) = (after_marker_kernel marker hole before ne up_is is_before item).0 has in
              subst (Contains items) (sym is) (after.complete q a rest (production_within k q a (Terminal marker ∷ rest) rule) rule),
        );
        sorted = after.in_order;
      })
    where
      viable : (list : List Item) → AfterUpTo k marker list (length k.productions) → (list ≡ [] → ⊥) →
          IsViablePrefix k (lifted_prefix m host before.state ++ Terminal marker ∷ [])
      viable [] up none = absurd (none refl)
      viable (item ∷ list) up none =
          let (q, a, rest, lt, rule, is) = up.sound item (contains_first item list) in
          let (t, v) = crosses_back given (lifted_prefix m host before.state) (prefix_of host before.state) (host_kernel before.state
          is_before.below) marker ne hole
          before.production up_is is_before.has is_before.begins q a rest rule in (
            advance (initial_item q),
            t,
            move (initial_item q) (Terminal marker) rest (lifted_prefix m host before.state) v (after_initial k q a (Terminal marker ∷
                rest) rule) refl refl,
          )

  -- a terminal that starts nothing: it is no marker, or its hole is nowhere, or no production begins with it
  pub started_pass : (found : IndexView) (starts : List Start) (n : ℕ) → AreStarted host k m images found starts n →
      ((s : ℕ) → s < count_of host → phi_by m images n ≢ n →
      IsViablePrefix k (map (renamed (up_by m)) (prefix_of host s) ++ Terminal n ∷ []) → ⊥) → AreStarted host k m images found starts (n
      + 1)
  started_pass found starts n h never = record {
    so_far = h.so_far;
    starts_are = h.starts_are;
    started = λ marker s prefix lt below at ne viable. elim (cases_eq marker n) [
      | inl same ↦ absurd (never s below (λ e. ne (subst (λ z. phi_by m images z ≡ z) (sym same) e))
          (subst (λ z. IsViablePrefix k (map (renamed (up_by m)) (prefix_of host s) ++ Terminal z ∷ [])) same
          (subst (λ z. IsViablePrefix k (z ++ Terminal marker ∷ [])) (host_is (up_by m) host found.steps s prefix below at) viable)))
      | inr other ↦ h.started marker s prefix (omega (arith, lt, other)) below at ne viable
    ];
  }

  -- no hole, no crossing
  pub never_there : (marker hole : ℕ) → (up_by m).terminal hole ≡ phi_by m images marker → HasNoHole host hole (count_of host) → (s : ℕ) →
      s < count_of host → phi_by m images marker ≢ marker →
      IsViablePrefix k (map (renamed (up_by m)) (prefix_of host s) ++ Terminal marker ∷ []) → ⊥
  never_there marker hole up_is none s below ne viable =
      let (item, c) = crossing_there given (map (renamed (up_by m)) (prefix_of host s)) (prefix_of host s) (host_kernel s below) marker
      ne viable
      in
      let same : c.hole ≡ hole = lift_once m.terminals.own m.terminals.more c.hole hole (c.up_is ∙ sym up_is) in
      none s below (initial_item c.p) c.has (subst (λ z. BeginsWith host.grammar z (initial_item c.p)) same c.begins)

  -- no production, no crossing
  pub never_begun : (marker : ℕ) → AfterUpTo k marker [] (length k.productions) → (s : ℕ) → s < count_of host → phi_by m images marker ≢
      marker →
      IsViablePrefix k (map (renamed (up_by m)) (prefix_of host s) ++ Terminal marker ∷ []) → ⊥
  never_begun marker after s below ne viable =
      let (item, c) = crossing_there given (map (renamed (up_by m)) (prefix_of host s)) (prefix_of host s) (host_kernel s below) marker
      ne viable
      in
      nothing_in (advance (initial_item c.q))
      (after.complete c.q c.a c.rest (production_within k c.q c.a (Terminal marker ∷ c.rest) c.rule) c.rule)

  -- one start more
  pub started_more : (old new : IndexView) (starts more : List Start) (n : ℕ) (start : Start) → AreStarted host k m images old starts n →
      IsAdded host k (up_by m) old new start.before (Terminal n) start.number → start.marker ≡ n → phi_by m images n ≢ n →
      (up_by m).terminal start.hole ≡ phi_by m images n →
      IsBefore host start.hole (record { state = start.before; production = start.production }) → more ≡ starts ++ start ∷ [] →
      AreStarted host k m images new more (n + 1)
  started_more old new starts more n start h added is_n ne up_is before is = subst (λ z. AreStarted host k m images new z (n + 1)) (sym is)
      (record {
        so_far = added.so_far;
        starts_are = λ i one at. elim (at_push starts start one i at) [
          | inl known ↦ grown one (h.starts_are i one known)
          | inr last ↦ subst (IsStart host k m images (prefixes_beside (up_by m) host new.steps)) last.1 new_start
        ];
        started = λ marker s prefix lt below at ne' viable. elim (cases_eq marker n) [
          | inl same ↦ (start, push_contains_last starts start, is_n ∙ sym same)
          | inr other ↦
              let p_is = host_is (up_by m) host new.steps s prefix below at in
              let (one, listed, e) = h.started marker s prefix (omega (arith, lt, other)) below
              (subst (λ z. slice_get (prefixes_beside (up_by m) host old.steps) s ≡ Some z) (sym p_is) (host_at (up_by m) host old.steps
              s below))
              ne' viable in
              (one, push_contains starts start one listed, e)
        ];
      })
    where
      grown : (one : Start) → IsStart host k m images (prefixes_beside (up_by m) host old.steps) one →
          IsStart host k m images (prefixes_beside (up_by m) host new.steps) one
      grown one z = record {
        marker = z.marker;
        hole = z.hole;
        before = z.before;
        has = z.has;
        begins = z.begins;
        leads = leads_grows old new added.grows z.leads;
      }

      new_start : IsStart host k m images (prefixes_beside (up_by m) host new.steps) start
      new_start = record {
        marker = λ e. ne (subst (λ z. phi_by m images z ≡ z) is_n e);
        hole = up_is ∙ ap (phi_by m images) (sym is_n);
        before = before.below;
        has = before.has;
        begins = before.begins;
        leads = subst (λ z. Leads k (prefixes_beside (up_by m) host new.steps) start.before (Terminal z) start.number) (sym is_n)
            added.leads;
      }
