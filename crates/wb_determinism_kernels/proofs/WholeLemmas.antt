-- What new kernels show to callers.
use Rattle.std.proofs.Common.{◌≡◌, ◌≢◌, ◌+◌, ◌-◌, ◌<◌, ◌≤◌, ◌⊎◌, ◌∙◌, ◌∷◌, ◌++◌, [], List, ℕ, Some, length, map, refl, sym, ap, subst}
use Rattle.std.proofs.Common.{inl, inr, arith}
use Rattle.std.specs.Prelude.{Contains, Option, None, slice_get}
use Rattle.std.proofs.lemmas.Bool.{cases_lt}
use Rattle.std.proofs.lemmas.Option.{slice_get_within}
use Rattle.wb_lemmas.proofs.Members.{contains_first, contains_later, place_in}
use Rattle.wb_lemmas.proofs.Places.{at_within}
use Rattle.wb_base.specs.declared.symbol.Symbol.{Symbol}
use Rattle.wb_base.specs.declared.symbol.Symbol.TheVariants.{Terminal}
use Rattle.wb_base.specs.Grammar.{GrammarView}
use Rattle.wb_grammar_theory.specs.declared.item.Item.{Item}
use Rattle.wb_grammar_theory.specs.Items.{IsViablePrefix, SameKernel, start, start_item}
use Rattle.wb_grammar_theory.specs.Productions.{end_of}
use Rattle.wb_grammar_theory.specs.States.{AreStates, IsNext}
use Rattle.wb_grammar_theory.proofs.FlowLemmas.{same_back, same_then}
use Rattle.wb_grammar_theory.proofs.ValidLemmas.{before_last}
use Rattle.wb_items.specs.declared.transitions.Move.{Move}
use Rattle.wb_items.specs.Kernels.{KernelsView, ListsKernel, count_of, prefix_of}
use Rattle.wb_items.specs.Table.{IsRow, Leads}
use Rattle.wb_compose_theory.specs.Numbered.{IsHostKernel}
use Rattle.wb_compose_theory.specs.Renamings.{renamed, renamed_item}
use Rattle.wb_determinism_theory.specs.Beside.{AreFound, HasNumberOf}
use Rattle.wb_determinism_theory.proofs.FoundLemmas.{found_all}
use Rattle.wb_determinism_kernels.specs.declared.numbers.Numbers.{Numbers}
use Rattle.wb_determinism_kernels.specs.declared.starts.Start.{Start}
use Rattle.wb_determinism_kernels.specs.Given.{IsGiven}
use Rattle.wb_determinism_kernels.specs.NewKernels.{AreNewKernels, IndexView, IsStart, NewKernelsView, count_with, prefix_with}
use Rattle.wb_determinism_kernels.specs.NewKernels.{prefixes_beside}
use Rattle.wb_determinism_kernels.specs.Numbers.{image_or, phi_by, up_by}
use Rattle.wb_determinism_kernels.specs.Inner.Following.{AreFollowed}
use Rattle.wb_determinism_kernels.specs.Inner.Growing.{AreFoundSoFar, Grows}
use Rattle.wb_determinism_kernels.specs.Inner.Starting.{AreStarted}
use Rattle.wb_determinism_kernels.proofs.CrossingLemmas.{crossed_kernel, crossing_there}
use Rattle.wb_determinism_kernels.proofs.GrowLemmas.{leads_grows}
use Rattle.wb_determinism_kernels.proofs.HostLemmas.{renamed_once}
use Rattle.wb_determinism_kernels.proofs.NumberLemmas.{contains_map, map_contains}
use Rattle.wb_determinism_kernels.proofs.PrefixLemmas.{beside_at, beside_below, beside_is, host_at, host_is}

-- what stands for itself where the table ends
past_images : (m : Numbers) (images : List (Option ℕ)) (t : ℕ) → length images ≤ t → phi_by m images t ≡ t
past_images m images t le = by (slice_get images t) refl
  where
    by : (found : Option (Option ℕ)) → slice_get images t ≡ found → image_or m found t ≡ t
    by None e = refl
    by (Some u) e = absurd (let w = slice_get_within images t u e in omega (arith, w, le))

-- starts stay where more is found
pub started_grows : (host : KernelsView) (k : GrammarView) (m : Numbers) (images : List (Option ℕ)) (old new : IndexView) (starts : List
    Start)
    (n : ℕ) → Grows host k (up_by m) old new → AreFoundSoFar host k (up_by m) new → AreStarted host k m images old starts n →
    AreStarted host k m images new starts n
started_grows host k m images old new starts n grows so_far h = record {
  so_far = so_far;
  starts_are = λ i start at. (let z = h.starts_are i start at in record {
    marker = z.marker;
    hole = z.hole;
    before = z.before;
    has = z.has;
    begins = z.begins;
    leads = leads_grows old new grows z.leads;
  });
  started = λ marker s prefix lt below at ne viable. h.started marker s prefix lt below
      (subst (λ z. slice_get (prefixes_beside (up_by m) host old.steps) s ≡ Some z) (sym (host_is (up_by m) host new.steps s prefix below
      at))
      (host_at (up_by m) host old.steps s below)) ne viable;
}

module _ {host : KernelsView} {k : GrammarView} {m : Numbers} {images : List (Option ℕ)} (given : IsGiven host k m images)
    (new : NewKernelsView) (started : AreStarted host k m images new.index new.starts (length images))
    (followed : AreFollowed host k (up_by m) new.index new.closures new.moves)
    (all : length new.closures ≡ length new.index.kernels) where
  abbrev own : ℕ
  own = count_of host

  abbrev count : ℕ
  count = count_with host k m images new

  abbrev prefix : ℕ → List Symbol
  prefix = prefix_with host k m images new

  abbrev prefixes : List (List Symbol)
  prefixes = prefixes_beside (up_by m) host new.index.steps

  at : (s : ℕ) → s < count → slice_get prefixes s ≡ Some (prefix s)
  at s lt = beside_at (up_by m) host new.index.steps s lt

  lifted : (s : ℕ) → s < own → prefix s ≡ map (renamed (up_by m)) (prefix_of host s)
  lifted s lt = beside_is (up_by m) host new.index.steps s _ (host_at (up_by m) host new.index.steps s lt)

  host_kernel : (s : ℕ) → s < own → IsHostKernel host.grammar k (up_by m) (prefix s) (prefix_of host s)
  host_kernel s lt = subst (λ z. IsHostKernel host.grammar k (up_by m) z (prefix_of host s)) (sym (lifted s lt))
      (given.beside.kernels (prefix_of host s) (given.kernels.states.prefixes s lt))

  next : {s : ℕ} {x : Symbol} {n : ℕ} → Leads k prefixes s x n → IsNext k count prefix s x n
  next {s} {x} {n} l =
      let here : prefix s ≡ l.prefix = beside_is (up_by m) host new.index.steps s l.prefix l.at in
      let there : prefix n ≡ l.other = beside_is (up_by m) host new.index.steps n l.other l.to in (
        beside_below (up_by m) host new.index.steps s l.prefix l.at,
        beside_below (up_by m) host new.index.steps n l.other l.to,
        subst (λ p. IsViablePrefix k (p ++ x ∷ [])) (sym here) l.viable,
        subst (λ p. SameKernel k (prefix n) (p ++ x ∷ [])) (sym here)
            (subst (λ p. SameKernel k p (l.prefix ++ x ∷ [])) (sym there) l.same),
      )

  -- a new number's kernel
  record IsNewAt (s : ℕ) : Type 0 where
    i : ℕ
    is : s ≡ own + i
    below : i < length new.index.kernels
    kernel : List Item
    there : slice_get new.index.kernels i ≡ Some kernel
    lists : ListsKernel k (prefix s) kernel

  new_at : (s : ℕ) → own ≤ s → s < count → IsNewAt s
  new_at s ge lt =
      let i = s - own in
      let e : s ≡ own + i = omega (arith, ge) in
      let len = started.so_far.len in
      let below : i < length new.index.kernels = omega (arith, lt, e, len) in
      let (kernel, there) = at_within new.index.kernels i below in
      record {
        i = i;
        is = e;
        below = below;
        kernel = kernel;
        there = there;
        lists = started.so_far.exact i (prefix s) kernel (subst (λ z. slice_get prefixes z ≡ Some (prefix s)) e (at s lt)) there;
      }

  -- a list of the host's items is one in its numbers
  lower : (items : List Item) → ((item : Item) → Contains items item → (i : Item) × (item ≡ renamed_item (up_by m) i)) →
      (down : List Item) × (map (renamed_item (up_by m)) down ≡ items)
  lower [] f = ([], refl)
  lower (item ∷ items) f =
      let (i, i_is) = f item (contains_first item items) in
      let (down, is) = lower items (λ other has. f other (contains_later item other items has)) in
      (i ∷ down, λ j. sym i_is j ∷ is j)

  -- no new kernel is the host's
  apart : (s s' : ℕ) → s < own → own ≤ s' → s' < count → SameKernel k (prefix s) (prefix s') → ⊥
  apart s s' below ge lt same =
      let z = new_at s' ge lt in
      let hk = host_kernel s below in
      let (down, is) = lower z.kernel (λ item has. hk.within item ((same item).1 ((z.lists item).0 has))) in
      started.so_far.foreign z.i z.kernel z.there down (prefix_of host s) is (given.kernels.states.prefixes s below) (λ i. (
        λ has. (hk.same i).1 ((same (renamed_item (up_by m) i)).1 ((z.lists (renamed_item (up_by m) i)).0
            (subst (λ c. Contains c (renamed_item (up_by m) i)) is (map_contains (renamed_item (up_by m)) down i has)))),
        λ has.
            let (j, j_is, there) = contains_map (renamed_item (up_by m)) down (renamed_item (up_by m) i)
            (subst (λ c. Contains c (renamed_item (up_by m) i)) (sym is)
            ((z.lists (renamed_item (up_by m) i)).1 ((same (renamed_item (up_by m) i)).0 ((hk.same i).0 has)))) in
            subst (Contains down) (sym (renamed_once m i j j_is)) there,
      ))

  once : (s s' : ℕ) → s < count → s' < count → SameKernel k (prefix s) (prefix s') → s ≡ s'
  once s s' lt lt' same = by (cases_lt s own) (cases_lt s' own)
    where
      by : (s < own) ⊎ (own ≤ s) → (s' < own) ⊎ (own ≤ s') → s ≡ s'
      by (inl below) (inl below') =
          let hk = host_kernel s below in
          let hk' = host_kernel s' below' in
          given.kernels.states.each_once s s' below below' (λ i. (
            λ has. (hk'.same i).1 ((same (renamed_item (up_by m) i)).0 ((hk.same i).0 has)),
            λ has. (hk.same i).1 ((same (renamed_item (up_by m) i)).1 ((hk'.same i).0 has)),
          ))
      by (inl below) (inr ge) = absurd (apart s s' below ge lt' same)
      by (inr ge) (inl below) = absurd (apart s' s below ge lt (same_back same))
      by (inr ge) (inr ge') =
          let z = new_at s ge lt in
          let z' = new_at s' ge' lt' in
          let i_is = started.so_far.once z.i z'.i z.kernel z'.kernel z.there z'.there (λ item. (
            λ has. (z'.lists item).1 ((same item).0 ((z.lists item).0 has)),
            λ has. (z.lists item).1 ((same item).1 ((z'.lists item).0 has)),
          )) in
          let is = z.is in
          let is' = z'.is in
          omega (arith, is, is', i_is)

  -- what leads from a new number
  row_at : (i : ℕ) (row : List Move) → slice_get new.moves i ≡ Some row → (closure : List Item) ×
      (slice_get new.closures i ≡ Some closure) × IsRow k prefixes closure (own + i) row
  row_at i row there =
      let w = slice_get_within new.moves i row there in
      let (closure, c) = at_within new.closures i (let e = followed.len in omega (arith, w, e)) in
      (closure, c, followed.moves i closure row c there)

  leads_on : (i : ℕ) (row : List Move) (x : Symbol) → slice_get new.moves i ≡ Some row → own + i < count →
      IsViablePrefix k (prefix (own + i) ++ x ∷ []) →
      (n : ℕ) × Contains row (record { symbol = x; state = n }) × Leads k prefixes (own + i) x n
  leads_on i row x there lt (item, t, v) =
      let (closure, c, r) = row_at i row there in
      let (from, rest, has, is) = before_last v (prefix (own + i)) x refl in
      let listed = (followed.exact i (prefix (own + i)) closure (at (own + i) lt) c from).1 has in
      let (n, in_row) = r.complete from x rest listed is in
      (n, in_row, r.sound (record { symbol = x; state = n }) in_row)

  onward : (s : ℕ) → own ≤ s → s < count → (x : Symbol) → IsViablePrefix k (prefix s ++ x ∷ []) →
      HasNumberOf host.grammar k (up_by m) (phi_by m images) count prefix (prefix s ++ x ∷ [])
  onward s ge lt x viable =
      let z = new_at s ge lt in
      let below = z.below in
      let (row, there) = at_within new.moves z.i (let e = followed.len in omega (arith, e, all, below)) in
      let (n, in_row, l) = leads_on z.i row x there (let e = z.is in omega (arith, lt, e))
      (subst (λ c. IsViablePrefix k (prefix c ++ x ∷ [])) z.is viable) in
      let y = next l in
      (n, y.1, subst (λ c. SameKernel k (prefix n) (prefix c ++ x ∷ [])) (sym z.is) y.3)

  start_for : (marker s : ℕ) → s < own → phi_by m images marker ≢ marker → IsViablePrefix k (prefix s ++ Terminal marker ∷ []) →
      (start : Start) × Contains new.starts start × (start.marker ≡ marker)
  start_for marker s below ne viable = by (cases_lt marker (length images))
    where
      by : (marker < length images) ⊎ (length images ≤ marker) → (start : Start) × Contains new.starts start × (start.marker ≡ marker)
      by (inl lt) = started.started marker s (prefix s) lt below (at s (omega (arith, below))) ne viable
      by (inr past) = absurd (ne (past_images m images marker past))

  crossed : (s : ℕ) → s < own → (marker : ℕ) → phi_by m images marker ≢ marker → IsViablePrefix k (prefix s ++ Terminal marker ∷ []) →
      HasNumberOf host.grammar k (up_by m) (phi_by m images) count prefix (prefix s ++ Terminal marker ∷ [])
  crossed s below marker ne viable =
      let (one, listed, is) = start_for marker s below ne viable in
      go one is (started.starts_are listed.0 one (place_in new.starts one listed))
    where
      go : (one : Start) → one.marker ≡ marker → IsStart host k m images prefixes one →
          HasNumberOf host.grammar k (up_by m) (phi_by m images) count prefix (prefix s ++ Terminal marker ∷ [])
      go one is z =
          let y = next z.leads in
          let (item, c) = crossing_there given (prefix s) (prefix_of host s) (host_kernel s below) marker ne viable in
          let up_is : (up_by m).terminal one.hole ≡ phi_by m images marker = z.hole ∙ ap (phi_by m images) is in
          let first = crossed_kernel given (prefix one.before) (prefix_of host one.before) (host_kernel one.before z.before) marker ne
          one.hole one.production up_is z.has z.begins in
          let two = crossed_kernel given (prefix s) (prefix_of host s) (host_kernel s below) marker ne c.hole c.p c.up_is c.has c.begins in
          let there : SameKernel k (prefix one.before ++ Terminal marker ∷ []) (prefix s ++ Terminal marker ∷ []) = (λ i. (
            λ has. (two i).1 ((first i).0 has),
            λ has. (first i).1 ((two i).0 has),
          )) in
          (one.number, y.1, same_then (subst (λ t. SameKernel k (prefix one.number) (prefix one.before ++ Terminal t ∷ [])) is y.3) there)

  found : AreFound host.grammar k (up_by m) (phi_by m images) own count prefix (prefix_of host)
  found = record {
    first = record {
      within = omega arith;
      host = λ s lt. given.kernels.states.prefixes s lt;
      lifted = lifted;
      all_host = given.kernels.states.all;
    };
    crossed = crossed;
    onward = onward;
  }

  states : AreStates k count prefix (IsNext k count prefix)
  states = record {
    first = (let (s, lt, same) = given.kernels.states.all [] (zero_viable host.grammar) in
        lifted 0 (omega (arith, lt)) ∙ ap (map (renamed (up_by m))) given.kernels.states.first);
    prefixes = λ s lt. started.so_far.viable s (prefix s) (at s lt);
    each_once = once;
    all = λ p viable. found_all given.beside given.live found viable.2;
    next = λ s x n. (λ y. y, λ y. y);
  }
    where
      zero_viable : (g : GrammarView) → IsViablePrefix g []
      zero_viable g = (start_item g, end_of g, start)

  -- all of it
  pub whole : AreNewKernels host k m images new
  whole = record {
    found = found;
    states = states;
    kernels_len = started.so_far.len;
    closures_len = all ∙ started.so_far.len;
    moves_len = followed.len ∙ (all ∙ started.so_far.len);
    kernels = λ i kernel there. started.so_far.exact i (prefix (own + i)) kernel (at (own + i)
        (let w = slice_get_within new.index.kernels i kernel there in let e = started.so_far.len in omega (arith, w, e))) there;
    in_order = started.so_far.sorted;
    closures = λ i closure there. followed.exact i (prefix (own + i)) closure (at (own + i)
        (let w = slice_get_within new.closures i closure there in let e = started.so_far.len in omega (arith, w, e, all))) there;
    moves = λ i row there x n.
        let lt : own + i < count = (let w = slice_get_within new.moves i row there in let e = started.so_far.len in let f = followed.len in
        omega (arith, w, e, f, all)) in (
          λ c. (let (closure, at_c, r) = row_at i row there in next (r.sound (record { symbol = x; state = n }) c)),
          λ y.
              let (n', in_row, l) = leads_on i row x there lt (y.2) in
              let y' = next l in
              let same : n' ≡ n = once n' n (y'.1) (y.1) (same_then y'.3 (same_back y.3)) in
              subst (λ c. Contains row (record { symbol = x; state = c })) same in_row,
        );
    reached = λ i lt. (let f = started.so_far.following i lt in record {
      from = f.from;
      symbol = f.symbol;
      before = f.before;
      leads = next f.leads;
    });
    starts = started.starts_are;
    started = λ marker s below ne viable. start_for marker s below ne viable;
  }
