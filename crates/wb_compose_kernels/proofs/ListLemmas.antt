-- The kernels of a union that are listed one after another.
use Rattle.std.proofs.Common.{◌+◌, ◌<◌, ◌≤◌, ◌∙◌, ◌∷◌, ◌++◌, ◌≡◌, ◌⊎◌, List}
use Rattle.std.proofs.Common.{[], ap, arith, inl, inr, length, length-append, map, refl, subst}
use Rattle.std.proofs.Common.{sym, ℕ, zero, suc, Some}
use Rattle.std.specs.Prelude.{◌↔◌, Contains, slice_get}
use Rattle.std.proofs.lemmas.Bool.{cases_lt}
use Rattle.std.proofs.lemmas.Option.{slice_get_within}
use Rattle.wb_lemmas.proofs.Members.{contains_cases, contains_first, contains_later}
use Rattle.wb_lemmas.proofs.Places.{at_once, at_push, push_keeps, push_last}
use Rattle.wb_base.specs.declared.symbol.Symbol.{Symbol}
use Rattle.wb_base.specs.Grammar.{GrammarView}
use Rattle.wb_grammar_theory.specs.declared.item.Item.{Item}
use Rattle.wb_grammar_theory.specs.Items.{IsKernelItem}
use Rattle.wb_grammar_theory.specs.States.{IsNext}
use Rattle.wb_items.specs.Kernels.{AreInOrder, ListsKernel, count_of, prefix_of}
use Rattle.wb_items.specs.Table.{SameItems}
use Rattle.wb_recheck_theory.specs.KernelLists.{IsKernelOf}
use Rattle.wb_compose_theory.specs.Homes.{Home, IsListed, of, of_host}
use Rattle.wb_compose_theory.specs.Renamings.{renamed, renamed_item}
use Rattle.wb_compose_theory_grammar.specs.UnitedWorlds.{united}
use Rattle.wb_compose_theory_kernels.proofs.NameLemmas.{fits}
use Rattle.wb_compose_theory_kernels.proofs.NumberLemmas.{taken_no_hole}
use Rattle.wb_compose_theory_kernels.proofs.TakenLemmas.{taken_once}
use Rattle.wb_compose_theory_kernels.specs.Kernels.{AreKernelNumbers, LeadsAt}
use Rattle.wb_compose_theory_kernels.specs.Parts.{grammar_at, into_union}
use Rattle.wb_compose_theory_kernels.specs.Taken.{AreOneAt, AreTakenOnce}
use Rattle.wb_compose_kernels.proofs.LeadLemmas.{free_before, from_host, host_no_hole, move_between, no_hole_before}
use Rattle.wb_compose_kernels.proofs.OrderLemmas.{items_rise, same_in_order}
use Rattle.wb_compose_kernels.proofs.PartLemmas.{HasPart, IsLedFrom, kernel_numbers, new_kernel, new_led, new_past, new_taken}
use Rattle.wb_compose_kernels.proofs.PartLemmas.{zero_taken}
use Rattle.wb_compose_kernels.specs.declared.blocks.Blocks.{Blocks}
use Rattle.wb_compose_kernels.specs.declared.splice.Splice.{Splice}
use Rattle.wb_compose_kernels.specs.Lent.{AreSpliceable}
use Rattle.wb_compose_kernels.specs.Inner.Counts.{new_count_at, numbers_in, prefix_at}
use Rattle.wb_compose_kernels.specs.Inner.Blocks.{HasOwnBy, IsHoleBy, blocks_at, names_by}
use Rattle.wb_compose_kernels.specs.Inner.Given.{IsGiven}
use Rattle.wb_compose_kernels.specs.Inner.Lists.{AreSoFar, HasNoHoleAt, HasNoneLike, HostNext}
use Rattle.wb_compose_kernels.specs.Inner.Lists.{IsDone, IsFromAt, IsHostDone, IsItemAt, IsLedTo}
use Rattle.wb_compose_kernels.specs.Inner.Lists.{IsTakenAt, Keeps, NewNext}

pub keeps_push : (old : List (List Item)) (new : List Item) → Keeps old (old ++ new ∷ [])
keeps_push old new u list at = push_keeps old new u list at

pub keeps_none : (old : List (List Item)) → Keeps old old
keeps_none old u list at = at

pub keeps_then : (one two three : List (List Item)) → Keeps one two → Keeps two three → Keeps one three
keeps_then one two three p q u list at = q u list (p u list at)

-- an item of a list in the union's numbers
pub mapped : (b : Blocks) (items : List Item) (item : Item) → Contains (map (renamed_item (names_by b)) items) item →
    (own : Item) × Contains items own × (item ≡ renamed_item (names_by b) own)
mapped b [] item has = absurd (let w = has.1 in omega (arith, w))
mapped b (x ∷ items) item has = elim (contains_cases (renamed_item (names_by b) x) item (map (renamed_item (names_by b)) items) has) [
  | inl is ↦ (x, contains_first x items, sym is)
  | inr more ↦ (let (own, there, is) = mapped b items item more in (own, contains_later x own items there, is))
]

pub map_has : (b : Blocks) (items : List Item) (own : Item) → Contains items own →
    Contains (map (renamed_item (names_by b)) items) (renamed_item (names_by b) own)
map_has b [] own has = absurd (let w = has.1 in omega (arith, w))
map_has b (x ∷ items) own has = elim (contains_cases x own items has) [
  | inl is ↦ subst (λ z. Contains (map (renamed_item (names_by b)) (x ∷ items)) (renamed_item (names_by b) z)) is
      (contains_first (renamed_item (names_by b) x) (map (renamed_item (names_by b)) items))
  | inr more ↦ contains_later (renamed_item (names_by b) x) (renamed_item (names_by b) own) (map (renamed_item (names_by b)) items)
      (map_has b items own more)
]

module _ (s : Splice) (ok : AreSpliceable s) where
  -- a list stays what it is
  pub from_keeps : {old new : List (List Item)} {u : ℕ} {home : Home} {k : ℕ} → Keeps old new → IsFromAt s ok old u home k →
      IsFromAt s ok new u home k
  from_keeps keeps f = record { kernel = f.kernel; at = keeps _ f.kernel f.at; exact = f.exact }

  kernel_keeps : {old new : List (List Item)} {u : ℕ} {prefix : List Symbol} → Keeps old new →
      IsKernelOf (united s.host.now ok.extensible ok.pieces) old u prefix → IsKernelOf (united s.host.now ok.extensible ok.pieces) new u
      prefix
  kernel_keeps keeps f = record { kernel = f.kernel; at = keeps _ f.kernel f.at; exact = f.exact }

  led_keeps : (old new : List (List Item)) (v : ℕ) → Keeps old new → IsLedTo s ok old v → IsLedTo s ok new v
  led_keeps old new v keeps led = record {
    from = led.from;
    symbol = led.symbol;
    before = led.before;
    between = record {
      prefix = led.between.prefix;
      viable = led.between.viable;
      before = kernel_keeps keeps led.between.before;
      after = kernel_keeps keeps led.between.after;
    };
  }

  -- lists of one kernel have the same items
  same_from : {kernels : List (List Item)} {u v : ℕ} {home : Home} {k : ℕ} → (one : IsFromAt s ok kernels u home k) →
      (other : IsFromAt s ok kernels v home k) → SameItems one.kernel other.kernel
  same_from one other item = (λ h. (other.exact item).1 ((one.exact item).0 h), λ h. (one.exact item).1 ((other.exact item).0 h))

  -- so it has one list
  pub one_list : {Done : Home → ℕ → Type 0} {kernels : List (List Item)} → AreSoFar s ok Done kernels → (u v : ℕ) (home : Home) (k : ℕ) →
      IsFromAt s ok kernels u home k → IsFromAt s ok kernels v home k → u ≡ v
  one_list h u v home k one other = h.apart u v one.kernel other.kernel one.at other.at (same_from one other)

  -- nothing is listed, and more is gone through
  pub so_far_stays : (Done More : Home → ℕ → Type 0) (kernels : List (List Item)) → AreSoFar s ok Done kernels →
      ((home : Home) (k : ℕ) → Done home k → More home k) →
      ((home : Home) (k : ℕ) → IsTakenAt s ok home k → More home k → Done home k ⊎ ((u : ℕ) × IsFromAt s ok kernels u home k)) →
      AreSoFar s ok More kernels
  so_far_stays Done More kernels h weaken split = record {
    first = h.first;
    sound = λ u lt. (let (home, k, taken, done, from) = h.sound u lt in (home, k, taken, weaken home k done, from));
    all = λ home k taken more. elim (split home k taken more) [ inl done ↦ h.all home k taken done | inr there ↦ there ];
    apart = h.apart;
    in_order = h.in_order;
    reached = h.reached;
  }

  -- a kernel that is new is listed
  pub so_far_push : (Done More : Home → ℕ → Type 0) (old : List (List Item)) (new : List Item) (home : Home) (k : ℕ) →
      AreSoFar s ok Done old → ((h : Home) (j : ℕ) → Done h j → More h j) →
      ((h : Home) (j : ℕ) → IsTakenAt s ok h j → More h j → Done h j ⊎ ((h ≡ home) × (j ≡ k))) → More home k → IsTakenAt s ok home k →
      ((item : Item) → Contains new item ↔ IsItemAt s ok home k item) → AreInOrder new →
      ((u : ℕ) (other : List Item) → slice_get old u ≡ Some other → ¬ SameItems other new) →
      (0 < length old → IsLedTo s ok (old ++ new ∷ []) (length old)) → (length old ≡ 0 → (home ≡ of_host) × (k ≡ 0)) →
      AreSoFar s ok More (old ++ new ∷ [])
  so_far_push Done More old new home k h weaken split more taken exact order fresh led starts = record {
    first = λ some. elim (cases_lt 0 (length old)) [
      | inl pos ↦ from_keeps (keeps_push old new) (h.first pos)
      | inr empty ↦ (let e : length old ≡ 0 = omega (arith, empty) in let (home_is, k_is) = starts e in
          subst (λ u. IsFromAt s ok (old ++ new ∷ []) u of_host 0) e
          (subst (λ z. IsFromAt s ok (old ++ new ∷ []) (length old) of_host z) k_is
          (subst (λ z. IsFromAt s ok (old ++ new ∷ []) (length old) z k) home_is last)))
    ];
    sound = λ u lt. elim (cases_lt u (length old)) [
      | inl before ↦ (let (other, j, is, done, from) = h.sound u before in (
        other,
        j,
        is,
        weaken other j done,
        from_keeps (keeps_push old
            new) from,
      ))
      | inr past ↦ (home, k, taken, more, subst (λ z. IsFromAt s ok (old ++ new ∷ []) z home k) (last_is u past lt) last)
    ];
    all = λ other j is done. elim (split other j is done) [
      | inl before ↦ (let (u, from) = h.all other j is before in (u, from_keeps (keeps_push old new) from))
      | inr (other_is, j_is) ↦ (
        length old,
        subst (λ z. IsFromAt s ok (old ++ new ∷ []) (length old) z j) (sym other_is)
            (subst (IsFromAt s ok (old ++ new ∷ []) (length old) home) (sym j_is) last),
      )
    ];
    apart = λ u v one other at there same. elim (at_push old new one u at) [
      | inl before ↦ elim (at_push old new other v there) [
        | inl before' ↦ h.apart u v one other before before' same
        | inr last' ↦ absurd (fresh u one before (subst (SameItems one) (sym last'.1) same))
      ]
      | inr last ↦ elim (at_push old new other v there) [
        | inl before' ↦ absurd (fresh v other before' (subst (SameItems other) (sym last.1) (λ item. ((same item).1, (same item).0))))
        | inr last' ↦ last.0 ∙ sym last'.0
      ]
    ];
    in_order = λ u list at. elim (at_push old new list u at) [
      | inl before ↦ h.in_order u list before
      | inr last ↦ subst AreInOrder last.1 order
    ];
    reached = λ v lt. elim (cases_lt (suc v) (length old)) [
      | inl before ↦ led_keeps old (old ++ new ∷ []) (suc v) (keeps_push old new) (h.reached v before)
      | inr past ↦ (let e = last_is (suc v) past lt in subst (IsLedTo s ok (old ++ new ∷ [])) e (led (omega (arith, e))))
    ];
  }
    where
      last : IsFromAt s ok (old ++ new ∷ []) (length old) home k
      last = record { kernel = new; at = push_last old new; exact = exact }

      last_is : (u : ℕ) → length old ≤ u → u < length (old ++ new ∷ []) → length old ≡ u
      last_is u past lt = omega (arith, past, lt, length-append {A = List Item} old (new ∷ []))

  -- the list in the union's numbers of a kernel without an item of a hole's production
  module _ (home : Home) (k : ℕ) (kernel : List Item)
      (exact : (item : Item) → Contains kernel item ↔ IsKernelItem (grammar_at s.host.now ok.extensible ok.pieces home) (prefix_at s home
      k) item)
    where
      abbrev list : List Item
      list = map (renamed_item (into_union s.host.now ok.extensible ok.pieces home)) kernel

      pub list_exact : (item : Item) → Contains list item ↔ IsItemAt s ok home k item
      list_exact item = (
        λ has. (let (own, there, is) = mapped (blocks_at s ok home) kernel item has in (own, (exact own).0 there, is)),
        λ (own, there, is). subst (Contains list) (sym is) (map_has (blocks_at s ok home) kernel own ((exact own).1 there)),
      )

      pub free_items : HasNoHoleAt s ok home k → (item : Item) → Contains kernel item →
          ¬ IsHoleBy (blocks_at s ok home).productions item.production
      free_items free item has hole = free item ((exact item).0 has) hole

      pub list_in_order : HasNoHoleAt s ok home k → AreInOrder kernel → AreInOrder list
      list_in_order free order =
          items_rise (blocks_at s ok home) (fits s.host.now ok.extensible ok.pieces ok.certified.are_pieces home).productions kernel
          (free_items free) order

      -- a list with the same items is of one kernel
      one_kernel : {kernels : List (List Item)} {u : ℕ} {other : Home} {j : ℕ} (from : IsFromAt s ok kernels u other j) →
          SameItems from.kernel list → AreOneAt s.host.now ok.extensible ok.pieces (numbers_in s) other j home k
      one_kernel from same item = (
        λ h. (list_exact item).0 ((same item).0 ((from.exact item).1 h)),
        λ h. (from.exact item).0 ((same item).1 ((list_exact item).1 h)),
      )

  module _ (given : IsGiven s) where
    abbrev numbered : AreKernelNumbers s.host.now ok.extensible ok.pieces (numbers_in s)
    numbered = kernel_numbers s ok given.kernels

    abbrev once : AreTakenOnce s.host.now ok.extensible ok.pieces (numbers_in s)
    once = taken_once s.host.now ok.extensible ok.pieces ok.certified (numbers_in s) numbered

    abbrev union_grammar : GrammarView
    union_grammar = united s.host.now ok.extensible ok.pieces

    -- a kernel is led to from one that is listed
    led_from : (old : List (List Item)) (new : List Item) (home : Home) (k from : ℕ) (x : Symbol) (u : ℕ) →
        IsListed (length ok.pieces) home → LeadsAt s.host.now ok.extensible ok.pieces (numbers_in s) home from x k →
        HasNoHoleAt s ok home k → ((item : Item) → Contains new item ↔ IsItemAt s ok home k item) → IsFromAt s ok old u home from →
        IsLedTo s ok (old ++ new ∷ []) (length old)
    led_from old new home k from x u listed leads free exact at = record {
      from = u;
      symbol = renamed (into_union s.host.now ok.extensible ok.pieces home) x;
      before = slice_get_within old u at.kernel at.at;
      between = move_between s.host.now ok.extensible ok.pieces ok.certified (numbers_in s) numbered (old ++ new ∷ []) u (length old) home
          from x k listed leads
          (free_before s.host.now ok.extensible ok.pieces ok.certified (numbers_in s) numbered home from x k listed leads free)
          (from_keeps (keeps_push old new) at) (record { kernel = new; at = push_last old new; exact = exact });
    }

    no_hole_at : (home : Home) (k from : ℕ) (x : Symbol) → IsListed (length ok.pieces) home →
        LeadsAt s.host.now ok.extensible ok.pieces (numbers_in s) home from x k → HasNoHoleAt s ok home from
    no_hole_at home k from x listed leads =
        no_hole_before s.host.now ok.extensible ok.pieces ok.certified (numbers_in s) numbered home from x k listed leads

    -- the next kernel of the host is one after a hole
    pub host_passed : (old : List (List Item)) (n u : ℕ) → AreSoFar s ok (IsHostDone s ok n) old → ¬ HasNoHoleAt s ok of_host n →
        HostNext s ok old old n u
    host_passed old n u h hole = record {
      keeps = keeps_none old;
      so_far = so_far_stays (IsHostDone s ok n) (IsHostDone s ok (n + 1)) old h weaken split;
      from = λ free. absurd (hole free);
    }
      where
        weaken : (home : Home) (k : ℕ) → IsHostDone s ok n home k → IsHostDone s ok (n + 1) home k
        weaken of_host k lt = omega (arith, lt)
        weaken (of f) k done = done

        split : (home : Home) (k : ℕ) → IsTakenAt s ok home k → IsHostDone s ok (n + 1) home k →
            IsHostDone s ok n home k ⊎ ((u : ℕ) × IsFromAt s ok old u home k)
        split of_host k taken lt = elim (cases_lt k n) [
          | inl before ↦ inl before
          | inr past ↦ absurd (hole (subst (HasNoHoleAt s ok of_host) (let e : k ≡ n = omega (arith, past, lt) in e) taken.1))
        ]
        split (of f) k taken done = absurd done

    -- or it is listed
    pub host_listed : (old : List (List Item)) (n : ℕ) (kernel : List Item) → n < count_of s.kernels.now →
        ListsKernel s.kernels.now.grammar (prefix_of s.kernels.now n) kernel → AreInOrder kernel →
        AreSoFar s ok (IsHostDone s ok n) old → HasNoHoleAt s ok of_host n →
        HostNext s ok old (old ++ map (renamed_item (into_union s.host.now ok.extensible ok.pieces of_host)) kernel ∷ []) n (length old)
    host_listed old n kernel below lists order h free = record {
      keeps = keeps_push old new;
      so_far = so_far_push (IsHostDone s ok n) (IsHostDone s ok (n + 1)) old new of_host n h weaken split (omega arith) taken exact
          (list_in_order of_host n kernel kernel_exact free order) fresh led starts;
      from = λ _. record { kernel = new; at = push_last old new; exact = exact };
    }
      where
        new : List Item
        new = map (renamed_item (into_union s.host.now ok.extensible ok.pieces of_host)) kernel

        kernel_exact : (item : Item) → Contains kernel item ↔
            IsKernelItem (grammar_at s.host.now ok.extensible ok.pieces of_host) (prefix_at s of_host n) item
        kernel_exact = subst (λ (g : GrammarView). ListsKernel g (prefix_of s.kernels.now n) kernel) ok.of_host lists

        exact : (item : Item) → Contains new item ↔ IsItemAt s ok of_host n item
        exact = list_exact of_host n kernel kernel_exact

        taken : IsTakenAt s ok of_host n
        taken = (below, free)

        weaken : (home : Home) (k : ℕ) → IsHostDone s ok n home k → IsHostDone s ok (n + 1) home k
        weaken of_host k lt = omega (arith, lt)
        weaken (of f) k done = done

        split : (home : Home) (k : ℕ) → IsTakenAt s ok home k → IsHostDone s ok (n + 1) home k →
            IsHostDone s ok n home k ⊎ ((home ≡ of_host) × (k ≡ n))
        split of_host k is lt = elim (cases_lt k n) [ inl before ↦ inl before | inr past ↦ inr (refl, omega (arith, past, lt)) ]
        split (of f) k is done = absurd done

        fresh : (u : ℕ) (other : List Item) → slice_get old u ≡ Some other → ¬ SameItems other new
        fresh u other at same = go (h.sound u (slice_get_within old u other at))
          where
            go : (home : Home) × (k : ℕ) × IsTakenAt s ok home k × IsHostDone s ok n home k × IsFromAt s ok old u home k → ⊥
            go (of_host, k, is, lt, from) =
                let e = once.same_number of_host k n is taken (one_kernel of_host n kernel kernel_exact from
                (subst (λ z. SameItems z new) (at_once old u other from.kernel at from.at) same)) in
                omega (arith, e, lt)
            go (of f, k, is, done, from) = done

        led_at : (m : ℕ) → n ≡ m → 0 < length old → IsLedTo s ok (old ++ new ∷ []) (length old)
        led_at zero n_is some =
            let (home, k, is, done, from) = h.sound 0 some in absurd (none home k done n_is)
          where
            none : (home : Home) (k : ℕ) → IsHostDone s ok n home k → n ≡ 0 → ⊥
            none of_host k lt e = omega (arith, lt, e)
            none (of f) k done e = done
        led_at (suc m) n_is some =
            let r = given.reached m (omega (arith, n_is, below)) in
            let before = r.before in
            let leads : LeadsAt s.host.now ok.extensible ok.pieces (numbers_in s) of_host r.from r.symbol n =
            subst (λ (g : GrammarView). IsNext g (count_of s.kernels.now) (prefix_of s.kernels.now) r.from r.symbol n) ok.of_host
            (subst (IsNext s.kernels.now.grammar (count_of s.kernels.now) (prefix_of s.kernels.now) r.from r.symbol) (sym n_is) r.leads) in
            let (u, from) = h.all of_host r.from (leads.0, no_hole_at of_host n r.from r.symbol tt leads) (omega (arith, before, n_is)) in
            led_from old new of_host n r.from r.symbol u tt leads free exact from

        led : 0 < length old → IsLedTo s ok (old ++ new ∷ []) (length old)
        led = led_at n refl

        starts : length old ≡ 0 → (of_host ≡ of_host) × (n ≡ 0)
        starts empty = (
          refl,
          elim (cases_lt 0 n) [
            | inl pos ↦ (let (u, from) = h.all of_host 0 (zero_taken s ok given.kernels) pos in
                let w = slice_get_within old u from.kernel from.at in absurd (omega (arith, w, empty)))
            | inr none ↦ omega (arith, none)
          ],
        )

    -- the next new kernel of an extension was listed for another, or is listed
    module _ (old : List (List Item)) (e n : ℕ) (kernel : List Item) (less : e < length ok.pieces) (below : n < new_count_at s e)
        (part : HasPart s ok e) (at : slice_get part.part.new.now.index.kernels n ≡ Some kernel)
        (h : AreSoFar s ok (IsDone s ok e n) old) where
      abbrev k : ℕ
      k = count_of s.kernels.now + n

      abbrev new : List Item
      new = map (renamed_item (into_union s.host.now ok.extensible ok.pieces (of e))) kernel

      taken : IsTakenAt s ok (of e) k
      taken = new_taken s ok given.kernels e n less below

      free : HasNoHoleAt s ok (of e) k
      free = taken_no_hole s.host.now ok.extensible ok.pieces ok.certified (numbers_in s) numbered (of e) k taken

      kernel_exact : (item : Item) → Contains kernel item ↔
          IsKernelItem (grammar_at s.host.now ok.extensible ok.pieces (of e)) (prefix_at s (of e) k) item
      kernel_exact = (new_kernel s ok given.kernels e n part kernel at).0

      exact : (item : Item) → Contains new item ↔ IsItemAt s ok (of e) k item
      exact = list_exact (of e) k kernel kernel_exact

      weaken : (home : Home) (j : ℕ) → IsDone s ok e n home j → IsDone s ok e (n + 1) home j
      weaken of_host j done = done
      weaken (of f) j (inl before) = inl before
      weaken (of f) j (inr (same, lt)) = inr (same, omega (arith, lt))

      split : (home : Home) (j : ℕ) → IsDone s ok e (n + 1) home j → IsDone s ok e n home j ⊎ ((home ≡ of e) × (j ≡ k))
      split of_host j done = inl done
      split (of f) j (inl before) = inl (inl before)
      split (of f) j (inr (same, lt)) = elim (cases_lt j k) [
        | inl before ↦ inl (inr (same, before))
        | inr past ↦ inr (ap of same, omega (arith, past, lt))
      ]

      in_order : AreInOrder new
      in_order = list_in_order (of e) k kernel kernel_exact free (new_kernel s ok given.kernels e n part kernel at).1

      -- it was listed
      pub new_found : (u : ℕ) → slice_get old u ≡ Some new → NewNext s ok old old e n u
      new_found u there = record {
        keeps = keeps_none old;
        so_far = so_far_stays (IsDone s ok e n) (IsDone s ok e (n + 1)) old h weaken
            (λ home j is done. elim (split home j done) [
              | inl before ↦ inl before
              | inr (home_is, j_is) ↦ inr (
                u,
                subst (λ z. IsFromAt s ok old u z j) (sym home_is) (subst (IsFromAt s ok old u (of e)) (sym j_is) from),
              )
            ]);
        from = from;
      }
        where
          from : IsFromAt s ok old u (of e) k
          from = record { kernel = new; at = there; exact = exact }

      -- none of those that are listed is the same
      none_like : HasNoneLike old new → (u : ℕ) (other : List Item) → slice_get old u ≡ Some other → ¬ SameItems other new
      none_like none u other there same = none u other there (same_in_order other new (h.in_order u other there) in_order same)

      -- so it is where it has an item of the extension's own
      own_fresh : HasOwnBy (blocks_at s ok (of e)).productions kernel → (u : ℕ) (other : List Item) → slice_get old u ≡ Some other →
          ¬ SameItems other new
      own_fresh (item, has, own) u other there same = go (h.sound u (slice_get_within old u other there))
        where
          go : (home : Home) × (j : ℕ) × IsTakenAt s ok home j × IsDone s ok e n home j × IsFromAt s ok old u home j → ⊥
          go (of_host, j, is, done, from) =
              once.not_host j e k is taken (one_kernel (of e) k kernel kernel_exact from
              (subst (λ z. SameItems z new) (at_once old u other from.kernel there from.at) same))
          go (of f, j, is, done, from) =
              let one = one_kernel (of e) k kernel kernel_exact from
              (subst (λ z. SameItems z new) (at_once old u other from.kernel there from.at) same) in
              let e_is : e ≡ f = once.same_extension e k f j taken is (item, (kernel_exact item).0 has, own)
              (λ i. ((one i).1, (one i).0)) in
              gone done e_is (once.same_number (of e) j k (subst (λ z. IsTakenAt s ok (of z) j) (sym e_is) is) taken
              (subst (λ z. AreOneAt s.host.now ok.extensible ok.pieces (numbers_in s) (of z) j (of e) k) (sym e_is) one))
            where
              gone : IsDone s ok e n (of f) j → e ≡ f → j ≡ k → ⊥
              gone (inl before) e_is j_is = omega (arith, before, e_is)
              gone (inr (same, lt)) e_is j_is = omega (arith, lt, j_is)

      -- from where it is led to
      new_from : (led : IsLedFrom s ok given.kernels (of e) k) → (u : ℕ) × IsFromAt s ok old u (of e) led.from
      new_from led =
          let leads = led.leads in
          let no_hole = no_hole_at (of e) k led.from led.symbol less leads in
          let before = led.before in
          elim (cases_lt led.from (count_of s.kernels.now)) [
            | inl near ↦ (let (u, from) = h.all of_host led.from
                (near, host_no_hole s.host.now ok.extensible ok.pieces ok.certified (numbers_in s) numbered e led.from less near no_hole)
                tt in (
                  u,
                  from_host s.host.now ok.extensible ok.pieces ok.certified (numbers_in s) numbered old u e led.from less near no_hole
                      from,
                ))
            | inr far ↦ (let (i, lt, is) = new_past s ok given.kernels e led.from less leads.0 far in
                h.all (of e) led.from (subst (IsTakenAt s ok (of e)) (sym is) (new_taken s ok given.kernels e i less lt))
                (inr (refl, before)))
          ]

      starts : length old ≡ 0 → (of e ≡ of_host) × (k ≡ 0)
      starts empty = (let (u, from) = h.all of_host 0 (zero_taken s ok given.kernels) tt in
          let w = slice_get_within old u from.kernel from.at in absurd (omega (arith, w, empty)))

      pub new_listed : HasNoneLike old new ⊎ HasOwnBy (blocks_at s ok (of e)).productions kernel →
          NewNext s ok old (old ++ new ∷ []) e n (length old)
      new_listed fresh = record {
        keeps = keeps_push old new;
        so_far = so_far_push (IsDone s ok e n) (IsDone s ok e (n + 1)) old new (of e) k h weaken (λ home j _ done. split home j done)
            (inr (refl, omega arith)) taken exact in_order (elim fresh [ inl none ↦ none_like none | inr own ↦ own_fresh own ])
            (λ _. (let led = new_led s ok given.kernels e n less below in let (u, from) = new_from led in
            led_from old new (of e) k led.from led.symbol u less led.leads free exact from)) starts;
        from = record { kernel = new; at = push_last old new; exact = exact };
      }
