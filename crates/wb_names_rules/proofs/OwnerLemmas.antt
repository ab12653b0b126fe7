-- Whose a declaration is, by its place.
use Rattle.std.proofs.Common.{◌≡◌, ◌<◌, ◌≤◌, ◌+◌, ◌-◌, ℕ, List, Some, Bool, length, take, drop, get_or, slice_get}
use Rattle.std.proofs.Common.{Contains, sym, ap, ◌∙◌, subst, arith, length-take}
use Rattle.std.specs.Prelude.{IsTrue, ◌↔◌, ◌⊎◌, IfErr, OnOk, Result, Ok, Err}
use Rattle.std.proofs.lemmas.List.{get_or-drop, get_or-take, length-drop, take-append-drop, take_all}
use Rattle.std.proofs.lemmas.Option.{slice_get-get_or, slice_get_within, get_or_from_slice_get}
use Rattle.std.proofs.lemmas.Result.{IfErr-weaker}
use Rattle.wb_lemmas.proofs.Members.{contains_at, place_of, contains_take}
use Rattle.wb_lemmas.proofs.Places.{at_drop, at_take, at_once}
use Rattle.wb_names_theory.specs.declared.declaration.Declaration.{Declaration}
use Rattle.wb_names_theory.specs.declared.declaration.Declaration.TheVariants as d
use Rattle.wb_names_theory.specs.declared.declaration.Labelled.{Labelled}
use Rattle.wb_names_theory.specs.declared.declaration.Labelled.TheVariants.{Local}
use Rattle.wb_names_theory.specs.declared.declaration.Sort.{Sort}
use Rattle.wb_names_theory.specs.declared.declaration.Sort.TheVariants as sort
use Rattle.wb_names_theory.specs.Duplicate.{AreSame, Counts}
use Rattle.wb_names_theory.specs.Duplicate as s
use Rattle.wb_names_theory.specs.Meaning.{IsSymbol, HasSite}
use Rattle.wb_names_theory.specs.declared.declaration.Site.{Site}
use Rattle.wb_names_theory.specs.declared.refusal.NameRefusal.{NameRefusal}
use Rattle.wb_names_theory.specs.declared.refusal.NameRefusal.TheVariants as r
use Rattle.wb_names_theory.specs.Orphan.{Bounds, IsOwnSymbol, IsOwnAttribute, IsOwnOccurrence, IsOfHost, FailsOrphan}
use Rattle.wb_names_theory.specs.Orphan as o
use Rattle.wb_names_rules.specs.Index.{CountOnce}
use Rattle.wb_names_rules.specs.Inner.Owners.{HasOwnLocal, IsLocal, NamesOrphan, ShowsOrphan, IsOrphanIn, IsOrphanIf, IsForeignOccurrence}
use Rattle.wb_names_rules.specs.Inner.Owners.{IsForeignPreference, IsForeignEquation, MayOccur, MayDeclare}

-- what is at a place from some place on is among those left when the others are dropped
drop_keeps : {X : Type 0} (xs : List X) (n i : ℕ) (x : X) → slice_get xs i ≡ Some x → n ≤ i → Contains (drop n xs) x
drop_keeps xs n i x at above =
    let within = slice_get_within xs i x at in
    let inside : i - n < length (drop n xs) = omega (arith, length-drop n xs, within, above) in
    let same : n + (i - n) ≡ i = omega (arith, above) in
    contains_at (drop n xs) x (i - n) (slice_get-get_or (drop n xs) (i - n) x inside
    ∙ ap Some (get_or-drop n xs (i - n) x ∙ ap (λ (k : ℕ). get_or xs k x) same ∙ get_or_from_slice_get xs i x x at))

-- what is at a place before some place is among the first ones
take_keeps : {X : Type 0} (xs : List X) (n i : ℕ) (x : X) → slice_get xs i ≡ Some x → i < n → Contains (take n xs) x
take_keeps xs n i x at below =
    let within = slice_get_within xs i x at in
    let inside : i < length (take n xs) = omega (arith, length-take n xs, within, below) in
    contains_at (take n xs) x i (slice_get-get_or (take n xs) i x inside ∙ ap Some (get_or-take n xs i x below ∙ get_or_from_slice_get xs i x x at))

-- what is among those left is at a place from there on
drop_place : {X : Type 0} (xs : List X) (n : ℕ) (x : X) → Contains (drop n xs) x → (i : ℕ) × (n ≤ i) × (slice_get xs i ≡ Some x)
drop_place xs n x has = let (i, at) = place_of (drop n xs) x has in (n + i, omega arith, at_drop xs n i x at)

-- so it is in the list
pub contains_drop : {X : Type 0} (xs : List X) (n : ℕ) (x : X) → Contains (drop n xs) x → Contains xs x
contains_drop xs n x has = let (i, above, at) = drop_place xs n x has in contains_at xs x i at

-- the label at a place, by equal names
pub label_place : (declared : List Declaration) (place : ℕ) (p q l m : List ℕ) → p ≡ q → l ≡ m
    → (is : Labelled) × (slice_get declared place ≡ Some (d.Label p l is)) → (is : Labelled) × (slice_get declared place ≡ Some (d.Label q m is))
label_place declared place p q l m e f (is, at) =
    (is, at ∙ ap (λ (z : List ℕ). Some (d.Label z l is)) e ∙ ap (λ (z : List ℕ). Some (d.Label q z is)) f)

-- a slice from a place on
pub own_slice : {X : Type 0} (xs ys : List X) (from : ℕ) → xs ≡ ys → take (length xs - from) (drop from xs) ≡ drop from ys
own_slice {X} xs ys from e =
    take_all (length xs - from) (drop from xs) (omega (arith, length-drop from xs)) ∙ ap (λ (zs : List X). drop from zs) e

module _ (declared : List Declaration) (from : ℕ) (once : CountOnce declared) where
  -- a thing is declared by an extension exactly where its place says so
  pub own_test : {X : Type 0} (make : X → Declaration) (place : ℕ) (is : X) (b : Bool) → ((x y : X) → AreSame (make x) (make y))
      → slice_get declared place ≡ Some (make is) → Counts declared (make is) → (IsTrue b ↔ (from ≤ place))
      → IsTrue b ↔ ((x : X) × Contains (drop from declared) (make x))
  own_test make place is b same there counts test = (
    λ h. (is, drop_keeps declared from place (make is) there (test.0 h)),
    λ (x, has). let (i, above, at) = drop_place declared from (make x) has in
        let e : place ≡ i = once place i (make is) (make x) there at counts (same is x) in
        test.1 (omega (arith, e, above)),
  )

  -- the same of an occurrence
  pub occurrence_test : (place : ℕ) (a n : List ℕ) (b : Bool) → slice_get declared place ≡ Some (d.Occurrence a n) → (IsTrue b ↔ (from ≤ place))
      → IsTrue b ↔ IsOwnOccurrence (drop from declared) a n
  occurrence_test place a n b there test = (
    λ h. drop_keeps declared from place (d.Occurrence a n) there (test.0 h),
    λ has. let (i, above, at) = drop_place declared from (d.Occurrence a n) has in
        let e : place ≡ i = once place i (d.Occurrence a n) (d.Occurrence a n) there at tt s.occurrence in
        test.1 (omega (arith, e, above)),
  )

  module _ (place : ℕ) (p l : List ℕ) (is : Labelled) (there : slice_get declared place ≡ Some (d.Label p l is))
      (counts : IsSymbol declared p sort.Production) where
    -- an own local is at the place of its label
    own_place : (n : List ℕ) → Contains (drop from declared) (d.Label p l (Local n)) → (from ≤ place) × (is ≡ Local n)
    own_place n has =
        let (i, above, at) = drop_place declared from (d.Label p l (Local n)) has in
        let e : place ≡ i = once place i (d.Label p l is) (d.Label p l (Local n)) there at counts s.label in
        let f : d.Label p l is ≡ d.Label p l (Local n) =
        at_once declared i (d.Label p l is) (d.Label p l (Local n)) (subst (λ (k : ℕ). slice_get declared k ≡ Some (d.Label p l is)) e there) at in
        (omega (arith, e, above), cc)

    -- a label of the host is no own local
    pub host_label : place < from → ¬ HasOwnLocal (drop from declared) p l
    host_label below (n, has) = absurd (omega (arith, below, (own_place n has).0))

    -- another one is exactly where it is a local's
    pub own_label : (b : Bool) → from ≤ place → (IsTrue b ↔ IsLocal is) → IsTrue b ↔ HasOwnLocal (drop from declared) p l
    own_label b above test = (
      λ h. let (n, e) = test.0 h in
          (n, drop_keeps declared from place (d.Label p l (Local n)) (there ∙ ap (λ (z : Labelled). Some (d.Label p l z)) e) above),
      λ (n, has). test.1 (n, (own_place n has).1),
    )

  module _ (place : ℕ) (name : List ℕ) (is : Sort) (there : slice_get declared place ≡ Some (d.Symbol name is)) where
    -- an own symbol is no production of the host
    pub not_of_host : from ≤ place → ¬ IsOfHost (take from declared) name
    not_of_host above has =
        let (i, at) = place_of (take from declared) (d.Symbol name sort.Production) has in
        let (below, there_too) = at_take declared from i (d.Symbol name sort.Production) at in
        let e : place ≡ i = once place i (d.Symbol name is) (d.Symbol name sort.Production) there there_too tt s.symbol in
        absurd (omega (arith, e, above, below))

    -- a symbol of the host is one of its productions exactly where it is one
    pub of_host_test : (b : Bool) → place < from → (IsTrue b ↔ IsSymbol declared name sort.Production)
        → IsTrue b ↔ IsOfHost (take from declared) name
    of_host_test b below test = (
      λ h. let (i, at) = place_of declared (d.Symbol name sort.Production) (test.0 h) in
          let e : place ≡ i = once place i (d.Symbol name is) (d.Symbol name sort.Production) there at tt s.symbol in
          take_keeps declared from i (d.Symbol name sort.Production) at (omega (arith, e, below)),
      λ has. test.1 (contains_take declared from (d.Symbol name sort.Production) has),
    )

-- an extension may declare an occurrence where a test says that it is its own, and its nonterminal isn't closed
pub may_occur : {E : Type 0} (own : List Declaration) (bounds : Bounds) (a n : List ℕ) (result : Result (Unit {0}) E)
    → ¬ Contains bounds.hosts_closed n → OnOk result (IsOwnAttribute own a ⊎ IsOwnSymbol own n) → OnOk result (MayOccur own bounds a n)
may_occur own bounds a n (Ok x) is_open is_own = record { is_own = is_own; is_open = is_open }
may_occur own bounds a n (Err e) is_open is_own = tt

-- a refusal by this name, where this holds
pub orphan_if : (P : Type 0) (shown : List ℕ) (refusal : NameRefusal) → P → NamesOrphan shown refusal → IsOrphanIf P shown refusal
orphan_if P shown (r.Orphan name) holds is = (is, holds)
orphan_if P shown (r.NoMemory error) holds is = tt
orphan_if P shown (r.Duplicate name) holds is = absurd is
orphan_if P shown (r.Unknown name) holds is = absurd is
orphan_if P shown (r.WrongKind name) holds is = absurd is
orphan_if P shown (r.WrongHost name) holds is = absurd is

module _ (declared : List Declaration) (from : ℕ) (bounds : Bounds) where
  -- a refusal by what a declaration shows
  shows_if : (P : Type 0) (one : Declaration) (shown : List ℕ)
      → (P → Contains (drop from declared) one → FailsOrphan (take from declared) (drop from declared) bounds shown)
      → (refusal : NameRefusal) → IsOrphanIf P shown refusal → ShowsOrphan declared from bounds one refusal
  shows_if P one shown fails (r.Orphan name) shows = λ has.
      subst (FailsOrphan (take from declared) (drop from declared) bounds) (sym shows.0) (fails shows.1 has)
  shows_if P one shown fails (r.NoMemory error) shows = tt
  shows_if P one shown fails (r.Duplicate name) shows = absurd shows
  shows_if P one shown fails (r.Unknown name) shows = absurd shows
  shows_if P one shown fails (r.WrongKind name) shows = absurd shows
  shows_if P one shown fails (r.WrongHost name) shows = absurd shows

  pub shows_start : (name : List ℕ) (refusal : NameRefusal) → NamesOrphan name refusal
      → ShowsOrphan declared from bounds (d.Start name) refusal
  shows_start name refusal is =
      shows_if (Unit {0}) (d.Start name) name (λ _ has. o.start has) refusal (orphan_if (Unit {0}) name refusal tt is)

  pub shows_extensible : (name : List ℕ) (refusal : NameRefusal) → NamesOrphan name refusal
      → ShowsOrphan declared from bounds (d.Extensible name) refusal
  shows_extensible name refusal is =
      shows_if (Unit {0}) (d.Extensible name) name (λ _ has. o.extensible has) refusal (orphan_if (Unit {0}) name refusal tt is)

  pub shows_closed : (name : List ℕ) (refusal : NameRefusal) → NamesOrphan name refusal
      → ShowsOrphan declared from bounds (d.Closed name) refusal
  shows_closed name refusal is =
      shows_if (Unit {0}) (d.Closed name) name (λ _ has. o.closed has) refusal (orphan_if (Unit {0}) name refusal tt is)

  pub shows_symbol : (name : List ℕ) (is : Sort) (refusal : NameRefusal)
      → IsOrphanIf ((bounds.format ≡ 1) × (is ≡ sort.Layout)) name refusal → ShowsOrphan declared from bounds (d.Symbol name is) refusal
  shows_symbol name is refusal shows =
      shows_if ((bounds.format ≡ 1) × (is ≡ sort.Layout)) (d.Symbol name is) name
      (λ (first, e) has. o.layout first (subst (λ (z : Sort). Contains (drop from declared) (d.Symbol name z)) e has)) refusal shows

  pub shows_forward_needs : (name : List ℕ) (refusal : NameRefusal) → IsOrphanIf (¬ IsOwnSymbol (drop from declared) name) name refusal
      → ShowsOrphan declared from bounds (d.ForwardNeeds name) refusal
  shows_forward_needs name refusal shows =
      shows_if (¬ IsOwnSymbol (drop from declared) name) (d.ForwardNeeds name) name (λ not has. o.forward_needs has not) refusal shows

  pub shows_occurrence : (a n : List ℕ) (refusal : NameRefusal) → IsOrphanIf (IsForeignOccurrence (drop from declared) a n) a refusal
      → ShowsOrphan declared from bounds (d.Occurrence a n) refusal
  shows_occurrence a n refusal shows =
      shows_if (IsForeignOccurrence (drop from declared) a n) (d.Occurrence a n) a (λ not has. o.occurrence has not.0 not.1) refusal shows

  pub shows_on_closed : (a n : List ℕ) (refusal : NameRefusal) → IsOrphanIf (Contains bounds.hosts_closed n) a refusal
      → ShowsOrphan declared from bounds (d.Occurrence a n) refusal
  shows_on_closed a n refusal shows =
      shows_if (Contains bounds.hosts_closed n) (d.Occurrence a n) a (λ shut has. o.on_closed has shut) refusal shows

  pub shows_preference : (first second : List ℕ) (refusal : NameRefusal)
      → IsOrphanIf (IsForeignPreference (drop from declared) first second) first refusal
      → ShowsOrphan declared from bounds (d.Preference first second) refusal
  shows_preference first second refusal shows =
      shows_if (IsForeignPreference (drop from declared) first second) (d.Preference first second) first
      (λ not has. o.preference has not.0 not.1) refusal shows

  pub shows_equation : (p a : List ℕ) (at : Site) (refusal : NameRefusal) → IsOrphanIf (IsForeignEquation declared from p a at) a refusal
      → ShowsOrphan declared from bounds (d.Equation p a at) refusal
  shows_equation p a at refusal shows =
      shows_if (IsForeignEquation declared from p a at) (d.Equation p a at) a
      (λ f has. o.equation has f.of_host (subst (λ (z : List Declaration). HasSite z p at f.nonterminal) (sym (take-append-drop from declared)) f.there)
      f.no_occurrence f.no_local) refusal shows

  -- what a test of a declaration's parts says, where it is matched as this one
  pub refused_as : {X : Type 0} (P : NameRefusal → Type 0) (result : Result X NameRefusal) (given one : Declaration) → given ≡ one
      → ((refusal : NameRefusal) → P refusal → ShowsOrphan declared from bounds one refusal) → IfErr result P
      → IfErr result (ShowsOrphan declared from bounds given)
  refused_as P result given one is shows refused =
      IfErr-weaker result P (ShowsOrphan declared from bounds given)
      (λ refusal p. subst (λ (z : Declaration). ShowsOrphan declared from bounds z refusal) (sym is) (shows refusal p)) refused

  pub passed_as : {X : Type 0} (result : Result X NameRefusal) (given one : Declaration) → given ≡ one
      → OnOk result (MayDeclare declared from bounds one) → OnOk result (MayDeclare declared from bounds given)
  passed_as result given one is passed = subst (λ (z : Declaration). OnOk result (MayDeclare declared from bounds z)) (sym is) passed

  -- what one declaration shows is true
  pub shown_orphan : (own : List Declaration) (at : ℕ) (one : Declaration) → own ≡ drop from declared → at < length own
      → one ≡ get_or own at one → (refusal : NameRefusal) → ShowsOrphan declared from bounds one refusal
      → IsOrphanIn declared from bounds refusal
  shown_orphan own at one e within is (r.Orphan name) shows =
      shows (subst (λ (z : List Declaration). Contains z one) e (contains_at own one at (slice_get-get_or own at one within ∙ ap Some (sym is))))
  shown_orphan own at one e within is (r.NoMemory error) shows = tt
  shown_orphan own at one e within is (r.Duplicate name) shows = absurd shows
  shown_orphan own at one e within is (r.Unknown name) shows = absurd shows
  shown_orphan own at one e within is (r.WrongKind name) shows = absurd shows
  shown_orphan own at one e within is (r.WrongHost name) shows = absurd shows
