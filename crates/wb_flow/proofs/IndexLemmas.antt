-- Occurrences by nonterminal.
use Rattle.std.proofs.Common.{◌≡◌, ◌≢◌, ◌<◌, ◌≤◌, ◌+◌, ◌∙◌, ◌++◌, ◌∷◌, [], ◌⊎◌, inl, inr, ℕ, List, Vec, Global, Some, length, map, set}
use Rattle.std.proofs.Common.{get_or, refl, sym, ap, subst}
use Rattle.std.proofs.Common.{slice_get, Contains, arith, length-append, get_or-set_same, get_or-set_other}
use Rattle.std.specs.Prelude.{◌↔◌}
use Rattle.std.proofs.lemmas.Bool.{cases_eq}
use Rattle.std.proofs.lemmas.Grind.{common_steps}
use Rattle.std.proofs.lemmas.List.{map-set, map-append, length-map, get_or-map}
use Rattle.std.proofs.lemmas.Option.{slice_get_within, slice_get-get_or, gets}
use Rattle.wb_lemmas.proofs.Elements.{all_contained}
use Rattle.wb_lemmas.proofs.Members.{contains_at, place_of, nothing_in, contains_push, push_contains, push_contains_last}
use Rattle.wb_lemmas.proofs.Places.{at_once}
use Rattle.wb_flow_theory.specs.Occurrences.{Goes, HasFlowType, Occurs, Needs, ForwardNeeds}
use Rattle.wb_flow_theory.proofs.OccurrenceLemmas.{one_flow_type}
use Rattle.wb_flow.specs.Occurrences.{IsNumberOn, IsIndexOf}
use Rattle.wb_flow.proofs.AddingLemmas.{below_or}
use Rattle.wb_syntax_resolved.specs.declared.attributes.Direction.TheVariants.{Inherited}
use Rattle.wb_syntax_resolved.specs.declared.attributes.Nonterminal.{Nonterminal}
use Rattle.wb_syntax_resolved.specs.declared.attributes.Occurrence.{Occurrence}
use Rattle.wb_syntax_resolved.specs.declared.attribution.AttributionParts.{AttributionParts}
use Rattle.wb_syntax_resolved.specs.Attribution.{IsAttribution}
use Rattle.wb_syntax_resolved.specs.Named.{IsNamedOccurrence}

-- the lists of rows
abbrev pub lists_of : List (Vec ℕ Global) → List (List ℕ)
lists_of rows = map (λ (row : Vec ℕ Global). row.items) rows

-- one number more in a row
abbrev pub IsLonger : List (List ℕ) → List (List ℕ) → ℕ → ℕ → Type 0
IsLonger old new n k = (m j : ℕ) → Contains (get_or new m []) j ↔ (Contains (get_or old m []) j ⊎ ((m ≡ n) × (j ≡ k)))

longer_lists : (lists : List (List ℕ)) (n k : ℕ) → n < length lists → IsLonger lists (set lists n (get_or lists n [] ++ k ∷ [])) n k
longer_lists lists n k within m j = elim (cases_eq m n) [
  | inl same ↦ here same
  | inr other ↦ (
      let e = get_or-set_other lists n m (get_or lists n [] ++ k ∷ []) [] other in (
        (λ has. inl (subst (λ z. Contains z j) e has)),
        (λ either. subst (λ z. Contains z j) (sym e) (elim either [ inl has ↦ has | inr last ↦ absurd (other last.0) ])),
      )
      )
] where
  here : m ≡ n → Contains (get_or (set lists n (get_or lists n [] ++ k ∷ [])) m []) j ↔ (Contains (get_or lists m []) j ⊎ ((m ≡ n) × (j ≡ k)))
  here same =
      let row = get_or lists n [] in
      let e : get_or (set lists n (row ++ k ∷ [])) m [] ≡ row ++ k ∷ [] =
      ap (λ z. get_or (set lists n (row ++ k ∷ [])) z []) same ∙ get_or-set_same lists n (row ++ k ∷ []) [] within in
      let f : get_or lists m [] ≡ row = ap (λ z. get_or lists z []) same in (
        (λ has. elim (contains_push row k j (subst (λ z. Contains z j) e has)) [
          | inl old ↦ inl (subst (λ z. Contains z j) (sym f) old)
          | inr last ↦ inr (same, sym last)
        ]),
        (λ either. subst (λ z. Contains z j) (sym e) (elim either [
          | inl old ↦ push_contains row k j (subst (λ z. Contains z j) f old)
          | inr last ↦ subst (Contains (row ++ k ∷ [])) (sym last.1) (push_contains_last row k)
        ])),
      )

pub longer_rows : (rows : List (Vec ℕ Global)) (n k : ℕ) (row new : Vec ℕ Global) → n < length (lists_of rows) → row ≡ get_or rows n row
    → new.items ≡ row.items ++ k ∷ [] → IsLonger (lists_of rows) (lists_of (set rows n new)) n k
longer_rows rows n k row new within there is =
    let length_is : length (lists_of rows) ≡ length rows = length-map rows (λ (z : Vec ℕ Global). z.items) in
    let at : get_or (lists_of rows) n [] ≡ row.items =
    get_or-map (λ (z : Vec ℕ Global). z.items) rows n row [] (subst (λ z. n < z) length_is within) ∙ ap (λ (z : Vec ℕ Global). z.items) (sym there) in
    let same : lists_of (set rows n new) ≡ set (lists_of rows) n (get_or (lists_of rows) n [] ++ k ∷ []) =
    map-set (λ (z : Vec ℕ Global). z.items) rows n new ∙ ap (λ z. set (lists_of rows) n z) (is ∙ ap (λ z. z ++ k ∷ []) (sym at)) in
    subst (λ z. IsLonger (lists_of rows) z n k) (sym same) (longer_lists (lists_of rows) n k within)

-- empty rows
abbrev pub AreEmpty : List (List ℕ) → ℕ → Type 0
AreEmpty lists count = (length lists ≡ count) × ((m : ℕ) → get_or lists m [] ≡ [])

pub empty_more : (rows : List (Vec ℕ Global)) (new : List (Vec ℕ Global)) (row : Vec ℕ Global) (count : ℕ) → AreEmpty (lists_of rows) count
    → new ≡ rows ++ row ∷ [] → row.items ≡ [] → AreEmpty (lists_of new) (count + 1)
empty_more rows new row count (len, empty) is none =
    let same : lists_of new ≡ lists_of rows ++ [] ∷ [] =
    ap lists_of is ∙ map-append (λ (z : Vec ℕ Global). z.items) rows (row ∷ []) ∙ ap (λ z. lists_of rows ++ z ∷ []) none in
    subst (λ z. AreEmpty z (count + 1)) (sym same) (longer (lists_of rows) len empty) where
      longer : (lists : List (List ℕ)) → length lists ≡ count → ((m : ℕ) → get_or lists m [] ≡ []) → AreEmpty (lists ++ [] ∷ []) (count + 1)
      longer lists l e = ((let m = length-append lists ([] ∷ []) in omega (arith, m, l)), (λ m. let at = e m in grind (arith, common_steps, gets)))

pub nothing_yet : (lists : List (List ℕ)) (count m k : ℕ) → AreEmpty lists count → ¬ Contains (get_or lists m []) k
nothing_yet lists count m k (len, empty) has = nothing_in k (subst (λ z. Contains z k) (empty m) has)

-- the index has the first occurrences
abbrev pub IsIndexTo : List Occurrence → List (List ℕ) → ℕ → Type 0
IsIndexTo occurrences rows count = (m k : ℕ) → Contains (get_or rows m []) k ↔ ((k < count) × IsNumberOn occurrences m k)

pub index_start : (occurrences : List Occurrence) (rows : List (List ℕ)) → ((m k : ℕ) → ¬ Contains (get_or rows m []) k)
    → IsIndexTo occurrences rows 0
index_start occurrences rows none m k = ((λ has. absurd (none m k has)), (λ on. absurd (omega (arith, on.0))))

pub index_more : (occurrences : List Occurrence) (old new : List (List ℕ)) (n : ℕ) (o : Occurrence) → slice_get occurrences n ≡ Some o
    → IsIndexTo occurrences old n → IsLonger old new o.nonterminal n → IsIndexTo occurrences new (n + 1)
index_more occurrences old new n o there before longer m k = (to, from) where
  to : Contains (get_or new m []) k → (k < n + 1) × IsNumberOn occurrences m k
  to has = elim ((longer m k).0 has) [
    | inl earlier ↦ (let on = (before m k).0 earlier in ((omega (arith, on.0)), on.1))
    | inr last ↦ ((omega (arith, last.1)), (o, subst (λ z. slice_get occurrences z ≡ Some o) (sym last.1) there, sym last.0))
  ]

  from : (k < n + 1) × IsNumberOn occurrences m k → Contains (get_or new m []) k
  from (lt, (p, at, on)) = (longer m k).1 (elim (below_or k n lt) [
    | inl low ↦ inl ((before m k).1 (low, (p, at, on)))
    | inr last ↦ (
        let same : p ≡ o = at_once occurrences n p o (subst (λ z. slice_get occurrences z ≡ Some p) last at) there in
        inr (sym on ∙ ap (λ (z : Occurrence). z.nonterminal) same, last)
        )
  ])

pub index_all : (occurrences : List Occurrence) (rows : List (List ℕ)) (n : ℕ) → length occurrences ≤ n → IsIndexTo occurrences rows n
    → IsIndexOf occurrences rows
index_all occurrences rows n ended index m k = (
  (λ has. ((index m k).0 has).1),
  (λ (o, at, on). let lt = slice_get_within occurrences k o at in (index m k).1 ((omega (arith, lt, ended)), (o, at, on))),
)

-- the nonterminal of an occurrence is there
pub nonterminal_within : (a : AttributionParts) → IsAttribution a → (n : ℕ) (o : Occurrence) → slice_get a.occurrences n ≡ Some o
    → o.nonterminal < length a.nonterminals
nonterminal_within a is n o there =
    let named = all_contained (IsNamedOccurrence a) a.occurrences o is.named.occurrences (contains_at a.occurrences o n there) in
    slice_get_within a.nonterminals o.nonterminal named.nonterminal.nonterminal named.nonterminal.is

module _ (occurrences : List Occurrence) (rows : List (List ℕ)) (index : IsIndexOf occurrences rows) (m : ℕ) where
  -- a number in a row is that of an occurrence
  pub row_number : (row : List ℕ) → row ≡ get_or rows m [] → (i n : ℕ) → slice_get row i ≡ Some n → IsNumberOn occurrences m n
  row_number row same i n there = (index m n).0 (contains_at (get_or rows m []) n i (subst (λ z. slice_get z i ≡ Some n) same there))

  pub number_within : (n : ℕ) → IsNumberOn occurrences m n → n < length occurrences
  number_within n (o, at, on) = slice_get_within occurrences n o at

module _ (a : AttributionParts) (is : IsAttribution a) (rows : List (List ℕ)) (index : IsIndexOf a.occurrences rows) (m : ℕ) where
  module _ (x : ℕ) where
    -- the flow type of an occurrence of the attribute is what the attribute needs
    pub needs_found : (n : ℕ) (o : Occurrence) → slice_get a.occurrences n ≡ Some o → o.nonterminal ≡ m → o.attribute ≡ x → (i : ℕ)
        → Contains o.needs i ↔ Needs a x m i
    needs_found n o at on of i =
        let flow : HasFlowType a x m o.needs = record {
          occurrence = o;
          listed = contains_at a.occurrences o n at;
          of_attribute = of;
          on_nonterminal = on;
          needs_are = refl;
        } in (
          (λ has. (o.needs, flow, has)),
          (λ (needs, other, has). subst (λ z. Contains z i) (one_flow_type a is x m needs o.needs other flow) has),
        )

    -- the first numbers of a row are those of other attributes
    abbrev pub AreOthers : List ℕ → ℕ → Type 0
    AreOthers row count = (j n : ℕ) (o : Occurrence) → j < count → slice_get row j ≡ Some n → slice_get a.occurrences n ≡ Some o
        → o.attribute ≢ x

    pub others_more : (row : List ℕ) (i n : ℕ) (o : Occurrence) → slice_get row i ≡ Some n → slice_get a.occurrences n ≡ Some o
        → o.attribute ≢ x → AreOthers row i → AreOthers row (i + 1)
    others_more row i n o there at other before j k p lt here is_at = elim (below_or j i lt) [
      | inl low ↦ before j k p low here is_at
      | inr last ↦ (
          let same : k ≡ n = at_once row i k n (subst (λ z. slice_get row z ≡ Some k) last here) there in
          let equal : p ≡ o = at_once a.occurrences n p o (subst (λ z. slice_get a.occurrences z ≡ Some p) same is_at) at in
          subst (λ (z : Occurrence). z.attribute ≢ x) (sym equal) other
          )
    ]

    -- where all are, the attribute needs nothing
    pub needs_nothing : (row : List ℕ) → row ≡ get_or rows m [] → (count : ℕ) → length row ≤ count → AreOthers row count → (i : ℕ)
        → Contains {X = ℕ} [] i ↔ Needs a x m i
    needs_nothing row same count ended others i = (
      (λ has. absurd (nothing_in i has)),
      (λ (needs, flow, has).
          let (n, at) = place_of a.occurrences flow.occurrence flow.listed in
          let (j, here) = place_of (get_or rows m []) n ((index m n).1 (flow.occurrence, at, flow.on_nonterminal)) in
          let here_row = subst (λ z. slice_get z j ≡ Some n) (sym same) here in
          let lt = slice_get_within row j n here_row in
          absurd (others j n flow.occurrence (omega (arith, lt, ended)) here_row at flow.of_attribute)),
    )

-- none of the first numbers of a row is that of an attribute that goes down
abbrev pub AreUp : AttributionParts → List ℕ → ℕ → Type 0
AreUp a row count = (j n : ℕ) (o : Occurrence) → j < count → slice_get row j ≡ Some n → slice_get a.occurrences n ≡ Some o
    → ¬ Goes a Inherited o.attribute

pub downs_more : (a : AttributionParts) (row : List ℕ) (i n : ℕ) (o : Occurrence) → slice_get row i ≡ Some n
    → slice_get a.occurrences n ≡ Some o → ¬ Goes a Inherited o.attribute → AreUp a row i → AreUp a row (i + 1)
downs_more a row i n o there at other before j k p lt here is_at = elim (below_or j i lt) [
  | inl low ↦ before j k p low here is_at
  | inr last ↦ (
      let same : k ≡ n = at_once row i k n (subst (λ z. slice_get row z ≡ Some k) last here) there in
      let equal : p ≡ o = at_once a.occurrences n p o (subst (λ z. slice_get a.occurrences z ≡ Some p) same is_at) at in
      subst (λ (z : Occurrence). ¬ Goes a Inherited z.attribute) (sym equal) other
      )
]

pub downs_all : (a : AttributionParts) (rows : List (List ℕ)) → IsIndexOf a.occurrences rows → (m : ℕ) (row : List ℕ) → row ≡ get_or rows m []
    → (count : ℕ) → length row ≤ count → AreUp a row count → (i : ℕ) → ¬ Occurs a Inherited i m
downs_all a rows index m row same count ended ups i occurs =
    let flow = occurs.on.1 in
    let (n, at) = place_of a.occurrences flow.occurrence flow.listed in
    let (j, here) = place_of (get_or rows m []) n ((index m n).1 (flow.occurrence, at, flow.on_nonterminal)) in
    let here_row = subst (λ z. slice_get z j ≡ Some n) (sym same) here in
    let lt = slice_get_within row j n here_row in
    ups j n flow.occurrence (omega (arith, lt, ended)) here_row at (subst (Goes a Inherited) (sym flow.of_attribute) occurs.goes)

-- an occurrence whose number is that of one on a nonterminal is on it
pub on_of_number : (occurrences : List Occurrence) (m n : ℕ) (o : Occurrence) → IsNumberOn occurrences m n → slice_get occurrences n ≡ Some o
    → o.nonterminal ≡ m
on_of_number occurrences m n o (p, at, on) there = ap (λ (z : Occurrence). z.nonterminal) (at_once occurrences n o p there at) ∙ on

module _ (a : AttributionParts) (slice : List Nonterminal) (same : slice ≡ a.nonterminals) (m : ℕ) where
  -- what the forward of a nonterminal that is read needs
  pub forward_has : (d : Nonterminal) → m < length slice → (needs : List ℕ) → needs ≡ (get_or slice m d).forward_needs → (i : ℕ)
      → Contains needs i ↔ ForwardNeeds a m i
  forward_has d within needs is i =
      let there = subst (λ (z : List Nonterminal). slice_get z m ≡ Some (get_or slice m d)) same (slice_get-get_or slice m d within) in (
        (λ has. (get_or slice m d, there, subst (λ (z : List ℕ). Contains z i) is has)),
        (λ (n, at, has). subst (λ (z : List ℕ). Contains z i) (sym is)
            (subst (λ (z : Nonterminal). Contains z.forward_needs i) (at_once a.nonterminals m n (get_or slice m d) at there) has)),
      )

  -- past the last there is nothing
  pub forward_none : length slice ≤ m → (i : ℕ) → Contains [] i ↔ ForwardNeeds a m i
  forward_none past i = (
    (λ has. absurd (nothing_in i has)),
    (λ (n, at, has).
        let within = slice_get_within a.nonterminals m n at in
        let end = subst (λ (z : List Nonterminal). length z ≤ m) same past in
        absurd (omega (arith, within, end))),
  )
