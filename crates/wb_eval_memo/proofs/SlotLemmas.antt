-- Values by site and attribute, as sites and values are added.
use Rattle.std.proofs.Common.{◌≡◌, ◌≢◌, ◌∙◌, ◌⊎◌, ◌≤◌, ◌<◌, ◌+◌, ◌-◌, ◌*◌, ◌++◌, inl, inr, ℕ, zero, suc, List, [], ◌∷◌, Some, None}
use Rattle.std.proofs.Common.{length, refl}
use Rattle.std.proofs.Common.{sym, ap, subst, arith, slice_get, slice_index_or, replicate, length-append, Vec, Global}
use Rattle.std.specs.List.{slice_set}
use Rattle.std.proofs.lemmas.Bool.{cases_eq, cases_lt, cond_below, cond_above}
use Rattle.std.proofs.lemmas.List.{length-set, length-replicate}
use Rattle.std.proofs.Math.Nat.{mul-le-mul_right}
use Rattle.std.proofs.lemmas.Nat.{mul-add-lt, same_from_place}
use Rattle.wb_lemmas.proofs.Places.{push_before, push_last, at_default}
use Rattle.wb_values.specs.declared.value.Value.{Value}
use Rattle.wb_eval_memo.specs.Inner.Cells.{IsSmall, IsCellMade}
use Rattle.wb_eval_memo.specs.Slots.{numbered, known_in, cell_at, slot_value, AreSlots}
use Rattle.wb_eval_memo.specs.declared.cell.Cell.{Cell}
use Rattle.wb_eval_memo.specs.declared.cell.Cell.TheVariants as cell
use Rattle.wb_eval_memo.specs.declared.slots.Slots.{Slots}
use Rattle.wb_eval_rows.specs.Sparse.{number_at, IsForest}
use Rattle.wb_eval_rows.specs.declared.sparse.SparseRows.{SparseRows}

-- cells past the end, and after those that aren't known
cells_past : (cells : List Cell) (n : ℕ) → length cells ≤ n → cell_at cells n ≡ cell.Unknown
cells_past [] n le = refl
cells_past (c ∷ cells) zero le = absurd (omega (arith, le))
cells_past (c ∷ cells) (suc n) le = cells_past cells n (omega (arith, le))

only_unknown : (n i : ℕ) → cell_at (replicate n cell.Unknown) i ≡ cell.Unknown
only_unknown zero i = refl
only_unknown (suc n) zero = refl
only_unknown (suc n) (suc i) = only_unknown n i

with_unknown : (cells : List Cell) (n i : ℕ) → cell_at (cells ++ replicate n cell.Unknown) i ≡ cell_at cells i
with_unknown [] n i = only_unknown n i
with_unknown (c ∷ cells) n zero = refl
with_unknown (c ∷ cells) n (suc i) = with_unknown cells n i

-- a cell that is set, and others
set_here : (cells : List Cell) (i : ℕ) (c : Cell) → i < length cells → cell_at (slice_set cells i c) i ≡ c
set_here [] i c lt = absurd (omega arith)
set_here (d ∷ cells) zero c lt = refl
set_here (d ∷ cells) (suc i) c lt = set_here cells i c (omega (arith, lt))

set_there : (cells : List Cell) (i j : ℕ) (c : Cell) → j ≢ i → cell_at (slice_set cells i c) j ≡ cell_at cells j
set_there [] i j c d = refl
set_there (e ∷ cells) zero zero c d = absurd (d refl)
set_there (e ∷ cells) zero (suc j) c d = refl
set_there (e ∷ cells) (suc i) zero c d = refl
set_there (e ∷ cells) (suc i) (suc j) c d = set_there cells i j c (λ e. d (ap suc e))

-- a small cell is read without the list beside
small_known : (c : Cell) (large : List Value) → IsSmall c → known_in large c ≡ known_in [] c
small_known cell.Unknown large small = refl
small_known (cell.Int z) large small = refl
small_known (cell.Bool b) large small = refl
small_known (cell.Tree n) large small = refl
small_known (cell.Large n) large small = absurd small

-- the value of an attribute with a cell, and of one without
pub slot_near : (s : Slots) (i x : ℕ) → x < s.width → slot_value s i x ≡ known_in s.large.items (cell_at s.near.items (i * s.width + x))
slot_near s i x less =
    sym (cond_below x s.width (known_in s.large.items (cell_at s.near.items (i * s.width + x)))
    (numbered s.large.items (number_at s.far i x)) less)

pub slot_far : (s : Slots) (i x : ℕ) → s.width ≤ x → slot_value s i x ≡ numbered s.large.items (number_at s.far i x)
slot_far s i x le =
    sym (cond_above x s.width (known_in s.large.items (cell_at s.near.items (i * s.width + x)))
    (numbered s.large.items (number_at s.far i x)) (numbered s.large.items (number_at s.far i x)) le refl)

-- the place of a cell is within
pub place_within : (s : Slots) (sites site attribute : ℕ) → AreSlots sites s → site < sites → attribute < s.width
    → site * s.width + attribute < length s.near.items
place_within s sites site attribute slots there near =
    let h = mul-add-lt site s.width attribute sites there near in let l = slots.cells in omega (arith, h, l)

-- nothing is known of a site that isn't there
pub slot_past : (s : Slots) (sites : ℕ) → AreSlots sites s → (i x : ℕ) → sites ≤ i → slot_value s i x ≡ None
slot_past s sites slots i x le = elim (cases_lt x s.width) [
  | inl less ↦
      let within : length s.near.items ≤ i * s.width + x =
      let h = mul-le-mul_right s.width le in let l = slots.cells in omega (arith, h, l) in
      slot_near s i x less ∙ ap (known_in s.large.items) (cells_past s.near.items (i * s.width + x) within)
  | inr far ↦ slot_far s i x far ∙ ap (numbered s.large.items) (slots.past i x le)
]

-- a site more
module _ (old : Slots) (near : Vec Cell Global) (pushed : near.items ≡ old.near.items ++ replicate old.width cell.Unknown) where
  abbrev pub with_site : Slots
  with_site = record { width = old.width; near = near; far = old.far; large = old.large }

  same_cell : (n : ℕ) → cell_at near.items n ≡ cell_at old.near.items n
  same_cell n = ap (λ cells. cell_at cells n) pushed ∙ with_unknown old.near.items old.width n

  pub site_slots : (sites : ℕ) → AreSlots sites old → AreSlots (suc sites) with_site
  site_slots sites slots = record {
    cells =
        let l = length-append old.near.items (replicate old.width cell.Unknown) in
        let r = length-replicate old.width cell.Unknown in
        let c = slots.cells in
        let e = ap length pushed in omega (arith, e, l, r, c);
    places = λ n k is. slots.places n k (sym (same_cell n) ∙ is);
    far = slots.far;
    numbers = slots.numbers;
    past = λ i x le. slots.past i x (omega (arith, le));
  }

  pub site_same : (i x : ℕ) → slot_value with_site i x ≡ slot_value old i x
  site_same i x = elim (cases_lt x old.width) [
    | inl less ↦
        slot_near with_site i x less ∙ ap (known_in old.large.items) (same_cell (i * old.width + x)) ∙ sym (slot_near old i x less)
    | inr far ↦ slot_far with_site i x far ∙ sym (slot_far old i x far)
  ]

-- large values, maybe one more
module _ (old new : List Value) (more : (new ≡ old) ⊎ ((v : Value) × (new ≡ old ++ v ∷ []))) where
  large_kept : (k : ℕ) → k < length old → slice_get new k ≡ slice_get old k
  large_kept k lt = elim more [
    | inl same ↦ ap (λ l. slice_get l k) same
    | inr (v, pushed) ↦ ap (λ l. slice_get l k) pushed ∙ push_before old v k lt
  ]

  large_more : length old ≤ length new
  large_more = elim more [
    | inl same ↦ let e = ap length same in omega (arith, e)
    | inr (v, pushed) ↦ let e = ap length pushed in let l = length-append old (v ∷ []) in omega (arith, e, l)
  ]

  cell_kept : (c : Cell) → ((k : ℕ) → c ≡ cell.Large k → k < length old) → known_in new c ≡ known_in old c
  cell_kept cell.Unknown within = refl
  cell_kept (cell.Int z) within = refl
  cell_kept (cell.Bool b) within = refl
  cell_kept (cell.Tree n) within = refl
  cell_kept (cell.Large n) within = large_kept n (within n refl)

  number_kept : (n : ℕ) → ((k : ℕ) → n ≡ suc k → k < length old) → numbered new n ≡ numbered old n
  number_kept zero within = refl
  number_kept (suc k) within = large_kept k (within k refl)

-- a value is kept in a cell
module _ (old : Slots) (site attribute : ℕ) (value : Value) (c : Cell) (near : Vec Cell Global) (large : Vec Value Global)
    (is_near : attribute < old.width) (made : IsCellMade old.large.items large.items value c)
    (set : near.items ≡ slice_set old.near.items (site * old.width + attribute) c) where
  abbrev pub with_cell : Slots
  with_cell = record { width = old.width; near = near; far = old.far; large = large }

  more : (large.items ≡ old.large.items) ⊎ ((v : Value) × (large.items ≡ old.large.items ++ v ∷ []))
  more = elim made [ inl (holds, same) ↦ inl same | inr (is, pushed) ↦ inr (value, pushed) ]

  cell_value : known_in large.items c ≡ Some value
  cell_value = elim made [
    | inl ((small, holds), same) ↦ small_known c large.items small ∙ holds
    | inr (is, pushed) ↦
        ap (known_in large.items) is ∙ ap (λ l. slice_get l (length old.large.items)) pushed ∙ push_last old.large.items value
  ]

  cell_place : (k : ℕ) → c ≡ cell.Large k → k < length large.items
  cell_place k c_is = elim made [
    | inl ((small, holds), same) ↦ absurd (subst IsSmall c_is small)
    | inr (is, pushed) ↦
        let e : cell.Large (length old.large.items) ≡ cell.Large k = sym is ∙ c_is in
        let n : length old.large.items ≡ k = cc e in
        let l = length-append old.large.items (value ∷ []) in
        let p = ap length pushed in omega (arith, n, l, p)
  ]

  abbrev place : ℕ
  place = site * old.width + attribute

  other_cell : (n : ℕ) → n ≢ place → cell_at near.items n ≡ cell_at old.near.items n
  other_cell n d = ap (λ cells. cell_at cells n) set ∙ set_there old.near.items place n c d

  module _ (sites : ℕ) (slots : AreSlots sites old) (there : site < sites) where
    this_cell : cell_at near.items place ≡ c
    this_cell = ap (λ cells. cell_at cells place) set
        ∙ set_here old.near.items place c (place_within old sites site attribute slots there is_near)

    pub cell_slots : AreSlots sites with_cell
    cell_slots = record {
      cells = ap length set ∙ length-set old.near.items place c ∙ slots.cells;
      places = λ n k is. elim (cases_eq n place) [
        | inl e ↦ cell_place k (sym this_cell ∙ ap (cell_at near.items) (sym e) ∙ is)
        | inr d ↦
            let h = slots.places n k (sym (other_cell n d) ∙ is) in
            let m = large_more old.large.items large.items more in omega (arith, h, m)
      ];
      far = slots.far;
      numbers = λ i x n is. let h = slots.numbers i x n is in let m = large_more old.large.items large.items more in omega (arith, h, m);
      past = slots.past;
    }

    pub cell_set : slot_value with_cell site attribute ≡ Some value
    cell_set = slot_near with_cell site attribute is_near ∙ ap (known_in large.items) this_cell ∙ cell_value

    pub cell_others : (i other : ℕ) → (i ≢ site) ⊎ (other ≢ attribute) → slot_value with_cell i other ≡ slot_value old i other
    cell_others i other differs = elim (cases_lt other old.width) [
      | inl less ↦
          let apart : i * old.width + other ≢ place = λ e.
          let (same_site, same_attribute) = same_from_place i other site attribute old.width less is_near e in
          elim differs [ inl d ↦ d same_site | inr d ↦ d same_attribute ] in
          slot_near with_cell i other less ∙ ap (known_in large.items) (other_cell (i * old.width + other) apart)
          ∙ cell_kept old.large.items large.items more (cell_at old.near.items (i * old.width + other))
          (λ k is. slots.places (i * old.width + other) k is)
          ∙ sym (slot_near old i other less)
      | inr far ↦
          slot_far with_cell i other far
          ∙ number_kept old.large.items large.items more (number_at old.far i other) (λ k is. slots.numbers i other k is)
          ∙ sym (slot_far old i other far)
    ]

-- a value is kept by a number
module _ (old : Slots) (site attribute : ℕ) (value : Value) (far : SparseRows) (large : Vec Value Global) (is_far : old.width ≤ attribute)
    (pushed : large.items ≡ old.large.items ++ value ∷ []) (forest : IsForest far)
    (set : number_at far site attribute ≡ suc (length old.large.items))
    (columns : (other : ℕ) → other ≢ attribute → number_at far site other ≡ number_at old.far site other)
    (rows : (i other : ℕ) → i ≢ site → number_at far i other ≡ number_at old.far i other) where
  abbrev pub with_number : Slots
  with_number = record { width = old.width; near = old.near; far = far; large = large }

  one_more : (large.items ≡ old.large.items) ⊎ ((v : Value) × (large.items ≡ old.large.items ++ v ∷ []))
  one_more = inr (value, pushed)

  large_count : length large.items ≡ suc (length old.large.items)
  large_count = ap length pushed ∙ (let l = length-append old.large.items (value ∷ []) in omega (arith, l))

  number_cases : (i x : ℕ) → ((i ≡ site) × (x ≡ attribute)) ⊎ (number_at far i x ≡ number_at old.far i x)
  number_cases i x = elim (cases_eq i site) [
    | inl e ↦ elim (cases_eq x attribute) [
      | inl f ↦ inl (e, f)
      | inr d ↦ inr (subst (λ (z : ℕ). number_at far z x ≡ number_at old.far z x) (sym e) (columns x d))
    ]
    | inr d ↦ inr (rows i x d)
  ]

  module _ (sites : ℕ) (slots : AreSlots sites old) (there : site < sites) where
    pub number_slots : AreSlots sites with_number
    number_slots = record {
      cells = slots.cells;
      places = λ n k is. let h = slots.places n k is in omega (arith, h, large_count);
      far = forest;
      numbers = λ i x n is. elim (number_cases i x) [
        | inl (e, f) ↦
            let g : number_at far i x ≡ suc (length old.large.items) =
            ap (λ (z : ℕ). number_at far z x) e ∙ ap (number_at far site) f ∙ set in
            let h = sym g ∙ is in omega (arith, h, large_count)
        | inr same ↦ let h = slots.numbers i x n (sym same ∙ is) in omega (arith, h, large_count)
      ];
      past = λ i x le. rows i x (λ e. omega (arith, le, there, e)) ∙ slots.past i x le;
    }

    pub number_set : slot_value with_number site attribute ≡ Some value
    number_set =
        slot_far with_number site attribute is_far ∙ ap (numbered large.items) set
        ∙ ap (λ (l : List Value). slice_get l (length old.large.items)) pushed ∙ push_last old.large.items value

    pub number_others : (i other : ℕ) → (i ≢ site) ⊎ (other ≢ attribute) → slot_value with_number i other ≡ slot_value old i other
    number_others i other differs = elim (cases_lt other old.width) [
      | inl less ↦
          slot_near with_number i other less
          ∙ cell_kept old.large.items large.items one_more (cell_at old.near.items (i * old.width + other))
          (λ k is. slots.places (i * old.width + other) k is)
          ∙ sym (slot_near old i other less)
      | inr is_other_far ↦
          let same : number_at far i other ≡ number_at old.far i other = elim (number_cases i other) [
            | inl (e, f) ↦ absurd (elim differs [ inl d ↦ d e | inr d ↦ d f ])
            | inr g ↦ g
          ] in
          slot_far with_number i other is_other_far ∙ ap (numbered large.items) same
          ∙ number_kept old.large.items large.items one_more (number_at old.far i other) (λ k is. slots.numbers i other k is)
          ∙ sym (slot_far old i other is_other_far)
    ]

-- what is read at a number, and in a cell
pub number_within : (s : Slots) (sites site attribute n : ℕ) → AreSlots sites s → n ≡ number_at s.far site attribute → n ≢ 0
    → n - 1 < length s.large.items
number_within s sites site attribute zero slots is some = absurd (some refl)
number_within s sites site attribute (suc n) slots is some = let h = slots.numbers site attribute n (sym is) in omega (arith, h)

pub number_found : (s : Slots) (sites site attribute n : ℕ) (v : Value) → AreSlots sites s → n ≡ number_at s.far site attribute → n ≢ 0
    → v ≡ slice_index_or s.large.items (n - 1) v → Some v ≡ numbered s.large.items (number_at s.far site attribute)
number_found s sites site attribute zero v slots is some same = absurd (some refl)
number_found s sites site attribute (suc n) v slots is some same =
    let e : suc n - 1 ≡ n = omega arith in
    sym (ap (numbered s.large.items) (sym is) ∙ at_default s.large.items n v (slots.numbers site attribute n (sym is))
    ∙ ap Some (ap (λ (k : ℕ). slice_index_or s.large.items k v) (sym e) ∙ sym same))
