-- The values of cells: one more, fewer of them, and one at a place.
use Rattle.std.proofs.Common.{◌≡◌, ℕ, zero, suc, ◌-◌, ◌<◌, ◌≤◌, List, [], ◌∷◌, ◌++◌, Some, length, take, drop, get_or, refl, sym, ap}
use Rattle.std.proofs.Common.{subst}
use Rattle.std.proofs.Common.{◌∙◌, arith, length-append}
use Rattle.std.specs.Prelude.{slice_get, false}
use Rattle.std.proofs.lemmas.List.{map-append, length-map, take-append-drop, get_or-map, get_or_push, length-take-le, get_or_read}
use Rattle.std.proofs.lemmas.List.{take_at}
use Rattle.std.proofs.lemmas.Option.{slice_get-get_or}
use Rattle.std.proofs.Math.ListN.{get_or-append}
use Rattle.wb_values.specs.declared.value.TreeId.{TreeId}
use Rattle.wb_values.specs.declared.value.Value.{Value}
use Rattle.wb_values.specs.declared.value.Value.TheVariants as value
use Rattle.wb_values.specs.declared.cell.Cell.{Cell}
use Rattle.wb_values.specs.declared.cell.Cell.TheVariants as cell
use Rattle.wb_values.specs.Packed.{place_of, value_of, values_of, IsCell, count_after, ArePacked}
use Rattle.wb_values.specs.Inner.Small.{IsSmall, IsLarge}
use Rattle.wb_values.proofs.CallerLemmas.{one_at}

-- a cell counts at most one large value
after_le : (start : ℕ) (c : Cell) → start ≤ count_after start c
after_le start (cell.Tree n) = omega arith
after_le start (cell.Int z) = omega arith
after_le start (cell.Bool b) = omega arith
after_le start (cell.Text n bytes) = omega arith
after_le start (cell.Large high low) = omega arith

-- the numbers of the large values rise
packed_le : (start : ℕ) (cs : List Cell) (end : ℕ) → ArePacked start cs end → start ≤ end
packed_le start [] end h = omega (arith, h)
packed_le start (c ∷ cs) end h = let a = after_le start c in let b = packed_le (count_after start c) cs end h.1 in omega (arith, a, b)

-- one cell more
packed_snoc : (start : ℕ) (cs : List Cell) (end : ℕ) (c : Cell) → ArePacked start cs end → IsCell end c
    → ArePacked start (cs ++ c ∷ []) (count_after end c)
packed_snoc start [] end c h is = (subst (λ (n : ℕ). IsCell n c) (sym h) is, ap (λ (n : ℕ). count_after n c) h)
packed_snoc start (d ∷ ds) end c h is = (h.0, packed_snoc (count_after start d) ds end c h.1 is)

-- a cell stands for the same beside more large values
value_stable : (start : ℕ) (c : Cell) (large more : List Value) → IsCell start c → count_after start c ≤ length large
    → value_of (large ++ more) c ≡ value_of large c
value_stable start (cell.Tree n) large more is le = refl
value_stable start (cell.Int z) large more is le = refl
value_stable start (cell.Bool b) large more is le = refl
value_stable start (cell.Text n bytes) large more is le = refl
value_stable start (cell.Large high low) large more is le =
    get_or-append large more (value.Bool false) (place_of high low) (omega (arith, is, le))

-- and so do cells
values_stable : (start : ℕ) (cs : List Cell) (end : ℕ) (large more : List Value) → ArePacked start cs end → end ≤ length large
    → values_of cs (large ++ more) ≡ values_of cs large
values_stable start [] end large more h le = refl
values_stable start (c ∷ cs) end large more h le =
    let k = packed_le (count_after start c) cs end h.1 in
    let a = value_stable start c large more h.0 (omega (arith, k, le)) in
    let b = values_stable (count_after start c) cs end large more h.1 le in
    cc (a, b)

-- a cell that holds its value is one at each number
small_cell : (number : ℕ) (c : Cell) → IsSmall c → IsCell number c
small_cell number (cell.Tree n) is = tt
small_cell number (cell.Int z) is = tt
small_cell number (cell.Bool b) is = tt
small_cell number (cell.Text n bytes) is = is
small_cell number (cell.Large high low) is = absurd is

-- and counts no large value
small_after : (number : ℕ) (c : Cell) → IsSmall c → count_after number c ≡ number
small_after number (cell.Tree n) is = refl
small_after number (cell.Int z) is = refl
small_after number (cell.Bool b) is = refl
small_after number (cell.Text n bytes) is = refl
small_after number (cell.Large high low) is = absurd is

-- whatever the large values are
small_value : (large : List Value) (c : Cell) → IsSmall c → value_of large c ≡ value_of [] c
small_value large (cell.Tree n) is = refl
small_value large (cell.Int z) is = refl
small_value large (cell.Bool b) is = refl
small_value large (cell.Text n bytes) is = refl
small_value large (cell.Large high low) is = absurd is

-- one cell more that holds its value keeps the invariant
pub small_packed : (cs : List Cell) (large : List Value) (c : Cell) → ArePacked 0 cs (length large) → IsSmall c
    → ArePacked 0 (cs ++ c ∷ []) (length large)
small_packed cs large c h is =
    subst (λ (n : ℕ). ArePacked 0 (cs ++ c ∷ []) n) (small_after (length large) c is)
    (packed_snoc 0 cs (length large) c h (small_cell (length large) c is))

-- and is one value more
pub small_values : (cs : List Cell) (large : List Value) (c : Cell) → IsSmall c
    → values_of (cs ++ c ∷ []) large ≡ values_of cs large ++ value_of [] c ∷ []
small_values cs large c is =
    map-append (value_of large) cs (c ∷ []) ∙ ap (λ (v : Value). values_of cs large ++ v ∷ []) (small_value large c is)

-- the cell of a large value has its place
large_cell : (place : ℕ) (c : Cell) → IsLarge place c → IsCell place c × (count_after place c ≡ suc place)
large_cell place (cell.Tree n) is = absurd is
large_cell place (cell.Int z) is = absurd is
large_cell place (cell.Bool b) is = absurd is
large_cell place (cell.Text n bytes) is = absurd is
large_cell place (cell.Large high low) is = (is, refl)

-- and stands for the value there
large_value : (large : List Value) (v : Value) (c : Cell) → IsLarge (length large) c → value_of (large ++ v ∷ []) c ≡ v
large_value large v (cell.Tree n) is = absurd is
large_value large v (cell.Int z) is = absurd is
large_value large v (cell.Bool b) is = absurd is
large_value large v (cell.Text n bytes) is = absurd is
large_value large v (cell.Large high low) is = get_or_push large v (value.Bool false) (place_of high low) (sym is)

-- one large value more keeps the invariant
pub large_packed : (cs : List Cell) (large : List Value) (v : Value) (c : Cell) → ArePacked 0 cs (length large) → IsLarge (length large) c
    → ArePacked 0 (cs ++ c ∷ []) (length (large ++ v ∷ []))
large_packed cs large v c h is =
    let l = large_cell (length large) c is in
    let e : count_after (length large) c ≡ length (large ++ v ∷ []) = l.1 ∙ omega (arith, length-append large (v ∷ [])) in
    subst (λ (n : ℕ). ArePacked 0 (cs ++ c ∷ []) n) e (packed_snoc 0 cs (length large) c h l.0)

-- and is one value more
pub large_values : (cs : List Cell) (large : List Value) (v : Value) (c : Cell) → ArePacked 0 cs (length large) → IsLarge (length large) c
    → values_of (cs ++ c ∷ []) (large ++ v ∷ []) ≡ values_of cs large ++ v ∷ []
large_values cs large v c h is =
    let a = map-append (value_of (large ++ v ∷ [])) cs (c ∷ []) in
    let b = values_stable 0 cs (length large) large (v ∷ []) h (omega arith) in
    let d = large_value large v c is in
    cc (a, b, d)

-- the first cells have the first large values, and the next cell counts on from there
pub record CutFrom (start : ℕ) (cs : List Cell) (end k : ℕ) (c : Cell) : Type 0 where
  pub number : ℕ
  pub packed : ArePacked start (take k cs) number
  pub is_cell : IsCell number c
  pub after : count_after number c ≤ end

cut_from : (start : ℕ) (cs : List Cell) (end k : ℕ) (c : Cell) → ArePacked start cs end → k < length cs → get_or cs k c ≡ c
    → CutFrom start cs end k c
cut_from start [] end k c h lt is = absurd (omega (arith, lt))
cut_from start (d ∷ ds) end zero c h lt is =
    record {
      number = start;
      packed = refl;
      is_cell = subst (IsCell start) is h.0;
      after = subst (λ (x : Cell). count_after start x ≤ end) is (packed_le (count_after start d) ds end h.1);
    }
cut_from start (d ∷ ds) end (suc k) c h lt is =
    let r = cut_from (count_after start d) ds end k c h.1 (omega (arith, lt)) is in
    record { number = r.number; packed = (h.0, r.packed); is_cell = r.is_cell; after = r.after }

-- the value at a place is that of the cell there
pub value_there : (cs : List Cell) (large : List Value) (view : List Value) (k : ℕ) (c : Cell) → values_of cs large ≡ view → k < length view
    → c ≡ get_or cs k c → slice_get view k ≡ Some (value_of large c)
value_there cs large view k c shown lt is =
    let within : k < length cs = omega (arith, ap length shown, length-map cs (value_of large), lt) in
    subst (λ (xs : List Value). slice_get xs k ≡ Some (value_of large c)) shown
    (slice_get-get_or (values_of cs large) k (value_of large c) (omega (arith, within, length-map cs (value_of large)))
    ∙ ap (λ (v : Value). Some v) (get_or-map (value_of large) cs k c (value_of large c) within ∙ ap (value_of large) (sym is)))

-- what is known of the cell at a place
pub cell_there : (cs : List Cell) (large : List Value) (view : List Value) (k : ℕ) (c : Cell) → ArePacked 0 cs (length large)
    → values_of cs large ≡ view → k < length view → c ≡ get_or cs k c → CutFrom 0 cs (length large) k c
cell_there cs large view k c h shown lt is =
    cut_from 0 cs (length large) k c h (omega (arith, ap length shown, length-map cs (value_of large), lt)) (sym is)

-- what is known of a value and its cell, which was read at a place
pub record CellAt (large view : List Value) (k : ℕ) (c : Cell) : Type 0 where
  pub number : ℕ
  pub is_cell : IsCell number c
  pub after : count_after number c ≤ length large
  pub there : slice_get view k ≡ Some (value_of large c)

-- it is known of each
pub cell_at : (cs : List Cell) (large view : List Value) (k : ℕ) (c d : Cell) → ArePacked 0 cs (length large) → values_of cs large ≡ view
    → k < length view → c ≡ get_or cs k c → c ≡ d → CellAt large view k d
cell_at cs large view k c d h shown lt is same =
    let r = cell_there cs large view k c h shown lt is in
    let v = value_there cs large view k c shown lt is in
    subst (CellAt large view k) same (record { number = r.number; is_cell = r.is_cell; after = r.after; there = v })

-- the place of a large value is inside
pub large_inside : (large view : List Value) (k high low : ℕ) → CellAt large view k (cell.Large high low) → place_of high low < length large
large_inside large view k high low c = omega (arith, c.is_cell, c.after)

-- a value that was read in the place of a cell
pub large_there : (large view : List Value) (k high low place : ℕ) (v : Value) → CellAt large view k (cell.Large high low)
    → place ≡ place_of high low → v ≡ get_or large place v → slice_get view k ≡ Some v
large_there large view k high low place v c is read =
    let inside : place < length large = omega (arith, is, large_inside large view k high low c) in
    let e : value_of large (cell.Large high low) ≡ v =
    ap (λ (n : ℕ). get_or large n (value.Bool false)) (sym is) ∙ sym (get_or_read large place v inside read (value.Bool false)) in
    c.there ∙ ap (λ (x : Value). Some x) e

-- no cell but that of a tree or of a large value stands for a tree
pub no_tree : (large : List Value) (c : Cell) (t : TreeId) → ((n : ℕ) → c ≡ cell.Tree n → ⊥) → ((high low : ℕ) → c ≡ cell.Large high low → ⊥)
    → value_of large c ≡ value.Tree t → ⊥
no_tree large (cell.Tree n) t small big is = small n refl
no_tree large (cell.Int z) t small big is = absurd cc
no_tree large (cell.Bool b) t small big is = absurd cc
no_tree large (cell.Text n bytes) t small big is = absurd cc
no_tree large (cell.Large high low) t small big is = big high low refl

-- no cell but that of a text or of a large value stands for a text
pub no_text : (large : List Value) (c : Cell) (t : List ℕ) → ((n : ℕ) (bytes : List ℕ) → c ≡ cell.Text n bytes → ⊥)
    → ((high low : ℕ) → c ≡ cell.Large high low → ⊥) → value_of large c ≡ value.Text t → ⊥
no_text large (cell.Tree n) t small big is = absurd cc
no_text large (cell.Int z) t small big is = absurd cc
no_text large (cell.Bool b) t small big is = absurd cc
no_text large (cell.Text n bytes) t small big is = small n bytes refl
no_text large (cell.Large high low) t small big is = big high low refl

-- a cell that isn't that of a large value holds its value
pub small_of : (number : ℕ) (c : Cell) → IsCell number c → ((high low : ℕ) → c ≡ cell.Large high low → ⊥) → IsSmall c
small_of number (cell.Tree n) is other = tt
small_of number (cell.Int z) is other = tt
small_of number (cell.Bool b) is other = tt
small_of number (cell.Text n bytes) is other = is
small_of number (cell.Large high low) is other = absurd (other high low refl)

-- there is one at each place
pub some_one : (xs : List Value) (k : ℕ) → k < length xs → (x : Value) × (take 1 (drop k xs) ≡ x ∷ [])
some_one xs k lt =
    let x = get_or xs k (value.Bool false) in (x, one_at xs k x (slice_get-get_or xs k (value.Bool false) lt))

-- the same of a value that a cell holds
pub small_at : (large view : List Value) (k : ℕ) (c : Cell) → CellAt large view k c → ((high low : ℕ) → c ≡ cell.Large high low → ⊥)
    → IsSmall c × (take 1 (drop k view) ≡ value_of [] c ∷ [])
small_at large view k c at other =
    let small = small_of at.number c at.is_cell other in
    (small, one_at view k (value_of [] c) (at.there ∙ ap (λ (v : Value). Some v) (small_value large c small)))

-- the last cell, and how many large values there are before it
record LastFrom (start : ℕ) (ds : List Cell) (c : Cell) (end : ℕ) : Type 0 where
  pub number : ℕ
  pub packed : ArePacked start ds number
  pub after : count_after number c ≡ end

last_from : (start : ℕ) (ds : List Cell) (c : Cell) (end : ℕ) → ArePacked start (ds ++ c ∷ []) end → LastFrom start ds c end
last_from start [] c end h = record { number = start; packed = refl; after = h.1 }
last_from start (d ∷ ds) c end h =
    let r = last_from (count_after start d) ds c end h.1 in
    record { number = r.number; packed = (h.0, r.packed); after = r.after }

-- the values but for the last
value_rest : (ds : List Cell) (c : Cell) (large view : List Value) → values_of (ds ++ c ∷ []) large ≡ view
    → values_of ds large ≡ take (length view - 1) view
value_rest ds c large view shown =
    let whole : values_of ds large ++ value_of large c ∷ [] ≡ view = sym (map-append (value_of large) ds (c ∷ [])) ∙ shown in
    let e : length (values_of ds large) ≡ length view - 1 =
    omega (arith, ap length whole, length-append (values_of ds large) (value_of large c ∷ [])) in
    sym (subst (λ (xs : List Value). take (length view - 1) xs ≡ values_of ds large) whole
    (take_at (values_of ds large) (value_of large c ∷ []) (length view - 1) e))

-- what is left without the last value
pub record Rest (ds : List Cell) (large view : List Value) : Type 0 where
  pub packed : ArePacked 0 ds (length large)
  pub values : values_of ds large ≡ take (length view - 1) view

-- where the last value lies in its cell
pub small_rest : (cs ds : List Cell) (c : Cell) (large view : List Value) → ArePacked 0 cs (length large) → values_of cs large ≡ view
    → cs ≡ ds ++ c ∷ [] → ((high low : ℕ) → c ≡ cell.Large high low → ⊥) → Rest ds large view
small_rest cs ds c large view h shown split other =
    let r = last_from 0 ds c (length large) (subst (λ (xs : List Cell). ArePacked 0 xs (length large)) split h) in
    record {
      packed = subst (ArePacked 0 ds) (unmoved r.number c other ∙ r.after) r.packed;
      values = value_rest ds c large view (subst (λ (xs : List Cell). values_of xs large ≡ view) split shown);
    }
  where
    unmoved : (number : ℕ) (d : Cell) → ((high low : ℕ) → d ≡ cell.Large high low → ⊥) → number ≡ count_after number d
    unmoved number (cell.Tree n) no_large = refl
    unmoved number (cell.Int z) no_large = refl
    unmoved number (cell.Bool b) no_large = refl
    unmoved number (cell.Text n bytes) no_large = refl
    unmoved number (cell.Large high low) no_large = absurd (no_large high low refl)

-- where it is the last large value
pub large_last : (cs ds : List Cell) (high low : ℕ) (large : List Value) → ArePacked 0 cs (length large)
    → cs ≡ ds ++ cell.Large high low ∷ [] → ArePacked 0 ds (length large - 1) × (1 ≤ length large)
large_last cs ds high low large h split =
    let r = last_from 0 ds (cell.Large high low) (length large) (subst (λ (xs : List Cell). ArePacked 0 xs (length large)) split h) in
    let e : r.number ≡ length large - 1 = omega (arith, r.after) in
    (subst (ArePacked 0 ds) e r.packed, omega (arith, r.after))

pub large_rest : (cs ds : List Cell) (high low n : ℕ) (large view : List Value) → ArePacked 0 cs (length large) → values_of cs large ≡ view
    → cs ≡ ds ++ cell.Large high low ∷ [] → n ≡ length large → Rest ds (take (n - 1) large) view
large_rest cs ds high low n large view h shown split counted =
    let r = large_last cs ds high low large h split in
    let first : ArePacked 0 ds (n - 1) = subst (λ (m : ℕ). ArePacked 0 ds (m - 1)) (sym counted) r.0 in
    let len : length (take (n - 1) large) ≡ n - 1 = length-take-le (n - 1) large (omega (arith, counted)) in
    let a = values_stable 0 ds (n - 1) (take (n - 1) large) (drop (n - 1) large) first (omega (arith, len)) in
    let b : values_of ds large ≡ values_of ds (take (n - 1) large) =
    subst (λ (xs : List Value). values_of ds xs ≡ values_of ds (take (n - 1) large)) (take-append-drop (n - 1) large) a in
    record {
      packed = subst (ArePacked 0 ds) (sym len) first;
      values = sym b ∙ value_rest ds (cell.Large high low) large view (subst (λ (xs : List Cell). values_of xs large ≡ view) split shown);
    }
