-- Where numbers of extensions go in another order.
use Rattle.std.proofs.Common.{◌≡◌, ◌<◌, ◌≤◌, ◌+◌, ◌-◌, ◌∙◌, ℕ, List, Some, slice_get, map, sym, ap, inl, inr, arith}
use Rattle.std.proofs.lemmas.Bool.{cases_lt}
use Rattle.wb_compose_theory.specs.Blocks.{lift, spread}
use Rattle.wb_compose_theory_grammar.specs.Places.{count_before, total_of}
use Rattle.wb_compose_theory_grammar.proofs.FactLemmas.{at_map, map_at}
use Rattle.wb_compose_theory_grammar.proofs.PlaceLemmas.{Located, after_all, in_extension, in_host, lift_below, lift_past, located}
use Rattle.wb_compose_theory_grammar.proofs.PlaceLemmas.{place_extension}
use Rattle.wb_compose_theory_grammar.proofs.PlaceLemmas.{place_host, place_past, spread_below, spread_middle, spread_past, within_total}
use Rattle.wb_compose_theory_order.specs.Orders.{IsReordering, number_at, number_to, place_to}

-- the other way round
pub reordering_back : {X : Type 0} {to from : ℕ → ℕ} {xs ys : List X} → IsReordering to from xs ys → IsReordering from to ys xs
reordering_back re = record { there = re.back; back = re.there; undone = re.redone; redone = re.undone }

-- a mapped list in two orders
pub reordering_map : {X Y : Type 0} (f : X → Y) {to from : ℕ → ℕ} {xs ys : List X} → IsReordering to from xs ys →
    IsReordering to from (map f xs) (map f ys)
reordering_map {X} {Y} f {to} {from} {xs} {ys} re =
    record { there = half xs ys to re.there; back = half ys xs from re.back; undone = re.undone; redone = re.redone }
  where
    half : (xs ys : List X) (to : ℕ → ℕ) → ((k : ℕ) (x : X) → slice_get xs k ≡ Some x → slice_get ys (to k) ≡ Some x) → (k : ℕ)
        (y : Y) → slice_get (map f xs) k ≡ Some y → slice_get (map f ys) (to k) ≡ Some y
    half xs ys to there k y at =
        let (x, x_at, is) = map_at f xs k y at in at_map f ys (to k) x (there k x x_at) ∙ ap Some (sym is)

module _ (own : ℕ) {to from : ℕ → ℕ} {sizes others : List ℕ} (re : IsReordering to from sizes others) where
  -- a number of the host
  pub to_host : (x : ℕ) → x < own → number_to own sizes others to x ≡ x
  to_host x below = ap (λ p. number_at own others (place_to to p)) (place_host own sizes x below)

  -- a number of an extension
  pub to_extension : (k size i x : ℕ) → slice_get sizes k ≡ Some size → i < size → x ≡ own + (count_before sizes k + i) →
      number_to own sizes others to x ≡ own + (count_before others (to k) + i)
  to_extension k size i x at within is =
      ap (λ p. number_at own others (place_to to p)) (place_extension own sizes k size i x at within is)

  -- a number past all
  pub to_past : (j x : ℕ) → x ≡ own + (total_of sizes + j) → number_to own sizes others to x ≡ own + (total_of others + j)
  to_past j x is = ap (λ p. number_at own others (place_to to p)) (place_past own sizes j x is)

  -- below the count
  pub to_below : (x : ℕ) → x < own + total_of sizes → number_to own sizes others to x < own + total_of others
  to_below x less = go (located own sizes x)
    where
      go : Located own sizes x → number_to own sizes others to x < own + total_of others
      go (in_host below) = let is = to_host x below in omega (arith, is, below)
      go (in_extension k size i at within x_is) =
          let is = to_extension k size i x at within x_is in
          let fits = within_total others (to k) size (re.there k size at) in
          omega (arith, is, within, fits)
      go (after_all j x_is) = absurd (omega (arith, less, x_is))

  -- an extension's numbers among those of all
  pub to_lift : (k size before after t : ℕ) → slice_get sizes k ≡ Some size → before ≡ count_before sizes k →
      after ≡ count_before others (to k) → t < own + size → number_to own sizes others to (lift own before t) ≡ lift own after t
  to_lift k size before after t at before_is after_is less = elim (cases_lt t own) [ inl near ↦ low near | inr far ↦ high far ]
    where
      low : t < own → number_to own sizes others to (lift own before t) ≡ lift own after t
      low near = ap (number_to own sizes others to) (lift_below own before t near) ∙ (to_host t near ∙ sym (lift_below own after t near))

      high : own ≤ t → number_to own sizes others to (lift own before t) ≡ lift own after t
      high far =
          let there = lift_past own before t far in
          let is : lift own before t ≡ own + (count_before sizes k + (t - own)) = omega (arith, there, before_is, far) in
          let moved = to_extension k size (t - own) (lift own before t) at (omega (arith, far, less)) is in
          let goal = lift_past own after t far in
          omega (arith, moved, goal, after_is, far)

  -- the same with what is after all extensions
  pub to_spread : (k size t : ℕ) → slice_get sizes k ≡ Some size →
      number_to own sizes others to (spread own (count_before sizes k) size (total_of sizes) t)
      ≡ spread own (count_before others (to k)) size (total_of others) t
  to_spread k size t at = elim (cases_lt t own) [
    | inl near ↦ low near
    | inr far ↦ elim (cases_lt t (own + size)) [ inl below ↦ middle far below | inr over ↦ high over ]
  ]
    where
      here : ℕ
      here = spread own (count_before sizes k) size (total_of sizes) t

      low : t < own → number_to own sizes others to here ≡ spread own (count_before others (to k)) size (total_of others) t
      low near = ap (number_to own sizes others to) (spread_below own (count_before sizes k) size (total_of sizes) t near) ∙
          (to_host t near ∙ sym (spread_below own (count_before others (to k)) size (total_of others) t near))

      middle : own ≤ t → t < own + size →
          number_to own sizes others to here ≡ spread own (count_before others (to k)) size (total_of others) t
      middle far below =
          let there = spread_middle own (count_before sizes k) size (total_of sizes) t far below in
          let is : here ≡ own + (count_before sizes k + (t - own)) = omega (arith, there, far) in
          let moved = to_extension k size (t - own) here at (omega (arith, far, below)) is in
          let goal = spread_middle own (count_before others (to k)) size (total_of others) t far below in
          omega (arith, moved, goal, far)

      high : own + size ≤ t → number_to own sizes others to here ≡ spread own (count_before others (to k)) size (total_of others) t
      high over =
          let there = spread_past own (count_before sizes k) size (total_of sizes) t over in
          let fits = within_total sizes k size at in
          let fit = within_total others (to k) size (re.there k size at) in
          let is : here ≡ own + (total_of sizes + (t - (own + size))) = omega (arith, there, over, fits) in
          let moved = to_past (t - (own + size)) here is in
          let goal = spread_past own (count_before others (to k)) size (total_of others) t over in
          omega (arith, moved, goal, over, fit)

  -- the host's with what is after all extensions
  pub to_host_spread : (t : ℕ) →
      number_to own sizes others to (spread own 0 0 (total_of sizes) t) ≡ spread own 0 0 (total_of others) t
  to_host_spread t = elim (cases_lt t own) [ inl near ↦ low near | inr far ↦ high far ]
    where
      low : t < own → number_to own sizes others to (spread own 0 0 (total_of sizes) t) ≡ spread own 0 0 (total_of others) t
      low near = ap (number_to own sizes others to) (spread_below own 0 0 (total_of sizes) t near) ∙
          (to_host t near ∙ sym (spread_below own 0 0 (total_of others) t near))

      high : own ≤ t → number_to own sizes others to (spread own 0 0 (total_of sizes) t) ≡ spread own 0 0 (total_of others) t
      high far =
          let there = spread_past own 0 0 (total_of sizes) t (omega (arith, far)) in
          let is : spread own 0 0 (total_of sizes) t ≡ own + (total_of sizes + (t - own)) = omega (arith, there, far) in
          let moved = to_past (t - own) (spread own 0 0 (total_of sizes) t) is in
          let goal = spread_past own 0 0 (total_of others) t (omega (arith, far)) in
          omega (arith, moved, goal, far)

-- numbers past all extensions, of which there are more behind them, in two blocks
module _ (own more : ℕ) {to from : ℕ → ℕ} {sizes others : List ℕ} (re : IsReordering to from sizes others) where
  -- they stay as they are among themselves, whatever else is among them
  pub to_above : (before size total y : ℕ) →
      number_to own sizes others to (spread (own + total_of sizes + more) before size total y)
      ≡ spread (own + total_of others + more) before size total (number_to own sizes others to y)
  to_above before size total y = elim (cases_lt y (own + total_of sizes)) [ inl near ↦ low near | inr far ↦ high far ]
    where
      here : ℕ
      here = spread (own + total_of sizes + more) before size total y

      there : ℕ
      there = number_to own sizes others to y

      low : y < own + total_of sizes →
          number_to own sizes others to here ≡ spread (own + total_of others + more) before size total there
      low near =
          let below = to_below own re y near in
          ap (number_to own sizes others to) (spread_below (own + total_of sizes + more) before size total y (omega (arith, near))) ∙
          sym (spread_below (own + total_of others + more) before size total there (omega (arith, below)))

      high : own + total_of sizes ≤ y →
          number_to own sizes others to here ≡ spread (own + total_of others + more) before size total there
      high far =
          let past = to_past own re (y - (own + total_of sizes)) y (omega (arith, far)) in
          elim (cases_lt y (own + total_of sizes + more)) [
            | inl near ↦
                let is = spread_below (own + total_of sizes + more) before size total y near in
                let goal = spread_below (own + total_of others + more) before size total there (omega (arith, past, far, near)) in
                ap (number_to own sizes others to) is ∙ sym goal
            | inr over ↦ elim (cases_lt y (own + total_of sizes + more + size)) [
              | inl within ↦
                  let is = spread_middle (own + total_of sizes + more) before size total y over within in
                  let goal = spread_middle (own + total_of others + more) before size total there (omega (arith, past, far, over))
                  (omega (arith, past, far, within)) in
                  let moved = to_past own re (y + before - (own + total_of sizes)) here (omega (arith, is, far)) in
                  omega (arith, moved, goal, past, far)
              | inr after ↦
                  let is = spread_past (own + total_of sizes + more) before size total y after in
                  let goal = spread_past (own + total_of others + more) before size total there (omega (arith, past, far, after)) in
                  let moved = to_past own re (y + (total - size) - (own + total_of sizes)) here (omega (arith, is, far)) in
                  omega (arith, moved, goal, past, far)
            ]
          ]

  -- a block of numbers after others
  pub to_shift : (j : ℕ) → number_to (own + more) sizes others to (own + j) ≡ own + number_to more sizes others to j
  to_shift j = go (located more sizes j)
    where
      go : Located more sizes j → number_to (own + more) sizes others to (own + j) ≡ own + number_to more sizes others to j
      go (in_host below) =
          let is = to_host (own + more) re (own + j) (omega (arith, below)) in
          let also = to_host more re j below in
          omega (arith, is, also)
      go (in_extension k size i at within j_is) =
          let is = to_extension (own + more) re k size i (own + j) at within (omega (arith, j_is)) in
          let also = to_extension more re k size i j at within j_is in
          omega (arith, is, also)
      go (after_all i j_is) =
          let is = to_past (own + more) re i (own + j) (omega (arith, j_is)) in
          let also = to_past more re i j j_is in
          omega (arith, is, also)

-- there and back
pub number_back : (own : ℕ) {to from : ℕ → ℕ} {sizes others : List ℕ} → IsReordering to from sizes others → (x : ℕ) →
    number_to own others sizes from (number_to own sizes others to x) ≡ x
number_back own {to} {from} {sizes} {others} re x = go (located own sizes x)
  where
    go : Located own sizes x → number_to own others sizes from (number_to own sizes others to x) ≡ x
    go (in_host below) = ap (number_to own others sizes from) (to_host own re x below) ∙ to_host own (reordering_back re) x below
    go (in_extension k size i at within is) =
        to_extension own (reordering_back re) (to k) size i (number_to own sizes others to x) (re.there k size at) within
        (to_extension own re k size i x at within is) ∙
        (ap (λ z. own + (count_before sizes z + i)) (re.undone k) ∙ sym is)
    go (after_all j is) =
        to_past own (reordering_back re) j (number_to own sizes others to x) (to_past own re j x is) ∙ sym is
