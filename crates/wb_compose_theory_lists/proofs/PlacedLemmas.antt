-- Numbers that are moved twice, and numbers that stay.
use Rattle.std.proofs.Common.{◌≡◌, ◌⊎◌, ◌∙◌, ◌<◌, ◌≤◌, ◌+◌, ◌-◌, ℕ}
use Rattle.std.proofs.Common.{refl, sym, ap, inl, inr, arith}
use Rattle.std.proofs.lemmas.Bool.{cases_lt}
use Rattle.wb_compose_theory_grammar.proofs.PlaceLemmas.{spread_below, spread_middle, spread_past}
use Rattle.wb_compose_theory_attributes.specs.Seen.{Rises}
use Rattle.wb_compose_theory_lists.specs.Joined.{Block, place_after, place_grouped}

-- an extension has nothing, or what it has is within what all have
abbrev pub Fits : Block → Type 0
Fits b = (b.size ≡ 0) ⊎ (b.before + b.size ≤ b.total)

pub size_within : (b : Block) → Fits b → b.size ≤ b.total
size_within b (inl none) = omega (arith, none)
size_within b (inr fits) = omega (arith, fits)

-- where a number is
pub after_below : (own : ℕ) (b : Block) (i : ℕ) → i < own → place_after own b i ≡ i
after_below own b i less = spread_below own b.before b.size b.total i less

pub after_middle : (own : ℕ) (b : Block) (i m : ℕ) → own ≤ i → i < own + b.size → i + b.before ≡ m → place_after own b i ≡ m
after_middle own b i m far less is = spread_middle own b.before b.size b.total i far less ∙ is

pub after_past : (own : ℕ) (b : Block) (i m : ℕ) → own + b.size ≤ i → i + (b.total - b.size) ≡ m → place_after own b i ≡ m
after_past own b i m far is = spread_past own b.before b.size b.total i far ∙ is

-- the block of an extension in the host with it alone, and that of the host there
abbrev pub alone : ℕ → Block
alone size = record { before = 0; size = size; total = size + 0 }

abbrev pub host_alone : ℕ → Block
host_alone size = record { before = 0; size = 0; total = size + 0 }

pub after_alone : (own size i : ℕ) → place_after own (alone size) i ≡ i
after_alone own size i = elim (cases_lt i own) [
  | inl less ↦ after_below own (alone size) i less
  | inr far ↦ elim (cases_lt i (own + size)) [
    | inl less ↦ after_middle own (alone size) i i far less (omega arith)
    | inr over ↦ after_past own (alone size) i i over (omega (arith, over))
  ]
]

pub grouped_alone : (leading following lead follow i : ℕ) → place_grouped leading following (alone lead) (alone follow) i ≡ i
grouped_alone leading following lead follow i =
    after_alone (leading + (lead + 0) + following) follow (place_after leading (alone lead) i) ∙ after_alone leading lead i

-- from the host by way of the host with an extension
pub after_twice : (own : ℕ) (b c : Block) → Fits b → c.size ≡ 0 → c.total ≡ b.total → (i : ℕ)
    → place_after own b (place_after own (host_alone b.size) i) ≡ place_after own c i
after_twice own b c fits none same i = elim (cases_lt i own) [
  | inl less ↦ ap (place_after own b) (after_below own (host_alone b.size) i less) ∙ (after_below own b i less ∙ sym
      (after_below own c i less))
  | inr far ↦
      let small = size_within b fits in
      let first : place_after own (host_alone b.size) i ≡ i + b.size = after_past own (host_alone b.size) i (i + b.size) (omega
      (arith, far)) (omega arith) in
      let second : place_after own b (i + b.size) ≡ i + b.total = after_past own b (i + b.size) (i + b.total) (omega (arith, far))
      (omega (arith, small)) in
      let whole : place_after own c i ≡ i + b.total = after_past own c i (i + b.total) (omega (arith, far, none)) (omega
      (arith, none, same)) in
      ap (place_after own b) first ∙ (second ∙ sym whole)
]

module _ (leading following : ℕ) (b c : Block) (fits : Fits b) (fits' : Fits c) where
  -- the host's numbers with the extension alone
  abbrev with_alone : ℕ → ℕ
  with_alone i = place_grouped leading following (host_alone b.size) (host_alone c.size) i

  pub alone_below : (i : ℕ) → i < leading → with_alone i ≡ i
  alone_below i less =
      ap (place_after (leading + (b.size + 0) + following) (host_alone c.size)) (after_below leading (host_alone b.size) i less)
      ∙ after_below (leading + (b.size + 0) + following) (host_alone c.size) i (omega (arith, less))

  pub alone_between : (i : ℕ) → leading ≤ i → i < leading + following → with_alone i ≡ i + b.size
  alone_between i far less =
      ap (place_after (leading + (b.size + 0) + following) (host_alone c.size))
      (after_past leading (host_alone b.size) i (i + b.size) (omega (arith, far)) (omega arith))
      ∙ after_below (leading + (b.size + 0) + following) (host_alone c.size) (i + b.size) (omega (arith, less))

  pub alone_past : (i : ℕ) → leading + following ≤ i → with_alone i ≡ i + b.size + c.size
  alone_past i far =
      ap (place_after (leading + (b.size + 0) + following) (host_alone c.size))
      (after_past leading (host_alone b.size) i (i + b.size) (omega (arith, far)) (omega arith))
      ∙ after_past (leading + (b.size + 0) + following) (host_alone c.size) (i + b.size) (i + b.size + c.size) (omega (arith, far))
      (omega arith)

  -- any block with nothing is moved as the host is
  module _ (d e : Block) (none : d.size ≡ 0) (same : d.total ≡ b.total) (none' : e.size ≡ 0) (same' : e.total ≡ c.total) where
    abbrev own : ℕ
    own = leading + b.total + following

    abbrev of_host : ℕ → ℕ
    of_host i = place_grouped leading following d e i

    host_own : leading + d.total + following ≡ own
    host_own = omega (arith, same)

    -- the two moves of each, by the value of the first
    in_two : (i m n : ℕ) → place_after leading b i ≡ m → place_after own c m ≡ n → place_grouped leading following b c i ≡ n
    in_two i m n first second = ap (place_after own c) first ∙ second

    host_in_two : (i m n : ℕ) → place_after leading d i ≡ m → place_after own e m ≡ n → of_host i ≡ n
    host_in_two i m n first second =
        ap (λ z. place_after z e (place_after leading d i)) host_own ∙ (ap (place_after own e) first ∙ second)

    twice_below : (i : ℕ) → i < leading → place_grouped leading following b c (with_alone i) ≡ of_host i
    twice_below i less =
        let below : i < own = omega (arith, less) in
        ap (place_grouped leading following b c) (alone_below i less)
        ∙ (in_two i i i (after_below leading b i less) (after_below own c i below)
        ∙ sym (host_in_two i i i (after_below leading d i less) (after_below own e i below)))

    twice_between : (i : ℕ) → leading ≤ i → i < leading + following → place_grouped leading following b c (with_alone i) ≡ of_host i
    twice_between i far less =
        let small = size_within b fits in
        let below : i + b.total < own = omega (arith, less) in
        let first : place_after leading b (i + b.size) ≡ i + b.total = after_past leading b (i + b.size) (i + b.total) (omega
        (arith, far)) (omega (arith, small)) in
        let whole : place_after leading d i ≡ i + b.total = after_past leading d i (i + b.total) (omega (arith, far, none)) (omega
        (arith, none, same)) in
        ap (place_grouped leading following b c) (alone_between i far less)
        ∙ (in_two (i + b.size) (i + b.total) (i + b.total) first (after_below own c (i + b.total) below)
        ∙ sym (host_in_two i (i + b.total) (i + b.total) whole (after_below own e (i + b.total) below)))

    twice_past : (i : ℕ) → leading + following ≤ i → place_grouped leading following b c (with_alone i) ≡ of_host i
    twice_past i far =
        let small = size_within b fits in
        let small' = size_within c fits' in
        let first : place_after leading b (i + b.size + c.size) ≡ i + b.total + c.size =
        after_past leading b (i + b.size + c.size) (i + b.total + c.size) (omega (arith, far)) (omega (arith, small)) in
        let second : place_after own c (i + b.total + c.size) ≡ i + b.total + c.total =
        after_past own c (i + b.total + c.size) (i + b.total + c.total) (omega (arith, far)) (omega (arith, small')) in
        let whole : place_after leading d i ≡ i + b.total = after_past leading d i (i + b.total) (omega (arith, far, none)) (omega
        (arith, none, same)) in
        let last : place_after own e (i + b.total) ≡ i + b.total + c.total =
        after_past own e (i + b.total) (i + b.total + c.total) (omega (arith, far, none')) (omega (arith, none', same')) in
        ap (place_grouped leading following b c) (alone_past i far)
        ∙ (in_two (i + b.size + c.size) (i + b.total + c.size) (i + b.total + c.total) first second
        ∙ sym (host_in_two i (i + b.total) (i + b.total + c.total) whole last))

    pub grouped_twice : (i : ℕ) → place_grouped leading following b c (with_alone i) ≡ of_host i
    grouped_twice i = elim (cases_lt i leading) [
      | inl less ↦ twice_below i less
      | inr far ↦ elim (cases_lt i (leading + following)) [
        | inl less ↦ twice_between i far less
        | inr over ↦ twice_past i over
      ]
    ]

-- moved numbers rise
data Value (own : ℕ) (b : Block) (i : ℕ) : Type 0 where
  below : i < own → place_after own b i ≡ i → Value own b i
  middle : own ≤ i → i < own + b.size → place_after own b i ≡ i + b.before → Value own b i
  past : own + b.size ≤ i → place_after own b i ≡ i + (b.total - b.size) → Value own b i

value : (own : ℕ) (b : Block) (i : ℕ) → Value own b i
value own b i = elim (cases_lt i own) [
  | inl less ↦ below less (after_below own b i less)
  | inr far ↦ elim (cases_lt i (own + b.size)) [
    | inl less ↦ middle far less (after_middle own b i (i + b.before) far less refl)
    | inr over ↦ past over (after_past own b i (i + (b.total - b.size)) over refl)
  ]
]

pub after_rises : (own : ℕ) (b : Block) → Fits b → Rises (place_after own b)
after_rises own b fits i j less = go (value own b i) (value own b j) where
  small : b.size ≤ b.total
  small = size_within b fits

  go : Value own b i → Value own b j → place_after own b i < place_after own b j
  go (below x e) (below y f) = omega (arith, e, f, less)
  go (below x e) (middle y z f) = omega (arith, e, f, less)
  go (below x e) (past y f) = omega (arith, e, f, less)
  go (middle x z e) (below y f) = absurd (omega (arith, x, y, less))
  go (middle x z e) (middle y u f) = omega (arith, e, f, less)
  go (middle x z e) (past y f) = elim fits [
    | inl none ↦ absurd (omega (arith, x, z, none))
    | inr good ↦ omega (arith, e, f, less, good)
  ]
  go (past x e) (below y f) = absurd (omega (arith, x, y, less))
  go (past x e) (middle y u f) = absurd (omega (arith, x, u, less))
  go (past x e) (past y f) = omega (arith, e, f, less)

pub grouped_rises : (leading following : ℕ) (b c : Block) → Fits b → Fits c → Rises (place_grouped leading following b c)
grouped_rises leading following b c fits fits' i j less =
    after_rises (leading + b.total + following) c fits' (place_after leading b i) (place_after leading b j)
    (after_rises leading b fits i j less)
