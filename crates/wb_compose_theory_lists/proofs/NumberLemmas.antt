-- The numbers of a host, of the host with an extension, and of the union: what the first become by way of the second.
use Rattle.std.proofs.Common.{◌≡◌, ◌⊎◌, ◌∙◌, ◌<◌, ◌≤◌, ◌+◌, ◌-◌, ◌∷◌, [], ℕ, List, Option, Some, None, length, map, option_map, slice_get}
use Rattle.std.proofs.Common.{refl, sym, ap, inl, inr, arith, ltb, cond}
use Rattle.std.proofs.lemmas.Bool.{cases_lt, lt-ltb, le-ltb}
use Rattle.std.proofs.lemmas.Option.{slice_get-map}
use Rattle.wb_compose_theory_grammar.proofs.PlaceLemmas.{within_total, lift_below, lift_past}
use Rattle.wb_compose_theory_attributes.specs.Numbers.{NumberMap}
use Rattle.wb_compose_theory_attributes.specs.Seen.{Rises, KeepsOrder}
use Rattle.wb_compose_theory_lists.specs.Additions.{Rows, Addition, nothing}
use Rattle.wb_compose_theory_lists.specs.Numbers.{host_locals, number_with, number_without, block_of, local_number, numbers_of}
use Rattle.wb_compose_theory_lists.proofs.PlacedLemmas.{Fits, after_alone, grouped_alone, after_twice, grouped_twice, after_rises}
use Rattle.wb_compose_theory_lists.proofs.PlacedLemmas.{grouped_rises}
use Rattle.wb_compose_theory_lists.proofs.TwiceLemmas.{IsTwice}

-- an extension of this number, or nothing
abbrev pub IsMember : List Addition → ℕ → Addition → Type 0
IsMember all k x = (x ≡ nothing) ⊎ (slice_get all k ≡ Some x)

-- the host's number of a production
module _ (host : Rows) (x : Addition) where
  abbrev lead : ℕ
  lead = length host.productions

  abbrev own : ℕ
  own = length x.rows.productions

  abbrev follow : ℕ
  follow = length host.abstract_productions

  abbrev third : ℕ → Option ℕ
  third p = cond (ltb p (lead + own + follow)) (Some (p - own)) None

  abbrev second : ℕ → Option ℕ
  second p = cond (ltb p (lead + own)) None (third p)

  pub without_below : (p : ℕ) → p < lead → number_without host x p ≡ Some p
  without_below p less = ap (λ c. cond c (Some p) (second p)) (lt-ltb p lead less)

  pub without_own : (p : ℕ) → lead ≤ p → p < lead + own → number_without host x p ≡ None
  without_own p far less =
      ap (λ c. cond c (Some p) (second p)) (le-ltb p lead far) ∙ ap (λ c. cond c None (third p)) (lt-ltb p (lead + own) less)

  pub without_follow : (p m : ℕ) → lead + own ≤ p → p < lead + own + follow → p ≡ m + own → number_without host x p ≡ Some m
  without_follow p m far less is =
      let near : lead ≤ p = omega (arith, far) in
      let e : p - own ≡ m = omega (arith, is) in
      ap (λ c. cond c (Some p) (second p)) (le-ltb p lead near)
      ∙ (ap (λ c. cond c None (third p)) (le-ltb p (lead + own) far)
      ∙ (ap (λ c. cond c (Some (p - own)) None) (lt-ltb p (lead + own + follow) less) ∙ ap Some e))

  pub without_past : (p : ℕ) → lead + own + follow ≤ p → number_without host x p ≡ None
  without_past p far =
      let near : lead ≤ p = omega (arith, far) in
      let middle : lead + own ≤ p = omega (arith, far) in
      ap (λ c. cond c (Some p) (second p)) (le-ltb p lead near)
      ∙ (ap (λ c. cond c None (third p)) (le-ltb p (lead + own) middle)
      ∙ ap (λ c. cond c (Some (p - own)) None) (le-ltb p (lead + own + follow) far))

  -- of a production that the host has
  pub without_with : (m : ℕ) → m < lead + follow → number_without host x (number_with host x m) ≡ Some m
  without_with m less = elim (cases_lt m lead) [
    | inl near ↦ ap (number_without host x) (lift_below lead own m near) ∙ without_below m near
    | inr far ↦ ap (number_without host x) (lift_past lead own m far)
        ∙ without_follow (m + own) m (omega (arith, far)) (omega (arith, less)) refl
  ]

pub without_nothing : (host : Rows) (m : ℕ) → m < length host.productions + length host.abstract_productions
    → number_without host nothing m ≡ Some m
without_nothing host m less = elim (cases_lt m (length host.productions)) [
  | inl near ↦ without_below host nothing m near
  | inr far ↦ without_follow host nothing m m (omega (arith, far)) (omega (arith, less)) (omega arith)
]

module _ (host : Rows) (all : List Addition) (k : ℕ) (x : Addition) (member : IsMember all k x) where
  -- the numbers of the extension in the union, and those of the host there; and both with the extension alone
  abbrev pub t : NumberMap
  t = numbers_of host all k x

  abbrev pub h : NumberMap
  h = numbers_of host all 0 nothing

  abbrev pub u : NumberMap
  u = numbers_of host (x ∷ []) 0 nothing

  abbrev pub v : NumberMap
  v = numbers_of host (x ∷ []) 0 x

  pub fits_of : (size : Addition → ℕ) → size nothing ≡ 0 → Fits (block_of host all size k x)
  fits_of size zero_of = elim member [
    | inl none ↦ inl (ap size none ∙ zero_of)
    | inr at ↦ inr (within_total (map size all) k (size x) (slice_get-map size all k ∙ ap (option_map size) at))
  ]

  pub twice_host : IsTwice u t h
  twice_host = record {
    terminal = after_twice host.terminals (block_of host all (λ (y : Addition). y.rows.terminals) k x)
        (block_of host all (λ (y : Addition). y.rows.terminals) 0 nothing) (fits_of (λ (y : Addition). y.rows.terminals) refl) refl refl;
    nonterminal = grouped_twice (length host.nonterminals) (length host.abstract_nonterminals)
        (block_of host all (λ (y : Addition). length y.rows.nonterminals) k x)
        (block_of host all (λ (y : Addition). length y.rows.abstract_nonterminals) k x)
        (fits_of (λ (y : Addition). length y.rows.nonterminals) refl) (fits_of (λ (y : Addition). length y.rows.abstract_nonterminals) refl)
        (block_of host all (λ (y : Addition). length y.rows.nonterminals) 0 nothing)
        (block_of host all (λ (y : Addition). length y.rows.abstract_nonterminals) 0 nothing) refl refl refl refl;
    attribute = after_twice (length host.attributes) (block_of host all (λ (y : Addition). length y.rows.attributes) k x)
        (block_of host all (λ (y : Addition). length y.rows.attributes) 0 nothing)
        (fits_of (λ (y : Addition). length y.rows.attributes) refl) refl refl;
    production = grouped_twice (length host.productions) (length host.abstract_productions)
        (block_of host all (λ (y : Addition). length y.rows.productions) k x)
        (block_of host all (λ (y : Addition). length y.rows.abstract_productions) k x)
        (fits_of (λ (y : Addition). length y.rows.productions) refl) (fits_of (λ (y : Addition). length y.rows.abstract_productions) refl)
        (block_of host all (λ (y : Addition). length y.rows.productions) 0 nothing)
        (block_of host all (λ (y : Addition). length y.rows.abstract_productions) 0 nothing) refl refl refl refl;
  }

  pub twice_own : IsTwice v t t
  twice_own = record {
    terminal = λ i. ap t.terminal (after_alone host.terminals x.rows.terminals i);
    nonterminal = λ i. ap t.nonterminal (grouped_alone (length host.nonterminals) (length host.abstract_nonterminals)
        (length x.rows.nonterminals) (length x.rows.abstract_nonterminals) i);
    attribute = λ i. ap t.attribute (after_alone (length host.attributes) (length x.rows.attributes) i);
    production = λ i. ap t.production (grouped_alone (length host.productions) (length host.abstract_productions)
        (length x.rows.productions) (length x.rows.abstract_productions) i);
  }

  -- locals of the host's productions
  local_of_host : (m y : ℕ) → local_number host all k x (Some m) (local_number host (x ∷ []) 0 nothing (Some m) y)
      ≡ local_number host all 0 nothing (Some m) y
  local_of_host m y =
      after_twice (length (host_locals host m)) (block_of host all (λ (z : Addition). length (z.locals m)) k x)
      (block_of host all (λ (z : Addition). length (z.locals m)) 0 nothing) (fits_of (λ (z : Addition). length
      (z.locals m)) refl) refl refl y

  pub host_local_twice : (m : ℕ) → m < length host.productions + length host.abstract_productions → (y : ℕ)
      → t.local_in (number_with host x m) (u.local_in m y) ≡ h.local_in m y
  host_local_twice m less y =
      ap (λ o. local_number host all k x o (u.local_in m y)) (without_with host x m less)
      ∙ (ap (λ o. local_number host all k x (Some m) (local_number host (x ∷ []) 0 nothing o y)) (without_nothing host m less)
      ∙ (local_of_host m y ∙ sym (ap (λ o. local_number host all 0 nothing o y) (without_nothing host m less))))

  -- and of an extension's
  local_alone : (o : Option ℕ) (y : ℕ) → local_number host (x ∷ []) 0 x o y ≡ y
  local_alone None y = refl
  local_alone (Some m) y = after_alone (length (host_locals host m)) (length (x.locals m)) y

  pub own_local_twice : (p y : ℕ) → t.local_in p (v.local_in p y) ≡ t.local_in p y
  own_local_twice p y = ap (t.local_in p) (local_alone (number_without host x p) y)

  -- new numbers keep the order
  local_rises : (o : Option ℕ) → Rises (local_number host all k x o)
  local_rises None i j less = less
  local_rises (Some m) i j less =
      after_rises (length (host_locals host m)) (block_of host all (λ (z : Addition). length (z.locals m)) k x)
      (fits_of (λ (z : Addition). length (z.locals m)) refl) i j less

  pub keeps_order : KeepsOrder t
  keeps_order = record {
    nonterminals = grouped_rises (length host.nonterminals) (length host.abstract_nonterminals)
        (block_of host all (λ (y : Addition). length y.rows.nonterminals) k x)
        (block_of host all (λ (y : Addition). length y.rows.abstract_nonterminals) k x)
        (fits_of (λ (y : Addition). length y.rows.nonterminals) refl) (fits_of (λ
        (y : Addition). length y.rows.abstract_nonterminals) refl);
    attributes = after_rises (length host.attributes) (block_of host all (λ (y : Addition). length y.rows.attributes) k x)
        (fits_of (λ (y : Addition). length y.rows.attributes) refl);
    productions = grouped_rises (length host.productions) (length host.abstract_productions)
        (block_of host all (λ (y : Addition). length y.rows.productions) k x)
        (block_of host all (λ (y : Addition). length y.rows.abstract_productions) k x)
        (fits_of (λ (y : Addition). length y.rows.productions) refl) (fits_of (λ (y : Addition). length y.rows.abstract_productions) refl);
    locals = λ p. local_rises (number_without host x p);
  }
