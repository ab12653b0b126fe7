-- Numbers in blocks have different names.
use Rattle.std.proofs.Common.{◌≡◌, ◌<◌, ◌≤◌, ◌+◌, ◌-◌, ℕ, suc, Bool, true, false, ltb, cond, List, [], ◌∷◌, refl, sym, ◌∙◌, ap, arith}
use Rattle.std.proofs.lemmas.Bool.{ltb-true, ltb-false}
use Rattle.wb_compose_theory.specs.Blocks.{name_of, spread, lift}

-- the block isn't below the first
later : (k : ℕ) (sizes : List ℕ) (p : ℕ) → k ≤ (name_of k sizes p).block
later k [] p = omega arith
later k (s ∷ sizes) p = go (later (suc k) sizes (p - s)) (ltb p s)
  where
    go : suc k ≤ (name_of (suc k) sizes (p - s)).block → (c : Bool) →
        k ≤ (cond c (record { block = k; number = p }) (name_of (suc k) sizes (p - s))).block
    go rest true = omega arith
    go rest false = omega (arith, rest)

-- numbers with one name are one
pub name_once : (k : ℕ) (sizes : List ℕ) (p q : ℕ) → name_of k sizes p ≡ name_of k sizes q → p ≡ q
name_once k [] p q e = ap (λ z. z.number) e
name_once k (s ∷ sizes) p q e = go (name_once (suc k) sizes (p - s) (q - s)) (ltb p s) (ltb q s) refl refl e
  where
    far : (r : ℕ) → k ≡ (name_of (suc k) sizes (r - s)).block → ⊥
    far r f = let l : suc k ≤ (name_of (suc k) sizes (r - s)).block = later (suc k) sizes (r - s) in omega (arith, f, l)

    go : (name_of (suc k) sizes (p - s) ≡ name_of (suc k) sizes (q - s) → p - s ≡ q - s) → (c d : Bool) → ltb p s ≡ c → ltb q s ≡ d →
        cond c (record { block = k; number = p }) (name_of (suc k) sizes (p - s)) ≡ cond d (record { block = k; number = q })
        (name_of (suc k) sizes (q - s)) → p ≡ q
    go back true true f g h = ap (λ z. z.number) h
    go back true false f g h = absurd (far q (ap (λ z. z.block) h))
    go back false true f g h = absurd (far p (sym (ap (λ z. z.block) h)))
    go back false false f g h =
        let a = ltb-false p s f in
        let b = ltb-false q s g in
        let c = back h in
        omega (arith, a, b, c)

-- a number is of the host, of the extension, or after both
data Where (own before size total t : ℕ) : Type 0 where
  in_host : t < own → spread own before size total t ≡ t → Where own before size total t
  in_extension : own ≤ t → t < own + size → spread own before size total t ≡ t + before → Where own before size total t
  behind : own + size ≤ t → spread own before size total t ≡ t + (total - size) → Where own before size total t

where_is : (own before size total t : ℕ) → Where own before size total t
where_is own before size total t = go (ltb t own) (ltb t (own + size)) refl refl
  where
    go : (c d : Bool) → ltb t own ≡ c → ltb t (own + size) ≡ d → Where own before size total t
    go true d f g = in_host (ltb-true t own f) (ap (λ z. cond z t (cond (ltb t (own + size)) (t + before) (t + (total - size)))) f)
    go false true f g =
        in_extension (ltb-false t own f) (ltb-true t (own + size) g)
        (ap (λ z. cond z t (cond (ltb t (own + size)) (t + before) (t + (total - size)))) f ∙
        ap (λ z. cond z (t + before) (t + (total - size))) g)
    go false false f g =
        behind (ltb-false t (own + size) g)
        (ap (λ z. cond z t (cond (ltb t (own + size)) (t + before) (t + (total - size)))) f ∙
        ap (λ z. cond z (t + before) (t + (total - size))) g)

-- numbers that go to one are one
pub spread_once : (own before size total : ℕ) → before + size ≤ total → (t u : ℕ) →
    spread own before size total t ≡ spread own before size total u → t ≡ u
spread_once own before size total fits t u e = go (where_is own before size total t) (where_is own before size total u)
  where
    numbers : (a b : ℕ) → spread own before size total t ≡ a → spread own before size total u ≡ b → a ≡ b
    numbers a b f g = sym f ∙ (e ∙ g)

    go : Where own before size total t → Where own before size total u → t ≡ u
    go (in_host a f) (in_host b g) = let k = numbers t u f g in k
    go (in_host a f) (in_extension b c g) = let k : t ≡ u + before = numbers t (u + before) f g in omega (arith, a, b, c, k)
    go (in_host a f) (behind b g) = let k : t ≡ u + (total - size) = numbers t (u + (total - size)) f g in omega (arith, a, b, k)
    go (in_extension a c f) (in_host b g) = let k : t + before ≡ u = numbers (t + before) u f g in omega (arith, a, b, c, k)
    go (in_extension a c f) (in_extension b d g) = let k : t + before ≡ u + before = numbers (t + before) (u + before) f g in
        omega (arith, k)
    go (in_extension a c f) (behind b g) = let k : t + before ≡ u + (total - size) = numbers (t + before) (u + (total - size)) f g in
        omega (arith, a, b, c, k, fits)
    go (behind a f) (in_host b g) = let k : t + (total - size) ≡ u = numbers (t + (total - size)) u f g in omega (arith, a, b, k)
    go (behind a f) (in_extension b c g) = let k : t + (total - size) ≡ u + before = numbers (t + (total - size)) (u + before) f g in
        omega (arith, a, b, c, k, fits)
    go (behind a f) (behind b g) = let k : t + (total - size) ≡ u + (total - size) =
        numbers (t + (total - size)) (u + (total - size)) f g in omega (arith, k)

-- the host's numbers go into those of the whole by way of those with the extension
pub lift_spread : (own before size total : ℕ) → before + size ≤ total → (t : ℕ) →
    spread own 0 0 total t ≡ spread own before size total (lift own size t)
lift_spread own before size total fits t = go (ltb t own) refl
  where
    plain_host : ltb t own ≡ true → spread own 0 0 total t ≡ t
    plain_host f = ap (λ z. cond z t (cond (ltb t (own + 0)) (t + 0) (t + (total - 0)))) f

    go : (c : Bool) → ltb t own ≡ c → spread own 0 0 total t ≡ spread own before size total (lift own size t)
    go true f =
        plain_host f ∙ (sym (ap (λ z. cond z t (cond (ltb t (own + size)) (t + before) (t + (total - size)))) f) ∙
        sym (ap (spread own before size total) (ap (λ z. cond z t (t + size)) f)))
    go false f = at (where_is own 0 0 total t) (where_is own before size total (t + size))
      where
        lifted : lift own size t ≡ t + size
        lifted = ap (λ z. cond z t (t + size)) f

        above : own ≤ t
        above = ltb-false t own f

        at : Where own 0 0 total t → Where own before size total (t + size) →
            spread own 0 0 total t ≡ spread own before size total (lift own size t)
        at (in_host a g) w = absurd (omega (arith, a, above))
        at (in_extension a b g) w = absurd (omega (arith, a, b))
        at (behind a g) (in_host b h) = absurd (omega (arith, b, above))
        at (behind a g) (in_extension b c h) = absurd (omega (arith, c, above))
        at (behind a g) (behind b h) =
            let k : t + (total - 0) ≡ (t + size) + (total - size) = omega (arith, fits) in
            g ∙ (k ∙ (sym h ∙ ap (spread own before size total) (sym lifted)))
