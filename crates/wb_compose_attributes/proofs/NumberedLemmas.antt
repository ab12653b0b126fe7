-- Lists with numbers: one element more, and lists of lists put together.
use Rattle.std.proofs.Common.{◌≡◌, ◌∙◌, ◌+◌, ◌<◌, ◌++◌, ◌∷◌, [], ℕ, zero, suc, List, Some, length, map, take}
use Rattle.std.proofs.Common.{slice_get, get_or, refl, sym, ap, subst}
use Rattle.std.proofs.Common.{arith}
use Rattle.std.proofs.lemmas.List.{append-nil, flat_map_more, length-take-le, map-append, take_more}
use Rattle.std.proofs.lemmas.Option.{get_or_from_slice_get, slice_get_within}
use Rattle.std.specs.List.{flat_map}
use Rattle.wb_compose_theory_lists.proofs.JoinedLemmas.{append_assoc}
use Rattle.wb_compose_theory_lists.specs.Joined.{joined, numbered}
use Rattle.wb_compose_theory_grammar.specs.Places.{count_before, total_of}

-- one element more
pub numbered_more : {X Y : Type 0} (f : ℕ → X → Y) (i : ℕ) (xs : List X) (x : X) →
    numbered f i (xs ++ x ∷ []) ≡ numbered f i xs ++ f (i + length xs) x ∷ []
numbered_more f i [] x = ap (λ k. f k x ∷ []) (let e : i ≡ i + 0 = omega arith in e)
numbered_more f i (y ∷ xs) x = ap (λ zs. f i y ∷ zs) (numbered_more f (suc i) xs x ∙
    ap (λ k. numbered f (suc i) xs ++ f k x ∷ []) (let e : suc i + length xs ≡ i + length (y ∷ xs) = omega arith in e))

pub total_more : (sizes : List ℕ) (size : ℕ) → total_of (sizes ++ size ∷ []) ≡ total_of sizes + size
total_more [] size = omega arith
total_more (s ∷ sizes) size = let rest = total_more sizes size in omega (arith, rest)

-- what comes before is the sum of the first
pub count_take : (sizes : List ℕ) (k : ℕ) → total_of (take k sizes) ≡ count_before sizes k
count_take [] zero = refl
count_take [] (suc k) = refl
count_take (s ∷ sizes) zero = refl
count_take (s ∷ sizes) (suc k) = let rest = count_take sizes k in omega (arith, rest)

pub map_take : {X Y : Type 0} (f : X → Y) (xs : List X) (k : ℕ) → map f (take k xs) ≡ take k (map f xs)
map_take f [] zero = refl
map_take f [] (suc k) = refl
map_take f (x ∷ xs) zero = refl
map_take f (x ∷ xs) (suc k) = ap (λ zs. f x ∷ zs) (map_take f xs k)

pub map_map : {X Y Z : Type 0} (f : Y → Z) (g : X → Y) (xs : List X) → map f (map g xs) ≡ map (λ x. f (g x)) xs
map_map f g [] = refl
map_map f g (x ∷ xs) = ap (λ zs. f (g x) ∷ zs) (map_map f g xs)

-- what is gathered of elements with their numbers
pub flat_numbered : {X Y Z : Type 0} (f : Y → List Z) (g : ℕ → X → Y) (i : ℕ) (xs : List X) →
    flat_map f (numbered g i xs) ≡ joined (numbered (λ k x. f (g k x)) i xs)
flat_numbered f g i [] = refl
flat_numbered f g i (x ∷ xs) = ap (λ zs. f (g i x) ++ zs) (flat_numbered f g (suc i) xs)

pub numbered_map : {X Y Z : Type 0} (f : ℕ → Y → Z) (g : X → Y) (i : ℕ) (xs : List X) →
    numbered f i (map g xs) ≡ numbered (λ k x. f k (g x)) i xs
numbered_map f g i [] = refl
numbered_map f g i (x ∷ xs) = ap (λ zs. f i (g x) ∷ zs) (numbered_map f g (suc i) xs)

-- equal at each number
pub numbered_same : {X Y : Type 0} (f g : ℕ → X → Y) → ((k : ℕ) (x : X) → f k x ≡ g k x) → (i : ℕ) (xs : List X) →
    numbered f i xs ≡ numbered g i xs
numbered_same f g same i [] = refl
numbered_same f g same i (x ∷ xs) = λ j. same i x j ∷ numbered_same f g same (suc i) xs j

-- a sum with one element more
pub total_next : {X : Type 0} (f : X → ℕ) (xs : List X) (i : ℕ) (x : X) (old new : ℕ) → i < length xs → x ≡ get_or xs i x →
    old ≡ total_of (map f (take i xs)) → new ≡ old + f x → new ≡ total_of (map f (take (i + 1) xs))
total_next f xs i x old new within is was step =
    let more : take (i + 1) xs ≡ take i xs ++ x ∷ [] = take_more xs i x within ∙ ap (λ z. take i xs ++ z ∷ []) (sym is) in
    let sums = ap (λ zs. total_of (map f zs)) more ∙ (ap total_of (map-append f (take i xs) (x ∷ []))
    ∙ total_more (map f (take i xs)) (f x)) in
    omega (arith, sums, was, step)

-- a list with numbers and one element more
pub numbered_next : {X Y : Type 0} (f : ℕ → X → Y) (xs : List X) (i : ℕ) (x : X) (old new : List Y) → slice_get xs i ≡ Some x →
    old ≡ numbered f 0 (take i xs) → new ≡ old ++ f i x ∷ [] → new ≡ numbered f 0 (take (i + 1) xs)
numbered_next f xs i x old new at was step =
    let within = slice_get_within xs i x at in
    let more : take (i + 1) xs ≡ take i xs ++ x ∷ [] =
    take_more xs i x within ∙ ap (λ z. take i xs ++ z ∷ []) (get_or_from_slice_get xs i x x at) in
    let len : length (take i xs) ≡ i = length-take-le i xs (omega (arith, within)) in
    step ∙ (ap (λ zs. zs ++ f i x ∷ []) was ∙ (ap (λ k. numbered f 0 (take i xs) ++ f k x ∷ [])
    (let e : i ≡ 0 + length (take i xs) = omega (arith, len) in e) ∙ (sym (numbered_more f 0 (take i xs) x) ∙
    ap (numbered f 0) (sym more))))

-- what is gathered of elements with their numbers, and one element more
pub flat_numbered_next : {X Y Z : Type 0} (f : Y → List Z) (g : ℕ → X → Y) (xs : List X) (i : ℕ) (x : X) (start old new : List Z) →
    slice_get xs i ≡ Some x → old ≡ start ++ flat_map f (numbered g 0 (take i xs)) → new ≡ old ++ f (g i x) →
    new ≡ start ++ flat_map f (numbered g 0 (take (i + 1) xs))
flat_numbered_next f g xs i x start old new at was step =
    let mine = numbered g 0 (take i xs) in
    step ∙ (ap (λ zs. zs ++ f (g i x)) was ∙ (flat_map_more f start mine (g i x) ∙
    ap (λ zs. start ++ flat_map f zs) (numbered_next g xs i x mine (mine ++ g i x ∷ []) at refl refl)))

-- nothing is gathered of no elements
pub flat_none : {X Y : Type 0} (f : X → List Y) (xs : List X) (ys : List Y) → ys ≡ ys ++ flat_map f (take 0 xs)
flat_none f [] ys = sym (append-nil ys)
flat_none f (x ∷ xs) ys = sym (append-nil ys)

-- a list with numbers after another, and one element more
pub numbered_after : {X Y : Type 0} (f : ℕ → X → Y) (first : ℕ) (xs : List X) (i : ℕ) (x : X) (start old new : List Y) →
    slice_get xs i ≡ Some x → old ≡ start ++ numbered f first (take i xs) → new ≡ old ++ f (first + i) x ∷ [] →
    new ≡ start ++ numbered f first (take (i + 1) xs)
numbered_after f first xs i x start old new at was step =
    let within = slice_get_within xs i x at in
    let more : take (i + 1) xs ≡ take i xs ++ x ∷ [] =
    take_more xs i x within ∙ ap (λ z. take i xs ++ z ∷ []) (get_or_from_slice_get xs i x x at) in
    let len : i ≡ length (take i xs) = sym (length-take-le i xs (omega (arith, within))) in
    step ∙ (ap (λ zs. zs ++ f (first + i) x ∷ []) was ∙ (append_assoc start (numbered f first (take i xs)) (f (first + i) x ∷ []) ∙
    ap (λ zs. start ++ zs) (ap (λ k. numbered f first (take i xs) ++ f (first + k) x ∷ []) len ∙
    (sym (numbered_more f first (take i xs) x) ∙ ap (numbered f first) (sym more)))))

-- of numbered elements
pub numbered_numbered : {X Y Z : Type 0} (f : ℕ → Y → Z) (g : ℕ → X → Y) (i : ℕ) (xs : List X) →
    numbered f i (numbered g i xs) ≡ numbered (λ k x. f k (g k x)) i xs
numbered_numbered f g i [] = refl
numbered_numbered f g i (x ∷ xs) = ap (λ zs. f i (g i x) ∷ zs) (numbered_numbered f g (suc i) xs)

pub map_numbered : {X Y Z : Type 0} (f : Y → Z) (g : ℕ → X → Y) (h : X → Z) → ((k : ℕ) (x : X) → f (g k x) ≡ h x) → (i : ℕ) (xs : List X) →
    map f (numbered g i xs) ≡ map h xs
map_numbered f g h same i [] = refl
map_numbered f g h same i (x ∷ xs) = λ j. same i x j ∷ map_numbered f g h same (suc i) xs j

-- equal at each place
pub numbered_where : {X Y : Type 0} (f g : ℕ → X → Y) (first : ℕ) (xs : List X) →
    ((i : ℕ) (x : X) → slice_get xs i ≡ Some x → f (first + i) x ≡ g (first + i) x) → numbered f first xs ≡ numbered g first xs
numbered_where f g first [] same = refl
numbered_where f g first (x ∷ xs) same =
    let here : f first x ≡ g first x =
    (let e : first ≡ first + 0 = omega arith in subst (λ z. f z x ≡ g z x) (sym e) (same 0 x refl)) in
    λ j. here j ∷ numbered_where f g (suc first) xs (λ i y at. (let e : suc first + i ≡ first + suc i = omega arith in
    subst (λ z. f z y ≡ g z y) (sym e) (same (suc i) y at))) j

pub numbered_plain : {X Y : Type 0} (f : X → Y) (g : ℕ → X → Y) (first : ℕ) (xs : List X) →
    ((i : ℕ) (x : X) → slice_get xs i ≡ Some x → f x ≡ g (first + i) x) → map f xs ≡ numbered g first xs
numbered_plain f g first [] same = refl
numbered_plain f g first (x ∷ xs) same =
    let here : f x ≡ g first x = (let e : first ≡ first + 0 = omega arith in subst (λ z. f x ≡ g z x) (sym e) (same 0 x refl)) in
    λ j. here j ∷ numbered_plain f g (suc first) xs (λ i y at. (let e : suc first + i ≡ first + suc i = omega arith in
    subst (λ z. f y ≡ g z y) (sym e) (same (suc i) y at))) j
