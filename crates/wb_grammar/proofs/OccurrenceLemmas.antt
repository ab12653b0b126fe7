-- The places of a right side that each of its parts has.
use Rattle.std.proofs.Common.{length-drop, ◌≡◌, ◌≢◌, ℕ, ◌+◌, ◌-◌, ◌<◌, ◌≤◌, ◌⊎◌, zero, suc, Bool, false, List, [], ◌∷◌, ◌++◌, length}
use Rattle.std.proofs.Common.{get_or, take, drop, refl, sym, ◌∙◌, ap, subst, inl, inr, arith}
use Rattle.std.specs.Prelude.{All, Contains, ◌↔◌}
use Rattle.std.proofs.lemmas.List.{take_all, drop_all}
use Rattle.std.proofs.Math.Seq.{drop-cons}
use Rattle.std.proofs.lemmas.List.Elements.{All-head, All-tail, All-cons, All-nil, Contains-append_right}
use Rattle.wb_base.specs.declared.symbol.Symbol.{Symbol}
use Rattle.wb_grammar.specs.Inner.LeastSets.{Holds}
use Rattle.wb_grammar.specs.declared.occurrence.Occurrence.TheVariants.{Any, LeftCorner, HiddenLeft, Unit}
use Rattle.wb_grammar.specs.Inner.Edges.{IsPlaced, IsLeading, over, stops, goes_on}

-- an empty list has denied element
pub contains_nil : (x : Symbol) → Contains [] x → ⊥
contains_nil x (k, lt, is) = omega arith

-- an element is the first or a later one
pub contains_cases : (y : Symbol) (ys : List Symbol) (x : Symbol) → Contains (y ∷ ys) x → (y ≡ x) ⊎ Contains ys x
contains_cases y ys x (zero, lt, is) = inl is
contains_cases y ys x (suc k, lt, is) = inr (k, omega arith, is)

contains_first : (y : Symbol) (ys : List Symbol) (x : Symbol) → y ≡ x → Contains (y ∷ ys) x
contains_first y ys x is = (0, omega arith, is)

contains_later : (y : Symbol) (ys : List Symbol) (x : Symbol) → Contains ys x → Contains (y ∷ ys) x
contains_later y ys x (k, lt, is) = (suc k, omega arith, is)

-- a first symbol that is not held is at the first place of what the set holds at the beginning
refused : (s : List Bool) (y b : Symbol) (before : List Symbol) → ¬ Holds false s y → y ≡ b → All (Holds false s) (b ∷ before) → ⊥
refused s y b before denied is all = denied (subst (Holds false s) (sym is) (All-head (Holds false s) b before all))

pub corner_there : {s : List Bool} {w : List Symbol} {k : ℕ} → IsLeading s w k → (x : Symbol) → Contains (take (suc k) w) x →
    IsPlaced LeftCorner s w x
corner_there over x h = absurd (contains_nil x h)
corner_there {s} (stops {x = y} {w} denied) x h = elim (contains_cases y (take 0 w) x h) [
  | inl first ↦ record { before = []; after = w; is = ap (λ z. z ∷ w) first; fits = All-nil (Holds false s) }
  | inr rest ↦ absurd (contains_nil x rest)
]
corner_there {s} (goes_on {x = y} {w} {count} held lead) x h = elim (contains_cases y (take (suc count) w) x h) [
  | inl first ↦ record { before = []; after = w; is = ap (λ z. z ∷ w) first; fits = All-nil (Holds false s) }
  | inr rest ↦
      let p = corner_there lead x rest in
      record { before = y ∷ p.before; after = p.after; is = ap (λ z. y ∷ z) p.is; fits = All-cons (Holds false s) y p.before held p.fits }
]

pub corner_back : {s : List Bool} {w : List Symbol} {k : ℕ} → IsLeading s w k → (x : Symbol) (before after : List Symbol) →
    w ≡ before ++ x ∷ after → All (Holds false s) before → Contains (take (suc k) w) x
corner_back over x [] after e all = cc
corner_back over x (b ∷ before) after e all = cc
corner_back (stops {x = y} {w} denied) x [] after e all = contains_first y (take 0 w) x (cc)
corner_back {s} (stops {x = y} {w} denied) x (b ∷ before) after e all = absurd (refused s y b before denied (cc) all)
corner_back (goes_on {x = y} {w} {count} held lead) x [] after e all = contains_first y (take (suc count) w) x (cc)
corner_back {s} (goes_on {x = y} {w} {count} held lead) x (b ∷ before) after e all =
    contains_later y (take (suc count) w) x (corner_back lead x before after (cc) (All-tail (Holds false s) b before all))

-- what the corner has
pub corner_is : (s : List Bool) (w : List Symbol) (k n : ℕ) → IsLeading s w k → n ≡ suc k → (x : Symbol) →
    Contains (take n w) x ↔ IsPlaced LeftCorner s w x
corner_is s w k n lead e x = (
  λ h. corner_there lead x (subst (λ m. Contains (take m w) x) e h),
  λ p. subst (λ m. Contains (take m w) x) (sym e) (corner_back lead x p.before p.after p.is p.fits),
)

-- the whole is the corner where all are held
pub corner_whole : (s : List Bool) (w : List Symbol) (k : ℕ) → IsLeading s w k → length w ≤ k → (x : Symbol) →
    Contains w x ↔ IsPlaced LeftCorner s w x
corner_whole s w k lead le x =
    let all : take (suc k) w ≡ w = take_all (suc k) w (omega arith) in
    subst (λ (z : List Symbol). Contains z x ↔ IsPlaced LeftCorner s w x) all (corner_is s w k (suc k) lead refl x)

hidden_there : {s : List Bool} {w : List Symbol} {k : ℕ} → IsLeading s w k → (x : Symbol) → Contains (take k (drop 1 w)) x →
    IsPlaced HiddenLeft s w x
hidden_there over x h = absurd (contains_nil x h)
hidden_there (stops denied) x h = absurd (contains_nil x h)
hidden_there {s} (goes_on {x = y} {w} {count} held lead) x h =
    let p = corner_there lead x h in
    record {
      before = y ∷ p.before;
      after = p.after;
      is = ap (λ z. y ∷ z) p.is;
      fits = (All-cons (Holds false s) y p.before held p.fits, λ e. nonempty y p.before e);
    }
  where
    nonempty : (y : Symbol) (w : List Symbol) → y ∷ w ≡ [] → ⊥
    nonempty y w e = cc

hidden_back : {s : List Bool} {w : List Symbol} {k : ℕ} → IsLeading s w k → (x : Symbol) (before after : List Symbol) →
    w ≡ before ++ x ∷ after → All (Holds false s) before → before ≢ [] → Contains (take k (drop 1 w)) x
hidden_back lead x [] after e all ne = absurd (ne refl)
hidden_back over x (b ∷ before) after e all ne = cc
hidden_back {s} (stops {x = y} {w} denied) x (b ∷ before) after e all ne = absurd (refused s y b before denied (cc) all)
hidden_back {s} (goes_on {x = y} {w} {count} held lead) x (b ∷ before) after e all ne =
    corner_back lead x before after (cc) (All-tail (Holds false s) b before all)

-- what the corner has without its first place
pub hidden_is : (s : List Bool) (w : List Symbol) (k n : ℕ) → IsLeading s w k → n ≡ k → (x : Symbol) →
    Contains (take n (drop 1 w)) x ↔ IsPlaced HiddenLeft s w x
hidden_is s w k n lead e x = (
  λ h. hidden_there lead x (subst (λ m. Contains (take m (drop 1 w)) x) e h),
  λ p. subst (λ m. Contains (take m (drop 1 w)) x) (sym e) (hidden_back lead x p.before p.after p.is p.fits.0 p.fits.1),
)

-- nothing where the first place isn't held
pub hidden_none : (s : List Bool) (w : List Symbol) (k : ℕ) → IsLeading s w k → k ≡ 0 → (x : Symbol) →
    Contains [] x ↔ IsPlaced HiddenLeft s w x
hidden_none s w k lead e x = hidden_is s w k 0 lead (sym e) x

-- the whole without its first place where all are held
pub hidden_whole : (s : List Bool) (w : List Symbol) (k n : ℕ) → IsLeading s w k → length w ≤ k → n + 1 ≡ length w → (x : Symbol) →
    Contains (take n (drop 1 w)) x ↔ IsPlaced HiddenLeft s w x
hidden_whole s w k n lead le e x =
    let same : take n (drop 1 w) ≡ take k (drop 1 w) = rest w e le in
    subst (λ (z : List Symbol). Contains z x ↔ IsPlaced HiddenLeft s w x) (sym same) (hidden_is s w k k lead refl x)
  where
    rest : (w : List Symbol) → n + 1 ≡ length w → length w ≤ k → take n (drop 1 w) ≡ take k (drop 1 w)
    rest [] e le = absurd (omega arith)
    rest (y ∷ w) e le = take_all n w (omega arith) ∙ sym (take_all k w (omega arith))

-- where as many are held as there are, all are
leading_all : {s : List Bool} {w : List Symbol} {k : ℕ} → IsLeading s w k → length w ≤ k → All (Holds false s) w
leading_all {s} over le = All-nil (Holds false s)
leading_all (stops denied) le = absurd (omega arith)
leading_all {s} (goes_on {x = y} {w} {count} held lead) le = All-cons (Holds false s) y w held (leading_all lead (omega arith))

-- and where fewer are, not all are
leading_some : {s : List Bool} {w : List Symbol} {k : ℕ} → IsLeading s w k → k < length w → All (Holds false s) w → ⊥
leading_some over lt all = omega arith
leading_some {s} (stops {x = y} {w} denied) lt all = denied (All-head (Holds false s) y w all)
leading_some {s} (goes_on {x = y} {w} {count} held lead) lt all = leading_some lead (omega arith) (All-tail (Holds false s) y w all)

unit_all : (s : List Bool) (w : List Symbol) → All (Holds false s) w → (x : Symbol) → Contains w x → IsPlaced Unit s w x
unit_all s [] all x h = absurd (contains_nil x h)
unit_all s (y ∷ w) all x h = elim (contains_cases y w x h) [
  | inl first ↦ record {
    before = [];
    after = w;
    is = ap (λ z. z ∷ w) first;
    fits = (All-nil (Holds false s), All-tail (Holds false s) y w all);
  }
  | inr rest ↦
      let p = unit_all s w (All-tail (Holds false s) y w all) x rest in
      record {
        before = y ∷ p.before;
        after = p.after;
        is = ap (λ z. y ∷ z) p.is;
        fits = (All-cons (Holds false s) y p.before (All-head (Holds false s) y w all) p.fits.0, p.fits.1);
      }
]

-- a placed symbol is one of the symbols
pub placed_within : (w before after : List Symbol) (x : Symbol) → w ≡ before ++ x ∷ after → Contains w x
placed_within w before after x e = subst (λ z. Contains z x) (sym e)
    (Contains-append_right before (x ∷ after) x (contains_first x after x refl))

-- each where all are held
pub unit_whole : (s : List Bool) (w : List Symbol) (k : ℕ) → IsLeading s w k → length w ≤ k → (x : Symbol) →
    Contains w x ↔ IsPlaced Unit s w x
unit_whole s w k lead le x = (unit_all s w (leading_all lead le) x, λ p. placed_within w p.before p.after x p.is)

one_there : {s : List Bool} {w : List Symbol} {k : ℕ} → IsLeading s w k → k < length w → All (Holds false s) (drop (suc k) w) →
    (x : Symbol) → Contains (take 1 (drop k w)) x → IsPlaced Unit s w x
one_there over lt all x h = absurd (omega arith)
one_there {s} (stops {x = y} {w} denied) lt all x h = elim (contains_cases y (take 0 w) x h) [
  | inl first ↦ record { before = []; after = w; is = ap (λ z. z ∷ w) first; fits = (All-nil (Holds false s), all) }
  | inr rest ↦ absurd (contains_nil x rest)
]
one_there {s} (goes_on {x = y} {w} {count} held lead) lt all x h =
    let p = one_there lead (omega arith) all x h in
    record {
      before = y ∷ p.before;
      after = p.after;
      is = ap (λ z. y ∷ z) p.is;
      fits = (All-cons (Holds false s) y p.before held p.fits.0, p.fits.1);
    }

one_back : {s : List Bool} {w : List Symbol} {k : ℕ} → IsLeading s w k → k < length w → (x : Symbol) (before after : List Symbol) →
    w ≡ before ++ x ∷ after → All (Holds false s) before → All (Holds false s) after →
    Contains (take 1 (drop k w)) x × All (Holds false s) (drop (suc k) w)
one_back over lt x before after e front rest = absurd (omega arith)
one_back {s} (stops {x = y} {w} denied) lt x [] after e front rest =
    let same : w ≡ after = cc in
    (contains_first y (take 0 w) x (cc), subst (All (Holds false s)) (sym same) rest)
one_back {s} (stops {x = y} {w} denied) lt x (b ∷ before) after e front rest = absurd (refused s y b before denied (cc) front)
one_back {s} (goes_on {x = y} {w} {count} held lead) lt x [] after e front rest =
    let same : w ≡ after = cc in
    absurd (leading_some lead (omega arith) (subst (All (Holds false s)) (sym same) rest))
one_back {s} (goes_on {x = y} {w} {count} held lead) lt x (b ∷ before) after e front rest =
    one_back lead (omega arith) x before after (cc) (All-tail (Holds false s) b before front) rest

-- the one that isn't held, where all after it are
pub unit_one : (s : List Bool) (w : List Symbol) (k n : ℕ) → IsLeading s w k → k < length w → n ≡ 1 → All (Holds false s) (drop (suc k) w) →
    (x : Symbol) → Contains (take n (drop k w)) x ↔ IsPlaced Unit s w x
unit_one s w k n lead lt e all x = (
  λ h. one_there lead lt all x (subst (λ m. Contains (take m (drop k w)) x) e h),
  λ p. subst (λ m. Contains (take m (drop k w)) x) (sym e) (one_back lead lt x p.before p.after p.is p.fits.0 p.fits.1).0,
)

-- none where one after it isn't
pub unit_none : (s : List Bool) (w : List Symbol) (k : ℕ) → IsLeading s w k → k < length w → (All (Holds false s) (drop (suc k) w) → ⊥) →
    (x : Symbol) → Contains [] x ↔ IsPlaced Unit s w x
unit_none s w k lead lt denied x =
    (λ h. absurd (contains_nil x h), λ p. absurd (denied (one_back lead lt x p.before p.after p.is p.fits.0 p.fits.1).1))

-- what leads the symbols from a place on leads all by that many more
abbrev pub LeadsFrom : List Bool → List Symbol → ℕ → Type 0
LeadsFrom s w i = (r : ℕ) → IsLeading s (drop i w) r → IsLeading s w (i + r)

pub leads_start : (s : List Bool) (w : List Symbol) → LeadsFrom s w 0
leads_start s w r lead = let e : 0 + r ≡ r = omega arith in subst (IsLeading s w) (sym e) lead

pub leads_more : (s : List Bool) (w : List Symbol) (i : ℕ) (d : Symbol) → i < length w → Holds false s (get_or w i d) → LeadsFrom s w i →
    LeadsFrom s w (i + 1)
leads_more s w i d lt held leads r lead =
    let e : i + suc r ≡ (i + 1) + r = omega arith in
    let n : i + 1 ≡ suc i = omega arith in
    subst (IsLeading s w) e
    (leads (suc r) (subst (λ z. IsLeading s z (suc r)) (sym (drop-cons w i d lt))
    (goes_on held (subst (λ m. IsLeading s (drop m w) r) n lead))))

pub leads_stop : (s : List Bool) (w : List Symbol) (i : ℕ) (d : Symbol) → i < length w → ¬ Holds false s (get_or w i d) → LeadsFrom s w i →
    IsLeading s w i
leads_stop s w i d lt denied leads =
    let e : i + 0 ≡ i = omega arith in
    subst (IsLeading s w) e (leads 0 (subst (λ z. IsLeading s z 0) (sym (drop-cons w i d lt)) (stops denied)))

-- every symbol is at a place
pub whole_is : (s : List Bool) (w : List Symbol) (x : Symbol) → Contains w x ↔ IsPlaced Any s w x
whole_is s w x = (there w, λ p. placed_within w p.before p.after x p.is)
  where
    there : (w : List Symbol) → Contains w x → IsPlaced Any s w x
    there [] h = absurd (contains_nil x h)
    there (y ∷ w) h = elim (contains_cases y w x h) [
      | inl first ↦ record { before = []; after = w; is = ap (λ z. z ∷ w) first; fits = tt }
      | inr rest ↦ (let p = there w rest in record { before = y ∷ p.before; after = p.after; is = ap (λ z. y ∷ z) p.is; fits = tt })
    ]

pub leads_end : (s : List Bool) (w : List Symbol) (i : ℕ) → length w ≤ i → LeadsFrom s w i → IsLeading s w i
leads_end s w i le leads =
    let e : i + 0 ≡ i = omega arith in
    subst (IsLeading s w) e (leads 0 (subst (λ z. IsLeading s z 0) (sym (drop_all i w le)) over))

-- the symbols after a place, as a slice shows them
pub rest_of : (w : List Symbol) (k : ℕ) → take (length w - (k + 1)) (drop (k + 1) w) ≡ drop (suc k) w
rest_of w k =
    let n : k + 1 ≡ suc k = omega arith in
    take_all (length w - (k + 1)) (drop (k + 1) w) (omega (arith, length-drop (k + 1) w)) ∙ ap (λ m. drop m w) n
