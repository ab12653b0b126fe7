-- The order of texts is transitive, and texts keep their order when bytes are put after them.
use Rattle.std.proofs.Common.{ℕ, ◌≡◌, ◌⊎◌, ◌≤◌, ◌<◌, List, [], ◌∷◌, ◌++◌, refl, sym, ◌∙◌, ap, subst, arith, inl, inr, length-append}
use Rattle.std.proofs.lemmas.Bool.{cases_eq}
use Rattle.wb_automata.specs.Order.{IsLessByBytes, IsBefore, IsAtMost}
use Rattle.wb_automata.specs.Automata.{Path, IsEarlier}
use Rattle.wb_automata.specs.Inner.Found.{on}

less_more : (u v : List ℕ) (a b : ℕ) → IsLessByBytes u v → IsLessByBytes (u ++ a ∷ []) (v ++ b ∷ [])
less_more [] v a b h = elim h [ ]
less_more (x ∷ u) [] a b h = elim h [ ]
less_more (x ∷ u) (y ∷ v) a b (inl lt) = inl lt
less_more (x ∷ u) (y ∷ v) a b (inr (e, h)) = inr (e, less_more u v a b h)

less_last : (u : List ℕ) (a b : ℕ) → a < b → IsLessByBytes (u ++ a ∷ []) (u ++ b ∷ [])
less_last [] a b lt = inl lt
less_last (x ∷ u) a b lt = inr (refl, less_last u a b lt)

less_next : (u v w : List ℕ) → IsLessByBytes u v → IsLessByBytes v w → IsLessByBytes u w
less_next [] v w h k = elim h [ ]
less_next (x ∷ u) [] w h k = elim h [ ]
less_next (x ∷ u) (y ∷ v) [] h k = elim k [ ]
less_next (x ∷ u) (y ∷ v) (z ∷ w) (inl p) (inl q) = inl (omega arith)
less_next (x ∷ u) (y ∷ v) (z ∷ w) (inl p) (inr (e, q)) = inl (omega arith)
less_next (x ∷ u) (y ∷ v) (z ∷ w) (inr (e, p)) (inl q) = inl (omega arith)
less_next (x ∷ u) (y ∷ v) (z ∷ w) (inr (e, p)) (inr (f, q)) = inr (e ∙ f, less_next u v w p q)

-- texts that are in order keep it, whatever byte is put after each
pub before_more : (u v : List ℕ) (a b : ℕ) → IsBefore u v → IsBefore (u ++ a ∷ []) (v ++ b ∷ [])
before_more u v a b (inl lt) = inl (omega (arith, length-append u (a ∷ []), length-append v (b ∷ [])))
before_more u v a b (inr (e, h)) = inr (omega (arith, length-append u (a ∷ []), length-append v (b ∷ [])), less_more u v a b h)

-- one text with two bytes after it
pub before_last : (u : List ℕ) (a b : ℕ) → a < b → IsBefore (u ++ a ∷ []) (u ++ b ∷ [])
before_last u a b lt = inr (omega (arith, length-append u (a ∷ []), length-append u (b ∷ [])), less_last u a b lt)

pub before_next : (u v w : List ℕ) → IsBefore u v → IsBefore v w → IsBefore u w
before_next u v w (inl p) (inl q) = inl (omega arith)
before_next u v w (inl p) (inr (e, q)) = inl (omega arith)
before_next u v w (inr (e, p)) (inl q) = inl (omega arith)
before_next u v w (inr (e, p)) (inr (f, q)) = inr (e ∙ f, less_next u v w p q)

pub at_most_next : (u v w : List ℕ) → IsAtMost u v → IsAtMost v w → IsAtMost u w
at_most_next u v w (inl e) h = subst (λ z. IsAtMost z w) (sym e) h
at_most_next u v w (inr p) (inl e) = inr (subst (IsBefore u) e p)
at_most_next u v w (inr p) (inr q) = inr (before_next u v w p q)

pub at_most_more : (u v : List ℕ) (b : ℕ) → IsAtMost u v → IsAtMost (u ++ b ∷ []) (v ++ b ∷ [])
at_most_more u v b (inl e) = inl (ap (λ z. z ++ b ∷ []) e)
at_most_more u v b (inr p) = inr (before_more u v b b p)

-- the order of paths is transitive
pub earlier_next : (p q r : Path) → IsEarlier p q → IsEarlier q r → IsEarlier p r
earlier_next p q r (inl a) (inl b) = inl (omega arith)
earlier_next p q r (inl a) (inr (e, b)) = inl (omega arith)
earlier_next p q r (inr (e, a)) (inl b) = inl (omega arith)
earlier_next p q r (inr (e, a)) (inr (f, b)) = inr (e ∙ f, before_next p.text q.text r.text a b)

-- paths that are in order keep it, whatever byte is put after each
pub earlier_more : (p q : Path) (a b : ℕ) → IsEarlier p q → IsEarlier (on p a) (on q b)
earlier_more p q a b (inl lt) = inl lt
earlier_more p q a b (inr (e, h)) = inr (e, before_more p.text q.text a b h)

-- one path with two bytes after it
pub earlier_last : (p : Path) (a b : ℕ) → a < b → IsEarlier (on p a) (on p b)
earlier_last p a b lt = inr (refl, before_last p.text a b lt)

-- the path is the other, or earlier
abbrev pub IsLatest : Path → Path → Type 0
IsLatest q p = (p ≡ q) ⊎ IsEarlier p q

pub latest_next : (p q r : Path) → IsLatest q p → IsLatest r q → IsLatest r p
latest_next p q r (inl e) h = subst (IsLatest r) (sym e) h
latest_next p q r (inr a) (inl e) = inr (subst (IsEarlier p) e a)
latest_next p q r (inr a) (inr b) = inr (earlier_next p q r a b)

pub latest_more : (p q : Path) (b : ℕ) → IsLatest q p → IsLatest (on q b) (on p b)
latest_more p q b (inl e) = inl (ap (λ z. on z b) e)
latest_more p q b (inr a) = inr (earlier_more p q b b a)

pub latest_last : (p : Path) (a b : ℕ) → a ≤ b → IsLatest (on p b) (on p a)
latest_last p a b le = elim (cases_eq a b) [
  | inl e ↦ inl (ap (on p) e)
  | inr ne ↦ inr (earlier_last p a b (omega arith))
]
