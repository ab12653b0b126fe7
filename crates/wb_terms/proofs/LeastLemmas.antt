-- The least place, with one place more, and of two properties together.
use Rattle.std.proofs.Common.{◌≡◌, ◌≤◌, ◌⊎◌, inl, inr, ℕ, Option, Some, None, Bool, true, false, refl, arith}
use Rattle.std.specs.Prelude.{min}
use Rattle.wb_lemmas.proofs.Numbers.{min_is}
use Rattle.std.proofs.Math.Nat.{min-le_left, min-le_right}
use Rattle.wb_terms.specs.Nodes.{IsLeast}
use Rattle.wb_terms.specs.Inner.Least.{FindsLeast}
use Rattle.wb_terms.specs.Inner.Smallest.{smallest_with, smaller_of}

-- from either
pub either : {A B C : Type 0} → (A → C) → (B → C) → A ⊎ B → C
either f g (inl a) = f a
either f g (inr b) = g b

-- what holds of both holds of the smaller
of_min : (Q : ℕ → Type 0) (m n : ℕ) → Q m → Q n → Q (min m n)
of_min Q m n a b = either (λ (e : min m n ≡ m). rw e a) (λ (e : min m n ≡ n). rw e b) (min_is m n)

-- one place more, where it counts
pub noted_least : (P Q : ℕ → Type 0) (F G : Type 0) (counts : Bool) (place : ℕ) (o : Option ℕ) → FindsLeast P F o → (F → counts ≡ false → G)
    → ((at : ℕ) → P at → Q at) → (counts ≡ true → Q place)
    → ((at : ℕ) → Q at → P at ⊎ ((counts ≡ true) × (place ≤ at))) → FindsLeast Q G (smallest_with counts place o)
noted_least P Q F G false place None finds fact keeps new only =
    (fact finds.0 refl, λ at q. either (finds.1 at) (λ b. let wrong : false ≡ true = b.0 in absurd (cc)) (only at q))
noted_least P Q F G false place (Some m) finds fact keeps new only = record {
  here = keeps m finds.here;
  least = λ at q. either (finds.least at) (λ b. let wrong : false ≡ true = b.0 in absurd (cc)) (only at q);
}
noted_least P Q F G true place None finds fact keeps new only = record {
  here = new refl;
  least = λ at q. either (λ p. absurd (finds.1 at p)) (λ b. b.1) (only at q);
}
noted_least P Q F G true place (Some m) finds fact keeps new only = record {
  here = of_min Q m place (keeps m finds.here) (new refl);
  least =
      λ at q. either (λ p. let le = finds.least at p in omega (arith, le, min-le_left m place))
      (λ b. omega (arith, b.1, min-le_right m place)) (only at q);
}

-- two properties together
pub lesser_least : (P Q : ℕ → Type 0) (F G : Type 0) (other o : Option ℕ) → FindsLeast Q G other → FindsLeast P F o
    → FindsLeast (λ at. Q at ⊎ P at) (G × F) (smaller_of other o)
lesser_least P Q F G None None g f = ((g.0, f.0), λ at s. either (g.1 at) (f.1 at) s)
lesser_least P Q F G None (Some m) g f = record { here = inr f.here; least = λ at s. either (λ q. absurd (g.1 at q)) (f.least at) s }
lesser_least P Q F G (Some place) o g f =
    noted_least P (λ at. Q at ⊎ P at) F (G × F) true place o f (λ a e. absurd (cc)) (λ at p. inr p) (λ e. inl g.here)
    (λ at s. either (λ q. inr (refl, g.least at q)) (λ p. inl p) s)

-- the same property, otherwise put
pub same_least : (P Q : ℕ → Type 0) (F G : Type 0) (o : Option ℕ) → ((at : ℕ) → P at → Q at) → ((at : ℕ) → Q at → P at) → (F → G)
    → FindsLeast P F o → FindsLeast Q G o
same_least P Q F G None to from fact finds = (fact finds.0, λ at q. finds.1 at (from at q))
same_least P Q F G (Some m) to from fact finds = record { here = to m finds.here; least = λ at q. finds.least at (from at q) }

-- one place is the least
pub one_least : (P : ℕ → Type 0) (m n : ℕ) → IsLeast P m → IsLeast P n → m ≡ n
one_least P m n a b = let i = a.least n b.here in let j = b.least m a.here in omega (arith, i, j)
