-- Keys tell apart what isn't the same, and nothing else.
use Rattle.std.proofs.Common.{◌≡◌, ◌∷◌, ◌++◌, [], ℕ, List, false, refl, ap, subst, eqb}
use Rattle.std.specs.Prelude.{slice_index_or}
use Rattle.wb_lemmas.proofs.Numbers.{eqb_false}
use Rattle.wb_names_theory.specs.declared.declaration.Declaration.{Declaration}
use Rattle.wb_names_theory.specs.declared.declaration.Declaration.TheVariants as d
use Rattle.wb_names_theory.specs.declared.declaration.Site.{Site}
use Rattle.wb_names_theory.specs.declared.declaration.Site.TheVariants as site
use Rattle.wb_names_theory.specs.Duplicate.{AreSame}
use Rattle.wb_names_theory.specs.Duplicate as s
use Rattle.wb_names_rules.specs.Keys.{key_of, marked, site_key}

-- lists that begin differently aren't equal
apart : {m n : ℕ} {xs ys : List ℕ} → eqb m n ≡ false → m ∷ xs ≡ n ∷ ys → ⊥
apart {m} {n} test e = eqb_false m n test (ap (λ (l : List ℕ). slice_index_or l 0 0) e)

-- all but the first element
others : List ℕ → List ℕ
others [] = []
others (x ∷ xs) = xs

-- the others of equal lists
pub rest : {m n : ℕ} {xs ys : List ℕ} → m ∷ xs ≡ n ∷ ys → xs ≡ ys
unfolding others
rest e = ap others e

-- texts with marks are told apart, and so is what comes after them
marked_apart : (x y u v : List ℕ) → marked x ++ u ≡ marked y ++ v → (x ≡ y) × (u ≡ v)
marked_apart [] [] u v e = (refl, rest e)
marked_apart [] (b ∷ y) u v e = absurd (apart refl e)
marked_apart (a ∷ x) [] u v e = absurd (apart refl e)
marked_apart (a ∷ x) (b ∷ y) u v e =
    let first : a ≡ b = ap (λ (l : List ℕ). slice_index_or l 0 0) (rest e) in
    let more = marked_apart x y u v (rest (rest e)) in
    let tail : x ≡ y = more.0 in
    (cc, more.1)

-- sites with one key are one
site_apart : (s t : Site) → site_key s ≡ site_key t → s ≡ t
site_apart site.Top site.Top e = refl
site_apart site.Top site.Forward e = absurd (apart refl e)
site_apart site.Top (site.Label l) e = absurd (apart refl e)
site_apart site.Forward site.Top e = absurd (apart refl e)
site_apart site.Forward site.Forward e = refl
site_apart site.Forward (site.Label l) e = absurd (apart refl e)
site_apart (site.Label k) site.Top e = absurd (apart refl e)
site_apart (site.Label k) site.Forward e = absurd (apart refl e)
site_apart (site.Label k) (site.Label l) e = ap (λ (x : List ℕ). site.Label x) (rest e)

-- declarations of one name, by how it is declared
same_name : (make : List ℕ → Declaration) (x y : List ℕ) → ((z : List ℕ) → AreSame (make z) (make z)) → x ≡ y → AreSame (make x) (make y)
same_name make x y each e = subst (λ (z : List ℕ). AreSame (make x) (make z)) e (each x)

-- declarations of two names
same_names : (make : List ℕ → List ℕ → Declaration) (x y u v : List ℕ) → ((z w : List ℕ) → AreSame (make z w) (make z w))
    → (x ≡ y) × (u ≡ v) → AreSame (make x u) (make y v)
same_names make x y u v each e =
    subst (λ (z : List ℕ). AreSame (make x u) (make z v)) e.0 (subst (λ (w : List ℕ). AreSame (make x u) (make x w)) e.1 (each x u))

-- declarations with one key are of the same thing
pub key_apart : (one other : Declaration) → key_of one ≡ key_of other → AreSame one other
key_apart (d.Symbol a b) (d.Symbol x y) e = subst (λ (z : List ℕ). AreSame (d.Symbol a b) (d.Symbol z y)) (rest e) s.symbol
key_apart (d.Symbol a b) (d.Attribute x y) e = absurd (apart refl e)
key_apart (d.Symbol a b) (d.Occurrence x y) e = absurd (apart refl e)
key_apart (d.Symbol a b) (d.Left x y) e = absurd (apart refl e)
key_apart (d.Symbol a b) (d.Label x y z) e = absurd (apart refl e)
key_apart (d.Symbol a b) (d.Equation x y z) e = absurd (apart refl e)
key_apart (d.Symbol a b) (d.Forward x) e = absurd (apart refl e)
key_apart (d.Symbol a b) (d.Start x) e = absurd (apart refl e)
key_apart (d.Symbol a b) (d.Extensible x) e = absurd (apart refl e)
key_apart (d.Symbol a b) (d.Closed x) e = absurd (apart refl e)
key_apart (d.Symbol a b) (d.ForwardNeeds x) e = absurd (apart refl e)
key_apart (d.Symbol a b) (d.Preference x y) e = absurd (apart refl e)
key_apart (d.Attribute a b) (d.Symbol x y) e = absurd (apart refl e)
key_apart (d.Attribute a b) (d.Attribute x y) e = subst (λ (z : List ℕ). AreSame (d.Attribute a b) (d.Attribute z y)) (rest e) s.attribute
key_apart (d.Attribute a b) (d.Occurrence x y) e = absurd (apart refl e)
key_apart (d.Attribute a b) (d.Left x y) e = absurd (apart refl e)
key_apart (d.Attribute a b) (d.Label x y z) e = absurd (apart refl e)
key_apart (d.Attribute a b) (d.Equation x y z) e = absurd (apart refl e)
key_apart (d.Attribute a b) (d.Forward x) e = absurd (apart refl e)
key_apart (d.Attribute a b) (d.Start x) e = absurd (apart refl e)
key_apart (d.Attribute a b) (d.Extensible x) e = absurd (apart refl e)
key_apart (d.Attribute a b) (d.Closed x) e = absurd (apart refl e)
key_apart (d.Attribute a b) (d.ForwardNeeds x) e = absurd (apart refl e)
key_apart (d.Attribute a b) (d.Preference x y) e = absurd (apart refl e)
key_apart (d.Occurrence a b) (d.Symbol x y) e = absurd (apart refl e)
key_apart (d.Occurrence a b) (d.Attribute x y) e = absurd (apart refl e)
key_apart (d.Occurrence a b) (d.Occurrence x y) e = same_names (λ (u v : List ℕ). d.Occurrence u v) a x b y (λ u v. s.occurrence) (marked_apart a x b y (rest e))
key_apart (d.Occurrence a b) (d.Left x y) e = absurd (apart refl e)
key_apart (d.Occurrence a b) (d.Label x y z) e = absurd (apart refl e)
key_apart (d.Occurrence a b) (d.Equation x y z) e = absurd (apart refl e)
key_apart (d.Occurrence a b) (d.Forward x) e = absurd (apart refl e)
key_apart (d.Occurrence a b) (d.Start x) e = absurd (apart refl e)
key_apart (d.Occurrence a b) (d.Extensible x) e = absurd (apart refl e)
key_apart (d.Occurrence a b) (d.Closed x) e = absurd (apart refl e)
key_apart (d.Occurrence a b) (d.ForwardNeeds x) e = absurd (apart refl e)
key_apart (d.Occurrence a b) (d.Preference x y) e = absurd (apart refl e)
key_apart (d.Left a b) (d.Symbol x y) e = absurd (apart refl e)
key_apart (d.Left a b) (d.Attribute x y) e = absurd (apart refl e)
key_apart (d.Left a b) (d.Occurrence x y) e = absurd (apart refl e)
key_apart (d.Left a b) (d.Left x y) e = subst (λ (z : List ℕ). AreSame (d.Left a b) (d.Left z y)) (rest e) s.left
key_apart (d.Left a b) (d.Label x y z) e = absurd (apart refl e)
key_apart (d.Left a b) (d.Equation x y z) e = absurd (apart refl e)
key_apart (d.Left a b) (d.Forward x) e = absurd (apart refl e)
key_apart (d.Left a b) (d.Start x) e = absurd (apart refl e)
key_apart (d.Left a b) (d.Extensible x) e = absurd (apart refl e)
key_apart (d.Left a b) (d.Closed x) e = absurd (apart refl e)
key_apart (d.Left a b) (d.ForwardNeeds x) e = absurd (apart refl e)
key_apart (d.Left a b) (d.Preference x y) e = absurd (apart refl e)
key_apart (d.Label a b c) (d.Symbol x y) e = absurd (apart refl e)
key_apart (d.Label a b c) (d.Attribute x y) e = absurd (apart refl e)
key_apart (d.Label a b c) (d.Occurrence x y) e = absurd (apart refl e)
key_apart (d.Label a b c) (d.Left x y) e = absurd (apart refl e)
key_apart (d.Label a b c) (d.Label x y z) e = let p = marked_apart a x b y (rest e) in
    subst (λ (u : List ℕ). AreSame (d.Label a b c) (d.Label u y z)) p.0
    (subst (λ (v : List ℕ). AreSame (d.Label a b c) (d.Label a v z)) p.1 s.label)
key_apart (d.Label a b c) (d.Equation x y z) e = absurd (apart refl e)
key_apart (d.Label a b c) (d.Forward x) e = absurd (apart refl e)
key_apart (d.Label a b c) (d.Start x) e = absurd (apart refl e)
key_apart (d.Label a b c) (d.Extensible x) e = absurd (apart refl e)
key_apart (d.Label a b c) (d.Closed x) e = absurd (apart refl e)
key_apart (d.Label a b c) (d.ForwardNeeds x) e = absurd (apart refl e)
key_apart (d.Label a b c) (d.Preference x y) e = absurd (apart refl e)
key_apart (d.Equation a b c) (d.Symbol x y) e = absurd (apart refl e)
key_apart (d.Equation a b c) (d.Attribute x y) e = absurd (apart refl e)
key_apart (d.Equation a b c) (d.Occurrence x y) e = absurd (apart refl e)
key_apart (d.Equation a b c) (d.Left x y) e = absurd (apart refl e)
key_apart (d.Equation a b c) (d.Label x y z) e = absurd (apart refl e)
key_apart (d.Equation a b c) (d.Equation x y z) e = let p = marked_apart a x (marked b ++ site_key c) (marked y ++ site_key z) (rest e) in let q = marked_apart b y (site_key c) (site_key z) p.1 in
    subst (λ (u : List ℕ). AreSame (d.Equation a b c) (d.Equation u y z)) p.0 (subst (λ (v : List ℕ). AreSame (d.Equation a b c) (d.Equation a v z)) q.0
    (subst (λ (at : Site). AreSame (d.Equation a b c) (d.Equation a b at)) (site_apart c z q.1) s.equation))
key_apart (d.Equation a b c) (d.Forward x) e = absurd (apart refl e)
key_apart (d.Equation a b c) (d.Start x) e = absurd (apart refl e)
key_apart (d.Equation a b c) (d.Extensible x) e = absurd (apart refl e)
key_apart (d.Equation a b c) (d.Closed x) e = absurd (apart refl e)
key_apart (d.Equation a b c) (d.ForwardNeeds x) e = absurd (apart refl e)
key_apart (d.Equation a b c) (d.Preference x y) e = absurd (apart refl e)
key_apart (d.Forward a) (d.Symbol x y) e = absurd (apart refl e)
key_apart (d.Forward a) (d.Attribute x y) e = absurd (apart refl e)
key_apart (d.Forward a) (d.Occurrence x y) e = absurd (apart refl e)
key_apart (d.Forward a) (d.Left x y) e = absurd (apart refl e)
key_apart (d.Forward a) (d.Label x y z) e = absurd (apart refl e)
key_apart (d.Forward a) (d.Equation x y z) e = absurd (apart refl e)
key_apart (d.Forward a) (d.Forward x) e = same_name (λ (u : List ℕ). d.Forward u) a x (λ u. s.forward) (rest e)
key_apart (d.Forward a) (d.Start x) e = absurd (apart refl e)
key_apart (d.Forward a) (d.Extensible x) e = absurd (apart refl e)
key_apart (d.Forward a) (d.Closed x) e = absurd (apart refl e)
key_apart (d.Forward a) (d.ForwardNeeds x) e = absurd (apart refl e)
key_apart (d.Forward a) (d.Preference x y) e = absurd (apart refl e)
key_apart (d.Start a) (d.Symbol x y) e = absurd (apart refl e)
key_apart (d.Start a) (d.Attribute x y) e = absurd (apart refl e)
key_apart (d.Start a) (d.Occurrence x y) e = absurd (apart refl e)
key_apart (d.Start a) (d.Left x y) e = absurd (apart refl e)
key_apart (d.Start a) (d.Label x y z) e = absurd (apart refl e)
key_apart (d.Start a) (d.Equation x y z) e = absurd (apart refl e)
key_apart (d.Start a) (d.Forward x) e = absurd (apart refl e)
key_apart (d.Start a) (d.Start x) e = s.start
key_apart (d.Start a) (d.Extensible x) e = absurd (apart refl e)
key_apart (d.Start a) (d.Closed x) e = absurd (apart refl e)
key_apart (d.Start a) (d.ForwardNeeds x) e = absurd (apart refl e)
key_apart (d.Start a) (d.Preference x y) e = absurd (apart refl e)
key_apart (d.Extensible a) (d.Symbol x y) e = absurd (apart refl e)
key_apart (d.Extensible a) (d.Attribute x y) e = absurd (apart refl e)
key_apart (d.Extensible a) (d.Occurrence x y) e = absurd (apart refl e)
key_apart (d.Extensible a) (d.Left x y) e = absurd (apart refl e)
key_apart (d.Extensible a) (d.Label x y z) e = absurd (apart refl e)
key_apart (d.Extensible a) (d.Equation x y z) e = absurd (apart refl e)
key_apart (d.Extensible a) (d.Forward x) e = absurd (apart refl e)
key_apart (d.Extensible a) (d.Start x) e = absurd (apart refl e)
key_apart (d.Extensible a) (d.Extensible x) e = same_name (λ (u : List ℕ). d.Extensible u) a x (λ u. s.extensible) (rest e)
key_apart (d.Extensible a) (d.Closed x) e = absurd (apart refl e)
key_apart (d.Extensible a) (d.ForwardNeeds x) e = absurd (apart refl e)
key_apart (d.Extensible a) (d.Preference x y) e = absurd (apart refl e)
key_apart (d.Closed a) (d.Symbol x y) e = absurd (apart refl e)
key_apart (d.Closed a) (d.Attribute x y) e = absurd (apart refl e)
key_apart (d.Closed a) (d.Occurrence x y) e = absurd (apart refl e)
key_apart (d.Closed a) (d.Left x y) e = absurd (apart refl e)
key_apart (d.Closed a) (d.Label x y z) e = absurd (apart refl e)
key_apart (d.Closed a) (d.Equation x y z) e = absurd (apart refl e)
key_apart (d.Closed a) (d.Forward x) e = absurd (apart refl e)
key_apart (d.Closed a) (d.Start x) e = absurd (apart refl e)
key_apart (d.Closed a) (d.Extensible x) e = absurd (apart refl e)
key_apart (d.Closed a) (d.Closed x) e = same_name (λ (u : List ℕ). d.Closed u) a x (λ u. s.closed) (rest e)
key_apart (d.Closed a) (d.ForwardNeeds x) e = absurd (apart refl e)
key_apart (d.Closed a) (d.Preference x y) e = absurd (apart refl e)
key_apart (d.ForwardNeeds a) (d.Symbol x y) e = absurd (apart refl e)
key_apart (d.ForwardNeeds a) (d.Attribute x y) e = absurd (apart refl e)
key_apart (d.ForwardNeeds a) (d.Occurrence x y) e = absurd (apart refl e)
key_apart (d.ForwardNeeds a) (d.Left x y) e = absurd (apart refl e)
key_apart (d.ForwardNeeds a) (d.Label x y z) e = absurd (apart refl e)
key_apart (d.ForwardNeeds a) (d.Equation x y z) e = absurd (apart refl e)
key_apart (d.ForwardNeeds a) (d.Forward x) e = absurd (apart refl e)
key_apart (d.ForwardNeeds a) (d.Start x) e = absurd (apart refl e)
key_apart (d.ForwardNeeds a) (d.Extensible x) e = absurd (apart refl e)
key_apart (d.ForwardNeeds a) (d.Closed x) e = absurd (apart refl e)
key_apart (d.ForwardNeeds a) (d.ForwardNeeds x) e = same_name (λ (u : List ℕ). d.ForwardNeeds u) a x (λ u. s.forward_needs) (rest e)
key_apart (d.ForwardNeeds a) (d.Preference x y) e = absurd (apart refl e)
key_apart (d.Preference a b) (d.Symbol x y) e = absurd (apart refl e)
key_apart (d.Preference a b) (d.Attribute x y) e = absurd (apart refl e)
key_apart (d.Preference a b) (d.Occurrence x y) e = absurd (apart refl e)
key_apart (d.Preference a b) (d.Left x y) e = absurd (apart refl e)
key_apart (d.Preference a b) (d.Label x y z) e = absurd (apart refl e)
key_apart (d.Preference a b) (d.Equation x y z) e = absurd (apart refl e)
key_apart (d.Preference a b) (d.Forward x) e = absurd (apart refl e)
key_apart (d.Preference a b) (d.Start x) e = absurd (apart refl e)
key_apart (d.Preference a b) (d.Extensible x) e = absurd (apart refl e)
key_apart (d.Preference a b) (d.Closed x) e = absurd (apart refl e)
key_apart (d.Preference a b) (d.ForwardNeeds x) e = absurd (apart refl e)
key_apart (d.Preference a b) (d.Preference x y) e = same_names (λ (u v : List ℕ). d.Preference u v) a x b y (λ u v. s.preference) (marked_apart a x b y (rest e))

-- declarations of the same thing have one key
pub key_same : {one other : Declaration} → AreSame one other → key_of one ≡ key_of other
key_same s.symbol = refl
key_same s.attribute = refl
key_same s.occurrence = refl
key_same s.left = refl
key_same s.label = refl
key_same s.equation = refl
key_same s.forward = refl
key_same s.start = refl
key_same s.extensible = refl
key_same s.closed = refl
key_same s.forward_needs = refl
key_same s.preference = refl
