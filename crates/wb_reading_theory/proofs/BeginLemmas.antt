-- Terminals with which a tree begins, and the leaves of such trees.
use Rattle.std.proofs.Common.{◌≡◌, ◌⊎◌, ◌∙◌, ◌++◌, ◌∷◌, ◌<◌, ◌+◌, ℕ, Bool, List, [], ap, append_assoc, inl, inr, refl, subst, sym, arith}
use Rattle.std.proofs.Common.{length}
use Rattle.std.specs.Prelude.{Contains}
use Rattle.wb_base.specs.Grammar.{GrammarView}
use Rattle.wb_lemmas.proofs.Members.{contains_at}
use Rattle.wb_lemmas.proofs.Places.{append_seam}
use Rattle.wb_termset.specs.Sets.{IsMember}
use Rattle.wb_grammar_theory.specs.Lookaheads.{CanShift}
use Rattle.wb_grammar_theory.specs.Productions.{end_of}
use Rattle.wb_grammar_theory.specs.Trees.{DerivationTree, Forest, Leaf, leaves}
use Rattle.wb_grammar_theory.proofs.ShiftLemmas.{tree_shifts}
use Rattle.wb_scan_theory.specs.Facts.{IsDeterministic}
use Rattle.wb_scan_theory.specs.Readings.{Begins, terminals_of}
use Rattle.wb_scan_theory.proofs.FactLemmas.{parsable}
use Rattle.wb_scan_theory.proofs.ForestLemmas.{append_nil, terminals_joined}
use Rattle.wb_reading_theory.specs.Markers.{HasNoMarker}

-- a first part of a list with one more is the whole, or a first part of the list
front : (u w shorter : List ℕ) (x : ℕ) → u ++ w ≡ shorter ++ x ∷ [] → (u ≡ shorter ++ x ∷ []) ⊎ ((rest : List ℕ) × (shorter ≡ u ++ rest))
front [] w shorter x e = inr (shorter, refl)
front (y ∷ u) w [] x e = inl (let head : y ≡ x = cc in let tail : u ++ w ≡ [] = cc in λ i. head i ∷ none u w tail i)
  where
    none : (u w : List ℕ) → u ++ w ≡ [] → u ≡ []
    none [] w e = refl
    none (y ∷ u) w e = cc
front (y ∷ u) w (z ∷ shorter) x e =
    let same : y ≡ z = cc in
    go same (front u w shorter x (cc))
  where
    go : y ≡ z → (u ≡ shorter ++ x ∷ []) ⊎ ((rest : List ℕ) × (shorter ≡ u ++ rest)) →
        (y ∷ u ≡ z ∷ (shorter ++ x ∷ [])) ⊎ ((rest : List ℕ) × (z ∷ shorter ≡ y ∷ (u ++ rest)))
    go same (inl whole) = inl (λ i. same i ∷ whole i)
    go same (inr (rest, is)) = inr (rest, λ i. sym same i ∷ is i)

last_same : (xs ys : List ℕ) (x y : ℕ) → xs ++ x ∷ [] ≡ ys ++ y ∷ [] → (xs ≡ ys) × (x ≡ y)
last_same [] [] x y e = (refl, cc)
last_same [] (b ∷ []) x y e = cc
last_same [] (b ∷ c ∷ ys) x y e = cc
last_same (a ∷ []) [] x y e = cc
last_same (a ∷ c ∷ xs) [] x y e = cc
last_same (a ∷ xs) (b ∷ ys) x y e =
    let head : a ≡ b = cc in
    let (rest, last) = last_same xs ys x y (cc) in
    (λ i. head i ∷ rest i, last)

-- leaves whose terminals are in two parts
terminals_parted : (xs : List Leaf) (ts us : List ℕ) → terminals_of xs ≡ ts ++ us →
    (read rest : List Leaf) × (xs ≡ read ++ rest) × (terminals_of read ≡ ts)
terminals_parted xs [] us e = ([], xs, refl, refl)
terminals_parted [] (t ∷ ts) us e = cc
terminals_parted (x ∷ xs) (t ∷ ts) us e =
    let head : x.terminal ≡ t = cc in
    let (read, rest, is, named) = terminals_parted xs ts us (cc) in
    (x ∷ read, rest, ap (λ z. x ∷ z) is, λ i. head i ∷ named i)

-- whether leaves are markers is seen from their terminals
pub plain_named : (markers : List Bool) (xs ys : List Leaf) → terminals_of xs ≡ terminals_of ys → HasNoMarker markers xs →
    HasNoMarker markers ys
plain_named markers [] [] e plain = tt
plain_named markers [] (y ∷ ys) e plain = cc
plain_named markers (x ∷ xs) [] e plain = cc
plain_named markers (x ∷ xs) (y ∷ ys) e (not, plain) =
    let head : x.terminal ≡ y.terminal = cc in
    ((λ marks. not (subst (IsMember markers) (sym head) marks)), plain_named markers xs ys (cc) plain)

-- a tree that begins with leaves of these terminals
pub begins_with : (g : GrammarView) (tree : Forest) → DerivationTree g tree → (read rest : List Leaf) → leaves [] tree ≡ read ++ rest →
    (ts : List ℕ) →
    terminals_of read ≡ ts → Begins g ts
begins_with g tree is read rest e ts named = record {
  tree = tree;
  is_tree = is;
  more = terminals_of rest ++ end_of g ∷ [];
  is = ap (λ z. terminals_of z ++ end_of g ∷ []) e ∙ (ap (λ z. z ++ end_of g ∷ []) (terminals_joined read rest)
      ∙ (append_assoc (terminals_of read) (terminals_of rest) (end_of g ∷ []) ∙ ap (λ z. z ++ (terminals_of rest ++ end_of g ∷ [])) named));
}

-- a tree whose leaves have these terminals, with `end` after them
pub begins_whole : (g : GrammarView) (tree : Forest) → DerivationTree g tree → (ts : List ℕ) → terminals_of (leaves [] tree) ≡ ts →
    Begins g (ts ++ end_of g ∷ [])
begins_whole g tree is ts named =
    record { tree = tree; is_tree = is; more = []; is = ap (λ z. z ++ end_of g ∷ []) named ∙ sym (append_nil (ts ++ end_of g ∷ [])) }

-- the leaves of a tree that begins with terminals, the last of which isn't `end`
pub begun : (g : GrammarView) (ts : List ℕ) (t : ℕ) → t < end_of g → Begins g (ts ++ t ∷ []) →
    (tree : Forest) × DerivationTree g tree × ((read rest : List Leaf) × (leaves [] tree ≡ read ++ rest) ×
    (terminals_of read ≡ ts ++ t ∷ []))
begun g ts t less b = go (front (ts ++ t ∷ []) b.more (terminals_of (leaves [] b.tree)) (end_of g) (sym b.is))
  where
    go : (ts ++ t ∷ [] ≡ terminals_of (leaves [] b.tree) ++ end_of g ∷ []) ⊎
        ((rest : List ℕ) × (terminals_of (leaves [] b.tree) ≡ ts ++ t ∷ [] ++ rest)) →
        (tree : Forest) × DerivationTree g tree × ((read rest : List Leaf) × (leaves [] tree ≡ read ++ rest) ×
        (terminals_of read ≡ ts ++ t ∷ []))
    go (inl whole) = let same : t ≡ end_of g = (last_same ts (terminals_of (leaves [] b.tree)) t (end_of g) whole).1 in
        absurd (omega (arith, same, less))
    go (inr (rest, is)) =
        let (read, others, e, named) = terminals_parted (leaves [] b.tree) (ts ++ t ∷ []) rest is in
        (b.tree, b.is_tree, (read, others, e, named))

-- one that ends with `end` has these leaves alone
pub begun_whole : (g : GrammarView) → IsDeterministic g → (ts : List ℕ) → Begins g (ts ++ end_of g ∷ []) →
    (tree : Forest) × DerivationTree g tree × (terminals_of (leaves [] tree) ≡ ts)
begun_whole g ok ts b = go (front (ts ++ end_of g ∷ []) b.more (terminals_of (leaves [] b.tree)) (end_of g) (sym b.is))
  where
    go : (ts ++ end_of g ∷ [] ≡ terminals_of (leaves [] b.tree) ++ end_of g ∷ []) ⊎
        ((rest : List ℕ) × (terminals_of (leaves [] b.tree) ≡ ts ++ end_of g ∷ [] ++ rest)) →
        (tree : Forest) × DerivationTree g tree × (terminals_of (leaves [] tree) ≡ ts)
    go (inl whole) = (b.tree, b.is_tree, sym (last_same ts (terminals_of (leaves [] b.tree)) (end_of g) (end_of g) whole).0)
    go (inr (rest, is)) =
        let (before, last, e, named) = terminals_parted (leaves [] b.tree) ts (end_of g ∷ rest)
        (is ∙ append_assoc ts (end_of g ∷ []) rest) in
        end_inside before last e (cancelled before last named (sym (terminals_joined before last) ∙
        (ap terminals_of (sym e) ∙ (is ∙ append_assoc ts (end_of g ∷ []) rest))))
      where
        cancel : (ps qs rs : List ℕ) → ps ++ qs ≡ ps ++ rs → qs ≡ rs
        cancel [] qs rs e = e
        cancel (p ∷ ps) qs rs e = cancel ps qs rs (cc)

        cancelled : (before last : List Leaf) → terminals_of before ≡ ts →
            terminals_of before ++ terminals_of last ≡ ts ++ (end_of g ∷ rest) →
            terminals_of last ≡ end_of g ∷ rest
        cancelled before last named e =
            cancel ts (terminals_of last) (end_of g ∷ rest) (ap (λ z. z ++ terminals_of last) (sym named) ∙ e)

        end_inside : (before last : List Leaf) → leaves [] b.tree ≡ before ++ last → terminals_of last ≡ end_of g ∷ rest →
            (tree : Forest) × DerivationTree g tree × (terminals_of (leaves [] tree) ≡ ts)
        end_inside before [] e named = cc
        end_inside before (x ∷ last) e named =
            let is_end : x.terminal ≡ end_of g = cc in
            let can = tree_shifts g b.tree b.is_tree x (subst (λ z. Contains z x) (sym e)
            (contains_at (before ++ x ∷ last) x (length before) (append_seam before x last))) in
            absurd ((parsable g ok).no_end x.context (subst (CanShift g x.context) is_end can))
