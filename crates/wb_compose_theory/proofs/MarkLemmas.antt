-- Where marks are, and which productions a nonterminal has.
use Rattle.std.proofs.Common.{◌++◌, ◌∙◌, ◌∷◌, ◌≡◌, ◌≢◌, List, [], ap, drop, inl, inr, refl, subst, suc, sym, zero, ℕ}
use Rattle.wb_base.specs.declared.symbol.Symbol.{Symbol}
use Rattle.wb_base.specs.declared.symbol.Symbol.TheVariants.{Nonterminal, Terminal}
use Rattle.wb_grammar_theory.specs.declared.item.Item.{Item}
use Rattle.wb_grammar_theory.specs.Items.{initial_item}
use Rattle.wb_compose_theory.specs.Items.{after_dot_in}
use Rattle.wb_compose_theory.specs.Marks.{Each, IsBare, IsMarked, Shape, Uses, image, marked, phi, unmarked}
use Rattle.wb_compose_theory.specs.Worlds.{Has, IsProductionIn, Mark, Owner, Part, World, bare, host, on, top}

-- each of the rest of a list
pub each_drop : (P : Symbol → Type 0) (d : ℕ) (xs : List Symbol) → Each P xs → Each P (drop d xs)
each_drop P zero xs e = e
each_drop P (suc d) [] e = e
each_drop P (suc d) (x ∷ xs) e = each_drop P d xs e.1

-- each of joined lists
pub each_append : (P : Symbol → Type 0) (xs ys : List Symbol) → Each P xs → Each P ys → Each P (xs ++ ys)
each_append P [] ys e f = f
each_append P (x ∷ xs) ys e f = (e.0, each_append P xs ys e.1 f)

-- each has two properties
pub each_both : (P Q : Symbol → Type 0) (xs : List Symbol) → Each P xs → Each Q xs → Each (λ x. P x × Q x) xs
each_both P Q [] e f = tt
each_both P Q (x ∷ xs) e f = ((e.0, f.0), each_both P Q xs e.1 f.1)

-- each has a weaker property
pub each_weaker : (P Q : Symbol → Type 0) → ((x : Symbol) → P x → Q x) → (xs : List Symbol) → Each P xs → Each Q xs
each_weaker P Q f [] e = tt
each_weaker P Q f (x ∷ xs) e = (f x e.0, each_weaker P Q f xs e.1)

-- bare is no mark
pub bare_not_on : (h : ℕ) → bare ≡ on h → ⊥
bare_not_on h e = cc

-- a mark becomes its hole
pub phi_on : (w : World) (t h : ℕ) → w.mark t ≡ on h → phi w t ≡ w.hole_on h
phi_on w t h e = ap (image w t) e

-- a bare terminal stays
pub phi_bare : (w : World) (t : ℕ) → w.mark t ≡ bare → phi w t ≡ t
phi_bare w t e = ap (image w t) e

-- phi twice is phi once
pub phi_phi : (w : World) → IsMarked w → (t : ℕ) → phi w (phi w t) ≡ phi w t
phi_phi w ok t = go (w.mark t) refl
  where
    go : (m : Mark) → w.mark t ≡ m → phi w (phi w t) ≡ phi w t
    go bare e = ap (phi w) (phi_bare w t e)
    go (on h) e = ap (phi w) (phi_on w t h e) ∙ (phi_on w (w.hole_on h) h (ok.holes.hole_mark t h e) ∙ sym (phi_on w t h e))

-- marks on one nonterminal
pub same_mark : (m n : ℕ) → on m ≡ on n → m ≡ n
same_mark m n e = cc

-- what the host owns is in each part
pub has_host : (part : Part) (o : Owner) → o ≡ host → Has part o
has_host part o e = subst (Has part) (sym e) tt

-- what a part has isn't the added production
pub not_top : (part : Part) (o : Owner) → Has part o → o ≢ top
not_top part o h e = absurd (subst (Has part) e h)

-- symbols of the part, without marks
abbrev pub Clean : World → Part → List Symbol → Type 0
Clean w part a = Each (λ x. Has part (w.symbol_owner x) × IsBare w x) a

-- symbols that an owner of the part uses are in the part
pub names_within : (w : World) (part : Part) (o : Owner) (a : List Symbol) → Has part o → Each (λ x. Uses o (w.symbol_owner x)) a →
    Each (λ x. Has part (w.symbol_owner x)) a
names_within w part o a h e = each_weaker (λ x. Uses o (w.symbol_owner x)) (λ x. Has part (w.symbol_owner x)) one a e
  where
    one : (x : Symbol) → Uses o (w.symbol_owner x) → Has part (w.symbol_owner x)
    one x (inl is) = has_host part (w.symbol_owner x) is
    one x (inr is) = subst (Has part) (sym is) h

-- a production on a nonterminal of the part is the part's and has no marks, or is that of a mark
pub data Ways (w : World) (part : Part) (q b : ℕ) : Type 0 where
  own : IsProductionIn w part q → Clean w part (w.right q) → Ways w part q b
  bridge : (m : ℕ) (rest : List Symbol) → w.mark m ≡ on b → q ≡ w.production_of m → w.right q ≡ Terminal m ∷ rest → Ways w part q b

-- the productions of a nonterminal of the part
pub ways : {w : World} → IsMarked w → (all part : Part) (q b : ℕ) → IsProductionIn w all q → w.left q ≡ b →
    Has part (w.symbol_owner (Nonterminal b)) → Ways w part q b
ways {w} ok all part q b rule left has = go (ok.bridges.shape q)
  where
    go : Shape w q → Ways w part q b
    go (unmarked bares) =
        let ne : w.production_owner q ≢ top = not_top all (w.production_owner q) rule in
        let e : w.production_owner q ≡ w.symbol_owner (Nonterminal b) = ok.named.unmarked_owner q bares ne ∙
        ap (λ z. w.symbol_owner (Nonterminal z)) left in
        let mine : Has part (w.production_owner q) = subst (Has part) (sym e) has in
        own mine (each_both (λ x. Has part (w.symbol_owner x)) (IsBare w) (w.right q)
        (names_within w part (w.production_owner q) (w.right q) mine (ok.named.uses q ne)) bares)
    go (marked m h rest mark is right bares) =
        let same : h ≡ b = sym (ok.bridges.bridge_left m h mark) ∙ (ap w.left (sym is) ∙ left) in
        bridge m rest (mark ∙ ap on same) is right

-- an item has no marks after its dot, or is the initial item of a mark's production
pub data Follows (w : World) (item : Item) : Type 0 where
  clear : Each (IsBare w) (after_dot_in w item) → Follows w item
  at_mark : (m h : ℕ) (rest : List Symbol) → w.mark m ≡ on h → item ≡ initial_item (w.production_of m) →
      after_dot_in w item ≡ Terminal m ∷ rest → Each (IsBare w) rest → Follows w item

-- what is after a dot
pub follows : {w : World} → IsMarked w → (item : Item) → Follows w item
follows {w} ok item = go item.production item.dot item refl refl (ok.bridges.shape item.production)
  where
    go : (p d : ℕ) (i : Item) → p ≡ i.production → d ≡ i.dot → Shape w i.production → Follows w i
    go p d i is_p is_d (unmarked bares) = clear (each_drop (IsBare w) i.dot (w.right i.production) bares)
    go p zero i is_p is_d (marked m h rest mark is right bares) =
        at_mark m h rest mark
        (let e : i.production ≡ w.production_of m = is in let f : i.dot ≡ 0 = sym is_d in same_item i (w.production_of m) e f)
        (ap (λ z. drop z (w.right i.production)) (sym is_d) ∙ right) bares
      where
        same_item : (i : Item) (p : ℕ) → i.production ≡ p → i.dot ≡ 0 → i ≡ initial_item p
        same_item i p e f = λ j. record { production = e j; dot = f j }
    go p (suc d) i is_p is_d (marked m h rest mark is right bares) =
        clear (subst (Each (IsBare w)) (sym (ap (λ z. drop z (w.right i.production)) (sym is_d) ∙ ap (drop (suc d)) right))
        (each_drop (IsBare w) d rest bares))

-- the mark after a dot is at the beginning of its production
pub mark_opens : {w : World} → IsMarked w → (item : Item) (m h : ℕ) (rest : List Symbol) → after_dot_in w item ≡ Terminal m ∷ rest →
    w.mark m ≡ on h → item ≡ initial_item (w.production_of m)
mark_opens {w} ok item m h rest is mark = go (follows ok item)
  where
    go : Follows w item → item ≡ initial_item (w.production_of m)
    go (clear bares) = absurd (bare_not_on h (sym ((subst (Each (IsBare w)) is bares).0) ∙ mark))
    go (at_mark m' h' rest' mark' opens is' bares) =
        let e : Terminal m' ∷ rest' ≡ Terminal m ∷ rest = sym is' ∙ is in
        let f : m' ≡ m = cc in
        opens ∙ ap (λ z. initial_item (w.production_of z)) f

-- what is after a nonterminal has no marks
pub rest_bare : {w : World} → IsMarked w → (item : Item) (b : ℕ) (rest : List Symbol) → after_dot_in w item ≡ Nonterminal b ∷ rest →
    Each (IsBare w) rest
rest_bare {w} ok item b rest is = go (follows ok item)
  where
    go : Follows w item → Each (IsBare w) rest
    go (clear bares) = (subst (Each (IsBare w)) is bares).1
    go (at_mark m' h' rest' mark' opens is' bares) =
        let e : Terminal m' ∷ rest' ≡ Nonterminal b ∷ rest = sym is' ∙ is in cc
