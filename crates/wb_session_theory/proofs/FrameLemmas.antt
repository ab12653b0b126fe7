-- Laws of trees with holes.
use Rattle.std.proofs.Common.{◌≡◌, ◌<◌, ◌≤◌, ◌+◌, ℕ, zero, suc, List, [], ◌∷◌, ◌++◌, length, refl, sym, ◌∙◌, ap, arith}
use Rattle.wb_base.specs.declared.symbol.Symbol.TheVariants.{Terminal, Nonterminal}
use Rattle.wb_grammar_theory.specs.Trees.{Forest, nothing, leaf, node, symbols}
use Rattle.wb_scan_theory.specs.Machine.{joined}
use Rattle.wb_scan_theory.proofs.ForestLemmas.{joined_assoc, symbols_joined}
use Rattle.wb_session_theory.specs.Frames.{Frame, bare, hole, twig, branch, roots, root_at, filled}
use Rattle.wb_session_theory.specs.Inner.Linked.{IsWithin, row, linked}
use Rattle.wb_session_theory.specs.Frames.{holes}

-- a root that is there is one leaf or one node
data Root (f : Forest) : Type 0 where
  a_leaf : (t : ℕ) (x : List ℕ) → f ≡ leaf t x nothing → Root f
  a_node : (p a : ℕ) (k : Forest) → f ≡ node p a k nothing → Root f

root_one : (i : ℕ) (f : Forest) → i < roots f → Root (root_at i f)
root_one i nothing lt = absurd (omega arith)
root_one zero (leaf t x rest) lt = a_leaf t x refl
root_one (suc i) (leaf t x rest) lt = root_one i rest (omega arith)
root_one zero (node p a k rest) lt = a_node p a k refl
root_one (suc i) (node p a k rest) lt = root_one i rest (omega arith)

pub filled_linked : (u v : Frame) (base : Forest) → filled (linked u v) base ≡ joined (filled u base) (filled v base)
filled_linked bare v base = refl
filled_linked (hole i u) v base =
    ap (joined (root_at i base)) (filled_linked u v base) ∙ sym (joined_assoc (root_at i base) (filled u base) (filled v base))
filled_linked (twig t x u) v base = ap (leaf t x) (filled_linked u v base)
filled_linked (branch p a k u) v base = ap (node p a (filled k base)) (filled_linked u v base)

pub within_linked : (n : ℕ) (u v : Frame) → IsWithin n u → IsWithin n v → IsWithin n (linked u v)
within_linked n bare v of_u of_v = of_v
within_linked n (hole i u) v (lt, of_u) of_v = (lt, within_linked n u v of_u of_v)
within_linked n (twig t x u) v of_u of_v = within_linked n u v of_u of_v
within_linked n (branch p a k u) v (of_k, of_u) of_v = (of_k, within_linked n u v of_u of_v)

-- a frame in two parts
pub record Cut (n : ℕ) (frame : Frame) (base left right : Forest) : Type 0 where
  pub one : Frame
  pub two : Frame
  pub is : frame ≡ linked one two
  pub one_is : filled one base ≡ left
  pub two_is : filled two base ≡ right
  pub one_within : IsWithin n one
  pub two_within : IsWithin n two

-- where the filled frame is two forests, so is the frame
pub cut : (base left right : Forest) (frame : Frame) → IsWithin (roots base) frame → filled frame base ≡ joined left right →
    Cut (roots base) frame base left right
cut base nothing right frame within e =
    record { one = bare; two = frame; is = refl; one_is = refl; two_is = e; one_within = tt; two_within = within }
cut base (leaf t x left) right bare within e = cc
cut base (leaf t x left) right (twig u y frame) within e =
    let c = cut base left right frame within (let h : filled frame base ≡ joined left right = cc in h) in
    let t_is : u ≡ t = cc in
    let x_is : y ≡ x = cc in
    record {
      one = twig u y c.one;
      two = c.two;
      is = ap (twig u y) c.is;
      one_is = (λ k. leaf (t_is k) (x_is k) (c.one_is k));
      two_is = c.two_is;
      one_within = c.one_within;
      two_within = c.two_within;
    }
cut base (leaf t x left) right (branch p a k frame) within e = cc
cut base (leaf t x left) right (hole i frame) (lt, within) e = go (λ h. cut base left right frame within h) (root_one i base lt)
  where
    go : (filled frame base ≡ joined left right → Cut (roots base) frame base left right) → Root (root_at i base) →
        Cut (roots base) (hole i frame) base (leaf t x left) right
    go again (a_leaf u y is) =
        let whole : leaf u y (filled frame base) ≡ leaf t x (joined left right) =
        ap (λ z. joined z (filled frame base)) (sym is) ∙ e in
        let c = again (let h : filled frame base ≡ joined left right = cc in h) in
        let t_is : u ≡ t = cc in
        let x_is : y ≡ x = cc in
        record {
          one = hole i c.one;
          two = c.two;
          is = ap (hole i) c.is;
          one_is = ap (λ z. joined z (filled c.one base)) is ∙ (λ k. leaf (t_is k) (x_is k) (c.one_is k));
          two_is = c.two_is;
          one_within = (lt, c.one_within);
          two_within = c.two_within;
        }
    go again (a_node p a k is) =
        let whole : node p a k (filled frame base) ≡ leaf t x (joined left right) =
        ap (λ z. joined z (filled frame base)) (sym is) ∙ e in cc
cut base (node p a k left) right bare within e = cc
cut base (node p a k left) right (twig u y frame) within e = cc
cut base (node p a k left) right (branch q b kids frame) (of_kids, within) e =
    let c = cut base left right frame within (let h : filled frame base ≡ joined left right = cc in h) in
    let p_is : q ≡ p = cc in
    let a_is : b ≡ a = cc in
    let k_is : filled kids base ≡ k = cc in
    record {
      one = branch q b kids c.one;
      two = c.two;
      is = ap (branch q b kids) c.is;
      one_is = (λ i. node (p_is i) (a_is i) (k_is i) (c.one_is i));
      two_is = c.two_is;
      one_within = (of_kids, c.one_within);
      two_within = c.two_within;
    }
cut base (node p a k left) right (hole i frame) (lt, within) e = go (λ h. cut base left right frame within h) (root_one i base lt)
  where
    go : (filled frame base ≡ joined left right → Cut (roots base) frame base left right) → Root (root_at i base) →
        Cut (roots base) (hole i frame) base (node p a k left) right
    go again (a_leaf u y is) =
        let whole : leaf u y (filled frame base) ≡ node p a k (joined left right) =
        ap (λ z. joined z (filled frame base)) (sym is) ∙ e in cc
    go again (a_node q b kids is) =
        let whole : node q b kids (filled frame base) ≡ node p a k (joined left right) =
        ap (λ z. joined z (filled frame base)) (sym is) ∙ e in
        let c = again (let h : filled frame base ≡ joined left right = cc in h) in
        let p_is : q ≡ p = cc in
        let a_is : b ≡ a = cc in
        let k_is : kids ≡ k = cc in
        record {
          one = hole i c.one;
          two = c.two;
          is = ap (hole i) c.is;
          one_is = ap (λ z. joined z (filled c.one base)) is ∙ (λ j. node (p_is j) (a_is j) (k_is j) (c.one_is j));
          two_is = c.two_is;
          one_within = (lt, c.one_within);
          two_within = c.two_within;
        }

-- a row of holes is filled with the stack itself
row_filled : (f base : Forest) (i : ℕ) → ((j : ℕ) → root_at (i + j) base ≡ root_at j f) → filled (row i (roots f)) base ≡ f
row_filled nothing base i h = refl
row_filled (leaf t x rest) base i h =
    let here : root_at i base ≡ leaf t x nothing = ap (λ z. root_at z base) (let e : i ≡ i + 0 = omega arith in e) ∙ h 0 in
    ap (λ z. joined z (filled (row (suc i) (roots rest)) base)) here
    ∙ ap (leaf t x) (row_filled rest base (suc i)
    (λ j. ap (λ z. root_at z base) (let e : suc i + j ≡ i + suc j = omega arith in e) ∙ h (suc j)))
row_filled (node p a k rest) base i h =
    let here : root_at i base ≡ node p a k nothing = ap (λ z. root_at z base) (let e : i ≡ i + 0 = omega arith in e) ∙ h 0 in
    ap (λ z. joined z (filled (row (suc i) (roots rest)) base)) here
    ∙ ap (node p a k) (row_filled rest base (suc i)
    (λ j. ap (λ z. root_at z base) (let e : suc i + j ≡ i + suc j = omega arith in e) ∙ h (suc j)))

pub whole_row : (base : Forest) → filled (row 0 (roots base)) base ≡ base
whole_row base = row_filled base base 0 (λ j. ap (λ z. root_at z base) (let e : 0 + j ≡ j = omega arith in e))

pub row_within : (n i m : ℕ) → i + n ≤ m → IsWithin m (row i n)
row_within zero i m le = tt
row_within (suc n) i m le = (omega arith, row_within n (suc i) m (omega arith))

-- stacks of the same symbols have as many roots, of the same symbols
pub roots_symbols : (f : Forest) → roots f ≡ length (symbols f)
roots_symbols nothing = refl
roots_symbols (leaf t x rest) = let h : roots rest ≡ length (symbols rest) = roots_symbols rest in omega arith
roots_symbols (node p a k rest) = let h : roots rest ≡ length (symbols rest) = roots_symbols rest in omega arith

root_symbols : (f h : Forest) → symbols f ≡ symbols h → (i : ℕ) → symbols (root_at i f) ≡ symbols (root_at i h)
root_symbols nothing nothing e i = refl
root_symbols nothing (leaf t x r) e i = cc
root_symbols nothing (node p a k r) e i = cc
root_symbols (leaf t x r) nothing e i = cc
root_symbols (leaf t x r) (node p a k r') e i = cc
root_symbols (leaf t x r) (leaf t' x' r') e zero = let h : Terminal t ≡ Terminal t' = cc in ap (λ z. z ∷ []) h
root_symbols (leaf t x r) (leaf t' x' r') e (suc i) = root_symbols r r' (let h : symbols r ≡ symbols r' = cc in h) i
root_symbols (node p a k r) nothing e i = cc
root_symbols (node p a k r) (leaf t x r') e i = cc
root_symbols (node p a k r) (node p' a' k' r') e zero = let h : Nonterminal a ≡ Nonterminal a' = cc in ap (λ z. z ∷ []) h
root_symbols (node p a k r) (node p' a' k' r') e (suc i) = root_symbols r r' (let h : symbols r ≡ symbols r' = cc in h) i

pub filled_symbols : (frame : Frame) (f h : Forest) → symbols f ≡ symbols h → symbols (filled frame f) ≡ symbols (filled frame h)
filled_symbols bare f h e = refl
filled_symbols (hole i rest) f h e =
    symbols_joined (root_at i f) (filled rest f)
    ∙ ((λ k. root_symbols f h e i k ++ filled_symbols rest f h e k) ∙ sym (symbols_joined (root_at i h) (filled rest h)))
filled_symbols (twig t x rest) f h e = ap (λ z. Terminal t ∷ z) (filled_symbols rest f h e)
filled_symbols (branch p a k rest) f h e = ap (λ z. Nonterminal a ∷ z) (filled_symbols rest f h e)

-- a frame without holes is the same forest whatever the stack
pub same_without : (frame : Frame) → holes frame ≡ 0 → (f h : Forest) → filled frame f ≡ filled frame h
same_without bare e f h = refl
same_without (hole i rest) e f h = absurd (omega arith)
same_without (twig t x rest) e f h = ap (leaf t x) (same_without rest e f h)
same_without (branch p a k rest) e f h =
    let one : holes k ≡ 0 = omega arith in
    let two : holes rest ≡ 0 = omega arith in
    (λ i. node p a (same_without k one f h i) (same_without rest two f h i))
