-- Trees that are read from right to left: one piece more, and the end.
use Rattle.std.proofs.Common.{◌≡◌, ℕ, List, [], ◌∷◌, ◌++◌, Option, Some, None, map, refl, sym, ◌∙◌, ap, subst, append_assoc}
use Rattle.wb_base.specs.declared.symbol.Symbol.{Symbol}
use Rattle.wb_base.specs.declared.symbol.Symbol.TheVariants.{Terminal, Nonterminal}
use Rattle.wb_base.specs.Grammar.{GrammarView}
use Rattle.wb_grammar_theory.specs.Productions.{IsProduction}
use Rattle.wb_grammar_theory.specs.Trees.{DerivationTree, Forest, nothing, leaf, node, symbols, IsDerived}
use Rattle.wb_explain_readings.specs.declared.piece.Piece.{Piece}
use Rattle.wb_explain_readings.specs.declared.piece.Piece.TheVariants.{Open, Leaf, Close}
use Rattle.wb_explain_readings.specs.Inner.Frames.{AreDerived, Holds, marked, spelled}
use Rattle.wb_explain_readings.specs.Written.{written}

-- nothing is read
pub holds_nothing : (g : GrammarView) → Holds g [] []
holds_nothing g = record { top = nothing; more = []; roots = refl; top_derived = tt; more_derived = tt; is = refl }

marked_leaf : (t : ℕ) (top : Forest) (more : List Forest) → marked (leaf t [] top) more ≡ Some (Terminal t) ∷ marked top more
marked_leaf t top [] = refl
marked_leaf t top (next ∷ more) = refl

spelled_leaf : (t : ℕ) (top : Forest) (more : List Forest) → spelled (leaf t [] top) more ≡ Leaf t ∷ spelled top more
spelled_leaf t top [] = refl
spelled_leaf t top (next ∷ more) = refl

-- a leaf more
pub holds_leaf : (g : GrammarView) (t : ℕ) (stack : List (Option Symbol)) (read : List Piece) → Holds g stack read →
    Holds g (Some (Terminal t) ∷ stack) (Leaf t ∷ read)
holds_leaf g t stack read h = record {
  top = leaf t [] h.top;
  more = h.more;
  roots = ap (λ s. Some (Terminal t) ∷ s) h.roots ∙ sym (marked_leaf t h.top h.more);
  top_derived = h.top_derived;
  more_derived = h.more_derived;
  is = ap (λ s. Leaf t ∷ s) h.is ∙ sym (spelled_leaf t h.top h.more);
}

-- a closing bracket more
pub holds_close : (g : GrammarView) (stack : List (Option Symbol)) (read : List Piece) → Holds g stack read →
    Holds g (None ∷ stack) (Close ∷ read)
holds_close g stack read h = record {
  top = nothing;
  more = h.top ∷ h.more;
  roots = ap (λ s. None ∷ s) h.roots;
  top_derived = tt;
  more_derived = (h.top_derived, h.more_derived);
  is = ap (λ s. Close ∷ s) h.is;
}

-- the symbols before the first mark are the same, and so is what comes after it
pub record Parted (xs ys : List Symbol) (t r : List (Option Symbol)) : Type 0 where
  pub front : xs ≡ ys
  pub back : t ≡ r

parted : (xs ys : List Symbol) (t r : List (Option Symbol)) → map Some xs ++ None ∷ t ≡ map Some ys ++ None ∷ r → Parted xs ys t r
parted [] [] t r e = record { front = refl; back = cc }
parted [] (y ∷ ys) t r e = absurd (cc)
parted (x ∷ xs) [] t r e = absurd (cc)
parted (x ∷ xs) (y ∷ ys) t r e =
    let rest = parted xs ys t r (cc) in
    let same : x ≡ y = cc in
    record { front = ap (λ z. z ∷ xs) same ∙ ap (λ zs. y ∷ zs) rest.front; back = rest.back }

-- symbols without a mark have none
unmarked : (xs ys : List Symbol) (r : List (Option Symbol)) → map Some xs ≡ map Some ys ++ None ∷ r → ⊥
unmarked [] [] r e = absurd (cc)
unmarked [] (y ∷ ys) r e = absurd (cc)
unmarked (x ∷ xs) [] r e = absurd (cc)
unmarked (x ∷ xs) (y ∷ ys) r e = unmarked xs ys r (cc)

marked_node : (p a : ℕ) (top next : Forest) (more : List Forest) → marked (node p a top next) more ≡ Some (Nonterminal a) ∷ marked next more
marked_node p a top next [] = refl
marked_node p a top next (m ∷ more) = refl

spelled_node : (p a : ℕ) (top next : Forest) (more : List Forest) →
    spelled (node p a top next) more ≡ Open p ∷ (written top ++ Close ∷ spelled next more)
spelled_node p a top next [] = refl
spelled_node p a top next (m ∷ more) =
    ap (λ s. Open p ∷ s) (append_assoc (written top) (Close ∷ written next) (Close ∷ spelled m more))

node_on : (g : GrammarView) (p a : ℕ) (right : List Symbol) (stack rest : List (Option Symbol)) (read : List Piece) → (top : Forest) →
    (more : List Forest) → stack ≡ marked top more → IsDerived g top → AreDerived g more → read ≡ spelled top more →
    IsProduction g p a right → stack ≡ map Some right ++ None ∷ rest → Holds g (Some (Nonterminal a) ∷ rest) (Open p ∷ read)
node_on g p a right stack rest read top [] roots derived all is rule has =
    absurd (unmarked (symbols top) right rest (sym roots ∙ has))
node_on g p a right stack rest read top (next ∷ more) roots derived all is rule has =
    let both = parted (symbols top) right (marked next more) rest (sym roots ∙ has) in
    record {
      top = node p a top next;
      more = more;
      roots = ap (λ s. Some (Nonterminal a) ∷ s) (sym both.back) ∙ sym (marked_node p a top next more);
      top_derived = (subst (λ w. IsProduction g p a w) (sym both.front) rule, derived, all.0);
      more_derived = all.1;
      is = ap (λ s. Open p ∷ s) is ∙ sym (spelled_node p a top next more);
    }

-- a production more, where the innermost roots are its right side
pub holds_node : (g : GrammarView) (p a : ℕ) (right : List Symbol) (stack rest : List (Option Symbol)) (read : List Piece) → Holds g stack read →
    IsProduction g p a right → stack ≡ map Some right ++ None ∷ rest → Holds g (Some (Nonterminal a) ∷ rest) (Open p ∷ read)
holds_node g p a right stack rest read h rule has =
    node_on g p a right stack rest read h.top h.more h.roots h.top_derived h.more_derived h.is rule has

one_root : (xs : List Symbol) (x : Symbol) → Some x ∷ [] ≡ map Some xs → xs ≡ x ∷ []
one_root [] x e = absurd (cc)
one_root (y ∷ []) x e = let same : y ≡ x = cc in ap (λ z. z ∷ []) same
one_root (y ∷ z ∷ ys) x e = absurd (cc)

no_mark : (xs : List Symbol) (x : Symbol) (r : List (Option Symbol)) → Some x ∷ [] ≡ map Some xs ++ None ∷ r → ⊥
no_mark [] x r e = absurd (cc)
no_mark (y ∷ []) x r e = absurd (cc)
no_mark (y ∷ z ∷ ys) x r e = absurd (cc)

end_on : (g : GrammarView) (top : Forest) (more : List Forest) (read : List Piece) → Some (Nonterminal g.start) ∷ [] ≡ marked top more →
    IsDerived g top → read ≡ spelled top more → (tree : Forest) × DerivationTree g tree × (written tree ≡ read)
end_on g top [] read roots derived is =
    (top, record { derived = derived; root = one_root (symbols top) (Nonterminal g.start) roots }, sym is)
end_on g top (next ∷ more) read roots derived is = absurd (no_mark (symbols top) (Nonterminal g.start) (marked next more) roots)

-- all is read, and the start alone is there
pub holds_start : (g : GrammarView) (stack : List (Option Symbol)) (read : List Piece) → Holds g stack read →
    stack ≡ Some (Nonterminal g.start) ∷ [] → (tree : Forest) × DerivationTree g tree × (written tree ≡ read)
holds_start g stack read h has = end_on g h.top h.more read (sym has ∙ h.roots) h.top_derived h.is
