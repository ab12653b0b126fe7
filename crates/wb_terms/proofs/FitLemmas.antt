-- The tree that a term stands for fits the signatures.
use Rattle.std.proofs.Common.{◌≡◌, ℕ, List, [], ◌∷◌, refl, sym, ap, ◌∙◌, subst}
use Rattle.std.specs.List.{AllZip}
use Rattle.std.specs.Prelude.{slice_get}
use Rattle.wb_base.specs.declared.symbol.Kind.{Kind}
use Rattle.wb_base.specs.declared.symbol.Kind.TheVariants as k
use Rattle.wb_values.specs.Signature.{Signature}
use Rattle.wb_values.specs.Tree.{Plain, Tree, Value, Values, int, bool, text}
use Rattle.wb_values.specs.Tree as v
use Rattle.wb_values.specs.Kinds.{kind_of}
use Rattle.wb_values.specs.Fits.{FitsTree, FitsValue, FitAll}
use Rattle.wb_terms.specs.Term.{Term, Argument, Arguments, named, plain, term, empty, more, list_of}
use Rattle.wb_terms.specs.Nodes.{EachNode, EachInArgument, EachInArguments}
use Rattle.wb_terms.specs.TreeOf.{HasFirst, IsTreeOf, FitsNode, IsNumbered, IsNumberedValue, AreNumbered, IsOfKind}
use Rattle.wb_terms.proofs.KindLemmas.{one_first, one_signature}

-- a plain argument's kind
plain_fits : (ss : List Signature) (c : Plain) (place : ℕ) (kind : Kind) → IsOfKind ss (plain c place) kind → kind ≡ kind_of c
plain_fits ss (int z) place k.Int o = refl
plain_fits ss (int z) place k.Bool o = absurd o
plain_fits ss (int z) place k.Text o = absurd o
plain_fits ss (int z) place (k.Tree m) o = absurd o
plain_fits ss (bool z) place k.Int o = absurd o
plain_fits ss (bool z) place k.Bool o = refl
plain_fits ss (bool z) place k.Text o = absurd o
plain_fits ss (bool z) place (k.Tree m) o = absurd o
plain_fits ss (text z) place k.Int o = absurd o
plain_fits ss (text z) place k.Bool o = absurd o
plain_fits ss (text z) place k.Text o = refl
plain_fits ss (text z) place (k.Tree m) o = absurd o

-- the name at the top of a term
abbrev name_in : Term → List ℕ
name_in (named name place arguments) = name

module _ (ss : List Signature) where
  mutual
    -- the tree of a term that fits is a tree of the nonterminal of its production
    pub term_fits : (t : Term) (u : Tree) → IsNumbered ss t u → EachNode (FitsNode ss) t → (f : HasFirst ss (name_in t))
        → FitsTree ss u f.signature.left
    term_fits (named name place arguments) (v.node p xs) n e f =
        let same = one_first ss name f.production p f.first n.0 in
        let its = ap (slice_get ss) (sym same) ∙ f.its in
        let one = one_signature ss name e.0.found f in
        let zipped = subst (λ (s : Signature). AllZip (IsOfKind ss) (list_of arguments) s.children) one e.0.fit in
        (f.signature, its, refl, all_fit arguments xs f.signature.children n.1 e.1 zipped)

    -- a value that an argument stands for is of its kind
    one_fits : (a : Argument) (x : Value) (kind : Kind) → IsNumberedValue ss a x → EachInArgument (FitsNode ss) a → IsOfKind ss a kind
        → FitsValue ss x kind
    one_fits (plain c place) (v.plain d) kind n e o = plain_fits ss c place kind o ∙ ap kind_of n
    one_fits (plain c place) (v.tree u) kind n e o = absurd n
    one_fits (term t) (v.plain d) kind n e o = absurd n
    one_fits (term (named name place arguments)) (v.tree u) k.Int n e o = absurd o
    one_fits (term (named name place arguments)) (v.tree u) k.Bool n e o = absurd o
    one_fits (term (named name place arguments)) (v.tree u) k.Text n e o = absurd o
    one_fits (term (named name place arguments)) (v.tree u) (k.Tree m) n e o =
        (m, refl, subst (λ (l : ℕ). FitsTree ss u l) o.left (term_fits (named name place arguments) u n e o.found))

    -- and so is each of several
    all_fit : (arguments : Arguments) (xs : Values) (kinds : List Kind) → AreNumbered ss arguments xs
        → EachInArguments (FitsNode ss) arguments → AllZip (IsOfKind ss) (list_of arguments) kinds → FitAll ss xs kinds
    all_fit empty v.empty [] n e z = refl
    all_fit empty v.empty (kind ∷ kinds) n e z = absurd z
    all_fit empty (v.more x xs) kinds n e z = absurd n
    all_fit (more a others) v.empty kinds n e z = absurd n
    all_fit (more a others) (v.more x xs) [] n e z = absurd z
    all_fit (more a others) (v.more x xs) (kind ∷ kinds) n e z =
        (kind, kinds, refl, one_fits a x kind n.0 e.0 z.0, all_fit others xs kinds n.1 e.1 z.1)

-- the tree that a term stands for is a tree of its production's nonterminal, and fits the signatures
pub tree_fits : (ss : List Signature) (t : Term) (u : Tree) → IsTreeOf ss t u → (n : ℕ) × FitsTree ss u n
tree_fits ss (named name place arguments) u h =
    (h.fit.0.found.signature.left, term_fits ss (named name place arguments) u h.numbered h.fit h.fit.0.found)
