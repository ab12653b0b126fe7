-- Nodes and trees of a term: what holds of each and of some, and which tree it is.
use Rattle.std.proofs.Common.{◌≡◌, ◌≢◌, ◌⊎◌, inl, inr, ℕ, List, length, refl, sym, ap, ◌∙◌, subst}
use Rattle.std.specs.List.{AllZip}
use Rattle.std.proofs.lemmas.Slice.Zip.{AllZip-long}
use Rattle.wb_values.specs.Signature.{Signature, IsFirst}
use Rattle.wb_values.specs.Tree.{Tree, Value, Values}
use Rattle.wb_values.specs.Tree as v
use Rattle.wb_terms.specs.Term.{Term, Argument, Arguments, named, plain, term, empty, more, list_of}
use Rattle.wb_terms.specs.Nodes.{SomeNode, SomeInArgument, SomeInArguments, EachNode, EachInArgument, EachInArguments}
use Rattle.wb_terms.specs.TreeOf.{HasFirst, IsOfKind, FitsNode, IsNumbered, IsNumberedValue, AreNumbered, IsUnknown, IsWrong, IsWrongChild}
use Rattle.wb_terms.specs.Inner.Built.{IsNumberOf, IsBuilt, IsBuiltValue, AreBuilt, IsKnown, FitsIfKnown}
use Rattle.wb_lemmas.proofs.Zips.{zip_both_at}
use Rattle.wb_terms.proofs.KindLemmas.{one_first, one_signature, first_or_none}

module _ (P Q : List ℕ → ℕ → List Argument → Type 0) (apart : (name : List ℕ) (place : ℕ) (arguments : List Argument)
    → P name place arguments → Q name place arguments → ⊥) where
  -- what holds of each node excludes what contradicts it
  mutual
    pub each_some : (t : Term) → EachNode P t → SomeNode Q t → ⊥
    each_some (named name place arguments) e (inl q) = apart name place (list_of arguments) e.0 q
    each_some (named name place arguments) e (inr s) = each_some_arguments arguments e.1 s

    each_some_argument : (a : Argument) → EachInArgument P a → SomeInArgument Q a → ⊥
    each_some_argument (plain c place) e s = s
    each_some_argument (term t) e s = each_some t e s

    each_some_arguments : (arguments : Arguments) → EachInArguments P arguments → SomeInArguments Q arguments → ⊥
    each_some_arguments empty e s = s
    each_some_arguments (more a others) e (inl s) = each_some_argument a e.0 s
    each_some_arguments (more a others) e (inr s) = each_some_arguments others e.1 s

module _ (P Q R : List ℕ → ℕ → List Argument → Type 0) (both : (name : List ℕ) (place : ℕ) (arguments : List Argument)
    → P name place arguments → Q name place arguments → R name place arguments) where
  -- what follows from two facts of each node
  mutual
    pub each_both : (t : Term) → EachNode P t → EachNode Q t → EachNode R t
    each_both (named name place arguments) p q = (both name place (list_of arguments) p.0 q.0, each_both_arguments arguments p.1 q.1)

    each_both_argument : (a : Argument) → EachInArgument P a → EachInArgument Q a → EachInArgument R a
    each_both_argument (plain c place) p q = tt
    each_both_argument (term t) p q = each_both t p q

    each_both_arguments : (arguments : Arguments) → EachInArguments P arguments → EachInArguments Q arguments → EachInArguments R arguments
    each_both_arguments empty p q = tt
    each_both_arguments (more a others) p q = (each_both_argument a p.0 q.0, each_both_arguments others p.1 q.1)

module _ (ss : List Signature) where
  -- a known name's number is that of its first production
  first_of : (name : List ℕ) (n : ℕ) → IsNumberOf ss name n → HasFirst ss name → IsFirst ss name n
  first_of name n (inl first) known = first
  first_of name n (inr none) known = absurd (first_or_none ss name known none.0)

  mutual
    -- where all names are known, what was built is the term by numbers
    pub built_numbered : (t : Term) (u : Tree) → IsBuilt ss t u → EachNode (IsKnown ss) t → IsNumbered ss t u
    built_numbered (named name place arguments) (v.node production values) b known =
        (first_of name production b.0 known.0, built_arguments arguments values b.1 known.1)

    built_argument : (a : Argument) (x : Value) → IsBuiltValue ss a x → EachInArgument (IsKnown ss) a → IsNumberedValue ss a x
    built_argument (plain c place) (v.plain d) b known = b
    built_argument (plain c place) (v.tree u) b known = absurd b
    built_argument (term t) (v.plain d) b known = absurd b
    built_argument (term t) (v.tree u) b known = built_numbered t u b known

    built_arguments : (arguments : Arguments) (xs : Values) → AreBuilt ss arguments xs → EachInArguments (IsKnown ss) arguments
        → AreNumbered ss arguments xs
    built_arguments empty v.empty b known = tt
    built_arguments empty (v.more x xs) b known = absurd b
    built_arguments (more a others) v.empty b known = absurd b
    built_arguments (more a others) (v.more x xs) b known = (built_argument a x b.0 known.0, built_arguments others xs b.1 known.1)

  mutual
    -- the term by numbers is one tree
    pub one_tree : (t : Term) (u w : Tree) → IsNumbered ss t u → IsNumbered ss t w → u ≡ w
    one_tree (named name place arguments) (v.node p xs) (v.node q ys) a b =
        let e : p ≡ q = one_first ss name p q a.0 b.0 in
        let f : xs ≡ ys = one_arguments arguments xs ys a.1 b.1 in
        cc

    one_argument : (a : Argument) (x y : Value) → IsNumberedValue ss a x → IsNumberedValue ss a y → x ≡ y
    one_argument (plain c place) (v.plain d) (v.plain e) a b = ap v.plain (sym a ∙ b)
    one_argument (plain c place) (v.plain d) (v.tree u) a b = absurd b
    one_argument (plain c place) (v.tree u) y a b = absurd a
    one_argument (term t) (v.plain d) y a b = absurd a
    one_argument (term t) (v.tree u) (v.plain d) a b = absurd b
    one_argument (term t) (v.tree u) (v.tree w) a b = ap v.tree (one_tree t u w a b)

    one_arguments : (arguments : Arguments) (xs ys : Values) → AreNumbered ss arguments xs → AreNumbered ss arguments ys → xs ≡ ys
    one_arguments empty v.empty v.empty a b = refl
    one_arguments empty v.empty (v.more y ys) a b = absurd b
    one_arguments empty (v.more x xs) ys a b = absurd a
    one_arguments (more c others) v.empty ys a b = absurd a
    one_arguments (more c others) (v.more x xs) v.empty a b = absurd b
    one_arguments (more c others) (v.more x xs) (v.more y ys) a b =
        let e : x ≡ y = one_argument c x y a.0 b.0 in
        let f : xs ≡ ys = one_arguments others xs ys a.1 b.1 in
        cc

  -- a known node that fits where it is known fits
  pub known_fits : (name : List ℕ) (place : ℕ) (arguments : List Argument) → IsKnown ss name place arguments
      → FitsIfKnown ss name place arguments → FitsNode ss name place arguments
  known_fits name place arguments known fits = record { found = known; fit = fits known }

  -- a node that fits has no fault
  pub fits_no_wrong : (at : ℕ) (name : List ℕ) (place : ℕ) (arguments : List Argument) → FitsNode ss name place arguments
      → IsWrong ss at name place arguments → ⊥
  fits_no_wrong at name place arguments f w = fault w.fault where
    zipped : AllZip (IsOfKind ss) arguments w.found.signature.children
    zipped = subst (λ (s : Signature). AllZip (IsOfKind ss) arguments s.children) (one_signature ss name f.found w.found) f.fit

    fault : ((length arguments ≢ length w.found.signature.children) × (at ≡ place))
        ⊎ IsWrongChild ss arguments w.found.signature.children at
        → ⊥
    fault (inl h) = h.0 (sym (AllZip-long (IsOfKind ss) arguments w.found.signature.children zipped))
    fault (inr c) =
        c.wrong (zip_both_at (IsOfKind ss) arguments w.found.signature.children c.index c.argument c.kind zipped c.there c.asked)

  -- a known name isn't unknown
  pub known_not_unknown : (at : ℕ) (name : List ℕ) (place : ℕ) (arguments : List Argument) → HasFirst ss name
      → IsUnknown ss at name place arguments → ⊥
  known_not_unknown at name place arguments known u = first_or_none ss name known u.0
