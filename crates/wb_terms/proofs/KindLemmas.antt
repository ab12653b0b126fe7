-- How the children of a node are tested, and what that says of it.
use Rattle.std.proofs.Common.{◌≡◌, ◌≢◌, ◌+◌, ◌<◌, ◌≤◌, ◌⊎◌, ◌↔◌, inl, inr, ℕ, zero, suc, List, [], ◌∷◌, Option, Some, None, Bool, true}
use Rattle.std.proofs.Common.{false, not, eqb, IsTrue, map, length, get_or, slice_get, IfSome, refl, sym, ap, ◌∙◌, subst, arith}
use Rattle.std.specs.List.{AllZip}
use Rattle.wb_lemmas.proofs.Zips.{beside}
use Rattle.std.specs.Prelude.{min}
use Rattle.std.proofs.lemmas.Option.{slice_get_read, slice_get_within, get_or_from_slice_get, slice_get-get_or}
use Rattle.std.proofs.lemmas.List.{get_or-take, get_or-map, length-take-le}
use Rattle.std.specs.Option.{IsSomeAnd}
use Rattle.wb_base.specs.declared.symbol.Kind.{Kind}
use Rattle.wb_base.specs.declared.symbol.Kind.TheVariants as k
use Rattle.wb_values.specs.Signature.{Signature, IsFirst, HasNone}
use Rattle.wb_values.specs.Tree.{Tree, Value, int, bool, text, node, production_of}
use Rattle.wb_values.specs.Tree as v
use Rattle.wb_values.specs.declared.value.Value.{Value as Stored}
use Rattle.wb_terms.specs.Term.{Argument, named, plain, term, place_of}
use Rattle.wb_terms.specs.Inner.Least.{FindsLeast}
use Rattle.wb_terms.specs.Inner.Smallest.{smallest_with}
use Rattle.wb_terms.specs.TreeOf.{HasFirst, IsOfNonterminal, IsOfKind, IsWrong, IsWrongChild}
use Rattle.wb_terms.specs.Inner.Built.{IsNumberOf, IsBuiltValue, IsStored, FitsIfKnown}
use Rattle.wb_terms.specs.Inner.KindsFit.{IsOfLeft, FirstFit, KindsFit, IsWrongAmong}
use Rattle.wb_terms.proofs.LeastLemmas.{noted_least, same_least}

-- nothing is there past the end
past_end : (signatures : List Signature) (n : ℕ) (s : Signature) → n ≡ length signatures → slice_get signatures n ≡ Some s → ⊥
past_end signatures n s e at = let lt = slice_get_within signatures n s at in omega (arith, lt)

module _ (signatures : List Signature) where
  -- what is there, of which a fact holds
  some_at : (o : Option Signature) (P : Signature → Type 0) → IsSomeAnd o P → (s : Signature) × (o ≡ Some s) × P s
  some_at None P h = absurd h
  some_at (Some s) P h = (s, refl, h)

  -- a signature that is there is not of a name that none has
  none_has : (name : List ℕ) (n : ℕ) (s : Signature) → slice_get signatures n ≡ Some s → s.name ≡ name → HasNone signatures name → ⊥
  none_has name n s there same none =
      let lt = slice_get_within signatures n s there in
      none n s lt (ap (λ (x : Signature). x.name) (get_or_from_slice_get signatures n s s there) ∙ same)

  -- a name has a first signature, or none has it
  pub first_or_none : (name : List ℕ) → HasFirst signatures name → HasNone signatures name → ⊥
  first_or_none name f none =
      let s = some_at (slice_get signatures f.production) (λ (s : Signature). s.name ≡ name) f.first.named in
      none_has name f.production s.0 s.1 s.2 none

  -- none of the name comes before the first
  not_before : (name : List ℕ) (m n : ℕ) → IsFirst signatures name m → IsFirst signatures name n → m < n → ⊥
  not_before name m n a b lt =
      let s = some_at (slice_get signatures m) (λ (s : Signature). s.name ≡ name) a.named in
      let t = some_at (slice_get signatures n) (λ (s : Signature). s.name ≡ name) b.named in
      let within = slice_get_within signatures n t.0 t.1 in
      let long = length-take-le n signatures (omega (arith, within)) in
      b.first m s.0 (omega (arith, lt, long)) (ap (λ (x : Signature). x.name)
      (get_or-take n signatures m s.0 lt ∙ get_or_from_slice_get signatures m s.0 s.0 s.1) ∙ s.2)

  -- the first is one
  pub one_first : (name : List ℕ) (m n : ℕ) → IsFirst signatures name m → IsFirst signatures name n → m ≡ n
  one_first name m n a b =
      let x : m < n → ⊥ = not_before name m n a b in
      let y : n < m → ⊥ = not_before name n m b a in
      omega (arith, x, y)

  -- and so is its signature
  pub one_signature : (name : List ℕ) (f g : HasFirst signatures name) → f.signature ≡ g.signature
  one_signature name f g =
      let e = one_first name f.production g.production f.first g.first in
      let same : Some f.signature ≡ Some g.signature = sym f.its ∙ (ap (slice_get signatures) e ∙ g.its) in
      cc

  -- the number of a name that has a first production is that one
  number_first : (name : List ℕ) (n : ℕ) → IsNumberOf signatures name n → (f : HasFirst signatures name) → n ≡ f.production
  number_first name n (inl first) f = one_first name n f.production first f.first
  number_first name n (inr none) f = absurd (first_or_none name f none.0)

  -- a number below the count of signatures is that of a first production
  number_there : (name : List ℕ) (n : ℕ) (s : Signature) → IsNumberOf signatures name n → slice_get signatures n ≡ Some s
      → HasFirst signatures name
  number_there name n s (inl first) there = record { production = n; signature = s; first = first; its = there }
  number_there name n s (inr none) there = absurd (past_end signatures n s none.1 there)

  -- a term is of the nonterminal where its number is
  of_left : (name : List ℕ) (n nonterminal : ℕ) → IsNumberOf signatures name n → IsOfLeft signatures n nonterminal
      → IsOfNonterminal signatures name nonterminal
  of_left name n nonterminal number o = left number where
    left : IsNumberOf signatures name n → IsOfNonterminal signatures name nonterminal
    left (inl first) = record { found = record { production = n; signature = o.signature; first = first; its = o.its }; left = o.left }
    left (inr none) = absurd (past_end signatures n o.signature none.1 o.its)

  left_of : (name : List ℕ) (n nonterminal : ℕ) → IsNumberOf signatures name n → IsOfNonterminal signatures name nonterminal
      → IsOfLeft signatures n nonterminal
  left_of name n nonterminal number o =
      record {
        signature = o.found.signature;
        its = ap (slice_get signatures) (number_first name n number o.found)
            ∙ o.found.its;
        left = o.left;
      }

  -- a tree is of the kind where its production is of the nonterminal
  pub tree_kind : (tree : Tree) (n nonterminal : ℕ) (r : Bool) (argument : Argument) → n ≡ production_of tree
      → (IsTrue r ↔ IsOfLeft signatures n nonterminal) → IsBuiltValue signatures argument (v.tree tree)
      → (IsTrue r ↔ IsOfKind signatures argument (k.Tree nonterminal))
  tree_kind tree n nonterminal r (plain c place) e both built = absurd built
  tree_kind (node q vs) n nonterminal r (term (named name place arguments)) e both built =
      let number : IsNumberOf signatures name n = subst (IsNumberOf signatures name) (sym e) built.0 in
      ((λ is. of_left name n nonterminal number (both.0 is)), (λ is. both.1 (left_of name n nonterminal number is)))

  -- a place among one more is among these or the next
  early_or : (j i : ℕ) → j < i + 1 → (j < i) ⊎ (j ≡ i)
  early_or j i lt = grind arith

  -- one child more is tested
  pub kind_step : (arguments : List Argument) (kinds : List Kind) (i : ℕ) (a : Argument) (kind : Kind) (fits : Bool) (place : ℕ)
      (o : Option ℕ)
      → slice_get arguments i ≡ Some a → slice_get kinds i ≡ Some kind → (IsTrue fits ↔ IsOfKind signatures a kind) → place ≡ place_of a
      → FindsLeast (IsWrongAmong signatures i arguments kinds) (FirstFit signatures i arguments kinds) o → FindsLeast
      (IsWrongAmong signatures (i + 1) arguments kinds) (FirstFit signatures (i + 1) arguments kinds) (smallest_with (not fits) place o)
  kind_step arguments kinds i a kind fits place o there asked both at finds =
      noted_least (IsWrongAmong signatures i arguments kinds) (IsWrongAmong signatures (i + 1) arguments kinds)
      (FirstFit signatures i arguments kinds) (FirstFit signatures (i + 1) arguments kinds) (not fits) place o finds
      (λ fit counts j b l lt here want. fact fit (fitting fits counts) j b l (early_or j i lt) here want)
      (λ p w. record { child = w.child; early = omega (arith, w.early) })
      (λ counts. record {
        child = record {
          index = i;
          argument = a;
          kind = kind;
          there = there;
          asked = asked;
          wrong =
              λ is. unfit fits counts (both.1 is);
          place = at;
        };
        early = omega arith;
      })
      (λ p w. only p w (early_or w.child.index i w.early))
    where
      some_same : {X : Type 0} (x y : X) → Some x ≡ Some y → x ≡ y
      some_same x y e = cc

      fitting : (b : Bool) → not b ≡ false → b ≡ true
      fitting true h = refl
      fitting false h = absurd (cc)

      unfit : (b : Bool) → not b ≡ true → b ≡ true → ⊥
      unfit true h e = absurd (cc)
      unfit false h e = absurd (cc)

      fact : FirstFit signatures i arguments kinds → fits ≡ true → (j : ℕ) (b : Argument) (l : Kind) → (j < i) ⊎ (j ≡ i)
          → slice_get arguments j ≡ Some b → slice_get kinds j ≡ Some l → IsOfKind signatures b l
      fact fit is j b l (inl lt) here want = fit j b l lt here want
      fact fit is j b l (inr e) here want =
          let sa : a ≡ b = some_same a b (sym there ∙ (ap (slice_get arguments) (sym e) ∙ here)) in
          let sk : kind ≡ l = some_same kind l (sym asked ∙ (ap (slice_get kinds) (sym e) ∙ want)) in
          subst (λ c. IsOfKind signatures c l) sa (subst (λ m. IsOfKind signatures a m) sk (both.0 is))

      refused : (b : Bool) → b ≡ fits → (p : ℕ) → place ≤ p → ¬ IsOfKind signatures a kind → (not b ≡ true) × (place ≤ p)
      refused true e p le wrong = absurd (wrong (both.0 (sym e)))
      refused false e p le wrong = (refl, le)

      only : (p : ℕ) (w : IsWrongAmong signatures (i + 1) arguments kinds p) → (w.child.index < i) ⊎ (w.child.index ≡ i)
          → IsWrongAmong signatures i arguments kinds p ⊎ ((not fits ≡ true) × (place ≤ p))
      only p w (inl lt) = inl (record { child = w.child; early = lt })
      only p w (inr e) =
          let sa : a ≡ w.child.argument = some_same a w.child.argument (sym there ∙ (ap (slice_get arguments) (sym e) ∙ w.child.there)) in
          let sk : kind ≡ w.child.kind = some_same kind w.child.kind (sym asked ∙ (ap (slice_get kinds) (sym e) ∙ w.child.asked)) in
          let le : place ≡ p = at ∙ (ap place_of sa ∙ sym w.child.place) in
          inr (refused fits refl p (omega (arith, le)) (λ is. w.child.wrong
          (subst (λ c. IsOfKind signatures c w.child.kind) sa (subst (λ m. IsOfKind signatures a m) sk is))))

  -- all children are tested
  pub kinds_tested : (arguments : List Argument) (kinds : List Kind) (count n : ℕ) (o : Option ℕ) → length arguments ≡ count
      → n ≡ min count (length kinds) → FindsLeast (IsWrongAmong signatures n arguments kinds) (FirstFit signatures n arguments kinds) o
      → FindsLeast (IsWrongChild signatures arguments kinds) (KindsFit signatures arguments kinds) o
  kinds_tested arguments kinds count n o long all finds =
      same_least (IsWrongAmong signatures n arguments kinds) (IsWrongChild signatures arguments kinds)
      (FirstFit signatures n arguments kinds) (KindsFit signatures arguments kinds) o
      (λ at w. w.child) (λ at w. record {
        child = w;
        early = early w.index (slice_get_within arguments w.index w.argument w.there)
            (slice_get_within kinds w.index w.kind w.asked);
      })
      (λ fit j a l here want. fit j a l (early j (slice_get_within arguments j a here) (slice_get_within kinds j l want)) here want) finds
    where
      early : (j : ℕ) → j < length arguments → j < length kinds → j < n
      early j a b = omega (arith, a, b, long, all)

  -- none was tested
  pub kinds_untested : (arguments : List Argument) (kinds : List Kind)
      → FindsLeast (IsWrongAmong signatures 0 arguments kinds) (FirstFit signatures 0 arguments kinds) None
  kinds_untested arguments kinds = ((λ j a l lt here want. absurd (omega (arith, lt))), (λ at w. absurd (omega (arith, w.early))))

  -- as many as are asked for, and each of its kind
  fit_zip : (arguments : List Argument) (kinds : List Kind) → length arguments ≡ length kinds → KindsFit signatures arguments kinds
      → AllZip (IsOfKind signatures) arguments kinds
  fit_zip [] [] e fit = tt
  fit_zip [] (l ∷ kinds) e fit = absurd (omega (arith, e))
  fit_zip (a ∷ arguments) [] e fit = absurd (omega (arith, e))
  fit_zip (a ∷ arguments) (l ∷ kinds) e fit =
      (fit 0 a l refl refl, fit_zip arguments kinds (omega (arith, e)) (λ j b m here want. fit (suc j) b m here want))

  -- a node whose production isn't there
  pub absent_node : (name : List ℕ) (n at : ℕ) (arguments : List Argument) → length signatures ≤ n → IsNumberOf signatures name n
      → FindsLeast (λ place. IsWrong signatures place name at arguments) (FitsIfKnown signatures name at arguments) None
  absent_node name n at arguments le number = ((λ f. absurd (away f)), (λ place w. away w.found)) where
    away : HasFirst signatures name → ⊥
    away f =
        let e = number_first name n number f in
        let lt = slice_get_within signatures f.production f.signature f.its in
        omega (arith, le, e, lt)

  -- a node, by the test of its children and of their number
  pub node_tested : (name : List ℕ) (n at : ℕ) (arguments : List Argument) (kinds : List Kind) (differ : Bool) (s : Signature)
      (o : Option ℕ)
      → IsNumberOf signatures name n → slice_get signatures n ≡ Some s → kinds ≡ s.children
      → (differ ≡ false → length arguments ≡ length kinds) → (differ ≡ true → length arguments ≢ length kinds) → FindsLeast
      (IsWrongChild signatures arguments kinds) (KindsFit signatures arguments kinds) o
      → FindsLeast (λ place. IsWrong signatures place name at arguments) (FitsIfKnown signatures name at arguments)
      (smallest_with differ at o)
  node_tested name n at arguments kinds differ s o number there same equal unequal finds =
      noted_least (IsWrongChild signatures arguments kinds) (λ place. IsWrong signatures place name at arguments)
      (KindsFit signatures arguments kinds) (FitsIfKnown signatures name at arguments) differ at o finds
      (λ fit counts f. subst (λ ks. AllZip (IsOfKind signatures) arguments ks) (kinds_of f) (fit_zip arguments kinds (equal counts) fit))
      (λ place w. record { found = found; fault = inr (subst (λ ks. IsWrongChild signatures arguments ks place) (kinds_of found) w) })
      (λ counts. record { found = found; fault = inl ((λ e. unequal counts (e ∙ ap length (sym (kinds_of found)))), refl) })
      (λ place w. only place w.found w.fault)
    where
      found : HasFirst signatures name
      found = number_there name n s number there

      some_same : (x y : Signature) → Some x ≡ Some y → x ≡ y
      some_same x y e = cc

      kinds_of : (f : HasFirst signatures name) → kinds ≡ f.signature.children
      kinds_of f =
          same
          ∙ ap (λ (x : Signature). x.children) (some_same s f.signature
          (sym there ∙ (ap (slice_get signatures) (number_first name n number f) ∙ f.its)))

      counted : (b : Bool) → b ≡ differ → length arguments ≢ length kinds → b ≡ true
      counted true e h = refl
      counted false e h = absurd (h (equal (sym e)))

      only : (place : ℕ) (f : HasFirst signatures name)
          → ((length arguments ≢ length f.signature.children) × (place ≡ at)) ⊎ IsWrongChild signatures arguments f.signature.children place
          → IsWrongChild signatures arguments kinds place ⊎ ((differ ≡ true) × (at ≤ place))
      only place f (inl h) = inr (counted differ refl (λ e. h.0 (e ∙ ap length (kinds_of f))), omega (arith, h.1))
      only place f (inr w) = inl (subst (λ ks. IsWrongChild signatures arguments ks place) (sym (kinds_of f)) w)

-- one child more is tested, by what is read at its place
pub child_tested : (signatures : List Signature) (trees : List Tree) (arguments : List Argument) (values : List Stored) (places : List ℕ)
    (kinds : List Kind) (i : ℕ) (x : Stored) (d : Kind) (place : ℕ) (fits : Bool) (o r : Option ℕ)
    → AllZip (IsStored signatures trees) arguments values → map place_of arguments ≡ places → i < length values → i < length kinds
    → x ≡ get_or values i x → place ≡ get_or places i 0
    → ((a : Argument) → IsStored signatures trees a x → (IsTrue fits ↔ IsOfKind signatures a (get_or kinds i d))) → r ≡ smallest_with
    (not fits) place o
    → FindsLeast (IsWrongAmong signatures i arguments kinds) (FirstFit signatures i arguments kinds) o → FindsLeast
    (IsWrongAmong signatures (i + 1) arguments kinds) (FirstFit signatures (i + 1) arguments kinds) r
child_tested signatures trees arguments values places kinds i x d place fits o r zipped placed within asked is at both e finds =
    let a = beside (IsStored signatures trees) arguments values i x zipped (slice_get_read values (length values) i x refl within is) in
    let there : get_or (map place_of arguments) i 0 ≡ place_of a.other =
    get_or-map place_of arguments i a.other 0 (slice_get_within arguments i a.other a.at)
    ∙ ap place_of (get_or_from_slice_get arguments i a.other a.other a.at) in
    let here : place ≡ place_of a.other = at ∙ (ap (λ l. get_or l i 0) (sym placed) ∙ there) in
    subst (λ r. FindsLeast (IsWrongAmong signatures (i + 1) arguments kinds) (FirstFit signatures (i + 1) arguments kinds) r) (sym e)
    (kind_step signatures arguments kinds i a.other (get_or kinds i d) fits place o a.at (slice_get-get_or kinds i d asked)
    (both a.other a.related) here finds)

-- what is known of a signature that is there
pub signature_at : (signatures : List Signature) (n : ℕ) (kinds : List Kind) → n < length signatures
    → IfSome (slice_get signatures n) (λ (s : Signature). kinds ≡ s.children)
    → (s : Signature) × (slice_get signatures n ≡ Some s) × (kinds ≡ s.children)
signature_at [] n kinds lt h = absurd (omega (arith, lt))
signature_at (s ∷ signatures) zero kinds lt h = (s, refl, h)
signature_at (s ∷ signatures) (suc n) kinds lt h = signature_at signatures n kinds (omega (arith, lt)) h

-- two numbers that don't differ are equal
pub equal : (m n : ℕ) → not (eqb m n) ≡ false → m ≡ n
equal m n h = grind arith

-- and two that differ aren't
pub unequal : (m n : ℕ) → not (eqb m n) ≡ true → m ≢ n
unequal m n h e = grind arith
