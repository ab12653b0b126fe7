-- What is met in a term: it is that term, and its nodes are those that were ended.
use Rattle.std.proofs.Common.{◌≡◌, ◌⊎◌, inl, inr, ℕ, List, [], ◌∷◌, ◌++◌, refl, sym, ap, ◌∙◌, subst, append_assoc, append-nil}
use Rattle.wb_values.specs.Tree.{int, bool, text}
use Rattle.wb_terms.specs.declared.event.Event.{Event}
use Rattle.wb_terms.specs.declared.event.Event.TheVariants.{Begin}
use Rattle.wb_terms.specs.Term.{Term, Argument, Arguments, named, plain, term, empty, more, list_of}
use Rattle.wb_terms.specs.Nodes.{SomeNode, SomeInArgument, SomeInArguments, EachNode, EachInArgument, EachInArguments}
use Rattle.wb_terms.specs.Inner.Events.{term_onto, argument_onto, arguments_onto}
use Rattle.wb_terms.specs.Inner.Zipper.{Zipper, outside, inside, with_argument, arguments_of, closed, zipper, OfInnermost, SomeEnded}
use Rattle.wb_terms.specs.Inner.Zipper.{EachEnded}
use Rattle.wb_terms.proofs.LeastLemmas.{either}

-- arguments, one after another
abbrev with_all : List Argument → Zipper → Zipper
with_all [] z = z
with_all (a ∷ others) z = with_all others (with_argument a z)

-- they are those of the innermost node
with_all_inside : (others met : List Argument) (name : List ℕ) (place : ℕ) (outer : Zipper)
    → with_all others (inside name place met outer) ≡ inside name place (met ++ others) outer
with_all_inside [] met name place outer = ap (λ m. inside name place m outer) (sym (append-nil met))
with_all_inside (a ∷ others) met name place outer =
    with_all_inside others (met ++ a ∷ []) name place outer ∙ ap (λ m. inside name place m outer) (append_assoc met (a ∷ []) others)

-- arguments as a list and back
arguments_back : (arguments : Arguments) → arguments_of (list_of arguments) ≡ arguments
arguments_back empty = refl
arguments_back (more a others) = ap (λ o. more a o) (arguments_back others)

mutual
  -- a term is met
  pub term_met : (t : Term) (v : List Event) → zipper (term_onto t v) ≡ with_argument (term t) (zipper v)
  term_met (named name place arguments) v =
      ap closed (arguments_met arguments (Begin name place ∷ v) ∙ with_all_inside (list_of arguments) [] name place (zipper v)) ∙ ap
      (λ (a : Arguments). with_argument (term (named name place a)) (zipper v)) (arguments_back arguments)

  argument_met : (a : Argument) (v : List Event) → zipper (argument_onto a v) ≡ with_argument a (zipper v)
  argument_met (plain (int z) place) v = refl
  argument_met (plain (bool b) place) v = refl
  argument_met (plain (text s) place) v = refl
  argument_met (term t) v = term_met t v

  arguments_met : (arguments : Arguments) (v : List Event) → zipper (arguments_onto arguments v) ≡ with_all (list_of arguments) (zipper v)
  arguments_met empty v = refl
  arguments_met (more a others) v = arguments_met others (argument_onto a v) ∙ ap (with_all (list_of others)) (argument_met a v)

-- the node that was begun has these arguments
pub innermost : (name : List ℕ) (place : ℕ) (arguments : Arguments) (v : List Event)
    → zipper (arguments_onto arguments (Begin name place ∷ v)) ≡ inside name place (list_of arguments) (zipper v)
innermost name place arguments v =
    arguments_met arguments (Begin name place ∷ v) ∙ with_all_inside (list_of arguments) [] name place (zipper v)

module _ (Holds : List ℕ → ℕ → List Argument → Type 0) where
  mutual
    -- a node that was ended is one of the term, or was ended before
    pub some_in : (t : Term) (v : List Event) → SomeEnded Holds (term_onto t v) → SomeNode Holds t ⊎ SomeEnded Holds v
    some_in (named name place arguments) v (inl h) = inl (inl (subst (λ z. OfInnermost Holds z ⊥) (innermost name place arguments v) h))
    some_in (named name place arguments) v (inr h) =
        either (λ s. inl (inr s)) (λ e. inr e) (some_in_arguments arguments (Begin name place ∷ v) h)

    some_in_argument : (a : Argument) (v : List Event) → SomeEnded Holds (argument_onto a v) → SomeInArgument Holds a ⊎ SomeEnded Holds v
    some_in_argument (plain (int z) place) v h = inr h
    some_in_argument (plain (bool b) place) v h = inr h
    some_in_argument (plain (text s) place) v h = inr h
    some_in_argument (term t) v h = some_in t v h

    some_in_arguments : (arguments : Arguments) (v : List Event) → SomeEnded Holds (arguments_onto arguments v)
        → SomeInArguments Holds arguments ⊎ SomeEnded Holds v
    some_in_arguments empty v h = inr h
    some_in_arguments (more a others) v h =
        either (λ s. inl (inr s)) (λ e. either (λ s. inl (inl s)) (λ f. inr f) (some_in_argument a v e))
        (some_in_arguments others (argument_onto a v) h)

  mutual
    -- and the other way round
    pub some_out : (t : Term) (v : List Event) → SomeNode Holds t ⊎ SomeEnded Holds v → SomeEnded Holds (term_onto t v)
    some_out (named name place arguments) v (inl (inl h)) =
        inl (subst (λ z. OfInnermost Holds z ⊥) (sym (innermost name place arguments v)) h)
    some_out (named name place arguments) v (inl (inr h)) = inr (some_out_arguments arguments (Begin name place ∷ v) (inl h))
    some_out (named name place arguments) v (inr h) = inr (some_out_arguments arguments (Begin name place ∷ v) (inr h))

    some_out_argument : (a : Argument) (v : List Event) → SomeInArgument Holds a ⊎ SomeEnded Holds v → SomeEnded Holds (argument_onto a v)
    some_out_argument (plain (int z) place) v h = either absurd (λ e. e) h
    some_out_argument (plain (bool b) place) v h = either absurd (λ e. e) h
    some_out_argument (plain (text s) place) v h = either absurd (λ e. e) h
    some_out_argument (term t) v h = some_out t v h

    some_out_arguments : (arguments : Arguments) (v : List Event) → SomeInArguments Holds arguments ⊎ SomeEnded Holds v
        → SomeEnded Holds (arguments_onto arguments v)
    some_out_arguments empty v h = either absurd (λ e. e) h
    some_out_arguments (more a others) v (inl (inl h)) = some_out_arguments others (argument_onto a v) (inr (some_out_argument a v (inl h)))
    some_out_arguments (more a others) v (inl (inr h)) = some_out_arguments others (argument_onto a v) (inl h)
    some_out_arguments (more a others) v (inr h) = some_out_arguments others (argument_onto a v) (inr (some_out_argument a v (inr h)))

  mutual
    -- what holds of each node that was ended holds of each of the term
    pub each_in : (t : Term) (v : List Event) → EachEnded Holds (term_onto t v) → EachNode Holds t × EachEnded Holds v
    each_in (named name place arguments) v h =
        let rest = each_in_arguments arguments (Begin name place ∷ v) h.1 in
        ((subst (λ z. OfInnermost Holds z (Unit {0})) (innermost name place arguments v) h.0, rest.0), rest.1)

    each_in_argument : (a : Argument) (v : List Event) → EachEnded Holds (argument_onto a v) → EachInArgument Holds a × EachEnded Holds v
    each_in_argument (plain (int z) place) v h = (tt, h)
    each_in_argument (plain (bool b) place) v h = (tt, h)
    each_in_argument (plain (text s) place) v h = (tt, h)
    each_in_argument (term t) v h = each_in t v h

    each_in_arguments : (arguments : Arguments) (v : List Event) → EachEnded Holds (arguments_onto arguments v)
        → EachInArguments Holds arguments × EachEnded Holds v
    each_in_arguments empty v h = (tt, h)
    each_in_arguments (more a others) v h =
        let rest = each_in_arguments others (argument_onto a v) h in
        let one = each_in_argument a v rest.1 in
        ((one.0, rest.0), one.1)

-- what is met in two terms is the same only where they are the same
pub same_term : (s t : Term) → term_onto s [] ≡ term_onto t [] → s ≡ t
same_term s t e =
    let f : outside (term s ∷ []) ≡ outside (term t ∷ []) = sym (term_met s []) ∙ (ap zipper e ∙ term_met t []) in
    let g : (term s ∷ []) ≡ (term t ∷ []) = cc in
    cc
