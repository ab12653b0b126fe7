-- How a term is read: one event after another, and what is found.
use Rattle.std.proofs.Common.{◌≡◌, ◌<◌, ◌+◌, ℕ, List, [], ◌∷◌, ◌++◌, Result, Ok, Err, Option, Some, None, IfOk, IfErr, IfSome, length, take}
use Rattle.std.proofs.Common.{reverse, get_or, sym, ap, ◌∙◌, subst, append_assoc}
use Rattle.std.proofs.lemmas.List.{take_more, reverse-append}
use Rattle.wb_values.specs.Signature.{Signature}
use Rattle.wb_values.specs.Tree.{Tree}
use Rattle.wb_values.specs.ValuesIn.{tree_in}
use Rattle.wb_values.specs.declared.value.TreeId.{TreeId}
use Rattle.wb_terms.specs.declared.event.Event.{Event}
use Rattle.wb_terms.specs.declared.builder.Builder.{Builder}
use Rattle.wb_terms.specs.declared.refusal.TermRefusal.{TermRefusal}
use Rattle.wb_terms.specs.declared.refusal.TermRefusal.TheVariants.{Bad, Unknown, WrongChild, NoMemory}
use Rattle.wb_terms.specs.Term.{Term}
use Rattle.wb_terms.specs.TermText.{IsTermText}
use Rattle.wb_terms.specs.Inner.Events.{term_onto}
use Rattle.wb_terms.specs.TreeOf.{IsTreeOf}
use Rattle.wb_terms.specs.TermAnswer.{Answer, stands, IsAnswer, answer_of}
use Rattle.wb_terms.specs.Inner.Holding.{Holds, IsFaultOf}
use Rattle.wb_terms.proofs.AnswerLemmas.{one_answer}

-- one event more
pub met_more : (events : List Event) (i : ℕ) (e : Event) → i < length events → e ≡ get_or events i e
    → reverse (take (i + 1) events) ≡ e ∷ reverse (take i events)
met_more events i e lt is =
    ap reverse (take_more events i e lt ∙ ap (λ x. take i events ++ x ∷ []) (sym is)) ∙ reverse-append (take i events) (e ∷ [])

-- trees more
pub trees_more : (old middle new : List Tree) → (more : List Tree) × (middle ≡ old ++ more) → (more : List Tree) × (new ≡ middle ++ more)
    → (more : List Tree) × (new ≡ old ++ more)
trees_more old middle new a b = (a.0 ++ b.0, b.1 ∙ (ap (λ l. l ++ b.0) a.1 ∙ append_assoc old a.0 b.0))

module _ (ss : List Signature) (ts : List Tree) (events : List Event) (b : Builder) where
  -- the tree of the term
  pub found_tree : (r : Result TreeId TermRefusal) → Holds ss ts events b
      → IfOk r (λ id. (term : Term) → Holds ss ts (term_onto term []) b → IsTreeOf ss term (tree_in ts id.0))
      → IfOk r (λ id. (term : Term) → term_onto term [] ≡ events → IsTreeOf ss term (tree_in ts id.0))
  found_tree (Err e) h f = tt
  found_tree (Ok id) h f = λ term is. f term (subst (λ v. Holds ss ts v b) (sym is) h)

  -- or its fault
  pub found_fault : (r : Result TreeId TermRefusal) → Holds ss ts events b
      → IfErr r (λ e. (term : Term) → Holds ss ts (term_onto term []) b → IsFaultOf ss term e)
      → IfErr r (λ e. (term : Term) → term_onto term [] ≡ events → IsFaultOf ss term e)
  found_fault (Ok id) h f = tt
  found_fault (Err e) h f = λ term is. f term (subst (λ v. Holds ss ts v b) (sym is) h)

module _ (ss : List Signature) (bytes : List ℕ) (term : Term) (text : IsTermText bytes term) where
  -- the answer is the tree
  pub tree_answer : (events : List Event) (ts : List Tree) (r : Result TreeId TermRefusal) → term_onto term [] ≡ events
      → IfOk r (λ id. (t : Term) → term_onto t [] ≡ events → IsTreeOf ss t (tree_in ts id.0))
      → IfOk r (λ id. IsAnswer ss bytes (stands (tree_in ts id.0)))
  tree_answer events ts (Err e) is f = tt
  tree_answer events ts (Ok id) is f = record { term = term; text = text; its = f term is }

  -- or the fault
  fault_is : (e : TermRefusal) → IsFaultOf ss term e → IfSome (answer_of e) (IsAnswer ss bytes)
  fault_is (Bad place) f = absurd f
  fault_is (Unknown place) f = record { term = term; text = text; least = f }
  fault_is (WrongChild place) f = record { term = term; text = text; known = f.0; least = f.1 }
  fault_is (NoMemory e) f = tt

  pub fault_answer : (events : List Event) (r : Result TreeId TermRefusal) → term_onto term [] ≡ events
      → IfErr r (λ e. (t : Term) → term_onto t [] ≡ events → IsFaultOf ss t e) → IfErr r (λ e. IfSome (answer_of e) (IsAnswer ss bytes))
  fault_answer events (Ok id) is f = tt
  fault_answer events (Err e) is f = fault_is e (f term is)

-- the refusal is the one answer
pub refusal_only : (ss : List Signature) (bytes : List ℕ) (o : Option Answer) (answer : Answer) → IfSome o (IsAnswer ss bytes)
    → IsAnswer ss bytes answer → IfSome o (λ given. answer ≡ given)
refusal_only ss bytes None answer is other = tt
refusal_only ss bytes (Some given) answer is other = one_answer ss bytes answer given other is
