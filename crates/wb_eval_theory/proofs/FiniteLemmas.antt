-- Where finitely many instances are needed, what is asked has an answer.
use Rattle.std.proofs.Common.{Some, ap, ◌⊎◌, ◌≡◌, ◌∙◌, ◌≤◌, ◌<◌, ◌+◌, ◌++◌, ◌∷◌, [], inl, inr, ℕ, zero, suc, List, length, refl, sym, subst}
use Rattle.std.proofs.Common.{arith, Contains}
use Rattle.std.proofs.lemmas.Bool.{cases_lt}
use Rattle.std.proofs.lemmas.List.{length-append, get_or_default}
use Rattle.std.proofs.Common.{slice_get, get_or}
use Rattle.std.proofs.lemmas.Option.{slice_get_within}
use Rattle.wb_base.specs.Different.{Differ}
use Rattle.wb_lemmas.proofs.Places.{at_push}
use Rattle.wb_lemmas.proofs.Members.{contains_at, contains_push, push_contains_last, nothing_in}
use Rattle.wb_operations.specs.Operations.{Operations}
use Rattle.wb_syntax_resolved.specs.declared.attribution.AttributionParts.{AttributionParts}
use Rattle.wb_values.specs.Tree.{Tree, Value}
use Rattle.wb_eval_theory.proofs.LawLemmas.{is_well_founded}
use Rattle.wb_eval_theory.specs.Answers.{IsNodeAt, HasAnswer, by_walk, Ends, at_done, at_value, at_fault}
use Rattle.wb_eval_theory.specs.Evaluable.{IsEvaluable, IsAsked}
use Rattle.wb_eval_theory.specs.Instances.{root, Instance, synthesized_at, home}
use Rattle.wb_eval_theory.specs.Laws.{IsWellFounded}
use Rattle.wb_eval_theory.specs.Needed.{Comes, here, after, ReadsNext, IsNeeded, itself, next, NeedsMoreThan}
use Rattle.wb_eval_theory.specs.Walks.{Outcome, value, fault, Walk, done, read, missing, walk_of}

-- an element that isn't there is pushed
differ_more : {X : Type 0} (xs : List X) (x : X) → Differ xs → ¬ Contains xs x → Differ (xs ++ x ∷ [])
differ_more xs x d fresh y i j at there = by_place (at_push xs x y i at) (at_push xs x y j there) where
  by_place : ((slice_get xs i ≡ Some y) ⊎ ((i ≡ length xs) × (x ≡ y))) → ((slice_get xs j ≡ Some y) ⊎ ((j ≡ length xs) × (x ≡ y))) → i ≡ j
  by_place (inl p) (inl r) = d y i j p r
  by_place (inl p) (inr r) = absurd (fresh (subst (Contains xs) (sym r.1) (contains_at xs y i p)))
  by_place (inr p) (inl r) = absurd (fresh (subst (Contains xs) (sym p.1) (contains_at xs y j r)))
  by_place (inr p) (inr r) = p.0 ∙ sym r.0

module _ (a : AttributionParts) (operations : Operations) (top : Tree) (attribute : ℕ) where
  abbrev Answered : Instance → Type 0
  Answered i = (o : Outcome) × HasAnswer a operations top i o

  abbrev Needed : Instance → Type 0
  Needed = IsNeeded a operations top (synthesized_at root attribute)

  -- reads one after another
  comes_on : {w : Walk} {r : Instance} {rest : Value → Walk} {v : Value} → Comes a operations top w (read r rest) → HasAnswer a operations top r (value v)
      → Comes a operations top w (rest v)
  comes_on here is = after is here
  comes_on (after z c) is = after z (comes_on c is)

  -- a read ends by the answer of what is read
  read_ends : (r : Instance) (rest : Value → Walk) (o : Outcome) → HasAnswer a operations top r o
      → ((v : Value) → HasAnswer a operations top r (value v) → (p : Outcome) × Ends a operations top (rest v) p)
      → (p : Outcome) × Ends a operations top (read r rest) p
  read_ends r rest (fault operation code) has on = (fault operation code, at_fault has)
  read_ends r rest (value v) has on = let (p, e) = on v has in (p, at_value has e)

  -- a walk ends where each instance that it reads next has an answer, and it doesn't come to what nothing defines
  ends : (i : Instance) (t : Tree) → IsNodeAt a operations top (home i) t → ¬ Comes a operations top (walk_of operations a i t) missing
      → ((r : Instance) → ReadsNext a operations top i r → Answered r) → (w : Walk) → Comes a operations top (walk_of operations a i t) w
      → (o : Outcome) × Ends a operations top w o
  ends i t there defined read_ones (done o) come = (o, at_done)
  ends i t there defined read_ones missing come = absurd (defined come)
  ends i t there defined read_ones (read r rest) come =
      let (o, has) = read_ones r (record { at = t; is_node = there; rest = rest; comes = come }) in
      read_ends r rest o has (λ v is. ends i t there defined read_ones (rest v) (comes_on come is))

  module _ (n : ℕ) (founded : IsWellFounded a operations top attribute) (finite : ¬ NeedsMoreThan a operations top (synthesized_at root attribute) n) where
    -- instances that are different, and all need the last one
    record IsChain (above : List Instance) (i : Instance) : Type 0 where
      different : Differ (above ++ i ∷ [])
      each : (x : Instance) → Contains (above ++ i ∷ []) x → Needed x × IsNeeded a operations top x i

    longer : (above : List Instance) (i r : Instance) → IsChain above i → ReadsNext a operations top i r → IsChain (above ++ i ∷ []) r
    longer above i r c reads =
        let needed = (c.each i (push_contains_last above i)).0 in
        record {
          different = differ_more (above ++ i ∷ []) r c.different (λ has. founded.acyclic i r needed reads (c.each r has).1);
          each = λ x has. elim (contains_push (above ++ i ∷ []) r x has) [
            | inl old ↦ let (nx, to_i) = c.each x old in (nx, next to_i reads)
            | inr same ↦ subst (λ (z : Instance). Needed z × IsNeeded a operations top z r) same (next needed reads, itself)
          ];
        }

    chain_length : (above : List Instance) (i : Instance) → IsChain above i → length above < n
    chain_length above i c = elim (cases_lt (length above) n) [
      | inl lt ↦ lt
      | inr ge ↦ absurd (finite (record {
        members = above ++ i ∷ [];
        count = let l = length-append above (i ∷ []) in omega (arith, l, ge);
        different = c.different;
        needed = λ k d lt. needed_at k d lt;
      }))
    ] where
      needed_at : (k : ℕ) (d : Instance) → k < length (above ++ i ∷ []) → Needed (get_or (above ++ i ∷ []) k d)
      needed_at k d lt = (c.each (get_or (above ++ i ∷ []) k d) (k, lt, get_or_default (above ++ i ∷ []) k (get_or (above ++ i ∷ []) k d) d lt)).0

    one : (above : List Instance) (i : Instance) → IsChain above i → ((r : Instance) → IsChain (above ++ i ∷ []) r → Answered r) → Answered i
    one above i c read_ones =
        let needed = (c.each i (push_contains_last above i)).0 in
        let (t, there, defined) = founded.defined i needed in
        let (o, e) = ends i t there defined (λ r reads. read_ones r (longer above i r c reads)) (walk_of operations a i t) here in
        (o, by_walk there e)

    -- below so many others, as many are left
    answered : (left : ℕ) (above : List Instance) (i : Instance) → IsChain above i → n ≤ length above + left → Answered i
    answered zero above i c le = absurd (let lt = chain_length above i c in omega (arith, lt, le))
    answered (suc left) above i c le =
        one above i c (λ r longer_one. answered left (above ++ i ∷ []) r longer_one (let l = length-append above (i ∷ []) in omega (arith, l, le)))

    pub has_answer : Answered (synthesized_at root attribute)
    has_answer = answered n [] (synthesized_at root attribute) (record {
      different = λ x i j at there. let p = slice_get_within (synthesized_at root attribute ∷ []) i x at in
          let q = slice_get_within (synthesized_at root attribute ∷ []) j x there in omega (arith, p, q);
      each = λ x has. elim (contains_push [] (synthesized_at root attribute) x has) [
        | inl nothing ↦ absurd (nothing_in x nothing)
        | inr same ↦ subst (λ (z : Instance). Needed z × IsNeeded a operations top z (synthesized_at root attribute)) same (itself, itself)
      ];
    }) (omega arith)

pub answers_exist : (a : AttributionParts) (operations : Operations) (top : Tree) (attribute n : ℕ) → IsEvaluable a operations → IsAsked a top attribute
    → ¬ NeedsMoreThan a operations top (synthesized_at root attribute) n
    → (o : Outcome) × HasAnswer a operations top (synthesized_at root attribute) o
answers_exist a operations top attribute n evaluable asked finite =
    has_answer a operations top attribute n (is_well_founded a operations top attribute evaluable asked) finite
