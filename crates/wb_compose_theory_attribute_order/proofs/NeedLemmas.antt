-- What is needed for an instance is needed in other numbers, and as much.
use Rattle.std.proofs.Common.{◌≡◌, ◌∷◌, [], ℕ, zero, suc, List, Some, All, length, slice_get, refl, ap, subst, arith}
use Rattle.std.proofs.lemmas.List.Elements.{All-head, All-tail}
use Rattle.std.proofs.lemmas.Option.{same_Some}
use Rattle.wb_eval_theory.specs.Instances.{Instance}
use Rattle.wb_eval_theory.specs.Needed.{Comes, IsNeeded, NeedsMoreThan, ReadsNext, after, here, itself, next}
use Rattle.wb_eval_theory.specs.Walks.{Walk, read, walk_of}
use Rattle.wb_lemmas.proofs.Elements.{all_from_places}
use Rattle.wb_lemmas.proofs.Places.{nothing_at}
use Rattle.wb_operations.specs.Operations.{Operations}
use Rattle.wb_syntax_resolved.specs.declared.attribution.AttributionParts.{AttributionParts}
use Rattle.wb_compose_theory_attributes.specs.Numbers.{NumberMap}
use Rattle.wb_values.specs.Tree.{Tree, Value}
use Rattle.wb_compose_theory_attribute_order.specs.Renumberings.{AreNumbersUndoneBy}
use Rattle.wb_compose_theory_attribute_order.specs.Values.{renamed_tree}
use Rattle.wb_compose_theory_attribute_order.proofs.AnswerLemmas.{answer_there, node_there}
use Rattle.wb_compose_theory_attribute_order.proofs.PathLemmas.{Becomes, home_leads, instance_once}
use Rattle.wb_compose_theory_attribute_order.proofs.RuleLemmas.{HasSameRules}
use Rattle.wb_compose_theory_attribute_order.proofs.WalkLemmas.{Alike, both_read, walks_on}

module _ (t : NumberMap) (a b : AttributionParts) (operations : Operations) (top : Tree) (same : HasSameRules operations t a b) where
  abbrev into : Instance → Instance → Type 0
  into = Becomes t a operations top

  abbrev ComesThere : Walk → Walk → Type 0
  ComesThere v w = (z : Walk) × Comes b operations (renamed_tree t top) v z × Alike t a operations top w z

  comes_there : {w v z : Walk} → Comes a operations top w z → Alike t a operations top w v → ComesThere v z
  comes_there {v = v} here like = (v, here, like)
  comes_there (after has comes) (both_read becomes on) =
      let (z, there, like) = comes_there comes (on _ has) in (z, after (answer_there t a b operations top same has becomes) there, like)

  -- what is alike to a read is one
  record ReadAlike (r : Instance) (z : Walk) : Type 0 where
    instance_of : Instance
    rest : Value → Walk
    becomes : into r instance_of
    is : z ≡ read instance_of rest

  read_alike : {r : Instance} {rest : Value → Walk} {z : Walk} → Alike t a operations top (read r rest) z → ReadAlike r z
  read_alike (both_read {j = j} {other = other} becomes on) = record { instance_of = j; rest = other; becomes = becomes; is = refl }

  reads_there : {i j r : Instance} → ReadsNext a operations top i r → into i j
      → (l : Instance) × into r l × ReadsNext b operations (renamed_tree t top) j l
  reads_there {j = j} n becomes =
      let (z, there, like) = comes_there n.comes (walks_on t a operations top b same becomes n.at n.is_node) in
      let found = read_alike like in (
        found.instance_of,
        found.becomes,
        record {
          at = renamed_tree t n.at;
          is_node = node_there t a b operations top same n.is_node (home_leads t a operations top becomes);
          rest = found.rest;
          comes = subst (Comes b operations (renamed_tree t top) (walk_of operations b j (renamed_tree t n.at))) found.is there;
        },
      )

  module _ {asked to : Instance} (becomes : into asked to) where
    needed_there : {i : Instance} → IsNeeded a operations top asked i
        → (l : Instance) × into i l × IsNeeded b operations (renamed_tree t top) to l
    needed_there itself = (to, becomes, itself)
    needed_there (next needed reads) =
        let (j, first, there) = needed_there needed in
        let (l, second, reads') = reads_there reads first in
        (l, second, next there reads')

    -- one instance for each
    record Others (xs : List Instance) : Type 0 where
      others : List Instance
      len : length others ≡ length xs
      each : (i : ℕ) (y : Instance) → slice_get others i ≡ Some y
          → (x : Instance) × (slice_get xs i ≡ Some x) × into x y × IsNeeded b operations (renamed_tree t top) to y

    others_of : (xs : List Instance) → All (IsNeeded a operations top asked) xs → Others xs
    others_of [] all = record { others = []; len = refl; each = λ i y at. absurd (nothing_at y i at) }
    others_of (x ∷ xs) all =
        let (l, first, needed) = needed_there (All-head (IsNeeded a operations top asked) x xs all) in
        let rest = others_of xs (All-tail (IsNeeded a operations top asked) x xs all) in
        record { others = l ∷ rest.others; len = ap suc rest.len; each = each_of l first needed rest } where
          each_of : (l : Instance) → into x l → IsNeeded b operations (renamed_tree t top) to l → (rest : Others xs) → (i : ℕ) (y : Instance)
              → slice_get (l ∷ rest.others) i ≡ Some y
              → (z : Instance) × (slice_get (x ∷ xs) i ≡ Some z) × into z y × IsNeeded b operations (renamed_tree t top) to y
          each_of l first needed rest zero y at =
              let is = same_Some l y at in
              (x, refl, subst (into x) is first, subst (IsNeeded b operations (renamed_tree t top) to) is needed)
          each_of l first needed rest (suc i) y at = rest.each i y at

    pub more_there : (u : NumberMap) → AreNumbersUndoneBy t u → (n : ℕ) → NeedsMoreThan a operations top asked n
        → NeedsMoreThan b operations (renamed_tree t top) to n
    more_there u undone n more =
        let found = others_of more.members more.needed in
        record {
          members = found.others;
          count = let len = found.len in let count = more.count in omega (arith, len, count);
          different = λ y i j at at'.
              let (x, x_at, x_into, x_needed) = found.each i y at in
              let (z, z_at, z_into, z_needed) = found.each j y at' in
              more.different x i j x_at
              (subst (λ w. slice_get more.members j ≡ Some w) (instance_once t a operations top u undone z_into x_into refl) z_at);
          needed = all_from_places (IsNeeded b operations (renamed_tree t top) to) found.others (λ i y at. (found.each i y at).3);
        }
