-- The tables that are made are those of the expressions.
use Rattle.std.proofs.Common.{◌≡◌, ℕ, zero, suc, ◌+◌, ◌-◌, ◌<◌, Bool, List, [], ◌∷◌, ◌++◌, refl, sym, ◌∙◌, ap, subst, arith}
use Rattle.std.proofs.Common.{inl, inr, length, get_or}
use Rattle.std.proofs.Common.{add-one}
use Rattle.std.proofs.lemmas.Bool.{cases_lt}
use Rattle.std.proofs.lemmas.List.{get_or_append_left, get_or-append_right}
use Rattle.std.proofs.lemmas.Option.{slice_get_within}
use Rattle.wb_lemmas.proofs.Places.{at_within}
use Rattle.wb_regex.specs.Tree.{Tree}
use Rattle.wb_regex.specs.declared.node.RegexNode.{RegexNode}
use Rattle.wb_automata_positions.specs.declared.places.Place.{Place}
use Rattle.wb_automata_positions.specs.declared.tables.Tables.{Tables}
use Rattle.wb_automata_positions.specs.NodePlaces.{place_of}
use Rattle.wb_automata_positions.specs.Places.{Runs, ended}
use Rattle.wb_automata_positions.specs.Rows.{row}
use Rattle.wb_automata_positions.specs.Tables.{AreTables, LeadsOn, first_places, places_of}
use Rattle.wb_automata_positions.specs.Transitions.{IsLeaf, IsPlaceList, count_of, entry_of}
use Rattle.wb_automata_positions.specs.Inner.Concatenated.{AreConcatenated}
use Rattle.wb_automata_positions.specs.Inner.Machines.{AreListed, HaveOneParent, IsMachine, IsWayOn}
use Rattle.wb_automata_positions.specs.Inner.Starts.{AreStarts}
use Rattle.wb_automata_positions.proofs.ClosureLemmas.{is_place}
use Rattle.wb_automata_positions.proofs.JoinLemmas.{bound_sum}
use Rattle.wb_automata_positions.proofs.LeadLemmas.{leads_each, some_text}
use Rattle.wb_automata_positions.proofs.ParentLemmas.{node_at, one_parent, tree_covers}
use Rattle.wb_automata_positions.proofs.PlaceListLemmas.{begun, below_at, end_at, listed_more, made, no_places, root_next, whole}

-- the places of nodes are listed
pub listed_all : (nodes : List RegexNode) (next : List ℕ) (i : ℕ) → AreListed nodes next (first_places nodes next i) i
listed_all nodes next zero = no_places nodes next [] refl
listed_all nodes next (suc i) = subst (AreListed nodes next (first_places nodes next i ++ place_of nodes next i ∷ [])) (add-one i)
    (listed_more nodes next (first_places nodes next i) i (place_of nodes next i) (is_place nodes next i) (listed_all nodes next i))

-- where the start of an expression leads
pub entry_start : (t : Tables) (k : ℕ) → length t.next.items ≡ length t.nodes.items
    → entry_of t (length t.nodes.items + k) ≡ get_or t.roots.items k 0
entry_start t k e = get_or-append_right t.next.items t.roots.items (length t.nodes.items) (length t.nodes.items + k) 0 e (omega arith) ∙ ap
    (λ z. get_or t.roots.items z 0) (let f : length t.nodes.items + k - length t.nodes.items ≡ k = omega arith in f)

-- and a leaf
pub entry_leaf : (t : Tables) (q : ℕ) → q < length t.next.items → entry_of t q ≡ get_or t.next.items q 0
entry_leaf t q lt = get_or_append_left t.next.items t.roots.items 0 q lt

module _ (trees : List Tree) (sets : List (List Bool)) (t : Tables)
    (all : AreConcatenated trees t.nodes.items t.roots.items (length trees)) (way : IsWayOn t.nodes.items t.roots.items t.next.items)
    (starts : AreStarts (length t.nodes.items) (length trees) sets t.starts (length sets)) where
  abbrev nodes : List RegexNode
  nodes = t.nodes.items

  abbrev roots : List ℕ
  roots = t.roots.items

  abbrev places : List Place
  places = places_of t

  parents : HaveOneParent nodes roots
  parents = one_parent trees nodes roots all

  next_len : length t.next.items ≡ length nodes
  next_len = way.continued.ends.len

  abbrev machine : IsMachine nodes roots places
  machine = record {
    next = t.next.items;
    continued = way.continued;
    listed = subst (AreListed nodes t.next.items places)
        (let e : length nodes + count_of t ≡ length nodes + length nodes + length roots = omega arith in e)
        (listed_all nodes t.next.items (length nodes + count_of t));
    fits = way.fits;
  }

  start_is : (k : ℕ) → entry_of t (length nodes + k) ≡ get_or roots k 0
  start_is k = entry_start t k next_len

  -- the end of an expression leads on
  end_leads : (k : ℕ) → k < length roots → LeadsOn places (length nodes + length nodes + k)
  end_leads k lt = record { number = k; text = []; runs = ended (end_at nodes roots places parents machine k lt) refl }

  leaf_leads : (q : ℕ) → IsLeaf nodes q → LeadsOn places (entry_of t q)
  leaf_leads q leaf =
      let lt : q < length nodes = slice_get_within nodes q _ leaf.at in
      let l = node_at trees nodes roots all q lt in
      let (tree, at) = at_within trees l.number l.lt in
      let root = all.roots_at l.number l.lt in
      let last : LeadsOn places (get_or t.next.items (get_or roots l.number 0) 0) = subst (LeadsOn places)
      (sym (root_next trees nodes roots places all machine l.number l.lt))
      (end_leads l.number (let k = l.lt in omega (arith, all.roots_len))) in
      subst (LeadsOn places) (sym (entry_leaf t q (omega (arith, next_len))))
      (leads_each nodes t.next.items places (made nodes roots places parents machine) (tree_covers trees nodes roots all l.number tree at)
      (all.parts l.number tree l.lt at).filled (get_or roots l.number 0) (sym root) last q l.least l.below)

  entry_within : (p : ℕ) → p < count_of t → entry_of t p < length nodes + count_of t
  entry_within p lt = elim (cases_lt p (length nodes)) [
    | inl early ↦ subst (λ z. z < length nodes + count_of t) (sym (entry_leaf t p (omega (arith, next_len))))
        (let b = way.continued.ends.below p (omega (arith, next_len)) in omega arith)
    | inr late ↦
        let k : ℕ = p - length nodes in
        let e : p ≡ length nodes + k = omega arith in
        subst (λ z. z < length nodes + count_of t) (sym (ap (entry_of t) e ∙ start_is k))
        (let b = parents.roots_below k (omega arith) in omega arith)
  ]

  pub tables_whole : AreTables trees sets t
  tables_whole = record {
    table = record {
      len = next_len;
      fits = (let f = way.fits in omega arith);
      starts = λ s. subst (λ z. IsPlaceList (length nodes + z) (row t.starts s)) (sym all.roots_len) (starts.places s);
    };
    below = below_at nodes roots places parents machine;
    entries = entry_within;
    size = all.len ∙ bound_sum trees;
    roots_len = all.roots_len;
    starts_len = starts.len;
    is_starts = λ s flags at. starts.each s flags (slice_get_within sets s flags at) at;
    own = λ k l x lt run. (let (tree, at) = at_within trees k lt in
        (whole trees nodes roots places all machine k l x tree at (subst (λ z. Runs places z l x) (start_is k) run)).0);
    sound = λ k tree x at run.
        (whole trees nodes roots places all machine k k x tree at (subst (λ z. Runs places z k x) (start_is k) run)).1;
    complete = λ k tree x at m. subst (λ z. Runs places z k x) (sym (start_is k))
        (begun trees nodes roots places all machine k x tree at m);
    leads = leaf_leads;
    not_empty = λ k tree at. (all.parts k tree (slice_get_within trees k tree at) at).not_empty;
    filled = λ k tree at. some_text tree (all.parts k tree (slice_get_within trees k tree at) at).filled;
  }
