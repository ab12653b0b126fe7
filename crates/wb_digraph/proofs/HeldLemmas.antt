-- Numbers hold what flows to the items, once sets have spread along the links.
use Rattle.std.proofs.Common.{◌≡◌, ℕ, ◌+◌, ◌<◌, ◌⊎◌, Bool, List, length, get_or, set, replicate, true, false, refl, sym, ◌∙◌, ap, subst, inl, inr, arith}
use Rattle.std.specs.Prelude.{All, slice_get, slice_index, ◌↔◌}
use Rattle.std.proofs.lemmas.List.Elements.{All-contains, Contains-get_or}
use Rattle.std.proofs.lemmas.List.{length-replicate}
use Rattle.wb_lemmas.proofs.Members.{contains_at}
use Rattle.wb_termset.proofs.CallerLemmas.{IsEmpty-replicate}
use Rattle.wb_lemmas.proofs.Places.{at_within}
use Rattle.wb_termset.specs.Sets.{IsEmpty, IsMember}
use Rattle.wb_base.specs.Grammar.{GrammarView, IsGrammar}
use Rattle.wb_graph.specs.Graphs.{Edge, IsEdge, IsEdgeBelow}
use Rattle.wb_grammar_theory.specs.declared.item.Item.{Item}
use Rattle.wb_items.specs.Kernels.{AreKernels, KernelsView, count_of}
use Rattle.wb_items.specs.Table.{AreProductions}
use Rattle.wb_digraph.specs.Inner.Filling.{HoldFlows}
use Rattle.wb_digraph.specs.Inner.Links.{AreReads, AreShiftsUpTo, ComesDirectly, IsLink, ReadsOn, Shifts}
use Rattle.wb_digraph.specs.Inner.Numbers.{AreBases, HasNumber}
use Rattle.wb_digraph.specs.Inner.Pools.{Extends, IsStart, set_at}
use Rattle.wb_digraph.specs.Inner.Spreading.{AreSpread, HasAt}
use Rattle.wb_digraph.proofs.FlowingLemmas.{comes_exact}
use Rattle.wb_digraph.proofs.NumberLemmas.{number_below, numbering}
use Rattle.wb_digraph.proofs.PoolLemmas.{extended_at, extended_len, numbers_kept}
use Rattle.wb_digraph.proofs.ReadLemmas.{inserted}
use Rattle.wb_digraph.proofs.SpreadingLemmas.{spreads_map}

module _ {kernels : KernelsView} (h : AreKernels kernels) (rows : List (List ℕ)) (bases : List ℕ) (ok : IsGrammar kernels.grammar)
    (p : AreProductions kernels.grammar rows) (b : AreBases kernels bases) where
  abbrev Number : ℕ → Item → ℕ → Type 0
  Number = HasNumber kernels rows bases

  -- links are between numbers of items
  pub links_below : (edges : List Edge) (count : ℕ) → count ≡ slice_index bases (count_of kernels) →
      ((v u : ℕ) → IsEdge edges v u ↔ IsLink kernels Number v u) → All (IsEdgeBelow count) edges
  links_below edges count len links k d lt =
      let e = get_or edges k d in
      below e ((links e.0 e.1).0 (Contains-get_or edges k d lt))
    where
      below : (e : Edge) → IsLink kernels Number e.0 e.1 → IsEdgeBelow count e
      below e (s, lt, (item, has, inl (x, rest, next, is, leads, from, to))) = (
        (let w = number_below h rows bases ok p b next _ e.0 to in omega (arith, w, len)),
        (let w = number_below h rows bases ok p b s item e.1 from in omega (arith, w, len)),
      )
      below e (s, lt, (item, has, inr (a, rest, q, right, is, empty, rule, from, to))) = (
        (let w = number_below h rows bases ok p b s _ e.0 to in omega (arith, w, len)),
        (let w = number_below h rows bases ok p b s item e.1 from in omega (arith, w, len)),
      )

  -- what spread is what flows
  pub held_flows : (edges : List Edge) (firsts numbers : List ℕ) (old new : List (List Bool)) →
      length firsts ≡ slice_index bases (count_of kernels) → ((v u : ℕ) → IsEdge edges v u ↔ IsLink kernels Number v u) →
      ((n t : ℕ) → HasAt old firsts n t ↔ ComesDirectly kernels Number n t) → AreSpread edges firsts old new numbers →
      HoldFlows kernels Number numbers new
  held_flows edges firsts numbers old new len links directly spread = record {
    within = λ s item n number. (let w = number_below h rows bases ok p b s item n number in let e = spread.len in omega (arith, w, e, len));
    below = spread.below;
    exact = λ s item n m t number at.
        let one = spread.exact n m t at in
        let flows = comes_exact h Number (numbering h rows bases ok p b) s n t item number in (
          λ has. flows.0 (spreads_map (λ u t. (directly u t).0) (λ u v. (links u v).0) (one.0 has)),
          λ to. one.1 (spreads_map (λ u t. (directly u t).1) (λ u v. (links u v).1) (flows.1 to)),
        );
  }

-- what spread along the edges of what is read
pub held_reads : (kernels : KernelsView) (edges : List Edge) (shifts numbers : List ℕ) (old new : List (List Bool)) →
    AreShiftsUpTo kernels (count_of kernels) old shifts → ((u v : ℕ) → IsEdge edges u v ↔ ReadsOn kernels u v) →
    AreSpread edges shifts old new numbers → AreReads kernels new numbers
held_reads kernels edges shifts numbers old new h reads spread = record {
  len = spread.len ∙ h.len;
  below = spread.below;
  exact = λ s n t at.
      let one = spread.exact s n t at in (
        λ has. spreads_map (λ u t (m, at_m, member). (h.exact u m t at_m).0 member) (λ u v. (reads u v).0) (one.0 has),
        λ from. one.1 (spreads_map (λ u t shifts'. held u t shifts') (λ u v. (reads u v).1) from),
      );
}
  where
    held : (u t : ℕ) → Shifts kernels u t → HasAt old shifts u t
    held u t (next, leads) =
        let (m, at) = at_within shifts u (let e = h.len in let lt = leads.0 in omega (arith, e, lt)) in
        (m, at, (h.exact u m t at).1 (next, leads))

-- edges of what is read are between kernels
pub reads_below : (kernels : KernelsView) (edges : List Edge) (count : ℕ) → count ≡ count_of kernels →
    ((u v : ℕ) → IsEdge edges u v ↔ ReadsOn kernels u v) → All (IsEdgeBelow count) edges
reads_below kernels edges count len reads k d lt =
    let e = get_or edges k d in
    let (c, leads, empty) = (reads e.0 e.1).0 (Contains-get_or edges k d lt) in
    ((let w = leads.0 in omega (arith, w, len)), (let w = leads.1 in omega (arith, w, len)))

-- the first set stays
pub start_kept : (g : GrammarView) (old new : List (List Bool)) → Extends old new → IsStart g old → IsStart g new
start_kept g old new more h =
    let same : set_at new 0 ≡ set_at old 0 = extended_at old new 0 more h.some in
    record {
      some = (let le = extended_len old new more in let lt = h.some in omega (arith, le, lt));
      empty = subst IsEmpty (sym same) h.empty;
      width = ap length same ∙ h.width;
    }

-- what is read stays where there are more sets
pub reads_kept : (kernels : KernelsView) (old new : List (List Bool)) (reads : List ℕ) → Extends old new → AreReads kernels old reads →
    AreReads kernels new reads
reads_kept kernels old new reads more h = record {
  len = h.len;
  below = numbers_kept old new reads more h.below;
  exact = λ s n t at.
      let lt = All-contains (λ n. n < length old) reads n h.below (contains_at reads n s at) in
      let same = extended_at old new n more lt in
      let one = h.exact s n t at in
      (λ has. one.0 (subst (λ z. IsMember z t) same has), λ from. subst (λ z. IsMember z t) (sym same) (one.1 from));
}

-- a set that was empty and took one number
pub end_exact : (n w : ℕ) (one set' : List Bool) → n < w → one ≡ replicate w false → set' ≡ set one n true →
    (t : ℕ) → IsMember set' t ↔ (t ≡ n)
end_exact n w one set' lt one_is is t =
    let len : length one ≡ w = ap length one_is ∙ length-replicate w false in
    let members = (inserted one set' n (omega (arith, lt, len)) is).1 t in (
      λ has. elim (members.0 has) [
        | inl before ↦ absurd (IsEmpty-replicate w t (subst (λ z. IsMember z t) one_is before))
        | inr same ↦ same
      ],
      λ same. members.1 (inr same),
    )
