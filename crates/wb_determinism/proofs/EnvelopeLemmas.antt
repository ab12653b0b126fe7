-- Envelopes: the kernels that contain another, and the lookaheads of items at them.
use Rattle.std.proofs.Common.{◌≡◌, ◌<◌, ◌≤◌, ◌+◌, ◌∙◌, ℕ, Bool, List, [], ◌∷◌, ◌++◌, Some, All, length, take, replicate, false, get_or}
use Rattle.std.proofs.Common.{sym, ap, subst, inl, inr, arith}
use Rattle.std.specs.Prelude.{◌↔◌, ◌⊎◌, Contains, slice_get}
use Rattle.std.proofs.lemmas.Bool.{cases_eq}
use Rattle.std.proofs.lemmas.List.{map-append, take_all, take_more}
use Rattle.std.proofs.lemmas.List.Elements.{All-push}
use Rattle.std.proofs.lemmas.Option.{same_Some, slice_get-get_or, slice_get_within}
use Rattle.wb_lemmas.proofs.Members.{contains_at, place_of, contains_push, push_contains, push_contains_last}
use Rattle.wb_base.specs.Grammar.{GrammarView}
use Rattle.wb_grammar_theory.specs.declared.item.Item.{Item}
use Rattle.wb_grammar_theory.specs.Closure.{InClosure, kernel, opened}
use Rattle.wb_grammar_theory.specs.Items.{IsKernelItem, HasItem}
use Rattle.wb_grammar_theory.specs.Lookaheads.{IsLookahead}
use Rattle.wb_grammar_theory.proofs.ClosureLemmas.{closure_sound}
use Rattle.wb_grammar_theory.proofs.FlowLemmas.{same_back, same_then}
use Rattle.wb_items.specs.declared.item_lookahead.ItemLookahead.{ItemLookahead}
use Rattle.wb_items.specs.Kernels.{KernelsView, AreKernels, count_of, prefix_of}
use Rattle.wb_items.specs.Lookaheads.{items_in}
use Rattle.wb_termset.specs.Sets.{IsMember, IsUnion}
use Rattle.wb_termset.proofs.CallerLemmas.{IsEmpty-replicate}
use Rattle.wb_compose_theory.specs.Numbered.{IsEnvelopeLookahead}
use Rattle.wb_determinism.specs.Inner.Index.{IsIndex}
use Rattle.wb_determinism.specs.Inner.Envelopes.{AddsEntry, HasAll, AreContaining, IsEnvelopeSet, IsEnvelopeRow}
use Rattle.wb_determinism.proofs.KeepLemmas.{lookahead_kept}

-- the closure of more items has more
pub closure_kept : {g : GrammarView} {K L : Item → Type 0} → ((i : Item) → K i → L i) → {item : Item} → InClosure g K item
    → InClosure g L item
closure_kept f (kernel {item = item} k) = kernel (f item k)
closure_kept f (opened item b rest q right c is rule) = opened item b rest q right (closure_kept f c) is rule

-- an item of the closure of items that a prefix has is one of the prefix
pub contained_has : (kernels : KernelsView) → AreKernels kernels → (own : List Item) (s : ℕ) → HasAll kernels own s → {item : Item}
    → InClosure kernels.grammar (Contains own) item → HasItem kernels.grammar (prefix_of kernels s) item
contained_has kernels exact own s has c = closure_sound (prefix_of kernels s) exact.live (closure_kept has.1 c)

-- the terminal is a lookahead of the item at one of the first kernels of the list
abbrev pub IsAdded : KernelsView → List ℕ → Item → ℕ → ℕ → Type 0
IsAdded kernels list item n t =
    (j s : ℕ) × (j < n) × (slice_get list j ≡ Some s) × IsLookahead kernels.grammar (prefix_of kernels s) item t

-- the set has these lookaheads
pub record AreAdded (kernels : KernelsView) (list : List ℕ) (item : Item) (n : ℕ) (set : List Bool) : Type 0 where
  pub len : length set ≡ kernels.grammar.terminals + 1
  pub each : (t : ℕ) → IsMember set t ↔ IsAdded kernels list item n t

pub added_none : (kernels : KernelsView) (list : List ℕ) (item : Item) (count : ℕ) → count ≡ kernels.grammar.terminals + 1
    → length (replicate count false) ≡ count → AreAdded kernels list item 0 (replicate count false)
added_none kernels list item count is len = record {
  len = len ∙ is;
  each = λ t. (λ has. absurd (IsEmpty-replicate count t has), λ (j, s, below, at, look). absurd (omega (arith, below)));
}

pub added_more : (kernels : KernelsView) (list : List ℕ) (item : Item) (n s : ℕ) (old new : List Bool) → slice_get list n ≡ Some s
    → length new ≡ length old
    → ((t : ℕ) → IsMember new t ↔ (IsMember old t ⊎ IsLookahead kernels.grammar (prefix_of kernels s) item t))
    → AreAdded kernels list item n old → AreAdded kernels list item (n + 1) new
added_more kernels list item n s old new at len each before = record {
  len = len ∙ before.len;
  each = λ t. (λ has. there t ((each t).0 has), λ has. (each t).1 (back t has));
}
  where
    there : (t : ℕ) → IsMember old t ⊎ IsLookahead kernels.grammar (prefix_of kernels s) item t → IsAdded kernels list item (n + 1) t
    there t (inl has) = let (j, r, below, is, look) = (before.each t).0 has in (j, r, omega (arith, below), is, look)
    there t (inr look) = (n, s, omega arith, at, look)

    back : (t : ℕ) → IsAdded kernels list item (n + 1) t → IsMember old t ⊎ IsLookahead kernels.grammar (prefix_of kernels s) item t
    back t (j, r, below, is, look) = elim (cases_eq j n) [
      | inl same ↦
          let one : r ≡ s = same_Some r s (sym (subst (λ (i : ℕ). slice_get list i ≡ Some r) same is) ∙ at) in
          inr (subst (λ (i : ℕ). IsLookahead kernels.grammar (prefix_of kernels i) item t) one look)
      | inr other ↦ inl ((before.each t).1 (j, r, omega (arith, below, other), is, look))
    ]

-- the lookaheads at all kernels that contain a kernel are those in its envelope
pub added_all : (kernels : KernelsView) → AreKernels kernels → (own : List Item) (list : List ℕ) (item : Item) (n : ℕ) (set : List Bool)
    → AreContaining kernels own list → length list ≤ n → AreAdded kernels list item n set
    → IsEnvelopeSet kernels.grammar own (record { item = item; set = set })
added_all kernels exact own list item n set are past added = record {
  len = added.len;
  each = λ t. (λ has. there t ((added.each t).0 has), λ is. (added.each t).1 (back t is));
}
  where
    there : (t : ℕ) → IsAdded kernels list item n t → IsEnvelopeLookahead kernels.grammar (Contains own) item t
    there t (j, s, below, at, look) = (prefix_of kernels s, ((are s).0 (contains_at list s j at)).1, look)

    back : (t : ℕ) → IsEnvelopeLookahead kernels.grammar (Contains own) item t → IsAdded kernels list item n t
    back t (prefix, has, (other, same, valid)) =
        let (s, below, is) = exact.states.all other (item, t, valid) in
        let to : (i : Item) → IsKernelItem kernels.grammar prefix i ↔ IsKernelItem kernels.grammar (prefix_of kernels s) i =
        same_then same (same_back is) in
        let (j, at) = place_of list s ((are s).1 (below, λ i listed. (to i).0 (has i listed))) in
        (j, s, (let within = slice_get_within list j s at in omega (arith, within, past)), at, lookahead_kept to (other, same, valid))

-- the members of a union, where those of the other set are known
pub union_members : {P : ℕ → Type 0} (set other union : List Bool) → IsUnion set other union → ((t : ℕ) → IsMember other t ↔ P t) → (t : ℕ)
    → IsMember union t ↔ (IsMember set t ⊎ P t)
union_members {P} set other union is known t = (there, back)
  where
    there : IsMember union t → IsMember set t ⊎ P t
    there has = elim ((is.each t).0 has) [ inl old ↦ inl old | inr new ↦ inr ((known t).0 new) ]

    back : IsMember set t ⊎ P t → IsMember union t
    back (inl old) = (is.each t).1 (inl old)
    back (inr p) = (is.each t).1 (inr ((known t).1 p))

-- the number is at one of the first places
abbrev pub IsAmong : List ℕ → ℕ → ℕ → Type 0
IsAmong list n s = (j : ℕ) × (j < n) × (slice_get list j ≡ Some s)

-- one place more
among_more : (list : List ℕ) (n d s : ℕ) → n < length list → IsAmong list (n + 1) s → IsAmong list n s ⊎ (get_or list n d ≡ s)
among_more list n d s within (j, below, at) = elim (cases_eq j n) [
  | inl same ↦ inr (same_Some (get_or list n d) s
      (sym (slice_get-get_or list n d within) ∙ subst (λ (i : ℕ). slice_get list i ≡ Some s) same at))
  | inr other ↦ inl (j, omega (arith, below, other), at)
]

among_kept : (list : List ℕ) (n s : ℕ) → IsAmong list n s → IsAmong list (n + 1) s
among_kept list n s (j, below, at) = (j, omega (arith, below), at)

-- the candidates that contain a kernel, with one more or not
module _ (kernels : KernelsView) (own : List Item) (candidates list : List ℕ) (n d : ℕ) (within : n < length candidates)
    (before : (s : ℕ) → Contains list s ↔ (IsAmong candidates n s × HasAll kernels own s)) where
  pub containing_more : HasAll kernels own (get_or candidates n d) → (s : ℕ)
      → Contains (list ++ get_or candidates n d ∷ []) s ↔ (IsAmong candidates (n + 1) s × HasAll kernels own s)
  containing_more has s = (there, back)
    where
      one : ℕ
      one = get_or candidates n d

      there : Contains (list ++ one ∷ []) s → IsAmong candidates (n + 1) s × HasAll kernels own s
      there listed = elim (contains_push list one s listed) [
        | inl old ↦ (let (among, all) = (before s).0 old in (among_kept candidates n s among, all))
        | inr same ↦ (
          (n, omega arith, slice_get-get_or candidates n d within ∙ ap (λ (k : ℕ). Some k) same),
          subst (HasAll kernels own) same has,
        )
      ]

      back : IsAmong candidates (n + 1) s × HasAll kernels own s → Contains (list ++ one ∷ []) s
      back (among, all) = elim (among_more candidates n d s within among) [
        | inl old ↦ push_contains list one s ((before s).1 (old, all))
        | inr same ↦ subst (Contains (list ++ one ∷ [])) same (push_contains_last list one)
      ]

  pub containing_skip : ¬ HasAll kernels own (get_or candidates n d) → (s : ℕ)
      → Contains list s ↔ (IsAmong candidates (n + 1) s × HasAll kernels own s)
  containing_skip hasnt s = (
    λ listed. (let (among, all) = (before s).0 listed in (among_kept candidates n s among, all)),
    λ (among, all). elim (among_more candidates n d s within among) [
      | inl old ↦ (before s).1 (old, all)
      | inr same ↦ absurd (hasnt (subst (HasAll kernels own) (sym same) all))
    ],
  )

-- all candidates
pub containing_all : (kernels : KernelsView) (own : List Item) (index : List (List ℕ)) (candidates list : List ℕ) (n : ℕ) (first : Item)
    → IsIndex kernels (count_of kernels) index → slice_get own 0 ≡ Some first → slice_get index first.production ≡ Some candidates
    → length candidates ≤ n → ((s : ℕ) → Contains list s ↔ (IsAmong candidates n s × HasAll kernels own s)) → AreContaining kernels own list
containing_all kernels own index candidates list n first is at row past are s =
    (λ listed. ((are s).0 listed).1, λ has. (are s).1 (among has, has))
  where
    among : HasAll kernels own s → IsAmong candidates n s
    among has =
        let (j, there) = place_of candidates s (is.complete s first candidates has.0 (has.1 first (contains_at own first 0 at)) row) in
        (j, (let w = slice_get_within candidates j s there in omega (arith, w, past)), there)

-- an item more with its lookaheads in the envelope
pub row_added : (g : GrammarView) (own closure : List Item) (n : ℕ) (d : Item) (row more : List ItemLookahead) → n < length closure
    → AddsEntry g own (get_or closure n d) row more → (items_in row ≡ take n closure) × All (IsEnvelopeSet g own) row
    → (items_in more ≡ take (n + 1) closure) × All (IsEnvelopeSet g own) more
row_added g own closure n d row more within adds (items, sets) = (
  ap items_in adds.after ∙ map-append (λ (l : ItemLookahead). l.item) row (adds.looks ∷ [])
      ∙ ap (λ (z : List Item). z ++ adds.looks.item ∷ []) items ∙ ap (λ (z : Item). take n closure ++ z ∷ []) adds.of_item
      ∙ sym (take_more closure n d within),
  subst (All (IsEnvelopeSet g own)) (sym adds.after) (All-push (IsEnvelopeSet g own) row adds.looks sets adds.envelope),
)

-- all items
pub row_all : (g : GrammarView) (own closure : List Item) (n : ℕ) (row : List ItemLookahead) → length closure ≤ n
    → ((item : Item) → Contains closure item ↔ InClosure g (Contains own) item)
    → (items_in row ≡ take n closure) × All (IsEnvelopeSet g own) row → IsEnvelopeRow g own row
row_all g own closure n row past exact (items, sets) = record {
  items = subst (λ (z : List Item). (item : Item) → Contains z item ↔ InClosure g (Contains own) item)
      (sym (items ∙ take_all n closure past))
      exact;
  sets = sets;
}
