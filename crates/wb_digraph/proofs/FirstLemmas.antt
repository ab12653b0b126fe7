-- What comes to numbers directly, as the items of kernels are gone through.
use Rattle.std.proofs.Common.{◌≡◌, ℕ, ◌+◌, ◌<◌, ◌≤◌, ◌⊎◌, Bool, List, [], ◌∷◌, ◌++◌, length, get_or, Some, refl, sym, ◌∙◌, ap, subst, inl, inr, arith}
use Rattle.std.proofs.Common.{length-append}
use Rattle.std.specs.Prelude.{Contains, slice_get, slice_index, take, ◌↔◌}
use Rattle.std.proofs.lemmas.Bool.{cases_eq, cases_lt}
use Rattle.std.proofs.lemmas.Option.{slice_get_within, slice_get-get_or}
use Rattle.std.proofs.lemmas.List.Elements.{All-contains}
use Rattle.wb_lemmas.proofs.Places.{at_once, at_push, at_within}
use Rattle.wb_lemmas.proofs.Members.{contains_at}
use Rattle.wb_termset.specs.Sets.{IsEmpty, IsMember}
use Rattle.wb_base.specs.declared.symbol.Symbol.{Symbol}
use Rattle.wb_base.specs.declared.symbol.Symbol.TheVariants.{Nonterminal}
use Rattle.wb_base.specs.Grammar.{GrammarView, IsGrammar}
use Rattle.wb_grammar_theory.specs.declared.item.Item.{Item}
use Rattle.wb_grammar_theory.specs.Items.{IsValidItem, SameKernel, initial_item, start_item}
use Rattle.wb_grammar_theory.specs.Items as valid
use Rattle.wb_grammar_theory.proofs.FlowLemmas.{same_itself, zero_state}
use Rattle.wb_grammar_theory.specs.Productions.{IsProduction, end_of, top_of}
use Rattle.wb_grammar_theory.proofs.DotLemmas.{top_no_production}
use Rattle.wb_items.specs.Apart.{Opens}
use Rattle.wb_items.specs.Kernels.{AreKernels, KernelsView, LeadsTo, closure_of, count_of, prefix_of}
use Rattle.wb_items.specs.Table.{AreProductions}
use Rattle.wb_digraph.specs.Inner.Links.{AreReads, ComesDirectly, IsReadFrom, ends, reads}
use Rattle.wb_digraph.specs.Inner.Numbers.{AreBases, AreFirstsUpTo, HasNumber, IsFirst, IsFirstOpened, none, opened, starts}
use Rattle.wb_digraph.specs.Inner.Pools.{AreNumbers, set_at}
use Rattle.wb_digraph.specs.Inner.Spreading.{HasAt}
use Rattle.wb_digraph.proofs.BackLemmas.{next_once}
use Rattle.wb_digraph.proofs.NumberLemmas.{first_opens, number_below, number_place, opened_is, opens_once}

-- the start item is there for the empty prefix alone
pub start_prefix : {g : GrammarView} {prefix : List Symbol} {item : Item} {u : ℕ} → IsValidItem g prefix item u → item ≡ start_item g →
    prefix ≡ []
start_prefix valid.start is = refl
start_prefix {g} (valid.close item t c rest q u right v before rule f) is =
    absurd (top_no_production g q c right rule (ap (λ (z : Item). z.production) is))
start_prefix (valid.move item x rest shorter v before longer moved) is =
    absurd (let e = ap (λ (z : Item). z.dot) (sym moved ∙ is) in omega (arith, e))

pub start_state : {kernels : KernelsView} → AreKernels kernels → (s : ℕ) → s < count_of kernels → prefix_of kernels s ≡ [] → s ≡ 0
start_state {kernels} h s lt is =
    h.states.each_once s 0 lt (zero_state (prefix_of kernels) h.states)
    (subst (SameKernel kernels.grammar (prefix_of kernels s)) (is ∙ sym h.states.first)
    (same_itself kernels.grammar (prefix_of kernels s)))

-- the firsts of the items at the first places of the next kernel
pub record AreRowFirsts (kernels : KernelsView) (rows : List (List ℕ)) (bases rs : List ℕ) (end s i : ℕ) (firsts : List ℕ) : Type 0 where
  pub len : length firsts ≡ slice_index bases s + i
  pub each : (k place m : ℕ) (item : Item) → (k < s) ⊎ ((k ≡ s) × (place < i)) → slice_get (closure_of kernels k) place ≡ Some item →
      slice_get firsts (slice_index bases k + place) ≡ Some m → IsFirst kernels rows rs end k item m
  pub covers : (v m : ℕ) → slice_get firsts v ≡ Some m → (k : ℕ) × (place : ℕ) × (item : Item) × ((k < s) ⊎ ((k ≡ s) × (place < i))) ×
      (slice_get (closure_of kernels k) place ≡ Some item) × (v ≡ slice_index bases k + place)

module _ {kernels : KernelsView} (h : AreKernels kernels) (rows : List (List ℕ)) (bases rs : List ℕ) (end : ℕ) (b : AreBases kernels bases)
  where
    -- no kernel
    pub firsts_start : (firsts : List ℕ) → firsts ≡ [] → AreFirstsUpTo kernels rows bases rs end 0 firsts
    firsts_start firsts is = record {
      len = ap length is ∙ sym b.first;
      each = λ s place m item lt at at'. absurd (omega (arith, lt));
      covers = λ v m at. absurd (let w = slice_get_within firsts v m at in let e = ap length is in omega (arith, w, e));
    }

    -- none of the next kernel
    pub row_start : (s : ℕ) (firsts : List ℕ) → AreFirstsUpTo kernels rows bases rs end s firsts →
        AreRowFirsts kernels rows bases rs end s 0 firsts
    row_start s firsts f = record {
      len = (let e = f.len in omega (arith, e));
      each = λ k place m item earlier at at'. elim earlier [
        | inl lt ↦ f.each k place m item lt at at'
        | inr (same, lt) ↦ absurd (omega (arith, lt))
      ];
      covers = λ v m at. (let (k, place, item, lt, at', is) = f.covers v m at in (k, place, item, inl lt, at', is));
    }

    -- one more
    pub row_push : (s i m : ℕ) (item : Item) (firsts new : List ℕ) → s < count_of kernels → slice_get (closure_of kernels s) i ≡ Some item →
        new ≡ firsts ++ m ∷ [] → IsFirst kernels rows rs end s item m → AreRowFirsts kernels rows bases rs end s i firsts →
        AreRowFirsts kernels rows bases rs end s (i + 1) new
    row_push s i m item firsts new lt at is first f = subst (AreRowFirsts kernels rows bases rs end s (i + 1)) (sym is) (record {
      len = (let e = length-append firsts (m ∷ []) in let g = f.len in omega (arith, e, g));
      each = λ k place n other earlier at_other at_n. elim (at_push firsts m n (slice_index bases k + place) at_n) [
        | inl before ↦ f.each k place n other (elim earlier [
          | inl less ↦ inl less
          | inr (same, below) ↦
              let w = slice_get_within firsts (slice_index bases k + place) n before in
              let e = f.len in
              let g : slice_index bases k ≡ slice_index bases s = ap (slice_index bases) same in
              inr (same, omega (arith, w, e, g))
        ]) at_other before
        | inr (last, m_is) ↦
            let here : slice_index bases k + place ≡ slice_index bases s + i = last ∙ f.len in
            let k_lt : k < count_of kernels = elim earlier [ inl less ↦ omega (arith, less, lt) | inr (same, _) ↦ omega (arith, same, lt) ] in
            let (same, item_is) = number_place kernels bases b k s place i other item k_lt lt at_other at here in
            subst (λ z. IsFirst kernels rows rs end z other n) (sym same)
            (subst (λ z. IsFirst kernels rows rs end s z n) (sym item_is) (subst (IsFirst kernels rows rs end s item) m_is first))
      ];
      covers = λ v n at_n. elim (at_push firsts m n v at_n) [
        | inl before ↦
            let (k, place, other, earlier, at_other, v_is) = f.covers v n before in
            (k, place, other, elim earlier [ inl less ↦ inl less | inr (same, below) ↦ inr (same, omega (arith, below)) ], at_other, v_is)
        | inr (last, m_is) ↦ (s, i, item, inr (refl, omega arith), at, last ∙ f.len)
      ];
    })

    -- all of them
    pub row_done : (s i : ℕ) (firsts : List ℕ) → s < count_of kernels → length (closure_of kernels s) ≡ i →
        AreRowFirsts kernels rows bases rs end s i firsts → AreFirstsUpTo kernels rows bases rs end (s + 1) firsts
    row_done s i firsts lt len f = record {
      len = (let e = f.len in let g = b.next s lt in omega (arith, e, g, len));
      each = λ k place m item below at at'. f.each k place m item (elim (cases_lt k s) [
        | inl less ↦ inl less
        | inr past ↦
            let same : k ≡ s = omega (arith, past, below) in
            inr (
              same,
              (let w = slice_get_within (closure_of kernels k) place item at in
                  let e : length (closure_of kernels k) ≡ length (closure_of kernels s) = ap (λ z. length (closure_of kernels z)) same in
                  omega (arith, w, e, len)),
            )
      ]) at at';
      covers = λ v m at.
          let (k, place, item, earlier, at', is) = f.covers v m at in
          (k, place, item, elim earlier [ inl less ↦ omega (arith, less) | inr (same, _) ↦ omega (arith, same) ], at', is);
    }

    -- the numbers of sets are there
    pub firsts_below : (sets : List (List Bool)) (firsts : List ℕ) → 0 < length sets → end < length sets → AreNumbers sets rs →
        AreFirstsUpTo kernels rows bases rs end (count_of kernels) firsts → AreNumbers sets firsts
    firsts_below sets firsts some end_lt below f = λ i d lt.
        let m = get_or firsts i d in
        let at : slice_get firsts i ≡ Some m = slice_get-get_or firsts i d lt in
        let (k, place, item, k_lt, at', is) = f.covers i m at in
        go item m k (f.each k place m item k_lt at' (subst (λ z. slice_get firsts z ≡ Some m) is at))
      where
        go : (item : Item) (m k : ℕ) → IsFirst kernels rows rs end k item m → m < length sets
        go item m k (opened c next opens first leads at) = All-contains (λ n. n < length sets) rs m below (contains_at rs m next at)
        go item m k (starts is m_is) = omega (arith, m_is, end_lt)
        go item m k (none never other m_is) = omega (arith, m_is, some)

    module _ (ok : IsGrammar kernels.grammar) (p : AreProductions kernels.grammar rows) (sets : List (List Bool)) (empty : IsEmpty (set_at sets 0))
        (r : AreReads kernels sets rs)
        (ended : (t : ℕ) → IsMember (set_at sets end) t ↔ (t ≡ end_of kernels.grammar)) where
      -- what an item has at first comes to its number directly
      first_comes : (s place m t : ℕ) (item : Item) → s < count_of kernels → slice_get (closure_of kernels s) place ≡ Some item →
          IsFirst kernels rows rs end s item m → IsMember (set_at sets m) t →
          ComesDirectly kernels (HasNumber kernels rows bases) (slice_index bases s + place) t
      first_comes s place m t item lt at (opened c next opens first leads at_m) has =
          let (dot, right, rule) = opens in
          let is : item ≡ initial_item item.production = opened_is kernels.grammar item c opens in
          reads s item.production c next right (subst (λ z. HasNumber kernels rows bases s z (slice_index bases s + place)) is (record {
            within = lt;
            one = item;
            place = place;
            stands = inl (c, opens, first);
            at = at;
            is = refl;
          })) rule leads ((r.exact next m t at_m).0 has)
      first_comes s place m t item lt at (starts is m_is) has =
          let never : (c : ℕ) → ¬ Opens kernels.grammar c item =
          λ c (dot, right, rule). top_no_production kernels.grammar item.production c right rule (ap (λ (z : Item). z.production) is) in
          let (u, v) = (h.closures s lt item).0 (contains_at (closure_of kernels s) item place at) in
          let zero : s ≡ 0 = start_state h s lt (start_prefix v is) in
          let number : HasNumber kernels rows bases s item (slice_index bases s + place) =
          record { within = lt; one = item; place = place; stands = inr (never, refl); at = at; is = refl } in
          ends (subst (λ z. HasNumber kernels rows bases z (start_item kernels.grammar) (slice_index bases s + place)) zero
          (subst (λ z. HasNumber kernels rows bases s z (slice_index bases s + place)) is number))
          ((ended t).0 (subst (λ z. IsMember (set_at sets z) t) m_is has))
      first_comes s place m t item lt at (none never other m_is) has =
          absurd (empty t (subst (λ z. IsMember (set_at sets z) t) m_is has))

      -- what is read after a nonterminal is in the set of the first item that it opens
      read_has : (s c next m t : ℕ) (one : Item) → Opens kernels.grammar c one → IsFirstOpened rows c one →
          LeadsTo kernels s (Nonterminal c) next → IsReadFrom kernels next t → IsFirst kernels rows rs end s one m → IsMember (set_at sets m) t
      read_has s c next m t one opens first leads from (opened d next' opens' first' leads' at_m) =
          let same : d ≡ c = opens_once kernels.grammar one d c opens' opens in
          let next_is : next' ≡ next =
          next_once h s (Nonterminal c) next' next (subst (λ z. LeadsTo kernels s (Nonterminal z) next') same leads') leads in
          (r.exact next' m t at_m).1 (subst (λ z. IsReadFrom kernels z t) (sym next_is) from)
      read_has s c next m t one (dot, right, rule) first leads from (starts is m_is) =
          absurd (top_no_production kernels.grammar one.production c right rule (ap (λ (z : Item). z.production) is))
      read_has s c next m t one opens first leads from (none never other m_is) = absurd (never c opens first)

      -- the end is in the set of the start item
      end_has : (s m t : ℕ) (one : Item) → one ≡ start_item kernels.grammar → t ≡ end_of kernels.grammar →
          IsFirst kernels rows rs end s one m → IsMember (set_at sets m) t
      end_has s m t one is t_is (opened c next (dot, right, rule) first leads at_m) =
          absurd (top_no_production kernels.grammar one.production c right rule (ap (λ (z : Item). z.production) is))
      end_has s m t one is t_is (starts _ m_is) = subst (λ z. IsMember (set_at sets z) t) (sym m_is) ((ended t).1 t_is)
      end_has s m t one is t_is (none never other m_is) = absurd (other is)

      -- the first sets have exactly what comes to numbers directly
      pub firsts_exact : (firsts : List ℕ) → AreFirstsUpTo kernels rows bases rs end (count_of kernels) firsts → (n t : ℕ) →
          HasAt sets firsts n t ↔ ComesDirectly kernels (HasNumber kernels rows bases) n t
      firsts_exact firsts f n t = (
        λ (m, at, has).
            let (s, place, item, lt, at_item, is) = f.covers n m at in
            let first = f.each s place m item lt at_item (subst (λ z. slice_get firsts z ≡ Some m) is at) in
            subst (λ z. ComesDirectly kernels (HasNumber kernels rows bases) z t) (sym is) (first_comes s place m t item lt at_item first has),
        go,
      )
        where
          number_at : (s : ℕ) (item : Item) → HasNumber kernels rows bases s item n → (m : ℕ) × (slice_get firsts n ≡ Some m)
          number_at s item number =
              let w = number_below h rows bases ok p b s item n number in
              at_within firsts n (let e = f.len in omega (arith, w, e))

          go : ComesDirectly kernels (HasNumber kernels rows bases) n t → HasAt sets firsts n t
          go (reads s q c next right number rule leads from) =
              let (m, at) = number_at s (initial_item q) number in
              let first = f.each s number.place m number.one number.within number.at
              (subst (λ z. slice_get firsts z ≡ Some m) number.is at) in
              elim number.stands [
                | inl (d, opens, opened_first) ↦
                    let same : d ≡ c = opens_once kernels.grammar (initial_item q) d c opens (refl, right, rule) in
                    let is_first = subst (λ z. IsFirstOpened rows z number.one) same opened_first in
                    (m, at, read_has s c next m t number.one (first_opens kernels.grammar rows ok p c number.one is_first) is_first leads from first)
                | inr (never, _) ↦ absurd (never c (refl, right, rule))
              ]
          go (ends number is) =
              let (m, at) = number_at 0 (start_item kernels.grammar) number in
              let first = f.each 0 number.place m number.one number.within number.at
              (subst (λ z. slice_get firsts z ≡ Some m) number.is at) in
              elim number.stands [
                | inl (d, (dot, right, rule), _) ↦ absurd (top_no_production kernels.grammar (top_of kernels.grammar) d right rule refl)
                | inr (never, one_is) ↦ (m, at, end_has 0 m t number.one one_is is first)
              ]
