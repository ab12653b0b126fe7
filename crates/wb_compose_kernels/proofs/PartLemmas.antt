-- What is lent of extensions, in the words of the certified grammars.
use Rattle.std.proofs.Common.{◌+◌, ◌-◌, ◌<◌, ◌≤◌, ◌∙◌, ◌≡◌, List, [], ap, arith, length, length-append, subst, sym, ℕ}
use Rattle.std.specs.Prelude.{◌↔◌, Contains, Option, Some, slice_get}
use Rattle.std.proofs.lemmas.Option.{slice_get_within}
use Rattle.wb_lemmas.proofs.Places.{at_within}
use Rattle.wb_base.specs.declared.symbol.Symbol.{Symbol}
use Rattle.wb_base.specs.Grammar.{GrammarView}
use Rattle.wb_grammar_theory.proofs.ClosureLemmas.{first_kernel}
use Rattle.wb_grammar_theory.specs.declared.item.Item.{Item}
use Rattle.wb_grammar_theory.specs.Items.{IsKernelItem, start, start_item}
use Rattle.wb_grammar_theory.specs.Productions.{end_of}
use Rattle.wb_grammar_theory.specs.States.{AreStates, IsNext}
use Rattle.wb_items.specs.declared.transitions.Move.{Move}
use Rattle.wb_items.specs.Kernels.{AreInOrder, AreKernels, KernelsView, count_of, prefix_of}
use Rattle.wb_marking_holes.proofs.UpLemmas.{holes_len}
use Rattle.wb_marking_holes.specs.Holes.{hole_productions, with_holes_of}
use Rattle.wb_compose_theory.specs.Homes.{Home, of, of_host}
use Rattle.wb_compose_theory.specs.NumberLaws.{HasHostKernels}
use Rattle.wb_compose_theory_grammar.specs.Pieces.{Piece}
use Rattle.wb_compose_theory_kernels.proofs.NumberedLemmas.{numbered}
use Rattle.wb_compose_theory_kernels.specs.Kernels.{AreKernelNumbers, HasNoHole, IsTaken, LeadsAt}
use Rattle.wb_compose_theory_kernels.specs.Numbered.{IsNumberedBeside}
use Rattle.wb_compose_theory_kernels.specs.Parts.{grammar_at, grammar_in}
use Rattle.wb_determinism_kernels.specs.declared.numbers.Numbers.{Numbers}
use Rattle.wb_determinism_kernels.specs.Numbers.{phi_by, up_by}
use Rattle.wb_determinism_theory.specs.Beside.{AreHostFirst}
use Rattle.wb_compose_kernels.specs.declared.splice.Part.{Part}
use Rattle.wb_compose_kernels.specs.declared.splice.Splice.{Splice}
use Rattle.wb_compose_kernels.specs.Lent.{AreSpliceable, IsPartOf}
use Rattle.wb_compose_kernels.specs.Inner.Counts.{count_at, count_in, new_count_at, new_count_in, numbers_in, prefix_at, prefix_in}

module _ (s : Splice) (ok : AreSpliceable s) where
  abbrev host : GrammarView
  host = s.host.now

  -- an extension with its part
  pub record HasPart (e : ℕ) : Type 0 where
    pub piece : Piece
    pub piece_at : slice_get ok.pieces e ≡ Some piece
    pub part : Part
    pub part_at : slice_get s.parts.now e ≡ Some part
    pub is : IsPartOf host ok.extensible s.kernels.now piece part

  pub has_part : (e : ℕ) → e < length ok.pieces → HasPart e
  has_part e less =
      let (x, at) = at_within ok.pieces e less in
      let (part, there) = at_within s.parts.now e (let l = ok.len in omega (arith, less, l)) in
      record { piece = x; piece_at = at; part = part; part_at = there; is = ok.parts e x part at there }

  pub part_less : (e : ℕ) → e < length s.parts.now → e < length ok.pieces
  part_less e less = (let l = ok.len in omega (arith, less, l))

  -- the grammar of the host with holes
  host_is : (e : ℕ) (h : HasPart e) → h.part.beside.now.host.now.grammar ≡ with_holes_of host ok.extensible
  host_is e h = ap (λ (k : KernelsView). k.grammar) h.is.host_kernels ∙ ok.of_host

  -- what holds of a part holds in the words of the certified grammar
  pub at_part : (T : GrammarView → KernelsView → Option Part → Type 0) (e : ℕ) (h : HasPart e) →
      T h.part.beside.now.grammar.now h.part.beside.now.host.now (Some h.part) →
      T (grammar_at host ok.extensible ok.pieces (of e)) s.kernels.now (slice_get s.parts.now e)
  at_part T e h t =
      subst (λ o. T (grammar_in host ok.extensible ok.pieces o) s.kernels.now (slice_get s.parts.now e)) (sym h.piece_at)
      (subst (T (with_holes_of h.piece.grammar ok.extensible) s.kernels.now) (sym h.part_at)
      (subst (λ (k : KernelsView). T (with_holes_of h.piece.grammar ok.extensible) k (Some h.part)) h.is.host_kernels
      (subst (λ (g : GrammarView). T g h.part.beside.now.host.now (Some h.part)) h.is.grammar t)))

  pub in_part : (T : GrammarView → KernelsView → Option Part → Type 0) (e : ℕ) (h : HasPart e) →
      T (grammar_at host ok.extensible ok.pieces (of e)) s.kernels.now (slice_get s.parts.now e) →
      T h.part.beside.now.grammar.now h.part.beside.now.host.now (Some h.part)
  in_part T e h t =
      subst (λ (g : GrammarView). T g h.part.beside.now.host.now (Some h.part)) (sym h.is.grammar)
      (subst (λ (k : KernelsView). T (with_holes_of h.piece.grammar ok.extensible) k (Some h.part)) (sym h.is.host_kernels)
      (subst (T (with_holes_of h.piece.grammar ok.extensible) s.kernels.now) h.part_at
      (subst (λ o. T (grammar_in host ok.extensible ok.pieces o) s.kernels.now (slice_get s.parts.now e)) h.piece_at t)))

  module _ (are : AreKernels s.kernels.now) where
    host_states : AreStates (with_holes_of host ok.extensible) (count_of s.kernels.now) (prefix_of s.kernels.now)
        (IsNext (with_holes_of host ok.extensible) (count_of s.kernels.now) (prefix_of s.kernels.now))
    host_states = subst (λ (g : GrammarView). AreStates g (count_of s.kernels.now) (prefix_of s.kernels.now)
        (IsNext g (count_of s.kernels.now) (prefix_of s.kernels.now))) ok.of_host are.states

    beside_host : (e : ℕ) (x : Piece) → slice_get ok.pieces e ≡ Some x →
        IsNumberedBeside host ok.extensible ok.pieces (numbers_in s) e x
    beside_host e x at = go (at_within s.parts.now e (let w = slice_get_within ok.pieces e x at in let l = ok.len in omega (arith, w, l)))
      where
        go : (part : Part) × (slice_get s.parts.now e ≡ Some part) → IsNumberedBeside host ok.extensible ok.pieces (numbers_in s) e x
        go (part, there) =
            let h : HasPart e = record { piece = x; piece_at = at; part = part; part_at = there; is = ok.parts e x part at there } in
            record {
              up = up_by part.beside.now.numbers.now;
              phi = phi_by part.beside.now.numbers.now part.beside.now.images.now;
              production_is = λ p. ap (λ (m : Numbers). (up_by m).production p) h.is.numbers;
              kernels = subst (λ (g : GrammarView). HasHostKernels g (with_holes_of x.grammar ok.extensible)
                  (up_by part.beside.now.numbers.now)) (host_is e h)
                  (subst (λ (g : GrammarView). HasHostKernels part.beside.now.host.now.grammar g (up_by part.beside.now.numbers.now))
                  h.is.grammar h.is.same);
              first = subst (λ (g : GrammarView). AreHostFirst g (with_holes_of x.grammar ok.extensible)
                  (up_by part.beside.now.numbers.now) (phi_by part.beside.now.numbers.now part.beside.now.images.now)
                  (count_of s.kernels.now) (count_at s (of e)) (prefix_at s (of e)) (prefix_of s.kernels.now)) ok.of_host
                  (subst (λ o. AreHostFirst s.kernels.now.grammar (with_holes_of x.grammar ok.extensible)
                  (up_by part.beside.now.numbers.now) (phi_by part.beside.now.numbers.now part.beside.now.images.now)
                  (count_of s.kernels.now) (count_in o) (prefix_in o) (prefix_of s.kernels.now)) (sym there)
                  (subst (λ (k : KernelsView). AreHostFirst k.grammar (with_holes_of x.grammar ok.extensible)
                  (up_by part.beside.now.numbers.now) (phi_by part.beside.now.numbers.now part.beside.now.images.now)
                  (count_of k) (count_in (Some part)) (prefix_in (Some part)) (prefix_of k)) h.is.host_kernels
                  (subst (λ (g : GrammarView). AreHostFirst part.beside.now.host.now.grammar g
                  (up_by part.beside.now.numbers.now) (phi_by part.beside.now.numbers.now part.beside.now.images.now)
                  (count_of part.beside.now.host.now) (count_in (Some part)) (prefix_in (Some part))
                  (prefix_of part.beside.now.host.now)) h.is.grammar h.is.new.found.first)));
              states = subst (λ o. AreStates (with_holes_of x.grammar ok.extensible) (count_in o) (prefix_in o)
                  (IsNext (with_holes_of x.grammar ok.extensible) (count_in o) (prefix_in o))) (sym there)
                  (subst (λ (g : GrammarView). AreStates g (count_in (Some part)) (prefix_in (Some part))
                  (IsNext g (count_in (Some part)) (prefix_in (Some part)))) h.is.grammar h.is.new.states);
            }

    -- the kernels are numbered as the laws ask
    pub kernel_numbers : AreKernelNumbers host ok.extensible ok.pieces (numbers_in s)
    kernel_numbers = numbered host ok.extensible ok.pieces (numbers_in s) (record { host_states = host_states; each = beside_host })

    -- the kernel of the empty prefix of the host is taken
    pub zero_taken : IsTaken host ok.extensible ok.pieces (numbers_in s) of_host 0
    zero_taken = (below (kernel_numbers.states of_host tt), free (kernel_numbers.states of_host tt))
      where
        below : AreStates (with_holes_of host ok.extensible) (count_of s.kernels.now) (prefix_of s.kernels.now)
            (IsNext (with_holes_of host ok.extensible) (count_of s.kernels.now) (prefix_of s.kernels.now)) → 0 < count_of s.kernels.now
        below states = (let (k, lt, same) = states.all [] (
          start_item (with_holes_of host ok.extensible),
          end_of (with_holes_of host ok.extensible),
          start,
        ) in omega (arith, lt))

        free : AreStates (with_holes_of host ok.extensible) (count_of s.kernels.now) (prefix_of s.kernels.now)
            (IsNext (with_holes_of host ok.extensible) (count_of s.kernels.now) (prefix_of s.kernels.now)) →
            HasNoHole host ok.extensible ok.pieces of_host (prefix_of s.kernels.now 0)
        free states item has (far, less) =
            let is = (first_kernel (with_holes_of host ok.extensible) item).0
            (subst (λ p. IsKernelItem (with_holes_of host ok.extensible) p item) states.first has) in
            let p_is : item.production ≡ length (with_holes_of host ok.extensible).productions = ap (λ (i : Item). i.production) is in
            let len = length-append host.productions (hole_productions host.terminals ok.extensible) in
            let holes = holes_len host.terminals ok.extensible in
            omega (arith, p_is, len, holes, less)

    -- so many kernels has the host with an extension
    pub new_below : (e i : ℕ) → e < length ok.pieces → i < new_count_at s e → count_of s.kernels.now + i < count_at s (of e)
    new_below e i less lt =
        let h = has_part e less in
        at_part (λ g k o. i < new_count_in o → count_of k + i < count_in o) e h
        (λ b. (let len = h.is.new.kernels_len in omega (arith, b, len))) lt

    pub new_past : (e j : ℕ) → e < length ok.pieces → j < count_at s (of e) → count_of s.kernels.now ≤ j →
        (i : ℕ) × (i < new_count_at s e) × (j ≡ count_of s.kernels.now + i)
    new_past e j less lt far =
        let i : ℕ = j - count_of s.kernels.now in
        let is : j ≡ count_of s.kernels.now + i = omega (arith, far) in
        (i, go i is, is)
      where
        go : (i : ℕ) → j ≡ count_of s.kernels.now + i → i < new_count_at s e
        go i is =
            let h = has_part e less in
            at_part (λ g k o. j < count_in o → j ≡ count_of k + i → i < new_count_in o) e h
            (λ b q. (let len = h.is.new.kernels_len in omega (arith, b, q, len))) lt is

    pub new_taken : (e i : ℕ) → e < length ok.pieces → i < new_count_at s e →
        IsTaken host ok.extensible ok.pieces (numbers_in s) (of e) (count_of s.kernels.now + i)
    new_taken e i less lt = (less, omega arith, new_below e i less lt)

    -- a new kernel, in order
    pub new_kernel : (e i : ℕ) (h : HasPart e) (list : List Item) → slice_get h.part.new.now.index.kernels i ≡ Some list →
        ((item : Item) → Contains list item ↔
        IsKernelItem (grammar_at host ok.extensible ok.pieces (of e)) (prefix_at s (of e) (count_of s.kernels.now + i)) item) ×
        AreInOrder list
    new_kernel e i h list at = (
      at_part (λ g k o. (item : Item) → Contains list item ↔ IsKernelItem g (prefix_in o (count_of k + i)) item) e h
          (h.is.new.kernels i list at),
      h.is.new.in_order i list at,
    )

    -- its moves
    pub new_moves : (e i : ℕ) (h : HasPart e) (row : List Move) → slice_get h.part.new.now.moves i ≡ Some row → (x : Symbol) (next : ℕ) →
        Contains row (record { symbol = x; state = next }) ↔
        LeadsAt host ok.extensible ok.pieces (numbers_in s) (of e) (count_of s.kernels.now + i) x next
    new_moves e i h row at = at_part (λ g k o. (x : Symbol) (next : ℕ) → Contains row (record { symbol = x; state = next }) ↔
        IsNext g (count_in o) (prefix_in o) (count_of k + i) x next) e h (h.is.new.moves i row at)

    -- from which it is reached
    pub record IsLedFrom (home : Home) (k : ℕ) : Type 0 where
      pub from : ℕ
      pub symbol : Symbol
      pub before : from < k
      pub leads : LeadsAt host ok.extensible ok.pieces (numbers_in s) home from symbol k

    pub new_led : (e i : ℕ) → e < length ok.pieces → i < new_count_at s e → IsLedFrom (of e) (count_of s.kernels.now + i)
    new_led e i less lt =
        let h = has_part e less in
        let (from, symbol, before, leads) = at_part (λ g k o. i < new_count_in o → (from : ℕ) × (x : Symbol) × (from < count_of k + i) ×
        IsNext g (count_in o) (prefix_in o) from x (count_of k + i)) e h
        (λ b. (let r = h.is.new.reached i (let len = h.is.new.kernels_len in omega (arith, b, len)) in
        (r.from, r.symbol, r.before, r.leads))) lt in
        record { from = from; symbol = symbol; before = before; leads = leads }
