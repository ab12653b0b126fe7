-- Where the new kernels of an extension start: at each of its markers, and nowhere else.
use Rattle.std.proofs.Common.{◌+◌, ◌<◌, ◌∙◌, ◌∷◌, ◌++◌, ◌≡◌, ◌≢◌, ap, arith, inl, inr, length, refl, subst, sym, ℕ, List, [], Some}
use Rattle.std.specs.Prelude.{Contains, slice_get}
use Rattle.std.proofs.lemmas.Bool.{cases_lt}
use Rattle.wb_lemmas.proofs.Members.{place_in}
use Rattle.wb_lemmas.proofs.Places.{at_once}
use Rattle.wb_base.specs.declared.symbol.Symbol.{Symbol}
use Rattle.wb_base.specs.declared.symbol.Symbol.TheVariants.{Terminal}
use Rattle.wb_base.specs.Grammar.{GrammarView}
use Rattle.wb_grammar_theory.specs.Items.{IsViablePrefix, SameKernel}
use Rattle.wb_grammar_theory.specs.States.{IsNext}
use Rattle.wb_items.specs.Kernels.{AreKernels, KernelsView, count_of}
use Rattle.wb_items.specs.Table.{Leads}
use Rattle.wb_compose_theory.specs.Blocks.{lift}
use Rattle.wb_compose_theory.specs.Homes.{of}
use Rattle.wb_compose_theory.specs.Renamings.{Renaming}
use Rattle.wb_compose_theory.specs.Worlds.{bare, on}
use Rattle.wb_compose_theory.specs.Worlds.{Mark as WorldMark}
use Rattle.wb_compose_theory_grammar.proofs.BridgeLemmas.{piece_ok}
use Rattle.wb_compose_theory_grammar.proofs.PlaceLemmas.{lift_below, lift_past}
use Rattle.wb_compose_theory_grammar.specs.Numberings.{image_of}
use Rattle.wb_compose_theory_grammar.specs.Pieces.{Piece}
use Rattle.wb_compose_theory_grammar.specs.Unions.{added_terminals}
use Rattle.wb_compose_theory_grammar.specs.UnitedWorlds.{index_of}
use Rattle.wb_compose_theory_kernels.proofs.TakenLemmas.{markers_reached}
use Rattle.wb_compose_theory_kernels.specs.Kernels.{LeadsAt}
use Rattle.wb_determinism_kernels.proofs.PrefixLemmas.{beside_below, beside_is}
use Rattle.wb_determinism_kernels.specs.declared.index.Step.{Step}
use Rattle.wb_determinism_kernels.specs.declared.numbers.Numbers.{Numbers}
use Rattle.wb_determinism_kernels.specs.declared.starts.Start.{Start}
use Rattle.wb_determinism_kernels.specs.NewKernels.{IsStart, prefix_beside, prefixes_beside}
use Rattle.wb_determinism_kernels.specs.Numbers.{phi_by, up_by}
use Rattle.wb_compose_kernels.proofs.PartLemmas.{HasPart, at_part, in_part, kernel_numbers}
use Rattle.wb_compose_kernels.specs.declared.splice.Splice.{Splice}
use Rattle.wb_compose_kernels.specs.Lent.{AreSpliceable}
use Rattle.wb_compose_kernels.specs.Inner.Counts.{count_in, numbers_in, prefix_in}

-- where a symbol leads, by the prefixes of numbers
next_of : (h : KernelsView) (k : GrammarView) (up : Renaming) (steps : List Step) (n : ℕ) (x : Symbol) (next : ℕ) →
    Leads k (prefixes_beside up h steps) n x next → IsNext k (count_of h + length steps) (prefix_beside up h steps) n x next
next_of h k up steps n x next l =
    let here : prefix_beside up h steps n ≡ l.prefix = beside_is up h steps n l.prefix l.at in
    let there : prefix_beside up h steps next ≡ l.other = beside_is up h steps next l.other l.to in (
      beside_below up h steps n l.prefix l.at,
      beside_below up h steps next l.other l.to,
      subst (λ p. IsViablePrefix k (p ++ x ∷ [])) (sym here) l.viable,
      subst (λ p. SameKernel k (prefix_beside up h steps next) (p ++ x ∷ [])) (sym here)
          (subst (λ p. SameKernel k p (l.prefix ++ x ∷ [])) (sym there) l.same),
    )

module _ (s : Splice) (ok : AreSpliceable s) where
  abbrev g : GrammarView
  g = s.host.now

  -- what a start of an extension says of its marker
  pub record StartFacts (e : ℕ) (start : Start) : Type 0 where
    pub piece : Piece
    pub nonterminal : ℕ
    pub at : slice_get ok.pieces e ≡ Some piece
    pub on_a : piece.mark start.marker ≡ on nonterminal
    pub hole : start.hole ≡ g.terminals + index_of ok.extensible nonterminal
    pub leads : LeadsAt g ok.extensible ok.pieces (numbers_in s) (of e) start.before (Terminal start.marker) start.number

  pub start_facts : (e : ℕ) (h : HasPart s ok e) (start : Start) → Contains h.part.new.now.starts start → StartFacts e start
  start_facts e h start has = go (h.piece.mark start.marker) refl
    where
      is : IsStart h.part.beside.now.host.now h.part.beside.now.grammar.now h.part.beside.now.numbers.now h.part.beside.now.images.now
          (prefixes_beside (up_by h.part.beside.now.numbers.now) h.part.beside.now.host.now h.part.new.now.index.steps) start
      is = h.is.new.starts has.0 start (place_in h.part.new.now.starts start has)

      leads : LeadsAt g ok.extensible ok.pieces (numbers_in s) (of e) start.before (Terminal start.marker) start.number
      leads = at_part s ok (λ gr k o. IsNext gr (count_in o) (prefix_in o) start.before (Terminal start.marker) start.number) e h
          (next_of h.part.beside.now.host.now h.part.beside.now.grammar.now (up_by h.part.beside.now.numbers.now)
          h.part.new.now.index.steps start.before (Terminal start.marker) start.number is.leads)

      image : (k : WorldMark) → h.piece.mark start.marker ≡ k →
          phi_by h.part.beside.now.numbers.now h.part.beside.now.images.now start.marker ≡ image_of ok.extensible h.piece k start.marker
      image k mark_is = h.is.images start.marker ∙ ap (λ z. image_of ok.extensible h.piece z start.marker) mark_is

      hole_is : (a : ℕ) → h.piece.mark start.marker ≡ on a → start.hole ≡ g.terminals + index_of ok.extensible a
      hole_is a mark_is =
          let up_is : lift g.terminals (added_terminals g h.piece.grammar) start.hole ≡ h.piece.grammar.terminals + index_of
          ok.extensible a =
          sym (ap (λ (m : Numbers). (up_by m).terminal start.hole) h.is.numbers) ∙ (is.hole ∙ image (on a) mark_is) in
          let more = (piece_ok g ok.extensible ok.pieces ok.certified.are_pieces e h.piece h.piece_at).extends.terminals in
          elim (cases_lt start.hole g.terminals) [
            | inl below ↦ (let l = lift_below g.terminals (added_terminals g h.piece.grammar) start.hole below in
                absurd (omega (arith, l, up_is, below, more)))
            | inr far ↦ (let l = lift_past g.terminals (added_terminals g h.piece.grammar) start.hole far in
                omega (arith, l, up_is, far, more))
          ]

      go : (k : WorldMark) → h.piece.mark start.marker ≡ k → StartFacts e start
      go bare mark_is = absurd (is.marker (image bare mark_is))
      go (on a) mark_is = record {
        piece = h.piece;
        nonterminal = a;
        at = h.piece_at;
        on_a = mark_is;
        hole = hole_is a mark_is;
        leads = leads;
      }

  -- a start with the marker
  pub record HasStart (e m : ℕ) (h : HasPart s ok e) : Type 0 where
    pub start : Start
    pub has : Contains h.part.new.now.starts start
    pub is : start.marker ≡ m

  -- each marker has one
  pub marker_start : AreKernels s.kernels.now → (e m a : ℕ) (piece : Piece) → slice_get ok.pieces e ≡ Some piece → piece.mark m ≡ on a →
      (h : HasPart s ok e) → HasStart e m h
  marker_start are e m a piece at on_a h =
      go (markers_reached g ok.extensible ok.pieces ok.certified (numbers_in s) (kernel_numbers s ok are) e m a piece at on_a)
    where
      on_here : h.piece.mark m ≡ on a
      on_here = subst (λ (z : Piece). z.mark m ≡ on a) (sym (at_once ok.pieces e h.piece piece h.piece_at at)) on_a

      within : m < h.piece.grammar.terminals
      within = ((piece_ok g ok.extensible ok.pieces ok.certified.are_pieces e h.piece h.piece_at).markers m a on_here).within

      moved : phi_by h.part.beside.now.numbers.now h.part.beside.now.images.now m ≢ m
      moved same =
          let e' : h.piece.grammar.terminals + index_of ok.extensible a ≡ m =
          sym (h.is.images m ∙ ap (λ z. image_of ok.extensible h.piece z m) on_here) ∙ same in
          omega (arith, e', within)

      go : (k next : ℕ) × (k < count_of s.kernels.now) × LeadsAt g ok.extensible ok.pieces (numbers_in s) (of e) k (Terminal m) next →
          HasStart e m h
      go (k, next, below, leads) =
          let viable = in_part s ok (λ gr c o. IsViablePrefix gr (prefix_in o k ++ Terminal m ∷ [])) e h leads.2 in
          let (start, has, is) = h.is.new.started m k
          (subst (λ (c : KernelsView). k < count_of c) (sym h.is.host_kernels) below) moved viable in
          record { start = start; has = has; is = is }
