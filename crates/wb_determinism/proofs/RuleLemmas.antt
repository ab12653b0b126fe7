-- The rules with a table of what terminals stand for are those with the meaning of terminals.
use Rattle.std.proofs.Common.{◌≡◌, ◌<◌, ◌+◌, ◌-◌, ◌∙◌, ℕ, List, Option, Some, None, sym, subst, ap, arith}
use Rattle.std.specs.Prelude.{Contains, slice_get}
use Rattle.wb_lemmas.proofs.Places.{at_within}
use Rattle.wb_base.specs.declared.symbol.Symbol.{Symbol}
use Rattle.wb_base.specs.Grammar.{GrammarView}
use Rattle.wb_grammar_theory.specs.declared.item.Item.{Item}
use Rattle.wb_grammar_theory.specs.Lookaheads.{IsLookahead}
use Rattle.wb_items.specs.Kernels.{KernelsView, AreKernels, prefix_of}
use Rattle.wb_items.specs.LookaheadSets.{AreLookaheads}
use Rattle.wb_items.specs.Lookaheads.{IsSetOf, LookaheadsView, row_of}
use Rattle.wb_lemmas.proofs.Members.{contains_at}
use Rattle.wb_lookahead.proofs.PlaceLemmas.{held_len}
use Rattle.wb_lookahead.specs.declared.action.Action.{Action}
use Rattle.wb_termset.proofs.CallerLemmas.{has_below}
use Rattle.wb_compose_theory.specs.Numbered.{KeepsKernelLookaheads, StaysInEnvelope}
use Rattle.wb_determinism.specs.declared.numbers.Numbers.{Numbers}
use Rattle.wb_determinism.specs.EnvelopeRule.{IsEnvelopeLookaheadFault, IsEnvelopeConflictFault}
use Rattle.wb_determinism.specs.LookaheadRule.{IsLookaheadFault}
use Rattle.wb_determinism.specs.Inner.Keeps.{KeepsHostLookaheads, KeepsInEnvelope, HasNoEnvelopeConflict}
use Rattle.wb_determinism.specs.Numbers.{terminal_up, up_by}
use Rattle.wb_determinism.specs.Inner.Contexts.{HasImage}
use Rattle.wb_determinism.specs.Images.{AreImages, IsDown}
use Rattle.wb_determinism.proofs.NumberLemmas.{lifted_once}
use Rattle.wb_determinism.proofs.RowLemmas.{lookahead_listed, row_entry}

-- a lookahead is a terminal of the grammar, or the end
pub lookahead_bound : (kernels : KernelsView) → AreKernels kernels → (lookaheads : LookaheadsView)
    → AreLookaheads kernels lookaheads
    → (prefix : List Symbol) (item : Item) (t : ℕ) → IsLookahead kernels.grammar prefix item t → t < kernels.grammar.terminals + 1
lookahead_bound kernels exact lookaheads are prefix item t (other, same, valid) =
    let (s, below, is) = exact.states.all other (item, t, valid) in
    let here : IsLookahead kernels.grammar (prefix_of kernels s) item t = (other, is, valid) in
    let (looks, n, at, item_is) = row_entry (row_of lookaheads s) item
    (lookahead_listed kernels exact lookaheads are s below item t here) in
    let set : IsSetOf lookaheads s item looks.set =
    subst (λ (i : Item). Contains (row_of lookaheads s) (record { item = i; set = looks.set })) item_is
    (contains_at (row_of lookaheads s) looks n at) in
    let member = (are.exact s item looks.set t below set).1 here in
    let within = has_below looks.set t member in
    let len = held_len exact lookaheads are.shape s below item looks.set set in
    omega (arith, within, len)

module _ (m : Numbers) (phi : ℕ → ℕ) (count : ℕ) (images : List (Option ℕ)) (are : AreImages m phi count images) where
  -- what the table says is what is meant
  pub image_out : (t u : ℕ) → HasImage images t u → terminal_up m u ≡ phi t
  image_out t u is = sym (are.each t (Some u) is)

  -- and all that is meant
  pub image_in : (t u : ℕ) → t < count → terminal_up m u ≡ phi t → HasImage images t u
  image_in t u below is =
      let (o, at) = at_within images t (omega (arith, below, are.len)) in by o at (are.each t o at)
    where
      by : (o : Option ℕ) → slice_get images t ≡ Some o → IsDown m (phi t) o → HasImage images t u
      by None at none = absurd (none u (sym is))
      by (Some v) at same =
          let one : v ≡ u = lifted_once m.own_terminals (m.both_terminals - m.host_terminals) v u (sym same ∙ sym is) in
          at ∙ ap (λ (w : ℕ). Some (Some w)) one

  module _ (g k : GrammarView) where
    -- the lookahead rule
    pub keeps_kernels : KeepsHostLookaheads g k m (HasImage images) → KeepsKernelLookaheads g k (up_by m) phi
    keeps_kernels keeps prefix other item t is has look =
        let (u, image, there) = keeps other prefix item t is has look in (u, image_out t u image, there)

    pub kernel_fault : ((prefix : List Symbol) (item : Item) (t : ℕ) → IsLookahead k prefix item t → t < count) → (prefix : List Symbol)
        (item : Item) (t : ℕ) → IsLookaheadFault g k m (HasImage images) prefix item t
        → IsLookaheadFault g k m (λ t u. terminal_up m u ≡ phi t) prefix item t
    kernel_fault bound prefix item t x = record {
      host = x.host;
      own = x.own;
      kernel = x.kernel;
      has = x.has;
      is = x.is;
      lookahead = x.lookahead;
      beyond = λ u image look. x.beyond u (image_in t u (bound prefix item t x.lookahead) image) look;
    }

    -- the envelope rule
    pub stays_in : KeepsInEnvelope g k m (HasImage images) → HasNoEnvelopeConflict g k m (HasImage images)
        → StaysInEnvelope g k (up_by m) phi
    stays_in keeps none = record {
      lookaheads = λ prefix new item t within look.
          (let (u, image, there) = keeps prefix item t new within look in (u, image_out t u image, there));
      no_conflict = λ prefix new t conflict. none prefix t new conflict;
    }

    pub envelope_fault : ((prefix : List Symbol) (item : Item) (t : ℕ) → IsLookahead k prefix item t → t < count) → (prefix : List Symbol)
        (item : Item) (t : ℕ) → IsEnvelopeLookaheadFault g k m (HasImage images) prefix item t
        → IsEnvelopeLookaheadFault g k m (λ t u. terminal_up m u ≡ phi t) prefix item t
    envelope_fault bound prefix item t x = record {
      new = x.new;
      own = x.own;
      is = x.is;
      within = x.within;
      lookahead = x.lookahead;
      beyond = λ u image look. x.beyond u (image_in t u (bound prefix item t x.lookahead) image) look;
    }

    pub conflict_fault : (prefix : List Symbol) (t : ℕ) (first second : Action)
        → IsEnvelopeConflictFault g k m (HasImage images) prefix t first second
        → IsEnvelopeConflictFault g k m (λ t u. terminal_up m u ≡ phi t) prefix t first second
    conflict_fault prefix t first second x = record { new = x.new; conflict = x.conflict }
