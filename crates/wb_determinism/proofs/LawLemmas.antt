-- A true refusal other than out of memory rules determinism out; and what determinism is to a union.
use Rattle.std.proofs.Common.{◌≡◌, ◌∙◌, ℕ, List, map, sym, subst, ap, inl, inr, arith}
use Rattle.wb_base.specs.declared.symbol.Symbol.{Symbol}
use Rattle.wb_base.specs.Grammar.{GrammarView}
use Rattle.wb_determinism_host.specs.declared.refusal.DeterminismRefusal.{DeterminismRefusal}
use Rattle.wb_determinism_host.specs.declared.refusal.DeterminismRefusal.TheVariants as d
use Rattle.wb_determinism_host.specs.declared.refusal.EnvelopeFault.{EnvelopeFault}
use Rattle.wb_determinism_host.specs.declared.refusal.EnvelopeFault.TheVariants as f
use Rattle.wb_determinism_host.specs.Refusals.{IsNoMemory}
use Rattle.wb_determinism_host.proofs.RefusalLemmas.{excluded}
use Rattle.wb_grammar_theory.specs.declared.item.Item.{Item}
use Rattle.wb_grammar_theory.specs.Lookaheads.{IsLookahead}
use Rattle.wb_grammar_theory.specs.Productions.{top_of}
use Rattle.wb_lookahead.specs.declared.action.Action.{Action}
use Rattle.wb_lookahead.specs.declared.action.Action.TheVariants as act
use Rattle.wb_lookahead.specs.declared.action.Action.TheVariants.{Shift, Reduce, Accept}
use Rattle.wb_lookahead.specs.Tables.{ComesBefore}
use Rattle.wb_syntax_resolved.specs.declared.resolved.ResolvedParts.{ResolvedParts}
use Rattle.wb_compose_theory.specs.Numbered.{IsHostKernel, IsNewHostKernel, HasEnvelopeConflict, IsComposable}
use Rattle.wb_compose_theory.specs.NumberLaws.{HasHostKernels}
use Rattle.wb_compose_theory.specs.Renamings.{renamed}
use Rattle.wb_determinism.specs.declared.numbers.Numbers.{Numbers}
use Rattle.wb_determinism.specs.EnvelopeRule.{CanActInEnvelope, HasShownConflict}
use Rattle.wb_determinism.specs.Extensions.{IsDeterministicExtension, both_lexicon, both_numbers, extended_grammar}
use Rattle.wb_determinism.specs.Images.{stands_for}
use Rattle.wb_determinism.specs.Numbers.{production_up, renaming_by, up_by}
use Rattle.wb_determinism.specs.Refusals.{IsEnvelopeFault, IsExtensionRefusal}

-- a conflict that is shown is one
pub shown_conflict : (g : GrammarView) (m : Numbers) (Kernel : Item → Type 0) (shown : ℕ) (first second : Action)
    → (x : HasShownConflict g m Kernel shown first second) → HasEnvelopeConflict g Kernel x.terminal
shown_conflict g m Kernel shown first second x = both first second x.first_can x.second_can x.in_order
  where
    both : (one other : Action) → CanActInEnvelope g m Kernel x.terminal one → CanActInEnvelope g m Kernel x.terminal other
        → ComesBefore one other → HasEnvelopeConflict g Kernel x.terminal
    both (Shift n) (Reduce q) can (p, below, is, red) order = inl (p, can, red)
    both (Shift n) Accept can red order = inl (top_of g, can, red)
    both (Shift n) (Shift k) can other order = absurd order
    both (Shift n) act.None can other order = absurd order
    both (Reduce a) (Reduce b) (p, below, is, red) (q, within, same, other) order =
        inr (p, q, (λ e. let equal : a ≡ b = is ∙ ap (production_up m) e ∙ sym same in omega (arith, order, equal)), red, other)
    both (Reduce a) Accept (p, below, is, red) other order = inr (p, top_of g, (λ e. omega (arith, below, e)), red, other)
    both (Reduce a) (Shift k) can other order = absurd order
    both (Reduce a) act.None can other order = absurd order
    both Accept other one two order = absurd order
    both act.None other one two order = absurd order

-- a fault with the envelope
fault_excluded : (r : ResolvedParts) (g host : GrammarView) (prefix : List Symbol) (fault : EnvelopeFault)
    → IsEnvelopeFault r g host prefix fault
    → IsDeterministicExtension r g host → ⊥
fault_excluded r g host prefix (f.Lookahead item t) x is =
    let (u, image, there) = is.envelope.stays.lookaheads prefix x.new x.own t x.within
    (subst (λ (i : Item). IsLookahead (extended_grammar r g host) prefix i t) x.is x.lookahead) in
    x.beyond u image there
fault_excluded r g host prefix (f.Conflict t first second) x is =
    is.envelope.stays.no_conflict prefix x.new x.conflict.terminal (shown_conflict host (both_numbers r g host) _ t first second x.conflict)
fault_excluded r g host prefix (f.Clash left right text) x is = is.envelope.clear prefix left right text x.0

pub ruled_out : (r : ResolvedParts) (g host : GrammarView) (refusal : DeterminismRefusal) → IsExtensionRefusal r g host refusal
    → IsDeterministicExtension r g host → IsNoMemory refusal
ruled_out r g host (d.Markers m) h is = absurd h
ruled_out r g host (d.PreferenceCycle cycle) h is = excluded r g (both_lexicon r g host) (d.PreferenceCycle cycle) h is.both
ruled_out r g host (d.NotReduced reason) h is = excluded r g (both_lexicon r g host) (d.NotReduced reason) h is.both
ruled_out r g host (d.UnitCycle list) h is = excluded r g (both_lexicon r g host) (d.UnitCycle list) h is.both
ruled_out r g host (d.HiddenLeftRecursion list) h is = excluded r g (both_lexicon r g host) (d.HiddenLeftRecursion list) h is.both
ruled_out r g host (d.Conflict p t a b) h is = excluded r g (both_lexicon r g host) (d.Conflict p t a b) h is.both
ruled_out r g host (d.Clash p a b t) h is = excluded r g (both_lexicon r g host) (d.Clash p a b t) h is.both
ruled_out r g host (d.Lookahead prefix item t) (both, x) is =
    let (u, image, there) = is.lookaheads prefix x.host x.own t x.kernel x.has
    (subst (λ (i : Item). IsLookahead (extended_grammar r g host) prefix i t) x.is x.lookahead) in
    absurd (x.beyond u image there)
ruled_out r g host (d.Envelope prefix fault) (both, keeps, x) is = absurd (fault_excluded r g host prefix fault x is)
ruled_out r g host (d.NoMemory e) h is = tt

-- a deterministic extension whose host's prefixes keep their kernels is one that unions ask for
pub composable : (r : ResolvedParts) (g host : GrammarView) (nonterminal : ℕ → ℕ)
    → HasHostKernels host (extended_grammar r g host) (renaming_by (both_numbers r g host) nonterminal)
    → IsDeterministicExtension r g host
    → IsComposable host (extended_grammar r g host) (renaming_by (both_numbers r g host) nonterminal) (stands_for r g)
composable r g host nonterminal same is = record {
  no_conflict = is.both.no_conflict;
  keeps_lookaheads = λ prefix item t has look.
      is.lookaheads (map (renamed (renaming_by (both_numbers r g host) nonterminal)) prefix) prefix item t
      (same_here prefix (same prefix (item, has.0.0, has.0.1))) has look;
  stays_in_envelope = record {
    lookaheads = λ prefix new. is.envelope.stays.lookaheads prefix (new_here prefix new);
    no_conflict = λ prefix new. is.envelope.stays.no_conflict prefix (new_here prefix new);
  };
}
  where
    new_here : (prefix : List Symbol)
        → IsNewHostKernel host (extended_grammar r g host) (renaming_by (both_numbers r g host) nonterminal) prefix
        → IsNewHostKernel host (extended_grammar r g host) (up_by (both_numbers r g host)) prefix
    new_here prefix new = record { within = new.within; is_new = new.is_new }

    same_here : (prefix : List Symbol)
        → IsHostKernel host (extended_grammar r g host) (renaming_by (both_numbers r g host) nonterminal)
        (map (renamed (renaming_by (both_numbers r g host) nonterminal)) prefix) prefix
        → IsHostKernel host (extended_grammar r g host) (up_by (both_numbers r g host))
        (map (renamed (renaming_by (both_numbers r g host) nonterminal)) prefix) prefix
    same_here prefix kernel = record { within = kernel.within; same = kernel.same }
