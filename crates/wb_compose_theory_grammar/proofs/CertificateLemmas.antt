-- Certificates in other words for where numbers go.
use Rattle.std.proofs.Common.{◌≡◌, ◌∷◌, [], ℕ, List, subst}
use Rattle.wb_base.specs.declared.symbol.Symbol.{Symbol}
use Rattle.wb_base.specs.Grammar.{GrammarView}
use Rattle.wb_grammar_theory.specs.Shape.{IsReduced}
use Rattle.wb_marking_holes.specs.Holes.{with_holes_of}
use Rattle.wb_compose_theory.specs.Numbered.{IsHostKernel, IsNewHostKernel, KeepsKernelLookaheads, StaysInEnvelope}
use Rattle.wb_compose_theory.specs.Renamings.{Renaming}
use Rattle.wb_compose_theory_grammar.specs.Certificates.{IsCertifiedBy, IsCertifiedPiece}
use Rattle.wb_compose_theory_grammar.specs.Numberings.{phi_of, up_of}
use Rattle.wb_compose_theory_grammar.specs.Pieces.{ArePieces, Piece}
use Rattle.wb_compose_theory_grammar.proofs.UnitedLemmas.{same_kernels}

module _ (g k : GrammarView) (up other : Renaming) (terminals : up.terminal ≡ other.terminal)
    (productions : up.production ≡ other.production) where
  -- the same, but for nonterminals
  abbrev both : Renaming
  both = record { terminal = other.terminal; nonterminal = up.nonterminal; production = other.production }

  -- they are
  both_is : up ≡ both
  both_is = λ z. record { terminal = terminals z; nonterminal = up.nonterminal; production = productions z }

  -- of nonterminals no kernel of host items speaks
  host_back : (prefix one : List Symbol) → IsHostKernel g k other prefix one → IsHostKernel g k both prefix one
  host_back prefix one is = record { within = is.within; same = is.same }

  -- nor new ones
  new_back : (prefix : List Symbol) → IsNewHostKernel g k other prefix → IsNewHostKernel g k both prefix
  new_back prefix new = record { within = new.within; is_new = new.is_new }

  module _ (phi : ℕ → ℕ) where
    -- nor does the lookahead rule by kernels
    pub keeps_other : KeepsKernelLookaheads g k up phi → KeepsKernelLookaheads g k other phi
    keeps_other rule prefix one item t host has looks =
        (subst (λ z. KeepsKernelLookaheads g k z phi) both_is rule) prefix one item t (host_back prefix one host) has looks

    -- nor the envelope rule
    pub stays_other : StaysInEnvelope g k up phi → StaysInEnvelope g k other phi
    stays_other rule =
        let here : StaysInEnvelope g k both phi = subst (λ z. StaysInEnvelope g k z phi) both_is rule in
        record {
          lookaheads = λ prefix new item t within looks. here.lookaheads prefix (new_back prefix new) item t within looks;
          no_conflict = λ prefix new t conflict. here.no_conflict prefix (new_back prefix new) t conflict;
        }

-- an extension that is certified in other words is certified
pub certified_by : (g : GrammarView) (extensible : List ℕ) (x : Piece) (up : Renaming) (phi : ℕ → ℕ) → ArePieces g extensible (x ∷ []) →
    IsReduced g → IsCertifiedBy g extensible x up phi → IsCertifiedPiece g extensible x
certified_by g extensible x up phi ok host_reduced is = record {
  fit = is.fit;
  composable = record {
    no_conflict = is.no_conflict;
    keeps_lookaheads = (same_kernels g extensible x ok host_reduced is.fit.reduced).lookaheads keeps;
    stays_in_envelope = subst (StaysInEnvelope (with_holes_of g extensible) (with_holes_of x.grammar extensible) (up_of g x.grammar)) phis
        (stays_other (with_holes_of g extensible) (with_holes_of x.grammar extensible) up (up_of g x.grammar) terminals productions phi
        is.envelope);
  };
}
  where
    terminals : up.terminal ≡ (up_of g x.grammar).terminal
    terminals = λ z t. (is.terminal_is t) z

    productions : up.production ≡ (up_of g x.grammar).production
    productions = λ z p. (is.production_is p) z

    phis : phi ≡ phi_of extensible x
    phis = λ z t. (is.phi_is t) z

    keeps : KeepsKernelLookaheads (with_holes_of g extensible) (with_holes_of x.grammar extensible) (up_of g x.grammar)
        (phi_of extensible x)
    keeps = subst (KeepsKernelLookaheads (with_holes_of g extensible) (with_holes_of x.grammar extensible) (up_of g x.grammar)) phis
        (keeps_other (with_holes_of g extensible) (with_holes_of x.grammar extensible) up (up_of g x.grammar) terminals productions phi
        is.lookaheads)
