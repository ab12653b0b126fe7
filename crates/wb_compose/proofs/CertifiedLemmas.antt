-- A certified extension is certified as a piece of a union, and all together are what unions ask for.
use Rattle.std.proofs.Common.{◌≡◌, ◌<◌, ◌∷◌, inl, inr, [], List, sym, subst, ◌∙◌}
use Rattle.std.specs.Prelude.{All}
use Rattle.std.proofs.lemmas.List.Elements.{All-nil, All-cons, All-head, All-tail}
use Rattle.std.proofs.lemmas.Option.{same_Some}
use Rattle.wb_lemmas.proofs.Elements.{all_from_contained}
use Rattle.wb_base.specs.Grammar.{GrammarView}
use Rattle.wb_certify.specs.DeterministicHosts.{IsDeterministicHost}
use Rattle.wb_certify.specs.DeterministicExtensions.{IsDeterministicExtension, both_numbers}
use Rattle.wb_certify.specs.DeterminismImages.{stands_for}
use Rattle.wb_certify.specs.DeterminismNumbers.{up_by}
use Rattle.wb_grammar_theory.specs.Lookaheads.{HasNoConflict}
use Rattle.wb_marking_holes.specs.Holes.{with_holes_of}
use Rattle.wb_operations.specs.Operations.{OperationSignature}
use Rattle.wb_syntax_resolved.specs.declared.resolved.ResolvedParts.{ResolvedParts}
use Rattle.wb_compose_theory.specs.Numbered.{IsFit, KeepsKernelLookaheads, StaysInEnvelope}
use Rattle.wb_compose_theory.specs.Renamings.{Renaming}
use Rattle.wb_compose_theory_grammar.specs.Certificates.{AreCertified, IsCertifiedBy, IsCertifiedPiece}
use Rattle.wb_compose_theory_grammar.specs.Laws.{HasTogether, IsUnited, KeepsHost}
use Rattle.wb_compose_theory_grammar.specs.Pieces.{IsPiece, Piece}
use Rattle.wb_compose_theory_grammar.proofs.TogetherLemmas.{has_together}
use Rattle.wb_compose_theory_grammar.proofs.CertificateLemmas.{certified_by}
use Rattle.wb_compose_theory_grammar.proofs.UnitedLemmas.{is_united, keeps_host}
use Rattle.wb_certify.specs.Kept.{AreCertifiedBoth}
use Rattle.wb_certify.specs.Pieces.{piece_in}
use Rattle.wb_compose.specs.Joined.{AreCertifiedApart, Extended, pieces_in}
use Rattle.wb_compose.proofs.BridgedLemmas.{certified_is_bridged}
use Rattle.wb_compose.proofs.ImageLemmas.{bridge_listed}
use Rattle.wb_certify.proofs.InRange.{grammar_of, in_range}
use Rattle.wb_compose.proofs.JoinedLemmas.{deterministic, extensible_is, host_deterministic, is_piece, pieces_are}
use Rattle.wb_certify.proofs.NumberLemmas.{images_agree, productions_agree, terminals_agree}

module _ (host r : ResolvedParts) (h g : GrammarView) (operations : List OperationSignature)
    (both : AreCertifiedBoth host r h g operations) where
  extension : IsDeterministicExtension r g (with_holes_of h host.extensible)
  extension = (deterministic host r h g operations both).deterministic

  same : r.extensible ≡ host.extensible
  same = extensible_is host r h g operations both

  abbrev up : Renaming
  up = up_by (both_numbers r g (with_holes_of h host.extensible))

  -- it is certified in the words of its test
  certified_in_words : IsCertifiedBy h host.extensible (piece_in r g) up (stands_for r g)
  certified_in_words = record {
    terminal_is = terminals_agree host r h g same;
    production_is = productions_agree host r h g same;
    phi_is = images_agree host r h g same (bridge_listed host r h g operations (certified_is_bridged host r h g operations both));
    fit = subst (λ xs. IsFit g (with_holes_of g xs)) same fit_there;
    no_conflict = subst (λ xs. HasNoConflict (with_holes_of g xs)) same extension.both.no_conflict;
    lookaheads = subst (λ xs. KeepsKernelLookaheads (with_holes_of h host.extensible) (with_holes_of g xs) up (stands_for r g)) same
        extension.lookaheads;
    envelope = subst (λ xs. StaysInEnvelope (with_holes_of h host.extensible) (with_holes_of g xs) up (stands_for r g)) same
        extension.envelope.stays;
  }
    where
      fit_there : IsFit g (with_holes_of g r.extensible)
      fit_there = record {
        reduced = extension.both.fit.sound.reduced;
        no_unit_cycle = extension.both.fit.no_unit_cycle;
        no_hidden_left_recursion = extension.both.fit.no_hidden_left_recursion;
      }

  -- and so in those of unions
  pub certified_piece : IsCertifiedPiece h host.extensible (piece_in r g)
  certified_piece =
      certified_by h host.extensible (piece_in r g) up (stands_for r g) (pieces_are host r h g operations both)
      (host_deterministic host r h g operations both).fit.sound.reduced certified_in_words

module _ (host : ResolvedParts) (h : GrammarView) (operations : List OperationSignature) where
  abbrev Each : Extended → Type 0
  Each e = AreCertifiedBoth host e.resolved h e.grammar operations

  -- what holds of each extension holds of all
  all_pieces : (P : Piece → Type 0) → ((e : Extended) → Each e → P (piece_in e.resolved e.grammar)) → (extensions : List Extended)
      → All Each extensions → All P (pieces_in extensions)
  all_pieces P gives [] all = All-nil P
  all_pieces P gives (e ∷ rest) all =
      All-cons P (piece_in e.resolved e.grammar) (pieces_in rest) (gives e (All-head Each e rest all))
      (all_pieces P gives rest (All-tail Each e rest all))

  module _ (extensions : List Extended) (apart : AreCertifiedApart host h operations extensions) where
    pub host_is : IsDeterministicHost host h
    host_is =
        subst (IsDeterministicHost host)
        (same_Some apart.host_certified.grammar h (sym apart.host_certified.start ∙ apart.host_start)) apart.host_certified.deterministic

    -- all together
    pub certified_apart : AreCertified h host.extensible (pieces_in extensions)
    certified_apart = record {
      are_pieces = record {
        is_grammar = in_range host h apart.host_resolved apart.host_start;
        within = all_from_contained (λ a. a < h.nonterminals) host.extensible (λ a has.
            ((grammar_of host h apart.host_resolved apart.host_start).nonterminals a).1 (inr (inl has)));
        differ = apart.host_resolved.once.extensible;
        each = all_pieces (IsPiece h host.extensible)
            (λ e is. is_piece host e.resolved h e.grammar operations is) extensions apart.each;
      };
      host_certified = record {
        fit = record {
          reduced = host_is.fit.sound.reduced;
          no_unit_cycle = host_is.fit.no_unit_cycle;
          no_hidden_left_recursion = host_is.fit.no_hidden_left_recursion;
        };
        no_conflict = host_is.no_conflict;
      };
      each_certified = all_pieces (IsCertifiedPiece h host.extensible)
          (λ e is. certified_piece host e.resolved h e.grammar operations is) extensions apart.each;
    }

    pub united_apart : IsUnited h host.extensible (pieces_in extensions)
    united_apart = is_united h host.extensible (pieces_in extensions) certified_apart

    pub host_apart : KeepsHost h host.extensible (pieces_in extensions)
    host_apart = keeps_host h host.extensible (pieces_in extensions) certified_apart

    pub together_apart : HasTogether h host.extensible (pieces_in extensions)
    together_apart = has_together h host.extensible (pieces_in extensions) certified_apart
