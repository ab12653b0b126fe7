-- An extension that keeps the rules on bridges is a piece of a union, and the host's numbers and kernels stay with it.
use Rattle.std.proofs.Common.{◌≡◌, ◌∷◌, [], List, sym, subst, ◌∙◌}
use Rattle.std.proofs.lemmas.Option.{same_Some}
use Rattle.wb_base.specs.Grammar.{GrammarView}
use Rattle.wb_certify.specs.Kept.{AreCertifiedBoth}
use Rattle.wb_certify.specs.Refusals.{IsNotDeterministic, IsReason}
use Rattle.wb_certify.specs.DeterministicHosts.{IsDeterministicHost}
use Rattle.wb_certify.specs.determinism_refusal.DeterminismRefusal.{DeterminismRefusal}
use Rattle.wb_certify.specs.determinism_refusal.DeterminismRefusal.TheVariants as d
use Rattle.wb_grammar_theory.specs.Shape.{IsReduced}
use Rattle.wb_marking.specs.Bridges.{AreBridges}
use Rattle.wb_marking_holes.specs.Holes.{with_holes_of}
use Rattle.wb_operations.specs.Operations.{OperationSignature}
use Rattle.wb_syntax_resolved.specs.declared.resolved.ResolvedParts.{ResolvedParts}
use Rattle.wb_compose_theory_grammar.specs.Bridges.{AreMarkers}
use Rattle.wb_compose_theory_grammar.specs.Laws.{HasSameKernels}
use Rattle.wb_compose_theory_grammar.specs.Pieces.{ArePieces, IsPiece}
use Rattle.wb_compose_theory_grammar.proofs.UnitedLemmas.{same_kernels}
use Rattle.wb_compose.specs.Bridged.{AreBridged, AreResolvedBoth, IsRuleRefusal}
use Rattle.wb_certify.specs.Pieces.{IsExtendedBy, is_marker_in, piece_in}
use Rattle.wb_certify.proofs.PieceLemmas as piece
use Rattle.wb_certify.specs.KeptNumbers.{KeepsNumbers}
use Rattle.wb_certify.proofs.OwnLemmas.{keeps_numbers}

module _ (host r : ResolvedParts) (h g : GrammarView) (operations : List OperationSignature) where
  -- a certified extension keeps them
  pub certified_is_bridged : AreCertifiedBoth host r h g operations → AreBridged host r h g operations
  certified_is_bridged both =
      let same = same_Some both.certified.grammar g (sym both.certified.start ∙ both.start) in
      record {
        both = record {
          host_resolved = both.host_resolved;
          resolved = both.resolved;
          host_start = both.host_start;
          start = both.start;
          host_certified = both.host_certified;
          extends = both.extends;
        };
        bridges = subst (AreBridges r) same both.certified.deterministic.markers.bridges;
        reduced = subst IsReduced same both.certified.deterministic.deterministic.both.fit.sound.reduced;
      }

  -- so does one that is refused for what it adds beside its host
  pub refused_is_bridged : (refusal : DeterminismRefusal) → AreResolvedBoth host r h g operations → IsRuleRefusal refusal →
      IsNotDeterministic host r operations refusal → AreBridged host r h g operations
  refused_is_bridged refusal both beside is =
      let same = same_Some is.grammar g (sym is.start ∙ both.start) in
      let kept = reasons refusal beside is.reason in
      record { both = both; bridges = subst (AreBridges r) same kept.0; reduced = subst IsReduced same kept.1 }
    where
      reasons : (x : DeterminismRefusal) → IsRuleRefusal x → IsReason r is.grammar (with_holes_of is.host_grammar host.extensible) x →
          AreBridges r is.grammar × IsReduced is.grammar
      reasons (d.Lookahead prefix item t) beside reason = (reason.0.bridges, reason.1.0.fit.sound.reduced)
      reasons (d.Envelope prefix fault) beside reason = (reason.0.bridges, reason.1.0.fit.sound.reduced)
      reasons (d.Markers x) beside reason = absurd beside
      reasons (d.PreferenceCycle x) beside reason = absurd beside
      reasons (d.NotReduced x) beside reason = absurd beside
      reasons (d.UnitCycle x) beside reason = absurd beside
      reasons (d.HiddenLeftRecursion x) beside reason = absurd beside
      reasons (d.Conflict prefix t first second) beside reason = absurd beside
      reasons (d.Clash prefix left right text) beside reason = absurd beside
      reasons (d.NoMemory error) beside reason = absurd beside

  module _ (bridged : AreBridged host r h g operations) where
    -- the host's grammar is that of its certificate
    pub host_is_deterministic : IsDeterministicHost host h
    host_is_deterministic =
        let certified = bridged.both.host_certified in
        subst (IsDeterministicHost host) (same_Some certified.grammar h (sym certified.start ∙ bridged.both.host_start))
        certified.deterministic

    -- it extends the host, in numbers
    pub extended : IsExtendedBy host r h g
    extended = record {
      host_resolved = bridged.both.host_resolved;
      resolved = bridged.both.resolved;
      host_start = bridged.both.host_start;
      start = bridged.both.start;
      alone = bridged.both.host_certified.alone;
      spec = bridged.both.extends.spec;
      names = bridged.both.extends.names;
      bridges = bridged.bridges;
    }

    pub same_extensible : r.extensible ≡ host.extensible
    same_extensible = piece.same_extensible host r h g extended

    pub bridged_markers : AreMarkers h host.extensible g (is_marker_in r)
    bridged_markers = piece.markers host r h g extended

    pub bridged_piece : IsPiece h host.extensible (piece_in r g)
    bridged_piece = piece.piece host r h g extended

    pub bridged_pieces : ArePieces h host.extensible (piece_in r g ∷ [])
    bridged_pieces = piece.pieces_are host r h g extended

    -- kernels of the host are kernels with it
    pub bridged_kernels : HasSameKernels h host.extensible (piece_in r g)
    bridged_kernels =
        same_kernels h host.extensible (piece_in r g) bridged_pieces host_is_deterministic.fit.sound.reduced bridged.reduced

    -- the host's grammar keeps its numbers, and what is added is the extension's
    pub bridged_numbers : KeepsNumbers host r h g
    bridged_numbers =
        keeps_numbers host r bridged.both.extends.spec bridged.both.extends.names bridged.both.host_resolved bridged.both.resolved h g
        bridged.both.host_start bridged.both.start bridged.both.host_certified.alone bridged.bridges bridged.reduced
