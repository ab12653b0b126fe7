-- A certified extension is a piece of a union.
use Rattle.std.proofs.Common.{◌≡◌, ◌∷◌, [], List, sym, subst, ◌∙◌}
use Rattle.std.proofs.lemmas.Option.{same_Some}
use Rattle.wb_base.specs.Grammar.{GrammarView}
use Rattle.wb_certify.specs.Extensions.{IsDeterministicBeside}
use Rattle.wb_certify.specs.Kept.{AreCertifiedBoth}
use Rattle.wb_certify.specs.DeterministicHosts.{IsDeterministicHost}
use Rattle.wb_operations.specs.Operations.{OperationSignature}
use Rattle.wb_syntax_resolved.specs.declared.resolved.ResolvedParts.{ResolvedParts}
use Rattle.wb_compose_theory_grammar.specs.Bridges.{AreMarkers}
use Rattle.wb_compose_theory_grammar.specs.Pieces.{ArePieces, IsPiece}
use Rattle.wb_compose.specs.Bridged.{AreBridged}
use Rattle.wb_certify.specs.Pieces.{is_marker_in, piece_in}
use Rattle.wb_certify.specs.KeptNumbers.{KeepsNumbers}
use Rattle.wb_compose.proofs.BridgedLemmas.{bridged_markers, bridged_numbers, bridged_piece, bridged_pieces, certified_is_bridged}
use Rattle.wb_compose.proofs.BridgedLemmas.{host_is_deterministic, same_extensible}

module _ (host r : ResolvedParts) (h g : GrammarView) (operations : List OperationSignature)
    (both : AreCertifiedBoth host r h g operations) where
  bridged : AreBridged host r h g operations
  bridged = certified_is_bridged host r h g operations both

  -- the grammars are those of the certificates
  pub host_deterministic : IsDeterministicHost host h
  host_deterministic = host_is_deterministic host r h g operations bridged

  pub deterministic : IsDeterministicBeside host r h g
  deterministic =
      let first = same_Some both.certified.host_grammar h (sym both.certified.host_start ∙ both.host_start) in
      let second = same_Some both.certified.grammar g (sym both.certified.start ∙ both.start) in
      subst (λ k. IsDeterministicBeside host r k g) first
      (subst (λ k. IsDeterministicBeside host r both.certified.host_grammar k) second both.certified.deterministic)

  pub extensible_is : r.extensible ≡ host.extensible
  extensible_is = same_extensible host r h g operations bridged

  pub markers_are : AreMarkers h host.extensible g (is_marker_in r)
  markers_are = bridged_markers host r h g operations bridged

  pub is_piece : IsPiece h host.extensible (piece_in r g)
  is_piece = bridged_piece host r h g operations bridged

  pub pieces_are : ArePieces h host.extensible (piece_in r g ∷ [])
  pieces_are = bridged_pieces host r h g operations bridged

  pub numbers_kept : KeepsNumbers host r h g
  numbers_kept = bridged_numbers host r h g operations bridged
