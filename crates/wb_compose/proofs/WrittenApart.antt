-- Certified extensions are written apart, as the laws on forms ask.
use Rattle.std.proofs.Common.{◌≡◌, ◌+◌, ◌-◌, [], ◌∷◌, ℕ, List, ap, arith, length, map, refl, subst, sym}
use Rattle.std.specs.Prelude.{All}
use Rattle.std.proofs.lemmas.List.Elements.{All-cons, All-head, All-nil, All-tail}
use Rattle.wb_base.specs.Different.{Differ}
use Rattle.wb_base.specs.Grammar.{GrammarView}
use Rattle.wb_determinism_contexts.specs.Considered.{HasNoClashAt}
use Rattle.wb_certify.specs.DeterministicHosts.{IsDeterministicHost}
use Rattle.wb_certify.specs.Lexicons.{lexicon_beside, lexicon_of}
use Rattle.wb_certify.specs.EnvelopeClash.{HasNoEnvelopeClash}
use Rattle.wb_certify.specs.DeterministicExtensions.{both_numbers}
use Rattle.wb_marking_holes.specs.Holes.{with_holes_of}
use Rattle.wb_operations.specs.Operations.{OperationSignature}
use Rattle.wb_syntax_resolved.specs.declared.resolved.ResolvedParts.{ResolvedParts}
use Rattle.wb_compose_theory_grammar.specs.Certificates.{AreCertified}
use Rattle.wb_compose_theory_language.specs.Apart.{AreWrittenApart, IsPieceApart, IsWrittenApart}
use Rattle.wb_compose_theory_language.specs.Written.{WrittenPiece, pieces_of}
use Rattle.wb_certify.specs.Kept.{AreCertifiedBoth}
use Rattle.wb_compose.specs.Joined.{AreCertifiedApart, Extended, pieces_in}
use Rattle.wb_compose.specs.Written.{name_in, written_in, written_with}
use Rattle.wb_compose.proofs.ApartLemmas.{host_part, piece_apart}
use Rattle.wb_compose.proofs.CertifiedLemmas.{certified_apart, host_is}
use Rattle.wb_compose.proofs.JoinedLemmas.{deterministic, extensible_is}
use Rattle.wb_certify.proofs.NumberLemmas.{productions_agree, productions_own}
use Rattle.wb_compose.proofs.WrittenLemmas.{has_rows}

-- one extension
module _ (host r : ResolvedParts) (h g : GrammarView) (operations : List OperationSignature)
    (both : AreCertifiedBoth host r h g operations) where
  piece_written : IsPieceApart h host.extensible (lexicon_of host h) (written_with h r g)
  piece_written =
      let d = deterministic host r h g operations both in
      let same = extensible_is host r h g operations both in
      let counted = ap (λ (xs : List ℕ). length xs) same in
      let scanned : (h.terminals + length host.extensible) - length r.extensible ≡ h.terminals = omega (arith, counted) in
      let first = productions_own host r h g same in
      piece_apart host r both.extends.spec both.extends.names both.host_resolved both.resolved h g both.host_start both.start
      both.host_certified.alone (both_numbers r g (with_holes_of h host.extensible)) same (productions_agree host r h g same)
      d.deterministic.both.fit.sound.acyclic
      (subst (λ n. HasNoClashAt (with_holes_of g r.extensible) (lexicon_beside r g n)) first d.deterministic.both.no_clash)
      (subst (λ n. HasNoEnvelopeClash (with_holes_of h host.extensible) (with_holes_of g r.extensible)
      (both_numbers r g (with_holes_of h host.extensible)) (host_part r g n)) scanned
      d.deterministic.envelope.clear) d.markers.clashes

module _ (host : ResolvedParts) (h : GrammarView) (operations : List OperationSignature) where
  abbrev Both : Extended → Type 0
  Both e = AreCertifiedBoth host e.resolved h e.grammar operations

  all_written : (extensions : List Extended) → All Both extensions →
      All (IsPieceApart h host.extensible (lexicon_of host h)) (written_in h extensions)
  all_written [] all = All-nil (IsPieceApart h host.extensible (lexicon_of host h))
  all_written (e ∷ rest) all =
      All-cons (IsPieceApart h host.extensible (lexicon_of host h)) (written_with h e.resolved e.grammar) (written_in h rest)
      (piece_written host e.resolved h e.grammar operations (All-head Both e rest all))
      (all_written rest (All-tail Both e rest all))

  -- the names, and the grammars with their markers
  names_are : (extensions : List Extended) →
      map (λ (x : WrittenPiece). x.name) (written_in h extensions) ≡ map (λ (e : Extended). name_in e.resolved) extensions
  names_are [] = refl
  names_are (e ∷ rest) = ap (λ z. name_in e.resolved ∷ z) (names_are rest)

  pieces_are : (extensions : List Extended) → pieces_of (written_in h extensions) ≡ pieces_in extensions
  pieces_are [] = refl
  pieces_are (e ∷ rest) = ap (λ z. (written_with h e.resolved e.grammar).piece ∷ z) (pieces_are rest)

  module _ (extensions : List Extended) (apart : AreCertifiedApart host h operations extensions) where
    host_written : IsWrittenApart h host.extensible (lexicon_of host h)
    host_written =
        let d : IsDeterministicHost host h = host_is host h operations extensions apart in
        record {
          clear = record { rows = has_rows host h apart.host_resolved apart.host_start; acyclic = d.fit.sound.acyclic };
          no_clash = d.no_clash;
        }

    pub all_apart : Differ (map (λ (e : Extended). name_in e.resolved) extensions) →
        AreWrittenApart h host.extensible (lexicon_of host h) (written_in h extensions)
    all_apart differ = record {
      of_host = host_written;
      of_extensions = all_written extensions apart.each;
      names = subst Differ (sym (names_are extensions)) differ;
    }

    pub all_certified : AreCertified h host.extensible (pieces_of (written_in h extensions))
    all_certified = subst (AreCertified h host.extensible) (sym (pieces_are extensions))
        (certified_apart host h operations extensions apart)
