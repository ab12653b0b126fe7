-- Refusals of an extension by rules of markers, grammars and scanners have one code.
use Rattle.std.proofs.Common.{◌≡◌, ◌-◌, ℕ, List, Option, Some, None, ap, inl, inr, length, refl, subst, sym}
use lib.Chars.{codes}
use Rattle.wb_base.specs.declared.symbol.Symbol.{Symbol}
use Rattle.wb_base.specs.Grammar.{GrammarView}
use Rattle.wb_certify_files.specs.Extensions.{AreMarkersKept, IsDeterministicBeside}
use Rattle.wb_certify_files.specs.BesideRefusals.{AreMarkersRefused, IsReason}
use Rattle.wb_certify_files.specs.ShownExtensions.{determinism_shown, marker_reason, of_extension}
use Rattle.wb_compose_theory.specs.Numbered.{KeepsKernelLookaheads}
use Rattle.wb_determinism.specs.Extensions.{IsDeterministicExtension, both_lexicon, both_numbers, extended_grammar}
use Rattle.wb_determinism.specs.Images.{stands_for}
use Rattle.wb_determinism.specs.Numbers.{up_by}
use Rattle.wb_determinism.specs.Refusals.{IsEnvelopeFault, IsExtensionRefusal}
use Rattle.wb_determinism_host.specs.declared.refusal.DeterminismRefusal.{DeterminismRefusal}
use Rattle.wb_determinism_host.specs.declared.refusal.DeterminismRefusal.TheVariants as d
use Rattle.wb_determinism_host.specs.declared.refusal.EnvelopeFault.{EnvelopeFault}
use Rattle.wb_determinism_host.specs.declared.refusal.EnvelopeFault.TheVariants as f
use Rattle.wb_determinism_host.specs.Hosts.{AreAcyclic, IsDeterministicBy}
use Rattle.wb_determinism_host.specs.Lexicons.{lexicon_beside}
use Rattle.wb_determinism_contexts.specs.Considered.{LexiconView}
use Rattle.wb_determinism_host.specs.Refusals.{IsNoMemory, IsRefusalBy}
use Rattle.wb_grammar_theory.specs.declared.item.Item.{Item}
use Rattle.wb_grammar_theory.specs.Lookaheads.{IsLookahead}
use Rattle.wb_marking.specs.Bridges.{AreBridges, AreExtensible, BeginWithMarkers, EachBeginsOne}
use Rattle.wb_marking.specs.Clashes.{HasNoMarkerClash}
use Rattle.wb_marking.specs.declared.refusal.MarkRefusal.{MarkRefusal}
use Rattle.wb_marking.specs.declared.refusal.MarkRefusal.TheVariants as m
use Rattle.wb_marking_holes.specs.Holes.{with_holes_of}
use Rattle.wb_report.specs.declared.refusal.Refusal.{Refusal}
use Rattle.wb_syntax_resolved.specs.declared.resolved.ResolvedParts.{ResolvedParts}
use Rattle.wb_program_theory.proofs.AttributeCodes.{Coded, coded, none_some}
use Rattle.wb_program_theory.proofs.ChainLemmas.{First, HasOne, first_one}
use Rattle.wb_program_theory.proofs.GrammarCodes.{GrammarRules, OfGrammar, after_grammar, grammar_coded, grammar_one, of_one}

-- an extension that is refused isn't deterministic
abbrev pub RefusalsExclude : Type 0
RefusalsExclude = (r : ResolvedParts) (g host : GrammarView) (refusal : DeterminismRefusal) → IsExtensionRefusal r g host refusal
    → IsDeterministicExtension r g host → IsNoMemory refusal

module _ (host r : ResolvedParts) (Later : List ℕ → Type 0) where
  -- the grammars, that of the host with holes, meet this
  abbrev Beside : (GrammarView → GrammarView → Type 0) → Type 0
  Beside P = OfGrammar r.grammar (λ g. OfGrammar host.grammar (λ k. P g (with_holes_of k host.extensible)))

  -- at kernels of the host lookaheads are the host's; at new ones of its items nothing goes beyond the envelope
  abbrev KeepsLookaheads : GrammarView → GrammarView → Type 0
  KeepsLookaheads g k = KeepsKernelLookaheads k (extended_grammar r g k) (up_by (both_numbers r g k)) (stands_for r g)

  abbrev StaysInEnvelope : GrammarView → GrammarView → Type 0
  StaysInEnvelope g k = (prefix : List Symbol) (fault : EnvelopeFault) → ¬ IsEnvelopeFault r g k prefix fault

  -- the rules of lookaheads, and then the later ones; with those of grammars before them; and with those of markers before all
  abbrev Envelope : List ℕ → Type 0
  Envelope = First (Beside KeepsLookaheads) (codes "E5") (First (Beside StaysInEnvelope) (codes "E6") Later)

  -- where the extension's productions begin, and what is scanned of the host with the extension
  abbrev first_in : Option GrammarView → ℕ
  first_in None = 0
  first_in (Some k) = length (with_holes_of k host.extensible).productions - length r.extensible

  abbrev scanned : GrammarView → LexiconView
  scanned g = lexicon_beside r g (first_in host.grammar)

  abbrev Grammars : List ℕ → Type 0
  Grammars = GrammarRules r r.grammar scanned Envelope

  abbrev Clashes : List ℕ → Type 0
  Clashes = First (HasNoMarkerClash r) (codes "E4") Grammars

  abbrev Preferences : List ℕ → Type 0
  Preferences = First (AreAcyclic r) (codes "G6") Clashes

  abbrev Onward : List ℕ → Type 0
  Onward = First (OfGrammar r.grammar (AreExtensible r)) (codes "E3") Preferences

  abbrev Placed : List ℕ → Type 0
  Placed = First (OfGrammar r.grammar (EachBeginsOne r)) (codes "E2") Onward

  abbrev pub MarkerRules : List ℕ → Type 0
  MarkerRules = First (OfGrammar r.grammar (BeginWithMarkers r)) (codes "E1") Placed

  pub markers_one : HasOne Later → HasOne MarkerRules
  markers_one one =
      first_one (OfGrammar r.grammar (BeginWithMarkers r)) (codes "E1") Placed
      (first_one (OfGrammar r.grammar (EachBeginsOne r)) (codes "E2") Onward
      (first_one (OfGrammar r.grammar (AreExtensible r)) (codes "E3") Preferences
      (first_one (AreAcyclic r) (codes "G6") Clashes (first_one (HasNoMarkerClash r) (codes "E4") Grammars
      (grammar_one r r.grammar scanned Envelope
      (first_one (Beside KeepsLookaheads) (codes "E5") (First (Beside StaysInEnvelope) (codes "E6") Later)
      (first_one (Beside StaysInEnvelope) (codes "E6") Later one)))))))

  module _ (g k : GrammarView) (start : r.grammar ≡ Some g) (host_start : host.grammar ≡ Some k) where
    abbrev K : GrammarView
    K = with_holes_of k host.extensible

    -- what holds of these grammars
    of_both : (P : GrammarView → GrammarView → Type 0) → P g K → Beside P
    of_both P holds =
        of_one r.grammar (λ x. OfGrammar host.grammar (λ y. P x (with_holes_of y host.extensible))) g start
        (of_one host.grammar (λ y. P g (with_holes_of y host.extensible)) k host_start holds)

    after_bridges : AreBridges r g → (x : List ℕ) → Preferences x → MarkerRules x
    after_bridges is x later =
        inr (
          of_one r.grammar (BeginWithMarkers r) g start is.begin,
          inr (
            of_one r.grammar (EachBeginsOne r) g start is.once,
            inr (of_one r.grammar (AreExtensible r) g start is.extensible, later),
          ),
        )

    after_markers : AreMarkersKept r g → AreAcyclic r → (x : List ℕ) → Grammars x → MarkerRules x
    after_markers kept acyclic x later = after_bridges kept.bridges x (inr (acyclic, inr (kept.clashes, later)))

    scanned_is : both_lexicon r g K ≡ scanned g
    scanned_is = ap (λ o. lexicon_beside r g (first_in o)) (sym host_start)

    after_host : AreMarkersKept r g → IsDeterministicBy r g (both_lexicon r g K) → (x : List ℕ) → Envelope x → MarkerRules x
    after_host kept is x later =
        after_markers kept is.fit.sound.acyclic x (after_grammar r r.grammar scanned Envelope g start
        (subst (IsDeterministicBy r g) scanned_is is) x later)

    -- an extension that is deterministic beside its host keeps all
    pub after_beside : RefusalsExclude → IsDeterministicBeside host r k g → (x : List ℕ) → Later x → MarkerRules x
    after_beside excludes is x later =
        after_host is.markers is.deterministic.both x (inr (
          of_both KeepsLookaheads is.deterministic.lookaheads,
          inr (
            of_both StaysInEnvelope (λ prefix fault fails. excludes r g K (d.Envelope prefix fault)
                (is.deterministic.both, is.deterministic.lookaheads, fails) is.deterministic),
            later,
          ),
        ))

    -- a refusal for markers is of the first rule that fails
    marks_coded : (refusal : MarkRefusal) → AreMarkersRefused r g refusal → (shown : Refusal)
        → of_extension (marker_reason r refusal) ≡ Some shown → Coded MarkerRules shown
    marks_coded (m.NotBridge p) (inl fails) shown is =
        coded MarkerRules _ shown is (inl ((λ begin. fails.lacks (begin g start p fails.on_host)), refl), (λ no. no))
    marks_coded (m.NotBridge p) (inr (bridges, acyclic, fails)) shown is = absurd fails
    marks_coded (m.MarkerElsewhere marker) (inl fails) shown is =
        coded MarkerRules _ shown is (
          inr (
            of_one r.grammar (BeginWithMarkers r) g start fails.begin,
            inl ((λ once. fails.lacks (once g start marker fails.is_marker)), refl),
          ),
          (λ no. no),
        )
    marks_coded (m.MarkerElsewhere marker) (inr (bridges, acyclic, fails)) shown is = absurd fails
    marks_coded (m.NotExtensible p) (inl fails) shown is =
        coded MarkerRules _ shown is (
          inr (
            of_one r.grammar (BeginWithMarkers r) g start fails.begin,
            inr (
              of_one r.grammar (EachBeginsOne r) g start fails.once,
              inl ((λ all. fails.closed.closed (all g start p fails.closed.marked)), refl),
            ),
          ),
          (λ no. no),
        )
    marks_coded (m.NotExtensible p) (inr (bridges, acyclic, fails)) shown is = absurd fails
    marks_coded (m.MarkerClash marker other text) (inl fails) shown is = absurd fails
    marks_coded (m.MarkerClash marker other text) (inr (bridges, acyclic, fails)) shown is =
        coded MarkerRules _ shown is (
          after_bridges bridges (codes "E4")
              (inr (acyclic, inl ((λ none. none marker other text fails.clash), refl))),
          (λ no. no),
        )
    marks_coded (m.NoMemory e) fails shown is = absurd (none_some is)

    -- what goes beyond the envelope is shown by one of three reasons
    envelope_coded : (prefix : List Symbol) (fault : EnvelopeFault) (shown : Refusal)
        → determinism_shown r (d.Envelope prefix fault) ≡ Some shown → MarkerRules (codes "E6") → Coded MarkerRules shown
    envelope_coded prefix (f.Lookahead item t) shown is holds = coded MarkerRules _ shown is (holds, (λ no. no))
    envelope_coded prefix (f.Conflict t a b) shown is holds = coded MarkerRules _ shown is (holds, (λ no. no))
    envelope_coded prefix (f.Clash a b text) shown is holds = coded MarkerRules _ shown is (holds, (λ no. no))

    -- a reason why an extension isn't deterministic is that of the first rule that fails
    pub beside_coded : (refusal : DeterminismRefusal) → IsReason r g K refusal → ¬ IsNoMemory refusal → (shown : Refusal)
        → determinism_shown r refusal ≡ Some shown → Coded MarkerRules shown
    beside_coded (d.Markers refusal) fails other shown is = marks_coded refusal fails.0 shown is
    beside_coded (d.PreferenceCycle cycle) fails other shown is =
        coded MarkerRules _ shown is (
          after_bridges fails.0 (codes "G6") (inl ((λ acyclic. acyclic cycle fails.1.cycle_is), refl)),
          (λ no. no),
        )
    beside_coded (d.NotReduced reason) fails other shown is =
        grammar_coded r r.grammar scanned Envelope g start MarkerRules (after_markers fails.0)
        (λ cycle has. after_bridges fails.0.bridges (codes "G6") (inl ((λ acyclic. acyclic cycle has.cycle_is), refl)))
        (d.NotReduced reason) fails.1 other shown is
    beside_coded (d.UnitCycle list) fails other shown is =
        grammar_coded r r.grammar scanned Envelope g start MarkerRules (after_markers fails.0)
        (λ cycle has. after_bridges fails.0.bridges (codes "G6") (inl ((λ acyclic. acyclic cycle has.cycle_is), refl)))
        (d.UnitCycle list) fails.1 other shown is
    beside_coded (d.HiddenLeftRecursion list) fails other shown is =
        grammar_coded r r.grammar scanned Envelope g start MarkerRules (after_markers fails.0)
        (λ cycle has. after_bridges fails.0.bridges (codes "G6") (inl ((λ acyclic. acyclic cycle has.cycle_is), refl)))
        (d.HiddenLeftRecursion list) fails.1 other shown is
    beside_coded (d.Conflict prefix t a b) fails other shown is =
        grammar_coded r r.grammar scanned Envelope g start MarkerRules (after_markers fails.0)
        (λ cycle has. after_bridges fails.0.bridges (codes "G6") (inl ((λ acyclic. acyclic cycle has.cycle_is), refl)))
        (d.Conflict prefix t a b) fails.1 other shown is
    beside_coded (d.Clash prefix a b text) fails other shown is =
        grammar_coded r r.grammar scanned Envelope g start MarkerRules (after_markers fails.0)
        (λ cycle has. after_bridges fails.0.bridges (codes "G6") (inl ((λ acyclic. acyclic cycle has.cycle_is), refl)))
        (d.Clash prefix a b text)
        (subst (λ z. IsRefusalBy r g z (d.Clash prefix a b text)) scanned_is fails.1) other shown is
    beside_coded (d.Lookahead prefix item t) fails other shown is =
        let x = fails.1.1 in
        coded MarkerRules _ shown is (
          after_host fails.0 fails.1.0 (codes "E5") (inl (
            (λ keeps.
                let (u, image, there) = keeps g start k host_start prefix x.host x.own t x.kernel x.has
                (subst (λ (i : Item). IsLookahead (extended_grammar r g K) prefix i t) x.is x.lookahead) in
                x.beyond u image there),
            refl,
          )),
          (λ no. no),
        )
    beside_coded (d.Envelope prefix fault) fails other shown is =
        envelope_coded prefix fault shown is (after_host fails.0 fails.1.0 (codes "E6") (inr (
          of_both KeepsLookaheads fails.1.1,
          inl ((λ stays. stays g start k host_start prefix fault fails.1.2), refl),
        )))
    beside_coded (d.NoMemory e) fails other shown is = absurd (other tt)
