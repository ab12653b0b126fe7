-- A certified extension beside its host is what new kernels and lookaheads ask for, in the numbers of both.
use Rattle.std.proofs.Common.{◌≡◌, ◌≤◌, ◌+◌, ◌-◌, ◌∙◌, ◌∷◌, [], ℕ, List, Option, Some, length, sym, ap, subst, refl, arith}
use Rattle.std.specs.Prelude.{IfSome}
use Rattle.std.proofs.lemmas.List.{length-append}
use Rattle.std.proofs.lemmas.Option.{same_Some}
use Rattle.wb_base.specs.Grammar.{GrammarView, IsGrammar, Production}
use Rattle.wb_certify.specs.Hosts.{CertifiedView, IsCertified, IsCertifiedValue}
use Rattle.wb_certify.specs.Kept.{AreCertifiedBoth, ExtensionView}
use Rattle.wb_certify.specs.Pieces.{IsExtendedBy, piece_in}
use Rattle.wb_compose.specs.Bridged.{AreBridged}
use Rattle.wb_compose.specs.Composed.{IsWith}
use Rattle.wb_compose.proofs.BridgedLemmas.{bridged_kernels, bridged_piece, certified_is_bridged, extended, host_is_deterministic}
use Rattle.wb_compose.proofs.BridgedLemmas.{same_extensible}
use Rattle.wb_compose_kernels.specs.Lent.{numbers_of}
use Rattle.wb_compose_theory.specs.NumberLaws.{HasHostKernels}
use Rattle.wb_compose_theory_grammar.specs.Numberings.{phi_of, up_of}
use Rattle.wb_compose_theory_grammar.specs.Pieces.{IsPiece}
use Rattle.wb_determinism.specs.Images.{stands_for, AreImages}
use Rattle.wb_determinism_beside.specs.Given.{IsPieceBeside, moved_beside, numbers_beside}
use Rattle.wb_determinism_beside.specs.Inner.Images.{AreImagesBy}
use Rattle.wb_determinism_beside.proofs.GivenLemmas.{both_rules, given_beside, own_rules, phi_is}
use Rattle.wb_determinism_beside.proofs.ImageLemmas.{images_in}
use Rattle.wb_determinism_host.specs.Hosts.{AreHostParts}
use Rattle.wb_determinism_kernels.specs.declared.numbers.Numbers.{Numbers}
use Rattle.wb_determinism_kernels.specs.Given.{IsGiven}
use Rattle.wb_determinism_kernels.specs.Numbers.{phi_by, up_by}
use Rattle.wb_determinism_lookaheads.specs.NewLookaheads.{AreHolesAlone}
use Rattle.wb_determinism_theory.specs.Beside.{IsBeside}
use Rattle.wb_grammar_theory.specs.Shape.{IsLive, IsReduced}
use Rattle.wb_grammar_theory.proofs.LiveLemmas.{reduced_live}
use Rattle.wb_items.specs.Kernels.{KernelsView}
use Rattle.wb_marking_holes.specs.Holes.{with_holes_of}
use Rattle.wb_marking_holes.proofs.LiftLemmas.{lifted_reduced}
use Rattle.wb_operations.specs.Operations.{OperationSignature}
use Rattle.wb_syntax_resolved.specs.declared.resolved.ResolvedParts.{ResolvedParts}
use Rattle.wb_tests_unions.specs.declared.found.Both.{Both}
use Rattle.wb_tests_unions.specs.declared.found.Own.{Own}
use Rattle.wb_tests_unions.specs.Inner.Found.{AreBoth, AreFor, FitsBeside, IsOwn, extensible_in, kernels_in}

-- an extension that was certified with the host, in the host's words
pub both_with : (host : CertifiedView) (e : ExtensionView) (h g : GrammarView) → IsWith host e → host.resolved.grammar ≡ Some h
    → e.resolved.grammar ≡ Some g
    → ((h g : GrammarView) → e.host.grammar ≡ Some h → e.resolved.grammar ≡ Some g → AreCertifiedBoth e.host e.resolved h g e.operations)
    → AreCertifiedBoth host.resolved e.resolved h g host.operations
both_with host e h g is start both_start gives =
    subst (λ (r : ResolvedParts). AreCertifiedBoth r e.resolved h g host.operations) is.host_is
    (subst (λ (operations : List OperationSignature). AreCertifiedBoth e.host e.resolved h g operations) is.operations_are
    (gives h g (ap (λ (r : ResolvedParts). r.grammar) is.host_is ∙ start) both_start))

-- the numbers of both are those that are tested
module _ (h g : GrammarView) (extensible : List ℕ) where
  terminals_more : g.terminals - h.terminals ≡ (g.terminals + length extensible) - (h.terminals + length extensible)
  terminals_more = omega arith

  terminals_own : h.terminals ≡ (h.terminals + length extensible) - length extensible
  terminals_own = omega arith

  productions_own : length h.productions ≡ length (with_holes_of h extensible).productions - length extensible
  productions_own = let a = own_rules h g extensible in omega (arith, a)

  productions_more : length g.productions - length h.productions
      ≡ length (with_holes_of g extensible).productions - length (with_holes_of h extensible).productions
  productions_more = let a = own_rules h g extensible in let b = both_rules h g extensible in omega (arith, a, b)

  pub tested_numbers : numbers_of h g ≡ moved_beside extensible h g
  tested_numbers = λ z. record {
    terminals = record { own = terminals_own z; more = terminals_more z };
    nonterminals = record { own = h.nonterminals; more = g.nonterminals - h.nonterminals };
    productions = record { own = productions_own z; more = productions_more z };
  }

module _ (x : Both) (is : AreBoth x) where
  abbrev host : CertifiedView
  host = x.own.now.host.now

  abbrev r : ResolvedParts
  r = x.resolved.now

  abbrev h : GrammarView
  h = x.own.now.grammar.now

  abbrev g : GrammarView
  g = x.grammar.now

  bridged : AreBridged host.resolved r h g host.operations
  bridged = certified_is_bridged host.resolved r h g host.operations is.both

  ext : IsExtendedBy host.resolved r h g
  ext = extended host.resolved r h g host.operations bridged

  pub same_in : r.extensible ≡ host.resolved.extensible
  same_in = same_extensible host.resolved r h g host.operations bridged

  piece : IsPiece h host.resolved.extensible (piece_in r g)
  piece = bridged_piece host.resolved r h g host.operations bridged

  -- there are no less of anything with the extension
  pub terminals_within : h.terminals ≤ g.terminals
  terminals_within = piece.extends.terminals

  pub nonterminals_within : h.nonterminals ≤ g.nonterminals
  nonterminals_within = piece.extends.nonterminals

  pub productions_within : length h.productions ≤ length g.productions
  productions_within =
      let rules = ap (λ (z : List Production). length z) piece.extends.productions.1
      ∙ length-append h.productions piece.extends.productions.0 in omega (arith, rules)

  host_reduced : IsReduced h
  host_reduced = (host_is_deterministic host.resolved r h g host.operations bridged).fit.sound.reduced

  parts : AreHostParts host.resolved h host.parts
  parts = is.own.certified.parts h is.own.start

  pub host_own : host.parts.kernels.grammar ≡ host.parts.grammar
  host_own = parts.of_grammar

  -- the grammar with holes is made of both
  pub made_is : (k : GrammarView) → IfSome r.grammar (λ (z : GrammarView). k ≡ with_holes_of z r.extensible) → k ≡ with_holes_of g r.extensible
  made_is k made = subst (λ o. IfSome o (λ (z : GrammarView). k ≡ with_holes_of z r.extensible)) is.both.start made

  -- and the images are those of its terminals
  pub are_for : (k : GrammarView) (m : Numbers) (images : List (Option ℕ)) (known : ResolvedParts) (count : ℕ)
      → IfSome r.grammar (λ (z : GrammarView). k ≡ with_holes_of z r.extensible) → m ≡ numbers_of h g → known ≡ r → count ≡ k.terminals + 1
      → AreImagesBy m.terminals.own m.terminals.more (stands_for known g) count images → AreFor x k m images
  are_for k m images known count made numbers same many there = record {
    holes_are = made_is k made;
    numbers_are = numbers;
    images_are = subst (λ (n : ℕ). AreImagesBy m.terminals.own m.terminals.more (stands_for r g) n images) many
        (subst (λ (z : ResolvedParts). AreImagesBy m.terminals.own m.terminals.more (stands_for z g) count images) same there);
  }

  -- the host's grammar with holes
  host_is : host.parts.kernels.grammar ≡ with_holes_of h r.extensible
  host_is = parts.of_grammar ∙ (parts.grammar ∙ ap (with_holes_of h) (sym same_in))

  module _ (k : GrammarView) (m : Numbers) (images : List (Option ℕ)) (are : AreFor x k m images) where
    moved_is : m ≡ moved_beside r.extensible h g
    moved_is = are.numbers_are ∙ tested_numbers h g r.extensible

    count_is : k.terminals + 1 ≡ g.terminals + length r.extensible + 1
    count_is = ap (λ (z : GrammarView). z.terminals + 1) are.holes_are

    images_there : AreImages (numbers_beside r.extensible h g) (stands_for r g) (g.terminals + length r.extensible + 1) images
    images_there =
        images_in (numbers_beside r.extensible h g) h.nonterminals (g.nonterminals - h.nonterminals)
        (g.terminals + length r.extensible + 1) m (stands_for r g) images moved_is
        (subst (λ (n : ℕ). AreImagesBy m.terminals.own m.terminals.more (stands_for r g) n images) count_is are.images_are)

    piece_is : IsPieceBeside (with_holes_of h r.extensible) (with_holes_of g r.extensible) (up_by (moved_beside r.extensible h g))
        (phi_by (moved_beside r.extensible h g) images)
    piece_is = given_beside host.resolved r h g ext images images_there host_reduced bridged.reduced

    -- what is said of both grammars, in the numbers that are tested
    about : (P : GrammarView → GrammarView → Numbers → Type 0)
        → P (with_holes_of h r.extensible) (with_holes_of g r.extensible) (moved_beside r.extensible h g)
        → P host.parts.kernels.grammar k m
    about P p =
        subst (P host.parts.kernels.grammar k) (sym moved_is)
        (subst (λ (z : GrammarView). P host.parts.kernels.grammar z (moved_beside r.extensible h g)) (sym are.holes_are)
        (subst (λ (z : GrammarView). P z (with_holes_of g r.extensible) (moved_beside r.extensible h g)) (sym host_is) p))

    live_is : IsGrammar k → IsLive k
    live_is ok = reduced_live k ok (subst IsReduced (sym are.holes_are) (lifted_reduced g r.extensible bridged.reduced))

    -- what finding new kernels asks for
    pub given_is : IsGrammar k → IsGiven host.parts.kernels k m images
    given_is ok = record {
      kernels = parts.kernels;
      beside = about (λ z w n. IsBeside z w (up_by n) (phi_by n images)) piece_is.beside;
      themselves = about (λ z w n. (u : ℕ) → phi_by n images ((up_by n).terminal u) ≡ (up_by n).terminal u) piece_is.themselves;
      live = live_is ok;
    }

    -- and what their lookaheads and the union ask for
    pub fits_is : IsGrammar k → FitsBeside x.own.now r g k m images
    fits_is ok = record {
      both = is.both;
      holes_are = are.holes_are ∙ ap (with_holes_of g) same_in;
      numbers_are = are.numbers_are;
      images_are = images_are;
      same = about (λ z w n. HasHostKernels z w (up_by n)) kernels_same;
      given = given_is ok;
      alone = about (λ z w n. AreHolesAlone z (up_by n) (phi_by n images)) piece_is.alone;
    }
      where
        phi_same : phi_of r.extensible (piece_in r g) ≡ phi_by (moved_beside r.extensible h g) images
        phi_same = phi_is host.resolved r h g ext images images_there

        images_are : (t : ℕ) → phi_by m images t ≡ phi_of host.resolved.extensible (piece_in r g) t
        images_are t =
            ap (λ (n : Numbers). phi_by n images t) moved_is
            ∙ (sym (ap (λ (phi : ℕ → ℕ). phi t) phi_same) ∙ ap (λ (xs : List ℕ). phi_of xs (piece_in r g) t) same_in)

        kernels_same : HasHostKernels (with_holes_of h r.extensible) (with_holes_of g r.extensible) (up_by (moved_beside r.extensible h g))
        kernels_same =
            subst (λ (n : Numbers). HasHostKernels (with_holes_of h r.extensible) (with_holes_of g r.extensible) (up_by n))
            (tested_numbers h g r.extensible)
            (subst (λ (xs : List ℕ). HasHostKernels (with_holes_of h xs) (with_holes_of g xs) (up_of h g)) (sym same_in)
            (bridged_kernels host.resolved r h g host.operations bridged).same)
