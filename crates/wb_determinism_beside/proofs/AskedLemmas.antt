-- From what is asked of a host and an extension to what finding new kernels asks for, and from what is seen of these to the answer.
use Rattle.std.proofs.Common.{◌≡◌, ◌≤◌, ◌+◌, ◌-◌, ◌∙◌, ℕ, List, None, length, sym, ap, subst, arith}
use Rattle.std.proofs.lemmas.List.{length-append}
use Rattle.wb_base.specs.Grammar.{GrammarView, Production}
use Rattle.wb_determinism.specs.Extensions.{IsDeterministicExtension, IsPartOf, numbers_of}
use Rattle.wb_determinism.specs.Images.{stands_for, AreImages}
use Rattle.wb_determinism_contexts.specs.Sets.{FitsGrammar}
use Rattle.wb_determinism_host.specs.declared.parts.HostParts.{HostParts}
use Rattle.wb_determinism_host.specs.Hosts.{IsFitForParsing}
use Rattle.wb_determinism_host.specs.Lexicons.{lexicon_of}
use Rattle.wb_determinism_host.proofs.HostLemmas.{fit_of, lexicon_fits}
use Rattle.wb_determinism_kernels.specs.declared.beside.Beside.{Beside}
use Rattle.wb_determinism_kernels.specs.declared.numbers.Numbers as moved
use Rattle.wb_determinism_kernels.specs.Given.{IsGiven}
use Rattle.wb_determinism_kernels.specs.Numbers.{phi_by, up_by}
use Rattle.wb_determinism_lookaheads.specs.NewLookaheads.{AreHolesAlone}
use Rattle.wb_determinism_theory.specs.Beside.{IsBeside}
use Rattle.wb_grammar.specs.Facts.{AreFacts}
use Rattle.wb_grammar_theory.specs.Shape.{IsLive}
use Rattle.wb_items.specs.Kernels.{AreKernels, KernelsView}
use Rattle.wb_items.specs.LookaheadSets.{AreLookaheads}
use Rattle.wb_marking_holes.specs.Holes.{with_holes_of}
use Rattle.wb_syntax_resolved.specs.declared.resolved.ResolvedParts.{ResolvedParts}
use Rattle.wb_determinism_beside.specs.Asked.{IsAskedBeside}
use Rattle.wb_determinism_beside.specs.declared.asked.Fit.{Fit}
use Rattle.wb_determinism_beside.specs.declared.found.Found.{Found}
use Rattle.wb_determinism_beside.specs.Given.{IsPieceBeside, moved_beside, moved_by, numbers_beside}
use Rattle.wb_determinism_beside.specs.Inner.Asking.{Answer, IsBesideOf, IsFit, IsFoundOf, asked_in}
use Rattle.wb_determinism_beside.specs.Inner.Found.{AreForeign, IsClearAtNew, both_in, host_in}
use Rattle.wb_determinism_beside.specs.Inner.Seen.{AreSeen}
use Rattle.wb_determinism_beside.proofs.GivenLemmas.{both_rules, given_beside, own_rules}
use Rattle.wb_determinism_beside.proofs.PieceLemmas.{piece, same_extensible}
use Rattle.wb_determinism_beside.proofs.SeenLemmas.{seen_deterministic}

module _ (x : Fit) (is : IsFit x) where
  abbrev r : ResolvedParts
  r = (asked_in x).resolved.now

  abbrev g : GrammarView
  g = (asked_in x).grammar.now

  abbrev parts : HostParts
  parts = (asked_in x).host.now

  abbrev asked : IsAskedBeside r g parts
  asked = is.asked.beside

  abbrev h : GrammarView
  h = asked.host_grammar

  abbrev holes : ℕ
  holes = length r.extensible

  -- the grammars with holes
  own_is : parts.grammar ≡ with_holes_of h r.extensible
  own_is = asked.of_host.grammar ∙ ap (with_holes_of h) (sym (same_extensible asked.host r h g asked.extended))

  kernels_are : parts.kernels.grammar ≡ with_holes_of h r.extensible
  kernels_are = asked.of_host.of_grammar ∙ own_is

  terminals_are : parts.grammar.terminals ≡ h.terminals + holes
  terminals_are = ap (λ (z : GrammarView). z.terminals) own_is

  both_terminals : x.holes.now.terminals ≡ g.terminals + holes
  both_terminals = ap (λ (z : GrammarView). z.terminals) is.holes_are

  rules_are : length parts.grammar.productions ≡ length h.productions + holes
  rules_are = ap (λ (z : GrammarView). length z.productions) own_is ∙ own_rules h g r.extensible

  all_rules : length x.holes.now.productions ≡ length g.productions + holes
  all_rules = ap (λ (z : GrammarView). length z.productions) is.holes_are ∙ both_rules h g r.extensible

  -- so many terminals there are with the extension and holes
  pub with_holes_len : g.terminals + holes ≡ x.holes.now.terminals
  with_holes_len = sym both_terminals

  -- the host's grammar has as many holes, and there is no less with the extension
  pub part_is : IsPartOf parts.grammar x.holes.now holes
  part_is =
      let extends = (piece asked.host r h g asked.extended).extends in
      let a = terminals_are in
      let b = both_terminals in
      let c = rules_are in
      let d = all_rules in
      let more = extends.terminals in
      let rules = ap (λ (z : List Production). length z) extends.productions.1
      ∙ length-append h.productions extends.productions.0 in record {
        terminals = omega (arith, a);
        productions = omega (arith, c);
        more_terminals = omega (arith, a, b, more);
        more_productions = omega (arith, c, d, rules);
      }

  pub nonterminals_within : parts.grammar.nonterminals ≤ x.holes.now.nonterminals
  nonterminals_within =
      let a = ap (λ (z : GrammarView). z.nonterminals) own_is in
      let b = ap (λ (z : GrammarView). z.nonterminals) is.holes_are in
      let more = (piece asked.host r h g asked.extended).extends.nonterminals in
      omega (arith, a, b, more)

  -- what is asked of parsing holds
  fit : IsFitForParsing r g
  fit =
      fit_of r g x.holes.now x.facts.now (record { acyclic = asked.acyclic; reduced = is.reduced }) is.holes_are is.facts_are

  module _ (b : Beside) (of : IsBesideOf x b) where
    grammar_is : b.grammar.now ≡ with_holes_of g r.extensible
    grammar_is = of.grammar ∙ is.holes_are

    host_is : b.host.now.grammar ≡ with_holes_of h r.extensible
    host_is = ap (λ (z : KernelsView). z.grammar) of.host ∙ kernels_are

    numbers_are : b.numbers.now ≡ moved_beside r.extensible h g
    numbers_are =
        of.numbers
        ∙ ap (λ (z : GrammarView). moved_by (numbers_of z x.holes.now holes) z.nonterminals (x.holes.now.nonterminals - z.nonterminals))
        own_is
        ∙ ap (λ (z : GrammarView). moved_by (numbers_of (with_holes_of h r.extensible) z holes) h.nonterminals
        (z.nonterminals - h.nonterminals)) is.holes_are

    images_are : AreImages (numbers_beside r.extensible h g) (stands_for r g) (g.terminals + holes + 1) b.images.now
    images_are =
        subst (λ (z : GrammarView). AreImages (numbers_of z (with_holes_of g r.extensible) holes) (stands_for r g) (g.terminals + holes + 1)
        b.images.now) own_is
        (subst (λ (z : GrammarView). AreImages (numbers_of parts.grammar z holes) (stands_for r g) (z.terminals + 1) b.images.now)
        is.holes_are of.images)

    -- what is said of both grammars is said of those by which new kernels are found
    about : (P : GrammarView → GrammarView → moved.Numbers → Type 0)
        → P (with_holes_of h r.extensible) (with_holes_of g r.extensible) (moved_beside r.extensible h g)
        → P b.host.now.grammar b.grammar.now b.numbers.now
    about P p =
        subst (P b.host.now.grammar b.grammar.now) (sym numbers_are)
        (subst (λ (z : GrammarView). P b.host.now.grammar z (moved_beside r.extensible h g)) (sym grammar_is)
        (subst (λ (z : GrammarView). P z (with_holes_of g r.extensible) (moved_beside r.extensible h g)) (sym host_is) p))

    piece_is : IsPieceBeside (with_holes_of h r.extensible) (with_holes_of g r.extensible) (up_by (moved_beside r.extensible h g))
        (phi_by (moved_beside r.extensible h g) b.images.now)
    piece_is =
        given_beside asked.host r h g asked.extended b.images.now images_are asked.deterministic.fit.sound.reduced is.reduced

    pub live_is : IsLive b.grammar.now
    live_is = subst IsLive (sym of.grammar) is.facts_are.live

    pub host_kernels : AreKernels b.host.now
    host_kernels = subst AreKernels (sym of.host) asked.of_host.kernels

    pub host_own : b.host.now.grammar ≡ b.own.now
    host_own = ap (λ (z : KernelsView). z.grammar) of.host ∙ (asked.of_host.of_grammar ∙ sym of.own)

    pub host_lookaheads : AreLookaheads b.host.now parts.lookaheads
    host_lookaheads = subst (λ (z : KernelsView). AreLookaheads z parts.lookaheads) (sym of.host) asked.of_host.lookaheads

    pub facts_beside : AreFacts b.grammar.now x.facts.now
    facts_beside = subst (λ (z : GrammarView). AreFacts z x.facts.now) (sym of.grammar) is.facts_are

    -- what finding new kernels asks for
    pub given_is : IsGiven b.host.now b.grammar.now b.numbers.now b.images.now
    given_is = record {
      kernels = host_kernels;
      beside = about (λ z k m. IsBeside z k (up_by m) (phi_by m b.images.now)) piece_is.beside;
      themselves = about (λ z k m. (u : ℕ) → phi_by m b.images.now ((up_by m).terminal u) ≡ (up_by m).terminal u) piece_is.themselves;
      live = live_is;
    }

    pub holes_alone : AreHolesAlone b.host.now.grammar (up_by b.numbers.now) (phi_by b.numbers.now b.images.now)
    holes_alone = about (λ z k m. AreHolesAlone z (up_by m) (phi_by m b.images.now)) piece_is.alone

    -- what is scanned is in the grammar
    pub scanned_fits : FitsGrammar b.grammar.now.terminals (lexicon_of r g)
    scanned_fits =
        subst (λ (z : GrammarView). FitsGrammar z.terminals (lexicon_of r g)) (sym grammar_is) (lexicon_fits r g None is.asked.has)

  -- where each new kernel has an item that isn't the host's, and neither a conflict nor a clash, the extension is deterministic
  pub answer_is : (y : Found) → IsFoundOf x y → AreForeign y → IsClearAtNew y (lexicon_of r g) → Answer (asked_in x)
  answer_is y found foreign clear =
      subst (IsDeterministicExtension r g) (sym own_is)
      (seen_deterministic asked.host r h g asked.extended asked.clear asked.deterministic fit y.beside.now.images.now
      (images_are y.beside.now found.beside) (host_in y) (host_is y.beside.now found.beside) y.new.now seen)
    where
      here : AreSeen (host_in y) (both_in y) y.beside.now.numbers.now y.beside.now.images.now y.new.now (lexicon_of r g)
      here = record {
        kernels = found.found.kernels;
        live = found.found.live;
        are_new = found.found.new;
        rule = found.found.sets.rule;
        foreign = λ i lt. let z = foreign i lt in record { item = z.item; has = z.has; foreign = z.foreign };
        no_conflict = clear.no_conflict;
        no_clash = clear.no_clash;
      }

      seen : AreSeen (host_in y) (with_holes_of g r.extensible) (moved_beside r.extensible h g) y.beside.now.images.now y.new.now
          (lexicon_of r g)
      seen =
          subst (λ m. AreSeen (host_in y) (with_holes_of g r.extensible) m y.beside.now.images.now y.new.now (lexicon_of r g))
          (numbers_are y.beside.now found.beside)
          (subst (λ (z : GrammarView). AreSeen (host_in y) z y.beside.now.numbers.now y.beside.now.images.now y.new.now (lexicon_of r g))
          (grammar_is y.beside.now found.beside) here)
