-- Kernels of the host are kernels with an extension, so what is tested at kernels holds at prefixes, and the other way round.
use Rattle.std.proofs.Common.{◌≡◌, ℕ, List, map, sym, subst}
use Rattle.wb_base.specs.declared.symbol.Symbol.{Symbol}
use Rattle.wb_base.specs.Grammar.{GrammarView}
use Rattle.wb_compose_theory.specs.NumberLaws.{HasHostKernels}
use Rattle.wb_compose_theory.specs.Numbered.{IsHostKernel, KeepsKernelLookaheads, KeepsLookaheads}
use Rattle.wb_compose_theory.specs.Renamings.{Renaming, renamed}
use Rattle.wb_compose_theory_grammar.proofs.CertificateLemmas.{keeps_other}
use Rattle.wb_compose_theory_grammar.specs.Numberings.{up_of}
use Rattle.wb_certify.specs.DeterministicExtensions.{both_numbers, extended_grammar}
use Rattle.wb_certify.specs.DeterminismImages.{stands_for}
use Rattle.wb_certify.specs.DeterminismNumbers.{up_by}
use Rattle.wb_grammar_theory.proofs.FlowLemmas.{same_back, same_then}
use Rattle.wb_grammar_theory.specs.declared.item.Item.{Item}
use Rattle.wb_grammar_theory.specs.Items.{IsKernelItem, IsViablePrefix, SameKernel}
use Rattle.wb_grammar_theory.specs.Lookaheads.{IsLookahead}
use Rattle.wb_marking_holes.specs.Holes.{with_holes_of}
use Rattle.wb_operations.specs.Operations.{OperationSignature}
use Rattle.wb_syntax_resolved.specs.declared.resolved.ResolvedParts.{ResolvedParts}
use Rattle.wb_compose.specs.Bridged.{AreBridged}
use Rattle.wb_compose.specs.Rules.{AddsLookahead, HasRuleAtPrefixes, KeepsAtKernels, KeepsAtPrefixes, host_holes}
use Rattle.wb_compose.proofs.BridgedLemmas.{bridged_kernels, same_extensible}
use Rattle.wb_certify.proofs.NumberLemmas.{productions_agree, terminals_agree}

module _ (g k : GrammarView) where
  -- of terminals and nonterminals no kernel of host items speaks
  other_kernel : (up other : Renaming) → up.production ≡ other.production → (prefix one : List Symbol) → IsHostKernel g k up prefix one →
      IsHostKernel g k other prefix one
  other_kernel up other same prefix one is =
      let there : IsHostKernel g k (record { terminal = up.terminal; nonterminal = up.nonterminal; production = other.production }) prefix
      one = subst (λ (z : Renaming). IsHostKernel g k z prefix one)
      (λ z. record { terminal = up.terminal; nonterminal = up.nonterminal; production = same z }) is in
      record { within = there.within; same = there.same }

  module _ (up : Renaming) (kernels : HasHostKernels g k up) where
    -- a prefix with a kernel of the host has that of the host's own prefix
    same_kernel : (prefix other : List Symbol) → IsHostKernel g k up prefix other → IsViablePrefix g other →
        SameKernel k prefix (map (renamed up) other)
    same_kernel prefix other here viable item = (there, back)
      where
        own : IsHostKernel g k up (map (renamed up) other) other
        own = kernels other viable

        there : IsKernelItem k prefix item → IsKernelItem k (map (renamed up) other) item
        there x =
            let (i, is) = here.within item x in
            subst (IsKernelItem k (map (renamed up) other)) (sym is)
            ((own.same i).0 ((here.same i).1 (subst (IsKernelItem k prefix) is x)))

        back : IsKernelItem k (map (renamed up) other) item → IsKernelItem k prefix item
        back x =
            let (i, is) = own.within item x in
            subst (IsKernelItem k prefix) (sym is)
            ((here.same i).0 ((own.same i).1 (subst (IsKernelItem k (map (renamed up) other)) is x)))

    -- so its lookaheads are lookaheads there
    looks_there : (prefix other : List Symbol) → IsHostKernel g k up prefix other → IsViablePrefix g other → (item : Item) (t : ℕ) →
        IsLookahead k prefix item t → IsLookahead k (map (renamed up) other) item t
    looks_there prefix other here viable item t (found, same, valid) =
        (found, same_then (same_back (same_kernel prefix other here viable)) same, valid)

    -- the rule at kernels is the rule at prefixes
    at_prefixes : (phi : ℕ → ℕ) → KeepsKernelLookaheads g k up phi → KeepsLookaheads g k up phi
    at_prefixes phi rule prefix item t has looks =
        rule (map (renamed up) prefix) prefix item t (kernels prefix (item, (has.0).0, (has.0).1)) has looks

    at_kernels : (phi : ℕ → ℕ) → KeepsLookaheads g k up phi → KeepsKernelLookaheads g k up phi
    at_kernels phi rule prefix other item t here has looks =
        rule other item t has (looks_there prefix other here (item, (has.0).0, (has.0).1) _ t looks)

module _ (host r : ResolvedParts) (h g : GrammarView) (operations : List OperationSignature)
    (bridged : AreBridged host r h g operations) where
  same : r.extensible ≡ host.extensible
  same = same_extensible host r h g operations bridged

  abbrev holes : GrammarView
  holes = host_holes host r h g

  abbrev more : GrammarView
  more = extended_grammar r g holes

  abbrev tested : Renaming
  tested = up_by (both_numbers r g holes)

  terminals : tested.terminal ≡ (up_of h g).terminal
  terminals = λ z t. (terminals_agree host r h g same t) z

  productions : tested.production ≡ (up_of h g).production
  productions = λ z p. (productions_agree host r h g same p) z

  kernels : HasHostKernels holes more (up_of h g)
  kernels =
      subst (λ xs. HasHostKernels holes (with_holes_of g xs) (up_of h g)) (sym same) (bridged_kernels host r h g operations bridged).same

  -- the lookahead rule
  pub rule_at_prefixes : HasRuleAtPrefixes host r h g
  rule_at_prefixes = record { same = (there, back); shown = λ prefix item t fault. shown_at prefix item t fault }
    where
      there : KeepsAtKernels host r h g → KeepsAtPrefixes host r h g
      there rule =
          at_prefixes holes more (up_of h g) kernels (stands_for r g)
          (keeps_other holes more tested (up_of h g) terminals productions (stands_for r g) rule)

      back : KeepsAtPrefixes host r h g → KeepsAtKernels host r h g
      back rule =
          keeps_other holes more (up_of h g) tested (sym terminals) (sym productions) (stands_for r g)
          (at_kernels holes more (up_of h g) kernels (stands_for r g) rule)

      shown_at : (prefix : List Symbol) (item : Item) (t : ℕ) (fault : AddsLookahead host r h g prefix item t) →
          AddsLookahead host r h g (map (renamed (up_of h g)) fault.host) item t
      shown_at prefix item t fault =
          let viable : IsViablePrefix holes fault.host = (fault.own, (fault.has.0).0, (fault.has.0).1) in
          record {
            host = fault.host;
            own = fault.own;
            kernel = other_kernel holes more (up_of h g) tested (sym productions) (map (renamed (up_of h g)) fault.host) fault.host
                (kernels fault.host viable);
            has = fault.has;
            is = fault.is;
            lookahead = looks_there holes more (up_of h g) kernels prefix fault.host
                (other_kernel holes more tested (up_of h g) productions prefix fault.host fault.kernel) viable item t fault.lookahead;
            beyond = fault.beyond;
          }
