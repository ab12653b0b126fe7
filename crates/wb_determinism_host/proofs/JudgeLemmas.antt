-- What is known of a host that is judged, and when it passes.
use Rattle.std.proofs.Common.{◌≡◌, ◌∙◌, ℕ, Option, Some, None, IfSome}
use Rattle.wb_base.specs.Grammar.{GrammarView}
use Rattle.wb_determinism_contexts.specs.Considered.{HasNoClashAt}
use Rattle.wb_grammar_theory.specs.Lookaheads.{HasNoConflict}
use Rattle.wb_grammar.specs.Facts.{FactsView}
use Rattle.wb_items.specs.Lookaheads.{LookaheadsView}
use Rattle.wb_items.specs.Kernels.{KernelsView, AreKernels}
use Rattle.wb_marking_holes.specs.Holes.{with_holes_of}
use Rattle.wb_syntax_resolved.specs.declared.resolved.ResolvedParts.{ResolvedParts}
use Rattle.wb_determinism_host.specs.declared.judge.Judged.{Judged}
use Rattle.wb_determinism_host.specs.declared.parts.HostParts.{HostParts}
use Rattle.wb_determinism_host.specs.Hosts.{AreHostParts, IsFitForParsing, IsDeterministicBy}
use Rattle.wb_determinism_host.specs.Inner.Judging.{IsJudged, judged_lexicon}
use Rattle.wb_determinism_host.specs.Inner.Lists.{lexicon_in}
use Rattle.wb_determinism_host.specs.Judged.{IsReadyToJudge}
use Rattle.wb_determinism_host.proofs.HostLemmas.{fit_of}

-- the facts say that the grammar with holes is fit
pub fit_for_parsing : (x : Judged) → IsJudged x → IsFitForParsing x.resolved.now x.grammar.now
fit_for_parsing x is =
    fit_of x.resolved.now x.grammar.now x.holes.now x.facts.now is.ready.sound is.ready.holes_are is.ready.facts_are

-- the kernels are those of the grammar with holes
pub of_with_holes : (x : Judged) → IsJudged x → x.kernels.now.grammar ≡ with_holes_of x.grammar.now x.resolved.now.extensible
of_with_holes x is = is.ready.of_holes ∙ is.ready.holes_are

-- a host without conflict and without clash is deterministic
pub deterministic : (x : Judged) → IsJudged x → HasNoConflict (with_holes_of x.grammar.now x.resolved.now.extensible)
    → HasNoClashAt (with_holes_of x.grammar.now x.resolved.now.extensible) (judged_lexicon x)
    → IsDeterministicBy x.resolved.now x.grammar.now (judged_lexicon x)
deterministic x is clear apart = record { fit = fit_for_parsing x is; no_conflict = clear; no_clash = apart }

-- the parts of a host
abbrev pub parts_of : GrammarView → KernelsView → LookaheadsView → HostParts
parts_of grammar kernels lookaheads = record { grammar = grammar; kernels = kernels; lookaheads = lookaheads }

-- they are the parts of a host that is judged and deterministic
pub some_host : (r : ResolvedParts) (o : Option GrammarView) (first : Option ℕ) (grammar : GrammarView) (facts : FactsView)
    (kernels : KernelsView) (lookaheads : LookaheadsView)
    → IfSome o (λ g. IsReadyToJudge r g grammar facts kernels lookaheads) → AreKernels kernels
    → IfSome o (λ g. IsDeterministicBy r g (lexicon_in r g first))
    → IfSome o (λ g. IsDeterministicBy r g (lexicon_in r g first) × AreHostParts r g (parts_of grammar kernels lookaheads))
some_host r None first grammar facts kernels lookaheads ready exact is = tt
some_host r (Some g) first grammar facts kernels lookaheads ready exact is =
    (is, record { grammar = ready.holes_are; of_grammar = ready.of_holes; kernels = exact; lookaheads = ready.lookaheads_are })
