-- Extensions that are deterministic beside their host alone, and what is kept of them.
use Rattle.std.specs.Prelude.{◌≡◌, ◌≤◌, ◌-◌, ℕ, length, map}
use Rattle.wb_base.specs.Grammar.{GrammarView}
use Rattle.wb_determinism_contexts.specs.Considered.{LexiconView}
use Rattle.wb_determinism_host.specs.Hosts.{IsDeterministicBy}
use Rattle.wb_determinism_host.specs.Lexicons.{is_host_layout, lexicon_beside, lexicon_of}
use Rattle.wb_determinism_host.specs.declared.parts.HostParts.{HostParts}
use Rattle.wb_items.specs.Kernels.{AreKernels, count_of}
use Rattle.wb_items.specs.LookaheadSets.{AreLookaheads}
use Rattle.wb_marking_holes.specs.Holes.{with_holes_of}
use Rattle.wb_syntax_resolved.specs.declared.resolved.ResolvedParts.{ResolvedParts}
use Rattle.wb_compose_theory.specs.Numbered.{KeepsKernelLookaheads, StaysInEnvelope}
use Rattle.wb_determinism.specs.declared.numbers.Numbers.{Numbers}
use Rattle.wb_determinism.specs.declared.parts.ExtensionParts.{ExtensionParts}
use Rattle.wb_determinism.specs.EnvelopeClash.{HasNoEnvelopeClash}
use Rattle.wb_determinism.specs.Images.{stands_for}
use Rattle.wb_determinism.specs.Numbers.{up_by}
use Rattle.wb_determinism.specs.Regions.{AreRegions}

-- the numbers of a host's grammar and of that of the host with an extension, each with so many holes
abbrev pub numbers_of : GrammarView → GrammarView → ℕ → Numbers
numbers_of host both holes = record {
  own_terminals = host.terminals - holes;
  host_terminals = host.terminals;
  both_terminals = both.terminals;
  own_productions = length host.productions - holes;
  host_productions = length host.productions;
  both_productions = length both.productions;
}

-- the host's grammar has so many holes, and no more terminals and productions than that of the host with an extension
pub record IsPartOf (host both : GrammarView) (holes : ℕ) : Type 0 where
  pub terminals : holes ≤ host.terminals
  pub productions : holes ≤ length host.productions
  pub more_terminals : host.terminals ≤ both.terminals
  pub more_productions : length host.productions ≤ length both.productions

-- r is the specification of a host with an extension, and g its grammar, without holes; host is the host's grammar with holes
module _ (r : ResolvedParts) (g host : GrammarView) where
  -- the grammar with the extension and holes
  abbrev pub extended_grammar : GrammarView
  extended_grammar = with_holes_of g r.extensible

  -- the numbers of both grammars with holes
  abbrev pub both_numbers : Numbers
  both_numbers = numbers_of host extended_grammar (length r.extensible)

  -- what is scanned of the host with the extension, whose productions come after the host's
  abbrev pub both_lexicon : LexiconView
  both_lexicon = lexicon_beside r g (length host.productions - length r.extensible)

  -- what is scanned of the host's own terminals, and the host's layout
  abbrev pub host_lexicon : LexiconView
  host_lexicon = record (lexicon_of r g) { scanned = host.terminals - length r.extensible; layout = map is_host_layout r.terminals }

  -- the envelope rule: lookaheads stay in the envelope, and with the envelope there is no conflict and no clash
  pub record MeetsEnvelopeRule : Type 0 where
    pub stays : StaysInEnvelope host extended_grammar (up_by both_numbers) (stands_for r g)
    pub clear : HasNoEnvelopeClash host extended_grammar both_numbers host_lexicon

  -- an extension is deterministic beside its host: the host with the extension passes what hosts are asked, with the extension's layout
  -- considered where a kernel holds an item of one of its productions, and the lookahead rule and the envelope rule hold
  pub record IsDeterministicExtension : Type 0 where
    pub both : IsDeterministicBy r g both_lexicon
    pub lookaheads : KeepsKernelLookaheads host extended_grammar (up_by both_numbers) (stands_for r g)
    pub envelope : MeetsEnvelopeRule

-- the parts are a host's, which the specification, with this grammar, extends
pub record IsHostBeside (r : ResolvedParts) (g : GrammarView) (parts : HostParts) : Type 0 where
  pub of_grammar : parts.kernels.grammar ≡ parts.grammar
  pub kernels : AreKernels parts.kernels
  pub lookaheads : AreLookaheads parts.kernels parts.lookaheads
  pub part : IsPartOf parts.grammar (extended_grammar r g parts.grammar) (length r.extensible)

-- the parts are those of the extended host with holes, each kernel with its region
pub record AreExtensionParts (r : ResolvedParts) (g : GrammarView) (host : HostParts) (parts : ExtensionParts) : Type 0 where
  pub grammar : parts.grammar ≡ with_holes_of g r.extensible
  pub of_grammar : parts.kernels.grammar ≡ parts.grammar
  pub kernels : AreKernels parts.kernels
  pub lookaheads : AreLookaheads parts.kernels parts.lookaheads
  pub regions : AreRegions host.kernels parts.kernels (both_numbers r g host.grammar) (count_of parts.kernels) parts.regions
