use Rattle.std.proofs.Common.{refl}
use Rattle.wb_digraph.proofs.ReadLemmas.{nullable_within, reads_push}
use Rattle.wb_digraph.proofs.reads.add_read.Goals as goal

pub nullable-requires : goal.nullable-requires
nullable-requires c =
    nullable_within c.requires.context.are_kernels c.requires.context.in_range c.args.context.now.facts.now.nullable
    c.requires.context.are_facts.nullable.len c.args.state c.args.step.state c.args.step.symbol c.in-Nonterminal.nonterminal
    c.in-Nonterminal.is c.requires.step

pub returns : goal.returns
returns c =
    reads_push _ c.args.state c.args.step.state c.args.edges.now.items c.push.new.list.items c.in_ok-push.ensures.ok
    (λ v. (
      λ (same, rest). same,
      λ same. (
        same,
        (
          c.in-Nonterminal.nonterminal,
          c.in-Nonterminal.is,
          (c.nullable.ensures.exact c.args.context.now.kernels.now.grammar c.requires.context.are_facts).0 c.if-not-nullable.false,
        ),
      ),
    ))
