use Rattle.std.proofs.Common.{◌≡◌, ◌∙◌, [], ap, subst, sym}
use Rattle.wb_syntax_resolved.specs.Resolved.{IsResolved}
use Rattle.wb_names.specs.Resolving.{empty_host, host_file}
use Rattle.wb_names.proofs.ResolveLemmas.{host_given, host_made, host_refused}
use Rattle.wb_names.proofs.resolve.host_of.Goals as goal

file_is : (c : goal.After-release) → record { base = c.parts.result.now; owner = 0; extensions = []; items = c.items-items.result.now }
    ≡ host_file c.args.spec.now
file_is c =
    let base = c.parts.ensures.parts ∙ (c.in_ok-before.ensures ∙ ap empty_host c.name.ensures) in
    λ j. record { base = base j; owner = 0; extensions = []; items = c.items-items.ensures.items j }

pub resolve_in-made-requires-clause-file : goal.resolve_in-made-requires-clause-file
resolve_in-made-requires-clause-file c =
    let base = c.parts.ensures.parts ∙ (c.in_ok-before.ensures ∙ ap empty_host c.name.ensures) in
    host_given c.args.spec.now (record { base = c.parts.result.now; owner = 0; extensions = []; items = c.items-items.result.now })
    (subst IsResolved (sym c.parts.ensures.parts) c.parts.ensures.whole) c.items-items.ensures.names c.items-items.ensures.whole
    (λ j. record { base = base j; owner = 0; extensions = []; items = c.items-items.ensures.items j })

pub returns-clause-ok : goal.returns-clause-ok
returns-clause-ok c =
    host_made c.args.spec.now c.format.result c.format.ensures
    (record { base = c.parts.result.now; owner = 0; extensions = []; items = c.items-items.result.now })
    c.resolve_in-made.result c.requires (file_is c) c.resolve_in-made.ensures.ok

pub returns-clause-refused : goal.returns-clause-refused
returns-clause-refused c =
    host_refused c.args.spec.now c.format.result c.format.ensures
    (record { base = c.parts.result.now; owner = 0; extensions = []; items = c.items-items.result.now })
    c.resolve_in-made.result c.requires (file_is c) c.resolve_in-made.ensures.refused
