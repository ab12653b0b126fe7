use Rattle.std.proofs.Common.{◌≡◌, ◌∙◌, ◌∷◌, [], ℕ, List, ap, subst, sym}
use Rattle.wb_syntax_resolved.specs.Resolved.{IsResolved}
use Rattle.wb_names.specs.Resolving.{extension_file}
use Rattle.wb_names.proofs.ResolveLemmas.{extension_given, extension_made, extension_refused}
use Rattle.wb_names.proofs.resolve.extended_host.Goals as goal

file_is : (c : goal.After-drop)
    → record { base = c.parts.result.now; owner = 1; extensions = c.from_ref.result.now; items = c.items.result.now }
    ≡ extension_file c.args.host.now c.args.spec.now
file_is c =
    let names = c.from_ref.ensures.value ∙ ap (λ (z : List ℕ). z ∷ []) (c.in_ok-name.ensures.ok ∙ c.name.ensures) in
    λ j. record { base = c.parts.ensures.parts j; owner = 1; extensions = names j; items = c.items.ensures.items j }

pub resolve_in-made-requires-clause-file : goal.resolve_in-made-requires-clause-file
resolve_in-made-requires-clause-file c =
    let names = c.from_ref.ensures.value ∙ ap (λ (z : List ℕ). z ∷ []) (c.in_ok-name.ensures.ok ∙ c.name.ensures) in
    extension_given c.args.spec.now
    (record { base = c.parts.result.now; owner = 1; extensions = c.from_ref.result.now; items = c.items.result.now })
    (subst IsResolved (sym c.parts.ensures.parts) c.parts.ensures.whole) c.items.ensures.names c.items.ensures.whole c.args.host.now
    c.requires.alone
    (λ j. record { base = c.parts.ensures.parts j; owner = 1; extensions = names j; items = c.items.ensures.items j })

pub returns-clause-ok : goal.returns-clause-ok
returns-clause-ok c =
    extension_made c.args.spec.now c.format.result c.format.ensures
    (record { base = c.parts.result.now; owner = 1; extensions = c.from_ref.result.now; items = c.items.result.now })
    c.resolve_in-made.result c.args.host.now c.requires.header (file_is c) c.resolve_in-made.ensures.ok

pub returns-clause-refused : goal.returns-clause-refused
returns-clause-refused c =
    extension_refused c.args.spec.now c.format.result c.format.ensures
    (record { base = c.parts.result.now; owner = 1; extensions = c.from_ref.result.now; items = c.items.result.now })
    c.resolve_in-made.result c.args.host.now c.requires.header (file_is c) c.resolve_in-made.ensures.refused
