use Rattle.std.proofs.Common.{◌++◌, ◌∷◌, [], ℕ, List, sym, ap, ◌∙◌, arith, append_assoc}
use Rattle.std.proofs.lemmas.Result.{on_ok_weaker}
use Rattle.wb_terms.specs.Printed.{name_of}
use Rattle.wb_terms.proofs.NameLemmas.{short_at}
use Rattle.wb_terms.proofs.name.print_name.Goals as goal

pub print_first-requires : goal.print_first-requires
print_first-requires c =
    (short_at c.args.signatures.now c.args.names.now.short.items c.args.production c.index-short.result.now c.requires
    (omega (arith, c.if-production-len.true, c.len.ensures, c.args.names.now.short.ok.0)) c.index-short.ensures
    (omega (arith, c.if-short-gt0.true))).0

pub returns-then-short-gt0-clause-text : goal.returns-then-short-gt0-clause-text
returns-then-short-gt0-clause-text c =
    let old = c.args.out.now.items in
    let name = name_of c.args.signatures.now c.args.production in
    let short =
    short_at c.args.signatures.now c.args.names.now.short.items c.args.production c.index-short.result.now c.requires
    (omega (arith, c.if-production-len.true, c.len.ensures, c.args.names.now.short.ok.0)) c.index-short.ensures
    (omega (arith, c.if-short-gt0.true)) in
    on_ok_weaker c.print_first.result
    (λ printed. printed ∙ ap (λ (l : List ℕ). old ++ l) short.1 ∙ sym (append_assoc old name (40 ∷ [])))
    c.print_first.ensures
