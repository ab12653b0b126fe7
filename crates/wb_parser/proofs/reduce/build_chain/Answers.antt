use Rattle.std.proofs.Common.{List, ℕ, subst, sym, refl, rules}
use Rattle.std.proofs.lemmas.List.{drop_all}
use Rattle.wb_parser.specs.Inner.Chains.{AreBuilt}
use Rattle.wb_parser.proofs.reduce.build_chain.Goals as goal

pub returns-clause-built : goal.returns-clause-built
returns-clause-built c =
    let ps = c.args.productions.now in
    c.links.invariant.rest c.links.values c.links.store
    (subst (λ (qs : List ℕ). AreBuilt qs c.links.values c.links.store c.links.values c.links.store) (sym (drop_all c.links.production-index ps (search rules)))
    (refl, refl))
