use Rattle.std.proofs.Common.{List, ℕ, length, subst, sym, arith, ◌≡◌, ◌<◌, ◌+◌}
use Rattle.wb_automata.specs.Inner.Chains.{lists_of}
use Rattle.wb_automata.proofs.ChainLemmas.{gone_more, links_more}
use Rattle.wb_automata.proofs.chains.Chains.add.Goals as goal

pub invariant_of-self-2 : goal.invariant_of-self-2
invariant_of-self-2 c = rw (c.in_ok-push-2.ensures.ok) (links_more c.self.inside.links.items _
    (subst (λ (v : List (List ℕ)). c.args.before < length v) (sym c.self.view_is) c.requires) c.self.invariant)

pub returns : goal.returns
returns c = rw (← c.self.view_is, c.in_ok-push-2.ensures.ok) (gone_more c.self.inside.links.items
    (record { before = c.args.before; leaf = c.args.leaf }) (c.len-count.result + 1)
    (let e : c.len-count.result + 1 ≡ length c.self.inside.links.items + 1 = omega (arith, c.len-count.ensures, c.self.inside.links.ok.0) in e))
