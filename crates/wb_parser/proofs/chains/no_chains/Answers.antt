use Rattle.std.proofs.Common.{◌≡◌, rules, subst, sym, [], refl}
use Rattle.wb_parser_states.proofs.TableLemmas.{zero_below}
use Rattle.wb_parser.specs.Inner.Chains.{AreChains}
use Rattle.wb_parser.proofs.ChainLemmas.{chain_begun, chains_more, no_chain, zero_start}
use Rattle.wb_parser.proofs.chains.no_chains.Goals as goal

pub action-requires-clause-state : goal.action-requires-clause-state
action-requires-clause-state c = let (g, of) = c.requires in zero_below of

pub returns-then-size-lt-SHORT : goal.returns-then-size-lt-SHORT
returns-then-size-lt-SHORT c g of =
    let e : c.new-chains.result.items ≡ [] = search rules in
    subst (AreChains g c.args.tables.now []) (sym e) (no_chain g c.args.tables.now)

pub places-init : goal.places-init
places-init c g of =
    let e : c.new-chains.result.items ≡ [] = search rules in
    subst (AreChains g c.args.tables.now []) (sym e) (no_chain g c.args.tables.now)

pub places-preserved : goal.places-preserved
places-preserved c g of =
    subst (AreChains g c.args.tables.now []) (sym c.in-Ok.ensures.ok)
    (chains_more g c.args.tables.now [] c.places.chains.items _
    (chain_begun g c.args.tables.now [] 0 (record { below = 0; state = 0; terminal = 0 }) c.action.result
    (zero_start g c.args.tables.now of) refl c.action.ensures) (c.places.invariant g of))

pub returns-in-Err : goal.returns-in-Err
returns-in-Err c g of = subst (AreChains g c.args.tables.now []) (sym c.in-Err.ensures.err) (c.places.invariant g of)
