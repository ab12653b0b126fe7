use Rattle.std.proofs.Common.{◌≡◌, ◌+◌, [], suc, ◌∷◌, ◌++◌, length, subst, arith}
use Rattle.wb_session_theory.specs.Links.{IsChain}
use Rattle.wb_session_theory.proofs.LinkLemmas.{chain_push, chain_kept, chain_once, chain_written}
use Rattle.wb_session_theory.proofs.laws.links_law.Goals as goal

pub returns-clause-push : goal.returns-clause-push
returns-clause-push c entries top stack chain state value =
    subst (λ z. IsChain (entries ++ (record { state = state; value = value; below = top }) ∷ []) z ((state, value) ∷ stack))
    (let e : suc (length entries) ≡ 1 + length entries = omega arith in e) (chain_push chain state value)

pub returns-clause-kept : goal.returns-clause-kept
returns-clause-kept c entries more top stack chain = chain_kept more chain

pub returns-clause-once : goal.returns-clause-once
returns-clause-once c entries top stack other a b = chain_once a b

pub returns-clause-written : goal.returns-clause-written
returns-clause-written c entries entries' same top stack chain = chain_written same chain
