use Rattle.std.proofs.Common.{◌≡◌, ◌+◌, ℕ, Bool, List, length}
use Rattle.std.specs.Prelude.{◌↔◌}
use Rattle.std.proofs.lemmas.Result.{IfOk-weaker}
use Rattle.wb_determinism_lookaheads.specs.NewLookaheads.{Lists}
use Rattle.wb_termset.specs.Sets.{IsMember}
use Rattle.wb_determinism_beside.specs.Inner.Found.{both_in, prefix_at}
use Rattle.wb_determinism_beside.specs.Inner.Rows.{HasLooks}
use Rattle.wb_determinism_beside.proofs.ListedLemmas.{listed_looks}
use Rattle.wb_determinism_beside.proofs.rows.looks_of.Goals as goal

pub returns-in-None : goal.returns-in-None
returns-in-None c =
    let x = c.args.found.now in
    let item = c.args.item in
    IfOk-weaker c.listed_set.result
    (λ (set : List Bool). (length set ≡ (both_in x).terminals + 1)
    × ((t : ℕ) → IsMember set t ↔ Lists (both_in x) x.sets.now c.args.place item t))
    (λ (set : List Bool). HasLooks (both_in x) (prefix_at x c.args.place) (record { item = item; set = set }))
    (λ (set : List Bool) listed. listed_looks x c.requires.found c.args.place c.requires.place item set listed) c.listed_set.ensures
