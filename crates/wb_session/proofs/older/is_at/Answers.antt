use Rattle.std.proofs.Common.{◌≡◌, ◌<◌, ◌≤◌, ◌-◌, arith, length, rules}
use Rattle.std.specs.Prelude.{slice_index_or}
use Rattle.wb_lemmas.proofs.Places.{at_default}
use Rattle.wb_session.specs.declared.checkpoint.Checkpoint.{Checkpoint}
use Rattle.wb_session.proofs.older.is_at.Goals as goal

pub returns : goal.returns
returns c = λ true.
    (let older = c.args.older.now in
    let points = older.checkpoints.now in
    let none : Checkpoint = record { at = 0; reach = 0; link = 0 } in
    let point = slice_index_or points c.args.number none in
    let within : c.args.number < length points = search rules in
    let after : older.moved ≤ c.args.at = search rules in
    let behind : older.to ≤ point.at = search rules in
    let same : point.at - older.to ≡ c.args.at - older.moved = search rules in
    record {
      point = point;
      is = at_default points c.args.number none within;
      further = point.at - older.to;
      old_at = omega (arith, behind);
      new_at = omega (arith, after, same);
    })
