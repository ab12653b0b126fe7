use Rattle.std.proofs.Common.{rules, refl}
use Rattle.wb_eval.proofs.machine.Machine.push.Goals as goal

pub returns : goal.returns
returns c = record {
  memo = refl;
  root = refl;
  attribute = refl;
  stack = search rules;
  entered = refl;
  frames = search rules;
}
