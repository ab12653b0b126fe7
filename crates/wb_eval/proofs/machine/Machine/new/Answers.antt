use Rattle.std.proofs.Common.{refl}
use Rattle.wb_eval.proofs.machine.Machine.new.Goals as goal

pub returns : goal.returns
returns c =
    let e = c.in_ok-memo.ensures in
    record {
      root_is = refl;
      attribute_is = refl;
      whole = e.whole;
      origins = e.origins;
      its_trees = e.trees;
      values = e.values;
      stack = c.new-2.ensures.items;
      frames = c.new-3.ensures.items;
      entered = refl;
    }
