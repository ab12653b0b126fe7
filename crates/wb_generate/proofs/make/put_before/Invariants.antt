use Rattle.std.proofs.Common.{◌≡◌, ◌++◌, ◌-◌, drop, length}
use Rattle.wb_generate.proofs.make.put_before.Given as goal

abbrev pub invariant-symbols : goal.invariant-symbols
invariant-symbols l = l.form ≡ drop (length l.right - l.back) l.right ++ l.fn.form
