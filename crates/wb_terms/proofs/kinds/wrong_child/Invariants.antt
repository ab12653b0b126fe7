use Rattle.std.proofs.Common.{◌≡◌, List, map}
use Rattle.std.specs.List.{AllZip}
use Rattle.wb_terms.specs.Term.{Argument, place_of}
use Rattle.wb_terms.specs.Inner.Least.{FindsLeast}
use Rattle.wb_terms.specs.Inner.Built.{IsStored}
use Rattle.wb_terms.specs.Inner.KindsFit.{FirstFit, IsWrongAmong}
use Rattle.wb_terms.proofs.kinds.wrong_child.Given as goal

abbrev pub invariant-loop-index : goal.invariant-loop-index
invariant-loop-index l =
    (arguments : List Argument) → AllZip (IsStored l.signatures l.store) arguments l.values → map place_of arguments ≡ l.places →
    FindsLeast (IsWrongAmong l.signatures l.index arguments l.kinds) (FirstFit l.signatures l.index arguments l.kinds) l.least
