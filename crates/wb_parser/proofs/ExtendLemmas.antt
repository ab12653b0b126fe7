-- A list of trees that begins with another one, and that what begins with it.
use Rattle.std.proofs.Common.{◌≤◌, List, length, take, sym, ap, ◌∙◌, arith}
use Rattle.std.proofs.lemmas.List.{length-take, take-take}
use Rattle.wb_values.specs.Tree.{Tree}
use Rattle.wb_parser.specs.Parses.{Extends}

-- it is as long at least
pub extends_length : (old new : List Tree) → Extends old new → length old ≤ length new
extends_length old new is = let e = sym (length-take (length old) new) ∙ ap length is in omega (arith, e)

-- and so does the longer one of three
pub extends_more : (old mid new : List Tree) → Extends old mid → Extends mid new → Extends old new
extends_more old mid new one two =
    sym (take-take (length old) (length mid) new (extends_length old mid one)) ∙ ap (take (length old)) two ∙ one
