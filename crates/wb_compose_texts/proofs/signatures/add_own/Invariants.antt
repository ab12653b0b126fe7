use Rattle.std.proofs.Common.{◌≡◌, ◌++◌, ◌-◌, map, take}
use Rattle.wb_compose_theory.specs.Blocks.{lift}
use Rattle.wb_compose_texts.specs.Inner.Tables.{signatures_from}
use Rattle.wb_compose_texts.specs.Signatures.{signature_by}
use Rattle.wb_compose_texts.proofs.signatures.add_own.Given as goal

abbrev pub invariant-productions : goal.invariant-productions
invariant-productions l = l.made ≡ l.initial.made ++ map (signature_by (lift l.own.nonterminals l.before))
    (take (l.production - l.own.productions) (signatures_from l.own.productions l.extension))
