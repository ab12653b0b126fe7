use Rattle.wb_compose_theory_order.proofs.PrintedLemmas.{printed_alike}
use Rattle.wb_compose_theory_order.proofs.laws.printed_law.Goals as goal

pub returns : goal.returns
returns c r g signatures others named f is value other one two = printed_alike r g signatures others named f is value other one two
