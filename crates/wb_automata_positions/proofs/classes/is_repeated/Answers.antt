use Rattle.wb_automata_positions.proofs.classes.is_repeated.Goals as goal

pub returns-then-is_before : goal.returns-then-is_before
returns-then-is_before c _ = let (earlier, same) = c.is_before.ensures c.if-is_before.true in record { first = _; earlier = earlier; same = same }
