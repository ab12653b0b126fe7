use Rattle.std.proofs.lemmas.Result.{IfOk-weaker}
use Rattle.wb_automata_positions.specs.Inner.Shortcuts.{IsShorter}
use Rattle.wb_automata_positions.proofs.shortcuts.shorten.Goals as goal

pub returns : goal.returns
returns c = IfOk-weaker c.merge.result (λ _. IsShorter c.skip.new.places c.skip.new.starts c.merge.new.places c.merge.new.starts)
    (λ _. IsShorter c.args.places.now c.args.starts.now c.merge.new.places c.merge.new.starts)
    (λ _ h trees first_end m. h trees first_end (c.in_ok-skip.ensures.shorter trees first_end m)) c.merge.ensures
