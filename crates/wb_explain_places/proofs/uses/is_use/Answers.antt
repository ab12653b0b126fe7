use Rattle.std.proofs.Common.{rules, sym, ◌∙◌}
use Rattle.wb_lemmas.proofs.Parts.{take_to_end}
use Rattle.wb_explain_places.proofs.uses.is_use.Goals as goal

pub returns-in-Ok : goal.returns-in-Ok
returns-in-Ok c = λ is. record {
  after = c.in-Ok.after.now;
  here = sym (take_to_end c.args.at c.args.text.now) ∙ c.in-Ok.ensures.read;
  begins = c.begins_name.ensures (search rules);
  ends = c.ends_name.ensures is;
}
