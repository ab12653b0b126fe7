use Rattle.std.proofs.Common.{rules, arith}
use Rattle.wb_eval_memo.proofs.SlotLemmas.{number_within, number_found}
use Rattle.wb_eval_memo.proofs.slots.Slots.far_value.Goals as goal

pub index-requires : goal.index-requires
index-requires c =
    let (sites, slots) = c.requires.slots in
    let h = number_within c.args.self.now sites c.args.site c.args.attribute c.get-number.result slots (search rules) (search rules) in
    let len = c.args.self.now.large.ok.0 in
    omega (arith, h, len)

pub returns : goal.returns
returns c =
    let (sites, slots) = c.requires.slots in
    number_found c.args.self.now sites c.args.site c.args.attribute c.get-number.result c.in_ok-value.value slots (search rules) (search rules)
    (search rules)
