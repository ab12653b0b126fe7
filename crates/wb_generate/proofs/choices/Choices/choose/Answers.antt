use Rattle.std.proofs.Common.{rules}
use Rattle.wb_generate.specs.Inner.Groups.{group_at}
use Rattle.wb_generate.proofs.RoomLemmas.{known_there, same_number, some_there}
use Rattle.wb_generate.proofs.choices.Choices.choose.Goals as goal

pub choose-requires-clause-some : goal.choose-requires-clause-some
choose-requires-clause-some c =
    some_there _ c.args.self.now.totals.items c.productions_of-numbers.result.now (group_at c.args.self.now.rules.items c.args.a)
    (search rules) (search rules) c.least-least.result _ c.args.spare c.least-least.ensures c.requires.some

pub choose-requires-clause-known : goal.choose-requires-clause-known
choose-requires-clause-known c =
    known_there _ c.args.self.now.totals.items c.productions_of-numbers.result.now (group_at c.args.self.now.rules.items c.args.a)
    (search rules) (search rules) c.requires.known

pub returns : goal.returns
returns c =
    same_number _ c.args.self.now.totals.items c.productions_of-numbers.result.now (group_at c.args.self.now.rules.items c.args.a)
    (search rules) (search rules) c.least-least.result _ c.args.spare c.least-least.ensures c.args.number c.choose.result
    c.choose.ensures
