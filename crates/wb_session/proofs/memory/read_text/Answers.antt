use Rattle.std.proofs.Common.{◌∙◌, ◌++◌, ◌∷◌, [], ap, refl, rules}
use Rattle.wb_session.proofs.KeptLemmas.{checkpoints_start}
use Rattle.wb_session.proofs.PastLemmas.{no_older, past_none, shares_none}
use Rattle.wb_session.proofs.VersionLemmas.{none_common}
use Rattle.wb_session.proofs.memory.read_text.Goals as goal

pub go_on-requires-clause-kept : goal.go_on-requires-clause-kept
go_on-requires-clause-kept c =
    checkpoints_start c.args.language.now _ c.args.memory.now.places.items c.push.new.list.items
    (c.in_ok-push.ensures.ok ∙ ap (λ z. z ++ (record { at = 0; reach = 0; link = 0 }) ∷ []) c.requires.checkpoints)

pub go_on-requires-clause-older : goal.go_on-requires-clause-older
go_on-requires-clause-older c =
    no_older c.args.language.now _ _ c.grammar-2.ensures.language (search rules) refl refl (search rules) (search rules)

pub go_on-requires-clause-shares : goal.go_on-requires-clause-shares
go_on-requires-clause-shares c = shares_none _ _ refl

pub returns-clause-common : goal.returns-clause-common
returns-clause-common c = record {
  past = past_none _ _ _ c.requires.past c.requires.past_entries;
  bytes = none_common _ _ _ c.requires.common;
  places = none_common _ _ _ c.requires.common_places;
}
