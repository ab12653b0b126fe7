use Rattle.std.proofs.Common.{List, ℕ, ◌++◌, ◌∷◌, [], Contains, subst}
use Rattle.wb_base.specs.Numbered.{AreNumbered}
use Rattle.wb_base.proofs.NumberedLemmas.{number_is_new, plain}
use Rattle.wb_base.proofs.names.add_number.Goals as goal

pub returns-clause-ok : goal.returns-clause-ok
returns-clause-ok c = λ texts numbered count other.
    subst (λ (name : List ℕ). AreNumbered (texts ++ name ∷ []) (plain c.insert.new.self.entries)) c.in_ok-key.ensures.items
    (number_is_new texts c.args.numbers.now.entries c.insert.new.self.entries c.in_ok-key.key c.args.number c.in_ok-insert.field-0 _
    c.in_ok-insert.ensures.old c.in_ok-insert.ensures.entries numbered count (λ there. other
    (subst (λ (name : List ℕ). Contains texts name) c.in_ok-key.ensures.items there)))
