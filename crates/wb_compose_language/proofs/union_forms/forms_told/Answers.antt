use Rattle.wb_compose_language.proofs.OpenedLemmas.{host_rows, own_rows}
use Rattle.wb_compose_language.proofs.union_forms.forms_told.Goals as goal

pub forms_with-made-requires : goal.forms_with-made-requires
forms_with-made-requires c = record {
  unitable = c.requires.unitable;
  opened_are = record {
    host_rows = host_rows c.args.lent.now c.requires.unitable;
    rows = own_rows c.args.lent.now c.requires.unitable;
    known = record { texts = c.requires.texts; machine = c.requires.machine; told = c.in_ok-told.ensures };
    bases = c.requires.owns;
  };
}
