use Rattle.std.proofs.Common.{All, Contains, List, ℕ, sym, subst}
use Rattle.wb_syntax.specs.declared.item.Item.{Item}
use Rattle.wb_syntax.specs.declared.pattern.Pattern.{Pattern}
use Rattle.wb_names_theory.specs.Declares.{base_declarations, item_declarations}
use Rattle.wb_names_symbols.specs.Lent.{lent_file}
use Rattle.wb_names_symbols.specs.Inner.Names.{form_needs}
use Rattle.wb_names_symbols.proofs.AttributesThere.{needs_there}
use Rattle.wb_names_symbols.proofs.OnceNames.{once_right}
use Rattle.wb_names_symbols.proofs.nonterminals.add_own.Goals as goal

pub add_declared-added-requires-clause-known : goal.add_declared-added-requires-clause-known
add_declared-added-requires-clause-known c = record {
  are = c.in_ok-said.ensures.forwarders;
  once = once_right (base_declarations c.args.file.now.base.now) (item_declarations c.args.file.now.items.now) c.requires.right.hold.once;
  names = c.requires.right.is_file.names;
  needs = subst (λ (z : List (List ℕ)). All (λ (item : Item Pattern). All (Contains z) (form_needs item.form)) c.args.file.now.items.now)
      (sym c.requires.attributes) (needs_there (lent_file c.args.file.now) c.requires.right.hold.meant);
}
