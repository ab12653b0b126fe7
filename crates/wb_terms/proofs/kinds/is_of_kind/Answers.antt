use Rattle.std.proofs.Common.{subst, sym}
use Rattle.std.specs.Prelude.{◌↔◌}
use Rattle.std.specs.Bool.{IsTrue}
use Rattle.wb_base.specs.declared.symbol.Kind.{Kind}
use Rattle.wb_values.specs.declared.value.Value.{Value}
use Rattle.wb_values.specs.ValuesIn.{value_in, tree_in}
use Rattle.wb_terms.specs.TreeOf.{IsOfKind}
use Rattle.wb_terms.specs.Inner.Built.{IsBuiltValue}
use Rattle.wb_terms.proofs.KindLemmas.{tree_kind}
use Rattle.wb_terms.proofs.kinds.is_of_kind.Goals as goal

pub returns-in-Tree-kind : goal.returns-in-Tree-kind
returns-in-Tree-kind c = λ argument stored.
    let built =
    subst (λ (x : Value). IsBuiltValue c.args.signatures.now argument (value_in c.args.store.now x)) c.in-Tree.is stored.built in
    subst (λ (k : Kind). IsTrue c.is_of_left.result ↔ IsOfKind c.args.signatures.now argument k) (sym c.in-Tree-kind.is)
    (tree_kind c.args.signatures.now
    (tree_in c.args.store.now c.in-Tree.tree.0) c.production.result c.in-Tree-kind.nonterminal c.is_of_left.result argument
    c.production.ensures c.is_of_left.ensures built)
