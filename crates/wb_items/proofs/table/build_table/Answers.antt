use Rattle.std.proofs.Common.{◌≡◌, ◌∷◌, [], sym, ◌∙◌, subst, arith}
use Rattle.wb_grammar_theory.specs.Items.{start_item}
use Rattle.wb_items.specs.Index.{IndexView}
use Rattle.wb_items.specs.Table.{AreKernelsOf}
use Rattle.wb_items.proofs.TableLemmas.{first_found, none_followed}
use Rattle.wb_items.proofs.table.build_table.Goals as goal

pub states-init : goal.states-init
states-init c =
    let g = c.args.grammar.now in
    let e : c.in_ok-new.field-0 ≡ record { prefixes = [] ∷ []; kernels = (start_item g ∷ []) ∷ [] } =
    c.in_ok-new.ensures ∙ (λ i. record { prefixes = [] ∷ []; kernels = c.in_ok-first_kernel.ensures i ∷ [] }) in
    record {
      kernels = subst (λ (f : IndexView). AreKernelsOf g f.prefixes f.kernels) (sym e) (first_found g);
      followed = rw (c.new-2.ensures.items, c.new-3.ensures.items) (none_followed g c.in_ok-new.field-0.prefixes);
      within = rw c.new-2.ensures.items (omega arith);
    }
