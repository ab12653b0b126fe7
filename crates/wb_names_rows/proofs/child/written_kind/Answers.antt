use Rattle.std.proofs.Common.{Some, ap, refl, subst, sym, ◌∙◌}
use Rattle.wb_base.specs.declared.symbol.Kind.TheVariants.{Tree}
use Rattle.wb_names_numbers_theory.specs.Written.{IsWrittenKind}
use Rattle.wb_names_rows.proofs.ScopeLemmas.{is_number}
use Rattle.wb_names_rows.proofs.child.written_kind.Goals as goal

pub returns-in-Name : goal.returns-in-Name
returns-in-Name c = λ n s.
    subst (λ z. IsWrittenKind n c.args.scope.now.owner z (Tree c.number_of.result)) (sym c.in-Name.is) (
      c.number_of.result,
      is_number c.args.scope.now.nonterminals n.nonterminals c.args.scope.now.owner s.nonterminals c.in-Name.name c.number_of.result
          (c.number_of.ensures ∙ ap Some c.as_slice.ensures),
      refl,
    )
