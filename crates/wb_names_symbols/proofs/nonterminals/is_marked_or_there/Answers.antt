use Rattle.std.proofs.Common.{◌≡◌, ◌∙◌, inl, inr, Some, true, false, ap, sym}
use Rattle.std.proofs.lemmas.Option.{slice_get-get_or}
use Rattle.wb_names_symbols.proofs.nonterminals.is_marked_or_there.Goals as goal

pub returns-then-flags-number : goal.returns-then-flags-number
returns-then-flags-number c =
    let marked = slice_get-get_or c.args.flags.now c.args.number false c.requires ∙ ap Some c.if-flags-number.true in
    (λ e. inl marked, λ p. c.if-flags-number.true)

pub returns-else-flags-number : goal.returns-else-flags-number
returns-else-flags-number c =
    let unmarked = slice_get-get_or c.args.flags.now c.args.number false c.requires ∙ ap Some c.if-flags-number.false in (
      λ e. inr (c.is_there.ensures.0 e),
      λ p. elim p [
        | inl marked ↦ let both : Some false ≡ Some true = sym unmarked ∙ marked in absurd (cc both)
        | inr has ↦ c.is_there.ensures.1 has
      ],
    )
