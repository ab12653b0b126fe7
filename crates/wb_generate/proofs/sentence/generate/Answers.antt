use Rattle.std.proofs.Common.{◌≡◌, ◌≤◌, ◌-◌, [], ◌∷◌, subst, arith, rules}
use Rattle.std.specs.Prelude.{slice_index}
use Rattle.wb_base.specs.declared.symbol.Symbol.TheVariants.{Nonterminal}
use Rattle.wb_generate.specs.Making.{Makes}
use Rattle.wb_generate.specs.Texts.{IsWritten}
use Rattle.wb_generate.proofs.MakeLemmas.{sentence_of}
use Rattle.wb_generate.proofs.sentence.generate.Goals as goal

pub returns : goal.returns
returns c =
    let g = c.args.grammar.now in
    let counts = c.in_ok-choices.choices.counts.items in
    let are = c.in_ok-choices.ensures in
    let least : c.start_count-least.result ≡ slice_index counts g.start = search rules in
    let enough : slice_index counts g.start ≤ c.args.size = omega arith in
    let made : Makes g counts (Nonterminal g.start ∷ []) (c.args.size - c.start_count-least.result) c.args.number c.in_ok-made.made.items =
    search rules in
    let makes = subst (λ z. Makes g counts (Nonterminal g.start ∷ []) (c.args.size - z) c.args.number c.in_ok-made.made.items) least made in
    let written : IsWritten c.args.terminals.now c.args.layout c.in_ok-made.made.items c.in_ok-text.text = search rules in
    sentence_of g c.args.terminals.now c.args.layout c.args.number c.args.size c.in_ok-text.text c.in_ok-made.made.items counts _
    are.grammar are.least enough makes written (omega arith)
