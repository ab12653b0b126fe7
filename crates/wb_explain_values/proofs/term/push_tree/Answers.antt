use Rattle.std.proofs.Common.{ℕ, Option, MatchOption, subst}
use Rattle.wb_eval_root.specs.Asked.{IsAskedOn}
use Rattle.wb_syntax_resolved.specs.declared.attribution.AttributionParts.{AttributionParts}
use Rattle.wb_values.specs.Fits.{FitsTree}
use Rattle.wb_values.specs.ValuesIn.{tree_in}
use Rattle.wb_explain_values.proofs.term.push_tree.Goals as goal

pub push_asked-requires-clause-asked : goal.push_asked-requires-clause-asked
push_asked-requires-clause-asked g c =
    let a = c.args.attributes.now in
    let name = c.args.asked.now.name.now in
    let n = c.nonterminal_of-nonterminal.result in
    record {
      nonterminal = n;
      fits = subst (λ (b : AttributionParts). FitsTree b.signatures (tree_in c.args.store.now c.args.root.0) n) c.parts.ensures.parts
          c.nonterminal_of-nonterminal.ensures;
      asked = subst (λ (o : Option ℕ). MatchOption o ((x : ℕ) → ¬ IsAskedOn a name n x) (IsAskedOn a name n)) c.in-Some.is
          c.in_ok-attribute.ensures;
    }
