use Rattle.std.proofs.Common.{◌≡◌, ◌∙◌, ◌<◌, [], subst, sym, ap, get_or, length}
use Rattle.std.specs.Prelude.{◌↔◌, ◌∷◌}
use Rattle.std.proofs.lemmas.Option.{slice_get-get_or, get_or_from_slice_get}
use Rattle.wb_base.specs.declared.symbol.Symbol.TheVariants.{Nonterminal}
use Rattle.wb_termset.specs.Sets.{IsMember}
use Rattle.wb_grammar_theory.specs.Derives.{IsFirst}
use Rattle.wb_grammar.specs.Facts.{FactsView, set_of}
use Rattle.wb_grammar.proofs.facts.Facts.first.Goals as goal

pub returns-clause-exact : goal.returns-clause-exact
returns-clause-exact c g are t =
    let sets = c.self.inside.first.items in
    let n = c.args.nonterminal in
    let shown : c.args.self.now.first ≡ sets = ap (λ (f : FactsView). f.first) (sym c.self.view_is) in
    let lt : n < length sets = subst (λ s. n < length s) shown c.requires in
    let is : set_of sets n ≡ c.index.result.now = get_or_from_slice_get sets n (get_or sets n c.index.result.now) []
    (slice_get-get_or sets n c.index.result.now lt) ∙ sym c.index.ensures in
    subst (λ s. IsMember s t ↔ IsFirst g (Nonterminal n ∷ []) t) (ap (λ s. set_of s n) shown ∙ is) (are.first.each n t)
