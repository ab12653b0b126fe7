use Rattle.std.proofs.Common.{◌∙◌, List, ℕ, [], All, Contains, ap, get_or, refl, sym, subst}
use Rattle.std.specs.List.{AllZip}
use Rattle.std.proofs.lemmas.Result.{IfOk-weaker}
use Rattle.wb_lemmas.proofs.Elements.{all_contained}
use Rattle.wb_lemmas.proofs.Members.{contains_at}
use Rattle.wb_lemmas.proofs.Places.{read_at}
use Rattle.wb_syntax.specs.declared.item.Item.{Item}
use Rattle.wb_syntax.specs.declared.pattern.Pattern.{Pattern}
use Rattle.wb_names_numbers_theory.specs.Files.{forward_needs_of}
use Rattle.wb_names_rows.specs.Nodes.{IsAt}
use Rattle.wb_names_symbols.specs.Inner.Names.{form_needs}
use Rattle.wb_names_symbols.proofs.ForwardsFound.{needs_found, needs_absent, place_within}
use Rattle.wb_names_symbols.proofs.forwards.needs_of.Goals as goal

pub bounds-known-place : goal.bounds-known-place
bounds-known-place c =
    let known = c.args.known.now in
    place_within known.scope.now known.items.now known.forwarders.now c.requires.known c.args.name.now c.in-Some.place
    c.in-Some.ensures.found

pub item_needs-requires : goal.item_needs-requires
item_needs-requires c =
    let known = c.args.known.now in
    let items = known.items.now in
    let place = c.in-Some.place in
    let item = c.index-known-place.result in
    let within = place_within known.scope.now items known.forwarders.now c.requires.known c.args.name.now place c.in-Some.ensures.found in
    let Q : Item Pattern → Type 0 = λ x. All (Contains known.scope.now.attributes) (form_needs x.form) in
    subst Q c.index-known-place.is (all_contained Q items item c.requires.known.needs
    (contains_at items item place (read_at items items place item refl within c.index-known-place.is)))

pub returns-in-Some : goal.returns-in-Some
returns-in-Some c =
    let s = c.args.known.now.scope.now in
    let items = c.args.known.now.items.now in
    let item = c.index-known-place.result in
    IfOk-weaker c.item_needs.result (λ made. AllZip (IsAt s.attributes) (form_needs (get_or items c.in-Some.place item).form) made)
    (λ made. AllZip (IsAt s.attributes) (forward_needs_of c.args.name.now items) made)
    (λ made all. subst (λ (z : List (List ℕ)). AllZip (IsAt s.attributes) z made)
    (sym (needs_found s items c.args.known.now.forwarders.now c.requires.known c.args.name.now c.in-Some.place item c.in-Some.ensures.found
    c.index-known-place.is c.requires.name ∙ ap (λ (z : Item Pattern). form_needs z.form) c.index-known-place.is)) all)
    c.item_needs.ensures

pub returns-in-None : goal.returns-in-None
returns-in-None c =
    let s = c.args.known.now.scope.now in
    let items = c.args.known.now.items.now in
    subst (λ (z : List (List ℕ)). AllZip (IsAt s.attributes) z c.from_vec.result)
    (sym (needs_absent s items c.args.known.now.forwarders.now c.requires.known c.args.name.now c.in-None.ensures.none))
    (subst (λ (z : List ℕ). AllZip (IsAt s.attributes) [] z) (sym (c.from_vec.ensures ∙ c.new.ensures.items)) tt)
