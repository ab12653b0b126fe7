use Rattle.std.proofs.Common.{◌≡◌, ◌++◌, ◌∷◌, [], ℕ, List, subst, sym, ◌∙◌}
use Rattle.wb_names_rows.specs.Index.{IsIndex}
use Rattle.wb_names_rows.proofs.index.Index.add.Goals as goal

pub invariant_of-self : goal.invariant_of-self
invariant_of-self c =
    subst (λ (z : List (List ℕ)). IsIndex c.self.inside.names c.self.inside.numbers.items z) (sym c.in_err-reserve.ensures.items)
    c.self.invariant

pub invariant_of-self-in_err-place_text : goal.invariant_of-self-in_err-place_text
invariant_of-self-in_err-place_text c =
    let texts = c.reserve.new.self.items in
    let index = subst (λ (z : List (List ℕ)). IsIndex c.self.inside.names c.self.inside.numbers.items z)
    (sym c.in_ok-reserve.ensures.items) c.self.invariant in
    subst (λ (z : List (List ℕ)). IsIndex z c.place_text.new.numbers.items texts) (sym c.in_err-place_text.ensures.err)
    (subst (λ (z : List ℕ). IsIndex c.self.inside.names z texts) (sym c.in_err-place_text.ensures.err_numbers) index)

pub invariant_of-self-2 : goal.invariant_of-self-2
invariant_of-self-2 c =
    let count = sym (c.len-place.ensures ∙ c.self.inside.texts.ok.0) in
    let placed = c.in_ok-place_text.ensures.index c.self.inside.texts.items c.self.invariant count in
    let reserved = c.in_ok-reserve.ensures.items in
    let added = c.push_reserved.ensures.items in
    let same = c.as_slice.ensures in
    let pushed : c.self.inside.texts.items ++ c.as_slice.result.now ∷ [] ≡ c.push_reserved.new.self.items = cc in
    subst (λ (z : List (List ℕ)). IsIndex c.place_text.new.names c.place_text.new.numbers.items z) pushed placed

pub returns : goal.returns
returns c =
    let reserved = c.in_ok-reserve.ensures.items in
    let added = c.push_reserved.ensures.items in
    let view = c.self.view_is in
    cc
