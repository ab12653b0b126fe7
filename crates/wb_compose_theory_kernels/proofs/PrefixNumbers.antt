-- Prefixes of a grammar, and of the part of a world that it is.
use Rattle.std.proofs.Common.{◌++◌, ◌∙◌, ◌∷◌, ◌≡◌, List, [], ap, map, subst}
use Rattle.std.proofs.Common.{sym}
use Rattle.wb_base.specs.declared.symbol.Symbol.{Symbol}
use Rattle.wb_base.specs.Grammar.{GrammarView}
use Rattle.wb_grammar_theory.specs.Items.{IsValidItem, IsViablePrefix}
use Rattle.wb_compose_theory.proofs.NumberLemmas.{nil_map}
use Rattle.wb_compose_theory.proofs.RenamingLemmas.{list_once, split_list, symbol_once, valid_back, valid_there}
use Rattle.wb_compose_theory.specs.Items.{IsViablePrefixIn}
use Rattle.wb_compose_theory.specs.Renamings.{Renaming, renamed, renamed_item}
use Rattle.wb_compose_theory.specs.Seams.{IsNumbering}
use Rattle.wb_compose_theory.specs.Worlds.{Part, World}

-- a prefix of the grammar is one of the part, and back
pub viable_there : {g : GrammarView} {w : World} {part : Part} {r : Renaming} → IsNumbering g w part r → (b : List Symbol) →
    IsViablePrefix g b → IsViablePrefixIn w part (map (renamed r) b)
viable_there {r = r} n b (i, t, v) = (renamed_item r i, r.terminal t, valid_there n v)

pub viable_back : {g : GrammarView} {w : World} {part : Part} {r : Renaming} → IsNumbering g w part r → (b : List Symbol) →
    IsViablePrefixIn w part (map (renamed r) b) → IsViablePrefix g b
viable_back {g} n b (i, t, v) =
    let k = valid_back n v in
    (k.item, k.t, subst (λ z. IsValidItem g z k.item k.t) (list_once n k.prefix b (sym k.prefix_is)) k.valid)

pub prefix_number : {g : GrammarView} {w : World} {part : Part} {r : Renaming} → IsNumbering g w part r → (p : List Symbol) →
    IsViablePrefixIn w part p → (b : List Symbol) × (p ≡ map (renamed r) b)
prefix_number n p (i, t, v) = let k = valid_back n v in (k.prefix, k.prefix_is)

-- the last symbol of a list whose renaming goes on from that of another
pub last_number : {g : GrammarView} {w : World} {part : Part} {r : Renaming} → IsNumbering g w part r → (b c : List Symbol) (x : Symbol) →
    map (renamed r) b ≡ map (renamed r) c ++ x ∷ [] → (y : Symbol) × (b ≡ c ++ y ∷ []) × (renamed r y ≡ x)
last_number {r = r} n b [] x e =
    let (y, rest, b_is, y_is, rest_is) = split_list r b x [] e in
    let empty = nil_map r rest rest_is in
    (y, b_is ∙ ap (λ z. y ∷ z) empty, y_is)
last_number {r = r} n b (c ∷ more) x e =
    let (y, rest, b_is, y_is, rest_is) = split_list r b (renamed r c) (map (renamed r) more ++ x ∷ []) e in
    let (z, z_rest, z_is) = last_number n rest more x rest_is in
    let same = symbol_once n y c y_is in
    (z, b_is ∙ (ap (λ q. q ∷ rest) same ∙ ap (λ q. c ∷ q) z_rest), z_is)
