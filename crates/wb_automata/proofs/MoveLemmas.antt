-- Codes of moves that are put after others.
use Rattle.std.proofs.Common.{◌≡◌, ℕ, zero, suc, ◌+◌, ◌-◌, ◌<◌, List, [], ◌∷◌, ◌++◌, refl, sym, ◌∙◌, ap, arith, None, length, get_or, map, replicate}
use Rattle.std.proofs.lemmas.List.{get_or-map, length-map, map-append}
use Rattle.wb_automata.specs.Moves.{move_at}

map_copies : (code times : ℕ) → map move_at (replicate times code) ≡ replicate times (move_at code)
map_copies code zero = refl
map_copies code (suc times) = ap (λ z. move_at code ∷ z) (map_copies code times)

-- the moves of codes after which the last one is put some times more
pub moves_repeated : (codes new : List ℕ) (times : ℕ) → 0 < length codes
    → new ≡ codes ++ replicate times (get_or codes (length codes - 1) 0)
    → map move_at new ≡ map move_at codes ++ replicate times (get_or (map move_at codes) (length (map move_at codes) - 1) None)
moves_repeated codes new times some e =
    let code : ℕ = get_or codes (length codes - 1) 0 in
    let last : get_or (map move_at codes) (length (map move_at codes) - 1) None ≡ move_at code = ap
    (λ z. get_or (map move_at codes) (z - 1) None) (length-map codes move_at)
    ∙ get_or-map move_at codes (length codes - 1) 0 None (omega arith) in
    ap (map move_at) e ∙ map-append move_at codes (replicate times code) ∙ ap (λ z. map move_at codes ++ z) (map_copies code times)
    ∙ ap (λ z. map move_at codes ++ replicate times z) (sym last)
