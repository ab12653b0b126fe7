-- Where declarations of the same thing are one, they are so in a part, and no two parts declare the same.
use Rattle.std.proofs.Common.{◌≡◌, ◌+◌, ◌++◌, List, Contains, length, ◌∙◌, arith}
use Rattle.std.proofs.lemmas.Option.{slice_get_within}
use Rattle.wb_lemmas.proofs.Members.{place_of}
use Rattle.wb_lemmas.proofs.Places.{append_keeps, append_after}
use Rattle.wb_names_theory.specs.declared.declaration.Declaration.{Declaration}
use Rattle.wb_names_theory.specs.Duplicate.{AreSame}
use Rattle.wb_names_theory.specs.Hold.{AreOnce}

pub once_right : (xs ys : List Declaration) → AreOnce (xs ++ ys) → AreOnce ys
once_right xs ys once i j x y a b same =
    let e : length xs + i ≡ length xs + j =
    once (length xs + i) (length xs + j) x y (append_after xs ys i ∙ a) (append_after xs ys j ∙ b) same in
    omega (arith, e)

pub once_apart : (xs ys : List Declaration) (x y : Declaration) → AreOnce (xs ++ ys) → AreSame x y → Contains xs x → Contains ys y → ⊥
once_apart xs ys x y once same before after =
    let (i, at) = place_of xs x before in
    let (j, there) = place_of ys y after in
    let within = slice_get_within xs i x at in
    let e : i ≡ length xs + j = once i (length xs + j) x y (append_keeps xs ys i x at) (append_after xs ys j ∙ there) same in
    omega (arith, within, e)
