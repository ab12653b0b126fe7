-- What is made of the value on top of a stack, once it is known whether there is one.
use Rattle.std.proofs.Common.{◌≡◌, ◌∷◌, [], List, refl, ap, sym, ◌∙◌}
use Rattle.wb_reader_builder.specs.Builder.{on_top}
use Rattle.wb_reader_builder.specs.Inner.Stacks.{HasFew}

-- where there is none, all is as before
pub unchanged : {X V : Type 0} (xs rest : List X) (into : List X → V) (made : X → List X → V) → (xs ≡ []) × (rest ≡ [])
    → into rest ≡ on_top xs (into xs) made
unchanged xs rest into made (was, gone) = ap into gone ∙ sym (ap (λ z. on_top z (into z) made) was)

-- where there is one, it is made of that and of the others
pub taken : {X V : Type 0} (xs rest : List X) (x : X) (otherwise : V) (made : X → List X → V) → xs ≡ x ∷ rest
    → made x rest ≡ on_top xs otherwise made
taken xs rest x otherwise made was = sym (ap (λ z. on_top z otherwise made) was)

-- where there is one at most, nothing is made of two
pub few : {X V : Type 0} (xs rest : List X) (into : List X → V) (made : X → X → List X → V) → HasFew xs × (rest ≡ [])
    → into rest ≡ on_top xs (into xs) (λ last before. on_top before (into before) (λ first others. made last first others))
few [] rest into made (short, gone) = ap into gone
few (x ∷ before) rest into made (short, gone) = unchanged before rest into (made x) (short, gone)
