use Rattle.std.proofs.Common.{◌≡◌, ◌++◌, ◌∷◌, [], ℕ, take}
use Rattle.std.specs.List.{flat_map}
use Rattle.wb_names_rules.proofs.keys.add_marked.Given as goal

abbrev pub invariant-bytes : goal.invariant-bytes
invariant-bytes l = l.key.items ≡ l.fn.key.items ++ flat_map (λ (b : ℕ). 1 ∷ b ∷ []) (take l.byte-index l.text)
