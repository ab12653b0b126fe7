use Rattle.std.proofs.Common.{◌≡◌, ◌-◌, ◌<◌, ◌++◌, ◌∙◌, ℕ, List, Option, None, ap, arith, get_or, length, map, replicate, subst}
use Rattle.std.proofs.lemmas.List.{length-map}
use Rattle.wb_automata.specs.Moves.{move_at}
use Rattle.wb_automata.proofs.MoveLemmas.{moves_repeated}
use Rattle.wb_automata.proofs.moves.Moves.repeat.Goals as goal

pub last_of-code-requires : goal.last_of-code-requires
last_of-code-requires c = rw (c.deref.ensures.value) (omega (
  arith,
  c.requires,
  ap (λ (v : List (Option ℕ)). length v) c.self.view_is,
  length-map c.self.inside.codes.items move_at,
))

pub returns : goal.returns
returns c =
    let codes : List ℕ = c.self.inside.codes.items in
    let some : 0 < length codes = omega (
      arith,
      c.requires,
      ap (λ (v : List (Option ℕ)). length v) c.self.view_is,
      length-map codes move_at,
    ) in
    let code : c.last_of-code.result ≡ get_or codes (length codes - 1) 0 = rw (c.deref.ensures.value) at c.last_of-code.ensures in
    subst (λ (v : List (Option ℕ)). map move_at c.add_copies.new.codes.items ≡ v ++ replicate c.args.times
    (get_or v (length v - 1) None)) c.self.view_is
    (moves_repeated codes c.add_copies.new.codes.items c.args.times some
    (c.in_ok-add_copies.ensures ∙ ap (λ z. codes ++ replicate c.args.times z) code))
