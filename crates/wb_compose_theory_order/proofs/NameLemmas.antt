-- What the host has and then each extension in turn is the same in both orders.
use Rattle.std.proofs.Common.{◌≡◌, ◌<◌, ◌+◌, ◌∙◌, ◌∷◌, ◌++◌, [], ℕ, zero, suc, List, Option, Some, None, length, map, slice_get}
use Rattle.std.proofs.Common.{refl, sym, ap, arith}
use Rattle.std.proofs.lemmas.List.{length-append}
use Rattle.std.proofs.lemmas.Option.{slice_get_past}
use Rattle.wb_base.specs.Grammar.{GrammarView}
use Rattle.wb_lemmas.proofs.Places.{append_after, append_keeps, at_within, nothing_at}
use Rattle.wb_compose_theory_order.specs.Laws.{HasSameNames}
use Rattle.wb_terms.specs.Printed.{name_of}
use Rattle.wb_compose_theory_grammar.specs.Pieces.{Piece}
use Rattle.wb_compose_theory_grammar.specs.Places.{count_before, total_of}
use Rattle.wb_compose_theory_grammar.proofs.FactLemmas.{map_at}
use Rattle.wb_compose_theory_grammar.proofs.PlaceLemmas.{Located, after_all, in_extension, in_host, located}
use Rattle.wb_values.specs.Signature.{Signature}
use Rattle.wb_compose_theory_order.specs.Names.{HasNamesInTurn, all_of, in_turn}
use Rattle.wb_compose_theory_order.specs.Orders.{IsReordering, number_to, reordered}
use Rattle.wb_compose_theory_order.proofs.NumberLemmas.{reordering_map, to_extension, to_host, to_past}

-- how many all blocks have
all_len : {X : Type 0} (blocks : List (List X)) → length (all_of blocks) ≡ total_of (map length blocks)
all_len [] = refl
all_len (first ∷ blocks) = length-append first (all_of blocks) ∙ ap (λ z. length first + z) (all_len blocks)

-- what a block has
block_at : {X : Type 0} (blocks : List (List X)) (k i : ℕ) (block : List X) (x : X) → slice_get blocks k ≡ Some block →
    slice_get block i ≡ Some x → slice_get (all_of blocks) (count_before (map length blocks) k + i) ≡ Some x
block_at [] k i block x at here = absurd (nothing_at block k at)
block_at (first ∷ blocks) zero i block x at here =
    let same : first ≡ block = cc in
    let i_is : 0 + i ≡ i = omega arith in
    append_keeps first (all_of blocks) (0 + i) x (ap (slice_get first) i_is ∙ (ap (λ z. slice_get z i) same ∙ here))
block_at (first ∷ blocks) (suc k) i block x at here =
    let is : (length first + count_before (map length blocks) k) + i ≡ length first + (count_before (map length blocks) k + i)
    = omega arith in
    ap (slice_get (first ++ all_of blocks)) is ∙
    (append_after first (all_of blocks) (count_before (map length blocks) k + i) ∙ block_at blocks k i block x at here)

module _ {X : Type 0} (own : List X) where
  -- what an extension has is there
  turn_at : (blocks : List (List X)) (k i number : ℕ) (block : List X) (x : X) → slice_get blocks k ≡ Some block →
      slice_get block i ≡ Some x → number ≡ length own + (count_before (map length blocks) k + i) →
      slice_get (in_turn own blocks) number ≡ Some x
  turn_at blocks k i number block x at here is =
      ap (slice_get (in_turn own blocks)) is ∙
      (append_after own (all_of blocks) (count_before (map length blocks) k + i) ∙ block_at blocks k i block x at here)

  -- nothing is past all
  turn_past : (blocks : List (List X)) (j number : ℕ) → number ≡ length own + (total_of (map length blocks) + j) →
      slice_get (in_turn own blocks) number ≡ None
  turn_past blocks j number is =
      let first = length-append own (all_of blocks) in
      let second = all_len blocks in
      slice_get_past (in_turn own blocks) number (omega (arith, is, first, second))

  -- at a number in the other order there is the same
  pub in_turn_there : {to from : ℕ → ℕ} {blocks others : List (List X)} → IsReordering to from blocks others → (number : ℕ) →
      slice_get (in_turn own others) (number_to (length own) (map length blocks) (map length others) to number)
      ≡ slice_get (in_turn own blocks) number
  in_turn_there {to} {from} {blocks} {others} re number = go (located (length own) (map length blocks) number)
    where
      sizes : IsReordering to from (map length blocks) (map length others)
      sizes = reordering_map length re

      there : ℕ
      there = number_to (length own) (map length blocks) (map length others) to number

      host_row : number < length own → there ≡ number →
          slice_get (in_turn own others) there ≡ slice_get (in_turn own blocks) number
      host_row below is =
          let (x, at) = at_within own number below in
          ap (slice_get (in_turn own others)) is ∙
          (append_keeps own (all_of others) number x at ∙ sym (append_keeps own (all_of blocks) number x at))

      block_row : (k i : ℕ) (block : List X) → slice_get blocks k ≡ Some block → i < length block →
          number ≡ length own + (count_before (map length blocks) k + i) →
          there ≡ length own + (count_before (map length others) (to k) + i) →
          slice_get (in_turn own others) there ≡ slice_get (in_turn own blocks) number
      block_row k i block at within is there_is =
          let (x, x_at) = at_within block i within in
          turn_at others (to k) i there block x (re.there k block at) x_at there_is ∙ sym (turn_at blocks k i number block x at x_at is)

      go : Located (length own) (map length blocks) number →
          slice_get (in_turn own others) there ≡ slice_get (in_turn own blocks) number
      go (in_host below) = host_row below (to_host (length own) sizes number below)
      go (in_extension k size i at within is) =
          let (block, block_at_k, size_is) = map_at length blocks k size at in
          block_row k i block block_at_k (omega (arith, within, size_is)) is
          (to_extension (length own) sizes k size i number at within is)
      go (after_all j is) =
          turn_past others j there (to_past (length own) sizes j number is) ∙ sym (turn_past blocks j number is)

-- a name, or the empty one
abbrev or_empty : Option (List ℕ) → List ℕ
or_empty None = []
or_empty (Some name) = name

-- the name of a number is what the list of names has there
name_at : (signatures : List Signature) (p : ℕ) → name_of signatures p ≡ or_empty (slice_get (map (λ (s : Signature). s.name) signatures) p)
name_at [] p = refl
name_at (s ∷ signatures) zero = refl
name_at (s ∷ signatures) (suc p) = name_at signatures p

-- productions have the same names in both orders
pub names_there : {host : GrammarView} {extensible : List ℕ} {pieces others : List Piece} {own : List (List ℕ)}
    {blocks other_blocks : List (List (List ℕ))} {signatures other_signatures : List Signature} {to from : ℕ → ℕ} →
    HasNamesInTurn host extensible pieces own blocks signatures →
    HasNamesInTurn host extensible others own other_blocks other_signatures → IsReordering to from blocks other_blocks →
    (g : GrammarView) → HasSameNames (reordered host extensible pieces others to) g signatures other_signatures
names_there {host} {extensible} {pieces} {others} {own} {blocks} {other_blocks} {signatures} {other_signatures} {to} one two re g p a right
    rule =
    let number : number_to (length own) (map length blocks) (map length other_blocks) to p
    ≡ (reordered host extensible pieces others to).production p
    = λ z. number_to (one.own_len z) (one.block_lens z) (two.block_lens z) to p in
    name_at other_signatures ((reordered host extensible pieces others to).production p) ∙
    (ap or_empty (ap (λ z. slice_get z ((reordered host extensible pieces others to).production p)) two.names ∙
    (ap (slice_get (in_turn own other_blocks)) (sym number) ∙
    (in_turn_there own re p ∙ ap (λ z. slice_get z p) (sym one.names)))) ∙ sym (name_at signatures p))
