use Rattle.std.proofs.Common.{◌≡◌, ◌<◌, ◌/◌, ◌%◌, ◌+◌, ◌*◌, ◌^◌, false, refl, rules, length, subst, sym}
use Rattle.std.proofs.lemmas.Result.{IfOk-weaker}
use Rattle.wb_automata.specs.Inner.Pairs.{Adds, IsAfter, is_stuck}
use Rattle.wb_automata.proofs.AnswerLemmas.{after_from, after_none, after_small, after_to, pair_fits, product_fits, target_is}
use Rattle.wb_automata.proofs.PairLemmas.{adds_none, adds_same, places_of_pair, right_below}
use Rattle.wb_automata.proofs.walk.meet_next.Goals as goal

pub overflow_mul-q : goal.overflow_mul-q
overflow_mul-q c =
    let places = c.args.places.now in
    let (lt, lt') = after_small places c.args.byte c.args.pair c.target-left.result c.target-right.result c.both.result
    (target_is places (c.args.pair / length places) c.args.byte _ c.target-left.result c.requires.pair c.target-left.ensures)
    (target_is places (c.args.pair % length places) c.args.byte _ c.target-right.result (right_below places c.args.pair c.requires.pair)
    c.target-right.ensures) c.both.ensures c.in-Some.q c.in-Some.r c.in-Some.is
    c.requires.small.below c.requires.pair in
    let fits : c.in-Some.q * length places < 2 ^ 64 = product_fits c.in-Some.q (length places) lt c.requires.small.fits in
    search rules

pub overflow_add-q : goal.overflow_add-q
overflow_add-q c =
    let places = c.args.places.now in
    let (lt, lt') = after_small places c.args.byte c.args.pair c.target-left.result c.target-right.result c.both.result
    (target_is places (c.args.pair / length places) c.args.byte _ c.target-left.result c.requires.pair c.target-left.ensures)
    (target_is places (c.args.pair % length places) c.args.byte _ c.target-right.result (right_below places c.args.pair c.requires.pair)
    c.target-right.ensures) c.both.ensures c.in-Some.q c.in-Some.r c.in-Some.is
    c.requires.small.below c.requires.pair in
    let fits : c.in-Some.q * length places + c.in-Some.r < 2 ^ 64 = pair_fits c.in-Some.q c.in-Some.r (length places) lt lt'
    c.requires.small.fits in
    search rules

pub returns-in-None : goal.returns-in-None
returns-in-None c =
    let places = c.args.places.now in
    adds_none (IsAfter places c.args.byte c.args.pair) c.args.met.now c.args.next.now (after_none places c.args.byte c.args.pair c.target-left.result c.target-right.result c.both.result
    (target_is places (c.args.pair / length places) c.args.byte _ c.target-left.result c.requires.pair c.target-left.ensures)
    (target_is places (c.args.pair % length places) c.args.byte _ c.target-right.result (right_below places c.args.pair c.requires.pair)
    c.target-right.ensures) c.both.ensures c.in-None.is)

pub meet_open-requires : goal.meet_open-requires
meet_open-requires c =
    let places = c.args.places.now in
    let q = c.in-Some.q in
    let r = c.in-Some.r in
    let (lt, lt') = after_small places c.args.byte c.args.pair c.target-left.result c.target-right.result c.both.result
    (target_is places (c.args.pair / length places) c.args.byte _ c.target-left.result c.requires.pair c.target-left.ensures)
    (target_is places (c.args.pair % length places) c.args.byte _ c.target-right.result (right_below places c.args.pair c.requires.pair)
    c.target-right.ensures) c.both.ensures q r c.in-Some.is c.requires.small.below c.requires.pair in
    let (left_is, right_is) = places_of_pair (length places) q r (q * length places + r) lt' refl in
    subst (λ z. z < length places) (sym left_is) lt

pub returns-in-Some : goal.returns-in-Some
returns-in-Some c =
    let places = c.args.places.now in
    let q = c.in-Some.q in
    let r = c.in-Some.r in
    IfOk-weaker c.meet_open.result
    (λ _. Adds (λ d. (d ≡ q * length places + r) × (is_stuck places d ≡ false)) c.args.met.now c.args.next.now c.meet_open.new.met
    c.meet_open.new.next)
    (λ _. Adds (IsAfter places c.args.byte c.args.pair) c.args.met.now c.args.next.now c.meet_open.new.met c.meet_open.new.next)
    (λ _ h. adds_same (λ d. (d ≡ q * length places + r) × (is_stuck places d ≡ false)) (IsAfter places c.args.byte c.args.pair)
    c.args.met.now
    c.args.next.now c.meet_open.new.met c.meet_open.new.next
    (λ d (e, f). after_from places c.args.byte c.args.pair c.target-left.result c.target-right.result c.both.result
    (target_is places (c.args.pair / length places) c.args.byte _ c.target-left.result c.requires.pair c.target-left.ensures)
    (target_is places (c.args.pair % length places) c.args.byte _ c.target-right.result (right_below places c.args.pair c.requires.pair)
    c.target-right.ensures) c.both.ensures q r d c.in-Some.is e f)
    (λ d a. (
      after_to places c.args.byte c.args.pair c.target-left.result c.target-right.result c.both.result
          (target_is places (c.args.pair / length places) c.args.byte _ c.target-left.result c.requires.pair c.target-left.ensures)
          (target_is places (c.args.pair % length places) c.args.byte _ c.target-right.result
          (right_below places c.args.pair c.requires.pair)
          c.target-right.ensures) c.both.ensures q r d c.in-Some.is a,
      a.goes_on,
    )) h) c.meet_open.ensures
