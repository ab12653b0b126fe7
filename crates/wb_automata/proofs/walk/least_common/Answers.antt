use Rattle.std.proofs.Common.{◌≡◌, ◌∙◌, Some, [], ap, sym, subst, arith, get_or, length}
use Rattle.std.specs.Prelude.{slice_get}
use Rattle.std.proofs.lemmas.Option.{slice_get-get_or}
use Rattle.wb_automata.specs.Automata.{Path}
use Rattle.wb_automata.specs.Paths.{paths_of}
use Rattle.wb_automata.specs.Order.{IsAtMost}
use Rattle.wb_automata.specs.Inner.Endings.{IsEnding}
use Rattle.wb_automata.specs.Inner.Pairs.{LeadsToBoth, met_of}
use Rattle.wb_automata.proofs.TextLemmas.{paths_len}
use Rattle.wb_automata.proofs.walk.least_common.Goals as goal

pub text_at-requires : goal.text_at-requires
text_at-requires c =
    let os = c.first_ending.new.groups.predecessors.items in
    let e = subst (IsEnding c.args.seeds.now.places.now c.args.seeds.now.pairs.now (met_of c.first_ending.new.groups)) c.in-Some.is
    c.in_ok-first_ending.ensures in
    omega (arith, e.within, ap length c.deref.ensures.value, paths_len os)

pub returns : goal.returns
returns c =
    let os = c.first_ending.new.groups.predecessors.items in
    let g = c.in-Some.ending.group in
    let places = c.args.seeds.now.places.now in
    let seeds = c.args.seeds.now.pairs.now in
    let e = subst (IsEnding places seeds (met_of c.first_ending.new.groups)) c.in-Some.is c.in_ok-first_ending.ensures in
    let path : Path = get_or (paths_of os) g (record { set = 0; text = [] }) in
    let at : slice_get (paths_of os) g ≡ Some path = slice_get-get_or (paths_of os) g (record { set = 0; text = [] }) e.within in
    let text = c.in_ok-text_at-in-Some.ensures path (ap (λ z. slice_get (paths_of z) g) c.deref.ensures.value ∙ at) in
    record {
      leads = subst (LeadsToBoth places seeds c.in-Some.ending.left c.in-Some.ending.right) (sym text) e.leads;
      least = λ i j other lead. subst (λ z. IsAtMost z other) (sym text) (e.least i j other lead);
    }
