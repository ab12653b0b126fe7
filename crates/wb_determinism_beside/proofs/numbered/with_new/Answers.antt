use Rattle.wb_determinism_beside.proofs.AskedLemmas.{given_is, holes_alone, host_kernels, live_is}
use Rattle.wb_determinism_beside.proofs.numbered.with_new.Goals as goal

pub find-requires-clause-given : goal.find-requires-clause-given
find-requires-clause-given c = given_is c.args.fit.now c.requires.fit c.args.beside.now c.requires.beside

pub find-requires-clause-alone : goal.find-requires-clause-alone
find-requires-clause-alone c = holes_alone c.args.fit.now c.requires.fit c.args.beside.now c.requires.beside

pub with_found-answer-requires-clause-found : goal.with_found-answer-requires-clause-found
with_found-answer-requires-clause-found c = record {
  beside = c.requires.beside;
  found = record {
    kernels = host_kernels c.args.fit.now c.requires.fit c.args.beside.now c.requires.beside;
    live = live_is c.args.fit.now c.requires.fit c.args.beside.now c.requires.beside;
    new = c.requires.new;
    sets = rw c.in-Some.is at c.in_ok-sets.ensures;
  };
}
