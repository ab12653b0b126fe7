use Rattle.wb_marking.proofs.PlaceLemmas as p
use Rattle.wb_marking.proofs.places.check_by.Goals as goal

pub returns-in-Some-clause-refused : goal.returns-in-Some-clause-refused
returns-in-Some-clause-refused c =
    p.misplaced c.args.scope.now.parts.now c.args.scope.now.grammar.now c.args.table.now c.requires.table c.in-Some.marker c.requires.begin
    c.in-Some.ensures.some

pub returns-in-Some-unused-clause-refused : goal.returns-in-Some-unused-clause-refused
returns-in-Some-unused-clause-refused c =
    p.unused c.args.scope.now.parts.now c.args.scope.now.grammar.now c.args.table.now c.requires.table c.in-Some-unused.marker
    c.requires.begin
    c.in-Some-unused.ensures.some

pub returns-in-None-clause-ok : goal.returns-in-None-clause-ok
returns-in-None-clause-ok c =
    p.each_one c.args.scope.now.parts.now c.args.scope.now.grammar.now c.args.table.now c.requires.table c.in_default.ensures.none
    c.in-None.ensures.none
