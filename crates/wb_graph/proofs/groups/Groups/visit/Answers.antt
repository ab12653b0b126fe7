-- A root that is new is met first; else there is nothing to do.
use Rattle.std.proofs.Common.{◌∙◌, Some, length, refl, ap, sym}
use Rattle.std.proofs.lemmas.Option.{slice_get_read, same_Some}
use Rattle.wb_graph.specs.Inner.Groups.{state_of}
use Rattle.wb_graph.proofs.StepLemmas.{begins}
use Rattle.wb_graph.proofs.groups.Groups.visit.Goals as goal

pub path-init : goal.path-init
path-init c =
    let marks = c.args.self.now.marks.items in
    let mark = slice_get_read marks (length marks) c.args.root c.index.result.now refl c.requires.root c.index.ensures in
    let begun = begins c.args.edges.now (state_of c.args.self.now) c.requires.grouping
    (state_of c.enter.new.self) c.args.root c.requires.path (mark ∙ ap Some c.in-New.is) c.in_ok-enter.ensures in
    record { grouping = begun.0; keeps = begun.1; visited = begun.2 }

pub returns-in_default : goal.returns-in_default
returns-in_default c =
    let marks = c.args.self.now.marks.items in
    let mark = slice_get_read marks (length marks) c.args.root c.index.result.now refl c.requires.root c.index.ensures in
    record {
      grouping = c.requires.grouping;
      path = c.requires.path;
      keeps = record { len = refl; met = λ v new. new };
      visited = λ new. c.in_default.not-New (same_Some _ _ (sym mark ∙ new));
    }
