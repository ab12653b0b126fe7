-- Words are said, and then a place.
use Rattle.wb_explain_names.proofs.ShowLemmas.{nothing_yet, words_more}
use Rattle.wb_explain_names.proofs.show.push_script.Goals as goal

pub places-init : goal.places-init
places-init c =
    nothing_yet c.args.sides.now.own.file.now c.args.sides.now.own.text.now c.args.sides.now.host.file.now c.args.sides.now.host.text.now
    c.args.sides.now.name.now c.args.out.now.items

pub places-preserved : goal.places-preserved
places-preserved c =
    c.in_ok-push_one.ensures c.args.out.now.items
    (words_more c.args.sides.now.own.file.now c.args.sides.now.own.text.now c.args.sides.now.host.file.now
    c.args.sides.now.host.text.now c.args.sides.now.name.now c.args.out.now.items c.places.out.items c.push_words.new.out.items
    c.places.invariant c.in_ok-push_words.ensures)

pub returns : goal.returns
returns c =
    words_more c.args.sides.now.own.file.now c.args.sides.now.own.text.now c.args.sides.now.host.file.now
    c.args.sides.now.host.text.now c.args.sides.now.name.now c.args.out.now.items c.places.out.items c.push_words-2.new.out.items
    c.places.invariant c.in_ok-push_words-2.ensures
