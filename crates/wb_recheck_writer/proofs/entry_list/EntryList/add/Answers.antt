use Rattle.std.proofs.Common.{◌≡◌, ◌++◌, ◌∷◌, [], List, Bool, true, false, not, sym, subst, rules}
use Rattle.std.specs.List.{list_any}
use Rattle.wb_recheck_theory.specs.declared.entry.Entry.{Entry}
use Rattle.wb_recheck_writer.specs.Inner.Reached.{Adds, key_of}
use Rattle.wb_recheck_writer.proofs.KeyLemmas.{adds_new, adds_none, same_key}
use Rattle.wb_recheck_writer.proofs.entry_list.EntryList.add.Goals as goal

not_true : (b : Bool) → not b ≡ true → b ≡ false
not_true true e = cc
not_true false e = cc

not_false : (b : Bool) → not b ≡ false → b ≡ true
not_false true e = cc
not_false false e = cc

pub returns-then-new : goal.returns-then-new
returns-then-new c =
    let keys = c.self.inside.keys.keys in
    let off : not (list_any (same_key (key_of c.args.entry)) keys) ≡ true = search rules in
    let pushed : c.push_reserved.new.self.items ≡ c.self.inside.entries.items ++ c.args.entry ∷ [] = search rules in
    subst (λ (old : List Entry). Adds old c.args.entry c.push_reserved.new.self.items) c.self.view_is
    (subst (λ (new : List Entry). Adds c.self.inside.entries.items c.args.entry new) (sym pushed)
    (adds_new c.self.inside.entries.items keys c.args.entry c.self.invariant
    (not_true (list_any (same_key (key_of c.args.entry)) keys) off)))

pub returns-else-new : goal.returns-else-new
returns-else-new c =
    let keys = c.self.inside.keys.keys in
    let on : not (list_any (same_key (key_of c.args.entry)) keys) ≡ false = search rules in
    let kept : c.reserve.new.self.items ≡ c.self.inside.entries.items = search rules in
    subst (λ (old : List Entry). Adds old c.args.entry c.reserve.new.self.items) c.self.view_is
    (subst (λ (new : List Entry). Adds c.self.inside.entries.items c.args.entry new) (sym kept)
    (adds_none c.self.inside.entries.items keys c.args.entry c.self.invariant
    (not_false (list_any (same_key (key_of c.args.entry)) keys) on)))
