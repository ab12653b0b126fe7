use Rattle.std.proofs.Common.{◌<◌, ℕ, List, sym, subst, length}
use Rattle.wb_lexical.specs.declared.clash.Clash.{Clash}
use Rattle.wb_lexical.specs.Clash.{AreOrdered, IsClash, HasNoClash}
use Rattle.wb_lexical.specs.Inner.Candidates.{AreCandidates}
use Rattle.wb_lexical.specs.Inner.Rows.{AreTogether}
use Rattle.wb_lexical.specs.Inner.Shared.{IsSharedIn, SharesNone}
use Rattle.wb_automata.specs.Sharing.{ArePairsBelow}
use Rattle.wb_lexical.proofs.FoundLemmas.{found_none, found_some, none_shared, pairs_within, shared_clash, shared_order}
use Rattle.wb_lexical.proofs.clash.find_clash.Goals as goal

pub clash_among-found-requires-clause-within : goal.clash_among-found-requires-clause-within
clash_among-found-requires-clause-within c =
    subst (λ (z : List (ℕ × ℕ)). ArePairsBelow (length c.args.terminals.now) z) (sym c.deref.ensures.value)
    (pairs_within c.args.terminals.now c.args.sets.now c.args.preferences.now c.in_ok-pairs.pairs.items c.in_ok-pairs.ensures)

module _ (c : goal.After-drop) where
  are : AreCandidates c.args.terminals.now (AreTogether c.args.sets.now) (AreOrdered c.args.preferences.now) c.deref.result.now
  are =
      subst (λ (z : List (ℕ × ℕ)). AreCandidates c.args.terminals.now (AreTogether c.args.sets.now) (AreOrdered c.args.preferences.now) z)
      (sym c.deref.ensures.value) c.in_ok-pairs.ensures

  abbrev IsFound : Clash → Type 0
  IsFound = IsSharedIn c.args.terminals.now c.args.sets.now c.deref.result.now

pub returns-clause-clash : goal.returns-clause-clash
returns-clause-clash c =
    found_some (IsFound c)
    (λ clash. IsClash c.args.terminals.now c.args.sets.now c.args.preferences.now clash.set clash.left clash.right clash.text)
    (shared_clash c.args.terminals.now c.args.sets.now c.args.preferences.now c.deref.result.now (are c)) c.clash_among-found.result
    c.clash_among-found.ensures.clash

pub returns-clause-in_order : goal.returns-clause-in_order
returns-clause-in_order c =
    found_some (IsFound c) (λ clash. clash.left < clash.right)
    (shared_order c.args.terminals.now c.args.sets.now c.args.preferences.now c.deref.result.now (are c)) c.clash_among-found.result
    c.clash_among-found.ensures.clash

pub returns-clause-none : goal.returns-clause-none
returns-clause-none c =
    found_none (IsFound c) (SharesNone c.args.terminals.now c.deref.result.now)
    (HasNoClash c.args.terminals.now c.args.sets.now c.args.preferences.now)
    (none_shared c.args.terminals.now c.args.sets.now c.args.preferences.now c.deref.result.now (are c))
    (λ clash found clear. clear clash.set clash.left clash.right clash.text
    (shared_clash c.args.terminals.now c.args.sets.now c.args.preferences.now c.deref.result.now (are c) clash found))
    c.clash_among-found.result c.clash_among-found.ensures.clash c.clash_among-found.ensures.none
