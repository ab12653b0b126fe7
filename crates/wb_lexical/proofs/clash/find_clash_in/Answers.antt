use Rattle.std.proofs.Common.{◌<◌, ℕ, List, refl}
use Rattle.std.specs.Prelude.{IfOk, IfSome}
use Rattle.wb_automata.specs.Automata.{IsMatch}
use Rattle.wb_automata.specs.Order.{IsAtMost}
use Rattle.wb_lexical.specs.declared.clash.Clash.{Clash}
use Rattle.wb_lexical.specs.Clash.{IsClash, HasNoClash}
use Rattle.wb_lexical.specs.Inner.Undecided.{IsLeastClash, HasNoUndecided}
use Rattle.wb_lexical.proofs.FoundLemmas.{found_none, found_some}
use Rattle.wb_lexical.proofs.ClashLemmas.{clash_is, least_is, no_clash}
use Rattle.wb_lexical.proofs.clash.find_clash_in.Goals as goal

module _ (c : goal.After-clash_in) where
  -- what the automaton found
  abbrev IsFound : Clash → Type 0
  IsFound clash = IsLeastClash c.args.automaton.now c.args.preferences.now clash.set clash.left clash.right clash.text

  weaker : (Q : Clash → Type 0) → ((clash : Clash) → IsFound clash → Q clash) → IfOk c.clash_in.result (λ found. IfSome found Q)
  weaker Q f = found_some IsFound Q f c.clash_in.result c.clash_in.ensures.clash

  is_clash : (clash : Clash) → IsFound clash
      → IsClash c.args.automaton.now.terminals c.args.automaton.now.sets c.args.preferences.now clash.set clash.left clash.right clash.text
  is_clash clash = clash_is c.args.automaton.now c.args.automaton.now.terminals c.args.automaton.now.sets c.args.preferences.now clash.set clash.left
      clash.right clash.text refl refl

pub returns-clause-clash : goal.returns-clause-clash
returns-clause-clash c = weaker c
    (λ clash. IsClash c.args.automaton.now.terminals c.args.automaton.now.sets c.args.preferences.now clash.set clash.left clash.right clash.text) (is_clash c)

pub returns-clause-in_order : goal.returns-clause-in_order
returns-clause-in_order c = weaker c (λ clash. clash.left < clash.right) (λ clash found. found.less)

pub returns-clause-least : goal.returns-clause-least
returns-clause-least c = weaker c (λ clash. (text : List ℕ) → IsMatch c.args.automaton.now.terminals clash.left text
    → IsMatch c.args.automaton.now.terminals clash.right text → IsAtMost clash.text text)
    (λ clash. least_is c.args.automaton.now c.args.automaton.now.terminals c.args.preferences.now clash.set clash.left clash.right
    clash.text refl)

pub returns-clause-none : goal.returns-clause-none
returns-clause-none c = found_none (IsFound c) (HasNoUndecided c.args.automaton.now c.args.preferences.now)
    (HasNoClash c.args.automaton.now.terminals c.args.automaton.now.sets c.args.preferences.now)
    (no_clash c.args.automaton.now c.args.automaton.now.terminals c.args.automaton.now.sets c.args.preferences.now
    refl refl)
    (λ clash found clear. clear clash.set clash.left clash.right clash.text
    (is_clash c clash found)) c.clash_in.result c.clash_in.ensures.clash c.clash_in.ensures.none
