-- The step that replaces the first symbol of a form, and how many steps are left.
use Rattle.std.specs.Prelude.{◌≡◌, ◌+◌, ◌-◌, ◌==◌, ◌++◌, ◌∷◌, [], ℕ, zero, suc, Bool, true, false, List, Option, Some, None, length}
use Rattle.std.specs.Prelude.{slice_index, max}
use Rattle.wb_base.specs.declared.symbol.Symbol.{Symbol}
use Rattle.wb_base.specs.declared.symbol.Symbol.TheVariants.{Terminal, Nonterminal}
use Rattle.wb_base.specs.Grammar.{GrammarView, Production}
use Rattle.wb_scan_theory.specs.Bounds.{fewer}
use Rattle.wb_generate.specs.Counts.{total}
use Rattle.wb_generate.specs.Draws.{draw, upper, candidates, wants, chosen_of}
use Rattle.wb_generate.specs.Inner.States.{State, GoesOn}

module _ (g : GrammarView) (counts : List ℕ) where
  -- the state after a nonterminal before its form was replaced by what may be a production
  abbrev pub replaced_by : ℕ → Option Production → State → State
  replaced_by a None s = s
  replaced_by a (Some rule) s = record {
    form = rule.1 ++ s.form;
    spare = s.spare - (total counts rule.1 - slice_index counts a);
    number = draw s.number;
    made = s.made;
  }

  -- the same, unless no leaf is to spare and none is needed
  abbrev pub without : ℕ → Bool → State → State
  without a true s = s
  without a false s =
      replaced_by a (chosen_of (candidates g counts a s.spare (wants g counts a s.spare (upper (draw s.number)))) (upper (draw s.number))) s

  -- the state after the first symbol of the form was taken, where these come after it
  abbrev pub taken : Symbol → State → State
  taken (Terminal t) s = record s { made = s.made ++ t ∷ [] }
  taken (Nonterminal a) s = without a (s.spare + slice_index counts a == 0) s

  -- the next state
  abbrev pub next_in : List Symbol → State → State
  next_in [] s = s
  next_in (x ∷ form) s = taken x (record s { form = form })

  abbrev pub next : State → State
  next s = next_in s.form s

  -- the state after so many steps
  abbrev pub after : ℕ → State → State
  after zero s = s
  after (suc n) s = after n (next s)

  -- how many of so many steps are made before nothing is left of the form
  abbrev pub steps_in : (State → ℕ) → List Symbol → State → ℕ
  steps_in rest [] s = 0
  steps_in rest (x ∷ form) s = suc (rest (next_in (x ∷ form) s))

  abbrev pub steps : ℕ → State → ℕ
  steps zero s = 0
  steps (suc n) s = steps_in (steps n) s.form s

-- the state of the start alone
abbrev pub start_of : GrammarView → ℕ → ℕ → State
start_of g spare number = record { form = Nonterminal g.start ∷ []; spare = spare; number = number; made = [] }

-- the length of the longest right side
abbrev pub widest : List Production → ℕ
widest [] = 0
widest (rule ∷ rules) = max (length rule.1) (widest rules)

-- more than all nodes and leaves of a tree with so many leaves
abbrev pub bound : GrammarView → ℕ → ℕ
bound g leaves = suc (fewer g.nonterminals (widest g.productions) (suc leaves) + leaves)

-- one state goes on to a fit one, from which so many steps leave nothing
pub record IsUnderWay (g : GrammarView) (counts : List ℕ) (most many : ℕ) (start s : State) : Type 0 where
  pub goes : GoesOn g counts most start s
  pub ends : (after g counts many s).form ≡ []
