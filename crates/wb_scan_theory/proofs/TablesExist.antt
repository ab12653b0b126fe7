-- A live grammar without conflict has tables.
use Rattle.std.proofs.Common.{◌≡◌, ◌≢◌, ◌<◌, ◌+◌, ◌⊎◌, inl, inr, ℕ, Bool, true, false, List, [], ◌∷◌, refl, sym, subst, arith}
use Rattle.std.proofs.Common.{Option, Some, None}
use Rattle.std.specs.Prelude.{◌↔◌, IsNone}
use Rattle.std.proofs.lemmas.Bool.{true≢false}
use Rattle.wb_base.specs.declared.symbol.Symbol.{Symbol}
use Rattle.wb_base.specs.declared.symbol.Symbol.TheVariants.{Nonterminal}
use Rattle.wb_base.specs.Grammar.{GrammarView, IsGrammar}
use Rattle.wb_grammar_theory.specs.declared.item.Item.{Item}
use Rattle.wb_grammar_theory.specs.Items.{after_dot, HasItem}
use Rattle.wb_grammar_theory.specs.Lookaheads.{IsValidTerminal, HasNoConflict}
use Rattle.wb_grammar_theory.specs.Shape.{IsReduced}
use Rattle.wb_grammar_theory.proofs.FlowLemmas.{onward}
use Rattle.wb_grammar_theory.proofs.LiveLemmas.{reduced_live}
use Rattle.wb_items.specs.Kernels.{KernelsView, AreKernels, count_of, prefix_of}
use Rattle.wb_lookahead.specs.declared.action.Action.{Action}
use Rattle.wb_lookahead.specs.declared.action.Action.TheVariants as act
use Rattle.wb_lookahead.specs.Contents.{TablesView, action_in, goto_in}
use Rattle.wb_lookahead.specs.Tables.{AreTables, IsAction, IsGoto, IsValidSet, Stands}
use Rattle.wb_scan_theory.specs.Parts.{AreTablesOf}
use Rattle.wb_lemmas.proofs.NotNot.{decide, follows, bind, Chosen, choose}
use Rattle.wb_scan_theory.proofs.KernelsExist.{kernels_exist}
use Rattle.wb_lookahead.proofs.StandLemmas.{stands_valid, valid_stands, stands_once, goto_is}

module _ (kernels : KernelsView) (h : AreKernels kernels) (clear : HasNoConflict kernels.grammar) where
  abbrev g : GrammarView
  g = kernels.grammar

  -- the action at a kernel on a terminal
  action_by : (s t : ℕ) → s < count_of kernels → (IsValidTerminal g (prefix_of kernels s) t ⊎ ¬ IsValidTerminal g (prefix_of kernels s) t)
      → (action : Action) × IsAction kernels s t action
  action_by s t lt (inl valid) = there (valid_stands kernels s t h lt valid) where
    not_none : (action : Action) → Stands kernels s t action → action ≢ act.None
    not_none action stands e = subst (Stands kernels s t) e stands

    there : (action : Action) × Stands kernels s t action → (action : Action) × IsAction kernels s t action
    there (action, stands) = (
      action,
      record {
        none = (λ e. absurd (not_none action stands e), λ invalid. absurd (invalid valid));
        stands = λ some. stands;
        only = λ other also. stands_once h clear s t action other stands also;
      },
    )
  action_by s t lt (inr invalid) = (
    act.None,
    record {
      none = (λ e. invalid, λ i. refl);
      stands = λ some. absurd (some refl);
      only = λ other also. absurd (invalid (stands_valid kernels s t other also));
    },
  )

  action_row : (s : ℕ) → s < count_of kernels → ¬ ¬ ((row : List Action) × ((t : ℕ) → t < g.terminals + 1 → IsAction kernels s t (action_in row t)))
  action_row s lt = follows
      (choose (g.terminals + 1) act.None (IsAction kernels s) (λ t within. follows (decide (IsValidTerminal g (prefix_of kernels s) t)) (action_by s t lt)))
      (λ c. (c.list, c.each))

  -- the kernel after a nonterminal
  abbrev IsBefore : ℕ → ℕ → Type 0
  IsBefore s b = (item : Item) × (rest : List Symbol) × HasItem g (prefix_of kernels s) item × (after_dot g item ≡ Nonterminal b ∷ rest)

  goto_by : (s b : ℕ) → s < count_of kernels → (IsBefore s b ⊎ ¬ IsBefore s b) → (goto : Option ℕ) × IsGoto kernels s b goto
  goto_by s b lt (inl (item, rest, has, is)) =
      let on = onward (prefix_of kernels) h.live h.states s lt item (Nonterminal b) rest has is in
      (Some on.to, goto_is h s b (Some on.to) on.next (λ none. absurd (some_none on.to none), λ none. absurd (none item rest has is))) where
        some_none : (n : ℕ) → IsNone (Some n) → ⊥
        some_none n none = cc
  goto_by s b lt (inr nothing) = (None, goto_is h s b None tt (λ e item rest has is. nothing (item, rest, has, is), λ n. refl))

  goto_row : (s : ℕ) → s < count_of kernels → ¬ ¬ ((row : List (Option ℕ)) × ((b : ℕ) → b < g.nonterminals → IsGoto kernels s b (goto_in row b)))
  goto_row s lt = follows
      (choose g.nonterminals None (IsGoto kernels s) (λ b within. follows (decide (IsBefore s b)) (goto_by s b lt)))
      (λ c. (c.list, c.each))

  -- the valid terminals of a kernel
  abbrev IsFlag : ℕ → ℕ → Bool → Type 0
  IsFlag s t flag = (flag ≡ true) ↔ IsValidTerminal g (prefix_of kernels s) t

  flag_by : (s t : ℕ) → (IsValidTerminal g (prefix_of kernels s) t ⊎ ¬ IsValidTerminal g (prefix_of kernels s) t) → (flag : Bool) × IsFlag s t flag
  flag_by s t (inl valid) = (true, (λ e. valid, λ v. refl))
  flag_by s t (inr invalid) = (false, (λ e. absurd (true≢false (sym e)), λ v. absurd (invalid v)))

  valid_set : (s : ℕ) → ¬ ¬ ((set : List Bool) × IsValidSet kernels s set)
  valid_set s = follows
      (choose (g.terminals + 1) false (IsFlag s) (λ t within. follows (decide (IsValidTerminal g (prefix_of kernels s) t)) (flag_by s t)))
      (λ c. (c.list, record { len = c.len; each = λ t le. c.each t (omega (arith, le)) }))

  abbrev ActionRow : ℕ → List Action → Type 0
  ActionRow s row = (t : ℕ) → t < g.terminals + 1 → IsAction kernels s t (action_in row t)

  abbrev GotoRow : ℕ → List (Option ℕ) → Type 0
  GotoRow s row = (b : ℕ) → b < g.nonterminals → IsGoto kernels s b (goto_in row b)

  abbrev view : Chosen (count_of kernels) [] ActionRow → Chosen (count_of kernels) [] GotoRow → Chosen (count_of kernels) [] (IsValidSet kernels) → TablesView
  view a b c = record { terminals = g.terminals; nonterminals = g.nonterminals; actions = a.list; gotos = b.list; valid = c.list }

  all_tables : (a : Chosen (count_of kernels) [] ActionRow) (b : Chosen (count_of kernels) [] GotoRow)
      (c : Chosen (count_of kernels) [] (IsValidSet kernels)) → AreTables kernels (view a b c)
  all_tables a b c = record {
    terminals = refl;
    nonterminals = refl;
    count = c.len;
    actions = λ s t lt le. a.each s lt t (omega (arith, le));
    gotos = λ s n lt within. b.each s lt n within;
    valid = λ s lt. c.each s lt;
    no_conflict = clear;
  }

  tables_of : ¬ ¬ ((tables : TablesView) × AreTables kernels tables)
  tables_of =
      bind (choose (count_of kernels) [] ActionRow action_row) (λ a.
      bind (choose (count_of kernels) [] GotoRow goto_row) (λ b.
      follows (choose (count_of kernels) [] (IsValidSet kernels) (λ s lt. valid_set s)) (λ c. (view a b c, all_tables a b c))))

pub tables_exist : (g : GrammarView) → IsGrammar g → IsReduced g → HasNoConflict g → ¬ ¬ ((tables : TablesView) × AreTablesOf g tables)
tables_exist grammar ok reduced clear = bind (kernels_exist grammar (reduced_live grammar ok reduced)) (λ (kernels, are, same).
    follows (tables_of kernels are (subst HasNoConflict (sym same) clear)) (λ (tables, t).
    (tables, record { kernels = kernels; are_kernels = are; same = same; are_tables = t })))

pub kernels_there : (g : GrammarView) → IsGrammar g → IsReduced g → ¬ ¬ ((kernels : KernelsView) × AreKernels kernels × (kernels.grammar ≡ g))
kernels_there grammar ok reduced = kernels_exist grammar (reduced_live grammar ok reduced)
