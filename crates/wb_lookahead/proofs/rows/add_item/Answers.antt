use Rattle.std.proofs.Common.{◌≡◌, ◌↔◌, ℕ, ◌≤◌, [], ◌∷◌, length, sym, ◌∙◌, ap, subst}
use Rattle.std.proofs.lemmas.List.{length-map}
use Rattle.std.proofs.lemmas.Result.{on_ok_weaker, IfErr-weaker}
use Rattle.wb_base.specs.declared.symbol.Symbol.TheVariants.{Terminal, Nonterminal}
use Rattle.wb_base.specs.Grammar.{GrammarView}
use Rattle.wb_termset.specs.Sets.{IsMember}
use Rattle.wb_grammar_theory.specs.Items.{after_dot}
use Rattle.wb_grammar_theory.specs.Lookaheads.{IsLookahead}
use Rattle.wb_items.specs.Kernels.{LeadsTo, prefix_of}
use Rattle.wb_lookahead.specs.declared.action.Action.TheVariants.{Shift}
use Rattle.wb_lookahead.specs.Codes.{action_at}
use Rattle.wb_lookahead.specs.Tables.{IsTableRefusal, Stands}
use Rattle.wb_lookahead.specs.Inner.Rows.{IsClash, IsReduction}
use Rattle.wb_lookahead.specs.Inner.KernelRows.{actions_of}
use Rattle.wb_lookahead.proofs.RowLemmas.{clash_refused, complete_asks, complete_stands, nothing_asked, shift_asks}
use Rattle.wb_lookahead.proofs.KernelRowLemmas.{adds_in, adds_nothing, reduction_some, shift_some}
use Rattle.wb_grammar_theory.proofs.ShiftLemmas.{valid_production}
use Rattle.wb_items.proofs.CallerLemmas.{row_has, set_wide}
use Rattle.wb_lookahead.proofs.rows.add_item.Goals as goal

pub reduction-requires : goal.reduction-requires
reduction-requires c = subst (λ (g : GrammarView). c.args.item.production ≤ length g.productions) c.requires.grammar
    (valid_production c.requires.item.1)

pub of-requires-clause-item : goal.of-requires-clause-item
of-requires-clause-item c =
    row_has c.requires.kernels c.args.lookaheads.now c.requires.lookaheads.shape c.args.state c.args.item c.requires.state c.requires.item

pub returns-in_default-clause-ok : goal.returns-in_default-clause-ok
returns-in_default-clause-ok c =
    let complete : after_dot c.args.kernels.now.grammar c.args.item ≡ [] = subst (λ (g : GrammarView). after_dot g c.args.item ≡ [])
    (sym c.requires.grammar) c.in_default.ensures.symbol in
    let is : IsReduction (length c.args.kernels.now.grammar.productions) c.args.item.production (action_at c.in_ok-code.code) = subst
    (λ (g : GrammarView). IsReduction (length g.productions) c.args.item.production (action_at c.in_ok-code.code))
    (sym c.requires.grammar) (subst (IsReduction (length c.args.grammar.now.productions) c.args.item.production)
    (sym c.in_ok-code.ensures) c.reduction.ensures) in
    let exact : (t : ℕ) → IsMember c.of.result.now t ↔ IsLookahead c.args.kernels.now.grammar
    (prefix_of c.args.kernels.now c.args.state) c.args.item t =
    λ t. c.requires.lookaheads.exact c.args.state c.args.item c.of.result.now t c.requires.state c.of.ensures in
    on_ok_weaker c.reduce_before.result
    (adds_in (IsMember c.of.result.now) (reduction_some is)
    (λ t has. complete_stands c.args.kernels.now c.args.state c.args.item (action_at c.in_ok-code.code) c.requires.item complete is t
    ((exact t).0 has))
    (λ t a asks. (let (look, e) = complete_asks complete is t a asks in ((exact t).1 look, e)))
    c.requires.sound)
    c.reduce_before.ensures.ok

pub returns-in_default-clause-refused : goal.returns-in_default-clause-refused
returns-in_default-clause-refused c =
    let complete : after_dot c.args.kernels.now.grammar c.args.item ≡ [] = subst (λ (g : GrammarView). after_dot g c.args.item ≡ [])
    (sym c.requires.grammar) c.in_default.ensures.symbol in
    let is : IsReduction (length c.args.kernels.now.grammar.productions) c.args.item.production (action_at c.in_ok-code.code) = subst
    (λ (g : GrammarView). IsReduction (length g.productions) c.args.item.production (action_at c.in_ok-code.code))
    (sym c.requires.grammar) (subst (IsReduction (length c.args.grammar.now.productions) c.args.item.production)
    (sym c.in_ok-code.ensures) c.reduction.ensures) in
    let exact : (t : ℕ) → IsMember c.of.result.now t ↔ IsLookahead c.args.kernels.now.grammar
    (prefix_of c.args.kernels.now c.args.state) c.args.item t =
    λ t. c.requires.lookaheads.exact c.args.state c.args.item c.of.result.now t c.requires.state c.of.ensures in
    IfErr-weaker c.reduce_before.result
    (IsClash c.args.state (actions_of c.args.row.now) (IsMember c.of.result.now) (action_at c.in_ok-code.code))
    (IsTableRefusal c.args.kernels.now)
    (clash_refused (IsMember c.of.result.now) c.requires.kernels c.requires.state
    (λ t has. complete_stands c.args.kernels.now c.args.state c.args.item (action_at c.in_ok-code.code) c.requires.item complete is t
    ((exact t).0 has))
    c.requires.sound.actions)
    c.reduce_before.ensures.refused

pub returns-in_default-symbol-clause-ok : goal.returns-in_default-symbol-clause-ok
returns-in_default-symbol-clause-ok c =
    let (rest, is) = c.in-Some.ensures.symbol in
    let before : after_dot c.args.kernels.now.grammar c.args.item ≡ Nonterminal c.in_default-symbol.field-0 ∷ rest = subst
    (λ (g : GrammarView). after_dot g c.args.item ≡ Nonterminal c.in_default-symbol.field-0 ∷ rest) (sym c.requires.grammar)
    (is ∙ ap (λ x. x ∷ rest) c.in_default-symbol.is) in
    adds_nothing c.args.state c.args.item c.args.row.now
    (nothing_asked c.args.state c.args.item c.in_default-symbol.field-0 rest before) c.requires.sound

pub returns-clause-ok : goal.returns-clause-ok
returns-clause-ok c =
    let (rest, is) = c.in-Some.ensures.symbol in
    let before : after_dot c.args.kernels.now.grammar c.args.item ≡ Terminal c.in-Terminal.terminal ∷ rest = subst
    (λ (g : GrammarView). after_dot g c.args.item ≡ Terminal c.in-Terminal.terminal ∷ rest) (sym c.requires.grammar)
    (is ∙ ap (λ x. x ∷ rest) c.in-Terminal.is) in
    let leads : LeadsTo c.args.kernels.now c.args.state
    (Terminal c.in-Terminal.terminal) c.in-Some-next.next = c.in-Some-next.ensures.some in
    on_ok_weaker c.shift_at.result
    (adds_in (λ t. t ≡ c.in-Terminal.terminal) (shift_some c.in_ok-code-2.ensures)
    (λ t same. subst (Stands c.args.kernels.now c.args.state t) (sym c.in_ok-code-2.ensures)
    (subst (λ z. Stands c.args.kernels.now c.args.state z (Shift c.in-Some-next.next)) (sym same)
    (record { item = c.args.item; rest = rest; has = c.requires.item; before_dot = before }, leads)))
    (λ t a asks.
    (let (at, e) = shift_asks c.requires.kernels c.args.state c.args.item c.in-Terminal.terminal c.in-Some-next.next rest before leads t a
    asks in (at, e ∙ sym c.in_ok-code-2.ensures)))
    c.requires.sound)
    c.shift_at.ensures.ok

pub returns-clause-refused : goal.returns-clause-refused
returns-clause-refused c =
    let (rest, is) = c.in-Some.ensures.symbol in
    let before : after_dot c.args.kernels.now.grammar c.args.item ≡ Terminal c.in-Terminal.terminal ∷ rest = subst
    (λ (g : GrammarView). after_dot g c.args.item ≡ Terminal c.in-Terminal.terminal ∷ rest) (sym c.requires.grammar)
    (is ∙ ap (λ x. x ∷ rest) c.in-Terminal.is) in
    let leads : LeadsTo c.args.kernels.now c.args.state
    (Terminal c.in-Terminal.terminal) c.in-Some-next.next = c.in-Some-next.ensures.some in
    IfErr-weaker c.shift_at.result
    (IsClash c.args.state (actions_of c.args.row.now) (λ t. t ≡ c.in-Terminal.terminal) (action_at c.in_ok-code-2.code))
    (IsTableRefusal c.args.kernels.now)
    (clash_refused (λ t. t ≡ c.in-Terminal.terminal) c.requires.kernels c.requires.state
    (λ t same. subst (Stands c.args.kernels.now c.args.state t) (sym c.in_ok-code-2.ensures)
    (subst (λ z. Stands c.args.kernels.now c.args.state z (Shift c.in-Some-next.next)) (sym same)
    (record { item = c.args.item; rest = rest; has = c.requires.item; before_dot = before }, leads)))
    c.requires.sound.actions)
    c.shift_at.ensures.refused

pub reduce_before-requires-clause-codes : goal.reduce_before-requires-clause-codes
reduce_before-requires-clause-codes c =
    sym (length-map c.args.row.now.codes.items action_at) ∙ c.requires.sound.actions.len ∙
    sym (set_wide c.requires.kernels c.args.lookaheads.now c.requires.lookaheads.shape c.args.state c.args.item c.of.result.now c.of.ensures)

pub reduce_before-requires-clause-valid : goal.reduce_before-requires-clause-valid
reduce_before-requires-clause-valid c =
    c.requires.sound.valid.len ∙ c.requires.sound.actions.len ∙
    sym (set_wide c.requires.kernels c.args.lookaheads.now c.requires.lookaheads.shape c.args.state c.args.item c.of.result.now c.of.ensures)
