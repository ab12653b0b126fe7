-- Moves between listed kernels, by the numbers of these.
use Rattle.std.proofs.Common.{◌≡◌, ℕ, ◌<◌, List, ◌∷◌, [], ◌++◌, Some, Contains, Bool, true, false, refl, sym, ap, ◌∙◌, subst, arith}
use Rattle.std.specs.Prelude.{◌↔◌, MatchBool, slice_get}
use Rattle.std.proofs.lemmas.Option.{slice_get_within}
use Rattle.wb_lemmas.proofs.Members.{contains_at}
use Rattle.wb_lemmas.proofs.Places.{at_within}
use Rattle.wb_base.specs.declared.symbol.Symbol.{Symbol}
use Rattle.wb_base.specs.Grammar.{GrammarView}
use Rattle.wb_grammar_theory.specs.declared.item.Item.{Item}
use Rattle.wb_grammar_theory.specs.Items.{advance, IsViablePrefix, SameKernel}
use Rattle.wb_grammar_theory.proofs.KernelLemmas.{kernel_decides, same_move}
use Rattle.wb_grammar_theory.proofs.FlowLemmas.{same_then, same_back}
use Rattle.wb_grammar_theory.proofs.ValidLemmas.{before_last}
use Rattle.wb_items.specs.Kernels.{AreKernels, HasNoneBefore, KernelsView, LeadsTo, prefix_of}
use Rattle.wb_recheck_lines.specs.States.{AreStatesOf}
use Rattle.wb_recheck_theory.specs.declared.line.Line.{Line}
use Rattle.wb_recheck_theory.specs.Lines.{kernel_count, prefix_at, AreGoodLines, IsMoveOf}
use Rattle.wb_recheck_theory.proofs.CertificateLemmas.{at_prefix, move_back, move_there, once}
use Rattle.wb_recheck_theory.proofs.KernelListLemmas.{viable_carried}
use Rattle.wb_recheck_entries.specs.Keys.{Key, key_at}
use Rattle.wb_recheck_entries.specs.Inner.Steps.{IsMovedListed, IsMovedUnlisted}

module _ (kernels : KernelsView) (are : AreKernels kernels) (lines : List Line) (states : List ℕ)
    (good : AreGoodLines kernels.grammar lines) (numbered : AreStatesOf kernels lines states) where
  pub within : (n u : ℕ) → slice_get states n ≡ Some u → n < kernel_count lines
  within n u there = let long = numbered.len in let lt = slice_get_within states n u there in omega (arith, long, lt)

  module _ (k s : ℕ) (at : slice_get states k ≡ Some s) (x : Symbol) where
    -- the kernel after one more symbol, by the line and by the number
    stepped : SameKernel kernels.grammar (prefix_at lines k ++ x ∷ []) (prefix_of kernels s ++ x ∷ [])
    stepped = same_move are.live (prefix_at lines k) (prefix_of kernels s) x (numbered.same k s at)

    -- a listed kernel that is the move is where the symbol leads
    pub move_leads : (m u : ℕ) → slice_get states m ≡ Some u → IsMoveOf kernels.grammar lines k x m → LeadsTo kernels s x u
    move_leads m u there is_move =
        let lt = within k s at in
        let lt' = within m u there in
        let arrives = move_there are.live lines good k x m lt lt' is_move in
        let (item, t, v) = at_prefix are.live lines good m lt' in
        let (w, valid) = kernel_decides are.live v (prefix_at lines k ++ x ∷ []) arrives in
        let viable : IsViablePrefix kernels.grammar (prefix_at lines k ++ x ∷ []) = (item, w, valid) in (
          numbered.below k s at,
          numbered.below m u there,
          viable_carried are.live (prefix_at lines k) (prefix_of kernels s) x (numbered.same k s at) viable,
          same_then (same_back (numbered.same m u there)) (same_then arrives stepped),
        )

    -- and where it leads is the move
    pub leads_move : (m u : ℕ) → slice_get states m ≡ Some u → LeadsTo kernels s x u → IsMoveOf kernels.grammar lines k x m
    leads_move m u there (lt, lt', viable, same) =
        move_back are.live lines good k x m (within k s at) (within m u there)
        (same_then (numbered.same m u there) (same_then same (same_back stepped)))

    -- it leads to one kernel
    pub leads_once : (u v : ℕ) → LeadsTo kernels s x u → LeadsTo kernels s x v → u ≡ v
    leads_once u v (lt, lt_u, viable, same) (_, lt_v, _, same') = are.states.each_once u v lt_u lt_v (same_then same (same_back same'))

    -- and to none where no item has its dot before it
    pub leads_nowhere : HasNoneBefore kernels.grammar (prefix_of kernels s) x → (u : ℕ) → ¬ LeadsTo kernels s x u
    leads_nowhere none u (lt, lt', (item, t, v), same) =
        let (one, rest, has, is) = before_last v (prefix_of kernels s) x refl in
        none one rest has is

-- the same of a grammar that is that of the kernels
module _ (g : GrammarView) (kernels : KernelsView) (same : kernels.grammar ≡ g) (are : AreKernels kernels) (lines : List Line)
    (states : List ℕ) (good : AreGoodLines g lines) (numbered : AreStatesOf kernels lines states) (k s : ℕ)
    (at : slice_get states k ≡ Some s) (x : Symbol) where
  good_there : AreGoodLines kernels.grammar lines
  good_there = subst (λ z. AreGoodLines z lines) (sym same) good

  leads_to : (m : ℕ) → m < kernel_count lines → IsMoveOf g lines k x m → (u : ℕ) × (slice_get states m ≡ Some u) × LeadsTo kernels s x u
  leads_to m lt is_move =
      let (u, there) = at_within states m (let long = numbered.len in omega (arith, long, lt)) in (
        u,
        there,
        move_leads kernels are lines states good_there numbered k s at x m u there
            (subst (λ z. IsMoveOf z lines k x m) (sym same) is_move),
      )

  -- where the symbol leads nowhere, there is no move
  pub move_nowhere : HasNoneBefore kernels.grammar (prefix_of kernels s) x → (m : ℕ) → m < kernel_count lines → ¬ IsMoveOf g lines k x m
  move_nowhere none m lt is_move =
      let (u, there, leads) = leads_to m lt is_move in
      leads_nowhere kernels are lines states good_there numbered k s at x none u leads

  module _ (next : ℕ) (leads : LeadsTo kernels s x next) where
    -- a listed kernel is the move where it is the one to which the symbol leads
    pub move_where : (m u : ℕ) → slice_get states m ≡ Some u → (next ≡ u) ↔ IsMoveOf g lines k x m
    move_where m u there = (
      λ one. subst (λ z. IsMoveOf z lines k x m) same
          (leads_move kernels are lines states good_there numbered k s at x m u there (subst (LeadsTo kernels s x) one leads)),
      λ is_move. leads_once kernels are lines states good_there numbered k s at x next u leads
          (move_leads kernels are lines states good_there numbered k s at x m u there
          (subst (λ z. IsMoveOf z lines k x m) (sym same) is_move)),
    )

    -- where that kernel isn't listed, none is
    pub move_unknown : ¬ Contains states next → (m : ℕ) → m < kernel_count lines → ¬ IsMoveOf g lines k x m
    move_unknown unlisted m lt is_move =
        let (u, there, leads') = leads_to m lt is_move in
        let one = leads_once kernels are lines states good_there numbered k s at x u next leads' leads in
        unlisted (contains_at states next m (there ∙ ap Some one))

    -- and no other than that
    pub move_once : (place m : ℕ) → slice_get states place ≡ Some next → m < kernel_count lines → IsMoveOf g lines k x m → place ≡ m
    move_once place m there lt is_move =
        let (u, there', leads') = leads_to m lt is_move in
        let one = leads_once kernels are lines states good_there numbered k s at x u next leads' leads in
        let lt' = within kernels are lines states good_there numbered place next there in
        once are.live lines good_there place m lt' lt
        (same_then (numbered.same place next there) (same_back (numbered.same m next (there' ∙ ap Some one))))

    module _ (keys : List Key) (item : Item) (t : ℕ) where
      pub moved_unknown : ¬ Contains states next → IsMovedListed g lines keys k item t x
      moved_unknown unlisted m lt is_move = absurd (move_unknown unlisted m lt is_move)

      -- where the kernel is listed, what is listed there decides
      pub moved_known : (place : ℕ) → slice_get states place ≡ Some next → Contains keys (key_at place (advance item) t) →
          IsMovedListed g lines keys k item t x
      moved_known place there has m lt is_move =
          subst (λ z. Contains keys (key_at z (advance item) t)) (move_once place m there lt is_move) has

      pub moved_missing : (place : ℕ) → slice_get states place ≡ Some next → ¬ Contains keys (key_at place (advance item) t) →
          IsMovedUnlisted g lines keys k item t x
      moved_missing place there unlisted = record {
        kernel = place;
        within = within kernels are lines states good_there numbered place next there;
        moves = (move_where place next there).0 refl;
        unlisted = unlisted;
      }

      -- as it is looked up
      pub moved_answer : (place : ℕ) → slice_get states place ≡ Some next → (r : Bool) →
          MatchBool r (¬ Contains keys (key_at place (advance item) t)) (Contains keys (key_at place (advance item) t)) →
          MatchBool r (IsMovedUnlisted g lines keys k item t x) (IsMovedListed g lines keys k item t x)
      moved_answer place there true out = moved_missing place there out
      moved_answer place there false has = moved_known place there has

  -- where the symbol leads nowhere, nothing follows by a move
  pub moved_nowhere : (keys : List Key) (item : Item) (t : ℕ) → HasNoneBefore kernels.grammar (prefix_of kernels s) x →
      IsMovedListed g lines keys k item t x
  moved_nowhere keys item t none m lt is_move = absurd (move_nowhere none m lt is_move)
