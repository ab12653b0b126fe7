-- Kernels that have numbers are listed as lines, in another order.
use Rattle.std.proofs.Common.{◌≡◌, ℕ, ◌<◌, ◌⊎◌, List, [], ◌∷◌, ◌++◌, length, length-append, Some, Contains, refl, sym, ◌∙◌, ap, subst}
use Rattle.std.proofs.Common.{inl, inr, arith}
use Rattle.std.specs.Prelude.{slice_get}
use Rattle.std.proofs.lemmas.Option.{slice_get_within}
use Rattle.wb_lemmas.proofs.Places.{at_one, at_push, at_within}
use Rattle.wb_lemmas.proofs.Members.{contains_at, place_of}
use Rattle.wb_base.specs.declared.symbol.Symbol.{Symbol}
use Rattle.wb_base.specs.Grammar.{GrammarView}
use Rattle.wb_grammar_theory.specs.Items.{SameKernel}
use Rattle.wb_grammar_theory.specs.Shape.{IsLive}
use Rattle.wb_grammar_theory.specs.States.{AreStates}
use Rattle.wb_grammar_theory.proofs.KernelLemmas.{same_move}
use Rattle.wb_grammar_theory.proofs.FlowLemmas.{same_itself, same_then, same_back, zero_state}
use Rattle.wb_recheck_theory.specs.declared.line.Line.{Line}
use Rattle.wb_recheck_theory.specs.Lines.{kernel_count, HasMove, IsGoodLine, AreGoodLines, IsMoveListed, prefix_at}
use Rattle.wb_recheck_theory.specs.Listed.{AreNumbered}
use Rattle.wb_recheck_theory.proofs.PrefixLemmas.{prefix_first, prefix_grown, prefix_pushed}
use Rattle.wb_recheck_theory.proofs.CertificateLemmas.{move_there, move_back}
use Rattle.wb_recheck_theory.proofs.KernelListLemmas.{viable_carried}
use Rattle.wb_recheck_theory.proofs.ListsLemmas.{move_viable, viable_move}

module _ {g : GrammarView} {count : ℕ} (prefix_of : ℕ → List Symbol) {Next : ℕ → Symbol → ℕ → Type 0} (live : IsLive g)
    (h : AreStates g count prefix_of Next) where
  -- kernel 0 has the number 0
  pub numbered_start : AreNumbered g count prefix_of [] (0 ∷ [])
  numbered_start = record {
    len = refl;
    below = λ k s at. (let one = at_one 0 s k at in let zero = zero_state prefix_of h in omega (arith, one.1, zero));
    same = λ k s at. same k s (at_one 0 s k at);
  }
    where
      same : (k s : ℕ) → (k ≡ 0) × (0 ≡ s) → SameKernel g (prefix_at [] k) (prefix_of s)
      same k s (first, zero) =
          let empty : prefix_of s ≡ prefix_at [] k =
          ap prefix_of (sym zero) ∙ (h.first ∙ (sym (prefix_first []) ∙ ap (prefix_at []) (sym first))) in
          subst (λ p. SameKernel g (prefix_at [] k) p) (sym empty) (same_itself g (prefix_at [] k))

  module _ (lines : List Line) (states : List ℕ) (good : AreGoodLines g lines) (numbered : AreNumbered g count prefix_of lines states)
      (k s : ℕ) (at : slice_get states k ≡ Some s) where
    within : (n u : ℕ) → slice_get states n ≡ Some u → n < kernel_count lines
    within n u there = let long = numbered.len in let lt = slice_get_within states n u there in omega (arith, long, lt)

    -- the kernel to which a symbol leads, by the line and by the number
    stepped : (x : Symbol) (next : ℕ) → Next s x next → SameKernel g (prefix_at lines k ++ x ∷ []) (prefix_of next)
    stepped x next leads =
        let (lt, lt', viable, same) = (h.next s x next).0 leads in
        same_then (same_move live (prefix_at lines k) (prefix_of s) x (numbered.same k s at)) (same_back same)

    -- a move to a number that isn't in the list is a good line
    pub good_by_number : (x : Symbol) (next : ℕ) → Next s x next → ¬ Contains states next →
        IsGoodLine g lines (length lines) (record { from = k; symbol = x })
    good_by_number x next leads unlisted = record {
      from = within k s at;
      moves = (
          let (lt, lt', viable, same) = (h.next s x next).0 leads in
          viable_move live lines good k x (within k s at)
          (viable_carried live (prefix_of s) (prefix_at lines k) x (same_back (numbered.same k s at)) viable)
          );
      new = λ m less is_move. (
          let (u, there) = at_within states m (let long = numbered.len in omega (arith, long, less)) in
          let arrives = move_there live lines good k x m (within k s at) less is_move in
          let same = same_then (same_back (numbered.same m u there)) (same_then arrives (stepped x next leads)) in
          let lt = ((h.next s x next).0 leads).1 in
          let one : u ≡ next = h.each_once u next (numbered.below m u there) lt same in
          unlisted (contains_at states next m (there ∙ ap Some one))
          );
    }

    -- and its number goes to the end of the list
    pub numbered_pushed : (x : Symbol) (next : ℕ) → Next s x next →
        AreNumbered g count prefix_of (lines ++ record { from = k; symbol = x } ∷ []) (states ++ next ∷ [])
    numbered_pushed x next leads = record {
      len = (
          let long = numbered.len in
          let more = length-append lines (line ∷ []) in
          let more' = length-append states (next ∷ []) in
          omega (arith, long, more, more')
          );
      below = λ n u there. below n u (at_push states next u n there);
      same = λ n u there. same n u (at_push states next u n there);
    }
      where
        line : Line
        line = record { from = k; symbol = x }

        below : (n u : ℕ) → (slice_get states n ≡ Some u) ⊎ ((n ≡ length states) × (next ≡ u)) → u < count
        below n u (inl old) = numbered.below n u old
        below n u (inr (last, is)) = subst (λ z. z < count) is (((h.next s x next).0 leads).1)

        same : (n u : ℕ) → (slice_get states n ≡ Some u) ⊎ ((n ≡ length states) × (next ≡ u)) →
            SameKernel g (prefix_at (lines ++ record { from = k; symbol = x } ∷ []) n) (prefix_of u)
        same n u (inl old) =
            subst (λ p. SameKernel g p (prefix_of u)) (sym (prefix_grown lines (record { from = k; symbol = x } ∷ []) n (within n u old)))
            (numbered.same n u old)
        same n u (inr (last, is)) =
            let place : n ≡ kernel_count lines = (let long = numbered.len in omega (arith, long, last)) in
            let prefix : prefix_at (lines ++ record { from = k; symbol = x } ∷ []) n ≡ prefix_at lines k ++ x ∷ [] =
            ap (prefix_at (lines ++ record { from = k; symbol = x } ∷ [])) place
            ∙ prefix_pushed lines (record { from = k; symbol = x }) (within k s at) in
            subst (λ z. SameKernel g (prefix_at (lines ++ record { from = k; symbol = x } ∷ []) n) (prefix_of z)) is
            (subst (λ p. SameKernel g p (prefix_of next)) (sym prefix) (stepped x next leads))

    -- where each number to which a symbol leads is in the list, each move is listed
    pub listed_by_number : ((x : Symbol) (next : ℕ) → Next s x next → Contains states next) → (x : Symbol) → HasMove g lines k x →
        IsMoveListed g lines k x
    listed_by_number all x moves =
        let viable = move_viable live lines good k x moves in
        let same_s = numbered.same k s at in
        let viable_s = viable_carried live (prefix_at lines k) (prefix_of s) x same_s viable in
        let (next, lt, same) = h.all (prefix_of s ++ x ∷ []) viable_s in
        let leads : Next s x next = (h.next s x next).1 (numbered.below k s at, lt, viable_s, same) in
        let (m, there) = place_of states next (all x next leads) in
        let arrives = same_then (numbered.same m next there) (same_back (stepped x next leads)) in
        (m, within m next there, move_back live lines good k x m (within k s at) (within m next there) arrives)
