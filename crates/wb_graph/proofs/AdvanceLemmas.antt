-- Each outcome of one step of a depth-first search, with less left to do.
use Rattle.std.proofs.Common.{◌≡◌, ◌<◌, ◌-◌, ◌++◌, ◌∷◌, [], ℕ, List, Some, length, get_or, set, slice_get, refl, sym, ◌∙◌, ap, subst, arith}
use Rattle.std.proofs.Common.{length-set, length-append}
use Rattle.std.specs.List.{sum}
use Rattle.std.proofs.lemmas.Option.{slice_get_within, same_Some}
use Rattle.wb_graph.specs.Graphs.{Edge, IsEdge}
use Rattle.wb_graph.specs.Inner.Search.{State, IsSearch, KeepsMet, Advances, ClosesPath}
use Rattle.wb_graph.specs.Inner.Taking.{IsLinked, Takes}
use Rattle.wb_graph.specs.declared.search.Colour.TheVariants.{White, Grey, Black}
use Rattle.wb_lemmas.proofs.Places.{push_last, nothing_at}
use Rattle.wb_graph.proofs.Places.{at_set_same}
use Rattle.wb_graph.proofs.LeaveLemmas.{left}
use Rattle.wb_graph.proofs.SearchLemmas.{before, retrailed, retaken, took, passed, entered, closes}

module _ (edges : List Edge) (s : State) (firsts links : List ℕ) (linked : IsLinked edges firsts links) (h : IsSearch edges s.path s) where
  -- no edge of the last vertex is left
  pub finishes : (new : State) (front : List ℕ) (v : ℕ) → firsts ≡ s.firsts → get_or s.firsts v 0 ≡ 0 → s.path ≡ front ++ v ∷ [] →
      new ≡ record s { firsts = firsts; links = links; colours = set s.colours v Black; path = front; finished = s.finished ++ v ∷ [] } →
      Advances edges s new
  finishes new front v same all e is =
      let kept = retaken edges s firsts links s.path linked same h in
      let at_end = subst (λ path. slice_get path (length front) ≡ Some v) (sym e) (push_last front v) in
      subst (λ n. Advances edges s n) (sym is) (record {
        search = left edges (record s { firsts = firsts; links = links }) front v e (ap (λ xs. get_or xs v 0) same ∙ all) kept;
        keeps = record {
          len = length-set s.colours v Black;
          met = λ u white. before s.colours v u Black White (slice_get_within s.colours v Grey (h.on_path.grey v (length front) at_end))
              (λ b. cc) white;
        };
        fewer = omega (arith, ap sum same, ap length e, length-append front (v ∷ []));
      })

  module _ (u v : ℕ) (len : length firsts ≡ length s.firsts) (last : slice_get s.path (length s.path - 1) ≡ Some u)
      (takes : Takes edges s.firsts firsts u v) where
    -- the edge leads from the last vertex
    leads : (t : ℕ) → slice_get s.path (length s.path - 1) ≡ Some t → IsEdge edges t v
    leads t at = subst (λ x. IsEdge edges x v) (same_Some u t (sym last ∙ at)) takes.edge

    -- it leads to a vertex that wasn't met
    pub goes_on : (new : State) → slice_get s.colours v ≡ Some White →
        new ≡ record s { firsts = firsts; links = links; colours = set s.colours v Grey; path = s.path ++ v ∷ [] } → Advances edges s new
    goes_on new white is =
        subst (λ n. Advances edges s n) (sym is) (record {
          search = entered edges (record s { firsts = firsts; links = links }) v white leads
              (took edges s firsts links u v linked len last takes h);
          keeps = record {
            len = length-set s.colours v Grey;
            met = λ t white'. before s.colours v t Grey White (slice_get_within s.colours v White white) (λ b. cc) white';
          };
          fewer = omega (arith, takes.fewer, length-append s.path (v ∷ []));
        })

    -- it leads to a finished vertex
    pub passes : slice_get s.colours v ≡ Some Black → Advances edges s (record s { firsts = firsts; links = links })
    passes black = record {
      search = passed edges (record s { firsts = firsts; links = links }) v black (took edges s firsts links u v linked len last takes h);
      keeps = record { len = refl; met = λ t white. white };
      fewer = omega (arith, takes.fewer);
    }

    -- it leads back to the path
    pub meets : slice_get s.colours v ≡ Some Grey → ClosesPath edges s.path v
    meets grey = closes edges s s.path v grey leads h

-- a search of a root that wasn't met begins with the root on the path
pub begins : (edges : List Edge) (s new : State) (v : ℕ) → s.path ≡ [] → IsSearch edges [] s → slice_get s.colours v ≡ Some White →
    new ≡ record s { colours = set s.colours v Grey; path = s.path ++ v ∷ [] } → IsSearch edges new.path new × KeepsMet s new ×
    (¬ (slice_get new.colours v ≡ Some White))
begins edges s new v empty h white is =
    let within : v < length s.colours = slice_get_within s.colours v White white in
    subst (λ (n : State). IsSearch edges n.path n × KeepsMet s n × (¬ (slice_get n.colours v ≡ Some White))) (sym is) (
      entered edges s v white (λ u at. absurd (nothing_at u (length {A = ℕ} [] - 1)
          (subst (λ path. slice_get path (length path - 1) ≡ Some u) empty at)))
          (retrailed edges s [] (s.path ++ v ∷ []) empty h),
      record {
        len = length-set s.colours v Grey;
        met = λ u at. before s.colours v u Grey White within (λ b. cc) at;
      },
      λ at. grey_white (sym (at_set_same s.colours v Grey within) ∙ at),
    )
  where
    grey_white : Some Grey ≡ Some White → ⊥
    grey_white e = cc
