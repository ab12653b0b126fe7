-- Each outcome of one step of the search for components, with less left to do.
use Rattle.std.proofs.Common.{◌≡◌, ◌<◌, ◌-◌, ◌++◌, ◌∷◌, [], ℕ, List, Some, None, All, length, get_or, set, slice_get, take, inl, inr, refl}
use Rattle.std.proofs.Common.{sym, ◌∙◌, ap, subst, arith, length-set, length-append}
use Rattle.std.specs.List.{sum}
use Rattle.std.proofs.lemmas.Bool.{cases_eq}
use Rattle.std.proofs.lemmas.Option.{slice_get_within, same_Some}
use Rattle.wb_lemmas.proofs.Elements.{all_from_places, all_from_contained}
use Rattle.wb_lemmas.proofs.Places.{nothing_at}
use Rattle.wb_graph.specs.Graphs.{Edge, step}
use Rattle.wb_graph.specs.Inner.Groups.{State, IsOpen, IsGrouping, KeepsMet, Advances, entered, AreKept, Leaves}
use Rattle.wb_graph.specs.Inner.Taking.{IsLinked, Takes}
use Rattle.wb_graph.specs.declared.groups.Mark.{Mark}
use Rattle.wb_graph.specs.declared.groups.Mark.TheVariants.{New, Open, Closed}
use Rattle.wb_graph.proofs.Places.{at_set_same, at_set_other}
use Rattle.wb_graph.proofs.GroupLemmas.{no_aim, from_to, retaken, took, passed, enters, joins, all_reach, new-closed, open-new}
use Rattle.wb_graph.proofs.ClosingLemmas.{goes_off, closes_group}

-- what is new after a vertex was met was new
met : (marks : List Mark) (w v i : ℕ) → w < length marks → slice_get (set marks w (Open i)) v ≡ Some New → slice_get marks v ≡ Some New
met marks w v i within new = elim (cases_eq v w) [
  | inl same ↦ absurd (open-new i (sym (at_set_same marks w (Open i) within) ∙ (ap (slice_get (set marks w (Open i))) (sym same) ∙ new)))
  | inr other ↦ sym (at_set_other marks w v (Open i) other) ∙ new
]

module _ (edges : List Edge) (s : State) (h : IsGrouping edges None s) where
  -- where the path's last vertex is open
  pub last_open : (t : ℕ) → slice_get s.path (length s.path - 1) ≡ Some t → (i : ℕ) × IsOpen s t i
  last_open t last = h.on_path.opened t (length s.path - 1) last

  -- an open vertex is below the count
  pub open_below : (v i : ℕ) → IsOpen s v i → v < length s.marks
  open_below v i at = slice_get_within s.marks v (Open i) (h.marked.open_marked v i at)

  -- open vertices are below the count
  pub opened_below : All (λ v. v < length s.marks) s.opened
  opened_below = all_from_places (λ v. v < length s.marks) s.opened (λ i v at. open_below v i at)

  -- starts are places of open vertices
  pub starts_below : All (λ p. p < length s.opened) s.starts
  starts_below = all_from_contained (λ p. p < length s.opened) s.starts
      (λ p has. (let (v, at, on) = h.on_path.begun p has in slice_get_within s.opened p v at))

  -- a search with a vertex on its path has a start
  pub some_start : (t : ℕ) → slice_get s.path (length s.path - 1) ≡ Some t → 0 < length s.starts
  some_start t last =
      let (i, at) = last_open t last in
      let (p, has, low) = h.marked.grouped t i at in
      let within = has.1 in
      omega arith

  module _ (firsts links : List ℕ) (linked : IsLinked edges firsts links) where
    -- no edge of the last vertex is left: it goes off the path, and its group is closed where that begins with it
    pub leaves : (new : State) (v : ℕ) → firsts ≡ s.firsts → get_or s.firsts v 0 ≡ 0 →
        Leaves v (record s { firsts = firsts; links = links }) new → Advances edges s new
    leaves new v same all l = elim l.done [
      | inl off ↦ record {
        grouping = subst (IsGrouping edges None) (sym off.1) (goes_off edges mid kept new.path v l.path none_left l.start l.last off.0);
        keeps = record {
          len = ap (λ (n : State). length n.marks) off.1;
          met = λ u at. subst (λ (n : State). slice_get n.marks u ≡ Some New) off.1 at;
        };
        fewer = omega (arith, ap (λ (n : State). sum n.firsts) off.1, ap sum same, ap length l.path, length-append new.path (v ∷ []));
      }
      | inr done ↦
          let c = done.1 in
          let root : c.root ≡ v = same_Some c.root v (sym c.begins ∙ done.0) in
          let is : new ≡ record mid {
            marks = new.marks;
            opened = take l.start s.opened;
            starts = new.starts;
            path = new.path;
            roots = s.roots ++ v ∷ [];
          } =
          subst (λ r. new ≡ record mid {
            marks = new.marks;
            opened = take l.start s.opened;
            starts = new.starts;
            path = new.path;
            roots = s.roots ++ r ∷ [];
          }) root c.state in
          record {
            grouping = subst (IsGrouping edges None) (sym is)
                (closes_group edges mid kept new.path v l.path none_left l.start new.starts new.marks c.starts done.0 c.marks);
            keeps = record {
              len = c.marks.len;
              met = λ u at. elim (c.marks.each u) [
                | inl inside ↦ absurd (new-closed (length s.roots) (sym at ∙ inside.1))
                | inr outside ↦ sym outside.1 ∙ at
              ];
            };
            fewer = omega (arith, ap (λ (n : State). sum n.firsts) is, ap sum same, ap length l.path, length-append new.path (v ∷ []));
          }
    ]
      where
        mid : State
        mid = record s { firsts = firsts; links = links }

        kept : IsGrouping edges None mid
        kept = retaken edges s firsts links None linked same h

        none_left : get_or firsts v 0 ≡ 0
        none_left = ap (λ xs. get_or xs v 0) same ∙ all

    module _ (t w : ℕ) (len : length firsts ≡ length s.firsts) (last : slice_get s.path (length s.path - 1) ≡ Some t)
        (takes : Takes edges s.firsts firsts t w) where
      -- the edge leads to a vertex that wasn't met
      pub goes_on : (new : State) → slice_get s.marks w ≡ Some New → new ≡ entered (record s { firsts = firsts; links = links }) w →
          Advances edges s new
      goes_on new fresh is =
          let (i, at) = last_open t last in
          subst (λ n. Advances edges s n) (sym is) (record {
            grouping = enters edges (record s { firsts = firsts; links = links }) (Some (from_to t w)) w fresh
                (λ u j on. step t w (all_reach edges s h t i last at u j on) takes.edge)
                (λ u v aim. sym (ap (λ (e : Edge). e.1) (same_Some (from_to t w) (from_to u v) aim)))
                (took edges s firsts links t w linked len last takes h);
            keeps = record {
              len = length-set s.marks w (Open (length s.opened));
              met = λ u at'. met s.marks w u (length s.opened) (slice_get_within s.marks w New fresh) at';
            };
            fewer = omega (arith, takes.fewer, length-append s.path (w ∷ []));
          })

      -- it leads to an open vertex
      pub joins_on : (j kept : ℕ) → slice_get s.marks w ≡ Some (Open j) → AreKept s.starts j kept →
          Advances edges s (record s { firsts = firsts; links = links; starts = take kept s.starts })
      joins_on j kept there keeps =
          let (i, at) = last_open t last in
          record {
            grouping = joins edges (record s { firsts = firsts; links = links }) t w i j kept last at
                (h.marked.marked_open w j there) takes.edge keeps
                (took edges s firsts links t w linked len last takes h);
            keeps = record { len = refl; met = λ u at'. at' };
            fewer = omega (arith, takes.fewer);
          }

      -- it leads to a closed vertex
      pub passes : (a : ℕ) → slice_get s.marks w ≡ Some (Closed a) → Advances edges s (record s { firsts = firsts; links = links })
      passes a there = record {
        grouping = passed edges (record s { firsts = firsts; links = links }) t w a there
            (took edges s firsts links t w linked len last takes h);
        keeps = record { len = refl; met = λ u at'. at' };
        fewer = omega (arith, takes.fewer);
      }

  -- with no vertex on the path none is open
  pub none_open : s.path ≡ [] → (v i : ℕ) → IsOpen s v i → ⊥
  none_open empty v i at =
      let (p, has, low) = h.marked.grouped v i at in
      let (u, there, (k, on)) = h.on_path.begun p has in
      nothing_at u k (subst (λ path. slice_get path k ≡ Some u) empty on)

  -- a search of a root that wasn't met begins with the root on the path
  pub begins : (new : State) (v : ℕ) → s.path ≡ [] → slice_get s.marks v ≡ Some New → new ≡ entered s v
      → IsGrouping edges None new × KeepsMet s new × (¬ (slice_get new.marks v ≡ Some New))
  begins new v empty fresh is =
      let within : v < length s.marks = slice_get_within s.marks v New fresh in
      subst (λ (n : State). IsGrouping edges None n × KeepsMet s n × (¬ (slice_get n.marks v ≡ Some New))) (sym is) (
        enters edges s no_aim v fresh (λ u i at. absurd (none_open empty u i at)) (λ u w never. cc) h,
        record { len = length-set s.marks v (Open (length s.opened)); met = λ u at. met s.marks v u (length s.opened) within at },
        λ at. open-new (length s.opened) (sym (at_set_same s.marks v (Open (length s.opened)) within) ∙ at),
      )
