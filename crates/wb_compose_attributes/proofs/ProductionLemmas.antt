-- Productions that are gathered by new numbers are those of the union.
use Rattle.std.proofs.Common.{◌≡◌, ◌∙◌, ◌+◌, ◌-◌, ◌<◌, ◌++◌, [], ℕ, suc, List, Some, None, length, map, option_map, take}
use Rattle.std.proofs.Common.{sym, ap, subst, arith}
use Rattle.std.proofs.lemmas.List.{append-nil, length-append}
use Rattle.std.proofs.lemmas.Option.{slice_get_within}
use Rattle.std.specs.List.{flat_map}
use Rattle.wb_lemmas.proofs.Places.{append_after, append_keeps}
use Rattle.wb_compose_theory_lists.proofs.NumberLemmas.{without_nothing, without_own, without_past, without_with}
use Rattle.wb_compose_theory_lists.specs.Additions as union
use Rattle.wb_compose_theory_lists.specs.Joined as joined
use Rattle.wb_compose_theory_lists.specs.Joined.{numbered}
use Rattle.wb_compose_theory_lists.specs.Numbers.{before_abstract, local_number, locals_in, number_with, number_without, numbers_of}
use Rattle.wb_compose_theory_lists.specs.United.{each_equations, each_locals, host_numbers, host_production, own_production}
use Rattle.wb_compose_theory_lists.specs.United.{united_productions}
use Rattle.wb_compose_attributes.specs.declared.numbers.Block.{Block}
use Rattle.wb_compose_attributes.specs.declared.numbers.Numbers.{Numbers}
use Rattle.wb_compose_attributes.specs.NewNumbers.{map_of, place_in}
use Rattle.wb_syntax_resolved.specs.declared.production.Production.{Production}
use Rattle.wb_compose_theory.specs.Blocks.{spread}
use Rattle.wb_compose_theory_grammar.proofs.PlaceLemmas.{spread_past}
use Rattle.wb_compose_theory_grammar.specs.Places.{count_before, total_of}
use Rattle.wb_compose_theory_attributes.specs.Numbers.{NumberMap}
use Rattle.wb_compose_theory_attributes.specs.Rows.{new_child, new_equation, new_forward, new_local}
use Rattle.wb_compose_attributes.specs.declared.addition.Addition.{Addition}
use Rattle.wb_compose_attributes.specs.declared.addition.Rows.{Rows}
use Rattle.wb_compose_attributes.specs.declared.placed.Placed.{Placed}
use Rattle.wb_compose_attributes.specs.Inner.Counted.{counts_in, numbers_at, placed_at}
use Rattle.wb_compose_attributes.specs.Inner.Gathered.{abstract_productions_in, gathered_productions, host_productions, productions_in}
use Rattle.wb_compose_attributes.specs.Inner.Written.{equations_by, host_production_by, locals_by, locals_size, production_by, with_locals}
use Rattle.wb_compose_attributes.specs.Inner.Written.{Written, written_at, written_equations, written_locals}
use Rattle.wb_compose_attributes.specs.Lent.{addition_in, equations_after, host_row, locals_after, rows_in, written_in}
use Rattle.wb_compose_attributes.proofs.NumberedLemmas.{count_take, flat_numbered, map_map, map_numbered, map_take, numbered_map}
use Rattle.wb_compose_attributes.proofs.NumberedLemmas.{numbered_numbered, numbered_plain, numbered_same, numbered_where}
use Rattle.wb_compose_attributes.proofs.UnitedLemmas.{all, gather, host_numbers_are, nothing_before, numbers_are}
use Rattle.wb_compose_attributes.proofs.UnitedLemmas.{own_numbers, placed, unmoved}

-- the numbers, where locals of each production move as those of this one
abbrev pub frozen : NumberMap → ℕ → NumberMap
frozen t p = record t { local_in = λ q. t.local_in p }

-- equal but for locals
pub relocal : (t u : NumberMap) (f g : ℕ → ℕ) → t ≡ unmoved u → f ≡ g → record t { local_in = λ q. f } ≡ record u { local_in = λ q. g }
relocal t u f g same also = λ j. record (same j) { local_in = λ q. also j }

-- where nothing moves
unmoved_number : (y : ℕ) → spread 0 0 0 0 y ≡ y
unmoved_number y = spread_past 0 0 0 0 y (omega arith) ∙ (let e : y + (0 - 0) ≡ y = omega arith in e)

module _ (host : Rows) (adds : List Addition) where
  abbrev H : union.Rows
  H = rows_in host

  -- a production of an extension, where it isn't the host's
  module _ (k : ℕ) (x : Addition) where
    abbrev X : union.Addition
    X = addition_in host x

    abbrev t : NumberMap
    t = numbers_of H (all host adds) k X

    abbrev n : Numbers
    n = numbers_at (counts_in host) (suc k) (counts_in x.rows) (take k adds) adds

    own_is : (p : ℕ) → number_without H X p ≡ None → map_of n ≡ frozen t p
    own_is p none = relocal (map_of n) t (spread 0 0 0 0) (t.local_in p) (numbers_are host adds k x)
        (λ j y. (unmoved_number y ∙ sym (ap (λ o. local_number H (all host adds) k X o y) none)) j)

    pub own_production_is : (p : ℕ) (row : Production) → number_without H X p ≡ None →
        production_by n row [] ≡ own_production H (all host adds) k X p row
    own_production_is p row none =
        (λ j. record (production_by n row []) {
          locals = append-nil (locals_by n row.locals) j;
          equations = append-nil (equations_by n row.equations) j;
        }) ∙ ap (λ m. record (own_production H (all host adds) k X p row) {
          left = m.nonterminal row.left;
          children = map (new_child m) row.children;
          locals = map (new_local m 0 (suc k)) row.locals;
          forward = option_map (new_forward m 0) row.forward;
          equations = map (new_equation m 0 (suc k)) row.equations;
        }) (own_is p none)

    pub own_productions_are : productions_in (placed_at (counts_in host) adds k x)
        ≡ numbered (own_production H (all host adds) k X) (length host.productions.now) x.rows.productions.now
    own_productions_are = numbered_plain (λ row. production_by n row []) (own_production H (all host adds) k X)
        (length host.productions.now) x.rows.productions.now (λ i row at. (let within = slice_get_within x.rows.productions.now i row at in
        own_production_is (length host.productions.now + i) row
        (without_own H X (length host.productions.now + i) (omega arith) (omega (arith, within)))))

    pub abstract_productions_are : abstract_productions_in (placed_at (counts_in host) adds k x)
        ≡ numbered (own_production H (all host adds) k X) (before_abstract H X) x.rows.abstract_productions.now
    abstract_productions_are = numbered_plain (λ row. production_by n row []) (own_production H (all host adds) k X)
        (before_abstract H X) x.rows.abstract_productions.now
        (λ i row at. own_production_is (before_abstract H X + i) row (without_past H X (before_abstract H X + i) (omega arith)))

  -- a production of the host
  module _ (p : ℕ) (row : Production) (at : host_row host p ≡ Some row) where
    abbrev lead : ℕ
    lead = length host.productions.now

    within : p < length H.productions + length H.abstract_productions
    within = let e = length-append H.productions H.abstract_productions in
        let less = slice_get_within (H.productions ++ H.abstract_productions) p row at in omega (arith, e, less)

    abbrev back : Some row ≡ host_row host p
    back = sym at

    abbrev size : union.Addition → ℕ
    size y = length (y.locals p)

    sizes_are : map (locals_size lead p row) (placed host adds) ≡ map size (all host adds)
    sizes_are = map_numbered (locals_size lead p row) (placed_at (counts_in host) adds) (λ x. size (addition_in host x))
        (λ k x j. length (locals_after (back j) (written_in host x p))) 0 adds
        ∙ sym (map_map size (addition_in host) adds)

    abbrev total : ℕ
    total = total_of (map (locals_size lead p row) (placed host adds))

    before_are : (k : ℕ) → total_of (map (locals_size lead p row) (take k (placed host adds))) ≡ count_before (map size (all host adds)) k
    before_are k = ap total_of (map_take (locals_size lead p row) (placed host adds) k ∙ ap (take k) sizes_are)
        ∙ count_take (map size (all host adds)) k

    -- the numbers of the host's locals, and of those of an extension
    abbrev host_block : Block
    host_block = record { own = length row.locals; before = 0; size = 0; total = total }

    host_locals_move : place_in host_block ≡ (host_numbers H (all host adds)).local_in p
    host_locals_move = (λ j y. spread (length (locals_in (back j))) (nothing_before host adds (map size (all host adds)) j) 0
        (total_of (sizes_are j)) y)
        ∙ (λ j y. (sym (ap (λ o. local_number H (all host adds) 0 union.nothing o y) (without_nothing H p within))) j)

    host_is : map_of (with_locals host_block (own_numbers host adds)) ≡ frozen (host_numbers H (all host adds)) p
    host_is = relocal (map_of (own_numbers host adds)) (host_numbers H (all host adds)) (place_in host_block)
        ((host_numbers H (all host adds)).local_in p) (host_numbers_are host adds) host_locals_move

    module _ (k : ℕ) (x : Addition) where
      abbrev y : Placed
      y = placed_at (counts_in host) adds k x

      abbrev w : Written
      w = written_at lead p row total (placed host adds) k y

      abbrev s : NumberMap
      s = numbers_of H (all host adds) k (addition_in host x)

      abbrev q : ℕ
      q = number_with H (addition_in host x) p

      its_locals_move : place_in w.numbers.local ≡ s.local_in q
      its_locals_move = (λ j z. spread (length (locals_in (back j))) (before_are k j)
          (length (locals_after (back j) (written_in host x p))) (total_of (sizes_are j)) z)
          ∙ (λ j z. (sym (ap (λ o. local_number H (all host adds) k (addition_in host x) o z)
          (without_with H (addition_in host x) p within))) j)

      its_is : map_of w.numbers ≡ frozen s q
      its_is = relocal (map_of y.numbers) s (place_in w.numbers.local) (s.local_in q) (numbers_are host adds k x) its_locals_move

      its_locals : written_locals w ≡ map (new_local s q (suc k)) ((addition_in host x).locals p)
      its_locals = λ j. map (new_local (its_is j) 0 (suc k)) (locals_after (back j) (written_in host x p))

      its_equations : written_equations w ≡ map (new_equation s q (suc k)) ((addition_in host x).equations p)
      its_equations = λ j. map (new_equation (its_is j) 0 (suc k)) (equations_after (back j) (written_in host x p))

    -- what all write
    abbrev writes : List Written
    writes = numbered (written_at lead p row total (placed host adds)) 0 (placed host adds)

    collect : {Y : Type 0} (f : Written → List Y) (theirs : ℕ → union.Addition → List Y) →
        ((k : ℕ) (x : Addition) → f (w k x) ≡ theirs k (addition_in host x)) →
        flat_map f writes ≡ joined.joined (numbered theirs 0 (all host adds))
    collect f theirs same =
        let steps : numbered (λ k y. f (written_at lead p row total (placed host adds) k y)) 0 (placed host adds)
        ≡ numbered theirs 0 (all host adds) =
        numbered_numbered (λ k y. f (written_at lead p row total (placed host adds) k y)) (placed_at (counts_in host) adds) 0 adds
        ∙ (numbered_same (λ k x. f (w k x)) (λ k x. theirs k (addition_in host x)) same 0 adds
        ∙ sym (numbered_map theirs (addition_in host) 0 adds)) in
        flat_numbered f (written_at lead p row total (placed host adds)) 0 (placed host adds) ∙ ap joined.joined steps

    all_locals : flat_map written_locals writes ≡ joined.joined (each_locals H (all host adds) p)
    all_locals = collect written_locals
        (λ k x. map (new_local (numbers_of H (all host adds) k x) (number_with H x p) (suc k)) (x.locals p)) its_locals

    all_equations : flat_map written_equations writes ≡ joined.joined (each_equations H (all host adds) p)
    all_equations = collect written_equations
        (λ k x. map (new_equation (numbers_of H (all host adds) k x) (number_with H x p) (suc k)) (x.equations p)) its_equations

    pub host_production_is : host_production_by lead p row (own_numbers host adds) (placed host adds)
        ≡ host_production H (all host adds) p row
    host_production_is = λ j. record (host_production H (all host adds) p row) {
      left = (host_is j).nonterminal row.left;
      children = map (new_child (host_is j)) row.children;
      locals = map (new_local (host_is j) 0 0) row.locals ++ all_locals j;
      forward = option_map (new_forward (host_is j) 0) row.forward;
      equations = map (new_equation (host_is j) 0 0) row.equations ++ all_equations j;
    }

  -- all productions
  abbrev first_productions : List Production
  first_productions = host.productions.now

  abbrev last_productions : List Production
  last_productions = host.abstract_productions.now

  leading_are : host_productions (own_numbers host adds) (length first_productions) (placed host adds) 0 first_productions
      ≡ numbered (host_production H (all host adds)) 0 first_productions
  leading_are = numbered_where
      (λ p row. host_production_by (length first_productions) p row (own_numbers host adds) (placed host adds))
      (host_production H (all host adds)) 0 first_productions
      (λ i row at. host_production_is (0 + i) row (let e : i ≡ 0 + i = omega arith in
      subst (λ z. host_row host z ≡ Some row) e (append_keeps first_productions last_productions i row at)))

  following_are : host_productions (own_numbers host adds) (length first_productions) (placed host adds) (length first_productions)
      last_productions ≡ numbered (host_production H (all host adds)) (length first_productions) last_productions
  following_are = numbered_where
      (λ p row. host_production_by (length first_productions) p row (own_numbers host adds) (placed host adds))
      (host_production H (all host adds)) (length first_productions) last_productions
      (λ i row at. host_production_is (length first_productions + i) row (append_after first_productions last_productions i ∙ at))

  pub productions_are : gathered_productions (own_numbers host adds) host (placed host adds) ≡ united_productions H (all host adds)
  productions_are = λ j. (leading_are j ++ leads j) ++ following_are j ++ follows j
    where
      leads : flat_map productions_in (placed host adds)
          ≡ joined.joined (numbered (λ k x. numbered (own_production H (all host adds) k x) (length H.productions) x.rows.productions)
          0 (all host adds))
      leads = gather host adds productions_in
          (λ k x. numbered (own_production H (all host adds) k x) (length H.productions) x.rows.productions) own_productions_are

      follows : flat_map abstract_productions_in (placed host adds)
          ≡ joined.joined (numbered (λ k x.
          numbered (own_production H (all host adds) k x) (before_abstract H x) x.rows.abstract_productions) 0 (all host adds))
      follows = gather host adds abstract_productions_in
          (λ k x. numbered (own_production H (all host adds) k x) (before_abstract H x) x.rows.abstract_productions)
          abstract_productions_are
