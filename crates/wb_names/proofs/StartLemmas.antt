-- Which nonterminals items make the start or extensible: each is there, and there is one start at most.
use Rattle.std.proofs.Common.{◌≡◌, ◌≢◌, ◌≤◌, ◌<◌, ◌+◌, ◌++◌, ◌∷◌, inl, inr, [], ℕ, suc, Bool}
use Rattle.std.proofs.Common.{true, false, List, Some, All, Contains, cond}
use Rattle.std.proofs.Common.{length, take, get_or, sym, refl, subst, ap, ◌∙◌, arith, length-append}
use Rattle.std.specs.Prelude.{filter, flat_map}
use Rattle.std.specs.List.{AllZip}
use Rattle.std.proofs.lemmas.Grind.{flat_map-append}
use Rattle.std.proofs.lemmas.List.{take_more, take_all}
use Rattle.std.proofs.lemmas.List.Elements.{filter-append}
use Rattle.wb_lemmas.proofs.Elements.{all_from_contained}
use Rattle.wb_lemmas.proofs.Members.{contains_cases, contains_first, nothing_in, place_of}
use Rattle.wb_lemmas.proofs.Places.{append_after}
use Rattle.wb_syntax.specs.declared.item.Item.{Item}
use Rattle.wb_syntax.specs.declared.item.ItemForm.{ItemForm}
use Rattle.wb_syntax.specs.declared.item.ItemForm.TheVariants as f
use Rattle.wb_syntax.specs.declared.item.PlainForm.{PlainForm}
use Rattle.wb_syntax.specs.declared.item.PlainForm.TheVariants as i
use Rattle.wb_syntax.specs.declared.pattern.Pattern.{Pattern}
use Rattle.wb_names_theory.specs.declared.declaration.Declaration.{Declaration}
use Rattle.wb_names_theory.specs.declared.declaration.Declaration.TheVariants as d
use Rattle.wb_names_theory.specs.declared.usage.Usage.TheVariants as u
use Rattle.wb_names_theory.specs.declared.usage.Wanted.TheVariants as w
use Rattle.wb_names_theory.specs.Declarations.{Items, plain_items, start_of, starts, extensible_of, extensibles}
use Rattle.wb_names_theory.specs.Declares.{declarations, item_declarations, form_declarations}
use Rattle.wb_names_theory.specs.Duplicate.{AreSame, start as same_start}
use Rattle.wb_names_theory.specs.Hold.{AreOnce, NamesHold}
use Rattle.wb_names_theory.specs.Uses.{uses, plain_uses}
use Rattle.wb_names_numbers_theory.specs.Files.{File}
use Rattle.wb_names_numbers_theory.proofs.OwnDeclared.{flat_map_contains}
use Rattle.wb_names_numbers_theory.proofs.RowsOwned.{plain_declares}
use Rattle.wb_names_numbers_theory.proofs.Selected.{kept_from, contains_filter}
use Rattle.wb_names_numbers_theory.proofs.Used.{plain_used}
use Rattle.wb_names_rows.specs.declared.scope.Scope.{Scope}
use Rattle.wb_names_rows.specs.GrammarNames.{form_starts}
use Rattle.wb_names_rows.specs.There.{HasDeclared}
use Rattle.wb_names_rows.proofs.GrammarNameLemmas.{starts_flat}
use Rattle.wb_names_rows.proofs.UsesThere.{nonterminal_there}
use Rattle.wb_names.specs.Resolving.{file_scope}

-- declarations of the same thing are one also in a part
once_later : (y : Declaration) (ys : List Declaration) → AreOnce (y ∷ ys) → AreOnce ys
once_later y ys once i j one other a b are = let e : suc i ≡ suc j = once (suc i) (suc j) one other a b are in omega (arith, e)

once_right : (xs ys : List Declaration) → AreOnce (xs ++ ys) → AreOnce ys
once_right xs ys once i j one other a b are =
    let e : length xs + i ≡ length xs + j = once (length xs + i) (length xs + j) one other (append_after xs ys i ∙ a)
    (append_after xs ys j ∙ b) are in
    omega (arith, e)

-- of what is the same there is one at most
module _ (test : Declaration → Bool) (alike : (y z : Declaration) → test y ≡ true → test z ≡ true → AreSame y z) where
  nothing_else : (y : Declaration) (ys : List Declaration) → AreOnce (y ∷ ys) → test y ≡ true → (zs : List Declaration)
      → filter test ys ≡ zs → length zs ≤ 0
  nothing_else y ys once is [] e = omega arith
  nothing_else y ys once is (z ∷ zs) e =
      let found = contains_filter test ys z (subst (λ k. Contains k z) (sym e) (contains_first z zs)) in
      let (j, at) = place_of ys z found.0 in
      let both : 0 ≡ suc j = once 0 (suc j) y z refl at (alike y z is found.1) in
      absurd (omega (arith, both))

  one_more : (y : Declaration) (ys : List Declaration) (b : Bool) → test y ≡ b → AreOnce (y ∷ ys) → length (filter test ys) ≤ 1
      → length (cond b (y ∷ filter test ys) (filter test ys)) ≤ 1
  one_more y ys true is once few = let rest = nothing_else y ys once is (filter test ys) refl in omega (arith, rest)
  one_more y ys false is once few = few

  few_pass : (ys : List Declaration) → AreOnce ys → length (filter test ys) ≤ 1
  few_pass [] once = omega arith
  few_pass (y ∷ ys) once = one_more y ys (test y) refl once (few_pass ys (once_later y ys once))

abbrev is_start : Declaration → Bool
is_start (d.Start name) = true
is_start other = false

starts_alike : (y z : Declaration) → is_start y ≡ true → is_start z ≡ true → AreSame y z
starts_alike (d.Start name) (d.Start other) a b = same_start
starts_alike (d.Start name) (d.Symbol x y) a b = absurd (cc b)
starts_alike (d.Start name) (d.Attribute x y) a b = absurd (cc b)
starts_alike (d.Start name) (d.Occurrence x y) a b = absurd (cc b)
starts_alike (d.Start name) (d.Left x y) a b = absurd (cc b)
starts_alike (d.Start name) (d.Label x y v) a b = absurd (cc b)
starts_alike (d.Start name) (d.Equation x y v) a b = absurd (cc b)
starts_alike (d.Start name) (d.Forward x) a b = absurd (cc b)
starts_alike (d.Start name) (d.Extensible x) a b = absurd (cc b)
starts_alike (d.Start name) (d.Closed x) a b = absurd (cc b)
starts_alike (d.Start name) (d.ForwardNeeds x) a b = absurd (cc b)
starts_alike (d.Start name) (d.Preference x y) a b = absurd (cc b)
starts_alike (d.Symbol x y) z a b = absurd (cc a)
starts_alike (d.Attribute x y) z a b = absurd (cc a)
starts_alike (d.Occurrence x y) z a b = absurd (cc a)
starts_alike (d.Left x y) z a b = absurd (cc a)
starts_alike (d.Label x y v) z a b = absurd (cc a)
starts_alike (d.Equation x y v) z a b = absurd (cc a)
starts_alike (d.Forward x) z a b = absurd (cc a)
starts_alike (d.Extensible x) z a b = absurd (cc a)
starts_alike (d.Closed x) z a b = absurd (cc a)
starts_alike (d.ForwardNeeds x) z a b = absurd (cc a)
starts_alike (d.Preference x y) z a b = absurd (cc a)

-- each start is declared
form_counts : (form : ItemForm Pattern) → length (form_starts form) ≤ length (filter is_start (form_declarations form))
form_counts (f.Plain (i.Start name)) = omega arith
form_counts (f.Plain (i.Prefer first second)) = omega arith
form_counts (f.Plain (i.Nonterminal name)) = omega arith
form_counts (f.Plain (i.Extensible name)) = omega arith
form_counts (f.Plain (i.Closed name)) = omega arith
form_counts (f.Plain (i.Synthesized name is)) = omega arith
form_counts (f.Plain (i.Inherited name is)) = omega arith
form_counts (f.Plain (i.Occurs a m needs)) = omega arith
form_counts (f.Plain (i.ForwardOn m needs)) = omega arith
form_counts (f.Lexical role name pattern) = omega arith
form_counts (f.Production role p) = omega arith
form_counts (f.Aspect name equations) = omega arith

starts_count : (items : Items) → length (flat_map (λ (x : Item Pattern). form_starts x.form) items)
    ≤ length (filter is_start (item_declarations items))
starts_count [] = omega arith
starts_count (item ∷ items) =
    let rest = starts_count items in
    let first = form_counts item.form in
    let a = length-append (form_starts item.form) (flat_map (λ (x : Item Pattern). form_starts x.form) items) in
    let b = ap length (filter-append is_start (form_declarations item.form) (item_declarations items)) in
    let c = length-append (filter is_start (form_declarations item.form)) (filter is_start (item_declarations items)) in
    omega (arith, rest, first, a, b, c)

module _ (file : File) {format : ℕ} (hold : NamesHold (file_scope format file)) where
  -- there is one start at most
  pub starts_few : length (starts file.items) ≤ 1
  starts_few =
      let once = once_right (file_scope format file).host (item_declarations file.items) hold.once in
      let few = few_pass is_start starts_alike (item_declarations file.items) once in
      let count = starts_count file.items in
      let flat = ap length (starts_flat file.items) in
      omega (arith, few, count, flat)

  -- an extension declares none
  start_own : (name : List ℕ) → Contains (starts file.items) name → Contains (item_declarations file.items) (d.Start name)
  start_own name has = let z = kept_from start_of (plain_items file.items) name has in from z.0 z.1 z.2 where
    from : (form : PlainForm) → Contains (plain_items file.items) form → start_of form ≡ Some name
        → Contains (item_declarations file.items) (d.Start name)
    from (i.Start m) there e = let is : m ≡ name = cc in subst (λ z. Contains (item_declarations file.items) (d.Start z)) is
        (plain_declares file.items (i.Start m) there)
    from (i.Prefer first second) there e = absurd (cc e)
    from (i.Nonterminal m) there e = absurd (cc e)
    from (i.Extensible m) there e = absurd (cc e)
    from (i.Closed m) there e = absurd (cc e)
    from (i.Synthesized m its) there e = absurd (cc e)
    from (i.Inherited m its) there e = absurd (cc e)
    from (i.Occurs m l needs) there e = absurd (cc e)
    from (i.ForwardOn m needs) there e = absurd (cc e)

  pub no_start : file.owner ≢ 0 → starts file.items ≡ []
  no_start other = from (starts file.items) refl where
    from : (names : List (List ℕ)) → starts file.items ≡ names → starts file.items ≡ []
    from [] e = e
    from (name ∷ names) e = absurd ((hold.owned other).start name
        (start_own name (subst (λ z. Contains z name) (sym e) (contains_first name names))))

  -- each has a number
  module _ (s : Scope) (has : HasDeclared s (declarations file.base file.items)) where
    used_there : (form : PlainForm) (name : List ℕ) → Contains (plain_items file.items) form
        → Contains (plain_uses form) (u.Name name w.Nonterminal) → Contains s.nonterminals name
    used_there form name there more =
        nonterminal_there s (declarations file.base file.items) (uses file.items) has hold.meant name
        (plain_used file.items form there (u.Name name w.Nonterminal) more)

    pub starts_there : All (Contains s.nonterminals) (starts file.items)
    starts_there = all_from_contained (Contains s.nonterminals) (starts file.items)
        (λ name more. let z = kept_from start_of (plain_items file.items) name more in from name z.0 z.1 z.2) where
          from : (name : List ℕ) (form : PlainForm) → Contains (plain_items file.items) form → start_of form ≡ Some name
              → Contains s.nonterminals name
          from name (i.Start m) there e = let is : m ≡ name = cc in subst (Contains s.nonterminals) is
              (used_there (i.Start m) m there (contains_first (u.Name m w.Nonterminal) []))
          from name (i.Prefer first second) there e = absurd (cc e)
          from name (i.Nonterminal m) there e = absurd (cc e)
          from name (i.Extensible m) there e = absurd (cc e)
          from name (i.Closed m) there e = absurd (cc e)
          from name (i.Synthesized m its) there e = absurd (cc e)
          from name (i.Inherited m its) there e = absurd (cc e)
          from name (i.Occurs m l needs) there e = absurd (cc e)
          from name (i.ForwardOn m needs) there e = absurd (cc e)

    pub extensibles_there : All (Contains s.nonterminals) (extensibles file.items)
    extensibles_there = all_from_contained (Contains s.nonterminals) (extensibles file.items)
        (λ name more. let z = kept_from extensible_of (plain_items file.items) name more in from name z.0 z.1 z.2) where
          from : (name : List ℕ) (form : PlainForm) → Contains (plain_items file.items) form → extensible_of form ≡ Some name
              → Contains s.nonterminals name
          from name (i.Extensible m) there e = let is : m ≡ name = cc in subst (Contains s.nonterminals) is
              (used_there (i.Extensible m) m there (contains_first (u.Name m w.Nonterminal) []))
          from name (i.Prefer first second) there e = absurd (cc e)
          from name (i.Nonterminal m) there e = absurd (cc e)
          from name (i.Start m) there e = absurd (cc e)
          from name (i.Closed m) there e = absurd (cc e)
          from name (i.Synthesized m its) there e = absurd (cc e)
          from name (i.Inherited m its) there e = absurd (cc e)
          from name (i.Occurs m l needs) there e = absurd (cc e)
          from name (i.ForwardOn m needs) there e = absurd (cc e)

-- a list of one, and one number
pub single : {X : Type 0} (xs : List X) (x : X) → length xs ≤ 1 → Contains xs x → xs ≡ x ∷ []
single [] x few has = absurd (nothing_in x has)
single (y ∷ []) x few has = elim (contains_cases y x [] has) [ inl is ↦ ap (λ z. z ∷ []) is | inr more ↦ absurd (nothing_in x more) ]
single (y ∷ z ∷ zs) x few has = absurd (omega (arith, few))

abbrev form_start : Item Pattern → List (List ℕ)
form_start item = form_starts item.form

module _ (R : List ℕ → ℕ → Type 0) (items : Items) where
  -- the first start that is found is the only one
  pub only_start : length (starts items) ≤ 1 → (item : Item Pattern) (number : ℕ) → Contains items item
      → AllZip R (form_starts item.form) (number ∷ []) → AllZip R (starts items) (number ∷ [])
  only_start few item number has all = from (form_starts item.form) refl all where
    from : (names : List (List ℕ)) → form_starts item.form ≡ names → AllZip R names (number ∷ []) → AllZip R (starts items) (number ∷ [])
    from [] e is = absurd is
    from (name ∷ []) e is =
        let member = flat_map_contains form_start items item name has (subst (λ z. Contains z name) (sym e) (contains_first name [])) in
        let one : starts items ≡ name ∷ [] =
        single (starts items) name few (subst (λ z. Contains z name) (sym (starts_flat items)) member) in
        subst (λ z. AllZip R z (number ∷ [])) (sym one) is
    from (name ∷ other ∷ rest) e is = absurd is.1

  -- an item that declares none
  pub none_more : (at : ℕ) (item : Item Pattern) → flat_map form_start (take at items) ≡ [] → at < length items → item ≡ get_or items at
      item
      → AllZip R (form_starts item.form) [] → flat_map form_start (take (at + 1) items) ≡ []
  none_more at item none_yet within is all =
      ap (flat_map form_start) (take_more items at item within ∙ ap (λ z. take at items ++ z ∷ []) (sym is))
      ∙ (flat_map-append form_start (take at items) (item ∷ [])
      ∙ (ap (λ z. z ++ flat_map form_start (item ∷ [])) none_yet ∙ from (form_starts item.form) refl all)) where
        from : (names : List (List ℕ)) → form_starts item.form ≡ names → AllZip R names [] → flat_map form_start (item ∷ []) ≡ []
        from [] e more = ap (λ z. z ++ []) e
        from (name ∷ names) e more = absurd more

  pub none_at_all : (at : ℕ) → flat_map form_start (take at items) ≡ [] → length items ≤ at → AllZip R (starts items) []
  none_at_all at none_yet ended =
      subst (λ z. AllZip R z []) (sym (starts_flat items ∙ (ap (flat_map form_start) (sym (take_all at items ended)) ∙ none_yet))) tt
