-- What is valid doesn't depend on the numbers.
use Rattle.std.proofs.Common.{◌++◌, ◌∙◌, ◌∷◌, ◌≡◌, List, [], ap, drop, map, refl, subst, suc, sym, zero, ℕ}
use Rattle.std.specs.Prelude.{◌↔◌}
use Rattle.wb_base.specs.declared.symbol.Symbol.{Symbol}
use Rattle.wb_base.specs.declared.symbol.Symbol.TheVariants.{Nonterminal, Terminal}
use Rattle.wb_base.specs.Grammar.{GrammarView}
use Rattle.wb_grammar_theory.specs.declared.item.Item.{Item}
use Rattle.wb_grammar_theory.proofs.DotLemmas.{after_initial, after_start}
use Rattle.wb_grammar_theory.specs.Derives.{Derives, done, expand, keep}
use Rattle.wb_grammar_theory.specs.Items.{IsValidItem, advance, after_dot, close, initial_item, move, start, start_item}
use Rattle.wb_grammar_theory.specs.Productions.{IsProduction, right_of, top_of}
use Rattle.wb_compose_theory.specs.Derives.{DerivesIn}
use Rattle.wb_compose_theory.specs.Items.{IsValidItemIn, after_dot_in, start_item_in}
use Rattle.wb_compose_theory.specs.Renamings.{Renaming, renamed, renamed_item}
use Rattle.wb_compose_theory.specs.Seams.{IsNumbering}
use Rattle.wb_compose_theory.specs.Worlds.{IsProductionIn, Part, World}

-- a joined list
pub map_join : (r : Renaming) (a b : List Symbol) → map (renamed r) (a ++ b) ≡ map (renamed r) a ++ map (renamed r) b
map_join r [] b = refl
map_join r (x ∷ a) b = ap (λ z. renamed r x ∷ z) (map_join r a b)

-- the rest of a list
map_drop : (r : Renaming) (d : ℕ) (a : List Symbol) → drop d (map (renamed r) a) ≡ map (renamed r) (drop d a)
map_drop r zero a = refl
map_drop r (suc d) [] = refl
map_drop r (suc d) (x ∷ a) = map_drop r d a

-- the number is that of `S' -> S` or of a production
pub data InGrammar (g : GrammarView) (p : ℕ) : Type 0 where
  at_top : p ≡ top_of g → InGrammar g p
  at_rule : (a : ℕ) (right : List Symbol) → IsProduction g p a right → InGrammar g p

-- the production of a valid item is one of the grammar
pub in_grammar : {g : GrammarView} {prefix : List Symbol} {item : Item} {t : ℕ} → IsValidItem g prefix item t → InGrammar g item.production
in_grammar start = at_top refl
in_grammar (close item t b rest q u right v is rule f) = at_rule b right rule
in_grammar {g} (move item x rest prefix {moved = moved} v is longer_is moved_is) =
    subst (InGrammar g) (sym (ap (λ i. i.production) moved_is)) (in_grammar v)

-- right sides
rights : {g : GrammarView} {w : World} {part : Part} {r : Renaming} → IsNumbering g w part r → (p : ℕ) → InGrammar g p →
    w.right (r.production p) ≡ map (renamed r) (right_of g p)
rights {g} {w} {part} {r} n p (at_top is) =
    ap (λ z. w.right (r.production z)) is ∙
    (ap w.right n.ends.top_is ∙
    (n.ends.top_right ∙ (ap (λ z. Nonterminal z ∷ []) (sym n.ends.start_is) ∙
    sym (ap (λ z. map (renamed r) (right_of g z)) is ∙ ap (map (renamed r)) (after_start g)))))
rights {g} {w} {part} {r} n p (at_rule a right rule) =
    n.productions.right_is p a right rule ∙ sym (ap (map (renamed r)) (after_initial g p a right rule))

-- what is after a dot
pub dots : {g : GrammarView} {w : World} {part : Part} {r : Renaming} → IsNumbering g w part r → (item : Item) →
    InGrammar g item.production → after_dot_in w (renamed_item r item) ≡ map (renamed r) (after_dot g item)
dots {g} {w} {part} {r} n item k = ap (drop item.dot) (rights n item.production k) ∙ map_drop r item.dot (right_of g item.production)

-- derivations
pub derives_there : {g : GrammarView} {w : World} {part : Part} {r : Renaming} {a x : List Symbol} → IsNumbering g w part r →
    Derives g a x → DerivesIn w part (map (renamed r) a) (map (renamed r) x)
derives_there n done = DerivesIn.done
derives_there {r = r} n (keep x d) = DerivesIn.keep (renamed r x) (derives_there n d)
derives_there {g} {w} {part} {r} n (expand p a right u v {x = x} rule d e is) =
    DerivesIn.expand (r.production p) (r.nonterminal a) (map (renamed r) u) (map (renamed r) v) (n.productions.production p a right rule)
    (n.productions.left_is p a right rule)
    (subst (λ z. DerivesIn w part z (map (renamed r) u)) (sym (n.productions.right_is p a right rule)) (derives_there n d))
    (derives_there n e) (ap (map (renamed r)) is ∙ map_join r u v)

-- valid items
pub valid_there : {g : GrammarView} {w : World} {part : Part} {r : Renaming} {prefix : List Symbol} {item : Item} {t : ℕ} →
    IsNumbering g w part r → IsValidItem g prefix item t →
    IsValidItemIn w part (map (renamed r) prefix) (renamed_item r item) (r.terminal t)
valid_there {g} {w} {part} {r} n start =
    subst (λ z. IsValidItemIn w part [] (initial_item z) (r.terminal g.terminals)) (sym n.ends.top_is)
    (subst (λ z. IsValidItemIn w part [] (start_item_in w) z) (sym n.ends.end_is) IsValidItemIn.start)
valid_there {g} {w} {part} {r} n (close item t b rest q u right {prefix} v is rule (x, d)) =
    IsValidItemIn.close (renamed_item r item) (r.terminal t) (r.nonterminal b) (map (renamed r) rest) (r.production q) (r.terminal u)
    (valid_there n v)
    (dots n item (in_grammar v) ∙ ap (map (renamed r)) is) (n.productions.production q b right rule)
    (n.productions.left_is q b right rule) (
      map (renamed r) x,
      subst (λ z. DerivesIn w part z (Terminal (r.terminal u) ∷ map (renamed r) x)) (map_join r rest (Terminal t ∷ []))
          (derives_there n d),
    )
valid_there {g} {w} {part} {r} n (move item x rest prefix v is longer_is moved_is) =
    IsValidItemIn.move (renamed_item r item) (renamed r x) (map (renamed r) rest) (map (renamed r) prefix) (valid_there n v)
    (dots n item (in_grammar v) ∙ ap (map (renamed r)) is) (ap (map (renamed r)) longer_is ∙ map_join r prefix (x ∷ []))
    (ap (renamed_item r) moved_is)

-- a renaming that keeps numbers apart
pub symbol_once : {g : GrammarView} {w : World} {part : Part} {r : Renaming} → IsNumbering g w part r → (x y : Symbol) →
    renamed r x ≡ renamed r y → x ≡ y
symbol_once {r = r} n (Terminal t) (Terminal u) e = let f : r.terminal t ≡ r.terminal u = cc in ap Terminal (n.once.terminal t u f)
symbol_once n (Terminal t) (Nonterminal b) e = cc
symbol_once n (Nonterminal a) (Terminal u) e = cc
symbol_once {r = r} n (Nonterminal a) (Nonterminal b) e = let f : r.nonterminal a ≡ r.nonterminal b = cc in
    ap Nonterminal (n.once.nonterminal a b f)

-- lists whose renamings are one are one
pub list_once : {g : GrammarView} {w : World} {part : Part} {r : Renaming} → IsNumbering g w part r → (a b : List Symbol) →
    map (renamed r) a ≡ map (renamed r) b → a ≡ b
list_once n [] [] e = refl
list_once n [] (y ∷ b) e = cc
list_once n (x ∷ a) [] e = cc
list_once {r = r} n (x ∷ a) (y ∷ b) e =
    let f : renamed r x ≡ renamed r y = cc in
    let g : map (renamed r) a ≡ map (renamed r) b = cc in
    let h : x ≡ y = symbol_once n x y f in
    let k : a ≡ b = list_once n a b g in cc

-- a production of the part is one of the grammar
pub record Ruled (g : GrammarView) (w : World) (r : Renaming) (q b : ℕ) : Type 0 where
  pub p : ℕ
  pub right : List Symbol
  pub rule : IsProduction g p b right
  pub is : q ≡ r.production p
  pub right_is : w.right q ≡ map (renamed r) right

-- each production of the part on a nonterminal that has a number
pub ruled : {g : GrammarView} {w : World} {part : Part} {r : Renaming} → IsNumbering g w part r → (q b : ℕ) → IsProductionIn w part q →
    w.left q ≡ r.nonterminal b → Ruled g w r q b
ruled {g} {w} {part} {r} n q b rule left =
    let (p, a, right, mine, is) = n.productions.onto q rule in
    let same : a ≡ b = n.once.nonterminal a b (sym (n.productions.left_is p a right mine) ∙ (ap w.left (sym is) ∙ left)) in
    record {
      p = p;
      right = right;
      rule = subst (λ z. IsProduction g p z right) same mine;
      is = is;
      right_is = ap w.right is ∙
          n.productions.right_is p a right mine;
    }

-- what a renamed list derives is a renaming
pub record DerivesBack (g : GrammarView) (r : Renaming) (a x : List Symbol) : Type 0 where
  pub result : List Symbol
  pub is : x ≡ map (renamed r) result
  pub derives : Derives g a result

-- a list whose renaming has a head
pub split_list : (r : Renaming) (a : List Symbol) (x : Symbol) (rest : List Symbol) → map (renamed r) a ≡ x ∷ rest →
    (y : Symbol) × (b : List Symbol) × (a ≡ y ∷ b) × (renamed r y ≡ x) × (map (renamed r) b ≡ rest)
split_list r [] x rest e = cc
split_list r (y ∷ b) x rest e = (y, b, refl, (cc), (cc))

-- a symbol whose renaming is a nonterminal
pub nonterminal_of : (r : Renaming) (y : Symbol) (b : ℕ) → renamed r y ≡ Nonterminal b →
    (a : ℕ) × (y ≡ Nonterminal a) × (r.nonterminal a ≡ b)
nonterminal_of r (Terminal t) b e = cc
nonterminal_of r (Nonterminal a) b e = (a, refl, (cc))

-- a derivation from a renamed list
pub derives_back : {g : GrammarView} {w : World} {part : Part} {r : Renaming} {a' x' : List Symbol} → IsNumbering g w part r →
    DerivesIn w part a' x' → (a : List Symbol) → map (renamed r) a ≡ a' → DerivesBack g r a x'
derives_back n DerivesIn.done [] e = record { result = []; is = refl; derives = done }
derives_back n DerivesIn.done (y ∷ a) e = cc
derives_back {g} {r = r} n (DerivesIn.keep x {a = a'} {b = b'} d) a e =
    let (y, b, a_is, y_is, b_is) = split_list r a x a' e in
    let k = derives_back n d b b_is in
    record {
      result = y ∷ k.result;
      is = (let f = k.is in ap (λ z. z ∷ b') (sym y_is) ∙ ap (λ z. renamed r y ∷ z) f);
      derives =
          subst (λ z. Derives g z (y ∷ k.result)) (sym a_is) (keep y k.derives);
    }
derives_back {g} {w} {part} {r} n (DerivesIn.expand q c u v {a = a'} {x = x'} rule left d s is) a e =
    let (y, b, a_is, y_is, b_is) = split_list r a (Nonterminal c) a' e in
    let (c0, y_is0, c_is) = nonterminal_of r y c y_is in
    let m = ruled n q c0 rule (left ∙ sym c_is) in
    let k = derives_back n d m.right (sym m.right_is) in
    let l = derives_back n s b b_is in
    record {
      result = k.result ++ l.result;
      is = is ∙ (ap (λ z. z ++ v) k.is ∙ (ap (λ z. map (renamed r) k.result ++ z) l.is ∙ sym (map_join r k.result l.result)));
      derives = subst (λ z. Derives g z (k.result ++ l.result)) (sym (a_is ∙ ap (λ z. z ∷ b) y_is0))
          (expand m.p c0 m.right k.result l.result m.rule k.derives l.derives refl);
    }

-- a valid item of the part in numbers
pub record ValidBack (g : GrammarView) (r : Renaming) (prefix' : List Symbol) (item' : Item) (t' : ℕ) : Type 0 where
  pub prefix : List Symbol
  pub item : Item
  pub t : ℕ
  pub prefix_is : prefix' ≡ map (renamed r) prefix
  pub item_is : item' ≡ renamed_item r item
  pub t_is : t' ≡ r.terminal t
  pub valid : IsValidItem g prefix item t

-- a symbol whose renaming is a terminal
pub terminal_of : (r : Renaming) (y : Symbol) (b : ℕ) → renamed r y ≡ Terminal b → (a : ℕ) × (y ≡ Terminal a) × (r.terminal a ≡ b)
terminal_of r (Terminal t) b e = (t, refl, (cc))
terminal_of r (Nonterminal a) b e = cc

-- each valid item of the part has numbers
pub valid_back : {g : GrammarView} {w : World} {part : Part} {r : Renaming} {prefix' : List Symbol} {item' : Item} {t' : ℕ} →
    IsNumbering g w part r → IsValidItemIn w part prefix' item' t' → ValidBack g r prefix' item' t'
valid_back {g} n IsValidItemIn.start =
    record {
      prefix = [];
      item = start_item g;
      t = g.terminals;
      prefix_is = refl;
      item_is = ap initial_item (sym n.ends.top_is);
      t_is =
          sym n.ends.end_is;
      valid = start;
    }
valid_back {g} {w} {part} {r} n (IsValidItemIn.close item' t' b' rest' q' u' {prefix = prefix'} v is rule left (x', d)) =
    let k = valid_back n v in
    let here : map (renamed r) (after_dot g k.item) ≡ Nonterminal b' ∷ rest' = sym (dots n k.item (in_grammar k.valid)) ∙
    (ap (after_dot_in w) (sym k.item_is) ∙ is) in
    let (y, rest, dot_is, y_is, rest_is) = split_list r (after_dot g k.item) (Nonterminal b') rest' here in
    let (b, y_is0, b_is) = nonterminal_of r y b' y_is in
    let m = ruled n q' b rule (left ∙ sym b_is) in
    let first = derives_back n d (rest ++ Terminal k.t ∷ [])
    (map_join r rest (Terminal k.t ∷ []) ∙
    (ap (λ z. z ++ Terminal (r.terminal k.t) ∷ []) rest_is ∙ ap (λ z. rest' ++ Terminal z ∷ []) (sym k.t_is))) in
    let (z, more, result_is, z_is, more_is) = split_list r first.result (Terminal u') x' (sym first.is) in
    let (u, z_is0, u_is) = terminal_of r z u' z_is in
    record {
      prefix = k.prefix;
      item = initial_item m.p;
      t = u;
      prefix_is = k.prefix_is;
      item_is = ap initial_item m.is;
      t_is = sym u_is;
      valid = close k.item k.t b rest m.p u m.right k.valid (dot_is ∙ ap (λ z. z ∷ rest) y_is0) m.rule
          (more, subst (Derives g (rest ++ Terminal k.t ∷ [])) (result_is ∙ ap (λ z. z ∷ more) z_is0) first.derives);
    }
valid_back {g} {w} {part} {r} n
    (IsValidItemIn.move item' x' rest' prefix' {t = t'} {longer = longer'} {moved = moved'} v is longer_is moved_is) =
    let k = valid_back n v in
    let here : map (renamed r) (after_dot g k.item) ≡ x' ∷ rest' = sym (dots n k.item (in_grammar k.valid)) ∙
    (ap (after_dot_in w) (sym k.item_is) ∙ is) in
    let (y, rest, dot_is, y_is, rest_is) = split_list r (after_dot g k.item) x' rest' here in
    record {
      prefix = k.prefix ++ y ∷ [];
      item = advance k.item;
      t = k.t;
      prefix_is = longer_is ∙
          (ap (λ z. z ++ x' ∷ []) k.prefix_is ∙
          (ap (λ z. map (renamed r) k.prefix ++ z ∷ []) (sym y_is) ∙ sym (map_join r k.prefix (y ∷ []))));
      item_is = moved_is ∙ ap advance k.item_is;
      t_is = k.t_is;
      valid = move k.item y rest k.prefix k.valid dot_is refl refl;
    }

-- items whose renamings are one are one
pub item_once : {g : GrammarView} {w : World} {part : Part} {r : Renaming} → IsNumbering g w part r → (i j : Item) →
    renamed_item r i ≡ renamed_item r j → i ≡ j
item_once n i j e =
    let p : i.production ≡ j.production = n.once.production i.production j.production (ap (λ z. z.production) e) in
    let d : i.dot ≡ j.dot = ap (λ z. z.dot) e in
    λ k. record { production = p k; dot = d k }

-- what is valid doesn't depend on the numbers
pub valid_renamed : (g : GrammarView) (w : World) (part : Part) (r : Renaming) → IsNumbering g w part r →
    (prefix : List Symbol) (item : Item) (t : ℕ) →
    IsValidItem g prefix item t ↔ IsValidItemIn w part (map (renamed r) prefix) (renamed_item r item) (r.terminal t)
valid_renamed g w part r n prefix item t = (valid_there n, there)
  where
    there : IsValidItemIn w part (map (renamed r) prefix) (renamed_item r item) (r.terminal t) → IsValidItem g prefix item t
    there v =
        let k = valid_back n v in
        let a : k.prefix ≡ prefix = list_once n k.prefix prefix (sym k.prefix_is) in
        let b : k.item ≡ item = item_once n k.item item (sym k.item_is) in
        let c : k.t ≡ t = n.once.terminal k.t t (sym k.t_is) in
        subst (λ z. IsValidItem g z item t) a
        (subst (λ z. IsValidItem g k.prefix z t) b (subst (λ z. IsValidItem g k.prefix k.item z) c k.valid))
