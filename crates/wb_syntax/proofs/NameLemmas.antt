-- The names of what the grammar has are names, where its tokens are spelled.
use Rattle.std.proofs.Common.{◌+◌, ℕ, true, false, List, [], ◌∷◌, ◌++◌, All, Option, ap, ◌∙◌, subst, append_assoc}
use Rattle.std.proofs.lemmas.List.Elements.{All-nil, All-cons, All-head, All-tail, All-append}
use Rattle.wb_base.specs.Identifiers.{IsName as IsNamed}
use Rattle.wb_lemmas.proofs.Elements.{all_left, all_right}
use Rattle.wb_text_predictive.specs.Reading.{Spells, none as spells_none, next as spells_next}
use Rattle.wb_text_tokens.specs.declared.token.Dialect.{Dialect}
use Rattle.wb_text_tokens.specs.declared.token.Token.{Token}
use Rattle.wb_text_tokens.specs.declared.token.Token.TheVariants as t
use Rattle.wb_text_tokens.specs.NextToken.{IsNextIn}
use Rattle.wb_text_tokens.specs.Spelling as spelling
use Rattle.wb_text_tokens.proofs.CallerLemmas.{reserved_word}
use Rattle.wb_syntax_expressions.specs.declared.node.Node.TheVariants as n
use Rattle.wb_syntax_expressions.specs.Expression.{size, nodes_from, all_nodes_from, places_from, nodes_of}
use Rattle.wb_syntax.specs.Expression.{Expression, Expressions, Node}
use Rattle.wb_syntax.specs.ExpressionGrammar as e
use Rattle.wb_syntax.specs.ExpressionGrammar.{IsExpression, AreArguments, AreFurther}
use Rattle.wb_syntax.specs.PartGrammar as part
use Rattle.wb_syntax.specs.PartGrammar.{IsKind, AreFurtherNames, AreNames, AreNeeds, AreOptionalNeeds, AreChildren, IsTarget, AreEquations}
use Rattle.wb_syntax.specs.PartGrammar.{IsBlock}
use Rattle.wb_syntax.specs.ItemGrammar as item
use Rattle.wb_syntax.specs.Fields.{Field, AreFields, no_field, then_word, then_mark, then_name, then_kind, then_needs, then_optional_needs}
use Rattle.wb_syntax.specs.ItemGrammar.{IsProduction, IsItem, AreItems, IsHeader, IsSpecification}
use Rattle.wb_syntax.specs.Tokens.{Lexeme, IsName}
use Rattle.wb_syntax.specs.declared.expression.Equation.{Equation}
use Rattle.wb_syntax.specs.declared.expression.Target.{Target}
use Rattle.wb_syntax.specs.declared.header.Header.{Header}
use Rattle.wb_syntax.specs.declared.item.Item.{Item}
use Rattle.wb_syntax.specs.declared.pattern.WrittenPattern.{WrittenPattern}
use Rattle.wb_syntax.specs.declared.production.Child.{Child}
use Rattle.wb_syntax.specs.declared.production.NamedKind.{NamedKind}
use Rattle.wb_syntax.specs.declared.production.Production.{Production}
use Rattle.wb_syntax.specs.declared.written.WrittenSpec.{WrittenSpec}
use Rattle.wb_syntax.specs.Names.{node_names, target_names, EquationHasNames, kind_names, child_names, ProductionHasNames, needs_names}
use Rattle.wb_syntax.specs.Names.{fields_names, FormHasNames, header_names}

-- where the token is a name, it is one
abbrev IsNameToken : Token → Type 0
IsNameToken (t.Name text) = IsNamed text
IsNameToken token = Unit {0}

-- the names among the tokens are names
abbrev pub AreNamed : List Lexeme → Type 0
AreNamed xs = All (λ x. IsNameToken x.token) xs

-- a token that is spelled in some dialect
spelled_token : (dialect : Dialect) (token : Token) (bytes : List ℕ) → spelling.Spells dialect token bytes → IsNameToken token
spelled_token dialect (t.Name text) bytes s =
    subst IsNamed s.0 (record { identifier = s.1; free = λ reserved. s.2 (reserved_word dialect bytes reserved) })
spelled_token dialect (t.Word word) bytes s = tt
spelled_token dialect (t.Int value) bytes s = tt
spelled_token dialect (t.Text text) bytes s = tt
spelled_token dialect (t.Regex body) bytes s = tt
spelled_token dialect (t.Punctuation mark) bytes s = tt

-- the tokens that a text spells
pub spelled : (dialect : Dialect) (bytes : List ℕ) (from : ℕ) (xs : List Lexeme) (to : ℕ) → Spells (IsNextIn dialect bytes) from xs to
    → AreNamed xs
spelled dialect bytes from xs to (spells_none e) = All-nil (λ x. IsNameToken x.token)
spelled dialect bytes from xs to (spells_next {x = x} {xs = rest} h s) =
    All-cons (λ y. IsNameToken y.token) x rest (spelled_token dialect x.token _ h.stands.spelled) (spelled dialect bytes x.end rest to s)

-- a name among them
named : (x : Lexeme) (name : List ℕ) → IsName name x → IsNameToken x.token → IsNamed name
named x name e h = subst IsNameToken e h

-- the first of them, and the others
first : (x : Lexeme) (xs : List Lexeme) → AreNamed (x ∷ xs) → IsNameToken x.token
first x xs h = All-head (λ y. IsNameToken y.token) x xs h

others : (x : Lexeme) (xs : List Lexeme) → AreNamed (x ∷ xs) → AreNamed xs
others x xs h = All-tail (λ y. IsNameToken y.token) x xs h

left : (xs ys : List Lexeme) → AreNamed (xs ++ ys) → AreNamed xs
left xs ys h = all_left (λ y. IsNameToken y.token) xs ys h

right : (xs ys : List Lexeme) → AreNamed (xs ++ ys) → AreNamed ys
right xs ys h = all_right (λ y. IsNameToken y.token) xs ys h

-- lists of one name, and of two
one_name : (a : List ℕ) → IsNamed a → All IsNamed (a ∷ [])
one_name a h = All-cons IsNamed a [] h (All-nil IsNamed)

two_names : (a b : List ℕ) → IsNamed a → IsNamed b → All IsNamed (a ∷ b ∷ [])
two_names a b h k = All-cons IsNamed a (b ∷ []) h (one_name b k)

-- the nodes have names
abbrev NodesHaveNames : List Node → Type 0
NodesHaveNames nodes = All (λ node. All IsNamed (node_names node)) nodes

one_node : (node : Node) → All IsNamed (node_names node) → NodesHaveNames (node ∷ [])
one_node node h = All-cons (λ x. All IsNamed (node_names x)) node [] h (All-nil (λ x. All IsNamed (node_names x)))

both : (xs ys : List Node) → NodesHaveNames xs → NodesHaveNames ys → NodesHaveNames (xs ++ ys)
both xs ys h k = All-append (λ x. All IsNamed (node_names x)) xs ys h k

mutual
  -- the nodes of an expression
  expression_names : (xs : List Lexeme) (z : Expression) (at : ℕ) → IsExpression xs z → AreNamed xs → NodesHaveNames (nodes_from at z)
  expression_names xs z at (e.number {z = v} h) all = one_node (n.Int v) (All-nil IsNamed)
  expression_names xs z at (e.text {s = s} h) all = one_node (n.Text s) (All-nil IsNamed)
  expression_names xs z at (e.holds h) all = one_node (n.Bool true) (All-nil IsNamed)
  expression_names xs z at (e.fails h) all = one_node (n.Bool false) (All-nil IsNamed)
  expression_names xs z at (e.label {x = x} {l = l} h) all = one_node (n.Label l) (one_name l (named x l h (first x [] all)))
  expression_names xs z at (e.read {x = x} {d = d} {y = y} {l = l} {a = a} h i j) all =
      one_node (n.Read l a) (two_names l a (named x l h (first x (d ∷ y ∷ []) all)) (named y a j
      (first y [] (others d (y ∷ []) (others x (d ∷ y ∷ []) all)))))
  expression_names xs z at (e.lexeme {x = x} {d = d} {y = y} {l = l} h i j) all =
      one_node (n.Lexeme l) (one_name l (named x l h (first x (d ∷ y ∷ []) all)))
  expression_names xs z at (e.top {x = x} {d = d} {y = y} {a = a} h i j) all =
      one_node (n.Top a) (one_name a (named y a j (first y [] (others d (y ∷ []) (others x (d ∷ y ∷ []) all)))))
  expression_names xs z at (e.forward {x = x} {d = d} {y = y} {a = a} h i j) all =
      one_node (n.Forward a) (one_name a (named y a j (first y [] (others d (y ∷ []) (others x (d ∷ y ∷ []) all)))))
  expression_names xs z at (e.build {x = x} {o = o} c {name = name} {u = u} {es = es} h i s j k) all =
      let whole = subst AreNamed k all in
      let inner = left u (c ∷ []) (others o (u ++ c ∷ []) (others x (o ∷ (u ++ c ∷ [])) whole)) in
      both (all_nodes_from at es) (n.Build name (places_from at es) ∷ []) (arguments_names u es at s inner)
      (one_node (n.Build name (places_from at es)) (one_name name (named x name h (first x (o ∷ (u ++ c ∷ [])) whole))))
  expression_names xs z at (e.call {a = m} {x = x} {o = o} c {name = name} {u = u} {es = es} q h i s j k) all =
      let whole = others m (x ∷ o ∷ (u ++ c ∷ [])) (subst AreNamed k all) in
      let inner = left u (c ∷ []) (others o (u ++ c ∷ []) (others x (o ∷ (u ++ c ∷ [])) whole)) in
      both (all_nodes_from at es) (n.Call name (places_from at es) ∷ []) (arguments_names u es at s inner)
      (one_node (n.Call name (places_from at es)) (one_name name (named x name h (first x (o ∷ (u ++ c ∷ [])) whole))))
  expression_names xs z at (e.if_then {i = i} q w {u = u} {v = v} {x = x} {condition = c} {one = m} {other = o} h s j k l r g) all =
      let whole = others i (u ++ q ∷ (v ++ w ∷ x)) (subst AreNamed g all) in
      let rest = others q (v ++ w ∷ x) (right u (q ∷ (v ++ w ∷ x)) whole) in
      let one = expression_names u c at s (left u (q ∷ (v ++ w ∷ x)) whole) in
      let two = expression_names v m (at + size c) k (left v (w ∷ x) rest) in
      let three = expression_names x o (at + size c + size m) r (others w x (right v (w ∷ x) rest)) in
      both (nodes_from at c ++ nodes_from (at + size c) m ++ nodes_from (at + size c + size m) o) _
      (both (nodes_from at c ++ nodes_from (at + size c) m) (nodes_from (at + size c + size m) o)
      (both (nodes_from at c) (nodes_from (at + size c) m) one two) three)
      (one_node _ (All-nil IsNamed))

  arguments_names : (xs : List Lexeme) (es : Expressions) (at : ℕ) → AreArguments xs es → AreNamed xs
      → NodesHaveNames (all_nodes_from at es)
  arguments_names xs es at e.nothing all = All-nil (λ x. All IsNamed (node_names x))
  arguments_names xs es at (e.some {u = u} {v = v} {e = z} {es = zs} h s k) all =
      let whole = subst AreNamed k all in
      both (nodes_from at z) (all_nodes_from (at + size z) zs) (expression_names u z at h (left u v whole))
      (further_names v zs (at + size z) s (right u v whole))

  further_names : (xs : List Lexeme) (es : Expressions) (at : ℕ) → AreFurther xs es → AreNamed xs → NodesHaveNames (all_nodes_from at es)
  further_names xs es at e.no_more all = All-nil (λ x. All IsNamed (node_names x))
  further_names xs es at (e.next {c = c} {u = y} {v = v} {e = z} {es = zs} j h s k) all =
      let whole = others c (y ++ v) (subst AreNamed k all) in
      both (nodes_from at z) (all_nodes_from (at + size z) zs) (expression_names y z at h (left y v whole))
      (further_names v zs (at + size z) s (right y v whole))

-- a kind
kind_of_names : (xs : List Lexeme) (kind : NamedKind) → IsKind xs kind → AreNamed xs → All IsNamed (kind_names kind)
kind_of_names xs kind (part.int h) all = All-nil IsNamed
kind_of_names xs kind (part.bool h) all = All-nil IsNamed
kind_of_names xs kind (part.text h) all = All-nil IsNamed
kind_of_names xs kind (part.name {x = x} {n = name} h) all = one_name name (named x name h (first x [] all))

-- names with commas
further_listed : (xs : List Lexeme) (ns : List (List ℕ)) → AreFurtherNames xs ns → AreNamed xs → All IsNamed ns
further_listed xs ns part.nothing all = All-nil IsNamed
further_listed xs ns (part.next {c = c} {x = x} {v = v} {n = name} {ns = rest} h i s) all =
    let inner = others c (x ∷ v) all in
    All-cons IsNamed name rest (named x name i (first x v inner)) (further_listed v rest s (others x v inner))

listed : (xs : List Lexeme) (ns : List (List ℕ)) → AreNames xs ns → AreNamed xs → All IsNamed ns
listed xs ns part.nothing all = All-nil IsNamed
listed xs ns (part.some {x = x} {v = v} {n = name} {ns = rest} h s) all =
    All-cons IsNamed name rest (named x name h (first x v all)) (further_listed v rest s (others x v all))

-- needs
needs_listed : (xs : List Lexeme) (ns : List (List ℕ)) → AreNeeds xs ns → AreNamed xs → All IsNamed ns
needs_listed xs ns s all =
    let whole = subst AreNamed s.whole all in
    listed s.listed ns s.are_names (left s.listed (s.close_brace ∷ [])
    (others s.open_brace (s.listed ++ s.close_brace ∷ []) (others s.needs (s.open_brace ∷ (s.listed ++ s.close_brace ∷ [])) whole)))

optional_listed : (xs : List Lexeme) (needs : Option (List (List ℕ))) → AreOptionalNeeds xs needs → AreNamed xs
    → All IsNamed (needs_names needs)
optional_listed xs needs part.absent all = All-nil IsNamed
optional_listed xs needs (part.written {names = ns} s) all = needs_listed xs ns s all

-- children
children_listed : (xs : List Lexeme) (cs : List Child) → AreChildren xs cs → AreNamed xs → All (λ child. All IsNamed (child_names child)) cs
children_listed xs cs part.nothing all = All-nil (λ child. All IsNamed (child_names child))
children_listed xs cs (part.next {x = x} {c = c} {u = u} {v = v} {label = label} {kind = kind} {rest = rest} h i s r k) all =
    let whole = subst AreNamed k all in
    let inner = others c (u ++ v) (others x (c ∷ (u ++ v)) whole) in
    All-cons (λ child. All IsNamed (child_names child)) (record { label = label; kind = kind }) rest
    (All-cons IsNamed label (kind_names kind) (named x label h (first x (c ∷ (u ++ v)) whole)) (kind_of_names u kind s (left u v inner)))
    (children_listed v rest r (right u v inner))

-- what an equation is for
target_listed : (xs : List Lexeme) (target : Target) → IsTarget xs target → AreNamed xs → All IsNamed (target_names target)
target_listed xs target (part.top {x = x} {d = d} {y = y} {e = q} {a = a} h i j k) all =
    one_name a (named y a j (first y (q ∷ []) (others d (y ∷ q ∷ []) (others x (d ∷ y ∷ q ∷ []) all))))
target_listed xs target (part.label {x = x} {d = d} {y = y} {e = q} {l = l} {a = a} h i j k) all =
    two_names l a (named x l h (first x (d ∷ y ∷ q ∷ []) all))
    (named y a j (first y (q ∷ []) (others d (y ∷ q ∷ []) (others x (d ∷ y ∷ q ∷ []) all))))
target_listed xs target (part.forward {x = x} {d = d} {y = y} {e = q} {a = a} h i j k) all =
    one_name a (named y a j (first y (q ∷ []) (others d (y ∷ q ∷ []) (others x (d ∷ y ∷ q ∷ []) all))))
target_listed xs target (part.local {x = x} {l = l} {c = c} {n = m} {e = q} {label = label} {nonterminal = nonterminal} h i j k r) all =
    let rest = others x (l ∷ c ∷ m ∷ q ∷ []) all in
    two_names label nonterminal (named l label i (first l (c ∷ m ∷ q ∷ []) rest))
    (named m nonterminal k (first m (q ∷ []) (others c (m ∷ q ∷ []) (others l (c ∷ m ∷ q ∷ []) rest))))
target_listed xs target (part.forwards_to h i) all = All-nil IsNamed

-- equations
equations_listed : (xs : List Lexeme) (es : List Equation) → AreEquations xs es → AreNamed xs → All EquationHasNames es
equations_listed xs es part.nothing all = All-nil EquationHasNames
equations_listed xs es (part.next {x = x} s {u = u} {v = v} {r = r} {target = target} {e = z} {rest = rest} h i j q k) all =
    let whole : AreNamed ((x ∷ u) ++ (v ++ s ∷ r)) = subst AreNamed (k ∙ ap (λ (y : List Lexeme). x ∷ y) (append_assoc u v (s ∷ r))) all in
    let inner = right (x ∷ u) (v ++ s ∷ r) whole in
    All-cons EquationHasNames (record { offset = x.at; target = target; nodes = nodes_of z }) rest
    (record {
      target = target_listed (x ∷ u) target h (left (x ∷ u) (v ++ s ∷ r) whole);
      nodes = expression_names v z 0 i (left v (s ∷ r) inner);
    })
    (equations_listed r rest q (others s r (right v (s ∷ r) inner)))

block_listed : (xs : List Lexeme) (es : List Equation) → IsBlock xs es → AreNamed xs → All EquationHasNames es
block_listed xs es s all =
    let whole = subst AreNamed s.whole all in
    equations_listed s.inner es s.are_equations
    (left s.inner (s.close_brace ∷ []) (others s.open_brace (s.inner ++ s.close_brace ∷ []) whole))

production_listed : (xs : List Lexeme) (q : Production) → IsProduction xs q → AreNamed xs → ProductionHasNames q
production_listed xs q (item.whole {n = m} {c = c} {l = l} {b = b} {u = u} {v = v} {name = name} {left = on_left} {children = cs}
    {equations = es} h i j k s o g) all =
    let whole = subst AreNamed g all in
    let one = others m (c ∷ l ∷ b ∷ (u ++ v)) whole in
    let two = others c (l ∷ b ∷ (u ++ v)) one in
    let inner = others b (u ++ v) (others l (b ∷ (u ++ v)) two) in
    record {
      name = named m name h (first m (c ∷ l ∷ b ∷ (u ++ v)) whole);
      left = named l on_left j (first l (b ∷ (u ++ v)) two);
      children = children_listed u cs s (left u v inner);
      equations = block_listed v es o (right u v inner);
    }

-- fields
fields_listed : (xs : List Lexeme) (fields : List Field) → AreFields xs fields → AreNamed xs → All IsNamed (fields_names fields)
fields_listed xs fields no_field all = All-nil IsNamed
fields_listed xs fields (then_word {x = x} {v = v} {rest = rest} h s) all = fields_listed v rest s (others x v all)
fields_listed xs fields (then_mark {x = x} {v = v} {rest = rest} h s) all = fields_listed v rest s (others x v all)
fields_listed xs fields (then_name {x = x} {v = v} {value = one} {rest = rest} h s) all =
    All-cons IsNamed one (fields_names rest) (named x one h (first x v all)) (fields_listed v rest s (others x v all))
fields_listed xs fields (then_kind {u = u} {v = v} {value = its} {rest = rest} h s e) all =
    let whole = subst AreNamed e all in
    All-append IsNamed (kind_names its) (fields_names rest) (kind_of_names u its h (left u v whole))
    (fields_listed v rest s (right u v whole))
fields_listed xs fields (then_needs {u = u} {v = v} {value = its} {rest = rest} h s e) all =
    let whole = subst AreNamed e all in
    All-append IsNamed its (fields_names rest) (needs_listed u its h (left u v whole)) (fields_listed v rest s (right u v whole))
fields_listed xs fields (then_optional_needs {u = u} {v = v} {value = its} {rest = rest} h s e) all =
    let whole = subst AreNamed e all in
    All-append IsNamed (needs_names its) (fields_names rest) (optional_listed u its h (left u v whole))
    (fields_listed v rest s (right u v whole))

-- an item, and items
item_listed : (xs : List Lexeme) (one : Item WrittenPattern) → IsItem xs one → AreNamed xs → FormHasNames one.form
item_listed xs one (item.lexical {x = x} {n = m} {y = y} {s = s} {name = name} h i j k) all =
    named m name i (first m (y ∷ s ∷ []) (others x (m ∷ y ∷ s ∷ []) all))
item_listed xs one (item.plain {form = form} h) all = fields_listed xs (item.plain_fields form) h all
item_listed xs one (item.production {x = x} {u = u} {production = q} h s) all = production_listed u q s (others x u all)
item_listed xs one (item.aspect {x = x} {n = m} {u = u} {name = name} {equations = es} h i s) all =
    let rest = others x (m ∷ u) all in (named m name i (first m u rest), block_listed u es s (others m u rest))

items_listed : (xs : List Lexeme) (items : List (Item WrittenPattern)) → AreItems xs items → AreNamed xs
    → All (λ (one : Item WrittenPattern). FormHasNames one.form) items
items_listed xs items item.nothing all = All-nil (λ (one : Item WrittenPattern). FormHasNames one.form)
items_listed xs items (item.next {u = u} {v = v} {item = one} {rest = rest} h s k) all =
    let whole = subst AreNamed k all in
    All-cons (λ (x : Item WrittenPattern). FormHasNames x.form) one rest (item_listed u one h (left u v whole))
    (items_listed v rest s (right u v whole))

header_listed : (xs : List Lexeme) (name : List ℕ) (header : Header) → IsHeader xs name header → AreNamed xs
    → IsNamed name × All IsNamed (header_names header)
header_listed xs name header (item.host {o = o} {x = x} {b = b} h i j) all =
    (named x name i (first x (b ∷ []) (others o (x ∷ b ∷ []) all)), All-nil IsNamed)
header_listed xs name header (item.extension {e = q} {x = x} {o = o} {y = y} {b = b} {host_name = host_name} h i j k l) all =
    let rest = others q (x ∷ o ∷ y ∷ b ∷ []) all in (
      named x name i (first x (o ∷ y ∷ b ∷ []) rest),
      one_name host_name
          (named y host_name k (first y (b ∷ []) (others o (y ∷ b ∷ []) (others x (o ∷ y ∷ b ∷ []) rest)))),
    )

-- what a specification's names are
pub record WrittenHasNames (written : WrittenSpec) : Type 0 where
  pub name : IsNamed written.name
  pub header : All IsNamed (header_names written.header)
  pub items : All (λ (one : Item WrittenPattern). FormHasNames one.form) written.items

pub written_names : (xs : List Lexeme) (written : WrittenSpec) → IsSpecification xs written → AreNamed xs → WrittenHasNames written
written_names xs written (item.whole {f = f} {n = m} {s = s} {u = u} {v = v} {name = name} {header = header}
    {items = items} h i j k r q g) all =
    let inner = others s (u ++ v) (others m (s ∷ (u ++ v)) (others f (m ∷ s ∷ (u ++ v)) (subst AreNamed g all))) in
    let head = header_listed u name header r (left u v inner) in
    record { name = head.0; header = head.1; items = items_listed v items q (right u v inner) }
