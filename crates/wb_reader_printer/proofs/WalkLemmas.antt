-- Steps of the walk over an expression.
use Rattle.std.proofs.Common.{◌≡◌, ◌+◌, ℕ, ◌++◌, ◌∷◌, [], List, Bool, true, false, ap, ◌∙◌, refl, sym, subst, arith, append_assoc, ◌-◌, ◌<◌}
use Rattle.std.proofs.Common.{length, get_or, take, drop}
use Rattle.std.proofs.lemmas.List.{append-nil, length-drop, take_all}
use Rattle.wb_syntax_expressions.proofs.PlaceLemmas.{within, size_some}
use Rattle.wb_text_tokens.specs.declared.token.Token.{Token}
use Rattle.wb_text_tokens.specs.declared.token.Token.TheVariants as t
use Rattle.wb_text_tokens.specs.declared.word.Word.TheVariants as w
use Rattle.wb_text_tokens.specs.declared.punctuation.Punctuation.TheVariants as p
use Rattle.wb_syntax.specs.Expression.{Node}
use Rattle.wb_syntax_expressions.specs.declared.node.Node.TheVariants as n
use Rattle.wb_syntax.specs.Expression.{Expression, Expressions}
use Rattle.wb_syntax_expressions.specs.Expression.{none, more, size, size_of_all}
use Rattle.wb_reader_printer.specs.Inner.Output.{Output, put, after}
use Rattle.wb_reader_printer.proofs.OutputLemmas.{after_both}
use Rattle.wb_reader_printer.specs.Inner.ExpressionTokens.{expression_tokens, arguments_tokens, further_tokens}
use Rattle.wb_syntax_expressions.specs.Places.{HasNode, Stands, AllStand}
use Rattle.wb_syntax_expressions.proofs.NodeLemmas.{IsOfNode, of_node}
use Rattle.wb_reader_printer.specs.Inner.Walk.{Comes, Continues, left_tokens, separator, IsVisiting}
use Rattle.wb_reader_printer.specs.declared.expressions.Waiting.{Waiting}
use Rattle.wb_reader_printer.specs.declared.expressions.Waiting.TheVariants.{Whole, Then, Else}

module _ (nodes : List Node) where
  -- what is to come first has come
  pub removed : (x : Waiting) (stack : List Waiting) (one other : Output) (front : List Token) (visited : ℕ)
      → ((a : List Token) (c : ℕ) → Comes nodes x a c → (a ≡ front) × (c ≡ visited)) → other ≡ after one front
      → Continues nodes one (x ∷ stack) other stack visited
  removed x stack one other front visited all puts = λ tokens count h.
      let k = all h.0 h.2 h.4 in (
        h.1,
        h.3,
        h.5,
        omega (arith, h.7, k.1),
        ap (λ (o : Output). after o h.1) puts ∙
            (sym (after_both one front h.1) ∙ ap (λ (l : List Token). after one (l ++ h.1)) (sym k.0) ∙ ap (after one) (sym h.6)),
      )

  -- what is to come first has come in part, and the rest of it is to come
  pub exchanged : (x y : Waiting) (stack : List Waiting) (one other : Output) (front : List Token) (visited : ℕ)
      → ((a : List Token) (c : ℕ) → Comes nodes x a c → (b : List Token) × (d : ℕ) × Comes nodes y b d × (a ≡ front ++ b)
      × (c ≡ d + visited))
      → other ≡ after one front → Continues nodes one (x ∷ stack) other (y ∷ stack) visited
  exchanged x y stack one other front visited all puts = λ tokens count h.
      let k = all h.0 h.2 h.4 in (
        k.0 ++ h.1,
        k.1 + h.3,
        (k.0, h.1, k.1, h.3, k.2, h.5, refl, refl),
        omega (arith, h.7, k.4),
        ap (λ (o : Output). after o (k.0 ++ h.1)) puts ∙ (sym (after_both one front (k.0 ++ h.1))
            ∙ ap (after one) (sym (append_assoc front k.0 h.1)) ∙ ap (λ (l : List Token). after one (l ++ h.1)) (sym k.3)
            ∙ ap (after one) (sym h.6)),
      )

  -- what is to come first has come in part, and the rest of it is to come in two parts
  pub doubled : (x y z : Waiting) (stack : List Waiting) (one other : Output) (front : List Token) (visited : ℕ)
      → ((a : List Token) (c : ℕ) → Comes nodes x a c
      → (b : List Token) × (d : List Token) × (e : ℕ) × (f : ℕ) × Comes nodes y b e × Comes nodes z d f × (a ≡ front ++ (b ++ d))
      × (c ≡ e + f + visited))
      → other ≡ after one front → Continues nodes one (x ∷ stack) other (y ∷ z ∷ stack) visited
  doubled x y z stack one other front visited all puts = λ tokens count h.
      let k = all h.0 h.2 h.4 in
      let join : front ++ (k.0 ++ (k.1 ++ h.1)) ≡ (front ++ (k.0 ++ k.1)) ++ h.1
      = ap (λ (l : List Token). front ++ l) (sym (append_assoc k.0 k.1 h.1)) ∙ sym (append_assoc front (k.0 ++ k.1) h.1) in (
        k.0 ++ (k.1 ++ h.1),
        k.2 + (k.3 + h.3),
        (k.0, k.1 ++ h.1, k.2, k.3 + h.3, k.4, (k.1, h.1, k.3, h.3, k.5, h.5, refl, refl), refl, refl),
        omega (arith, h.7, k.7),
        ap (λ (o : Output). after o (k.0 ++ (k.1 ++ h.1))) puts ∙ (sym (after_both one front (k.0 ++ (k.1 ++ h.1)))
            ∙ ap (after one) join ∙ ap (λ (l : List Token). after one (l ++ h.1)) (sym k.6) ∙ ap (after one) (sym h.6)),
      )

  -- one step and then another
  pub continued : (one two three : Output) (a b c : List Waiting) (k m : ℕ) → Continues nodes one a two b k
      → Continues nodes two b three c m
      → Continues nodes one a three c (k + m)
  continued one two three a b c k m f g = λ tokens count h.
      let i = f tokens count h in
      let j = g i.0 i.1 i.2 in
      (j.0, j.1, j.2, omega (arith, i.3, j.3), j.4 ∙ i.4)

  -- a leaf
  pub leaf : (at : ℕ) (stack : List Waiting) (one other : Output) (e : Expression) → ((f : Expression) → Stands nodes at f → f ≡ e)
      → size e ≡ 1
      → other ≡ after one (expression_tokens e) → Continues nodes one (Whole at ∷ stack) other stack 1
  leaf at stack one other e only small puts =
      removed (Whole at) stack one other (expression_tokens e) 1
      (λ a c h. let q = only h.0 h.1 in (h.2 ∙ ap expression_tokens q, h.3 ∙ ap size q ∙ small)) puts

  -- the whole at a place
  whole_of : (at : ℕ) (node : Node) (a : List Token) (c : ℕ) → HasNode nodes at node → Comes nodes (Whole at) a c
      → (e : Expression) × IsOfNode nodes node e × (a ≡ expression_tokens e) × (c ≡ size e)
  whole_of at node a c k h = (h.0, of_node nodes at h.0 node h.1 k, h.2, h.3)

  -- a production's name and the opening parenthesis have come, and the children are to come
  pub build_begun : (at : ℕ) (name : List ℕ) (places : List ℕ) (w : Waiting) (stack : List Waiting) (one other : Output)
      → HasNode nodes at (n.Build name places)
      → ((es : Expressions) → AllStand nodes places es → Comes nodes w (arguments_tokens es ++ t.Punctuation p.CloseParenthesis ∷ [])
      (size_of_all es))
      → other ≡ after one (t.Name name ∷ t.Punctuation p.OpenParenthesis ∷ []) → Continues nodes one (Whole at ∷ stack) other (w ∷ stack) 1
  build_begun at name places w stack one other k waits puts =
      exchanged (Whole at) w stack one other (t.Name name ∷ t.Punctuation p.OpenParenthesis ∷ []) 1
      (λ a c h. let q = whole_of at (n.Build name places) a c k h in (
        arguments_tokens q.1.0 ++ t.Punctuation p.CloseParenthesis ∷ [],
        size_of_all q.1.0,
        waits q.1.0 q.1.1,
        q.2 ∙ ap expression_tokens q.1.2,
        omega (arith, q.3, ap size q.1.2),
      )) puts

  -- the same of an operation and its arguments
  pub call_begun : (at : ℕ) (name : List ℕ) (places : List ℕ) (w : Waiting) (stack : List Waiting) (one other : Output)
      → HasNode nodes at (n.Call name places)
      → ((es : Expressions) → AllStand nodes places es → Comes nodes w (arguments_tokens es ++ t.Punctuation p.CloseParenthesis ∷ [])
      (size_of_all es))
      → other ≡ after one (t.Punctuation p.At ∷ t.Name name ∷ t.Punctuation p.OpenParenthesis ∷ [])
      → Continues nodes one (Whole at ∷ stack) other (w ∷ stack) 1
  call_begun at name places w stack one other k waits puts =
      exchanged (Whole at) w stack one other (t.Punctuation p.At ∷ t.Name name ∷ t.Punctuation p.OpenParenthesis ∷ []) 1
      (λ a c h. let q = whole_of at (n.Call name places) a c k h in (
        arguments_tokens q.1.0 ++ t.Punctuation p.CloseParenthesis ∷ [],
        size_of_all q.1.0,
        waits q.1.0 q.1.1,
        q.2 ∙ ap expression_tokens q.1.2,
        omega (arith, q.3, ap size q.1.2),
      )) puts

  -- the word `if` has come, and the condition and the rest are to come
  pub if_begun : (at c h f : ℕ) (stack : List Waiting) (one other : Output) → HasNode nodes at (n.If c h f) → other ≡ put one (t.Word w.If)
      → Continues nodes one (Whole at ∷ stack) other (Whole c ∷ Then h f ∷ stack) 1
  if_begun at c h f stack one other k puts =
      doubled (Whole at) (Whole c) (Then h f) stack one other (t.Word w.If ∷ []) 1
      (λ a m g. let q = whole_of at (n.If c h f) a m k g in
      let i = q.1 in (
        expression_tokens i.0,
        t.Word w.Then ∷ (expression_tokens i.1 ++ t.Word w.Else ∷ expression_tokens i.2),
        size i.0,
        size i.1 + size i.2,
        (i.0, i.3, refl, refl),
        (i.1, i.2, i.4, i.5, refl, refl),
        q.2 ∙ ap expression_tokens i.6,
        omega (arith, q.3, ap size i.6),
      )) puts

  -- nothing has come
  pub same : (one : Output) (stack : List Waiting) → Continues nodes one stack one stack 0
  same one stack = λ tokens count h. (tokens, count, h, omega arith, refl)

  -- no place has no expression
  none_stand : (places : List ℕ) (es : Expressions) → AllStand nodes places es → places ≡ [] → es ≡ none
  none_stand places es AllStand.nothing e = refl
  none_stand places es (AllStand.next h all) e = cc

  -- the first place has an expression, and the others have the others
  some_stand : (places : List ℕ) (es : Expressions) (at : ℕ) (others : List ℕ) → AllStand nodes places es → places ≡ at ∷ others
      → (e : Expression) × (fs : Expressions) × Stands nodes at e × AllStand nodes others fs × (es ≡ more e fs)
  some_stand places es at others AllStand.nothing q = cc
  some_stand places es at others (AllStand.next {at = b} {places = bs} {e = e} {es = fs} h all) q =
      let first : b ≡ at = cc in
      let further : bs ≡ others = cc in
      (e, fs, subst (λ (x : ℕ). Stands nodes x e) first h, subst (λ (x : List ℕ). AllStand nodes x fs) further all, refl)

  -- a waiting with these arguments
  abbrev pub WaitsFor : Waiting → Bool → List ℕ → Type 0
  WaitsFor w first places = (a : List Token) (c : ℕ) → Comes nodes w a c → (es : Expressions) × AllStand nodes places es
      × (a ≡ left_tokens first es ++ t.Punctuation p.CloseParenthesis ∷ []) × (c ≡ size_of_all es)

  -- the parenthesis is closed
  pub closed : (w : Waiting) (first : Bool) (places : List ℕ) (stack : List Waiting) (one other : Output) → WaitsFor w first places
      → places ≡ []
      → other ≡ put one (t.Punctuation p.CloseParenthesis) → Continues nodes one (w ∷ stack) other stack 0
  closed w first places stack one other waits empty puts =
      removed w stack one other (t.Punctuation p.CloseParenthesis ∷ []) 0
      (λ a c h. let q = waits a c h in
      let e = none_stand places q.0 q.1 empty in (
        q.2 ∙ ap (λ (es : Expressions). left_tokens first es ++ t.Punctuation p.CloseParenthesis ∷ []) e ∙ no_tokens first,
        q.3 ∙ ap size_of_all e,
      )) puts
    where
      no_tokens : (first : Bool) → left_tokens first none ++ t.Punctuation p.CloseParenthesis ∷ [] ≡ t.Punctuation p.CloseParenthesis ∷ []
      no_tokens true = refl
      no_tokens false = refl

  -- an argument and then the others
  argument_tokens : (first : Bool) (e : Expression) (fs : Expressions) → left_tokens first (more e fs) ++ t.Punctuation p.CloseParenthesis
      ∷ []
      ≡ separator first ++ (expression_tokens e ++ (further_tokens fs ++ t.Punctuation p.CloseParenthesis ∷ []))
  argument_tokens true e fs = append_assoc (expression_tokens e) (further_tokens fs) (t.Punctuation p.CloseParenthesis ∷ [])
  argument_tokens false e fs =
      ap (λ (l : List Token). t.Punctuation p.Comma ∷ l)
      (append_assoc (expression_tokens e) (further_tokens fs) (t.Punctuation p.CloseParenthesis ∷ []))

  -- the next argument is to come
  pub argument : (w v : Waiting) (first : Bool) (places : List ℕ) (at : ℕ) (others : List ℕ) (stack : List Waiting) (one other : Output)
      → WaitsFor w first places → places ≡ at ∷ others
      → ((es : Expressions) → AllStand nodes others es → Comes nodes v (further_tokens es ++ t.Punctuation p.CloseParenthesis ∷ [])
      (size_of_all es))
      → other ≡ after one (separator first) → Continues nodes one (w ∷ stack) other (Whole at ∷ v ∷ stack) 0
  argument w v first places at others stack one other waits q left puts =
      doubled w (Whole at) v stack one other (separator first) 0
      (λ a c h. let k = waits a c h in
      let s = some_stand places k.0 at others k.1 q in (
        expression_tokens s.0,
        further_tokens s.1 ++ t.Punctuation p.CloseParenthesis ∷ [],
        size s.0,
        size_of_all s.1,
        (s.0, s.2, refl, refl),
        left s.1 s.3,
        k.2 ∙ ap (λ (es : Expressions). left_tokens first es ++ t.Punctuation p.CloseParenthesis ∷ []) s.4 ∙ argument_tokens first s.0 s.1,
        omega (arith, k.3, ap size_of_all s.4),
      )) puts

  -- the branch where the condition holds is to come
  pub then_begun : (h f : ℕ) (stack : List Waiting) (one other : Output) → other ≡ put one (t.Word w.Then)
      → Continues nodes one (Then h f ∷ stack) other (Whole h ∷ Else f ∷ stack) 0
  then_begun h f stack one other puts =
      doubled (Then h f) (Whole h) (Else f) stack one other (t.Word w.Then ∷ []) 0
      (λ a c k. (
        expression_tokens k.0,
        t.Word w.Else ∷ expression_tokens k.1,
        size k.0,
        size k.1,
        (k.0, k.2, refl, refl),
        (k.1, k.3, refl, refl),
        k.4,
        omega (arith, k.5),
      )) puts

  -- the other branch is to come
  pub else_begun : (f : ℕ) (stack : List Waiting) (one other : Output) → other ≡ put one (t.Word w.Else)
      → Continues nodes one (Else f ∷ stack) other (Whole f ∷ stack) 0
  else_begun f stack one other puts =
      exchanged (Else f) (Whole f) stack one other (t.Word w.Else ∷ []) 0
      (λ a c k. (expression_tokens k.0, size k.0, (k.0, k.1, refl, refl), k.2, omega (arith, k.3))) puts

  -- a leaf by its node
  pub leaf_of : (at : ℕ) (stack : List Waiting) (one other : Output) (node : Node) (e : Expression)
      → ((f : Expression) → IsOfNode nodes node f → f ≡ e) → size e ≡ 1
      → other ≡ after one (expression_tokens e) → (here : Node) → here ≡ node → HasNode nodes at here
      → Continues nodes one (Whole at ∷ stack) other stack 1
  leaf_of at stack one other node e only small puts here is h =
      let k : HasNode nodes at node = subst (λ (m : Node). HasNode nodes at m) is h in
      leaf at stack one other e (λ f s. only f (of_node nodes at f node s k)) small puts

  -- the same with a stack that is equal
  pub moved_stack : (a b b' : List Waiting) (one other : Output) (k : ℕ) → b' ≡ b → Continues nodes one a other b k
      → Continues nodes one a other b' k
  moved_stack a b b' one other k q h = subst (λ (l : List Waiting). Continues nodes one a other l k) (sym q) h

  -- a production is begun, and what waits is on the stack
  pub build_put : (at : ℕ) (name : List ℕ) (places : List ℕ) (w : Waiting) (stack stack' : List Waiting) (one other : Output) (here : Node)
      → here ≡ n.Build name places → stack' ≡ w ∷ stack
      → ((es : Expressions) → AllStand nodes places es → Comes nodes w (arguments_tokens es ++ t.Punctuation p.CloseParenthesis ∷ [])
      (size_of_all es))
      → other ≡ after one (t.Name name ∷ t.Punctuation p.OpenParenthesis ∷ []) → HasNode nodes at here
      → Continues nodes one (Whole at ∷ stack) other stack' 1
  build_put at name places w stack stack' one other here is q waits puts h =
      moved_stack (Whole at ∷ stack) (w ∷ stack) stack' one other 1 q
      (build_begun at name places w stack one other (subst (λ (m : Node). HasNode nodes at m) is h) waits puts)

  -- the same of an operation
  pub call_put : (at : ℕ) (name : List ℕ) (places : List ℕ) (w : Waiting) (stack stack' : List Waiting) (one other : Output) (here : Node)
      → here ≡ n.Call name places → stack' ≡ w ∷ stack
      → ((es : Expressions) → AllStand nodes places es → Comes nodes w (arguments_tokens es ++ t.Punctuation p.CloseParenthesis ∷ [])
      (size_of_all es))
      → other ≡ after one (t.Punctuation p.At ∷ t.Name name ∷ t.Punctuation p.OpenParenthesis ∷ []) → HasNode nodes at here
      → Continues nodes one (Whole at ∷ stack) other stack' 1
  call_put at name places w stack stack' one other here is q waits puts h =
      moved_stack (Whole at ∷ stack) (w ∷ stack) stack' one other 1 q
      (call_begun at name places w stack one other (subst (λ (m : Node). HasNode nodes at m) is h) waits puts)

  -- the same of a choice
  pub if_put : (at c h f : ℕ) (stack stack' : List Waiting) (one other : Output) (here : Node) → here ≡ n.If c h f
      → stack' ≡ Whole c ∷ Then h f ∷ stack
      → other ≡ put one (t.Word w.If) → HasNode nodes at here → Continues nodes one (Whole at ∷ stack) other stack' 1
  if_put at c h f stack stack' one other here is q puts k =
      moved_stack (Whole at ∷ stack) (Whole c ∷ Then h f ∷ stack) stack' one other 1 q
      (if_begun at c h f stack one other (subst (λ (m : Node). HasNode nodes at m) is k) puts)

  -- the next argument, and what waits is on the stack
  pub argument_put : (w v : Waiting) (first : Bool) (places : List ℕ) (at : ℕ) (others : List ℕ) (stack stack' : List Waiting)
      (one other : Output)
      → WaitsFor w first places → places ≡ at ∷ others → stack' ≡ v ∷ stack
      → ((es : Expressions) → AllStand nodes others es → Comes nodes v (further_tokens es ++ t.Punctuation p.CloseParenthesis ∷ [])
      (size_of_all es))
      → other ≡ after one (separator first) → Continues nodes one (w ∷ stack) other (Whole at ∷ stack') 0
  argument_put w v first places at others stack stack' one other waits q s left puts =
      moved_stack (w ∷ stack) (Whole at ∷ v ∷ stack) (Whole at ∷ stack') one other 0 (ap (λ (l : List Waiting). Whole at ∷ l) s)
      (argument w v first places at others stack one other waits q left puts)

  -- the walk begins
  pub visit_first : (e : Expression) (output : Output) (place : ℕ) → Stands nodes place e → size e ≡ length nodes
      → IsVisiting nodes output output place [] 0 e
  visit_first e output place s count = (
    expression_tokens e,
    size e,
    (expression_tokens e, [], size e, 0, (e, s, refl, refl), (refl, refl), sym (append-nil (expression_tokens e)), omega arith),
    omega (arith, count),
    refl,
  )

  -- the whole at the place is in the nodes
  pub visit_within : (e : Expression) (one other : Output) (place : ℕ) (stack : List Waiting) (visited : ℕ)
      → IsVisiting nodes one other place stack visited e
      → (place < length nodes) × (visited < length nodes)
  visit_within e one other place stack visited h =
      let k = h.2.4 in
      (within nodes place k.0 k.1, omega (arith, h.3, h.2.7, k.3, size_some k.0))

  -- one node more is visited
  pub visit_next : (e : Expression) (one two three four : Output) (place next : ℕ) (a b c : List Waiting) (visited : ℕ)
      → IsVisiting nodes one two place a visited e
      → Continues nodes two (Whole place ∷ a) three b 1 → Continues nodes three b four (Whole next ∷ c) 0
      → IsVisiting nodes one four next c (visited + 1) e
  visit_next e one two three four place next a b c visited h f g =
      let i = f h.0 h.1 h.2 in
      let j = g i.0 i.1 i.2 in
      (j.0, j.1, j.2, omega (arith, j.3, i.3, h.3), j.4 ∙ (i.4 ∙ h.4))

  -- the last node is visited, and nothing is to come
  pub visit_last : (e : Expression) (one two three four : Output) (place : ℕ) (a b : List Waiting) (visited : ℕ)
      → IsVisiting nodes one two place a visited e
      → Continues nodes two (Whole place ∷ a) three b 1 → Continues nodes three b four [] 0 → four ≡ after one (expression_tokens e)
  visit_last e one two three four place a b visited h f g =
      let i = f h.0 h.1 h.2 in
      let j = g i.0 i.1 i.2 in
      ap (after four) (sym j.2.0) ∙ (j.4 ∙ (i.4 ∙ h.4))

-- the first of some numbers and the others
pub split_first : (l : List ℕ) → 0 < length l → l ≡ get_or l 0 0 ∷ take (length l - 1) (drop 1 l)
split_first [] h = absurd (omega (arith, h))
split_first (x ∷ l) h =
    ap (λ (k : List ℕ). x ∷ k) (sym (take_all (length (x ∷ l) - 1) (drop 1 (x ∷ l)) (omega (arith, length-drop 1 (x ∷ l)))))
