-- The code that comes about node by node is that of the expression.
use Rattle.std.proofs.Common.{◌≡◌, ◌∙◌, ◌≤◌, ◌+◌, ◌-◌, ◌++◌, ℕ, zero, suc, List, [], ◌∷◌, length, refl, sym, ap, subst, arith, append-nil}
use Rattle.std.proofs.lemmas.List.{length-append, append_assoc}
use Rattle.wb_syntax_expressions.specs.declared.node.Node.TheVariants as n
use Rattle.wb_syntax_expressions.specs.Expression as x
use Rattle.wb_syntax_expressions.specs.Expression.{size, size_of_all, places_from, nodes_from, all_nodes_from, nodes_of}
use Rattle.wb_operations.specs.Operations.{OperationSignature}
use Rattle.wb_syntax_resolved.specs.Expression.{Expression, Expressions, Node}
use Rattle.wb_eval_rules.specs.Code.{Job, visit, build, call, stay, Way, next, skip, unless, Instruction, does, count, number_in}
use Rattle.wb_eval_rules.specs.Code.{last_job, before_last, codes_of, code_of}
use Rattle.wb_eval_rules.specs.Inner.Emitted.{job_at, set_way, after_node, emitted}

-- a way that is set behind some code
set_behind : (front back : List Instruction) (j : Job) (old way : Way) (at : ℕ) → at ≡ length front
    → set_way (front ++ does j old ∷ back) at way ≡ front ++ does j way ∷ back
set_behind [] back j old way zero is = refl
set_behind [] back j old way (suc at) is = absurd (cc is)
set_behind (does i w ∷ front) back j old way zero is = absurd (cc is)
set_behind (does i w ∷ front) back j old way (suc at) is =
    ap (λ l. does i w ∷ l) (set_behind front back j old way at (omega (arith, is)))

some_size : (e : Expression) → 1 ≤ size e
some_size (x.Int z) = omega arith
some_size (x.Text z) = omega arith
some_size (x.Truth z) = omega arith
some_size (x.Label z) = omega arith
some_size (x.Read z y) = omega arith
some_size (x.Lexeme z) = omega arith
some_size (x.Top z) = omega arith
some_size (x.Forward z) = omega arith
some_size (x.Build q es) = omega arith
some_size (x.Call q es) = omega arith
some_size (x.If c h f) = omega arith

places_count : (at : ℕ) (es : Expressions) → length (places_from at es) ≡ count es
places_count at x.none = refl
places_count at (x.more e es) = ap suc (places_count (at + size e) es)

module _ (signatures : List OperationSignature) where
  abbrev Code : Expression → Way → List Instruction
  Code e way = code_of signatures e way

  -- an instruction for each node
  mutual
    unfolding before_last codes_of

    length_before : (e : Expression) → suc (length (before_last signatures e)) ≡ size e
    length_before (x.Int z) = refl
    length_before (x.Text s) = refl
    length_before (x.Truth b) = refl
    length_before (x.Label l) = refl
    length_before (x.Read l y) = refl
    length_before (x.Lexeme l) = refl
    length_before (x.Top y) = refl
    length_before (x.Forward y) = refl
    length_before (x.Build p es) = ap suc (length_codes es)
    length_before (x.Call name es) = ap suc (length_codes es)
    length_before (x.If c h f) =
        let lc = length_before c in
        let lh = length_before h in
        let lf = length_before f in
        let ac = length-append (before_last signatures c) (does (last_job signatures c) (unless (size h)) ∷ []) in
        let ah = length-append (before_last signatures h) (does (last_job signatures h) (skip (size f)) ∷ []) in
        let af = length-append (before_last signatures f) (does (last_job signatures f) next ∷ []) in
        let one = length-append (Code c (unless (size h))) (Code h (skip (size f))) in
        let two = length-append (Code c (unless (size h)) ++ Code h (skip (size f))) (Code f next) in
        omega (arith, lc, lh, lf, ac, ah, af, one, two)

    length_codes : (es : Expressions) → length (codes_of signatures es) ≡ size_of_all es
    length_codes x.none = refl
    length_codes (x.more e es) =
        let l = length_before e in
        let r = length_codes es in
        let a = length-append (before_last signatures e) (does (last_job signatures e) next ∷ []) in
        let b = length-append (Code e next) (codes_of signatures es) in
        omega (arith, l, r, a, b)

  pub length_code : (e : Expression) (way : Way) → length (Code e way) ≡ size e
  length_code e way =
      let l = length_before e in let a = length-append (before_last signatures e) (does (last_job signatures e) way ∷ []) in omega (arith, l, a)

  emitted_append : (code : List Instruction) (ns ms : List Node)
      → emitted signatures code (ns ++ ms) ≡ emitted signatures (emitted signatures code ns) ms
  emitted_append code [] ms = refl
  emitted_append code (node ∷ ns) ms = emitted_append (after_node node (code ++ does (job_at signatures node) next ∷ [])) ns ms

  -- the ways of a condition and of the branch before the other
  module _ (done : List Instruction) (c h f : Expression) where
    abbrev bc : List Instruction
    bc = before_last signatures c

    abbrev bh : List Instruction
    bh = before_last signatures h

    abbrev jc : Job
    jc = last_job signatures c

    abbrev jh : Job
    jh = last_job signatures h

    abbrev tail : List Instruction
    tail = Code f next ++ does stay next ∷ []

    abbrev pc : ℕ
    pc = length done + size c - 1

    abbrev ph : ℕ
    ph = length done + size c + size h - 1

    abbrev pf : ℕ
    pf = length done + size c + size h + size f - 1

    abbrev first : List Instruction → List Instruction
    first l = set_way (set_way l pc (unless (ph - pc))) ph (skip (pf - ph))

    to_first : first ((((done ++ Code c next) ++ Code h next) ++ Code f next) ++ does stay next ∷ [])
        ≡ first ((done ++ bc) ++ does jc next ∷ (Code h next ++ tail))
    to_first = ap first (append_assoc ((done ++ Code c next) ++ Code h next) (Code f next) (does stay next ∷ [])
        ∙ append_assoc (done ++ Code c next) (Code h next) tail
        ∙ ap (λ l. l ++ (Code h next ++ tail)) (sym (append_assoc done bc (does jc next ∷ [])))
        ∙ append_assoc (done ++ bc) (does jc next ∷ []) (Code h next ++ tail))

    c_at : pc ≡ length (done ++ bc)
    c_at = let l = length_before c in let a = length-append done bc in omega (arith, l, a)

    h_size : ph - pc ≡ size h
    h_size = let s = some_size c in omega (arith, s)

    f_size : pf - ph ≡ size f
    f_size = let s = some_size h in omega (arith, s)

    set_first : first ((done ++ bc) ++ does jc next ∷ (Code h next ++ tail))
        ≡ set_way ((done ++ bc) ++ does jc (unless (size h)) ∷ (Code h next ++ tail)) ph (skip (size f))
    set_first =
        ap (λ l. set_way l ph (skip (pf - ph))) (set_behind (done ++ bc) (Code h next ++ tail) jc next (unless (ph - pc)) pc c_at)
        ∙ ap (λ k. set_way ((done ++ bc) ++ does jc (unless k) ∷ (Code h next ++ tail)) ph (skip (pf - ph))) h_size
        ∙ ap (λ k. set_way ((done ++ bc) ++ does jc (unless (size h)) ∷ (Code h next ++ tail)) ph (skip k)) f_size

    abbrev begin : List Instruction
    begin = ((done ++ bc) ++ does jc (unless (size h)) ∷ []) ++ bh

    to_second : set_way ((done ++ bc) ++ does jc (unless (size h)) ∷ (Code h next ++ tail)) ph (skip (size f))
        ≡ set_way (begin ++ does jh next ∷ tail) ph (skip (size f))
    to_second = ap (λ l. set_way l ph (skip (size f)))
        (sym (append_assoc (done ++ bc) (does jc (unless (size h)) ∷ []) (Code h next ++ tail))
        ∙ ap (λ l. ((done ++ bc) ++ does jc (unless (size h)) ∷ []) ++ l) (append_assoc bh (does jh next ∷ []) tail)
        ∙ sym (append_assoc ((done ++ bc) ++ does jc (unless (size h)) ∷ []) bh (does jh next ∷ tail)))

    h_at : ph ≡ length begin
    h_at =
        let lc = length_before c in
        let lh = length_before h in
        let a = length-append done bc in
        let b = length-append (done ++ bc) (does jc (unless (size h)) ∷ []) in
        let d = length-append ((done ++ bc) ++ does jc (unless (size h)) ∷ []) bh in
        omega (arith, lc, lh, a, b, d)

    set_second : set_way (begin ++ does jh next ∷ tail) ph (skip (size f)) ≡ begin ++ does jh (skip (size f)) ∷ tail
    set_second = set_behind begin tail jh next (skip (size f)) ph h_at

    to_whole : begin ++ does jh (skip (size f)) ∷ tail ≡ done ++ Code (x.If c h f) next
    unfolding before_last
    to_whole =
        append_assoc ((done ++ bc) ++ does jc (unless (size h)) ∷ []) bh (does jh (skip (size f)) ∷ tail)
        ∙ ap (λ l. ((done ++ bc) ++ does jc (unless (size h)) ∷ []) ++ l) (sym (append_assoc bh (does jh (skip (size f)) ∷ []) tail))
        ∙ ap (λ l. l ++ (Code h (skip (size f)) ++ tail)) (append_assoc done bc (does jc (unless (size h)) ∷ []))
        ∙ append_assoc done (Code c (unless (size h))) (Code h (skip (size f)) ++ tail)
        ∙ ap (λ l. done ++ l) (sym (append_assoc (Code c (unless (size h))) (Code h (skip (size f))) tail)
        ∙ sym (append_assoc (Code c (unless (size h)) ++ Code h (skip (size f))) (Code f next) (does stay next ∷ [])))

    pub ways_set : after_node (n.If pc ph pf) ((((done ++ Code c next) ++ Code h next) ++ Code f next) ++ does stay next ∷ [])
        ≡ done ++ Code (x.If c h f) next
    ways_set = to_first ∙ set_first ∙ to_second ∙ set_second ∙ to_whole

  mutual
    unfolding before_last codes_of

    pub emitted_code : (e : Expression) (at : ℕ) (done : List Instruction) → at ≡ length done
        → emitted signatures done (nodes_from at e) ≡ done ++ Code e next
    emitted_code (x.Int z) at done is = refl
    emitted_code (x.Text s) at done is = refl
    emitted_code (x.Truth b) at done is = refl
    emitted_code (x.Label l) at done is = refl
    emitted_code (x.Read l y) at done is = refl
    emitted_code (x.Lexeme l) at done is = refl
    emitted_code (x.Top y) at done is = refl
    emitted_code (x.Forward y) at done is = refl
    emitted_code (x.Build p es) at done is =
        emitted_append done (all_nodes_from at es) (n.Build p (places_from at es) ∷ [])
        ∙ ap (λ l. l ++ does (build p (length (places_from at es))) next ∷ []) (emitted_codes es at done is)
        ∙ ap (λ k. (done ++ codes_of signatures es) ++ does (build p k) next ∷ []) (places_count at es)
        ∙ append_assoc done (codes_of signatures es) (does (build p (count es)) next ∷ [])
    emitted_code (x.Call name es) at done is =
        emitted_append done (all_nodes_from at es) (n.Call name (places_from at es) ∷ [])
        ∙ ap (λ l. l ++ does (call (number_in signatures name) (length (places_from at es))) next ∷ []) (emitted_codes es at done is)
        ∙ ap (λ k. (done ++ codes_of signatures es) ++ does (call (number_in signatures name) k) next ∷ []) (places_count at es)
        ∙ append_assoc done (codes_of signatures es) (does (call (number_in signatures name) (count es)) next ∷ [])
    emitted_code (x.If c h f) at done is =
        let last = n.If (at + size c - 1) (at + size c + size h - 1) (at + size c + size h + size f - 1) in
        let nc = nodes_from at c in
        let nh = nodes_from (at + size c) h in
        let nf = nodes_from (at + size c + size h) f in
        let lc = length-append done (Code c next) in
        let kc = length_code c next in
        let lh = length-append (done ++ Code c next) (Code h next) in
        let kh = length_code h next in
        let one = emitted_code c at done is in
        let two = emitted_code h (at + size c) (done ++ Code c next) (omega (arith, is, lc, kc)) in
        let three = emitted_code f (at + size c + size h) ((done ++ Code c next) ++ Code h next) (omega (arith, is, lc, kc, lh, kh)) in
        emitted_append done (nc ++ nh ++ nf) (last ∷ [])
        ∙ ap (λ l. after_node last (l ++ does stay next ∷ [])) (emitted_append done (nc ++ nh) nf
        ∙ ap (λ l. emitted signatures l nf) (emitted_append done nc nh ∙ ap (λ l. emitted signatures l nh) one ∙ two) ∙ three)
        ∙ ap (λ k. after_node (n.If (k + size c - 1) (k + size c + size h - 1) (k + size c + size h + size f - 1))
        ((((done ++ Code c next) ++ Code h next) ++ Code f next) ++ does stay next ∷ [])) is
        ∙ ways_set done c h f

    pub emitted_codes : (es : Expressions) (at : ℕ) (done : List Instruction) → at ≡ length done
        → emitted signatures done (all_nodes_from at es) ≡ done ++ codes_of signatures es
    emitted_codes x.none at done is = sym (append-nil done)
    emitted_codes (x.more e es) at done is =
        let l = length-append done (Code e next) in
        let k = length_code e next in
        emitted_append done (nodes_from at e) (all_nodes_from (at + size e) es)
        ∙ ap (λ l. emitted signatures l (all_nodes_from (at + size e) es)) (emitted_code e at done is)
        ∙ emitted_codes es (at + size e) (done ++ Code e next) (omega (arith, is, l, k))
        ∙ append_assoc done (Code e next) (codes_of signatures es)

  -- the code of the nodes of an expression
  pub emitted_whole : (e : Expression) (nodes : List Node) → nodes ≡ nodes_of e → emitted signatures [] nodes ≡ Code e next
  emitted_whole e nodes is = ap (emitted signatures []) is ∙ emitted_code e 0 [] refl

  -- a node more
  pub emitted_more : (code : List Instruction) (ns : List Node) (node : Node)
      → emitted signatures code (ns ++ node ∷ [])
      ≡ after_node node (emitted signatures code ns ++ does (job_at signatures node) next ∷ [])
  emitted_more code ns node = emitted_append code ns (node ∷ [])
