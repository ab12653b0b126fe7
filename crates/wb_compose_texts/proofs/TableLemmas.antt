-- Tables of names and of signatures as they are filled.
use Rattle.std.proofs.Common.{◌≡◌, ◌<◌, ◌≤◌, ◌+◌, ◌-◌, ◌++◌, ◌∷◌, ◌∙◌, [], ℕ, List, Some, drop, get_or, length, map, slice_get, take, ap}
use Rattle.std.proofs.Common.{refl, subst, sym, arith}
use Rattle.std.specs.Prelude.{IfSome, option_map}
use Rattle.std.proofs.lemmas.List.{append-nil, length-drop, length-map, length-take-le, map-append, take_all, take_more}
use Rattle.std.proofs.lemmas.Option.{get_or_from_slice_get, same_Some, slice_get-get_or, slice_get-map, slice_get_read, slice_get_within}
use Rattle.wb_compose.specs.Kept.{ExtensionView}
use Rattle.wb_lemmas.proofs.Parts.{append_assoc}
use Rattle.wb_lemmas.proofs.Places.{at_take, at_within}
use Rattle.wb_names_theory.specs.Declares.{name_in}
use Rattle.wb_syntax_resolved.specs.declared.resolved.ResolvedParts.{ResolvedParts}
use Rattle.wb_syntax_resolved.specs.Numbered.{signature_of}
use Rattle.wb_syntax_resolved.specs.Resolved.{IsResolved}
use Rattle.wb_certify_shown.specs.Names.{grammar_terminals, productions_in, terminal_name, terminal_shown, terminals_in}
use Rattle.wb_certify_shown.proofs.HoleLemmas.{few_productions, few_terminals}
use Rattle.wb_compose_theory_grammar.proofs.ProductionLemmas.{drop_at}
use Rattle.wb_compose_theory_grammar.specs.Places.{total_of}
use Rattle.wb_compose_theory.specs.Blocks.{lift}
use Rattle.wb_reading.specs.OrderedNames.{all_of}
use Rattle.wb_values.specs.Signature.{Signature}
use Rattle.wb_compose_texts.specs.Inner.Tables.{AreAdded, names_from, signatures_from}
use Rattle.wb_compose_texts.specs.Names.{added_names}
use Rattle.wb_compose_texts.specs.Unions.{all_resolved}
use Rattle.wb_compose_texts.specs.Signatures.{added_count, added_signatures, grammar_signatures, nonterminals_in, signature_by}
use Rattle.wb_compose_texts.specs.Signatures.{signatures_after}

-- one element more
pub take_next : {X : Type 0} (xs : List X) (i : ℕ) (x : X) → slice_get xs i ≡ Some x → take (i + 1) xs ≡ take i xs ++ x ∷ []
take_next xs i x at =
    take_more xs i x (slice_get_within xs i x at) ∙ ap (λ z. take i xs ++ z ∷ []) (get_or_from_slice_get xs i x x at)

pub map_next : {X Y : Type 0} (f : X → Y) (xs : List X) (i : ℕ) (x : X) → slice_get xs i ≡ Some x →
    map f (take (i + 1) xs) ≡ map f (take i xs) ++ f x ∷ []
map_next f xs i x at = ap (map f) (take_next xs i x at) ∙ map-append f (take i xs) (x ∷ [])

-- a list from a number on, as far as it was read
pub part_next : {X : Type 0} (xs : List X) (from k : ℕ) (x : X) → from ≤ k → slice_get xs k ≡ Some x →
    take (k + 1 - from) (drop from xs) ≡ take (k - from) (drop from xs) ++ x ∷ []
part_next xs from k x above at =
    let next : k + 1 - from ≡ (k - from) + 1 = omega (arith, above) in
    let place : from + (k - from) ≡ k = omega (arith, above) in
    ap (λ n. take n (drop from xs)) next ∙
    take_next (drop from xs) (k - from) x (drop_at from (k - from) xs ∙ (ap (slice_get xs) place ∙ at))

pub part_all : {X : Type 0} (xs : List X) (from k n : ℕ) → length xs ≡ n → n ≤ k → take (k - from) (drop from xs) ≡ drop from xs
part_all xs from k n len past =
    let count = length-drop from xs in take_all (k - from) (drop from xs) (omega (arith, count, len, past))

-- what is made of it, where nothing was read yet, and where all was
pub none_read : {X Y : Type 0} (f : List X → List Y) (xs : List X) (from : ℕ) (old : List Y) → f [] ≡ [] →
    old ≡ old ++ f (take (from - from) xs)
none_read f xs from old empty =
    let zero_is : from - from ≡ 0 = omega arith in
    sym (ap (λ n. old ++ f (take n xs)) zero_is ∙ (ap (λ z. old ++ z) empty ∙ append-nil old))

pub all_read : {X Y : Type 0} (f : List X → List Y) (xs : List X) (from k n : ℕ) (old made : List Y) → length xs ≡ n → n ≤ k →
    made ≡ old ++ f (take (k - from) (drop from xs)) → made ≡ old ++ f (drop from xs)
all_read f xs from k n old made len past was = was ∙ ap (λ z. old ++ f z) (part_all xs from k n len past)

-- what one element more is mapped to
pub mapped_next : {X Y : Type 0} (f : X → Y) (xs : List X) (i : ℕ) (d : X) (y : Y) (now new : List Y) → i < length xs →
    now ≡ map f (take i xs) → y ≡ f (get_or xs i d) → new ≡ now ++ y ∷ [] → new ≡ map f (take (i + 1) xs)
mapped_next f xs i d y now new less was is pushed =
    pushed ∙ ((λ z. was z ++ is z ∷ []) ∙ sym (map_next f xs i (get_or xs i d) (slice_get-get_or xs i d less)))

-- lists one after another, with one more
pub all_next : {X : Type 0} (blocks : List (List X)) (block : List X) → all_of (blocks ++ block ∷ []) ≡ all_of blocks ++ block
all_next [] block = append-nil block
all_next (first ∷ blocks) block =
    ap (λ z. first ++ z) (all_next blocks block) ∙ sym (append_assoc first (all_of blocks) block)

module _ (r : ResolvedParts) (whole : IsResolved r) where
  -- the grammar's terminals have so many names
  pub names_len : length (grammar_terminals r) ≡ terminals_in r.grammar
  names_len = length-map (take (terminals_in r.grammar) r.terminals) (terminal_name r) ∙
      length-take-le (terminals_in r.grammar) r.terminals (few_terminals r whole)

  -- each its own
  pub name_is : (k : ℕ) → k < terminals_in r.grammar → slice_get (grammar_terminals r) k ≡ Some (terminal_shown r k)
  name_is k below =
      let inside = length-take-le (terminals_in r.grammar) r.terminals (few_terminals r whole) in
      let found = at_within (take (terminals_in r.grammar) r.terminals) k (omega (arith, below, inside)) in
      let row = (at_take r.terminals (terminals_in r.grammar) k found.0 found.1).1 in
      slice_get-map (terminal_name r) (take (terminals_in r.grammar) r.terminals) k ∙
      (ap (option_map (terminal_name r)) found.1 ∙ ap Some (sym (ap (name_in (terminal_name r)) row)))

  -- the grammar's productions have so many signatures
  pub enough_signatures : productions_in r.grammar ≤ length r.attributes.signatures
  enough_signatures =
      let few = few_productions r whole in
      let same = ap length whole.attributes.numbered.signatures ∙
      length-map r.attributes.productions (signature_of r.attributes.extensions) in
      omega (arith, few, same)

  pub signatures_len : length (grammar_signatures r) ≡ productions_in r.grammar
  signatures_len = length-take-le (productions_in r.grammar) r.attributes.signatures enough_signatures

-- the signatures of one extension more
pub signatures_next : (host : ResolvedParts) (before : ℕ) (rs : List ResolvedParts) (r : ResolvedParts) →
    signatures_after host before (rs ++ r ∷ []) ≡ signatures_after host before rs ++
    map (signature_by (lift (nonterminals_in host.grammar) (before + total_of (map (added_count host) rs)))) (added_signatures host r)
signatures_next host before [] r =
    let e : before ≡ before + 0 = omega arith in
    append_none (map (signature_by (lift (nonterminals_in host.grammar) before)) (added_signatures host r)) ∙
    ap (λ z. map (signature_by (lift (nonterminals_in host.grammar) z)) (added_signatures host r)) e
  where
    append_none : (xs : List Signature) → xs ++ [] ≡ xs
    append_none [] = refl
    append_none (x ∷ xs) = ap (λ z. x ∷ z) (append_none xs)
signatures_next host before (s ∷ rs) r =
    let first = map (signature_by (lift (nonterminals_in host.grammar) before)) (added_signatures host s) in
    let then = before + added_count host s in
    let rest = signatures_after host then rs in
    let own = added_signatures host r in
    let e : then + total_of (map (added_count host) rs) ≡ before + total_of (map (added_count host) (s ∷ rs)) = omega arith in
    ap (λ z. first ++ z) (signatures_next host then rs r) ∙
    (ap (λ z. first ++ (rest ++ map (signature_by (lift (nonterminals_in host.grammar) z)) own)) e ∙
    sym (append_assoc first rest
    (map (signature_by (lift (nonterminals_in host.grammar) (before + total_of (map (added_count host) (s ∷ rs))))) own)))

-- a sum with one number more
pub total_next : (xs : List ℕ) (x : ℕ) → total_of (xs ++ x ∷ []) ≡ total_of xs + x
total_next [] x = omega arith
total_next (y ∷ xs) x = let rest = total_next xs x in omega (arith, rest)

-- a signature that was copied part by part
pub copied : (all : List Signature) (k : ℕ) (s : Signature) → k < length all →
    IfSome (slice_get all k) (λ (t : Signature). s.name ≡ t.name) → IfSome (slice_get all k) (λ (t : Signature). s.left ≡ t.left) →
    IfSome (slice_get all k) (λ (t : Signature). s.children ≡ t.children) → slice_get all k ≡ Some s
copied all k s below names lefts kinds =
    let (t, at) = at_within all k below in
    let n : s.name ≡ t.name = rw at at names in
    let l : s.left ≡ t.left = rw at at lefts in
    let c : s.children ≡ t.children = rw at at kinds in
    at ∙ ap Some (sym (λ j. record { name = n j; left = l j; children = c j }))

-- one name more
pub name_next : (r : ResolvedParts) → IsResolved r → (old now new : List (List ℕ)) (from k : ℕ) (name : List ℕ) → from ≤ k →
    k < terminals_in r.grammar → now ≡ old ++ take (k - from) (names_from from r) → name ≡ terminal_shown r k → new ≡ now ++ name ∷ [] →
    new ≡ old ++ take (k + 1 - from) (names_from from r)
name_next r whole old now new from k name above below was is pushed =
    pushed ∙ ((λ z. was z ++ is z ∷ []) ∙
    (append_assoc old (take (k - from) (names_from from r)) (terminal_shown r k ∷ []) ∙
    ap (λ z. old ++ z) (sym (part_next (grammar_terminals r) from k (terminal_shown r k) above (name_is r whole k below)))))

-- one extension more
pub resolved_next : (es : List ExtensionView) (i : ℕ) (e : ExtensionView) (r : ResolvedParts) → i < length es → e ≡ get_or es i e →
    r ≡ e.resolved → all_resolved (take (i + 1) es) ≡ all_resolved (take i es) ++ r ∷ []
resolved_next es i e r less is resolved =
    map_next (λ (e : ExtensionView). e.resolved) es i e (slice_get_read es (length es) i e refl less is) ∙
    ap (λ z. all_resolved (take i es) ++ z ∷ []) (sym resolved)

pub block_next : (host : ResolvedParts) (es : List ExtensionView) (i : ℕ) (e : ExtensionView) (r : ResolvedParts) (own : ℕ)
    (old now new : List (List ℕ)) → i < length es → e ≡ get_or es i e → r ≡ e.resolved → own ≡ terminals_in host.grammar →
    now ≡ old ++ all_of (map (added_names host) (all_resolved (take i es))) → new ≡ now ++ names_from own r →
    new ≡ old ++ all_of (map (added_names host) (all_resolved (take (i + 1) es)))
block_next host es i e r own old now new less is resolved own_is was more =
    let rs = all_resolved (take i es) in
    let blocks : map (added_names host) (all_resolved (take (i + 1) es)) ≡ map (added_names host) rs ++ added_names host r ∷ [] =
    ap (map (added_names host)) (resolved_next es i e r less is resolved) ∙ map-append (added_names host) rs (r ∷ []) in
    more ∙ ((λ z. was z ++ names_from (own_is z) r) ∙ (append_assoc old (all_of (map (added_names host) rs)) (added_names host r) ∙
    ap (λ z. old ++ z) (sym (ap all_of blocks ∙ all_next (map (added_names host) rs) (added_names host r)))))

-- one signature of the host more
pub host_next : (r : ResolvedParts) → IsResolved r → (sigs old now new : List Signature) (p : ℕ) (s : Signature) →
    sigs ≡ r.attributes.signatures → p < productions_in r.grammar → now ≡ old ++ take p (grammar_signatures r) →
    IfSome (slice_get sigs p) (λ (t : Signature). s.name ≡ t.name) → IfSome (slice_get sigs p) (λ (t : Signature). s.left ≡ t.left) →
    IfSome (slice_get sigs p) (λ (t : Signature). s.children ≡ t.children) → new ≡ now ++ s ∷ [] →
    new ≡ old ++ take (p + 1) (grammar_signatures r)
host_next r whole sigs old now new p s are below was names lefts kinds pushed =
    let len = signatures_len r whole in
    let enough = enough_signatures r whole in
    let count = ap length are in
    let here : slice_get sigs p ≡ Some s = copied sigs p s (omega (arith, below, enough, count)) names lefts kinds in
    let (t, at) = at_within (grammar_signatures r) p (omega (arith, below, len)) in
    let there : slice_get r.attributes.signatures p ≡ Some t = (at_take r.attributes.signatures (productions_in r.grammar) p t at).1 in
    let same : t ≡ s = same_Some t s (sym there ∙ (sym (ap (λ z. slice_get z p) are) ∙ here)) in
    pushed ∙ (ap (λ z. z ++ s ∷ []) was ∙ (append_assoc old (take p (grammar_signatures r)) (s ∷ []) ∙
    ap (λ z. old ++ z) (sym (take_next (grammar_signatures r) p s (at ∙ ap Some same)))))

-- one signature of an extension more
pub own_next : (r : ResolvedParts) → IsResolved r → (f : ℕ → ℕ) (sigs old now new : List Signature) (from p : ℕ) →
    sigs ≡ r.attributes.signatures → from ≤ p → p < productions_in r.grammar →
    now ≡ old ++ map (signature_by f) (take (p - from) (signatures_from from r)) →
    IfSome (slice_get sigs p) (λ (s : Signature). new ≡ now ++ signature_by f s ∷ []) →
    new ≡ old ++ map (signature_by f) (take (p + 1 - from) (signatures_from from r))
own_next r whole f sigs old now new from p are above below was pushed =
    let len = signatures_len r whole in
    let (t, at) = at_within (grammar_signatures r) p (omega (arith, below, len)) in
    let there : slice_get sigs p ≡ Some t =
    ap (λ z. slice_get z p) are ∙ (at_take r.attributes.signatures (productions_in r.grammar) p t at).1 in
    let is : new ≡ now ++ signature_by f t ∷ [] =
    subst (λ o. IfSome o (λ (s : Signature). new ≡ now ++ signature_by f s ∷ [])) there pushed in
    let part = take (p - from) (signatures_from from r) in
    is ∙ (ap (λ z. z ++ signature_by f t ∷ []) was ∙ (append_assoc old (map (signature_by f) part) (signature_by f t ∷ []) ∙
    ap (λ z. old ++ z) (sym (ap (map (signature_by f)) (part_next (grammar_signatures r) from p t above at) ∙
    map-append (signature_by f) part (t ∷ [])))))

-- the signatures of one extension more, and how many nonterminals come before the next
pub added_next : (host : ResolvedParts) (es : List ExtensionView) (i : ℕ) (e : ExtensionView) (r : ResolvedParts)
    (productions nonterminals : ℕ) (old now new : List Signature) (before after : ℕ) → i < length es → e ≡ get_or es i e → r ≡ e.resolved →
    productions ≡ productions_in host.grammar → nonterminals ≡ nonterminals_in host.grammar →
    AreAdded host (all_resolved (take i es)) old now before →
    new ≡ now ++ map (signature_by (lift nonterminals before)) (signatures_from productions r) →
    after ≡ before + (nonterminals_in r.grammar - nonterminals) → AreAdded host (all_resolved (take (i + 1) es)) old new after
added_next host es i e r productions nonterminals old now new before after less is resolved ps_are ns_are was more next =
    let rs = all_resolved (take i es) in
    let last = map (signature_by (lift (nonterminals_in host.grammar) (total_of (map (added_count host) rs)))) (added_signatures host r) in
    let mine : new ≡ now ++ last =
    more ∙ (λ z. now ++ map (signature_by (lift (ns_are z) (was.before_is z))) (signatures_from (ps_are z) r)) in
    let first : 0 + total_of (map (added_count host) rs) ≡ total_of (map (added_count host) rs) = omega arith in
    let all : signatures_after host 0 (rs ++ r ∷ []) ≡ signatures_after host 0 rs ++ last =
    signatures_next host 0 rs r ∙ (λ z. signatures_after host 0 rs ++
    map (signature_by (lift (nonterminals_in host.grammar) (first z))) (added_signatures host r)) in
    let count : after ≡ total_of (map (added_count host) rs) + added_count host r =
    next ∙ (λ z. was.before_is z + (nonterminals_in r.grammar - ns_are z)) in
    subst (λ qs. AreAdded host qs old new after) (sym (resolved_next es i e r less is resolved)) (record {
      made_is = mine ∙ (ap (λ z. z ++ last) was.made_is ∙ (append_assoc old (signatures_after host 0 rs) last ∙
          ap (λ z. old ++ z) (sym all)));
      before_is = count ∙ sym (ap total_of (map-append (added_count host) rs (r ∷ [])) ∙
          total_next (map (added_count host) rs) (added_count host r));
    })
