-- Spines: the nodes that have holes below them stand one below the other.
use Rattle.std.proofs.Common.{◌≡◌, ◌<◌, ◌≤◌, ◌+◌, ℕ, zero, suc, refl, ◌∙◌, ap, inl, inr, arith}
use Rattle.std.proofs.lemmas.Bool.{cases_order}
use Rattle.wb_grammar_theory.specs.Trees.{Forest, nothing, leaf, node}
use Rattle.wb_scan_theory.specs.Machine.{joined}
use Rattle.wb_session_theory.specs.Frames.{Frame, bare, hole, twig, branch, roots, root_at, filled}
use Rattle.wb_session_theory.specs.Inner.Linked.{row, linked}
use Rattle.wb_session_theory.specs.Frames.{holes, one_if, rebuilt}
use Rattle.wb_session_theory.specs.Frames.{IsSpine, at_end, past_hole, in_node, depth, none_if, shared}
use Rattle.wb_scan_theory.specs.Bounds.{nodes}
use Rattle.wb_scan_theory.proofs.ForestLemmas.{nodes_joined}

pub holes_linked : (u v : Frame) → holes (linked u v) ≡ holes u + holes v
holes_linked bare v = omega arith
holes_linked (hole i u) v = let h : holes (linked u v) ≡ holes u + holes v = holes_linked u v in omega arith
holes_linked (twig t x u) v = holes_linked u v
holes_linked (branch p a k u) v = let h : holes (linked u v) ≡ holes u + holes v = holes_linked u v in omega arith

spine_le : {n i : ℕ} {f : Frame} → IsSpine n i f → i ≤ n
spine_le (at_end e none) = omega arith
spine_le {n} {i} (past_hole e s) = let h : suc i ≤ n = spine_le s in omega arith
spine_le (in_node lt s none) = omega arith

spine_none : {n i : ℕ} {f : Frame} → IsSpine n i f → i ≡ n → holes f ≡ 0
spine_none (at_end e none) is = none
spine_none {n} {i} (past_hole e s) is = absurd (let h : suc i ≤ n = spine_le s in omega arith)
spine_none (in_node lt s none) is = absurd (omega arith)

-- more trees without holes behind
pub spine_more : {n i : ℕ} {f : Frame} (v : Frame) → holes v ≡ 0 → IsSpine n i f → IsSpine n i (linked f v)
spine_more {f = f} v none (at_end e no_holes) =
    at_end e (let h : holes (linked f v) ≡ holes f + holes v = holes_linked f v in omega arith)
spine_more v none (past_hole e s) = past_hole e (spine_more v none s)
spine_more v none (in_node {rest = rest} lt s no_holes) =
    in_node lt s (let h : holes (linked rest v) ≡ holes rest + holes v = holes_linked rest v in omega arith)

-- a node over the last trees
pub spine_grown : (one two : Frame) (n i p a : ℕ) → IsSpine n i (linked one two) → IsSpine n i (linked one (branch p a two bare))
spine_grown bare two n i p a s = elim (cases_order i n) [
  | inl is ↦ at_end is (let h : holes two ≡ 0 = spine_none s is in omega arith)
  | inr (inl lt) ↦ in_node lt s refl
  | inr (inr gt) ↦ absurd (let h : i ≤ n = spine_le s in omega arith)
]
spine_grown (hole j one) two n i p a (at_end e none) = absurd (omega arith)
spine_grown (hole j one) two n i p a (past_hole e s) = past_hole e (spine_grown one two n (suc i) p a s)
spine_grown (twig t x one) two n i p a (at_end e none) =
    at_end e (let g : holes (linked one two) ≡ holes one + holes two = holes_linked one two in
    let h : holes (linked one (branch p a two bare)) ≡ holes one + (holes two + 0) = holes_linked one (branch p a two bare) in omega arith)
spine_grown (branch q b k one) two n i p a (at_end e none) =
    at_end e (let g : holes (linked one two) ≡ holes one + holes two = holes_linked one two in
    let h : holes (linked one (branch p a two bare)) ≡ holes one + (holes two + 0) = holes_linked one (branch p a two bare) in omega arith)
spine_grown (branch q b k one) two n i p a (in_node lt s none) =
    in_node lt s (let g : holes (linked one two) ≡ holes one + holes two = holes_linked one two in
    let h : holes (linked one (branch p a two bare)) ≡ holes one + (holes two + 0) = holes_linked one (branch p a two bare) in omega arith)

pub spine_row : (m i n : ℕ) → i + m ≡ n → IsSpine n i (row i m)
spine_row zero i n e = at_end (omega arith) refl
spine_row (suc m) i n e = past_hole refl (spine_row m (suc i) n (omega arith))

none_rebuilt : (f : Frame) → holes f ≡ 0 → rebuilt f ≡ 0
none_rebuilt bare e = refl
none_rebuilt (hole i f) e = absurd (omega arith)
none_rebuilt (twig t x f) e = none_rebuilt f e
none_rebuilt (branch p a k f) e =
    let one : holes k ≡ 0 = omega arith in
    let two : holes f ≡ 0 = omega arith in
    let a : rebuilt k ≡ 0 = none_rebuilt k one in
    let b : rebuilt f ≡ 0 = none_rebuilt f two in
    let c : one_if (holes k) ≡ 0 = ap one_if one in omega arith

one_if_le : (n : ℕ) → one_if n ≤ 1
one_if_le zero = omega arith
one_if_le (suc n) = omega arith

depth_joined : (f h : Forest) → depth h ≤ depth (joined f h)
depth_joined nothing h = omega arith
depth_joined (leaf t x r) h = depth_joined r h
depth_joined (node p a k r) h = let i : depth h ≤ depth (joined r h) = depth_joined r h in omega arith

-- no more nodes have to be built anew than the tree is deep
pub spine_depth : {n i : ℕ} {f : Frame} (base : Forest) → IsSpine n i f → rebuilt f ≤ depth (filled f base)
spine_depth {f = f} base (at_end e none) = let h : rebuilt f ≡ 0 = none_rebuilt f none in omega arith
spine_depth base (past_hole {j = j} {rest} e s) =
    let a : rebuilt rest ≤ depth (filled rest base) = spine_depth base s in
    let b : depth (filled rest base) ≤ depth (joined (root_at j base) (filled rest base)) =
    depth_joined (root_at j base) (filled rest base) in omega arith
spine_depth base (in_node {p = p} {a} {children} {rest} lt s none) =
    let one : rebuilt children ≤ depth (filled children base) = spine_depth base s in
    let two : rebuilt rest ≡ 0 = none_rebuilt rest none in
    let three : one_if (holes children) ≤ 1 = one_if_le (holes children) in omega arith

-- the roots from a number on
abbrev from_root : ℕ → Forest → Forest
from_root zero f = f
from_root (suc i) nothing = nothing
from_root (suc i) (leaf t x rest) = from_root i rest
from_root (suc i) (node p a k rest) = from_root i rest

nodes_from : (i : ℕ) (f : Forest) → i < roots f → nodes (from_root i f) ≡ nodes (root_at i f) + nodes (from_root (suc i) f)
nodes_from i nothing lt = absurd (omega arith)
nodes_from zero (leaf t x rest) lt = omega arith
nodes_from (suc i) (leaf t x rest) lt = nodes_from i rest (omega arith)
nodes_from zero (node p a k rest) lt = omega arith
nodes_from (suc i) (node p a k rest) lt = nodes_from i rest (omega arith)

from_end : (i : ℕ) (f : Forest) → i ≡ roots f → nodes (from_root i f) ≡ 0
from_end zero nothing e = refl
from_end zero (leaf t x rest) e = absurd (omega arith)
from_end zero (node p a k rest) e = absurd (omega arith)
from_end (suc i) nothing e = refl
from_end (suc i) (leaf t x rest) e = from_end i rest (omega arith)
from_end (suc i) (node p a k rest) e = from_end i rest (omega arith)

spine_holes : {n i : ℕ} {f : Frame} → IsSpine n i f → holes f + i ≡ n
spine_holes (at_end e none) = omega arith
spine_holes {n} {i} (past_hole {rest = rest} e s) = let h : holes rest + suc i ≡ n = spine_holes s in omega arith
spine_holes {n} {i} (in_node {children = children} {rest} lt s none) = let h : holes children + i ≡ n = spine_holes s in omega arith

none_shared : (f : Frame) (base : Forest) → holes f ≡ 0 → nodes (filled f base) ≡ shared f
none_shared bare base e = refl
none_shared (hole i f) base e = absurd (omega arith)
none_shared (twig t x f) base e = none_shared f base e
none_shared (branch p a k f) base e =
    let one : holes k ≡ 0 = omega arith in
    let two : holes f ≡ 0 = omega arith in
    let a : nodes (filled k base) ≡ shared k = none_shared k base one in
    let b : nodes (filled f base) ≡ shared f = none_shared f base two in
    let c : none_if (holes k) ≡ 1 = ap none_if one in omega arith

one_of_some : (n : ℕ) → 0 < n → (one_if n ≡ 1) × (none_if n ≡ 0)
one_of_some zero lt = absurd (omega arith)
one_of_some (suc n) lt = (refl, refl)

spine_nodes_from : {n i : ℕ} {f : Frame} (base : Forest) → n ≡ roots base → IsSpine n i f →
    nodes (filled f base) ≡ rebuilt f + shared f + nodes (from_root i base)
spine_nodes_from {n} {i} {f} base size (at_end e none) =
    let a : nodes (filled f base) ≡ shared f = none_shared f base none in
    let b : rebuilt f ≡ 0 = none_rebuilt f none in
    let c : nodes (from_root i base) ≡ 0 = from_end i base (e ∙ size) in omega arith
spine_nodes_from {n} {i} base size (past_hole {j = j} {rest} e s) =
    let a : nodes (filled rest base) ≡ rebuilt rest + shared rest + nodes (from_root (suc i) base) = spine_nodes_from base size s in
    let lt : suc i ≤ n = spine_le s in
    let b : nodes (joined (root_at j base) (filled rest base)) ≡ nodes (root_at j base) + nodes (filled rest base) =
    nodes_joined (root_at j base) (filled rest base) in
    let c : nodes (from_root i base) ≡ nodes (root_at i base) + nodes (from_root (suc i) base) = nodes_from i base (omega arith) in
    let d : nodes (root_at j base) ≡ nodes (root_at i base) = ap (λ z. nodes (root_at z base)) e in omega arith
spine_nodes_from {n} {i} base size (in_node {children = children} {rest} lt s none) =
    let a : nodes (filled children base) ≡ rebuilt children + shared children + nodes (from_root i base) = spine_nodes_from base size s in
    let b : nodes (filled rest base) ≡ shared rest = none_shared rest base none in
    let c : rebuilt rest ≡ 0 = none_rebuilt rest none in
    let h : holes children + i ≡ n = spine_holes s in
    let d = one_of_some (holes children) (omega arith) in
    let d0 : one_if (holes children) ≡ 1 = d.0 in
    let d1 : none_if (holes children) ≡ 0 = d.1 in omega arith

-- the nodes of a tree are those that are built anew, those that stay, and those of the stack
pub spine_nodes : {n : ℕ} {f : Frame} (base : Forest) → n ≡ roots base → IsSpine n 0 f →
    nodes (filled f base) ≡ rebuilt f + shared f + nodes base
spine_nodes {n} {f} base size s = spine_nodes_from base size s
