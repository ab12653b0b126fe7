-- The text of a certificate has at least fifteen bytes for each entry.
use Rattle.std.proofs.Common.{ℕ, ◌≤◌, ◌+◌, ◌*◌, List, [], ◌∷◌, ◌++◌, length, length-append, Option, Some, None, subst, sym}
use Rattle.std.proofs.Common.{arith}
use Rattle.std.specs.Prelude.{All, codes}
use Rattle.std.specs.Fmt.{decimal}
use Rattle.std.specs.List.{flat_map}
use Rattle.std.proofs.lemmas.Fmt.{decimal_nonempty}
use Rattle.std.proofs.lemmas.List.Elements.{All-head, All-tail}
use Rattle.wb_recheck_theory.specs.declared.entry.Entry.{Entry}
use Rattle.wb_recheck_text.specs.Text.{body_text, entry_text, head_text, line_text, number_then, origin_text}
use Rattle.wb_recheck_text.specs.Faults.{IsEntrySmall, IsOriginSmall, IsSmall, IsTextOf}
use Rattle.wb_recheck_text.specs.declared.certificate.Certificate.{Certificate}

number_length : (after n : ℕ) → IsSmall n → 2 ≤ length (number_then after n)
number_length after n small =
    let some = decimal_nonempty n small in
    let long = length-append (decimal n) (after ∷ []) in
    omega (arith, some, long)

origin_length : (origin : Option ℕ) → IsOriginSmall origin → 2 ≤ length (origin_text origin)
origin_length None small = omega arith
origin_length (Some n) small = number_length 10 n small

entry_length : (e : Entry) → IsEntrySmall e → 15 ≤ length (entry_text e)
entry_length e small =
    let last = origin_length e.origin small.origin in
    let fourth = number_length 32 e.terminal small.terminal in
    let third = number_length 32 e.item.dot small.dot in
    let second = number_length 32 e.item.production small.production in
    let first = number_length 32 e.kernel small.kernel in
    let a = length-append (number_then 32 e.terminal) (origin_text e.origin) in
    let b = length-append (number_then 32 e.item.dot) (number_then 32 e.terminal ++ origin_text e.origin) in
    let c = length-append (number_then 32 e.item.production)
    (number_then 32 e.item.dot ++ (number_then 32 e.terminal ++ origin_text e.origin)) in
    let d = length-append (number_then 32 e.kernel)
    (number_then 32 e.item.production ++ (number_then 32 e.item.dot ++ (number_then 32 e.terminal ++ origin_text e.origin))) in
    let whole = length-append (codes "look ") (number_then 32 e.kernel
    ++ (number_then 32 e.item.production ++ (number_then 32 e.item.dot ++ (number_then 32 e.terminal ++ origin_text e.origin)))) in
    omega (arith, last, fourth, third, second, first, a, b, c, d, whole)

entries_length : (entries : List Entry) → All IsEntrySmall entries → length entries * 15 ≤ length (flat_map entry_text entries)
entries_length [] small = omega arith
entries_length (e ∷ entries) small =
    let first = entry_length e (All-head IsEntrySmall e entries small) in
    let rest = entries_length entries (All-tail IsEntrySmall e entries small) in
    let long = length-append (entry_text e) (flat_map entry_text entries) in
    omega (arith, first, rest, long)

-- so a text has more than so many bytes, where there are so many entries
pub text_length : (text : List ℕ) (c : Certificate) → IsTextOf text c → length c.entries * 15 ≤ length text
text_length text c is =
    let entries = entries_length c.entries is.writable.entries in
    let body = length-append (flat_map line_text c.lines) (flat_map entry_text c.entries) in
    let rest = length-append (head_text c.head) (body_text c.lines c.entries) in
    let whole = length-append (codes "certificate 1\n") (head_text c.head ++ body_text c.lines c.entries) in
    subst (λ z. length c.entries * 15 ≤ length z) (sym is.is) (omega (arith, entries, body, rest, whole))
