use Rattle.std.proofs.Common.{◌≡◌, ◌∙◌, [], List, ℕ, true, ap, refl, sym, subst}
use Rattle.wb_syntax.specs.Canonical.{IsCanonical}
use Rattle.wb_reader_printer.proofs.CanonicalLemmas.{text_lines}
use Rattle.wb_reader_printer.proofs.ReadsLemmas.{reads_back, canonical_again}
use Rattle.wb_reader_printer.proofs.SpecLemmas.{canonical_text}
use Rattle.wb_reader_printer.proofs.spec.print_spec.Goals as goal

pub returns : goal.returns
returns c =
    let text = c.in_ok-write_spec.ensures.text in
    let h = text_lines c.args.spec.now text in
    let begun : c.new-line.result ≡ record { text = []; closely = true } =
    c.new-line.ensures ∙ ap (λ (l : List ℕ). record { text = l; closely = true }) c.new.ensures.items in
    let is : IsCanonical c.args.spec.now c.into_text.result.items
    = subst (λ (l : List ℕ). IsCanonical c.args.spec.now l) (sym c.into_text.ensures)
    (canonical_text c.args.spec.now text c.new-line.result c.write_spec.new.line h.lines refl begun
    (c.in_ok-write_spec.ensures.written h.lines h.are)) in
    record {
      canonical = is;
      reads = reads_back c.args.spec.now text c.into_text.result.items is;
      again = canonical_again c.args.spec.now c.into_text.result.items is;
    }
