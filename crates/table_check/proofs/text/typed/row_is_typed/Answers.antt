use Rattle.std.proofs.lemmas.List.Elements.{All-map}
use Rattle.std.specs.Prelude.{IsTrue}
use Rattle.facts.specs.domain.SetLaws.{in_kind}
use Rattle.facts.specs.domain.Sets.{pages_in, protects_in, is_page, is_protect}
use Rattle.table_check.specs.text.Writable.{IsOfKind}
use Rattle.table_check.proofs.text.typed.row_is_typed.Goals as goal

pub returns : goal.returns
returns c = record {
  pages = All-map (IsOfKind (λ v. IsTrue (is_page v))) pages_in c.args.row.now.pages.items
      (λ k d lt v t. in_kind _ _ t);
  protects = All-map (IsOfKind (λ v. IsTrue (is_protect v))) protects_in
      c.args.row.now.protects.items (λ k d lt v t. in_kind _ _ t);
  regs = c.are_word_spans.ensures;
  counters = c.are_word_spans-2.ensures;
  base = c.is_long.ensures;
  coeffs = c.are_long.ensures;
  lost = c.is_word_span.ensures;
  lost_coeff = c.is_long-2.ensures;
}
