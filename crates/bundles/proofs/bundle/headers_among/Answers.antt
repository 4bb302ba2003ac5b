use Rattle.std.proofs.Common.{rules, count_by, find, sym, ◌∙◌, ap, arith}
use Rattle.std.specs.Str.Lines.{lines}
use Rattle.std.specs.List.{enumerate_from}
use Rattle.bundles.specs.Bundles.{is_unexpected, starts_section}
use Rattle.bundles.proofs.Placed.{find_next, count_header, count_other, header_is_left}
use Rattle.bundles.proofs.Placed.{stands_at}
use Rattle.bundles.proofs.Parts.{all_taken}
use Rattle.bundles.proofs.bundle.headers_among.Goals as goal
use Rattle.bundles.proofs.bundle.headers_among.Goals.{then-starts_section, else-starts_section}

pub loop-line-preserved : goal.loop-line-preserved
loop-line-preserved c =
    let here = sym c.belongs.ensures ∙ c.if-not-belongs.false in
    let inv = c.loop-line.invariant in
    let line = c.in-Some.line.now in
    let below = lines c.in-Some.below.now in
    let all = lines c.args.text.now in
    let place = c.loop-line.place in
    let stands = sym c.in-Some.ensures.lines ∙ inv.left in
    record {
      text = search rules;
      left = (stands_at all place line below stands).below_it;
      passed =
          find_next c.args.headers.now all place _ line below inv.count here
          ∙ ap (λ l. find (is_unexpected c.args.headers.now all)
          (enumerate_from place l)) (sym c.in-Some.ensures.lines)
          ∙ inv.passed;
      count = elim c.if-starts_section.branch [
        | then-starts_section w ↦
            w.above-is
            ∙ count_header all place _ line below stands inv.count
            (sym c.starts_section.ensures ∙ w.if-starts_section.true)
        | else-starts_section w ↦
            w.above-is
            ∙ count_other all place _ line below stands inv.count
            (sym c.starts_section.ensures ∙ w.if-starts_section.false)
      ];
      most = elim c.if-starts_section.branch [
        | then-starts_section w ↦
            let left =
            header_is_left c.args.headers.now c.loop-line.above line here
            (sym c.starts_section.ensures ∙ w.if-starts_section.true) in
            omega (arith, w.above-is)
        | else-starts_section w ↦ omega (arith, w.above-is, inv.most)
      ];
      few = omega (arith, inv.few, c.in-Some.ensures.shorter);
    }

pub returns-clause-count : goal.returns-clause-count
returns-clause-count c =
    c.loop-line.invariant.count
    ∙ ap (count_by starts_section)
    (all_taken (lines c.args.text.now) c.loop-line.place
    (sym c.in_default.ensures.lines ∙ c.loop-line.invariant.left))
