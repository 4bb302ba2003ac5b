use Rattle.std.proofs.Common.{rules, sym, ◌∙◌, arith}
use Rattle.std.specs.Str.Lines.{lines}
use Rattle.bundles.proofs.Parts.{part_ends, last_part}
use Rattle.bundles.proofs.Placed.{stands_at, passes_other}
use Rattle.bundles.proofs.bundle.first_part.Goals as goal

pub returns-then-starts_section-clause-parts : goal.returns-then-starts_section-clause-parts
returns-then-starts_section-clause-parts c =
    let inv = c.loop-line.invariant in
    part_ends (lines c.args.text.now) c.loop-line.count c.in-Some.line.now
    (lines c.in-Some.below.now)
    (sym c.in-Some.ensures.lines ∙ inv.left) inv.none
    (sym c.starts_section.ensures ∙ c.if-starts_section.true)

pub loop-line-preserved : goal.loop-line-preserved
loop-line-preserved c =
    let inv = c.loop-line.invariant in
    let all = lines c.args.text.now in
    let count = c.loop-line.count in
    let line = c.in-Some.line.now in
    let below = lines c.in-Some.below.now in
    let stands = sym c.in-Some.ensures.lines ∙ inv.left in
    let here = stands_at all count line below stands in
    record {
      text = search rules;
      left = here.below_it;
      within = omega (arith, here.within);
      none =
          passes_other all count line below stands inv.none
          (sym c.starts_section.ensures ∙ c.if-starts_section.false);
      few = omega (arith, inv.few, c.in-Some.ensures.shorter);
    }

pub returns-clause-parts : goal.returns-clause-parts
returns-clause-parts c =
    let inv = c.loop-line.invariant in
    last_part (lines c.args.text.now) c.loop-line.count
    (sym c.in_default.ensures.lines ∙ inv.left) inv.none
