use Rattle.std.proofs.Common.{rules, arith, ◌+◌, ◌∙◌, List, All, subst, sym}
use Rattle.std.proofs.lemmas.List.Elements.{All-push}
use Rattle.texts.specs.Words.{lines_by_feed}
use Rattle.text_notes.specs.declared.boards.lines.SayingLine.{SayingLine}
use Rattle.text_notes.specs.Boards.{IsNumbered}
use Rattle.text_notes.proofs.NumberedLines.{numbered_at, stands_at}
use Rattle.text_notes.proofs.boards.lines.saying_lines.Goals as goal

pub loop-line-preserved-in_ok-push : goal.loop-line-preserved-in_ok-push
loop-line-preserved-in_ok-push c =
    let inv = c.loop-line.invariant in
    let all = lines_by_feed c.args.text.now in
    let here = stands_at all c.loop-line.above c.in-Some.line.now
    (lines_by_feed c.in-Some.below.now) (sym inv.left ∙ c.in-Some.ensures.lines) in
    let found : SayingLine = record { number = c.loop-line.above + 1; line = c.in-Some.line } in
    record {
      text = search rules;
      few = omega (arith, inv.few, c.in-Some.ensures.shorter);
      left = sym here.left;
      found = subst (λ (xs : List SayingLine). All (IsNumbered all) xs)
          (sym c.in_ok-push.ensures.items)
          (All-push (IsNumbered all) c.loop-line.found.items found inv.found
          (numbered_at all c.loop-line.above ∙ here.there));
    }

pub loop-line-preserved : goal.loop-line-preserved
loop-line-preserved c =
    let inv = c.loop-line.invariant in
    let all = lines_by_feed c.args.text.now in
    let here = stands_at all c.loop-line.above c.in-Some.line.now
    (lines_by_feed c.in-Some.below.now) (sym inv.left ∙ c.in-Some.ensures.lines) in
    record {
      text = search rules;
      few = omega (arith, inv.few, c.in-Some.ensures.shorter);
      left = sym here.left;
      found = inv.found;
    }
