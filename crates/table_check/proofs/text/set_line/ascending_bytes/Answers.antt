use Rattle.std.proofs.Common.{◌≤◌, ◌<◌, ◌∙◌, [], sym, subst}
use Rattle.texts.specs.Hex.{pair_of}
use Rattle.table_check.proofs.AscendingWords.{one_more_left, no_value_left, too_small_left}
use Rattle.table_check.proofs.AscendingWords.{none_left}
use Rattle.table_check.proofs.text.set_line.ascending_bytes.Goals as goal

pub loop-word-preserved : goal.loop-word-preserved
loop-word-preserved c =
    rw (c.in_ok-push.ensures.items, c.from-least.ensures) (
    one_more_left c.args.words.now c.loop-word.word-index (record { ref_ptr = (0, 0); now = [] })
    (λ w. w.now) pair_of c.loop-word.bytes.items c.loop-word.least c.in-Some.byte
    c.loop-word-test.true (sym c.pair_of.ensures.value ∙ c.in-Some.is)
    (subst (λ n. c.loop-word.least ≤ n) c.from.ensures c.if-from-least.false)
    ∙ c.loop-word.invariant)

pub returns-in_default : goal.returns-in_default
returns-in_default c =
    no_value_left c.args.words.now c.loop-word.word-index (record { ref_ptr = (0, 0); now = [] })
    (λ w. w.now) pair_of c.loop-word.bytes.items c.loop-word.least
    c.loop-word-test.true (sym c.pair_of.ensures.value ∙ c.in_default.is)
    ∙ c.loop-word.invariant

pub returns-then-from-least : goal.returns-then-from-least
returns-then-from-least c =
    too_small_left c.args.words.now c.loop-word.word-index (record { ref_ptr = (0, 0); now = [] })
    (λ w. w.now) pair_of c.loop-word.bytes.items c.loop-word.least c.in-Some.byte
    c.loop-word-test.true (sym c.pair_of.ensures.value ∙ c.in-Some.is)
    (subst (λ n. n < c.loop-word.least) c.from.ensures c.if-from-least.true)
    ∙ c.loop-word.invariant

pub returns : goal.returns
returns c =
    none_left c.args.words.now c.loop-word.word-index (λ w. w.now) pair_of c.loop-word.bytes.items
    c.loop-word.least c.loop-word-test.false
    ∙ c.loop-word.invariant
