use Rattle.std.proofs.Common.{ap, arith, drop, map, rules, string_bytes}
use Rattle.std.proofs.lemmas.List.{drop_all}
use Rattle.texts.specs.Hex.{pair_text}
use Rattle.bundles.proofs.WrittenSlots.{one_pair_more, all_written}
use Rattle.bundles.proofs.answer_text.push_list.Goals as goal

pub loop-byte-preserved : goal.loop-byte-preserved
loop-byte-preserved c =
    let l = c.loop-byte in
    record {
      text = search rules;
      written =
          rw (c.in_ok-push_pair.ensures.ok, c.in_ok-push_str.ensures.bytes)
          (one_pair_more (string_bytes l.text) l.comma.now c.args.bytes.now l.byte-index _ _
          (omega (arith, c.loop-byte-test.true)) l.invariant.written);
    }

pub returns : goal.returns
returns c =
    let l = c.loop-byte in
    let bytes = c.args.bytes.now in
    let none = drop_all l.byte-index bytes (omega (arith, c.loop-byte-test.false)) in
    all_written (string_bytes l.text) (string_bytes c.args.text.now) l.comma.now
    (map pair_text (drop l.byte-index bytes)) (map pair_text bytes) (ap (map pair_text) none)
    l.invariant.written
