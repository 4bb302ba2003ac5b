use denote.Shadow.{shadow}
use denote.Text.{Utf8}
use Rattle.std.proofs.Common.{◌≡◌, ◌++◌, [], drop, string_bytes}
use Rattle.bundles.specs.AnswerLineTexts.{held_texts}
use Rattle.bundles.proofs.WrittenSlots.{behind}
use Rattle.bundles.proofs.said_answer.push_slots.Given as goal

abbrev pub invariant-loop-slot : goal.invariant-loop-slot
invariant-loop-slot l = record {
  text : shadow (Utf8 l.comma);
  written : string_bytes l.text ++ behind l.comma (held_texts l.slot (drop l.slot l.holds))
      ≡ string_bytes l.fn.text ++ behind [] (held_texts 0 l.holds);
}
