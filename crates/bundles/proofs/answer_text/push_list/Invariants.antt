use denote.Shadow.{shadow}
use denote.Text.{Utf8}
use Rattle.std.proofs.Common.{◌≡◌, ◌++◌, [], drop, map, string_bytes}
use Rattle.texts.specs.Hex.{pair_text}
use Rattle.bundles.proofs.WrittenSlots.{behind}
use Rattle.bundles.proofs.answer_text.push_list.Given as goal

abbrev pub invariant-loop-byte : goal.invariant-loop-byte
invariant-loop-byte l = record {
  text : shadow (Utf8 l.comma);
  written : string_bytes l.text ++ behind l.comma (map pair_text (drop l.byte-index l.bytes))
      ≡ string_bytes l.fn.text ++ behind [] (map pair_text l.bytes);
}
