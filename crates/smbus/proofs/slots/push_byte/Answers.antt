use Rattle.std.proofs.Common.{◌/◌, ◌%◌, ◌++◌, ◌∷◌, [], List, Bool, not, ap, sym, ◌∙◌, append_assoc}
use Rattle.wires.specs.Bits.{bits_of}
use Rattle.bit_bus.specs.declared.plan.Slot.{Slot}
use Rattle.bit_bus.specs.declared.plan.Slot.TheVariants.{Bit}
use Rattle.smbus.specs.Frames.{byte_bits}
use Rattle.smbus.specs.Protocol.{bit_marks}
use Rattle.smbus.proofs.Bytes.{bits_of-nibbles}
use Rattle.smbus.proofs.slots.push_byte.Goals as goal

pub returns : goal.returns
unfolding byte_bits
returns c =
    let old : List Slot = c.args.slots.now.items in
    let upper : List Slot = bit_marks (bits_of 4 (c.args.byte / 16)) in
    let lower : List Slot = bit_marks (bits_of 4 (c.args.byte % 16)) in
    let last : List Slot = Bit (not c.args.acknowledged) ∷ [] in
    c.push_reserved.ensures.items ∙ ap (λ l. l ++ last) c.push_nibble-2.ensures.bits
    ∙ ap (λ l. (l ++ lower) ++ last) c.push_nibble.ensures.bits
    ∙ ap (λ l. ((l ++ upper) ++ lower) ++ last) c.in_ok-reserve.ensures.items
    ∙ append_assoc (old ++ upper) lower last ∙ append_assoc old upper (lower ++ last)
    ∙ ap (λ (l : List Bool). old ++ bit_marks (l ++ not c.args.acknowledged ∷ []))
    (sym (bits_of-nibbles c.args.byte))
