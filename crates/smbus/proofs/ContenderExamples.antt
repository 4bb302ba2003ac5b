-- Another controller that may start, and what the definitions give for small ones.
use Rattle.std.proofs.Common.{◌≡◌, ℕ, ◌<◌, Bool, true, false, Option, Some, None, List, []}
use Rattle.std.proofs.Common.{◌∷◌, refl, arith}
use Rattle.std.proofs.lemmas.List.Elements.{All-nil, All-cons}
use Rattle.smbus.specs.Shown.{Shown}
use Rattle.smbus.specs.Asked.{Asked}
use Rattle.smbus.specs.Answered.{Answered}
use Rattle.smbus.specs.Winners.{winner_over, carried}
use Rattle.smbus.specs.declared.message.Form.TheVariants.{SendByte}
use Rattle.smbus.specs.Contenders.{Contender, contender_frame, contender_slot_count}
use Rattle.smbus.specs.ContenderLaws.{SomeCanStart}

abbrev one_at : ℕ → Bool → List ℕ → Contender
one_at address read bytes = record { address = address; read = read; bytes = bytes; holds = [] }

abbrev one_segment : List (ℕ × Bool) → Shown
one_segment bytes = record { segments = bytes ∷ []; tail = [] }

-- a byte that is read isn't acknowledged, since it is the last
reads : contender_frame (one_at 0x10 true (0x55 ∷ []))
    ≡ one_segment ((0x21, true) ∷ (0x55, false) ∷ [])
reads = refl

reads_two : contender_frame (one_at 0x10 true (1 ∷ 2 ∷ []))
    ≡ one_segment ((0x21, true) ∷ (1, true) ∷ (2, false) ∷ [])
reads_two = refl

reads_none : contender_frame (one_at 0x10 true []) ≡ one_segment ((0x21, true) ∷ [])
reads_none = refl

writes : contender_frame (one_at 0x10 false (0x55 ∷ []))
    ≡ one_segment ((0x20, true) ∷ (0x55, true) ∷ [])
writes = refl

nineteen : contender_slot_count 1 ≡ 19
nineteen = refl

ten : contender_slot_count 0 ≡ 10
ten = refl

-- a reader of one byte, with the longest hold that is no timeout
pub some_can_start : SomeCanStart
some_can_start = record {
  contender = record { address = 0x10; read = true; bytes = 0x55 ∷ []; holds = 4999 ∷ [] };
  can_start = record {
    address = omega arith;
    few = omega arith;
    bytes = All-cons (λ byte. byte < 256) 0x55 [] (omega arith) (All-nil (λ byte. byte < 256));
    holds = All-cons (λ hold. hold < 5000) 4999 [] (omega arith) (All-nil (λ hold. hold < 5000));
  };
}

-- who wins over a message to an address: a lower one, but neither the same nor a higher one

lower_wins : winner_over 0x40 (Some (one_at 0x10 true [])) ≡ Some (one_at 0x10 true [])
lower_wins = refl

same_does_not : winner_over 0x10 (Some (one_at 0x10 false [])) ≡ None
same_does_not = refl

higher_does_not : winner_over 0x10 (Some (one_at 0x40 false [])) ≡ None
higher_does_not = refl

-- the wire carries a message, but none over which a controller wins, and nothing of a step that
-- sends none

abbrev to : ℕ → Asked
to address = record { address = address; form = SendByte; code = 3; out = [] }

abbrev beside : Option Contender → Answered
beside contender = record {
  holds = [];
  refuse = None;
  value = 0;
  bytes = [];
  took = false;
  alerts = 0;
  contender = contender;
}

lost : carried (Some (to 0x40)) (beside (Some (one_at 0x10 true []))) ≡ None
lost = refl

kept : carried (Some (to 0x10)) (beside (Some (one_at 0x40 false []))) ≡ Some (to 0x10)
kept = refl

alone : carried (Some (to 0x40)) (beside None) ≡ Some (to 0x40)
alone = refl

silent : carried None (beside (Some (one_at 0x10 true []))) ≡ None
silent = refl
