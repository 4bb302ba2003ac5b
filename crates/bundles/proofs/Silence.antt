-- What `-` alone says.
use Rattle.std.proofs.Common.{◌≡◌, ℕ, Ok, codes, refl}
use Rattle.smbus.specs.Answered.{silence}
use Rattle.bundles.specs.AnswerLines.{answer_in, answer_line_of}
use Rattle.bundles.specs.AnswerWords.{answer_of}
use Rattle.bundles.specs.ContenderWords.{contender_in}
use Rattle.bundles.specs.Fields.{value_of, rest_of}

pub dash_is_silence : (number : ℕ) → answer_line_of number (codes "-") ≡ Ok silence
unfolding answer_in answer_of contender_in value_of rest_of
dash_is_silence number = refl
