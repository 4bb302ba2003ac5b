-- Printed instructions that send nothing read back.
use Rattle.std.proofs.Common.{◌≡◌, ℕ, ◌<◌, ◌≤◌, [], ◌∷◌, codes, Ok, refl, arith}
use Rattle.std.specs.Fmt.{decimal}
use Rattle.texts.specs.ReadBack.{DecimalsReadBack}
use Rattle.board.specs.Boards.{Board}
use Rattle.seq_program.specs.declared.instr.Instr.TheVariants as instr
use Rattle.seq_program.specs.declared.line_word.JumpWord.TheVariants as jump
use Rattle.seq_program.specs.declared.line_word.PlainWord.TheVariants as plain
use Rattle.seq_program.specs.LineOperands.{register_in, counter_in, number_in, word_in}
use Rattle.seq_program.specs.JumpLines.{bits_of, if_of, above_of, again_of}
use Rattle.seq_program.specs.PlainLines.{set_of, add_of, count_of, wait_of}
use Rattle.seq_program.specs.PrintedWords.{register_name, counter_name}
use Rattle.seq_program.proofs.PrintedNumbers.{number_back, decimal_word, register_back}
use Rattle.seq_program.proofs.PrintedNumbers.{register_word, counter_back, counter_word}
use Rattle.seq_program.proofs.PrintedLines.{jump_back, plain_back}
use Rattle.seq_program.proofs.PrintedPlaces.{ReadsBack}

pub register_in_back : (n at' register : ℕ) → register < 8
    → register_in n at' (register_name register) ≡ Ok register
unfolding register_in
register_in_back n at' register r = rw (register_back register r) refl

pub number_in_back : DecimalsReadBack → (n at' low high v : ℕ) → low ≤ v → v ≤ high
    → high ≤ 99999999
    → number_in n at' low high (decimal v) ≡ Ok v
unfolding number_in
number_in_back decimals n at' low high v least most few =
    rw (number_back decimals low high v least most few) refl

pub word_in_back : DecimalsReadBack → (n at' v : ℕ) → v ≤ 65535
    → word_in n at' (decimal v) ≡ Ok v
unfolding word_in
word_in_back decimals n at' v few =
    number_in_back decimals n at' 0 65535 v (omega arith) few (omega arith)

counter_in_back : (n at' counter : ℕ) → counter < 4
    → counter_in n at' (counter_name counter) ≡ Ok counter
unfolding counter_in
counter_in_back n at' counter c = rw (counter_back counter c) refl

pub if_alert_back : (board : Board) (place : ℕ) → place < 1024
    → ReadsBack board (instr.IfAlert place)
if_alert_back board place few =
    jump_back board (instr.IfAlert place) jump.IfAlert (codes "ifalert") [] place
    refl refl refl refl refl refl few refl (λ n. refl)

pub set_back : DecimalsReadBack → (board : Board) (register value : ℕ) → register < 8
    → value ≤ 65535
    → ReadsBack board (instr.Set register value)
unfolding set_of
set_back decimals board register value r v =
    plain_back board (instr.Set register value) plain.Set (codes "set")
    (register_name register ∷ decimal value ∷ []) refl refl refl refl refl
    (rw (register_word register r, decimal_word value (omega arith)) refl) (λ n. rw (
      register_in_back n 1 register r,
      word_in_back decimals n 2 value v,
    ) refl)

pub add_back : DecimalsReadBack → (board : Board) (register value : ℕ) → register < 8
    → value ≤ 65535
    → ReadsBack board (instr.Add register value)
unfolding add_of
add_back decimals board register value r v =
    plain_back board (instr.Add register value) plain.Add (codes "add")
    (register_name register ∷ decimal value ∷ []) refl refl refl refl refl
    (rw (register_word register r, decimal_word value (omega arith)) refl) (λ n. rw (
      register_in_back n 1 register r,
      word_in_back decimals n 2 value v,
    ) refl)

bits_back : DecimalsReadBack → (n mask value : ℕ) → mask ≤ 65535 → value ≤ 65535
    → bits_of n (decimal mask) (decimal value) ≡ Ok (mask, value)
unfolding bits_of
bits_back decimals n mask value m v =
    rw (word_in_back decimals n 2 mask m, word_in_back decimals n 3 value v) refl

pub if_back : DecimalsReadBack → (board : Board) (register mask value place : ℕ) → register < 8
    → mask ≤ 65535
    → value ≤ 65535 → place < 1024 → ReadsBack board (instr.If register mask value place)
unfolding if_of
if_back decimals board register mask value place r m v few =
    jump_back board (instr.If register mask value place) jump.If (codes "if")
    (register_name register ∷ decimal mask ∷ decimal value ∷ []) place
    refl refl refl refl refl refl few
    (rw (
      register_word register r,
      decimal_word mask (omega arith),
      decimal_word value (omega arith),
    ) refl)
    (λ n. rw (register_in_back n 1 register r, bits_back decimals n mask value m v) refl)

pub above_back : DecimalsReadBack → (board : Board) (register value place : ℕ) → register < 8
    → value ≤ 65535
    → place < 1024 → ReadsBack board (instr.Above register value place)
unfolding above_of
above_back decimals board register value place r v few =
    jump_back board (instr.Above register value place) jump.Above (codes "above")
    (register_name register ∷ decimal value ∷ []) place
    refl refl refl refl refl refl few
    (rw (register_word register r, decimal_word value (omega arith)) refl)
    (λ n. rw (register_in_back n 1 register r, word_in_back decimals n 2 value v) refl)

pub count_back : DecimalsReadBack → (board : Board) (counter value : ℕ) → counter < 4 → value ≤ 1000
    → ReadsBack board (instr.Count counter value)
unfolding count_of
count_back decimals board counter value c v =
    plain_back board (instr.Count counter value) plain.Count (codes "count")
    (counter_name counter ∷ decimal value ∷ []) refl refl refl refl refl
    (rw (counter_word counter c, decimal_word value (omega arith)) refl) (λ n.
    rw (
      counter_in_back n 1 counter c,
      number_in_back decimals n 2 0 1000 value (omega arith) v (omega arith),
    ) refl)

pub again_back : (board : Board) (counter place : ℕ) → counter < 4 → place < 1024
    → ReadsBack board (instr.Again counter place)
unfolding again_of
again_back board counter place c few =
    jump_back board (instr.Again counter place) jump.Again (codes "again")
    (counter_name counter ∷ []) place refl refl refl refl refl refl few
    (rw (counter_word counter c) refl) (λ n. rw (counter_in_back n 1 counter c) refl)

pub wait_back : DecimalsReadBack → (board : Board) (ticks : ℕ) → 1 ≤ ticks → ticks ≤ 10000000
    → ReadsBack board (instr.Wait ticks)
unfolding wait_of
wait_back decimals board ticks some few =
    plain_back board (instr.Wait ticks) plain.Wait (codes "wait")
    (decimal ticks ∷ []) refl refl refl refl refl
    (rw (decimal_word ticks (omega arith)) refl)
    (λ n. rw (number_in_back decimals n 1 1 10000000 ticks some few (omega arith)) refl)

pub goto_back : (board : Board) (place : ℕ) → place < 1024 → ReadsBack board (instr.Goto place)
goto_back board place few =
    jump_back board (instr.Goto place) jump.Goto (codes "goto") [] place
    refl refl refl refl refl refl few refl (λ n. refl)

pub end_back : (board : Board) → ReadsBack board instr.End
end_back board =
    plain_back board instr.End plain.End (codes "end") [] refl refl refl refl refl refl
    (λ n. refl)

pub fail_back : (board : Board) → ReadsBack board instr.Fail
fail_back board =
    plain_back board instr.Fail plain.Fail (codes "fail") [] refl refl refl refl refl refl
    (λ n. refl)
