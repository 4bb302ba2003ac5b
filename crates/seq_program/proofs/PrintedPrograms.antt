-- A printed program reads back.
use Rattle.std.proofs.Common.{◌≡◌, ℕ, ◌-◌, ◌<◌, ◌≤◌, true, List, [], length, slice_get, Option}
use Rattle.std.proofs.Common.{Some, None, option_map, IfSome, IsTrue, Ok, refl, ap, ◌∙◌, All}
use Rattle.std.proofs.Common.{arith}
use Rattle.std.specs.List.{flat_map, enumerate_from}
use Rattle.texts.specs.Words.{lines_by_feed}
use Rattle.std.proofs.lemmas.Bool.{and_from}
use Rattle.std.proofs.lemmas.Option.{slice_get-get_or}
use Rattle.board.specs.Boards.{Board}
use Rattle.board.specs.Valid.{IsBoard}
use Rattle.seq_program.specs.declared.instr.Instr.{Instr}
use Rattle.seq_program.specs.declared.instr.Instr.TheVariants as instr
use Rattle.seq_program.specs.declared.instr.Written.{Written}
use Rattle.seq_program.specs.declared.instr.Written.TheVariants as written
use Rattle.seq_program.specs.Labels.{Label, place_of, with_labels}
use Rattle.seq_program.specs.Labels.{labels_of}
use Rattle.seq_program.specs.Passes.{after_lines}
use Rattle.seq_program.specs.PrintedWords.{place_name}
use Rattle.seq_program.specs.Programs.{is_end, is_some_end, ends, no_pass, program_in, program_of}
use Rattle.seq_program.specs.Valid.{IsInstr, IsWritten, IsOnBoard, IsProgram, jump_in}
use Rattle.seq_program.specs.Printed.{place_lines, printed}
use Rattle.seq_program.specs.PrintedLaw.{PrintedProgramsReadBack}
use Rattle.seq_program.proofs.JoinedWords.{lines_back}
use Rattle.seq_program.proofs.KnownOfTexts.{KnownOfTexts}
use Rattle.seq_program.proofs.PrintedPlaces.{ReadsBack, printed_labels}
use Rattle.seq_program.proofs.PrintedPlaces.{labels_read, places_read, pass_with, all_words}
use Rattle.seq_program.proofs.PrintedPlaces.{texts_from}
use Rattle.seq_program.proofs.PrintedLabels.{label_found, labels_below, all_first}
use Rattle.seq_program.proofs.PrintedPlain.{if_alert_back, set_back, add_back, if_back, above_back}
use Rattle.seq_program.proofs.PrintedPlain.{count_back, again_back, wait_back, goto_back, end_back}
use Rattle.seq_program.proofs.PrintedPlain.{fail_back}
use Rattle.seq_program.proofs.PrintedMessages.{IsTargetOf, quick_back, send_back, receive_back}
use Rattle.seq_program.proofs.PrintedMessages.{write_byte_back, write_word_back}
use Rattle.seq_program.proofs.PrintedMessages.{write_register_back, reading_back, call_back}
use Rattle.seq_program.proofs.PrintedMessages.{block_write_back, block_read_back, block_call_back}
use Rattle.seq_program.proofs.PrintedMessages.{alert_back}

-- the last instruction ends
end_at : (o : Option Instr) (i : Instr) → o ≡ Some i → IfSome o (λ i. IsTrue (is_end i))
    → is_some_end o ≡ true
end_at None i e t = absurd cc
end_at (Some j) i e t = t

ends_back : (instrs : List Instr) → IsProgram instrs → ends (printed_labels 0 instrs) instrs ≡ true
ends_back instrs program =
    and_from _ _ (end_at (slice_get instrs (length instrs - 1)) _
    (slice_get-get_or instrs (length instrs - 1) instr.End (omega arith)) program.last)
    (labels_below (length instrs) instrs 0 (omega arith))

found_at : (instrs : List Instr) (o : Option ℕ) → length instrs ≤ 1024
    → IfSome o (λ p. p < length instrs)
    → IfSome o (λ p. place_of (printed_labels 0 instrs) (place_name p) ≡ Some p)
found_at instrs None few less = tt
found_at instrs (Some p) few less =
    ap (option_map (λ (l : Label). l.place))
    (label_found instrs 0 p (omega arith) (omega arith) (omega arith))

-- the lines of a program whose instructions read back
lines_read : (board : Board) (instrs : List Instr) → IsProgram instrs
    → All (ReadsBack board) instrs → program_in board (texts_from board 0 instrs) ≡ Ok instrs
unfolding program_in
lines_read board instrs program back =
    let few : length instrs ≤ 1024 = program.few in
    let labels : labels_of (texts_from board 0 instrs) ≡ printed_labels 0 instrs =
    ap (with_labels []) (labels_read board instrs 0 (omega arith) back)
    ∙ all_first instrs 0 [] (omega arith) (λ j more less. refl) in
    let said : after_lines board (printed_labels 0 instrs) 1 no_pass (texts_from board 0 instrs)
    ≡ Ok (pass_with instrs no_pass) =
    places_read board (printed_labels 0 instrs) instrs 0 no_pass refl (omega arith)
    (λ p least most. label_found instrs 0 p least most (omega arith)) back
    (λ k d less. found_at instrs _ few (program.jumps k d less)) in
    rw (labels, said, ends_back instrs program) refl

-- a program whose instructions read back
pub program_back : (board : Board) (instrs : List Instr) → IsProgram instrs
    → All (ReadsBack board) instrs → program_of board (printed board instrs) ≡ Ok instrs
program_back board instrs program back =
    let few : length instrs ≤ 1024 = program.few in
    let cut : lines_by_feed (printed board instrs) ≡ texts_from board 0 instrs =
    lines_back (flat_map (place_lines board) (enumerate_from 0 instrs))
    (all_words board instrs 0 (omega arith) back) in
    ap (program_in board) cut ∙ lines_read board instrs program back

-- each instruction of a board's program reads back
written_instr : (board : Board) (target command place : ℕ) (value : Written)
    → IsTargetOf board target → IsWritten command value → place < 1024
    → ReadsBack board (instr.Write target command value place)
written_instr board target command place (written.Byte value) t fits few =
    write_byte_back board target command value place t fits.0 fits.1 few
written_instr board target command place (written.Word value) t fits few =
    write_word_back board target command value place t fits.0 fits.1 few
written_instr board target command place (written.Register register) t fits few =
    write_register_back board target command register place t fits.1 fits.2 few

on_board : KnownOfTexts → (board : Board) (target : ℕ) → IsBoard board
    → target < length board.targets → IsTargetOf board target
on_board known board target good less =
    record { good = good; within = omega (arith, less, good.target_names); known = known }

instr_back : KnownOfTexts → (board : Board) → IsBoard board → (i : Instr) → IsInstr i
    → IsOnBoard (length board.targets) i → IfSome (jump_in i) (λ p. p < 1024)
    → ReadsBack board i
instr_back known board good (instr.Quick target read place) fits t few =
    quick_back board target place read (on_board known board target good t) few
instr_back known board good (instr.Send target command place) fits t few =
    send_back board target command place (on_board known board target good t) fits few
instr_back known board good (instr.Receive target register place) fits t few =
    receive_back board target register place (on_board known board target good t) fits few
instr_back known board good (instr.Write target command value place) fits t few =
    written_instr board target command place value (on_board known board target good t) fits few
instr_back known board good (instr.Read target command size register place) fits t few =
    reading_back board target command register place size
    (on_board known board target good t) fits.0 fits.1 few
instr_back known board good (instr.Call target command value register place) fits t few =
    call_back board target command value register place
    (on_board known board target good t) fits.0 fits.1 fits.2 few
instr_back known board good (instr.BlockWrite target command bytes place) fits t few =
    block_write_back board target command place bytes
    (on_board known board target good t) fits.0 fits.1 few
instr_back known board good (instr.BlockRead target command register place) fits t few =
    block_read_back board target command register place
    (on_board known board target good t) fits.0 fits.1 few
instr_back known board good (instr.BlockCall target command bytes register place) fits t few =
    block_call_back board target command register place bytes
    (on_board known board target good t) fits.0 fits.1 fits.2 few
instr_back known board good (instr.Alert register place) fits t few =
    alert_back board register place fits few
instr_back known board good (instr.IfAlert place) fits t few = if_alert_back board place few
instr_back known board good (instr.Set register value) fits t few =
    set_back known.decimal board register value fits.0 fits.1
instr_back known board good (instr.Add register value) fits t few =
    add_back known.decimal board register value fits.0 fits.1
instr_back known board good (instr.If register mask value place) fits t few =
    if_back known.decimal board register mask value place fits.0 fits.1 fits.2 few
instr_back known board good (instr.Above register value place) fits t few =
    above_back known.decimal board register value place fits.0 fits.1 few
instr_back known board good (instr.Count counter value) fits t few =
    count_back known.decimal board counter value fits.0 fits.1
instr_back known board good (instr.Again counter place) fits t few =
    again_back board counter place fits few
instr_back known board good (instr.Wait ticks) fits t few =
    wait_back known.decimal board ticks fits.0 fits.1
instr_back known board good (instr.Goto place) fits t few = goto_back board place few
instr_back known board good instr.End fits t few = end_back board
instr_back known board good instr.Fail fits t few = fail_back board

lands : (o : Option ℕ) (count : ℕ) → count ≤ 1024 → IfSome o (λ p. p < count)
    → IfSome o (λ p. p < 1024)
lands None count few less = tt
lands (Some p) count few less = omega arith

pub printed_programs_read_back : KnownOfTexts → PrintedProgramsReadBack
printed_programs_read_back known board good instrs program targets =
    program_back board instrs program
    (λ k d less. instr_back known board good _ (program.each k d less)
    (targets k d less) (lands _ (length instrs) program.few (program.jumps k d less)))
