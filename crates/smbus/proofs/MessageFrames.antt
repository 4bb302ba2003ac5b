-- The one frame of a message and an answer shows the message.
use Rattle.std.proofs.Common.{◌≡◌, ℕ, ◌-◌, ◌<◌, ◌≤◌, min, inl, inr, Option, Some, None, List, []}
use Rattle.std.proofs.Common.{◌∷◌, ◌++◌, length, take, refl, sym, ap, subst, ◌∙◌, arith}
use Rattle.std.proofs.lemmas.List.{length-take}
use Rattle.wires.specs.declared.event.Event.{Event}
use Rattle.bit_bus.specs.declared.plan.Slot.{Slot}
use Rattle.bit_bus.specs.Levels.{first_cut}
use Rattle.bit_bus.specs.Word.{event_word}
use Rattle.bit_bus.specs.PlannedSlots.{SlotsAreKept}
use Rattle.smbus.specs.declared.message.Form.{Form}
use Rattle.smbus.specs.declared.message.Form.TheVariants.{ReadWord}
use Rattle.smbus.specs.Asked.{Asked}
use Rattle.smbus.specs.Answered.{Answered}
use Rattle.smbus.specs.Shown.{Shown}
use Rattle.smbus.specs.Protocol.{Piece, marks_of, whole, whole_of, up_to_refused, low, high}
use Rattle.smbus.specs.Slots.{slots_of, plan_of}
use Rattle.smbus.specs.Whole.{shown_marks, IsWhole}
use Rattle.smbus.specs.OneFrame.{IsOnlyFrame, HasOneFrame, SlotsAreOneFrame}
use Rattle.smbus.specs.FirstSegment.{message_bytes, bytes_out, bytes_before, bytes_seen}
use Rattle.smbus.specs.MessageFrame.{send_byte, read_word, IsSendByte, IsReadWord, IsCutLate}
use Rattle.smbus.specs.MessageFrame.{ReadsNoBlock, AreAsked, MessagesHaveOneFrame}
use Rattle.smbus.proofs.DataBytes.{writes_go_out}
use Rattle.smbus.proofs.FirstCut.{Cuts}
use Rattle.smbus.proofs.FirstSegments.{first_up_to, Rest, out_rest}
use Rattle.smbus.proofs.Fronts.{Token}
use Rattle.smbus.proofs.MarkCounts.{length-marks_of, slots_few}
use Rattle.smbus.proofs.MarksOut.{marks_out}
use Rattle.smbus.proofs.OneFrameOfMessage.{pieces_of, cuts, plan_length, sees}
use Rattle.smbus.proofs.SeenFrames.{head_same, same_whole, same_tokens, Seen, seen_of}
use Rattle.smbus.proofs.SmallPieces.{AreSmall, small_whole, small_up_to}
use Rattle.smbus.proofs.Tokens.{sends_by, reports_by}

abbrev IsOnly : Asked → Answered → Shown → Type 0
IsOnly m a f = IsOnlyFrame (event_word (plan_of m a)) f

-- the only frame has the marks that go out
marks_shown : (m : Asked) (a : Answered) (f : Shown) → IsOnly m a f
    → shown_marks f ≡ marks_out (plan_of m a)
marks_shown m a f only =
    let s = sees m a in
    ap shown_marks (head_same f s.frame [] [] (s.is_only.only (f ∷ []) only.is)) ∙ s.shown

small_pieces : (m : Asked) (a : Answered) → AreAsked m a → AreSmall (pieces_of m a)
small_pieces m a asked = small_up_to a.refuse (whole m a.value a.bytes) (small_whole m a asked)

abbrev SeenIn : Asked → Answered → Shown → Type 0
SeenIn m a f = Seen (pieces_of m a) (first_cut (plan_of m a)) f

seen_in_frame : (m : Asked) (a : Answered) (f : Shown) → AreAsked m a → IsOnly m a f → SeenIn m a f
seen_in_frame m a f asked only =
    seen_of (event_word (plan_of m a)) f (pieces_of m a) (plan_of m a) only (small_pieces m a asked)
    (cuts m a) (marks_shown m a f only) (first_cut (plan_of m a)) refl

-- the bytes that go out

went_out : (m : Asked) (a : Answered) (f : Shown) → AreAsked m a → SeenIn m a f
    → bytes_seen f ≡ bytes_out m a
went_out m a f asked s =
    s.bytes ∙ ap (bytes_before (first_cut (plan_of m a))) (first_up_to m.form m.address m.code m.out
    a.value a.bytes a.refuse asked.can_be_sent.has_good_data.is_numbered)

begins : (m : Asked) (a : Answered) (seen : List ℕ) → seen ≡ bytes_out m a
    → Rest (message_bytes m a) seen
begins m a seen e =
    let r = out_rest a.refuse (first_cut (plan_of m a)) (message_bytes m a) in
    (r.0, r.1 ∙ ap (λ (l : List ℕ). l ++ r.0) (sym e))

-- a whole Send Byte

sends : (m : Asked) (a : Answered) (f : Shown) → AreAsked m a → IsOnly m a f
    → first_cut (plan_of m a) ≡ None
    → (x c v : ℕ) (read : List ℕ) → x ≤ 127 → c < 256 → IsWhole (send_byte x c) v read f
    → IsSendByte x c m × (a.refuse ≡ None)
sends m a f asked only uncut x c v read lx lc is =
    let good = asked.can_be_sent.has_good_data in
    let events : List Event = event_word (plan_of m a) in
    let ours =
    same_whole events f (pieces_of m a) only (marks_shown m a f only ∙ Cuts.all (cuts m a) uncut) in
    let told : List Piece = whole (send_byte x c) v read in
    let theirs = same_whole events f told only is in
    let s = sends_by m.form m.address m.code m.out a.value a.bytes x c a.refuse good.has_length
    good.is_numbered (same_tokens (pieces_of m a) told [] [] (small_pieces m a asked)
    (omega arith, (lc, tt)) (ours ∙ sym theirs)) in
    (record { form = s.1.0; to = s.1.1; command = s.1.2 }, s.0)

-- a whole Read Word, which isn't cut before its STOP

same_word : (v w : ℕ) → low v ≡ low w → high v ≡ high w → v ≡ w
same_word v w l h = omega arith

whole_count : (m : Asked) (value : ℕ) (block : List ℕ) → m.form ≡ ReadWord
    → length (marks_of (whole m value block)) ≡ 46
whole_count m value block form =
    ap (λ (x : Form). length (marks_of (whole_of x m.address m.code m.out value block))) form
    ∙ length-marks_of (whole_of ReadWord m.address m.code m.out value block)

cut_late : (marks : List Slot) (plan : List (Slot × ℕ)) (f : Shown) (n : ℕ) → Cuts 0 marks plan
    → shown_marks f ≡ marks_out plan → length (shown_marks f) ≡ n → length marks ≡ n
    → (cut : Option ℕ) → first_cut plan ≡ cut → IsCutLate cut n
cut_late marks plan f n k shown count all None e = inl refl
cut_late marks plan f n k shown count all (Some c) e =
    let below = k.below c e in
    let t : length (marks_out plan) ≡ length (take (c - 0) marks) = ap length (k.some c e) in
    let s : length (shown_marks f) ≡ length (marks_out plan) = ap length shown in
    let l : length (take (c - 0) marks) ≡ min (c - 0) (length marks) = length-take (c - 0) marks in
    let same : c ≡ n = omega arith in
    inr (ap (λ (j : ℕ). Some j) same)

pieces_count : (m : Asked) (a : Answered) → m.form ≡ ReadWord → a.refuse ≡ None
    → length (marks_of (pieces_of m a)) ≡ 46
pieces_count m a form none =
    ap (λ (r : Option ℕ). length (marks_of (up_to_refused r (whole m a.value a.bytes)))) none
    ∙ whole_count m a.value a.bytes form

reports : (m : Asked) (a : Answered) (f : Shown) → AreAsked m a → IsOnly m a f → SeenIn m a f
    → (x c w : ℕ) (read : List ℕ) → x ≤ 127 → c < 256 → w < 65536 → ReadsNoBlock c m
    → IsWhole (read_word x c) w read f
    → IsReadWord x c w m a × (a.refuse ≡ None)
    × IsCutLate (first_cut (plan_of m a)) (length (marks_of (whole m a.value a.bytes)))
reports m a f asked only s x c w read lx lc lw no_block is =
    let good = asked.can_be_sent.has_good_data in
    let told : List Piece = whole (read_word x c) w read in
    let theirs = same_whole (event_word (plan_of m a)) f told only is in
    let front = same_tokens s.front told s.tail [] s.small (
      omega arith,
      (lc, (tt, (omega arith, (omega arith, (omega arith, tt))))),
    ) (s.same ∙ sym theirs) in
    let r = reports_by m.form m.address m.code m.out a.value a.bytes x c (low w)
    (high w) s.rest a.refuse good.has_length good.is_numbered no_block
    (s.seen ∙ ap (λ (l : List Token). l ++ s.rest) front) in
    let count : length (shown_marks f) ≡ 46 =
    ap length is ∙ whole_count (read_word x c) w read refl in
    let late = cut_late (marks_of (pieces_of m a)) (plan_of m a) f 46 (cuts m a)
    (marks_shown m a f only) count (pieces_count m a r.1.0 r.0) (first_cut (plan_of m a)) refl in (
      record {
        form = r.1.0;
        to = r.1.1;
        command = r.1.2;
        returns = same_word a.value w r.1.3 r.1.4;
      },
      r.0,
      subst (IsCutLate (first_cut (plan_of m a))) (sym (whole_count m a.value a.bytes r.1.0)) late,
    )

few_slots : SlotsAreKept → (m : Asked) (a : Answered) (most : ℕ) → length (slots_of m a) ≤ most
    → length (plan_of m a) ≤ most
few_slots kept m a most le = let l = plan_length kept m a in omega arith

pub messages_have_one_frame : SlotsAreKept → SlotsAreOneFrame → MessagesHaveOneFrame
messages_have_one_frame kept one_frame m a asked =
    let one : HasOneFrame m a = one_frame m a asked.can_be_sent in
    let f : Shown = one.frame in
    let only : IsOnly m a f = one.is_only in
    let seen = seen_in_frame m a f asked only in
    let out = went_out m a f asked seen in
    record {
      one = one;
      slots = few_slots kept m a _ (slots_few m a asked.can_be_sent.has_good_data.has_length);
      went_out = out;
      begins = begins m a (bytes_seen f) out;
      writes = λ v form is.
          writes_go_out m a (first_cut (plan_of m a)) v (bytes_seen f) out form is;
      sends = λ x c v read lx lc whole uncut. sends m a f asked only uncut x c v read lx lc whole;
      reports = λ x c w read lx lc lw no_block whole.
          reports m a f asked only seen x c w read lx lc lw no_block whole;
    }
