-- What an entry is seen to do follows from its message and answer.
use Rattle.std.proofs.Common.{◌≡◌, ℕ, ◌<◌, ◌≤◌, inl, inr, Bool, Option, Some, None, is_some, IsTrue}
use Rattle.std.proofs.Common.{List, [], ◌∷◌, length, refl, sym, ap, subst, ◌∙◌}
use Rattle.bit_bus.specs.Levels.{first_cut}
use Rattle.smbus.specs.declared.message.Form.{Form}
use Rattle.smbus.specs.declared.message.Form.TheVariants.{SendByte, ReadWord}
use Rattle.smbus.specs.Asked.{Asked}
use Rattle.smbus.specs.Answered.{Answered}
use Rattle.smbus.specs.Shown.{Shown}
use Rattle.smbus.specs.Protocol.{marks_of, whole, whole_of}
use Rattle.smbus.specs.Slots.{plan_of}
use Rattle.smbus.specs.Whole.{IsWhole}
use Rattle.smbus.specs.FirstSegment.{bytes_seen}
use Rattle.smbus.specs.MessageFrame.{send_byte, read_word, IsSendByte, IsCutLate}
use Rattle.smbus.specs.Slots.{samples_of}
use Rattle.simulator.specs.EntryLaws.{ReadsOne, EntriesReadBack}
use Rattle.simulator.specs.Does.{HasFrame, SendsByte, ReportsWord, Sent, Reported, EntriesDoAsAsked}

head_same : (f g : Shown) (xs ys : List Shown) → f ∷ xs ≡ g ∷ ys → f ≡ g
head_same f g xs ys e = cc

same : (m : Asked) (a : Answered) (alert : Bool) (r : ReadsOne m a alert) (f : Shown)
    → HasFrame (samples_of alert m a) f → f ≡ r.shows.one.frame
same m a alert r f h = head_same f r.shows.one.frame [] [] (r.is_only.only (f ∷ []) h)

none_is : (cut : Option ℕ) → (IsTrue (is_some cut) → ⊥) → cut ≡ None
none_is None h = refl
none_is (Some n) h = absurd (h refl)

none_some : (cut : Option ℕ) → cut ≡ None → IsTrue (is_some cut) → ⊥
none_some None e t = cc
none_some (Some n) e t = cc

-- a whole Send Byte

sends : (m : Asked) (a : Answered) (alert : Bool) (r : ReadsOne m a alert) (address code : ℕ)
    → address ≤ 127 → SendsByte (samples_of alert m a) address code → Sent m a address code
sends m a alert r address code le s =
    let uncut = none_is (first_cut (plan_of m a)) (λ t. s.in_time (r.timeout.1 t)) in
    let w =
    subst (IsWhole (send_byte address code) 0 []) (same m a alert r s.frame s.has) s.is_whole in
    let t = r.shows.sends address code 0 [] le s.byte w uncut in
    (t.0, record { accepted = t.1; uncut = uncut })

sent_whole : (m : Asked) (value : ℕ) (block : List ℕ) (f : Shown) (address code : ℕ)
    → IsSendByte address code m → IsWhole m value block f → IsWhole (send_byte address code) 0 [] f
sent_whole m value block f address code is w =
    w
    ∙ ap (λ (x : Form). marks_of (whole_of x m.address m.code m.out value block)) is.form
    ∙ ap (λ (x : ℕ). marks_of (whole_of SendByte x m.code m.out value block)) is.to
    ∙ ap (λ (x : ℕ). marks_of (whole_of SendByte address x m.out value block)) is.command

sent : (m : Asked) (a : Answered) (alert : Bool) (r : ReadsOne m a alert) (address code : ℕ)
    → m.code < 256 → Sent m a address code → SendsByte (samples_of alert m a) address code
sent m a alert r address code lt s = record {
  frame = r.shows.one.frame;
  has = r.is_only.is;
  byte = subst (λ x. x < 256) s.0.command lt;
  is_whole =
      sent_whole m a.value a.bytes r.shows.one.frame address code s.0
      (r.done s.1.accepted s.1.uncut);
  in_time = λ late. none_some (first_cut (plan_of m a)) s.1.uncut (r.timeout.0 late);
}

-- a whole Read Word

read_whole : (m : Asked) (value : ℕ) (block : List ℕ) (f : Shown) (address code w : ℕ)
    → m.form ≡ ReadWord → m.address ≡ address → m.code ≡ code → value ≡ w → IsWhole m value block f
    → IsWhole (read_word address code) w [] f
read_whole m value block f address code w form to command returns is =
    is
    ∙ ap (λ (x : Form). marks_of (whole_of x m.address m.code m.out value block)) form
    ∙ ap (λ (x : ℕ). marks_of (whole_of ReadWord x m.code m.out value block)) to
    ∙ ap (λ (x : ℕ). marks_of (whole_of ReadWord address x m.out value block)) command
    ∙ ap (λ (x : ℕ). marks_of (whole_of ReadWord address code m.out x block)) returns

late_whole : (m : Asked) (a : Answered) (alert : Bool) (r : ReadsOne m a alert) → a.refuse ≡ None
    → IsCutLate (first_cut (plan_of m a)) (length (marks_of (whole m a.value a.bytes)))
    → IsWhole m a.value a.bytes r.shows.one.frame
late_whole m a alert r accepted (inl c) = r.done accepted c
late_whole m a alert r accepted (inr c) = (r.cut_in_end accepted c).0

reported : (m : Asked) (a : Answered) (alert : Bool) (r : ReadsOne m a alert)
    (address code value : ℕ) → a.value < 65536 → Reported m a address code value
    → ReportsWord (samples_of alert m a) address code value
reported m a alert r address code value lt h = record {
  frame = r.shows.one.frame;
  has = r.is_only.is;
  word = subst (λ x. x < 65536) h.read.returns lt;
  is_whole =
      read_whole m a.value a.bytes r.shows.one.frame address code value h.read.form h.read.to
      h.read.command h.read.returns (late_whole m a alert r h.accepted h.cut_late);
}

pub do_as_asked : EntriesReadBack → EntriesDoAsAsked
do_as_asked reads_one m a alert asked =
    let r : ReadsOne m a alert = reads_one m a alert asked in
    record {
      begins = λ bytes. (
        λ b. (
          b.front.0,
          sym (ap bytes_seen (same m a alert r b.frame b.has) ∙ r.shows.went_out) ∙ b.front.1,
        ),
        λ o. record {
          frame = r.shows.one.frame;
          has = r.is_only.is;
          front = (o.0, r.shows.went_out ∙ o.1);
        },
      );
      sends = λ address code le. (
        λ s. sends m a alert r address code le s,
        λ s. sent m a alert r address code asked.wire.code s,
      );
      reports = λ address code value le lt no_block. (
        λ s.
            let t = r.shows.reports address code value [] le lt s.word no_block
            (subst (IsWhole (read_word address code) value [])
            (same m a alert r s.frame s.has) s.is_whole) in
            record { read = t.0; accepted = t.1; cut_late = t.2 },
        λ h. reported m a alert r address code value asked.wire.value h,
      );
    }
