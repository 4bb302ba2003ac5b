-- A message in a form for which its target has no entry isn't safe, whatever other messages look
-- like it on the wire.
use Rattle.std.proofs.Common.{◌≡◌, ◌≤◌, ◌<◌, ◌⊎◌, inl, inr, ℕ, Option, Some, None, is_some}
use Rattle.std.proofs.Common.{List, [], IsTrue, refl, sym, subst, ◌∙◌, lit<}
use Rattle.std.proofs.lemmas.List.Elements.{All-nil}
use Rattle.wires.specs.declared.lines.Sample.{Sample}
use Rattle.bit_bus.specs.Levels.{first_cut, HasTimeout}
use Rattle.smbus.specs.declared.message.Form.{Form}
use Rattle.smbus.specs.declared.message.Form.TheVariants.{SendByte, Alert}
use Rattle.smbus.specs.Answered.{Answered}
use Rattle.smbus.specs.Shown.{Shown}
use Rattle.smbus.specs.Protocol.{whole, sent_count, refused_at, marks_of, IsNumbered}
use Rattle.smbus.specs.Slots.{slots_of, plan_of}
use Rattle.smbus.specs.Whole.{shown_marks, IsWhole, IsBrokenOff}
use Rattle.smbus.specs.MessageFrame.{send_byte, IsSendByte, AreAsked, MessagesHaveOneFrame}
use Rattle.board.specs.Boards.{Target, Board, entry_of}
use Rattle.board.specs.Valid.{IsBoard}
use Rattle.targets.specs.States.{BusState, IsTargetAt}
use Rattle.targets.specs.PlaceLaws.{TargetsAreFound}
use Rattle.simulator.specs.Machines.{start_at}
use Rattle.simulator.specs.Allowed.{IsAllowed, IsAllowedBy, IsForeign}
use Rattle.simulator.specs.EntryLaws.{ForeignReadsBack}
use Rattle.targets.specs.ContendedLaws.{AllowedCanStart}
use Rattle.simulator.proofs.StepDoing.{no_target}
use Rattle.simulator.specs.StepLaws.{StepsAreSeen, StartsAreReady}
use Rattle.simulator.specs.SmallPrograms.{UnlistedFormIsUnsafe}
use Rattle.simulator.proofs.Addresses.{address_small}
use Rattle.simulator.proofs.OneTarget.{only_one}
use Rattle.simulator.proofs.PlainSteps.{plain, uncut, none_cut, entry_by}
use Rattle.simulator.proofs.UnsafePrograms.{sending, sends_code, two_places, first_step}

-- the same answer, with no hold and this refusal
abbrev answering : Option ℕ → Answered → Answered
answering refuse a = record a { holds = []; refuse = refuse }

asked_so : (b : Board) (s : BusState) (samples : List Sample) (f : Shown)
    (al : IsAllowed b s samples f) (refuse : Option ℕ)
    → IsNumbered refuse (sent_count (whole al.message al.answer.value al.answer.bytes))
    → AreAsked al.message (answering refuse al.answer)
asked_so b s samples f al refuse numbered = record {
  can_be_sent = record {
    has_good_data = record { has_length = al.has_length; is_numbered = numbered };
    has_good_block = al.has_good_block;
    holds = All-nil (λ hold. hold ≤ 6999);
  };
  wire = record {
    address = al.wire.address;
    code = al.wire.code;
    out = al.wire.out;
    value = al.wire.value;
    read = al.wire.read;
  };
}

-- a frame with the marks of a whole Send Byte, with every byte acknowledged and no timeout, is
-- shown by no other message
shown_by : MessagesHaveOneFrame → (b : Board) (s : BusState) (samples : List Sample) (f : Shown)
    (address code : ℕ) → address ≤ 127 → code < 256 → IsWhole (send_byte address code) 0 [] f
    → (HasTimeout samples → ⊥) → (al : IsAllowed b s samples f) → IsSendByte address code al.message
shown_by one b s samples f address code la lc is in_time al = by al.shown
  where
    by : IsWhole al.message al.answer.value al.answer.bytes f
        ⊎ IsBrokenOff samples al.message al.answer.value al.answer.bytes f
        → IsSendByte address code al.message
    by (inl same) =
        let a = answering None al.answer in
        let shows = one al.message a (asked_so b s samples f al None tt) in
        let cut = uncut (slots_of al.message a) 0 in
        let marks = shows.one.done refl cut ∙ sym same ∙ is in
        (shows.sends address code 0 [] la lc marks cut).0
    by (inr (inl refused)) =
        let n = refused.number in
        let a = answering (Some n) al.answer in
        let pieces = whole al.message al.answer.value al.answer.bytes in
        let shows = one al.message a (asked_so b s samples f al (Some n) refused.is_sent) in
        let cut = uncut (slots_of al.message a) 0 in
        let r = shows.one.only_refused n refl cut in
        let ends : shown_marks shows.one.frame ≡ marks_of (refused_at n pieces) =
        subst (λ (k : ℕ). shown_marks shows.one.frame ≡ marks_of (refused_at k pieces)) r.1
        r.0.ends in
        let marks = ends ∙ sym refused.ends ∙ is in
        let none : Some n ≡ None = (shows.sends address code 0 [] la lc marks cut).1 in
        cc
    by (inr (inr late)) = absurd (in_time late.0)

no_timeout : (c : Option ℕ) → c ≡ None → IsTrue (is_some c) → ⊥
no_timeout None e t = cc
no_timeout (Some slot) e t = cc

-- who allows it is the target, by an entry of the form and the code
listed_so : TargetsAreFound
    → (b : Board) (s : BusState) (samples : List Sample) (f : Shown) (i : ℕ) (t : Target)
    (code : ℕ) → IsBoard b → IsTargetAt b i t → (al : IsAllowed b s samples f)
    → IsSendByte t.address code al.message → entry_of SendByte code t.allow ≡ None → ⊥
listed_so found b s samples f i t code is at al sends none = by al.allowed
  where
    by : IsAllowedBy b s al.message al.answer → ⊥
    by (inl alert) = let bad : SendByte ≡ Alert = sym sends.form ∙ alert in cc
    by (inr (j, u, uj, allows)) =
        let same : i ≡ j = only_one found b is i j t u at uj (sym sends.to ∙ allows.to) in
        let there : Some t ≡ Some u = sym at ∙ subst (λ n. IsTargetAt b n u) (sym same) uj in
        let one : u ≡ t = cc in
        let form : entry_of al.message.form al.message.code t.allow ≡ Some allows.entry =
        subst (λ (x : Target). entry_of al.message.form al.message.code x.allow
        ≡ Some allows.entry) one allows.listed in
        let entry : entry_of SendByte code t.allow ≡ Some allows.entry =
        subst (λ (c : ℕ). entry_of SendByte c t.allow ≡ Some allows.entry) sends.command
        (subst (λ (x : Form). entry_of x al.message.code t.allow ≡ Some allows.entry) sends.form
        form) in
        cc

pub unlisted_form_is_unsafe : StepsAreSeen → StartsAreReady → MessagesHaveOneFrame
    → TargetsAreFound → ForeignReadsBack → AllowedCanStart → UnlistedFormIsUnsafe
unlisted_form_is_unsafe steps ready one found foreign start b s i t code bound is starts
    at takes none runs =
    let m = send_byte t.address code in
    let first =
    first_step steps ready b s (sending i code) m bound is starts
    (two_places (sending i code) takes (lit< tt)) (sends_code b s i code t at) runs in
    let e = entry_by (sending i code) m 0 (start_at s) in
    let reads = first.seen.carries.reads in
    let f = reads.shows.one.frame in
    let small = address_small b i t is at in
    let code_small : code < 256 = first.seen.carries.asked.wire.code in
    let stands = first.safe.safe.0.allowed f reads.is_only.is in
    let in_time : HasTimeout e.samples → ⊥ =
    λ late. no_timeout (first_cut (plan_of m (plain 0))) (none_cut m 0) (reads.timeout.0 late) in
    let whole = reads.done refl (none_cut m 0) in
    let no_other = λ (o : IsForeign b e.samples f).
    no_target b o.contender i t is o.may at
    ((foreign o.contender o.alert (start b o.contender is o.may)).to m 0 [] small
    (subst (IsWhole m 0 []) o.whole whole)) in
    elim stands [
      | inl al ↦
          let sends =
          shown_by one b s e.samples f t.address code small code_small whole in_time al in
          listed_so found b s e.samples f i t code is at al sends none
      | inr other ↦ no_other other
    ]
