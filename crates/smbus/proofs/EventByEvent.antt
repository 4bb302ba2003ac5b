-- Reading event by event gives the frames of the events, and stops only where no frames go on.
use Rattle.std.proofs.Common.{◌≡◌, ℕ, ◌+◌, ◌<◌, ◌≤◌, ◌==◌, inl, inr, Bool, true, false, Some, None}
use Rattle.std.proofs.Common.{List, [], ◌∷◌, ◌++◌, length, take, drop, get_or, refl, sym, ap, subst}
use Rattle.std.proofs.Common.{◌∙◌, append_assoc, arith}
use Rattle.std.specs.List.{flat_map}
use Rattle.std.proofs.lemmas.Bool.{cases_Bool, eqb-true, eqb-false}
use Rattle.std.proofs.lemmas.List.{append-nil, take_more, take-append-drop, take-take}
use Rattle.std.proofs.lemmas.List.Elements.{All-nil}
use Rattle.wires.specs.declared.event.Event.{Event}
use Rattle.wires.specs.declared.event.Event.TheVariants.{Stop, Rise}
use Rattle.smbus.specs.Shown.{Shown}
use Rattle.smbus.specs.Frames.{frame_word, IsFrame, AreFrames, Begins, FailsAt}
use Rattle.smbus.specs.Machine.{byte_of, State, start, then_run, run, step}
use Rattle.smbus.proofs.StatesOfEvents.{Segments, state, open_word, word, AreBytes, Sound}
use Rattle.smbus.proofs.StatesOfEvents.{run-append, run_keeps, some_same, none_some}
use Rattle.smbus.proofs.StatesOfEvents.{risen-nine, risen-few, ends_low-push, all_but_last-push}
use Rattle.smbus.proofs.FramesTaken.{closed, stop_run, frames_run}

-- every state goes on to frames

last_events : (frames : List Shown) (segments : Segments) (bytes : List (ℕ × Bool))
    (bits : List Bool) → length bits ≤ 9
    → (fs : List Shown)
    × (run (Rise false ∷ Stop ∷ []) (state frames true segments bytes bits) ≡ Some (closed fs))
last_events frames segments bytes bits few = elim (cases_Bool (length bits == 9)) [
  | inl t ↦ let n : length bits ≡ 9 = eqb-true _ _ t in (
    frames ++ record { segments = segments ++ (bytes ++ byte_of bits ∷ []) ∷ []; tail = [] } ∷ [],
    ap (λ (s : State). run (Stop ∷ []) s)
        (risen-nine false (state frames true segments bytes bits) n),
  )
  | inr f ↦
      let ne : length bits ≡ 9 → ⊥ = eqb-false _ _ f in
      let lt : length bits < 9 = omega arith in (
        frames ++ record { segments = segments ++ bytes ∷ []; tail = bits } ∷ [],
        ap (λ (s : State). run (Stop ∷ []) s)
            (risen-few false (state frames true segments bytes bits) lt)
            ∙ stop_run frames segments bytes bits [],
      )
]

pub begins_open : (frames : List Shown) (is_open : Bool) (segments : Segments)
    (bytes : List (ℕ × Bool)) (bits : List Bool) → Sound (state frames is_open segments bytes bits)
    → Begins (word (state frames is_open segments bytes bits))
begins_open frames false segments bytes bits h = (
  frames,
  [],
  record {
    each = h.each;
    words = append-nil (flat_map frame_word frames ++ []) ∙ append-nil (flat_map frame_word frames);
  },
)
begins_open frames true segments bytes bits h =
    let l = last_events frames segments bytes bits h.few in
    let s = state frames true segments bytes bits in
    let k = run_keeps (Rise false ∷ Stop ∷ []) s (closed l.0) h l.1 in (
      l.0,
      Rise false ∷ Stop ∷ [],
      record {
        each = k.0.each;
        words = sym k.1 ∙ append-nil (flat_map frame_word l.0);
      },
    )

pub sound_start : Sound start
sound_start = record {
  each = All-nil IsFrame;
  segments = All-nil AreBytes;
  bytes = All-nil (λ (x : ℕ × Bool). x.0 < 256);
  few = omega arith;
  closed = λ _. (refl, refl, refl);
}

pub begins_read : (es : List Event) (s : State) → run es start ≡ Some s → Begins es
begins_read es s e =
    let k = run_keeps es start s sound_start e in
    subst Begins k.1 (begins_open s.frames s.is_open s.segments s.bytes s.bits k.0)

pub frames_read : (es : List Event) (s : State) → run es start ≡ Some s → s.is_open ≡ false
    → AreFrames es s.frames
frames_read es s e c =
    let k = run_keeps es start s sound_start e in
    let w : flat_map frame_word s.frames ++ open_word false s.segments s.bytes s.bits ≡ es =
    subst (λ (o : Bool). flat_map frame_word s.frames ++ open_word o s.segments s.bytes s.bits ≡ es)
    c k.1 in
    record { each = k.0.each; words = sym w ∙ append-nil (flat_map frame_word s.frames) }

pub read_frames : (es : List Event) (fs : List Shown) → AreFrames es fs
    → run es start ≡ Some (closed fs)
read_frames es fs are = ap (λ (l : List Event). run l start) are.words ∙ frames_run fs [] are.each

pub only_read : (es : List Event) (s : State) → run es start ≡ Some s → (others : List Shown)
    → AreFrames es others → others ≡ s.frames
only_read es s e others are =
    ap (λ (t : State). t.frames)
    (some_same (closed others) s (run es start) (read_frames es others are) e)

pub none_begin : (es : List Event) → run es start ≡ None → Begins es → ⊥
none_begin es e (fs, more, are) =
    let r : run (es ++ more) start ≡ then_run (run more) None =
    run-append es more start ∙ ap (then_run (run more)) e in
    none_some (closed fs) (run (es ++ more) start) r (read_frames (es ++ more) fs are)

read_more : (es : List Event) (place : ℕ) (s : State) (d : Event) → place < length es
    → run (take place es) start ≡ Some s
    → run (take (place + 1) es) start ≡ then_run (run []) (step s (get_or es place d))
read_more es place s d lt so_far =
    ap (λ (l : List Event). run l start) (take_more es place d lt)
    ∙ run-append (take place es) (get_or es place d ∷ []) start
    ∙ ap (then_run (run (get_or es place d ∷ []))) so_far

-- frames that begin with events begin with the first of these
begins_front : (n : ℕ) (es : List Event) → Begins es → Begins (take n es)
begins_front n es (fs, more, are) = (
  fs,
  drop n es ++ more,
  subst (λ (l : List Event). AreFrames l fs) (ap (λ (l : List Event). l ++ more)
      (sym (take-append-drop n es)) ∙ append_assoc (take n es) (drop n es) more) are,
)

pub begins_less : (es : List Event) (m n : ℕ) → m ≤ n → Begins (take n es) → Begins (take m es)
begins_less es m n le b = subst Begins (take-take m n es le) (begins_front m (take n es) b)

pub fails_here : (es : List Event) (place : ℕ) (s : State) (d : Event) → place < length es
    → run (take place es) start ≡ Some s → step s (get_or es place d) ≡ None → FailsAt es place
fails_here es place s d lt so_far stops = record {
  within = omega arith;
  least = λ n below.
      begins_less es (n + 1) place (omega arith) (begins_read (take place es) s so_far);
  here = λ _.
      none_begin (take (place + 1) es)
      (read_more es place s d lt so_far ∙ ap (then_run (run [])) stops);
  unfinished = λ (at : place ≡ length es). absurd (omega arith);
}

pub fails_open : (es : List Event) (s : State) → run es start ≡ Some s → s.is_open ≡ true
    → FailsAt es (length es)
fails_open es s e o = record {
  within = omega arith;
  least = λ n below. begins_front (n + 1) es (begins_read es s e);
  here = λ (lt : length es < length es). absurd (omega arith);
  unfinished = λ _ fs are.
      let same : closed fs ≡ s = some_same (closed fs) s (run es start) (read_frames es fs are) e in
      let c : false ≡ true = ap (λ (t : State). t.is_open) same ∙ o in
      cc;
}

-- the STOP, by the bit that stands last

pub stops : (s : State) (front : List Bool) (b : Bool) → s.is_open ≡ true → s.bits ≡ front ++ b ∷ []
    → b ≡ false → step s Stop ≡ Some
    (closed (s.frames ++ record { segments = s.segments ++ s.bytes ∷ []; tail = front } ∷ []))
stops s front b o e low =
    rw (o, e, low, ends_low-push front false, all_but_last-push front false) refl

pub stays : (s : State) (front : List Bool) (b : Bool) → s.is_open ≡ true → s.bits ≡ front ++ b ∷ []
    → b ≡ true → step s Stop ≡ None
stays s front b o e high = rw (o, e, high, ends_low-push front true) refl
