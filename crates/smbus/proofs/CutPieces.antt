-- However a stream is cut, the same frames are read, and the same rest is left.
use Rattle.std.proofs.Common.{◌≡◌, ◌≢◌, ℕ, zero, suc, ◌+◌, ◌-◌, ◌<◌, ◌≤◌, ◌==◌, Bool, true, false}
use Rattle.std.proofs.Common.{inl}
use Rattle.std.proofs.Common.{inr, Option, Some, None, List, [], ◌∷◌, ◌++◌, length, take, All, refl}
use Rattle.std.proofs.Common.{sym, ap, subst, ◌∙◌, append_assoc, arith}
use Rattle.std.specs.List.{flat_map}
use Rattle.std.proofs.Math.Seq.{take-append-add}
use Rattle.std.proofs.lemmas.Bool.{cases_Bool}
use Rattle.std.proofs.lemmas.List.{append_cancel_left, length-append}
use Rattle.std.proofs.lemmas.List.Elements.{All-append, All-head, All-nil, All-push, All-tail}
use Rattle.wires.specs.declared.event.Event.{Event}
use Rattle.wires.specs.declared.event.Event.TheVariants.{Start, Stop, Rise}
use Rattle.smbus.specs.Shown.{Shown}
use Rattle.smbus.specs.Frames.{Begins, IsFrame, frame_word}
use Rattle.smbus.specs.Machine.{State, is_again, risen, step, start, run, then_run}
use Rattle.smbus.specs.Control.{control_after}
use Rattle.smbus.specs.Observers.{IsObserving, IsStopped, IsTaken, Observing, StopsAt}
use Rattle.smbus.specs.JoinedPieces.{SomeAreTaken}
use Rattle.smbus.specs.declared.control.Control.{Control}
use Rattle.smbus.specs.declared.control.Control.TheVariants.{Free, Begun}
use Rattle.smbus.proofs.StatesOfEvents.{Segments, state, run-append}
use Rattle.smbus.proofs.FramesTaken.{closed}
use Rattle.smbus.proofs.EventByEvent.{begins_less, none_begin, read_frames}
use Rattle.smbus.proofs.Controlled.{begins_controlled, control-append, control_of, none_controlled}
use Rattle.smbus.proofs.Controlled.{read_controlled}
use Rattle.smbus.proofs.PiecesRead.{Took, new_kept, same_state, stopped, then_some, took_all}
use Rattle.smbus.proofs.PiecesRead.{took_up_to}

-- without a STOP no frame is added

rise-frames : (bit : Bool) (s : State) → (risen bit s).frames ≡ s.frames
rise-frames bit s = elim (cases_Bool (length s.bits == 9)) [
  | inl t ↦ rw t refl
  | inr f ↦ rw f refl
]

step-frames : (frames : List Shown) (is_open : Bool) (segments : Segments)
    (bytes : List (ℕ × Bool)) (bits : List Bool) (e : Event) (t : State) → e ≢ Stop
    → step (state frames is_open segments bytes bits) e ≡ Some t → t.frames ≡ frames
step-frames frames is_open segments bytes bits Stop t other e = absurd (other refl)
step-frames frames false segments bytes bits (Rise bit) t other e = cc
step-frames frames true segments bytes bits (Rise bit) t other e =
    ap (λ (s : State). s.frames)
    (same_state t (risen bit (state frames true segments bytes bits)) _ e refl)
    ∙ rise-frames bit (state frames true segments bytes bits)
step-frames frames false segments bytes bits Start t other e =
    ap (λ (s : State). s.frames) (same_state t (state frames true segments bytes bits) _ e refl)
step-frames frames true segments bytes bits Start t other e = elim (cases_Bool (is_again bits)) [
  | inl a ↦
      ap (λ (s : State). s.frames)
      (same_state t (state frames true (segments ++ bytes ∷ []) [] []) _ e (rw a refl))
  | inr f ↦ absurd (nothing t _ e (rw f refl))
] where
  nothing : (s : State) (o : Option State) → o ≡ Some s → o ≡ None → ⊥
  nothing s o e f = cc

then-frames : (es : List Event) (s t : State) (e : Event) (o : Option State) → e ≢ Stop
    → step s e ≡ o → ((u : State) → run es u ≡ Some t → t.frames ≡ u.frames)
    → then_run (run es) o ≡ Some t → t.frames ≡ s.frames
then-frames es s t e None other eq later r = cc
then-frames es s t e (Some u) other eq later r =
    later u r ∙ step-frames s.frames s.is_open s.segments s.bytes s.bits e u other eq

run-frames : (es : List Event) (s t : State) → All (λ e. e ≢ Stop) es → run es s ≡ Some t
    → t.frames ≡ s.frames
run-frames [] s t none r = ap (λ (u : State). u.frames) (same_state t s (Some s) r refl)
run-frames (e ∷ es) s t none r =
    then-frames es s t e (step s e) (All-head (λ (x : Event). x ≢ Stop) e es none) refl
    (λ u. run-frames es u t (All-tail (λ (x : Event). x ≢ Stop) e es none)) r

-- the frames that are read are those that were given

read_begun : (es : List Event) (o : Option State) → run es start ≡ o → Begins es
    → (s : State) × (run es start ≡ Some s)
read_begun es None e begins = absurd (none_begin es e begins)
read_begun es (Some s) e begins = (s, e)

frames_taken : (a b : Observing) (piece : List Event) (frames : List Shown) (s : State)
    → IsTaken a piece frames b → run (a.rest ++ piece) start ≡ Some s → s.frames ≡ frames
frames_taken a b piece frames s taken e =
    let w : List Event = flat_map frame_word frames in
    let whole : run w start ≡ Some (closed frames) =
    read_frames w frames (record { each = taken.each; words = refl }) in
    let all : run (w ++ b.rest) start ≡ Some s =
    ap (λ (l : List Event). run l start) (sym taken.words) ∙ e in
    let later : run b.rest (closed frames) ≡ Some s =
    sym (ap (then_run (run b.rest)) whole) ∙ sym (run-append w b.rest start) ∙ all in
    run-frames b.rest (closed frames) s taken.kept.no_stop later

same_observing : (f g : ℕ) (o p : Option ℕ) (r s : List Event) → f ≡ g → o ≡ p → r ≡ s
    → ◌≡◌ {A = Observing} (record { fed = f; failed = o; rest = r })
    (record { fed = g; failed = p; rest = s })
same_observing f g o p r s e h i = rw (e, h, i) refl

pub unique : (a b c : Observing) (piece : List Event) (frames others : List Shown)
    → IsTaken a piece frames b → IsTaken a piece others c → (others ≡ frames) × (c ≡ b)
unique a b c piece frames others t u =
    let r = read_begun (a.rest ++ piece) (run (a.rest ++ piece) start) refl t.begins in
    let same : others ≡ frames =
    sym (frames_taken a c piece others r.0 u r.1) ∙ frames_taken a b piece frames r.0 t r.1 in
    let rest : c.rest ≡ b.rest =
    append_cancel_left (flat_map frame_word frames) c.rest b.rest
    (ap (λ (l : List Shown). flat_map frame_word l ++ c.rest) (sym same) ∙ sym u.words
    ∙ t.words) in (
      same,
      same_observing c.fed b.fed c.failed b.failed c.rest b.rest (u.fed ∙ sym t.fed)
          (u.none ∙ sym t.none) rest,
    )

-- frames before frames

flat_map-join : {X Y : Type 0} (f : X → List Y) (xs ys : List X)
    → flat_map f (xs ++ ys) ≡ flat_map f xs ++ flat_map f ys
flat_map-join f [] ys = refl
flat_map-join f (x ∷ xs) ys =
    ap (λ l. f x ++ l) (flat_map-join f xs ys)
    ∙ sym (append_assoc (f x) (flat_map f xs) (flat_map f ys))

begins_behind : (frames : List Shown) (es : List Event) → All IsFrame frames → Begins es
    → Begins (flat_map frame_word frames ++ es)
begins_behind frames es each (later, more, are) =
    let w : List Event = flat_map frame_word frames in (
      frames ++ later,
      more,
      record {
        each = All-append IsFrame frames later each are.each;
        words =
            append_assoc w es more ∙ ap (λ (l : List Event). w ++ l) are.words
            ∙ sym (flat_map-join frame_word frames later);
      },
    )

pub joined : (a b c : Observing) (first later : List Event) (frames others : List Shown)
    → IsTaken a first frames b → IsTaken b later others c
    → IsTaken a (first ++ later) (frames ++ others) c
joined a b c first later frames others t u =
    let w : List Event = flat_map frame_word frames in
    let on : a.rest ++ (first ++ later) ≡ w ++ (b.rest ++ later) =
    sym (append_assoc a.rest first later) ∙ ap (λ (l : List Event). l ++ later) t.words
    ∙ append_assoc w b.rest later in
    let sum : length (first ++ later) ≡ length first + length later = length-append first later in
    let b_fed : b.fed ≡ a.fed + length first = t.fed in
    let c_fed : c.fed ≡ b.fed + length later = u.fed in
    record {
      none_before = t.none_before;
      each = All-append IsFrame frames others t.each u.each;
      words =
          on ∙ ap (λ (l : List Event). w ++ l) u.words
          ∙ sym (append_assoc w (flat_map frame_word others) c.rest)
          ∙ ap (λ (l : List Event). l ++ c.rest) (sym (flat_map-join frame_word frames others));
      begins = subst Begins (sym on) (begins_behind frames (b.rest ++ later) t.each u.begins);
      fed = omega arith;
      none = u.none;
      kept = u.kept;
    }

-- the place at which events stop, behind frames

control_begun : (es : List Event) (o : Option Control) → control_after es Free ≡ o → Begins es
    → (c : Control) × (control_after es Free ≡ Some c)
control_begun es None e begins = absurd (none_controlled es e begins)
control_begun es (Some c) e begins = (c, e)

begins_cut : (frames : List Shown) (es : List Event) → All IsFrame frames
    → Begins (flat_map frame_word frames ++ es) → Begins es
begins_cut frames es each begins =
    let w : List Event = flat_map frame_word frames in
    let g = control_begun (w ++ es) (control_after (w ++ es) Free) refl begins in
    let t = then_some (control_after es) (control_after w Free) g.0
    (sym (control-append w es Free) ∙ g.1) in
    let r = read_controlled w t.0 t.1 in
    let same : r.0 ≡ closed frames =
    same_state r.0 (closed frames) (run w start) r.1
    (read_frames w frames (record { each = each; words = refl })) in
    let free : t.0 ≡ Free = sym r.2 ∙ ap control_of same in
    begins_controlled es g.0 (subst (λ (c : Control). control_after es c ≡ Some g.0) free t.2)

begins_before : (es : List Event) (place : ℕ) → StopsAt es place → Begins (take place es)
begins_before es zero stops = begins_controlled [] Free refl
begins_before es (suc n) stops =
    let up : n + 1 ≡ suc n = omega arith in
    subst (λ (m : ℕ). Begins (take m es)) up (stops.least n (omega arith))

stops_behind : (frames : List Shown) (es all : List Event) (place : ℕ) → All IsFrame frames
    → all ≡ flat_map frame_word frames ++ es → StopsAt es place
    → StopsAt all (length (flat_map frame_word frames) + place)
stops_behind frames es all place each are stops =
    let w : List Event = flat_map frame_word frames in
    let sum : length all ≡ length w + length es = ap length are ∙ length-append w es in
    let within : place < length es = stops.within in
    let front : Begins (take (length w + place) all) =
    subst (λ (l : List Event). Begins (take (length w + place) l)) (sym are)
    (subst Begins (sym (take-append-add w es place))
    (begins_behind frames (take place es) each (begins_before es place stops))) in
    let next : length w + place + 1 ≡ length w + (place + 1) = omega arith in
    let up_to : take (length w + place + 1) all ≡ w ++ take (place + 1) es =
    ap (λ (n : ℕ). take n all) next ∙ ap (λ (l : List Event). take (length w + (place + 1)) l) are
    ∙ take-append-add w es (place + 1) in
    record {
      within = omega arith;
      least = λ n below. begins_less all (n + 1) (length w + place) (omega arith) front;
      here = λ begins.
          stops.here (begins_cut frames (take (place + 1) es) each (subst Begins up_to begins));
    }

pub stops_joined : (a b : Observing) (first later : List Event) (frames : List Shown) (place : ℕ)
    → IsObserving a → IsTaken a first frames b → IsStopped b later place
    → IsStopped a (first ++ later) place
stops_joined a b first later frames place is t s =
    let w : List Event = flat_map frame_word frames in
    let on : a.rest ++ (first ++ later) ≡ w ++ (b.rest ++ later) =
    sym (append_assoc a.rest first later) ∙ ap (λ (l : List Event). l ++ later) t.words
    ∙ append_assoc w b.rest later in
    let lengths : length a.rest + length first ≡ length w + length b.rest =
    sym (length-append a.rest first) ∙ ap length t.words ∙ length-append w b.rest in
    let a_short : length a.rest ≤ a.fed = is.short in
    let b_short : length b.rest ≤ b.fed = t.kept.short in
    let b_fed : b.fed ≡ a.fed + length first = t.fed in
    let counted : place ≡ b.fed - length b.rest + s.at = s.counted in
    record {
      none_before = t.none_before;
      at = length w + s.at;
      stops =
          stops_behind frames (b.rest ++ later) (a.rest ++ (first ++ later)) s.at t.each on
          s.stops;
      counted = omega arith;
    }

-- a piece with a START, and one with the rise and the STOP of its frame

abbrev none_fed : Observing
none_fed = record { fed = 0; failed = None; rest = [] }

abbrev start_fed : Observing
start_fed = record { fed = 1; failed = None; rest = Start ∷ [] }

abbrev all_fed : Observing
all_fed = record { fed = 3; failed = None; rest = [] }

abbrev bare : Shown
bare = record { segments = [] ∷ []; tail = [] }

not_stop : Start ≢ Stop
not_stop e = cc

begun : Took none_fed (Start ∷ []) Begun [] start_fed
begun =
    took_all none_fed Free Begun (Start ∷ []) (new_kept [] refl) refl (omega arith) refl
    (All-push (λ (e : Event). e ≢ Stop) [] Start (All-nil (λ (e : Event). e ≢ Stop)) not_stop)

ended : Took start_fed (Rise false ∷ Stop ∷ []) Free (bare ∷ []) all_fed
ended =
    took_up_to start_fed Begun Free (Rise false ∷ Stop ∷ []) 2 (bare ∷ []) begun.kept refl
    (omega arith) refl (record {
      within = omega arith;
      front = Rise false ∷ [];
      ended = refl;
      no_stop = All-nil (λ (e : Event). e ≢ Stop);
    }) (record {
      each = All-push IsFrame [] bare (All-nil IsFrame) (record {
        some = omega arith;
        bytes =
            All-push (λ (s : List (ℕ × Bool)). All (λ (b : ℕ × Bool). b.0 < 256) s) [] []
            (All-nil (λ (s : List (ℕ × Bool)). All (λ (b : ℕ × Bool). b.0 < 256) s))
            (All-nil (λ (b : ℕ × Bool). b.0 < 256));
        tail = omega arith;
      });
      words = refl;
    })

goes_on : control_after [] Begun ≢ None
goes_on e = cc

pub some_taken : SomeAreTaken
some_taken = (
  none_fed,
  start_fed,
  all_fed,
  Start ∷ [],
  Rise false ∷ Stop ∷ [],
  Stop ∷ [],
  bare,
  1,
  (new_kept [] refl).is,
  begun.taken,
  ended.taken,
  stopped start_fed Begun (Stop ∷ []) 0 begun.kept refl (omega arith) goes_on refl,
)
