-- What an observer keeps between pieces, and gives of them, is what reading them joined gives.
use Rattle.std.proofs.Common.{◌≡◌, ◌≢◌, ℕ, ◌+◌, ◌-◌, ◌<◌, ◌≤◌, Bool, true, false, Option, Some}
use Rattle.std.proofs.Common.{None, List, [], ◌∷◌, ◌++◌, length, take, drop, get_or, All, refl, sym}
use Rattle.std.proofs.Common.{ap, subst, ◌∙◌, append_assoc, arith}
use Rattle.std.specs.Prelude.{MatchBool, MatchOption}
use Rattle.std.specs.List.{flat_map}
use Rattle.std.proofs.Math.Seq.{take-append-add}
use Rattle.std.proofs.lemmas.List.{length-append, length-drop, length-take-le, length_push}
use Rattle.std.proofs.lemmas.List.{drop-append-le, drop_all, take-append-drop, take-append-le}
use Rattle.std.proofs.lemmas.List.{take_all, take_more}
use Rattle.std.proofs.lemmas.List.Elements.{All-append, All-nil, All-push}
use Rattle.wires.specs.declared.event.Event.{Event}
use Rattle.wires.specs.declared.event.Event.TheVariants.{Stop}
use Rattle.smbus.specs.Shown.{Shown}
use Rattle.smbus.specs.Frames.{AreFrames, Begins, IsFrame, frame_word}
use Rattle.smbus.specs.Machine.{State, start, run, then_run}
use Rattle.smbus.specs.Control.{control_step, control_after, then_control, IsBehindStop}
use Rattle.smbus.specs.Observers.{FeedFault, IsObserving, IsStopped, IsTaken, Observing}
use Rattle.smbus.specs.Observers.{most_events}
use Rattle.smbus.specs.declared.fault.ObserveFault.TheVariants.{Memory}
use Rattle.smbus.specs.Kept.{IsKept}
use Rattle.smbus.specs.declared.control.Control.{Control}
use Rattle.smbus.specs.declared.control.Control.TheVariants.{Free, Begun, Bits}
use Rattle.smbus.proofs.StatesOfEvents.{run-append}
use Rattle.smbus.proofs.EventByEvent.{frames_read, begins_less}
use Rattle.smbus.proofs.Controlled.{control_of, control_of_open, control-append, read_controlled}
use Rattle.smbus.proofs.Controlled.{begins_controlled, none_controlled}

-- two parts that are read one after the other

closed_free : (is_open : Bool) (bits : List Bool) → control_of_open is_open bits ≡ Free
    → is_open ≡ false
closed_free false bits e = refl
closed_free true [] e = cc
closed_free true (b ∷ bits) e = cc

pub same_state : (s t : State) (o : Option State) → o ≡ Some s → o ≡ Some t → s ≡ t
same_state s t o e f = cc

no_state : (s : State) (o : Option State) → o ≡ Some s → o ≡ None → ⊥
no_state s o e f = cc

read_parts : (first later : List Event) (s t : State) (a b : Bool) (end : State)
    → run (first ++ later) start ≡ Some end
    → MatchBool a (run first start ≡ Some s) (run first start ≡ None)
    → MatchBool b (run later s ≡ Some t) (run later s ≡ None)
    → run (first ++ later) start ≡ Some t
read_parts first later s t true true end e f g =
    run-append first later start ∙ ap (then_run (run later)) f ∙ g
read_parts first later s t true false end e f g =
    absurd (no_state end (run (first ++ later) start) e
    (run-append first later start ∙ ap (then_run (run later)) f ∙ g))
read_parts first later s t false b end e f g =
    absurd (no_state end (run (first ++ later) start) e
    (run-append first later start ∙ ap (then_run (run later)) f))

pub frames_of_parts : (first later : List Event) (s t u : State) (a b : Bool)
    → control_after (first ++ later) Free ≡ Some Free → s ≡ start
    → MatchBool a (run first s ≡ Some t) (run first s ≡ None)
    → MatchBool b (run later t ≡ Some u) (run later t ≡ None)
    → AreFrames (first ++ later) u.frames
frames_of_parts first later s t u a b whole begun f g =
    let r = read_controlled (first ++ later) Free whole in
    let f' =
    subst (λ (x : State). MatchBool a (run first x ≡ Some t) (run first x ≡ None)) begun f in
    let e = read_parts first later t u a b r.0 r.1 f' g in
    let same : u ≡ r.0 = same_state u r.0 (run (first ++ later) start) e r.1 in
    let free : control_of u ≡ Free = ap control_of same ∙ r.2 in
    frames_read (first ++ later) u e (closed_free u.is_open u.bits free)

-- what an observer of no events keeps

pub new_kept : (rest : List Event) → rest ≡ []
    → IsKept (record { fed = 0; failed = None; rest = rest }) Free
new_kept rest e = rw e (record {
  is = record {
    no_stop = All-nil (λ (x : Event). x ≢ Stop);
    begins = begins_controlled [] Free refl;
    short = omega arith;
    few = omega arith;
  };
  control = refl;
})

-- the place behind the last STOP

abbrev pub LastStop : List Event → Option ℕ → Type 0
LastStop events o = MatchOption o (All (λ e. e ≢ Stop) events) (IsBehindStop events)

stop_pushed : (es : List Event) → IsBehindStop (es ++ Stop ∷ []) (length es + 1)
stop_pushed es =
    let l : length (es ++ Stop ∷ []) ≡ length es + 1 = length_push es Stop in
    record {
      within = omega arith;
      front = es;
      ended = take_all (length es + 1) (es ++ Stop ∷ []) (omega arith);
      no_stop =
          subst (λ (later : List Event). All (λ e. e ≢ Stop) later)
          (sym (drop_all (length es + 1) (es ++ Stop ∷ []) (omega arith)))
          (All-nil (λ (x : Event). x ≢ Stop));
    }

other_pushed : (es : List Event) (x : Event) → x ≢ Stop → (o : Option ℕ) → LastStop es o
    → LastStop (es ++ x ∷ []) o
other_pushed es x other None all = All-push (λ (e : Event). e ≢ Stop) es x all other
other_pushed es x other (Some n) is =
    let l : length (es ++ x ∷ []) ≡ length es + 1 = length_push es x in
    let le : n ≤ length es = is.within in
    record {
      within = omega arith;
      front = is.front;
      ended = take-append-le n es (x ∷ []) le ∙ is.ended;
      no_stop =
          subst (λ (later : List Event). All (λ e. e ≢ Stop) later)
          (sym (drop-append-le n es (x ∷ []) le))
          (All-push (λ (e : Event). e ≢ Stop) (drop n es) x is.no_stop other);
    }

pub stop_here : (es : List Event) (place : ℕ) (d : Event) → place < length es
    → get_or es place d ≡ Stop → (o : Option ℕ) → o ≡ Some (place + 1)
    → LastStop (take (place + 1) es) o
stop_here es place d lt stop o is =
    let l : length (take place es) ≡ place = length-take-le place es (omega arith) in
    subst (λ (p : Option ℕ). LastStop (take (place + 1) es) p) (sym is)
    (subst (λ (l : List Event). IsBehindStop l (place + 1))
    (sym (take_more es place d lt ∙ ap (λ (x : Event). take place es ++ x ∷ []) stop))
    (subst (λ (n : ℕ). IsBehindStop (take place es ++ Stop ∷ []) (n + 1)) l
    (stop_pushed (take place es))))

pub no_stop_here : (es : List Event) (place : ℕ) (d : Event) → place < length es
    → get_or es place d ≢ Stop → (old o : Option ℕ) → o ≡ old → LastStop (take place es) old
    → LastStop (take (place + 1) es) o
no_stop_here es place d lt other old o is so_far =
    subst (λ (p : Option ℕ). LastStop (take (place + 1) es) p) (sym is)
    (subst (λ (l : List Event). LastStop l old) (sym (take_more es place d lt))
    (other_pushed (take place es) (get_or es place d) other old so_far))

-- what control says of a piece that is cut behind its last STOP

ends_free-step : (c d : Control) → then_control (control_after []) (control_step c Stop) ≡ Some d
    → d ≡ Free
ends_free-step Free d e = cc
ends_free-step Begun d e = cc
ends_free-step (Bits n true) d e = cc
ends_free-step (Bits n false) d e = cc

ends_free-then : (o : Option Control) (d : Control)
    → then_control (control_after (Stop ∷ [])) o ≡ Some d → d ≡ Free
ends_free-then None d e = cc
ends_free-then (Some c) d e = ends_free-step c d e

ends_free : (front : List Event) (c d : Control) → control_after (front ++ Stop ∷ []) c ≡ Some d
    → d ≡ Free
ends_free front c d e =
    ends_free-then (control_after front c) d (sym (control-append front (Stop ∷ []) c) ∙ e)

pub then_some : (f : Control → Option Control) (o : Option Control) (d : Control)
    → then_control f o ≡ Some d → (c : Control) × (o ≡ Some c) × (f c ≡ Some d)
then_some f None d e = cc
then_some f (Some c) d e = (c, refl, e)

pub cut_controls : (piece : List Event) (n : ℕ) (c d : Control) → IsBehindStop piece n
    → control_after piece c ≡ Some d
    → (control_after (take n piece) c ≡ Some Free) × (control_after (drop n piece) Free ≡ Some d)
cut_controls piece n c d is e =
    let joined : control_after (take n piece ++ drop n piece) c ≡ Some d =
    ap (λ (l : List Event). control_after l c) (take-append-drop n piece) ∙ e in
    let t = then_some (control_after (drop n piece)) (control_after (take n piece) c) d
    (sym (control-append (take n piece) (drop n piece) c) ∙ joined) in
    let free : t.0 ≡ Free = ends_free is.front c t.0
    (ap (λ (l : List Event). control_after l c) (sym is.ended) ∙ t.1) in (
      t.1 ∙ ap Some free,
      subst (λ (x : Control). control_after (drop n piece) x ≡ Some d) free t.2,
    )

pub control_on : (rest part : List Event) (c : Control) (o : Option Control)
    → control_after rest Free ≡ Some c → control_after part c ≡ o
    → control_after (rest ++ part) Free ≡ o
control_on rest part c o e f =
    control-append rest part Free ∙ ap (then_control (control_after part)) e ∙ f

-- a piece that doesn't go on

some_of : (o : Option Control) → o ≢ None → (c : Control) × (o ≡ Some c)
some_of None is = absurd (is refl)
some_of (Some c) is = (c, refl)

pub stopped : (o : Observing) (c : Control) (piece : List Event) (within : ℕ) → IsKept o c
    → o.failed ≡ None → within < length piece → control_after (take within piece) c ≢ None
    → control_after (take (within + 1) piece) c ≡ None → IsStopped o piece (o.fed + within)
stopped o c piece within kept none lt so_far here =
    let before = some_of (control_after (take within piece) c) so_far in
    let all : length (o.rest ++ piece) ≡ length o.rest + length piece =
    length-append o.rest piece in
    let short : length o.rest ≤ o.fed = kept.is.short in
    let sum : length o.rest + within + 1 ≡ length o.rest + (within + 1) = omega arith in
    let begun : Begins (take (length o.rest + within) (o.rest ++ piece)) =
    subst Begins (sym (take-append-add o.rest piece within))
    (begins_controlled (o.rest ++ take within piece) before.0
    (control_on o.rest (take within piece) c (Some before.0) kept.control before.1)) in
    let up_to : take (length o.rest + within + 1) (o.rest ++ piece)
    ≡ o.rest ++ take (within + 1) piece =
    ap (λ (n : ℕ). take n (o.rest ++ piece)) sum ∙ take-append-add o.rest piece (within + 1) in
    record {
      none_before = none;
      at = length o.rest + within;
      stops = record {
        within = omega arith;
        least = λ n below.
            begins_less (o.rest ++ piece) (n + 1) (length o.rest + within) (omega arith) begun;
        here = λ begins.
            none_controlled (o.rest ++ take (within + 1) piece)
            (control_on o.rest (take (within + 1) piece) c None kept.control here)
            (subst Begins up_to begins);
      };
      counted = omega arith;
    }

-- a piece that goes on

pub record Took (o : Observing) (piece : List Event) (d : Control) (frames : List Shown)
    (new : Observing) : Type 0 where
  pub kept : IsKept new d
  pub taken : IsTaken o piece frames new

took : (o : Observing) (c d : Control) (piece : List Event) (frames : List Shown)
    (rest : List Event) → IsKept o c → o.failed ≡ None → o.fed + length piece ≤ most_events
    → control_after piece c ≡ Some d → All IsFrame frames
    → o.rest ++ piece ≡ flat_map frame_word frames ++ rest → All (λ e. e ≢ Stop) rest
    → length rest ≤ o.fed + length piece → control_after rest Free ≡ Some d
    → Took o piece d frames
    (record { fed = o.fed + length piece; failed = None; rest = rest })
took o c d piece frames rest kept none few over each words no_stop short control =
    let is : IsObserving (record { fed = o.fed + length piece; failed = None; rest = rest }) =
    record {
      no_stop = no_stop;
      begins = begins_controlled rest d control;
      short = short;
      few = few;
    } in
    record {
      kept = record { is = is; control = control };
      taken = record {
        none_before = none;
        each = each;
        words = words;
        begins =
            begins_controlled (o.rest ++ piece) d
            (control_on o.rest piece c (Some d) kept.control over);
        fed = refl;
        none = refl;
        kept = is;
      };
    }

pub took_all : (o : Observing) (c d : Control) (piece : List Event) → IsKept o c
    → o.failed ≡ None → o.fed + length piece ≤ most_events → control_after piece c ≡ Some d
    → All (λ e. e ≢ Stop) piece
    → Took o piece d []
    (record { fed = o.fed + length piece; failed = None; rest = o.rest ++ piece })
took_all o c d piece kept none few over no_stop =
    let all : length (o.rest ++ piece) ≡ length o.rest + length piece =
    length-append o.rest piece in
    let short : length o.rest ≤ o.fed = kept.is.short in
    took o c d piece [] (o.rest ++ piece) kept none few over (All-nil IsFrame) refl
    (All-append (λ (e : Event). e ≢ Stop) o.rest piece kept.is.no_stop no_stop) (omega arith)
    (control_on o.rest piece c (Some d) kept.control over)

pub took_up_to : (o : Observing) (c d : Control) (piece : List Event) (n : ℕ) (frames : List Shown)
    → IsKept o c → o.failed ≡ None → o.fed + length piece ≤ most_events
    → control_after piece c ≡ Some d → IsBehindStop piece n
    → AreFrames (o.rest ++ take n piece) frames
    → Took o piece d frames
    (record { fed = o.fed + length piece; failed = None; rest = drop n piece })
took_up_to o c d piece n frames kept none few over behind are =
    let shorter : length (drop n piece) ≡ length piece - n = length-drop n piece in
    took o c d piece frames (drop n piece) kept none few over are.each
    (ap (λ (l : List Event). o.rest ++ l) (sym (take-append-drop n piece))
    ∙ sym (append_assoc o.rest (take n piece) (drop n piece))
    ∙ ap (λ (l : List Event). l ++ drop n piece) are.words)
    behind.no_stop (omega arith) (cut_controls piece n c d behind over).1

-- where memory is refused

pub refused : (o : Observing) (c d : Control) (piece : List Event) → IsKept o c
    → o.failed ≡ None → control_after piece c ≡ Some d → FeedFault o piece o Memory
refused o c d piece kept none over = (
  refl,
  none,
  begins_controlled (o.rest ++ piece) d
      (control_on o.rest piece c (Some d) kept.control over),
)
