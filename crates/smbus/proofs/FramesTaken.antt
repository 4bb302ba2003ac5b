-- The events of frames are taken, and leave the machine with these frames.
use Rattle.std.proofs.Common.{◌≡◌, ℕ, ◌+◌, ◌<◌, ◌≤◌, Bool, true, false, Some, List, [], ◌∷◌, ◌++◌}
use Rattle.std.proofs.Common.{length, All, refl, sym, ap, ◌∙◌, append_assoc, arith}
use Rattle.std.specs.List.{flat_map}
use Rattle.std.proofs.lemmas.List.{append-nil, length_push, map-append}
use Rattle.std.proofs.lemmas.List.Elements.{All-head, All-tail}
use Rattle.wires.specs.declared.event.Event.{Event}
use Rattle.wires.specs.declared.event.Event.TheVariants.{Start, Stop, Rise}
use Rattle.smbus.specs.Shown.{Shown}
use Rattle.smbus.specs.Frames.{byte_bits, segment_bits, rises, segment_words, frame_word, IsFrame}
use Rattle.smbus.specs.Machine.{State, run}
use Rattle.smbus.proofs.Bytes.{length-byte_bits, byte_of-byte_bits}
use Rattle.smbus.proofs.StatesOfEvents.{Segments, state, AreBytes, risen-nine, risen-few}
use Rattle.smbus.proofs.StatesOfEvents.{ends_low-push, all_but_last-push}

abbrev pub closed : List Shown → State
closed frames = state frames false [] [] []

bits_run : (xs : List Bool) (frames : List Shown) (segments : Segments) (bytes : List (ℕ × Bool))
    (q : List Bool) (more : List Event) → length q + length xs ≤ 9
    → run (rises xs ++ more) (state frames true segments bytes q)
    ≡ run more (state frames true segments bytes (q ++ xs))
bits_run [] frames segments bytes q more le =
    ap (λ (l : List Bool). run more (state frames true segments bytes l)) (sym (append-nil q))
bits_run (x ∷ xs) frames segments bytes q more le =
    let lt : length q < 9 = omega arith in
    let l : length (q ++ x ∷ []) ≡ length q + 1 = length_push q x in
    ap (λ (s : State). run (rises xs ++ more) s)
    (risen-few x (state frames true segments bytes q) lt)
    ∙ bits_run xs frames segments bytes (q ++ x ∷ []) more (omega arith)
    ∙ ap (λ (l : List Bool). run more (state frames true segments bytes l))
    (append_assoc q (x ∷ []) xs)

settled : (frames : List Shown) (segments : Segments) (bytes : List (ℕ × Bool)) (b : ℕ × Bool)
    (x : Bool) (more : List Event) → b.0 < 256
    → run (Rise x ∷ more) (state frames true segments bytes (byte_bits b))
    ≡ run (Rise x ∷ more) (state frames true segments (bytes ++ b ∷ []) [])
settled frames segments bytes b x more lt =
    ap (λ (s : State). run more s)
    (risen-nine x (state frames true segments bytes (byte_bits b)) (length-byte_bits b))
    ∙ ap (λ (c : ℕ × Bool). run more (state frames true segments (bytes ++ c ∷ []) (x ∷ [])))
    (byte_of-byte_bits b lt)
    ∙ ap (λ (s : State). run more s)
    (sym (risen-few x (state frames true segments (bytes ++ b ∷ []) []) (omega arith)))

first_rise : (ys : List Bool) (x : Bool) (more : List Event)
    → (y : Bool) × (rest : List Event) × (rises ys ++ Rise x ∷ more ≡ Rise y ∷ rest)
first_rise [] x more = (x, more, refl)
first_rise (y ∷ ys) x more = (y, rises ys ++ Rise x ∷ more, refl)

bytes_run : (s : List (ℕ × Bool)) (frames : List Shown) (segments : Segments)
    (bytes : List (ℕ × Bool)) (x : Bool) (more : List Event) → AreBytes s
    → run (rises (segment_bits s) ++ Rise x ∷ more) (state frames true segments bytes [])
    ≡ run (Rise x ∷ more) (state frames true segments (bytes ++ s) [])
bytes_run [] frames segments bytes x more are =
    ap (λ (l : List (ℕ × Bool)). run (Rise x ∷ more) (state frames true segments l []))
    (sym (append-nil bytes))
bytes_run (b ∷ s) frames segments bytes x more are =
    let lt = All-head (λ (x : ℕ × Bool). x.0 < 256) b s are in
    let small = All-tail (λ (x : ℕ × Bool). x.0 < 256) b s are in
    let after : List Event = rises (segment_bits s) ++ Rise x ∷ more in
    let e : rises (segment_bits (b ∷ s)) ++ Rise x ∷ more ≡ rises (byte_bits b) ++ after =
    ap (λ (l : List Event). l ++ Rise x ∷ more) (map-append Rise (byte_bits b) (segment_bits s))
    ∙ append_assoc (rises (byte_bits b)) (rises (segment_bits s)) (Rise x ∷ more) in
    let n = length-byte_bits b in
    let f = first_rise (segment_bits s) x more in
    ap (λ (l : List Event). run l (state frames true segments bytes [])) e
    ∙ bits_run (byte_bits b) frames segments bytes [] after (omega arith)
    ∙ ap (λ (l : List Event). run l (state frames true segments bytes (byte_bits b))) f.2
    ∙ settled frames segments bytes b f.0 f.1 lt
    ∙ ap (λ (l : List Event). run l (state frames true segments (bytes ++ b ∷ []) [])) (sym f.2)
    ∙ bytes_run s frames segments (bytes ++ b ∷ []) x more small
    ∙ ap (λ (l : List (ℕ × Bool)). run (Rise x ∷ more) (state frames true segments l []))
    (append_assoc bytes (b ∷ []) s)

-- what follows the last whole byte of a frame, and the next frames
abbrev pub ending : List Bool → List Event → List Event
ending tail more = rises (tail ++ false ∷ []) ++ Stop ∷ more

ending_rise : (tail : List Bool) (more : List Event)
    → (y : Bool) × (rest : List Event) × (ending tail more ≡ Rise y ∷ rest)
ending_rise [] more = (false, Stop ∷ more, refl)
ending_rise (b ∷ tail) more = (b, ending tail more, refl)

pub stop_run : (frames : List Shown) (segments : Segments) (bytes : List (ℕ × Bool))
    (tail : List Bool)
    (more : List Event)
    → run (Stop ∷ more) (state frames true segments bytes (tail ++ false ∷ []))
    ≡ run more (closed (frames ++ record { segments = segments ++ bytes ∷ []; tail = tail } ∷ []))
stop_run frames segments bytes tail more =
    rw (ends_low-push tail false, all_but_last-push tail false) refl

segments_run : (s : List (ℕ × Bool)) (later : Segments) (frames : List Shown) (segments : Segments)
    (tail : List Bool) (more : List Event) → All AreBytes (s ∷ later) → length tail ≤ 8
    → run (segment_words (s ∷ later) ++ ending tail more) (state frames true segments [] [])
    ≡ run more (closed (frames ++ record { segments = segments ++ s ∷ later; tail = tail } ∷ []))
segments_run s [] frames segments tail more are few =
    let f = ending_rise tail more in
    let l : length (tail ++ false ∷ []) ≡ length tail + 1 = length_push tail false in
    ap (λ (l : List Event). run (rises (segment_bits s) ++ l) (state frames true segments [] []))
    f.2
    ∙ bytes_run s frames segments [] f.0 f.1 (All-head AreBytes s [] are)
    ∙ ap (λ (l : List Event). run l (state frames true segments s [])) (sym f.2)
    ∙ bits_run (tail ++ false ∷ []) frames segments s [] (Stop ∷ more) (omega arith)
    ∙ stop_run frames segments s tail more
segments_run s (t ∷ later) frames segments tail more are few =
    let after : List Event = segment_words (t ∷ later) ++ ending tail more in
    ap (λ (l : List Event). run l (state frames true segments [] [])) (append_assoc
    (rises (segment_bits s)) (Rise true ∷ Start ∷ segment_words (t ∷ later)) (ending tail more))
    ∙ bytes_run s frames segments [] true (Start ∷ after) (All-head AreBytes s (t ∷ later) are)
    ∙ segments_run t later frames (segments ++ s ∷ []) tail more
    (All-tail AreBytes s (t ∷ later) are) few
    ∙ ap (λ (l : Segments). run more (closed (frames ++ record { segments = l; tail = tail } ∷ [])))
    (append_assoc segments (s ∷ []) (t ∷ later))

frame_run : (segments : Segments) (tail : List Bool) (frames : List Shown) (more : List Event)
    → IsFrame (record { segments = segments; tail = tail })
    → run (frame_word (record { segments = segments; tail = tail }) ++ more) (closed frames)
    ≡ run more (closed (frames ++ record { segments = segments; tail = tail } ∷ []))
frame_run [] tail frames more is = absurd (let some : 0 < 0 = is.some in omega arith)
frame_run (s ∷ later) tail frames more is =
    let w : List Event = segment_words (s ∷ later) in
    let e : ((w ++ rises tail) ++ Rise false ∷ Stop ∷ []) ++ more ≡ w ++ ending tail more =
    append_assoc (w ++ rises tail) (Rise false ∷ Stop ∷ []) more
    ∙ append_assoc w (rises tail) (Rise false ∷ Stop ∷ more)
    ∙ ap (λ (l : List Event). w ++ l)
    (sym (append_assoc (rises tail) (Rise false ∷ []) (Stop ∷ more))
    ∙ ap (λ (l : List Event). l ++ Stop ∷ more) (sym (map-append Rise tail (false ∷ [])))) in
    ap (λ (l : List Event). run l (state frames true [] [] [])) e
    ∙ segments_run s later frames [] tail more is.bytes is.tail

pub frames_run : (gs : List Shown) (frames : List Shown) → All IsFrame gs
    → run (flat_map frame_word gs) (closed frames) ≡ Some (closed (frames ++ gs))
frames_run [] frames are = ap (λ (l : List Shown). Some (closed l)) (sym (append-nil frames))
frames_run (g ∷ gs) frames are =
    frame_run g.segments g.tail frames (flat_map frame_word gs) (All-head IsFrame g gs are)
    ∙ frames_run gs (frames ++ g ∷ []) (All-tail IsFrame g gs are)
    ∙ ap (λ (l : List Shown). Some (closed l)) (append_assoc frames (g ∷ []) gs)
