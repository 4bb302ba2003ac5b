-- A state of the machine that reads frames stands for the events that led to it, and a step adds
-- its own.
use Rattle.std.proofs.Common.{◌≡◌, ℕ, ◌+◌, ◌<◌, ◌≤◌, ◌==◌, inl, inr, Bool, true, false, not, Option}
use Rattle.std.proofs.Common.{Some, None, List, [], ◌∷◌, ◌++◌, length, All, refl, sym, ap, subst}
use Rattle.std.proofs.Common.{◌∙◌, append_assoc, arith}
use Rattle.std.specs.List.{flat_map}
use Rattle.std.proofs.lemmas.Bool.{cases_Bool, eqb-true, eq-eqb, ne_eqb, eqb-false}
use Rattle.std.proofs.lemmas.List.{append-nil, length_push, map-append}
use Rattle.std.proofs.lemmas.List.Elements.{All-push, All-nil}
use Rattle.wires.specs.declared.event.Event.{Event}
use Rattle.wires.specs.declared.event.Event.TheVariants.{Start, Stop, Rise}
use Rattle.smbus.specs.Shown.{Shown}
use Rattle.smbus.specs.Frames.{byte_bits, segment_bits, rises, segment_words, frame_word, IsFrame}
use Rattle.smbus.specs.Machine.{byte_of, State, risen, is_again, ends_low, all_but_last, step}
use Rattle.smbus.specs.Machine.{then_run, run}
use Rattle.smbus.proofs.Bytes.{byte_bits-byte_of, byte_of-lt}

abbrev pub Segments : Type 0
Segments = List (List (ℕ × Bool))

abbrev pub state : List Shown → Bool → Segments → List (ℕ × Bool) → List Bool → State
state frames is_open segments bytes bits =
    record { frames = frames; is_open = is_open; segments = segments; bytes = bytes; bits = bits }

then_run-append : (a b : List Event) → ((s : State) → run (a ++ b) s ≡ then_run (run b) (run a s))
    → (o : Option State) → then_run (run (a ++ b)) o ≡ then_run (run b) (then_run (run a) o)
then_run-append a b h None = refl
then_run-append a b h (Some t) = h t

pub run-append : (a b : List Event) (s : State) → run (a ++ b) s ≡ then_run (run b) (run a s)
run-append [] b s = refl
run-append (e ∷ a) b s = then_run-append a b (run-append a b) (step s e)

-- the events that led to a state

abbrev pub before_words : Segments → List Event
before_words [] = []
before_words (s ∷ segments) = rises (segment_bits s) ++ Rise true ∷ Start ∷ before_words segments

abbrev pub open_word : Bool → Segments → List (ℕ × Bool) → List Bool → List Event
open_word true segments bytes bits =
    Start ∷ before_words segments ++ rises (segment_bits bytes) ++ rises bits
open_word false segments bytes bits = []

abbrev pub word : State → List Event
word s = flat_map frame_word s.frames ++ open_word s.is_open s.segments s.bytes s.bits

abbrev pub AreBytes : List (ℕ × Bool) → Type 0
AreBytes bytes = All (λ (b : ℕ × Bool). b.0 < 256) bytes

pub record Sound (s : State) : Type 0 where
  pub each : All IsFrame s.frames
  pub segments : All AreBytes s.segments
  pub bytes : AreBytes s.bytes
  pub few : length s.bits ≤ 9
  pub closed : s.is_open ≡ false → (s.segments ≡ []) × (s.bytes ≡ []) × (s.bits ≡ [])

flat_map-push : {X Y : Type 0} (f : X → List Y) (xs : List X) (x : X)
    → flat_map f (xs ++ x ∷ []) ≡ flat_map f xs ++ f x
flat_map-push f [] x = append-nil (f x)
flat_map-push f (y ∷ xs) x =
    ap (λ l. f y ++ l) (flat_map-push f xs x) ∙ sym (append_assoc (f y) (flat_map f xs) (f x))

before_words-push : (segments : Segments) (s : List (ℕ × Bool))
    → before_words (segments ++ s ∷ [])
    ≡ before_words segments ++ rises (segment_bits s) ++ Rise true ∷ Start ∷ []
before_words-push [] s = refl
before_words-push (t ∷ segments) s =
    let r = rises (segment_bits t) in
    ap (λ (l : List Event). r ++ Rise true ∷ Start ∷ l) (before_words-push segments s)
    ∙ sym (append_assoc r (Rise true ∷ Start ∷ (before_words segments ++ rises (segment_bits s)))
    (Rise true ∷ Start ∷ []))
    ∙ ap (λ (l : List Event). l ++ Rise true ∷ Start ∷ [])
    (sym (append_assoc r (Rise true ∷ Start ∷ before_words segments) (rises (segment_bits s))))

segment_words-push : (segments : Segments) (s : List (ℕ × Bool))
    → segment_words (segments ++ s ∷ []) ≡ before_words segments ++ rises (segment_bits s)
segment_words-push [] s = refl
segment_words-push (t ∷ []) s =
    sym (append_assoc (rises (segment_bits t)) (Rise true ∷ Start ∷ []) (rises (segment_bits s)))
segment_words-push (t ∷ u ∷ segments) s =
    ap (λ (l : List Event). rises (segment_bits t) ++ Rise true ∷ Start ∷ l)
    (segment_words-push (u ∷ segments) s)
    ∙ sym (append_assoc (rises (segment_bits t)) (Rise true ∷ Start ∷ before_words (u ∷ segments))
    (rises (segment_bits s)))

-- one event more at the end
in_front : (f x y : List Event) (e : Event) → y ≡ x ++ e ∷ []
    → f ++ (Start ∷ y) ≡ (f ++ (Start ∷ x)) ++ e ∷ []
in_front f x y e eq =
    ap (λ (l : List Event). f ++ (Start ∷ l)) eq ∙ sym (append_assoc f (Start ∷ x) (e ∷ []))

again-is : (bits : List Bool) → is_again bits ≡ true → bits ≡ true ∷ []
again-is [] e = cc
again-is (b ∷ []) e = ap (λ (x : Bool). x ∷ []) e
again-is (b ∷ c ∷ bits) e = cc

not-true-is : (b : Bool) → not b ≡ true → b ≡ false
not-true-is true e = cc
not-true-is false e = refl

ends_low-is : (bits : List Bool) → ends_low bits ≡ true → bits ≡ all_but_last bits ++ false ∷ []
ends_low-is [] e = cc
ends_low-is (b ∷ []) e = ap (λ (x : Bool). x ∷ []) (not-true-is b e)
ends_low-is (b ∷ c ∷ bits) e = ap (λ (l : List Bool). b ∷ l) (ends_low-is (c ∷ bits) e)

pub ends_low-push : (bits : List Bool) (b : Bool) → ends_low (bits ++ b ∷ []) ≡ not b
ends_low-push [] b = refl
ends_low-push (c ∷ []) b = refl
ends_low-push (c ∷ d ∷ bits) b = ends_low-push (d ∷ bits) b

pub all_but_last-push : (bits : List Bool) (b : Bool) → all_but_last (bits ++ b ∷ []) ≡ bits
all_but_last-push [] b = refl
all_but_last-push (c ∷ []) b = refl
all_but_last-push (c ∷ d ∷ bits) b = ap (λ (l : List Bool). c ∷ l) (all_but_last-push (d ∷ bits) b)

-- a step keeps this

abbrev Keeps : State → Event → State → Type 0
Keeps s e t = Sound t × (word t ≡ word s ++ e ∷ [])

keeps_along : (s : State) (e : Event) (t u : State) → Keeps s e t → t ≡ u → Keeps s e u
keeps_along s e t u k eq = subst (λ (x : State). Keeps s e x) eq k

nine_keeps : (frames : List Shown) (segments : Segments) (bytes : List (ℕ × Bool))
    (bits : List Bool) (b : Bool) → Sound (state frames true segments bytes bits) → length bits ≡ 9
    → Keeps (state frames true segments bytes bits) (Rise b)
    (state frames true segments (bytes ++ byte_of bits ∷ []) (b ∷ []))
nine_keeps frames segments bytes bits b h nine =
    let w : rises (segment_bits (bytes ++ byte_of bits ∷ []))
    ≡ rises (segment_bits bytes) ++ rises bits =
    ap rises (flat_map-push byte_bits bytes (byte_of bits)
    ∙ ap (λ (l : List Bool). segment_bits bytes ++ l) (byte_bits-byte_of bits nine))
    ∙ map-append Rise (segment_bits bytes) bits in (
      record {
        each = h.each;
        segments = h.segments;
        bytes =
            All-push (λ (x : ℕ × Bool). x.0 < 256) bytes (byte_of bits) h.bytes
            (byte_of-lt bits nine);
        few = omega arith;
        closed = λ (e : true ≡ false). cc;
      },
      in_front (flat_map frame_word frames)
          (before_words segments ++ rises (segment_bits bytes) ++ rises bits) _ (Rise b)
          (ap (λ (l : List Event). before_words segments ++ l ++ Rise b ∷ []) w
          ∙ ap (λ (l : List Event). l ++ Rise b ∷ [])
          (sym (append_assoc (before_words segments) (rises (segment_bits bytes)) (rises bits)))),
    )

few_keeps : (frames : List Shown) (segments : Segments) (bytes : List (ℕ × Bool)) (bits : List Bool)
    (b : Bool) → Sound (state frames true segments bytes bits) → length bits < 9
    → Keeps (state frames true segments bytes bits) (Rise b)
    (state frames true segments bytes (bits ++ b ∷ []))
few_keeps frames segments bytes bits b h few =
    let l : length (bits ++ b ∷ []) ≡ length bits + 1 = length_push bits b in (
      record {
        each = h.each;
        segments = h.segments;
        bytes = h.bytes;
        few = omega arith;
        closed = λ (e : true ≡ false). cc;
      },
      in_front (flat_map frame_word frames)
          (before_words segments ++ rises (segment_bits bytes) ++ rises bits) _ (Rise b)
          (ap (λ (l : List Event). before_words segments ++ rises (segment_bits bytes) ++ l)
          (map-append Rise bits (b ∷ []))
          ∙ sym (append_assoc (before_words segments ++ rises (segment_bits bytes)) (rises bits)
          (Rise b ∷ []))),
    )

pub risen-nine : (b : Bool) (s : State) → length s.bits ≡ 9
    → risen b s ≡ state s.frames s.is_open s.segments (s.bytes ++ byte_of s.bits ∷ []) (b ∷ [])
risen-nine b s e = let t : (length s.bits == 9) ≡ true = eq-eqb _ _ e in rw t refl

pub risen-few : (b : Bool) (s : State) → length s.bits < 9
    → risen b s ≡ state s.frames s.is_open s.segments s.bytes (s.bits ++ b ∷ [])
risen-few b s lt =
    let ne : length s.bits ≡ 9 → ⊥ = λ e. omega arith in
    let t : (length s.bits == 9) ≡ false = ne_eqb _ _ ne in
    rw t refl

rise_keeps : (frames : List Shown) (segments : Segments) (bytes : List (ℕ × Bool))
    (bits : List Bool) (b : Bool) → Sound (state frames true segments bytes bits)
    → Keeps (state frames true segments bytes bits) (Rise b)
    (risen b (state frames true segments bytes bits))
rise_keeps frames segments bytes bits b h =
    let few : length bits ≤ 9 = h.few in
    elim (cases_Bool (length bits == 9)) [
      | inl t ↦ let n : length bits ≡ 9 = eqb-true _ _ t in
          keeps_along (state frames true segments bytes bits) (Rise b) _ _
          (nine_keeps frames segments bytes bits b h n)
          (sym (risen-nine b (state frames true segments bytes bits) n))
      | inr f ↦
          let ne : length bits ≡ 9 → ⊥ = eqb-false _ _ f in
          let lt : length bits < 9 = omega arith in
          keeps_along (state frames true segments bytes bits) (Rise b) _ _
          (few_keeps frames segments bytes bits b h lt)
          (sym (risen-few b (state frames true segments bytes bits) lt))
    ]

again_keeps : (frames : List Shown) (segments : Segments) (bytes : List (ℕ × Bool))
    (bits : List Bool) → Sound (state frames true segments bytes bits) → is_again bits ≡ true
    → Keeps (state frames true segments bytes bits) Start
    (state frames true (segments ++ bytes ∷ []) [] [])
again_keeps frames segments bytes bits h e =
    let a = before_words segments ++ rises (segment_bits bytes) in (
      record {
        each = h.each;
        segments = All-push AreBytes segments bytes h.segments h.bytes;
        bytes = All-nil (λ (x : ℕ × Bool). x.0 < 256);
        few = omega arith;
        closed = λ (e : true ≡ false). cc;
      },
      in_front (flat_map frame_word frames)
          (before_words segments ++ rises (segment_bits bytes) ++ rises bits) _ Start
          (append-nil (before_words (segments ++ bytes ∷ []) ++ [])
          ∙ append-nil (before_words (segments ++ bytes ∷ []))
          ∙ before_words-push segments bytes
          ∙ sym (append_assoc a (Rise true ∷ []) (Start ∷ []))
          ∙ ap (λ (l : List Bool). a ++ rises l ++ Start ∷ []) (sym (again-is bits e))),
    )

stop_keeps : (frames : List Shown) (segments : Segments) (bytes : List (ℕ × Bool))
    (bits : List Bool) → Sound (state frames true segments bytes bits) → ends_low bits ≡ true
    → Keeps (state frames true segments bytes bits) Stop (state (frames ++ record {
      segments = segments ++ bytes ∷ [];
      tail = all_but_last bits;
    } ∷ []) false [] [] [])
stop_keeps frames segments bytes bits h e =
    let b = ends_low-is bits e in
    let tail : List Bool = all_but_last bits in
    let a : List Event = before_words segments ++ rises (segment_bits bytes) in
    let f : Shown = record { segments = segments ++ bytes ∷ []; tail = tail } in
    let few : length bits ≤ 9 = h.few in
    let l : length bits ≡ length tail + 1 = ap length b ∙ length_push tail false in
    let s : length (segments ++ bytes ∷ []) ≡ length segments + 1 = length_push segments bytes in
    let is : IsFrame f = record {
      some = omega arith;
      bytes = All-push AreBytes segments bytes h.segments h.bytes;
      tail = omega arith;
    } in
    let r : rises bits ≡ rises tail ++ Rise false ∷ [] =
    ap rises b ∙ map-append Rise tail (false ∷ []) in (
      record {
        each = All-push IsFrame frames f h.each is;
        segments = All-nil AreBytes;
        bytes = All-nil (λ (x : ℕ × Bool). x.0 < 256);
        few = omega arith;
        closed = λ _. (refl, refl, refl);
      },
      append-nil (flat_map frame_word (frames ++ f ∷ []))
          ∙ flat_map-push frame_word frames f
          ∙ in_front (flat_map frame_word frames) (a ++ rises bits)
          (segment_words (segments ++ bytes ∷ []) ++ rises tail ++ Rise false ∷ Stop ∷ []) Stop
          (ap (λ (l : List Event). l ++ rises tail ++ Rise false ∷ Stop ∷ [])
          (segment_words-push segments bytes)
          ∙ sym (append_assoc (a ++ rises tail) (Rise false ∷ []) (Stop ∷ []))
          ∙ ap (λ (l : List Event). l ++ Stop ∷ []) (append_assoc a (rises tail) (Rise false ∷ []))
          ∙ ap (λ (l : List Event). a ++ l ++ Stop ∷ []) (sym r)),
    )

start_keeps : (frames : List Shown) (segments : Segments) (bytes : List (ℕ × Bool))
    (bits : List Bool) → Sound (state frames false segments bytes bits)
    → Keeps (state frames false segments bytes bits) Start (state frames true segments bytes bits)
start_keeps frames segments bytes bits h =
    let c = h.closed refl in (
      record {
        each = h.each;
        segments = h.segments;
        bytes = h.bytes;
        few = h.few;
        closed = λ (e : true ≡ false). cc;
      },
      rw (c.0, c.1, c.2) (ap (λ (l : List Event). l ++ Start ∷ [])
          (sym (append-nil (flat_map frame_word frames)))),
    )

pub some_same : (s t : State) (o : Option State) → o ≡ Some s → o ≡ Some t → s ≡ t
some_same s t o e f = cc

pub none_some : (t : State) (o : Option State) → o ≡ None → o ≡ Some t → ⊥
none_some t o e f = cc

by_open : (frames : List Shown) (is_open : Bool) (segments : Segments) (bytes : List (ℕ × Bool))
    (bits : List Bool) (e : Event) (t : State)
    → Sound (state frames is_open segments bytes bits)
    → step (state frames is_open segments bytes bits) e ≡ Some t
    → Keeps (state frames is_open segments bytes bits) e t
by_open frames true segments bytes bits (Rise b) t h e =
    keeps_along (state frames true segments bytes bits) (Rise b) _ _
    (rise_keeps frames segments bytes bits b h) (some_same _ t _ refl e)
by_open frames false segments bytes bits (Rise b) t h e = absurd (none_some t _ refl e)
by_open frames true segments bytes bits Start t h e = elim (cases_Bool (is_again bits)) [
  | inl a ↦
      keeps_along (state frames true segments bytes bits) Start _ _
      (again_keeps frames segments bytes bits h a) (some_same _ t _ (rw a refl) e)
  | inr f ↦ absurd (none_some t _ (rw f refl) e)
]
by_open frames false segments bytes bits Start t h e =
    keeps_along (state frames false segments bytes bits) Start _ _
    (start_keeps frames segments bytes bits h) (some_same _ t _ refl e)
by_open frames true segments bytes bits Stop t h e = elim (cases_Bool (ends_low bits)) [
  | inl a ↦
      keeps_along (state frames true segments bytes bits) Stop _ _
      (stop_keeps frames segments bytes bits h a) (some_same _ t _ (rw a refl) e)
  | inr f ↦ absurd (none_some t _ (rw f refl) e)
]
by_open frames false segments bytes bits Stop t h e = absurd (none_some t _ refl e)

pub step_keeps : (s t : State) (e : Event) → Sound s → step s e ≡ Some t → Keeps s e t
step_keeps s t e h eq = by_open s.frames s.is_open s.segments s.bytes s.bits e t h eq

first_step : (es : List Event) (t : State) (o : Option State) → then_run (run es) o ≡ Some t
    → (u : State) × (o ≡ Some u) × (run es u ≡ Some t)
first_step es t None e = absurd (none_some t None refl e)
first_step es t (Some u) e = (u, refl, e)

pub run_keeps : (es : List Event) (s t : State) → Sound s → run es s ≡ Some t
    → Sound t × (word t ≡ word s ++ es)
run_keeps [] s t h e =
    let eq : s ≡ t = some_same s t (Some s) refl e in
    (subst Sound eq h, ap word (sym eq) ∙ sym (append-nil (word s)))
run_keeps (x ∷ es) s t h e =
    let f = first_step es t (step s x) e in
    let k = step_keeps s f.0 x h f.1 in
    let r = run_keeps es f.0 t k.0 f.2 in
    (r.0, r.1 ∙ ap (λ (l : List Event). l ++ es) k.1 ∙ append_assoc (word s) (x ∷ []) es)
