-- Idle samples, and the samples of entries one after another.
use Rattle.std.proofs.Common.{◌≡◌, ℕ, zero, suc, ◌<◌, Bool, List, [], ◌∷◌, ◌++◌, length, replicate}
use Rattle.std.proofs.Common.{All, refl, sym, ap, subst, ◌∙◌, arith}
use Rattle.std.specs.List.{flat_map, AllByRecursion}
use Rattle.std.proofs.lemmas.Grind.{flat_map-append}
use Rattle.std.proofs.lemmas.List.{append-nil, length-replicate}
use Rattle.std.proofs.lemmas.List.Elements.{All-nil, All-append, recursion_from_All}
use Rattle.wires.specs.declared.lines.Sample.{Sample}
use Rattle.wires.specs.declared.event.Event.{Event}
use Rattle.wires.specs.declared.event.Event.TheVariants.{Start}
use Rattle.wires.specs.Events.{events_after, events_of}
use Rattle.bit_bus.specs.Levels.{idle, EndsHigh}
use Rattle.bit_bus.specs.Word.{JoinsSilently}
use Rattle.smbus.specs.Shown.{Shown}
use Rattle.smbus.specs.Frames.{frame_word, IsFrame, AreFrames}
use Rattle.smbus.specs.OneFrame.{FramesAreUnique}
use Rattle.simulator.specs.Entries.{idle_samples, IsEntry, joined, all_frames, AreRead}
use Rattle.simulator.specs.EntryLaws.{IdleReadsBack, JoinedReadBack}

idle_after : (alert : Bool) (n : ℕ) → events_after (idle alert) (replicate n (idle alert)) ≡ []
idle_after alert zero = refl
idle_after alert (suc n) = idle_after alert n

idle_silent : (alert : Bool) (n : ℕ) → events_of (idle_samples alert n) ≡ []
unfolding idle_samples
idle_silent alert zero = refl
idle_silent alert (suc n) = idle_after alert n

no_frames : (frames : List Shown) → AreFrames [] frames → frames ≡ []
no_frames [] h = refl
no_frames (f ∷ frames) h = absurd (started _ h.words)
  where
    started : (l : List Event) → [] ≡ Start ∷ l → ⊥
    started l e = cc

idle_high : (alert : Bool) (n : ℕ) → EndsHigh (replicate (suc n) (idle alert))
idle_high alert zero = (refl, refl)
idle_high alert (suc n) = idle_high alert n

idle_entry : (alert : Bool) (n : ℕ) → 0 < n → IsEntry (idle_samples alert n)
unfolding idle_samples
idle_entry alert zero lt = absurd (omega arith)
idle_entry alert (suc n) lt = record {
  alert = alert;
  later = replicate n (idle alert);
  begins = refl;
  high = idle_high alert n;
}

idle_count : (alert : Bool) (n : ℕ) → length (idle_samples alert n) ≡ n
unfolding idle_samples
idle_count alert n = length-replicate n (idle alert)

pub reads_none : IdleReadsBack
reads_none alert ticks =
    let e = idle_silent alert ticks in
    record {
      none = record { each = All-nil IsFrame; words = e };
      only = λ frames h. no_frames frames (subst (λ es. AreFrames es frames) e h);
      count = idle_count alert ticks;
      entry = idle_entry alert ticks;
    }

-- joined entries begin idle

joined_more : JoinsSilently → (samples next rest : List Sample) → EndsHigh samples → IsEntry next
    → events_of (samples ++ (next ++ rest)) ≡ events_of samples ++ events_of (next ++ rest)
joined_more joins_silently samples next rest high e =
    let begins : next ++ rest ≡ idle e.alert ∷ (e.later ++ rest) =
    ap (λ (l : List Sample). l ++ rest) e.begins in
    ap (λ (l : List Sample). events_of (samples ++ l)) begins
    ∙ joins_silently e.alert samples (e.later ++ rest) high
    ∙ ap (λ (l : List Sample). events_of samples ++ events_of l) (sym begins)

joined_events : JoinsSilently → (entries : List (List Sample)) → AllByRecursion IsEntry entries
    → events_of (joined entries) ≡ flat_map events_of entries
joined_events silent [] h = refl
joined_events silent (samples ∷ []) h =
    ap events_of (append-nil samples) ∙ sym (append-nil (events_of samples))
joined_events silent (samples ∷ next ∷ entries) h =
    joined_more silent samples next (joined entries) h.0.high h.1.0
    ∙ ap (λ (l : List Event). events_of samples ++ l) (joined_events silent (next ∷ entries) h.1)

-- frames one after another

joins : (a b : List Event) (fs gs : List Shown) → AreFrames a fs → AreFrames b gs
    → AreFrames (a ++ b) (fs ++ gs)
joins a b fs gs ha hb = record {
  each = All-append IsFrame fs gs ha.each hb.each;
  words =
      ap (λ (l : List Event). l ++ b) ha.words
      ∙ ap (λ (l : List Event). flat_map frame_word fs ++ l) hb.words
      ∙ sym (flat_map-append frame_word fs gs);
}

joined_read : (entries : List (List Sample)) (frames : List (List Shown)) → AreRead entries frames
    → AreFrames (flat_map events_of entries) (all_frames frames)
joined_read [] [] h = record { each = All-nil IsFrame; words = refl }
joined_read [] (fs ∷ frames) h = absurd h
joined_read (e ∷ entries) [] h = absurd h
joined_read (e ∷ entries) (fs ∷ frames) h =
    joins (events_of e) (flat_map events_of entries) fs (all_frames frames) h.0
    (joined_read entries frames h.1)

joined_frames : JoinsSilently → (entries : List (List Sample)) (frames : List (List Shown))
    → All IsEntry entries
    → AreRead entries frames → AreFrames (events_of (joined entries)) (all_frames frames)
joined_frames silent entries frames h read =
    subst (λ es. AreFrames es (all_frames frames))
    (sym (joined_events silent entries (recursion_from_All IsEntry entries h)))
    (joined_read entries frames read)

pub reads_joined : JoinsSilently → FramesAreUnique → JoinedReadBack
reads_joined silent unique entries h = record {
  events = joined_events silent entries (recursion_from_All IsEntry entries h);
  frames = λ frames read. joined_frames silent entries frames h read;
  only = λ frames read others are.
      unique (events_of (joined entries)) (all_frames frames) others
      (joined_frames silent entries frames h read) are;
}
