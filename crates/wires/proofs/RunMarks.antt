-- What a viewer reads from the marks of runs.
use Rattle.std.proofs.Common.{◌≡◌, ◌≢◌, ℕ, ◌+◌, ◌-◌, ◌<◌, Bool, true, false, List, [], ◌∷◌, ◌++◌}
use Rattle.std.proofs.Common.{replicate, refl, sym, ap, ◌∙◌, arith}
use Rattle.wires.specs.declared.lines.Sample.{Sample}
use Rattle.wires.specs.declared.runs.Run.{Run}
use Rattle.wires.specs.Runs.{samples_after, EndAfter}
use Rattle.wires.proofs.RunLists.{end_after}
use Rattle.wires.specs.declared.wave.drawing.Wire.{Wire}
use Rattle.wires.specs.declared.wave.drawing.Wire.TheVariants.{Scl, Sda, Smbalert}
use Rattle.wires.specs.Marks.{Mark, Stamp, Level}
use Rattle.wires.specs.Viewed.{level_at, level_set, ticks_after, levels_after, samples_read}
use Rattle.wires.specs.Viewed.{places_read, ChangesAlone, Rises}
use Rattle.wires.specs.Drawing.{change, changes, run_marks, levels_behind}
use Rattle.wires.proofs.Viewing.{ticks_after-append, levels_after-append, samples_read-append}
use Rattle.wires.proofs.Viewing.{places_read-append, ChangesAlone-append, Rises-append}

-- marks in which no time goes on, and that lead from levels to others
record Leads (before : Sample) (marks : List Mark) (after : Sample) : Type 0 where
  pub ticks : (now : ℕ) → ticks_after now marks ≡ now
  pub samples : (now : ℕ) → samples_read now before marks ≡ []
  pub places : (now : ℕ) → places_read now marks ≡ []
  pub rises : (now : ℕ) → Rises now marks
  pub alone : ChangesAlone before marks
  pub levels : levels_after before marks ≡ after

set_same : (wire : Wire) (levels : Sample) → levels ≡ level_set wire (level_at wire levels) levels
set_same Scl levels = refl
set_same Sda levels = refl
set_same Smbalert levels = refl

no_mark : (wire : Wire) (level : Bool) (levels : Sample) → level_at wire levels ≡ level
    → Leads levels [] (level_set wire level levels)
no_mark wire level levels e = record {
  ticks = λ now. refl;
  samples = λ now. refl;
  places = λ now. refl;
  rises = λ now. tt;
  alone = tt;
  levels = set_same wire levels ∙ ap (λ l. level_set wire l levels) e;
}

one_mark : (wire : Wire) (level : Bool) (levels : Sample) → level_at wire levels ≢ level
    → Leads levels (Level wire level ∷ []) (level_set wire level levels)
one_mark wire level levels other = record {
  ticks = λ now. refl;
  samples = λ now. refl;
  places = λ now. refl;
  rises = λ now. tt;
  alone = (other, tt);
  levels = refl;
}

change_leads : (wire : Wire) (before after : Bool) (levels : Sample)
    → level_at wire levels ≡ before
    → Leads levels (change wire before after) (level_set wire after levels)
change_leads wire true true levels e = no_mark wire true levels e
change_leads wire false false levels e = no_mark wire false levels e
change_leads wire true false levels e =
    one_mark wire false levels (λ f. let g : true ≡ false = sym e ∙ f in cc)
change_leads wire false true levels e =
    one_mark wire true levels (λ f. let g : false ≡ true = sym e ∙ f in cc)

leads_on : (a b c : Sample) (marks more : List Mark) → Leads a marks b → Leads b more c
    → Leads a (marks ++ more) c
leads_on a b c marks more first then = record {
  ticks = λ now.
      ticks_after-append now marks more ∙ ap (λ n. ticks_after n more) (first.ticks now)
      ∙ then.ticks now;
  samples = λ now.
      samples_read-append now a marks more
      ∙ rw (first.samples now, first.ticks now, first.levels) (then.samples now);
  places = λ now.
      places_read-append now marks more
      ∙ rw (first.places now, first.ticks now) (then.places now);
  rises = λ now.
      Rises-append now marks more (first.rises now) (rw (first.ticks now) (then.rises now));
  alone = ChangesAlone-append a marks more first.alone (rw first.levels then.alone);
  levels =
      levels_after-append a marks more ∙ ap (λ l. levels_after l more) first.levels
      ∙ then.levels;
}

changes_lead : (before after : Sample) → Leads before (changes before after) after
changes_lead before after =
    let scl : Sample = level_set Scl after.scl before in
    let sda : Sample = level_set Sda after.sda scl in
    leads_on before scl after (change Scl before.scl after.scl)
    (change Sda before.sda after.sda ++ change Smbalert before.alert after.alert)
    (change_leads Scl before.scl after.scl before refl)
    (leads_on scl sda after (change Sda before.sda after.sda)
    (change Smbalert before.alert after.alert)
    (change_leads Sda before.sda after.sda scl refl)
    (change_leads Smbalert before.alert after.alert sda refl))

pub ticks_after-runs : (start before : ℕ) (levels : Sample) (runs : List Run)
    → ticks_after (start + before) (run_marks start levels runs) ≡ start + end_after before runs
ticks_after-runs start before levels [] = refl
ticks_after-runs start before levels (r ∷ later) =
    let rest : List Mark = Stamp (start + r.end) ∷ run_marks start r.sample later in
    ticks_after-append (start + before) (changes levels r.sample) rest
    ∙ ap (λ n. ticks_after n rest) ((changes_lead levels r.sample).ticks (start + before))
    ∙ ticks_after-runs start r.end r.sample later

pub levels_after-runs : (start : ℕ) (levels : Sample) (runs : List Run)
    → levels_after levels (run_marks start levels runs) ≡ levels_behind levels runs
levels_after-runs start levels [] = refl
levels_after-runs start levels (r ∷ later) =
    let rest : List Mark = Stamp (start + r.end) ∷ run_marks start r.sample later in
    levels_after-append levels (changes levels r.sample) rest
    ∙ ap (λ l. levels_after l rest) (changes_lead levels r.sample).levels
    ∙ levels_after-runs start r.sample later

pub samples_read-runs : (start before : ℕ) (levels : Sample) (runs : List Run)
    → samples_read (start + before) levels (run_marks start levels runs)
    ≡ samples_after before runs
samples_read-runs start before levels [] = refl
samples_read-runs start before levels (r ∷ later) =
    let rest : List Mark = Stamp (start + r.end) ∷ run_marks start r.sample later in
    let h = changes_lead levels r.sample in
    let long : start + r.end - (start + before) ≡ r.end - before = omega arith in
    samples_read-append (start + before) levels (changes levels r.sample) rest
    ∙ rw (h.samples (start + before), h.ticks (start + before), h.levels)
    (ap (λ n. replicate n r.sample ++ samples_read (start + r.end) r.sample
    (run_marks start r.sample later)) long
    ∙ ap (λ l. replicate (r.end - before) r.sample ++ l)
    (samples_read-runs start r.end r.sample later))

pub places_read-runs : (start before : ℕ) (levels : Sample) (runs : List Run)
    → places_read (start + before) (run_marks start levels runs) ≡ []
places_read-runs start before levels [] = refl
places_read-runs start before levels (r ∷ later) =
    let rest : List Mark = Stamp (start + r.end) ∷ run_marks start r.sample later in
    let h = changes_lead levels r.sample in
    places_read-append (start + before) (changes levels r.sample) rest
    ∙ rw (h.places (start + before), h.ticks (start + before))
    (places_read-runs start r.end r.sample later)

pub ChangesAlone-runs : (start : ℕ) (levels : Sample) (runs : List Run)
    → ChangesAlone levels (run_marks start levels runs)
ChangesAlone-runs start levels [] = tt
ChangesAlone-runs start levels (r ∷ later) =
    let rest : List Mark = Stamp (start + r.end) ∷ run_marks start r.sample later in
    let h = changes_lead levels r.sample in
    ChangesAlone-append levels (changes levels r.sample) rest h.alone
    (rw h.levels (ChangesAlone-runs start r.sample later))

pub Rises-runs : (start before : ℕ) (levels : Sample) (runs : List Run) → EndAfter before runs
    → Rises (start + before) (run_marks start levels runs)
Rises-runs start before levels [] rising = tt
Rises-runs start before levels (r ∷ later) rising =
    let rest : List Mark = Stamp (start + r.end) ∷ run_marks start r.sample later in
    let h = changes_lead levels r.sample in
    let lt : before < r.end = rising.0 in
    let above : start + before < start + r.end = omega arith in
    Rises-append (start + before) (changes levels r.sample) rest (h.rises (start + before))
    (rw (h.ticks (start + before)) (above, Rises-runs start r.end r.sample later rising.1))
