use Rattle.std.proofs.Common.{◌≡◌, refl, sym, ap, ◌∙◌, slice_get, option_map, rules, leb, List}
use Rattle.std.proofs.Common.{Some, None}
use Rattle.std.proofs.lemmas.List.Sorted.{IsPartitionPoint-from_clause, IsPartitionedBy-leb}
use Rattle.std.proofs.lemmas.Option.{slice_get_read, slice_get_past}
use Rattle.wires.specs.Runs.{samples_of, EndAfter}
use Rattle.wires.specs.declared.runs.Run.{Run}
use Rattle.wires.proofs.RunSearch.{ends_rise, sample_at_point}
use Rattle.wires.proofs.runs.Runs.sample_at.Goals as goal

pub returns-in-Some : goal.returns-in-Some
returns-in-Some c =
    let runs : List Run = c.deref.result.now in
    let i = c.args.index in
    let rising : EndAfter 0 runs = rw c.deref.ensures.value c.self.invariant.rising in
    let point = IsPartitionPoint-from_clause (λ r. leb r.end i) _ _
    c.partition_point-place.ensures.partitioned
    (IsPartitionedBy-leb (λ r. r.end) _ i (ends_rise 0 runs rising))
    (λ a r q k. search rules) in
    let sample = sample_at_point runs c.partition_point-place.result i rising point in
    let found = c.in-Some.ensures in
    let read = slice_get_read c.deref-2.result.now _ c.partition_point-place.result
    c.in-Some.run'.now refl found.lookup.3.0 found.lookup.1 in
    let same : c.deref-2.result.now ≡ runs = c.deref-2.ensures.value ∙ sym c.deref.ensures.value in
    let here : slice_get runs c.partition_point-place.result ≡ Some c.in-Some.run'.now =
    rw (← same) read in
    ap (λ o. option_map (λ (r : Run). r.sample) o) (sym here) ∙ sym sample
    ∙ ap (λ l. slice_get (samples_of l) i) c.deref.ensures.value
    ∙ ap (λ l. slice_get l i) c.self.view_is

pub returns-in-None : goal.returns-in-None
returns-in-None c =
    let runs : List Run = c.deref.result.now in
    let i = c.args.index in
    let rising : EndAfter 0 runs = rw c.deref.ensures.value c.self.invariant.rising in
    let point = IsPartitionPoint-from_clause (λ r. leb r.end i) _ _
    c.partition_point-place.ensures.partitioned
    (IsPartitionedBy-leb (λ r. r.end) _ i (ends_rise 0 runs rising))
    (λ a r q k. search rules) in
    let sample = sample_at_point runs c.partition_point-place.result i rising point in
    let found = c.in-None.ensures in
    let past = slice_get_past c.deref-2.result.now c.partition_point-place.result found.lookup.3 in
    let same : c.deref-2.result.now ≡ runs = c.deref-2.ensures.value ∙ sym c.deref.ensures.value in
    let here : slice_get runs c.partition_point-place.result ≡ None = rw (← same) past in
    ap (λ o. option_map (λ (r : Run). r.sample) o) (sym here) ∙ sym sample
    ∙ ap (λ l. slice_get (samples_of l) i) c.deref.ensures.value
    ∙ ap (λ l. slice_get l i) c.self.view_is
