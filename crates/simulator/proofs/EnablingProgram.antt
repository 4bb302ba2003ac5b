-- A program that turns on a rail with needs at once isn't safe.
use Rattle.std.proofs.Common.{◌≡◌, ◌≢◌, ℕ, List, [], ◌∷◌, slice_get, Some, refl, lit<}
use Rattle.std.specs.List.{AllByRecursion}
use Rattle.std.proofs.lemmas.List.Elements.{recursion_from_All}
use Rattle.pmbus_table.specs.Codes.{operation_code}
use Rattle.board.specs.Boards.{Board}
use Rattle.board.specs.Valid.{IsRail}
use Rattle.simulator.specs.Does.{BeginsWith}
use Rattle.simulator.specs.Machines.{start_at}
use Rattle.simulator.specs.Reports.{write_to, IsReportedGood}
use Rattle.simulator.specs.StepLaws.{StepsAreSeen, StartsAreReady}
use Rattle.simulator.specs.SmallPrograms.{enabling_program, EnablingAtOnceIsUnsafe}
use Rattle.simulator.specs.SmallPrograms.{AtEachEnabling, margin_values}
use Rattle.simulator.proofs.NextPlaces.{at_place}
use Rattle.simulator.proofs.PlainSteps.{plain, is_done, entry_by}
use Rattle.simulator.proofs.TakenForms.{enabling_byte}
use Rattle.simulator.proofs.UnsafePrograms.{two_places, first_step}
use Rattle.simulator.proofs.WithdrawnNeed.{takes_byte, turning, turn, sends_turn}
use Rattle.simulator.proofs.WorkedDefinitions.{writes_operation}

-- before the first step nothing was reported
none_good : (b : Board) (needs : List ℕ) → needs ≢ [] → AllByRecursion (IsReportedGood b []) needs
    → ⊥
none_good b [] some all = some refl
none_good b (n ∷ needs) some all = all.0.last

pub enabling_at_once_is_unsafe : StepsAreSeen → StartsAreReady
    → AtEachEnabling EnablingAtOnceIsUnsafe
enabling_at_once_is_unsafe steps ready value turns_on b s d r bound is starts selected some runs =
    let i = r.target in
    let rail : IsRail b r = at_place (IsRail b) b.rails d r is.rails selected.rail in
    let t = rail.on_page.0 in
    let at : slice_get b.targets i ≡ Some t = rail.on_page.1.target in
    let on = turning i value 1 in
    let m = turn t value in
    let e = entry_by on m 0 (start_at s) in
    let first =
    first_step steps ready b s on m bound is starts
    (two_places on (takes_byte, enabling_byte value turns_on) (lit< tt))
    (sends_turn b (enabling_program i value) (start_at s) i value 1 t at refl refl) runs in
    let begins : BeginsWith e.samples (write_to t ∷ operation_code ∷ value ∷ []) =
    writes_operation b s m (plain 0) e i value t first.seen.does at
    (record { to = refl; form = refl; command = refl; content = refl }) (is_done m 0) in
    let good = first.safe.safe.0.order i t value d r at begins turns_on selected in
    none_good b r.needs some (recursion_from_All (IsReportedGood b []) r.needs good)

pub margins_at_once_are_unsafe : StepsAreSeen → StartsAreReady
    → AllByRecursion EnablingAtOnceIsUnsafe margin_values
margins_at_once_are_unsafe steps ready =
    let unsafe = enabling_at_once_is_unsafe steps ready in
    (unsafe 0x94 refl, (unsafe 0x98 refl, (unsafe 0xA4 refl, (unsafe 0xA8 refl, tt))))
