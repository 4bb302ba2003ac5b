-- Rows whose parts can be written are rows that can be written.
use Rattle.std.proofs.Common.{◌∙◌, ◌↔◌, List, [], ◌∷◌, Bool, Option, All, IsTrue}
use Rattle.std.proofs.Common.{IfSome, map, option_map, sym}
use Rattle.std.proofs.lemmas.List.{length-map}
use Rattle.std.specs.List.{AllByRecursion}
use Rattle.std.proofs.lemmas.List.Elements.{All-map, All-from_recursion}
use Rattle.std.proofs.lemmas.List.Elements.{recursion_from_All}
use Rattle.board.specs.Boards.{Board}
use Rattle.facts.specs.domain.Sets.{pages_in, protects_in, HasValue}
use Rattle.facts.specs.domain.Rows.{row_view}
use Rattle.facts.specs.well_formed.Shapes.{IsSizedRow}
use Rattle.facts.specs.declared.domain.row.Row.{Row as CodeRow}
use Rattle.table_check.specs.Tables.{rows_view}
use Rattle.table_check.specs.text.Writable.{IsShapedRow, IsShaped}
use Rattle.table_check.specs.text.Shapes.{IsShapedByPart, IsShapedPlace}

-- what holds of all images holds of each item's image
images : {X Y : Type 0} (P : Y → Type 0) (f : X → Y) (xs : List X) → AllByRecursion P (map f xs)
    → AllByRecursion (λ x. P (f x)) xs
images P f [] h = tt
images P f (x ∷ xs) h = (h.0, images P f xs h.1)

pub All-from_map : {X Y : Type 0} (P : Y → Type 0) (f : X → Y) (xs : List X) → All P (map f xs)
    → All (λ x. P (f x)) xs
All-from_map P f xs all =
    All-from_recursion (λ x. P (f x)) xs (images P f xs (recursion_from_All P (map f xs) all))

pub shaped_row : (b : Board) (row : CodeRow) (x : Bool) → IsSizedRow row
    → IsTrue x ↔ IsShapedByPart b row
    → IsTrue x ↔ IsShapedRow b (row_view row)
shaped_row b row x sized iff = (to, from)
  where
    to : IsTrue x → IsShapedRow b (row_view row)
    to t =
        let h = iff.0 t in
        record {
          page_sets = length-map row.pages.items pages_in ∙ h.0;
          pages = All-map HasValue pages_in row.pages.items h.1;
          protect_sets = length-map row.protects.items protects_in ∙ h.2;
          protects = All-map HasValue protects_in row.protects.items h.3;
          good = h.4;
          reg_count = sized.0;
          source_count = sized.1;
          sources = h.5;
          counter_count = sized.2;
          coeff_count = sized.3;
        }

    from : IsShapedRow b (row_view row) → IsTrue x
    from h =
        iff.1 (
          sym (length-map row.pages.items pages_in) ∙ h.page_sets,
          All-from_map HasValue pages_in row.pages.items h.pages,
          sym (length-map row.protects.items protects_in) ∙ h.protect_sets,
          All-from_map HasValue protects_in row.protects.items h.protects,
          h.good,
          h.sources,
        )

pub shaped_table : (b : Board) (rows : List (Option CodeRow)) (x : Bool)
    → IsTrue x ↔ All (IsShapedPlace b) rows → IsTrue x ↔ IsShaped b (rows_view rows)
shaped_table b rows x iff = (
  (λ t. All-map (λ row. IfSome row (IsShapedRow b)) (option_map row_view) rows (iff.0 t)),
  (λ h. iff.1 (All-from_map (λ row. IfSome row (IsShapedRow b)) (option_map row_view) rows h)),
)
