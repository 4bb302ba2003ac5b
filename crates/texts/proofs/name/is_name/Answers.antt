use Rattle.std.proofs.Common.{◌≡◌, ◌≤◌, ◌<◌, ℕ, List, length, slice_index, IsTrue, Bool, sym, ◌∙◌}
use Rattle.std.proofs.Common.{rules}
use Rattle.std.specs.List.{list_all}
use Rattle.std.proofs.lemmas.List.Sums.{AllPass-from_list_all, list_all-from_AllPass}
use Rattle.texts.specs.Names.{is_letter, is_name_byte, IsName}
use Rattle.texts.proofs.name.is_name.Goals as goal

-- after the tests of length and first letter only the other bytes are left
when_bytes : (text : List ℕ) (r : Bool) → 0 < length text → length text ≤ 32
    → IsTrue (is_letter (slice_index text 0)) → r ≡ list_all is_name_byte text
    → (IsTrue r → IsName text) × (IsName text → IsTrue r)
when_bytes text r some few first e = (
  (λ t. record {
    nonempty = some;
    short = few;
    first = first;
    bytes = AllPass-from_list_all is_name_byte text (sym e ∙ t);
  }),
  (λ n. e ∙ list_all-from_AllPass is_name_byte text n.bytes),
)

pub returns-then-is_letter-clause-name : goal.returns-then-is_letter-clause-name
returns-then-is_letter-clause-name c = search (rules, when_bytes)
