use Rattle.std.proofs.Common.{◌≡◌, ℕ, List, None, sym, inl, inr}
use Rattle.std.specs.Str.{IsUtf8, is_utf8}
use Rattle.std.proofs.lemmas.Bool.{cases_Bool}
use Rattle.std.proofs.lemmas.Str.{IsUtf8-from_is_utf8, is_utf8-from_IsUtf8}
use Rattle.session.specs.Sessions.{text_if}
use Rattle.session.proofs.intake.utf8_of.Goals as goal

not_text : (bytes : List ℕ) → (IsUtf8 bytes → ⊥) → text_if (is_utf8 bytes) bytes ≡ None
not_text bytes isnt = elim (cases_Bool (is_utf8 bytes)) [
  | inl is ↦ absurd (isnt (IsUtf8-from_is_utf8 bytes is))
  | inr other ↦ rw other
]

pub returns-in-Ok : goal.returns-in-Ok
returns-in-Ok c =
    rw (is_utf8-from_IsUtf8 c.args.bytes.now c.in-Ok.ensures.cases.1, c.in-Ok.ensures.cases.0)

pub returns-in-Err : goal.returns-in-Err
returns-in-Err c = sym (not_text c.args.bytes.now c.in-Err.ensures.cases.0)
