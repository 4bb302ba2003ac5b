-- K2 and K3: a read of all pages, and a write that a protection forbids.
use Rattle.std.proofs.Common.{◌≡◌, ◌∙◌, ℕ, true, false, IsTrue, Option, Some, None}
use Rattle.std.proofs.Common.{unwrap_or, sym, ap, subst, refl, arith}
use Rattle.std.specs.Prelude.{option_map}
use Rattle.std.proofs.lemmas.Bool.Decides.{nat_tests}
use Rattle.pmbus_table.specs.Commands.{is_paged, counts_as_write}
use Rattle.pmbus_table.specs.Protect.{permits}
use Rattle.pmbus_table.specs.Table.{table}
use Rattle.smbus.specs.declared.message.Form.{Form}
use Rattle.smbus.specs.declared.message.Form.TheVariants as form
use Rattle.smbus.specs.FormWords.{carries_code}
use Rattle.board.specs.Boards.{Board}
use Rattle.seq_program.specs.Requests.{Transaction, code_in}
use Rattle.pmbus_table.specs.Protect.{protections}
use Rattle.facts.specs.declared.duties.rule.Rule.TheVariants.{K2, K3}
use Rattle.facts.specs.declared.duties.violation.Violation.TheVariants.{Protected}
use Rattle.facts.specs.domain.Rows.{Row, set_at}
use Rattle.facts.specs.domain.Sets.{protects_in}
use Rattle.facts.specs.duties.Duties.{ReadsOnePage, IsUnprotected}
use Rattle.facts.specs.duties.Permitting.{PermitsAt}
use Rattle.facts.specs.duties.Blaming.{FindsItem, Blames}
use Rattle.facts.proofs.Coded.Protections.{four, lower_permitted, stored}

false_true : false ≡ true → ⊥
false_true e = grind (arith, nat_tests)

not_paged : is_paged 0 ≡ false
unfolding table
not_paged = refl

no_write : (f : Form) → carries_code f ≡ false → counts_as_write 0 f ≡ true → ⊥
unfolding table
no_write (form.Quick false) n e = false_true e
no_write (form.Quick true) n e = false_true e
no_write form.ReceiveByte n e = false_true e
no_write form.SendByte n e = false_true (sym n)
no_write form.WriteByte n e = false_true (sym n)
no_write form.WriteWord n e = false_true (sym n)
no_write form.ReadByte n e = false_true (sym n)
no_write form.ReadWord n e = false_true (sym n)
no_write form.ProcessCall n e = false_true (sym n)
no_write form.BlockWrite n e = false_true (sym n)
no_write form.BlockRead n e = false_true (sym n)
no_write form.BlockProcessCall n e = false_true (sym n)
no_write form.Alert n e = false_true e

-- a message without a command reads no page, and is no write
pub reads_no_page : (row : Row) (i : ℕ) (x : Transaction) → x.command ≡ None → ReadsOnePage row i x
reads_no_page row i x none =
    λ paged _. absurd (false_true (sym not_paged
    ∙ (ap (λ c. is_paged (unwrap_or c 0)) (sym none) ∙ paged)))

pub is_no_write : (row : Row) (i : ℕ) (x : Transaction) → x.command ≡ None
    → carries_code x.form ≡ false → IsUnprotected row i x
is_no_write row i x none bare =
    λ counts _ _. absurd (no_write x.form bare
    (ap (λ c. counts_as_write (unwrap_or c 0) x.form) (sym none) ∙ counts))

-- the code of a command
code_of : (x : Transaction) (command : ℕ) → x.command ≡ Some command → code_in x ≡ command
code_of x command is = ap (λ c. unwrap_or c 0) is

pub k2_none : (b : Board) (row : Row) (i : ℕ) (x : Transaction) → x.command ≡ None
    → Blames b row i x K2 None
k2_none b row i x none = reads_no_page row i x none

pub k3_none : (b : Board) (row : Row) (i : ℕ) (x : Transaction) → x.command ≡ None
    → carries_code x.form ≡ false → Blames b row i x K3 None
k3_none b row i x none bare = is_no_write row i x none bare

pub k3 : (b : Board) (row : Row) (i : ℕ) (x : Transaction) (command protects : ℕ)
    (found : Option ℕ) → x.command ≡ Some command → protects_in protects ≡ set_at row.protects i
    → counts_as_write command x.form ≡ true
    → FindsItem (PermitsAt protects command) protections found
    → Blames b row i x K3 (option_map Protected found)
k3 b row i x command protects None is at' counts h =
    λ _ p inside. subst (λ c. permits p c ≡ Some true) (sym (code_of x command is))
    (four protects command h p (subst (λ u. IsTrue (u p)) (sym at') inside))
k3 b row i x command protects (Some p) is at' counts h =
    let code = sym (code_of x command is) in (
      refl,
      record {
        counts = subst (λ c. IsTrue (counts_as_write c x.form)) code counts;
        stored = subst (λ u. IsTrue (u p)) at' (stored protects command p h.1.fails);
        forbids = λ permitted. h.1.fails
            (λ _. subst (λ c. permits p c ≡ Some true) (sym code) permitted);
        least = λ lower lt inside. subst (λ c. permits lower c ≡ Some true) code
            (lower_permitted protects command h.0 p h.1 lower lt
            (subst (λ u. IsTrue (u lower)) (sym at') inside));
      },
    )
