-- The words of a line, one by one, and a fault that is passed on.
use Rattle.std.proofs.Common.{◌≡◌, ◌≢◌, ◌≤◌, ◌<◌, ◌∷◌, ◌∙◌, ℕ, [], List, Bor, Result, Ok, Err}
use Rattle.std.proofs.Common.{Option, Some, None, ok_or, map, length, refl, sym, ap, arith}
use Rattle.std.proofs.Math.ListN.{get_or}
use Rattle.std.specs.Result.{IsErrAnd}
use Rattle.texts.specs.Reading.{some_or}
use Rattle.seq_program.specs.declared.fault.ProgramFault.{ProgramFault}
use Rattle.seq_program.specs.declared.fault.ProgramFault.TheVariants.{Memory}
use Rattle.seq_program.specs.Reading.{Gives}

abbrev pub word_at : List (Bor (List ℕ)) → ℕ → List ℕ
word_at words i = (get_or words i (record { ref_ptr = (0, 0); now = [] })).now

pub three_words : (words : List (Bor (List ℕ))) → 3 ≤ length words → length words < 4
    → map (λ w. w.now) words ≡ word_at words 0 ∷ word_at words 1 ∷ word_at words 2 ∷ []
three_words [] some few = absurd (omega arith)
three_words (a ∷ []) some few = absurd (omega arith)
three_words (a ∷ b ∷ []) some few = absurd (omega arith)
three_words (a ∷ b ∷ c ∷ []) some few = refl
three_words (a ∷ b ∷ c ∷ d ∷ more) some few = absurd (omega arith)

pub four_words : (words : List (Bor (List ℕ))) → 4 ≤ length words → length words < 5
    → map (λ w. w.now) words
    ≡ word_at words 0 ∷ word_at words 1 ∷ word_at words 2 ∷ word_at words 3 ∷ []
four_words [] some few = absurd (omega arith)
four_words (a ∷ words) some few =
    ap (λ rest. a.now ∷ rest) (three_words words (omega arith) (omega arith))

pub passed_on : {X Y : Type 0} (view : X → Y) (r : Result X ProgramFault) (fault : ProgramFault)
    (read : Result Y ProgramFault) → IsErrAnd r (λ e. e ≡ fault)
    → (fault ≢ Memory → read ≡ Err fault) → Gives view r read
passed_on view (Ok x) fault read is e = elim is [ ]
passed_on view (Err f) fault read is e = λ real. e (λ none. real (is ∙ none)) ∙ ap Err (sym is)

-- a step of a reading is one of the code
pub some_or_fault : {A F : Type 0} (fault : F) (o : Option A) → some_or fault o ≡ ok_or o fault
some_or_fault fault None = refl
some_or_fault fault (Some x) = refl
