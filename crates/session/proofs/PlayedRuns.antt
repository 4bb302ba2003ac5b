-- Texts of runs that are played, and of runs that break a rule.
use Rattle.std.proofs.Common.{◌≡◌, ◌<◌, ◌+◌, ℕ, List, [], ◌∷◌, ◌++◌, length, take, Option}
use Rattle.std.proofs.Common.{Some, None, refl, sym, subst, ap, ◌∙◌, arith, length-append}
use Rattle.std.specs.Prelude.{Result, Ok, Err, IfOk}
use Rattle.smbus.specs.Answered.{Answered}
use Rattle.board.specs.Boards.{Board}
use Rattle.board.specs.Valid.{IsBoard}
use Rattle.targets.specs.States.{IsStart}
use Rattle.bundles.specs.Answers.{Answers}
use Rattle.bundles.specs.AnswerTexts.{SaysAnswers}
use Rattle.bundles.specs.AnswerLineTexts.{run_text}
use Rattle.simulator.specs.declared.machine.Ending.{Ending}
use Rattle.simulator.specs.Machines.{start_at, start_state}
use Rattle.simulator.specs.Steps.{IsRun}
use Rattle.run_player.specs.declared.playing.Played.{Played}
use Rattle.run_player.specs.Plays.{IsPlay}
use Rattle.breach_search.specs.declared.harm.Harm.{Harm}
use Rattle.breach_search.specs.Harms.{IsHarm}
use Rattle.session.specs.declared.sequence.Sequence.{Sequence}
use Rattle.session.specs.PlayReplies.{HasNoTable, SaysRun, SaysBreach, with_ending, breach_text}
use Rattle.table_check.specs.Tables.{Table}
use Rattle.table_check.specs.checker.Obligations.{IsInductive}

-- ---- there is a start value for each target, and there is a target

pub some_pages : (b : Board) (pages protects : List ℕ) → IsBoard b
    → IsStart b (start_state pages protects) → 0 < length pages
some_pages b pages protects is may =
    let one = is.one_target in
    let same = may.pages in
    omega (arith, one, same)

pub some_protects : (b : Board) (pages protects : List ℕ) → IsBoard b
    → IsStart b (start_state pages protects) → 0 < length protects
some_protects b pages protects is may =
    let one = is.one_target in
    let same = may.protects in
    omega (arith, one, same)

-- ---- runs that are played

abbrev pub answers_of : Played → Answers
answers_of x =
    record { pages = x.pages.items; protects = x.protects.items; answers = x.answers.items }

pub says_run : (s : Sequence) (x : Played) (text : List ℕ) → IsPlay s.board s.program x
    → SaysAnswers text (answers_of x)
    → text ≡ with_ending (run_text None (answers_of x)) x.ended (length x.answers.items)
    → SaysRun s text
says_run s x text h said is = record {
  answers = answers_of x;
  said = said;
  trace = h.played.trace;
  is_run = record {
    may_start = h.may_start;
    run = h.played.run;
    trace = h.played.is_trace;
  };
  few = h.played.few;
  prints =
      is
      ∙ ap (λ (e : Ending).
      with_ending (run_text None (answers_of x)) e (length x.answers.items)) h.played.end;
}

-- ---- runs that break a rule

before_is : (before : List Answered) (last : Answered)
    → take (length before) (before ++ last ∷ []) ≡ before
before_is [] last = refl
before_is (a ∷ before) last = ap (λ (l : List Answered). a ∷ l) (before_is before last)

abbrev pub harm_answers_of : Harm → Answers
harm_answers_of x =
    record { pages = x.pages.items; protects = x.protects.items; answers = x.answers.items }

pub says_breach : (s : Sequence) (x : Harm) (text : List ℕ) → IsHarm s.board s.program x
    → SaysAnswers text (harm_answers_of x)
    → text ≡ run_text (Some (breach_text x.breach)) (harm_answers_of x)
    → SaysBreach s x.breach text
says_breach s x text h said is =
    let all = x.answers.items in
    let count : length all ≡ length h.before + 1 =
    ap length h.answers_are ∙ length-append h.before (h.last ∷ []) in
    let front : take x.breach.index all ≡ h.before =
    ap (λ (n : ℕ). take n all) h.index
    ∙ ap (λ (l : List Answered). take (length h.before) l) h.answers_are
    ∙ before_is h.before h.last in
    let at = h.index in
    let within = h.within in
    record {
      answers = harm_answers_of x;
      said = said;
      breaks = record {
        entries = h.entries;
        machine = h.machine;
        comes = record {
          may_start = h.may_start;
          run =
              subst (λ (l : List Answered). IsRun s.board s.program
              (start_at (start_state x.pages.items x.protects.items)) l h.entries h.machine)
              (sym front) h.run;
          within = omega (arith, within);
          asked = omega (arith, count, at);
          running = h.running;
        };
        place = h.place;
        instr = h.instr;
        here = h.here;
        good = h.good;
        knows = h.knows;
        breach = h.breach;
      };
      last = count ∙ ap (λ (n : ℕ). n + 1) (sym at);
      prints = is;
    }

some_none : {X : Type 0} (x : X) → Some x ≡ None → ⊥
some_none x e = cc

-- where one is found, no table keeps the rule book
pub no_table : (s : Sequence) (found : Option Harm) (x : Harm) → found ≡ Some x
    → ((t : Table) → IsInductive s.board s.program t → found ≡ None) → HasNoTable s
no_table s found x is spares = λ t table. some_none x (sym is ∙ spares t table)

-- what follows of both clauses of an answer
pub ok_by : {A E : Type 0} (r : Result A E) (P Q R : A → Type 0) → ((x : A) → P x → Q x → R x)
    → IfOk r P → IfOk r Q → IfOk r R
ok_by (Ok x) P Q R f p q = f x p q
ok_by (Err e) P Q R f p q = tt
