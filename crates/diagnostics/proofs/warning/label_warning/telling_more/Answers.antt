use Rattle.std.proofs.Common.{◌≡◌, ◌++◌, ◌∷◌, ◌∙◌, ℕ, zero, suc, List, [], Option, Some, None, ap}
use Rattle.std.proofs.Common.{Global, Vec, append-nil, arith, map, refl, subst, sym}
use Rattle.std.specs.Prelude.{IsSomeAnd, string_bytes}
use Rattle.std.specs.List.{last_or}
use Rattle.std.proofs.lemmas.List.{map_push}
use Rattle.std.proofs.lemmas.List.Elements.{All-pop, All-push}
use Rattle.notes.specs.declared.note.Note.{Note}
use Rattle.diagnostics.specs.LabelWarnings.{AreOnLines, StayOnLines, TellMore, more_labels}
use Rattle.diagnostics.specs.ProgramWarnings.{IsProgramWarning}
use Rattle.diagnostics.proofs.warning.label_warning.telling_more.Goals as goal
use Rattle.diagnostics.proofs.warning.label_warning.telling_more.Goals.{in-Some+in_ok-push}
use Rattle.diagnostics.proofs.warning.label_warning.telling_more.Goals.{in_default}

-- what is known beside the last note changes no line
stay : (front : List Note) (last : Note) (facts : _)
    → StayOnLines (front ++ last ∷ []) (front ++ record last { facts = facts } ∷ [])
stay front last facts lines numbers are =
    let parts = All-pop (IsProgramWarning lines) _ front (Some last) refl are.warn in
    record {
      warn = All-push (IsProgramWarning lines) front (record last { facts = facts }) parts.0
          (record {
            of_level = parts.1.of_level;
            in_section = parts.1.in_section;
            on_line = parts.1.on_line;
            shows = parts.1.shows;
          });
      on = map_push (λ (n : Note). n.line) front (record last { facts = facts })
          ∙ sym (map_push (λ (n : Note). n.line) front last) ∙ are.on;
    }

last_of_push : (before : Option Note) (front : List Note) (note : Note)
    → last_or before (front ++ note ∷ []) ≡ Some note
last_of_push before [] note = refl
last_of_push before (first ∷ front) note = last_of_push (Some first) front note

tells : (more : ℕ) (front : List Note) (note : Note)
    → map string_bytes note.facts.items ≡ more_labels more ∷ []
    → TellMore more (front ++ note ∷ [])
tells zero front note is = tt
tells (suc more) front note is =
    subst (λ (last : Option Note). IsSomeAnd last
    (λ n. map string_bytes n.facts.items ≡ more_labels (suc more) ∷ []))
    (sym (last_of_push None front note)) is

pub returns-clause-lines : goal.returns-clause-lines
returns-clause-lines c =
    elim c.match-pop.branch [
      | in-Some+in_ok-push w ↦
          λ lines numbers are.
          subst (AreOnLines lines numbers)
          (sym (ap (λ (v : Vec Note Global). v.items) w.warnings-is ∙ w.in_ok-push.ensures.items))
          (stay c.pop.new.self.items w.in-Some.last c.in_ok-facts.facts lines numbers
          (subst (AreOnLines lines numbers) w.in-Some.ensures.items are))
      | in_default w ↦
          λ lines numbers.
          subst (AreOnLines lines numbers)
          (w.in_default.ensures.items ∙ append-nil c.pop.new.self.items
          ∙ sym (ap (λ (v : Vec Note Global). v.items) w.warnings-is))
    ]

pub returns-clause-more : goal.returns-clause-more
returns-clause-more c =
    elim c.match-pop.branch [
      | in-Some+in_ok-push w ↦
          let items = ap (λ (v : Vec Note Global). v.items) w.warnings-is
          ∙ w.in_ok-push.ensures.items in
          let facts = ap (map string_bytes) c.in_ok-facts.ensures.items
          ∙ ap (λ (text : List ℕ). text ∷ []) c.in_ok-more_text.ensures in
          λ some. subst (TellMore c.args.more) (sym items)
          (tells c.args.more c.pop.new.self.items _ facts)
      | in_default w ↦
          λ some. absurd (omega (arith, w.in_default.ensures.cases.0, some))
    ]
