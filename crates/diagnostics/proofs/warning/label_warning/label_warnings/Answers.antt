use Rattle.std.proofs.Common.{◌≡◌, ◌≤◌, ◌∙◌, ℕ, zero, suc, List, ap, arith, drop, length}
use Rattle.std.proofs.Common.{min, refl, subst, sym, take}
use Rattle.std.specs.List.{filter_map}
use Rattle.std.proofs.lemmas.List.{length-drop, length-map, length-take, take_min}
use Rattle.notes.specs.declared.note.Note.{Note}
use Rattle.texts.specs.Words.{lines_by_feed}
use Rattle.program_lints.specs.UnusedLabels.{unused_labels}
use Rattle.diagnostics.specs.LabelWarnings.{AreLinesTold, AreOnLines, TellMore}
use Rattle.diagnostics.specs.LabelWarnings.{most_labels, unused_line}
use Rattle.diagnostics.proofs.Results.{both_ok}
use Rattle.diagnostics.proofs.warning.label_warning.label_warnings.Goals as goal

-- where there are more labels, there are some that are told
some_first : (all : List ℕ) (count : ℕ) → suc count ≡ length (drop most_labels all)
    → 1 ≤ length (take most_labels all)
some_first all count is =
    omega (arith, is, length-drop most_labels all, length-take most_labels all)

more_told : (all : List ℕ) (count : ℕ) (told : List Note) → count ≡ length (drop most_labels all)
    → (1 ≤ length (take most_labels all) → TellMore count told) → TellMore count told
more_told all zero told is tell = tt
more_told all (suc count) told is tell = tell (some_first all count is)

pub returns : goal.returns
returns c =
    let lines = lines_by_feed c.args.text.now in
    let all = filter_map (unused_line lines) (unused_labels lines) in
    let old = c.in_ok-warnings.warnings.items in
    let told : c.deref-2.result.now ≡ all =
    c.deref-2.ensures.value ∙ c.in_ok-told.ensures
    ∙ ap (filter_map (unused_line lines)) (c.deref.ensures.value ∙ c.in_ok-unused.ensures) in
    let size : c.min.result ≡ min most_labels (length all) =
    c.min.ensures ∙ ap (min most_labels)
    (c.len.ensures ∙ sym c.deref-2.ensures.len ∙ ap length told) in
    let front : c.split_at.result.0.now ≡ take most_labels all =
    c.split_at.ensures.front ∙ ap (take c.min.result) told ∙ ap (λ n. take n all) size
    ∙ take_min most_labels all in
    let back : length c.split_at.result.1.now ≡ length (drop most_labels all) =
    omega (arith, c.split_at.ensures.back_len, ap length told, size, length-drop most_labels all) in
    let on = subst (λ (numbers : List ℕ). AreOnLines lines numbers old) front
    c.in_ok-warnings.ensures in
    let count : length old ≡ length (take most_labels all) =
    sym (length-map old (λ (n : Note). n.line)) ∙ ap length on.on in
    both_ok c.telling_more.result _ _
    (λ warnings. AreLinesTold lines all warnings.items)
    c.telling_more.ensures.lines c.telling_more.ensures.more
    (λ warnings stay tell. record {
      first = stay lines (take most_labels all) on;
      more = more_told all (length (drop most_labels all)) warnings.items refl
          (λ some. subst (λ n. TellMore n warnings.items) back
          (tell (subst (λ n. 1 ≤ n) (sym count) some)));
    })
