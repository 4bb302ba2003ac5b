-- Where a row admits a machine, the rules that it keeps are kept by what is known of the machine.
use Rattle.std.proofs.Common.{◌≡◌, ◌<◌, ◌≤◌, ◌∙◌, ◌⊎◌, ℕ, zero, suc, List, length, map}
use Rattle.std.proofs.Common.{slice_index}
use Rattle.std.proofs.Common.{replicate, refl, sym, subst, inl, inr, arith}
use Rattle.std.specs.Prelude.{IsTrue}
use Rattle.std.proofs.lemmas.List.{length-map}
use Rattle.pmbus_table.specs.Protect.{is_protection}
use Rattle.board.specs.Boards.{Target, Board}
use Rattle.board.specs.Valid.{is_page_value}
use Rattle.targets.specs.States.{Belongs}
use Rattle.seq_program.specs.declared.instr.Instr.{Instr}
use Rattle.seq_program.specs.Valid.{IsInstr, IsOnBoard, IsInstrOn}
use Rattle.simulator.specs.declared.machine.Ending.TheVariants.{Running}
use Rattle.simulator.specs.Machines.{Machine, Entry}
use Rattle.simulator.specs.StepLaws.{IsReady}
use Rattle.facts.specs.declared.domain.span.Span.{Span}
use Rattle.facts.specs.duties.Duties.{one, Meets}
use Rattle.facts.specs.FactLaws.{IsShaped, DutiesAreKept}
use Rattle.facts.specs.domain.Rows.{Row, Admits, IsRow, IsSetOf, IsSource, IsSpan, RowCovers}
use Rattle.facts.specs.domain.Rows.{SetCovers}
use Rattle.facts.specs.domain.Rows.{set_at, most_ticks}
use Rattle.facts.specs.domain.Sets.{Set, only}
use Rattle.table_check.specs.checker.Admitted.{HasRow}
use Rattle.table_check.specs.checker.ByPlace.{InductiveByPlace}
use Rattle.run_monitor.specs.Accepted.{AdmittedKeepRules}
use Rattle.run_monitor.specs.Known.{known_row, Knows}
use Rattle.run_monitor.proofs.Places.{found, within, each_at, all_index, only_at, one_at, is_only}
use Rattle.run_monitor.proofs.Places.{in_only, as_many, in_span, spans_cover}
use Rattle.run_monitor.proofs.Sources.{from_nowhere, meets, no_source}

-- a set that holds what is stored, which is all that is known
covers_stored : (sets : List Set) (xs : List ℕ) (i : ℕ) → i < length xs
    → IsTrue (set_at sets i (slice_index xs i))
    → SetCovers (set_at sets i) (set_at (map only xs) i)
covers_stored sets xs i lt has v t =
    let here : IsTrue (only (slice_index xs i) v) =
    subst (λ (s : Set). IsTrue (s v)) (only_at xs i lt) t in
    subst (λ x. IsTrue (set_at sets i x)) (sym (is_only (slice_index xs i) v here)) has

stored_set : (is_value : ℕ → Type 0) (xs : List ℕ) (i : ℕ) → i < length xs
    → is_value (slice_index xs i) → IsSetOf is_value (set_at (map only xs) i)
stored_set is_value xs i lt good =
    subst (IsSetOf is_value) (sym (only_at xs i lt)) (record {
      some = (slice_index xs i, in_only (slice_index xs i));
      each = λ v t. subst is_value (sym (is_only (slice_index xs i) v t)) good;
    })

nothing_in : (n c : ℕ) → slice_index (replicate n 0) c ≡ 0
nothing_in zero c = refl
nothing_in (suc n) zero = refl
nothing_in (suc n) (suc c) = nothing_in n c

no_coeff : (c : ℕ) → c < 4 → slice_index (replicate 4 0) c ≤ most_ticks
no_coeff c lt = let none : slice_index (replicate 4 0) c ≡ 0 = nothing_in 4 c in omega (arith, none)

-- a machine that the row admits, where these rails are good
record Known (b : Board) (p : List Instr) (row : Row) (m : Machine) (h : List Entry)
    (good : Set) : Type 0 where
  pub ready : IsReady b p m
  pub shaped : IsRow b row
  pub admits : Admits b row m h
  pub knows : Knows b h good

shaped_row : (b : Board) (row : Row) → IsRow b row → IsShaped b (from_nowhere row)
shaped_row b row k = record {
  page_sets = k.page_sets;
  protect_sets = k.protect_sets;
  pages = k.pages;
  protects = k.protects;
  good = k.good;
  reg_count = k.reg_count;
  regs = k.regs;
  reg_range = k.reg_range;
  source_count = refl;
  sources = λ r lt. subst (IsSource b) (sym (no_source r)) tt;
  counter_count = k.counter_count;
  counters = k.counters;
  lost = k.lost;
  lost_range = k.lost_range;
  base = omega arith;
  coeff_count = refl;
  coeffs = no_coeff;
  lost_coeff = omega arith;
}

shaped_known : (b : Board) (p : List Instr) (row : Row) (m : Machine) (h : List Entry) (good : Set)
    → Known b p row m h good → IsShaped b (known_row m good)
shaped_known b p row m h good k = record {
  page_sets = length-map m.bus.page only ∙ belongs.pages;
  protect_sets = length-map m.bus.protect only ∙ belongs.protects;
  pages = λ i t at'.
      stored_set (λ v. IsTrue (is_page_value (Target.pages t) v)) m.bus.page i
      (subst (λ n. i < n) (sym belongs.pages) (within b.targets i t at'))
      (belongs.targets i t at').page_valid;
  protects = λ i lt.
      let t = found b.targets i lt in
      stored_set (λ v. IsTrue (is_protection v)) m.bus.protect i
      (subst (λ n. i < n) (sym belongs.protects) lt) (belongs.targets i t.0 t.1).protect_valid;
  good = k.knows.rails;
  reg_count = length-map m.regs one ∙ regs;
  regs = λ r lt. subst IsSpan (sym (one_at m.regs r (subst (λ n. r < n) (sym regs) lt)))
      (omega arith);
  reg_range = λ r lt.
      let in' = subst (λ n. r < n) (sym regs) lt in
      subst (λ (s : Span). s.hi < 65536) (sym (one_at m.regs r in'))
      (all_index (λ w. w < 65536) m.regs r k.ready.words in');
  source_count = refl;
  sources = λ r lt. subst (IsSource b) (sym (no_source r)) tt;
  counter_count = length-map m.counters one ∙ counters;
  counters = λ c lt.
      let in' = subst (λ n. c < n) (sym counters) lt in
      let high = (k.shaped.counters c lt).1 in
      let low = (in_span row.counters m.counters c k.admits.counters in').1 in
      subst (λ (s : Span). IsSpan s × (s.hi ≤ 1000)) (sym (one_at m.counters c in'))
      (omega arith, omega (arith, high, low));
  lost = omega arith;
  lost_range =
      let low = k.admits.lost.1 in
      let high = k.shaped.lost_range in omega (arith, low, high);
  base = omega arith;
  coeff_count = refl;
  coeffs = no_coeff;
  lost_coeff = omega arith;
}
  where
    belongs : Belongs b m.bus
    belongs = k.ready.machine.bus

    regs : length m.regs ≡ 8
    regs = as_many row.regs m.regs k.admits.regs ∙ k.shaped.reg_count

    counters : length m.counters ≡ 4
    counters = as_many row.counters m.counters k.admits.counters ∙ k.shaped.counter_count

covers : (b : Board) (p : List Instr) (row : Row) (m : Machine) (h : List Entry) (good : Set)
    → Known b p row m h good → RowCovers b (from_nowhere row) (known_row m good)
covers b p row m h good k = record {
  pages = λ i lt. covers_stored row.pages m.bus.page i (subst (λ n. i < n) (sym belongs.pages) lt)
      (k.admits.pages i lt);
  protects = λ i lt. covers_stored row.protects m.bus.protect i
      (subst (λ n. i < n) (sym belongs.protects) lt) (k.admits.protects i lt);
  good = λ d t.
      let lt = k.shaped.good d t in
      (k.knows.reported d lt).1 (k.admits.good d lt t);
  regs = spans_cover row.regs m.regs k.admits.regs;
  sources = λ r. inl (no_source r);
  counters = spans_cover row.counters m.counters k.admits.counters;
  lost = (k.admits.lost.0, k.admits.lost.1);
}
  where
    belongs : Belongs b m.bus
    belongs = k.ready.machine.bus

pub keep_rules : DutiesAreKept → InductiveByPlace → AdmittedKeepRules
keep_rules kept by_place b p t m h i good is program on table k running here knows rule =
    by k.stands
  where
    by : (m.ended ≡ Running → ⊥) ⊎ HasRow b t m h → Meets b (known_row m good) i rule
    by (inl ended) = absurd (ended running)
    by (inr r) =
        let judged = (by_place b p t).0 table in
        let all : Known b p r.row m h good = record {
          ready = k.ready;
          shaped = judged.0.rows m.place r.row r.there;
          admits = r.admits;
          knows = knows;
        } in
        let said : IsInstrOn (length b.targets) i = (
          each_at (λ (x : Instr). IsInstr x) p m.place i program.each here,
          each_at (λ (x : Instr). IsOnBoard (length b.targets) x) p m.place i on here,
        ) in
        kept b i (from_nowhere r.row) (known_row m good) rule said (record {
          left = shaped_row b r.row all.shaped;
          right = shaped_known b p r.row m h good all;
          covers = covers b p r.row m h good all;
        }) (meets b r.row i rule (judged.1 m.place i r.row here r.there rule))
