-- A request whose duties are met is safe, and targets can answer it.
use Rattle.std.proofs.Common.{◌≡◌, ◌≤◌, ◌<◌, ◌+◌, ◌*◌, ◌/◌, ◌%◌, ◌^◌, ◌==◌, ◌⊎◌, ℕ, Bool, true}
use Rattle.std.proofs.Common.{Some, List, [], ◌∷◌, length, slice_get, slice_index, slice_index_or}
use Rattle.std.proofs.Common.{inl, inr, refl, sym, ap, subst, ◌∙◌, arith, All}
use Rattle.std.specs.Prelude.{IsTrue, unsigned_abs}
use Rattle.std.proofs.Math.Nat.{mul-le-mul_right}
use Rattle.std.proofs.lemmas.Bool.{eqb-true, eq-eqb, and_from, or_cases, or_left, or_right}
use Rattle.std.proofs.lemmas.Bool.{false≢true}
use Rattle.std.proofs.lemmas.List.Elements.{recursion_from_All}
use Rattle.smbus.specs.declared.message.Form.TheVariants as form
use Rattle.smbus.specs.Answered.{Answered}
use Rattle.pmbus_table.specs.Codes.{page_code, operation_code, write_protect_code}
use Rattle.pmbus_table.specs.Commands.{takes_form}
use Rattle.pmbus_table.specs.Operation.{enables}
use Rattle.pmbus_table.specs.Protect.{permits, is_protection}
use Rattle.pmbus_table.specs.Voltage.{IsWithin, carries_voltage}
use Rattle.board.specs.declared.entry.Range.{Range}
use Rattle.board.specs.Boards.{Allow, Target, Rail, Board, entry_of}
use Rattle.board.specs.Valid.{IsEntry, IsBoard, IsRail, is_page_value}
use Rattle.targets.specs.States.{IsTargetAt}
use Rattle.targets.specs.Fitting.{IsIn}
use Rattle.seq_program.specs.declared.instr.Width.TheVariants as width
use Rattle.seq_program.specs.declared.instr.Written.TheVariants as written
use Rattle.seq_program.specs.Requests.{low_byte_first}
use Rattle.simulator.specs.Machines.{Machine, Entry}
use Rattle.simulator.specs.Allowed.{word_of, IsInRange, is_operation_value, WritesOnly}
use Rattle.simulator.specs.Reports.{Selects, IsReportedGood}
use Rattle.simulator.specs.Safe.{is_guarded}
use Rattle.simulator.specs.StepDoes.{writes_data}
use Rattle.facts.specs.declared.duties.rule.Rule.TheVariants.{K1, K2, K3, K4, K5}
use Rattle.facts.specs.declared.domain.span.Span.{Span}
use Rattle.facts.specs.domain.Rows.{Row, Admits, IsRow, set_at, span_at, InSpan}
use Rattle.seq_program.specs.Requests.{Transaction, receive, write, read, call}
use Rattle.seq_program.specs.Requests.{read_block, call_block, code_in, data_in}
use Rattle.facts.specs.duties.Duties.{touches, may_select, MayBeSent, IsInEntry}
use Rattle.facts.specs.duties.Duties.{IsKnownValue}
use Rattle.facts.proofs.Shared.Places.{within, same_at, all_at, only_one, is_target}
use Rattle.facts.proofs.Shared.Forms.{MayWrite, found_entry, guarded_write}
use Rattle.facts.proofs.Shared.Asking.{asked, IsRequest, Quick, Send, Receive, Write, Read, Call}
use Rattle.facts.proofs.Shared.Asking.{PutBlock, GetBlock, CallBlock, Sending, values_same}
use Rattle.facts.proofs.Shared.Asking.{lengths_same}
use Rattle.facts.proofs.Sound.Counters.{reg_inside}
use Rattle.facts.proofs.Sound.SafeSteps.{IsSafeMessage}

-- the entry of a request, with the target at hand
pub record Entered (b : Board) (row : Row) (t : Target) (r : Transaction) : Type 0 where
  pub entry : Allow
  pub listed : entry_of r.form (code_in r) t.allow ≡ Some entry
  pub in_entry : IsInEntry row entry r
  pub known : IsKnownValue t r
  pub is_entry : IsEntry entry
  pub same : entry.form ≡ r.form

pub entered : (b : Board) (row : Row) (i : ℕ) (t : Target) (r : Transaction) → IsBoard b
    → IsTargetAt b i t
    → MayBeSent b row i r → Entered b row t r
entered b row i t r is at' k =
    let same : k.target ≡ t = same_at b.targets i k.target t k.at at' in
    let listed : entry_of r.form (code_in r) t.allow ≡ Some k.entry = let P : Target
    → Type 0 = λ u. entry_of r.form (code_in r) u.allow ≡ Some k.entry in
    subst P same k.listed in
    let good = found_entry IsEntry r.form (code_in r) t.allow k.entry
    (recursion_from_All IsEntry t.allow (is_target b i t is at').entries) listed in
    record {
      entry = k.entry;
      listed = listed;
      in_entry = k.in_entry;
      known = let P : Target → Type 0 = λ u. IsKnownValue u r in subst P same k.known;
      is_entry = good.0;
      same = good.1;
    }

-- what a written word is known to be
pub written_inside : (b : Board) (row : Row) (m : Machine) (h : List Entry) (k : ℕ) → IsRow b row
    → Admits b row m h → k < 8
    → InSpan (span_at row.regs k) (slice_index m.regs k)
written_inside b row m h k shaped admits lt = (reg_inside b row m h k shaped admits lt).1

word_back : (v : ℕ) → word_of (low_byte_first v) ≡ v
word_back v = let goal : v % 256 + 256 * (v / 256) ≡ v = omega arith in goal

is_in : (r : Range) (s : Span) (v : ℕ) → r.low ≤ s.lo → s.hi ≤ r.high → InSpan s v → IsIn r v
is_in r s v low high inside = record {
  above = omega (arith, low, inside.0);
  below = omega
      (arith, high, inside.1);
}

in_values : (e : Allow) (v w : ℕ) → v ≡ w → IsIn e.values v → IsIn e.values w
in_values e v w same k = subst (λ (n : ℕ). IsIn e.values n) same k

-- what is written or read lies in the entry's ranges
in_range : (b : Board) (row : Row) (h : List Entry) (m next : Machine) (i : ℕ) (t : Target)
    (r : Transaction) (q : IsRequest r)
    (a : Answered) (e : Entry) → Sending b row h m next i t r a e
    → (x : Entered b row t r) → IsInRange r.form x.entry (asked t m.regs r) a
in_range b row h m next i t r (Quick read) a e k x = tt
in_range b row h m next i t r (Send code ok) a e k x = tt
in_range b row h m next i t r (Receive register lt) a e k x =
    subst (λ (z : Range). IsIn z a.value)
    (values_same b i t m.regs (receive register) x.entry k.board k.at
    x.listed) k.fits.form.0
in_range b row h m next i t r (Write code (written.Byte v) ok) a e k x =
    record { above = x.in_entry.0; below = x.in_entry.1 }
in_range b row h m next i t r (Write code (written.Word v) ok) a e k x =
    in_values x.entry v (word_of (low_byte_first v)) (sym (word_back v))
    (record { above = x.in_entry.0; below = x.in_entry.1 })
in_range b row h m next i t r (Write code (written.Register g) ok) a e k x =
    let v = slice_index m.regs g in
    in_values x.entry v (word_of (low_byte_first v)) (sym (word_back v))
    (is_in x.entry.values (span_at row.regs g) v x.in_entry.0 x.in_entry.1
    (written_inside b row m h g k.shaped k.admits ok.2))
in_range b row h m next i t r (Read code width.Byte register ok lt) a e k x = λ np nw.
    subst (λ (z : Range). IsIn z a.value)
    (values_same b i t m.regs (read code width.Byte register) x.entry
    k.board k.at x.listed) (k.fits.form.0.other np nw)
in_range b row h m next i t r (Read code width.Word register ok lt) a e k x =
    subst (λ (z : Range). IsIn z a.value)
    (values_same b i t m.regs (read code width.Word register) x.entry
    k.board k.at x.listed) k.fits.form.0
in_range b row h m next i t r (Call code v register ok most lt) a e k x =
    subst (λ (z : Range). IsIn z a.value)
    (values_same b i t m.regs (call code v register) x.entry k.board
    k.at x.listed) k.fits.form.0
in_range b row h m next i t r (PutBlock code bytes ok block) a e k x = x.in_entry
in_range b row h m next i t r (GetBlock code register ok lt) a e k x = record {
  count = subst (λ (z : Range). IsIn z (length a.bytes))
      (lengths_same b i t m.regs (read_block code register) x.entry k.board k.at x.listed)
      k.fits.form.0.count;
  each = subst (λ (z : Range). All (IsIn z) a.bytes)
      (values_same b i t m.regs (read_block code register) x.entry k.board k.at x.listed)
      k.fits.form.0.each;
}
in_range b row h m next i t r (CallBlock code bytes register ok block lt) a e k x = record {
  count = subst (λ (z : Range). IsIn z (length a.bytes))
      (lengths_same b i t m.regs (call_block code bytes register) x.entry k.board k.at x.listed)
      k.fits.form.0.count;
  each = subst (λ (z : Range). All (IsIn z) a.bytes)
      (values_same b i t m.regs (call_block code bytes register) x.entry k.board k.at x.listed)
      k.fits.form.0.each;
}

-- the value of a Write Byte is one of its command's
byte_value : (t : Target) (m : Machine) (r : Transaction) (code : ℕ) (is_value : ℕ → Bool)
    → IsRequest r
    → IsKnownValue t r
    → ((c v : ℕ) → IsKnownValue t (write c (written.Byte v)) → c ≡ code → IsTrue (is_value v))
    → WritesOnly code is_value (asked t m.regs r)
byte_value t m r code is_value (Write c (written.Byte v) ok) k by f e = by c v k e
byte_value t m r code is_value (Write c (written.Word v) ok) k by f e = cc
byte_value t m r code is_value (Write c (written.Register n) ok) k by f e = cc
byte_value t m r code is_value (Quick read) k by f e = cc
byte_value t m r code is_value (Send c ok) k by f e = cc
byte_value t m r code is_value (Receive n lt) k by f e = cc
byte_value t m r code is_value (Read c width.Byte n ok lt) k by f e = cc
byte_value t m r code is_value (Read c width.Word n ok lt) k by f e = cc
byte_value t m r code is_value (Call c v n ok most lt) k by f e = cc
byte_value t m r code is_value (PutBlock c bytes ok block) k by f e = cc
byte_value t m r code is_value (GetBlock c n ok lt) k by f e = cc
byte_value t m r code is_value (CallBlock c bytes n ok block lt) k by f e = cc

-- a command that is written takes the form
pub takes_written : (r : Transaction) → IsRequest r → MayWrite r.form
    → IsTrue (takes_form (code_in r) r.form)
takes_written r (Write c (written.Byte v) ok) w = ok.0
takes_written r (Write c (written.Word v) ok) w = ok.0
takes_written r (Write c (written.Register n) ok) w = ok.0
takes_written r (Send c ok) w = ok
takes_written r (Read c n g ok lt) w = ok
takes_written r (Call c v n ok most lt) w = ok
takes_written r (PutBlock c bytes ok block) w = ok
takes_written r (GetBlock c n ok lt) w = ok
takes_written r (CallBlock c bytes n ok block lt) w = ok
takes_written r (Quick read) (inl w) = absurd (false≢true w)
takes_written r (Quick read) (inr e) = cc
takes_written r (Receive n lt) (inl w) = absurd (false≢true w)
takes_written r (Receive n lt) (inr e) = cc

-- a page that may be stored touches what it selects
pub touched : (b : Board) (row : Row) (m : Machine) (h : List Entry) (i d : ℕ) (r : Rail)
    (t : Target)
    → Admits b row m h → IsTargetAt b i t → Selects b m.bus i d r → IsTrue (touches row i r)
touched b row m h i d r t admits at' s =
    let stored = slice_index m.bus.page i in
    let inside : set_at row.pages i stored ≡ true = admits.pages i (within b.targets i t at') in
    and_from (r.target == i) (may_select (set_at row.pages i) r.page)
    (eq-eqb r.target i s.on_target)
    (by stored inside (or_cases (stored == r.page) (stored == 0xFF) s.page))
  where
    by : (stored : ℕ) → set_at row.pages i stored ≡ true
        → ((stored == r.page) ≡ true) ⊎ ((stored == 0xFF) ≡ true)
        → may_select (set_at row.pages i) r.page ≡ true
    by stored inside (inl e) =
        or_left _ _ (ap (set_at row.pages i) (sym (eqb-true stored r.page e)) ∙ inside)
    by stored inside (inr e) =
        or_right _ _ (ap (set_at row.pages i) (sym (eqb-true stored 0xFF e)) ∙ inside)

lower_within : (v top : ℕ) (t : Target) (r : Rail) → v ≤ top → IsWithin top t.exponent r.limit_uv
    → IsWithin v t.exponent r.limit_uv
lower_within v top t r le k =
    let below : top * 1000000 ≤ r.limit_uv * 2 ^ unsigned_abs t.exponent = k.below in
    let more : v * 1000000 ≤ top * 1000000 = mul-le-mul_right 1000000 le in
    record { least = k.least; most = k.most; below = omega (arith, below, more) }

-- K4: a word that goes out is the one that is commanded
voltage_of : (b : Board) (row : Row) (h : List Entry) (m next : Machine) (i : ℕ) (t : Target)
    (r : Transaction) (q : IsRequest r)
    (a : Answered) (e : Entry) → Sending b row h m next i t r a e
    → (low high d : ℕ) (rail : Rail) → r.form ≡ form.WriteWord
    → IsTrue (carries_voltage (code_in r))
    → data_in m.regs r ≡ low ∷ high ∷ []
    → slice_get b.rails d ≡ Some rail → IsTrue (touches row i rail)
    → IsWithin (low + 256 * high) t.exponent rail.limit_uv
voltage_of b row h m next i t r
    (Write c (written.Word v) ok) a e k low high d rail f sets out at' hit =
    let same : low + 256 * high ≡ v = two v low high out in
    rw same ((k.duty K4) sets t d rail k.at at' hit)
  where
    two : (v low high : ℕ) → v % 256 ∷ v / 256 ∷ [] ≡ low ∷ high ∷ [] → low + 256 * high ≡ v
    two v low high e =
        let x : v % 256 ≡ low = cc in
        let y : v / 256 ≡ high = cc in
        omega (arith, x, y)
voltage_of b row h m next i t
    r (Write c (written.Register n) ok) a e k low high d rail f sets out at' hit =
    let v = slice_index m.regs n in
    let same : low + 256 * high ≡ v = two v low high out in
    let inside : InSpan (span_at row.regs n) v =
    written_inside b row m h n k.shaped k.admits ok.2 in
    rw same (lower_within v (Span.hi (span_at row.regs n)) t rail inside.1
    ((k.duty K4) sets t d rail k.at at' hit))
  where
    two : (v low high : ℕ) → v % 256 ∷ v / 256 ∷ [] ≡ low ∷ high ∷ [] → low + 256 * high ≡ v
    two v low high e =
        let x : v % 256 ≡ low = cc in
        let y : v / 256 ≡ high = cc in
        omega (arith, x, y)
voltage_of b row h m next i t r
    (Write c (written.Byte v) ok) a e k low high d rail f code out at' hit =
    cc
voltage_of b row h m next i t r (Quick read) a e k low high d rail f code out at' hit = cc
voltage_of b row h m next i t r (Send c ok) a e k low high d rail f code out at' hit = cc
voltage_of b row h m next i t r (Receive n lt) a e k low high d rail f code out at' hit = cc
voltage_of b row h m next i t r
    (Read c width.Byte n ok lt) a e k low high d rail f code out at' hit = cc
voltage_of b row h m next i t r
    (Read c width.Word n ok lt) a e k low high d rail f code out at' hit = cc
voltage_of b row h m next i t r (Call c v n ok most lt) a e k low high d rail f code out at' hit =
    cc
voltage_of b row h m next i t r
    (PutBlock c bytes ok block) a e k low high d rail f code out at' hit = cc
voltage_of b row h m next i t r (GetBlock c n ok lt) a e k low high d rail f code out at' hit = cc
voltage_of b row h m next i t r
    (CallBlock c bytes n ok block lt) a e k low high d rail f code out at' hit = cc

-- K5: a byte that goes out is the one that is written
needs_of : (b : Board) (row : Row) (h : List Entry) (m next : Machine) (i : ℕ) (t : Target)
    (r : Transaction) (q : IsRequest r)
    (a : Answered) (e : Entry) → Sending b row h m next i t r a e
    → (value d : ℕ) (rail : Rail) → r.form ≡ form.WriteByte → code_in r ≡ operation_code
    → data_in m.regs r ≡ value ∷ [] → IsTrue (enables value)
    → slice_get b.rails d ≡ Some rail → IsTrue (touches row i rail)
    → All (λ need. IsTrue (row.good need)) rail.needs
needs_of b row h m next i t r
    (Write c (written.Byte v) ok) a e k value d rail f code out on at' hit =
    let same : v ≡ value = cc in
    (k.duty K5) code (ap enables same ∙ on) d rail at' hit
needs_of b row h m next i t r
    (Write c (written.Word v) ok) a e k value d rail f code out on at' hit = cc
needs_of b row h m next i t
    r (Write c (written.Register n) ok) a e k value d rail f code out on at' hit = cc
needs_of b row h m next i t r (Quick read) a e k value d rail f code out on at' hit = cc
needs_of b row h m next i t r (Send c ok) a e k value d rail f code out on at' hit = cc
needs_of b row h m next i t r (Receive n lt) a e k value d rail f code out on at' hit = cc
needs_of b row h m next i t r (Read c width.Byte n ok lt) a e k value d rail f code out on at' hit =
    cc
needs_of b row h m next i t r (Read c width.Word n ok lt) a e k value d rail f code out on at' hit =
    cc
needs_of b row h m next i t r (Call c v n ok most lt) a e k value d rail f code out on at' hit = cc
needs_of b row h m next i t r (PutBlock c bytes ok block) a e k value d rail f code out on at' hit =
    cc
needs_of b row h m next i t r (GetBlock c n ok lt) a e k value d rail f code out on at' hit = cc
needs_of b row h m next i t r
    (CallBlock c bytes n ok block lt) a e k value d rail f code out on at' hit = cc

needs_good : (b : Board) (row : Row) (h : List Entry) (m : Machine) (needs : List ℕ)
    → Admits b row m h
    → All (λ n. n < length b.rails) needs → All (λ n. IsTrue (row.good n)) needs
    → All (IsReportedGood b h) needs
needs_good b row h m needs admits rails good k d lt =
    admits.good (slice_index_or needs k d) (rails k d lt) (good k d lt)

-- a request that meets its duties is safe
pub request_is_safe : (b : Board) (row : Row) (h : List Entry) (m next : Machine) (i : ℕ)
    (t : Target)
    (r : Transaction) (a : Answered) (e : Entry) → Sending b row h m next i t r a e
    → IsSafeMessage b h m.bus (asked t m.regs r) a
request_is_safe b row h m next i t r a e k =
    let x = entered b row i t r k.board k.at (k.duty K1) in
    record {
      allowed = inr (
        i,
        t,
        k.at,
        record {
          to = refl;
          entry = x.entry;
          listed = x.listed;
          in_range = in_range b row h m next i t r k.request a e k x;
          pages = byte_value t m r page_code (is_page_value t.pages) k.request x.known
              (λ c v known is. known.0 is);
          protections = byte_value t m r write_protect_code is_protection k.request x.known
              (λ c v known is. known.1 is);
          operations = byte_value t m r operation_code is_operation_value k.request x.known
              (λ c v known is. known.2 is);
          one_page = λ paged reads all.
              false≢true (sym (k.duty K2 paged reads)
              ∙ (ap (set_at row.pages i) (sym all) ∙ k.admits.pages i (within b.targets i t k.at)));
        },
      );
      protection = λ j u code at' w guarded.
          let same : j ≡ i = only_one b k.board j i u t at' k.at (sym w.to) in
          let P : ℕ → Type 0 = λ n. permits (slice_index m.bus.protect n) code ≡ Some true in
          let Q : ℕ → Type 0 = λ c. permits (slice_index m.bus.protect i) c ≡ Some true in
          let G : ℕ → Type 0 = λ c. IsTrue (is_guarded c) in
          let writes : MayWrite r.form = may_write w.went_out in
          subst P (sym same) (subst Q w.command
          (k.duty K3 (guarded_write (code_in r) r.form (subst G (sym w.command) guarded)
          (takes_written r k.request writes) writes)
          (slice_index m.bus.protect i) (k.admits.protects i (within b.targets i t k.at))));
      limits = λ j u code low high d rail at' sets w s.
          let same : j ≡ i = only_one b k.board j i u t at' k.at (sym w.to) in
          let target : u ≡ t = same_at b.targets i u t
          (let P : ℕ → Type 0 = λ n. IsTargetAt b n u in subst P same at') k.at in
          let P : Target → Type 0 = λ z. IsWithin (low + 256 * high) z.exponent rail.limit_uv in
          let S : ℕ → Type 0 = λ n. Selects b m.bus n d rail in
          let here : Selects b m.bus i d rail = subst S same s in
          subst P (sym target)
          (voltage_of b row h m next i t r k.request a e k low high d rail w.form
          (subst (λ (c : ℕ). IsTrue (carries_voltage c)) (sym w.command) sets)
          w.content here.rail (touched b row m h i d rail t k.admits k.at here));
      order = λ j u value d rail at' w on s.
          let same : j ≡ i = only_one b k.board j i u t at' k.at (sym w.is_write.to) in
          let S : ℕ → Type 0 = λ n. Selects b m.bus n d rail in
          let here : Selects b m.bus i d rail = subst S same s in
          needs_good b row h m rail.needs k.admits
          (all_at (IsRail b) b.rails d rail k.board.rails here.rail).needs
          (needs_of b row h m next i t r k.request a e k value d rail w.is_write.form
          w.is_write.command
          w.is_write.content on here.rail (touched b row m h i d rail t k.admits k.at here));
    }
  where
    may_write : {X Y : Type 0}
        → (IsTrue (writes_data r.form) × X) ⊎ ((r.form ≡ form.SendByte) × Y)
        → MayWrite r.form
    may_write (inl w) = inl w.0
    may_write (inr s) = inr s.0
