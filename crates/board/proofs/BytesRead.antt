-- A list's elements as bytes, read one after another.
use Rattle.std.proofs.Common.{◌≡◌, ◌≢◌, ◌<◌, ◌+◌, ◌++◌, ◌∷◌, ℕ, [], List, Option, Some, None}
use Rattle.std.proofs.Common.{Result, Ok, Err, length, drop, ok_or, refl, sym, ap, subst, ◌∙◌}
use Rattle.std.proofs.Math.ListN.{get_or}
use Rattle.std.proofs.lemmas.List.{at_drop_more}
use Rattle.std.specs.Result.{IsErrAnd}
use Rattle.toml.specs.declared.value.Value.{Value}
use Rattle.toml.specs.View.{view, items_view}
use Rattle.texts.specs.Reading.{◌>>=◌, some_or}
use Rattle.board.specs.declared.fault.BoardFault.{BoardFault}
use Rattle.board.specs.declared.fault.FaultKind.TheVariants.{BadStart}
use Rattle.board.specs.declared.key.Key.{Key}
use Rattle.board.specs.declared.site.Place.{Place}
use Rattle.board.specs.Sites.{item_fault, out_of_memory as memory}
use Rattle.board.specs.Fields.{number_in}
use Rattle.board.specs.Reading.{Gives}
use Rattle.board.specs.Targets.{bytes_of}

module _ (table : Place) (k : Key) where
  abbrev bad : List ℕ → BoardFault
  bad done = item_fault BadStart table k (length done)

  -- what is read of the elements from a place on, by the one that stands there
  read_at : (done : List ℕ) (values : List Value) (i : ℕ) (value : Value) → i < length values
      → value ≡ get_or values i value
      → bytes_of table k done (items_view (drop i values))
      ≡ (some_or (bad done) (number_in 0 255 (view value))
      >>= λ n. bytes_of table k (done ++ n ∷ []) (items_view (drop (i + 1) values)))
  read_at done values i value lt is =
      subst (λ v. bytes_of table k done (items_view (drop i values))
      ≡ (some_or (bad done) (number_in 0 255 (view v))
      >>= λ n. bytes_of table k (done ++ n ∷ []) (items_view (drop (i + 1) values))))
      (sym is) (at_drop_more (λ vs. bytes_of table k done (items_view vs)) values i value lt)

  byte_or_fault : (fault : BoardFault) (r : Option ℕ) → some_or fault r ≡ ok_or r fault
  byte_or_fault fault None = refl
  byte_or_fault fault (Some n) = refl

  pub byte_read : (done : List ℕ) (values : List Value) (i : ℕ) (value : Value) (byte : ℕ)
      (fault : BoardFault) (whole : Result (List ℕ) BoardFault)
      → i < length values → value ≡ get_or values i value → fault ≡ bad done
      → ok_or (number_in 0 255 (view value)) fault ≡ Ok byte
      → bytes_of table k done (items_view (drop i values)) ≡ whole
      → bytes_of table k (done ++ byte ∷ []) (items_view (drop (i + 1) values)) ≡ whole
  byte_read done values i value byte fault whole lt is f read e =
      let byte_in = number_in 0 255 (view value) in
      let step = byte_or_fault (bad done) byte_in ∙ ap (ok_or byte_in) (sym f) ∙ read in
      rw step at (sym (read_at done values i value lt is)) ∙ e

  pub byte_refused : (done : List ℕ) (values : List Value) (i : ℕ) (value : Value)
      (fault given : BoardFault) (whole : Result (List ℕ) BoardFault)
      → i < length values → value ≡ get_or values i value → fault ≡ bad done
      → ok_or (number_in 0 255 (view value)) fault ≡ Err given
      → bytes_of table k done (items_view (drop i values)) ≡ whole → whole ≡ Err given
  byte_refused done values i value fault given whole lt is f read e =
      let byte_in = number_in 0 255 (view value) in
      let step = byte_or_fault (bad done) byte_in ∙ ap (ok_or byte_in) (sym f) ∙ read in
      sym e ∙ rw step at (read_at done values i value lt is)

-- an error that is passed on
pub passed_on : {X Y : Type 0} (view : X → Y) (r : Result X BoardFault) (fault : BoardFault)
    (read : Result Y BoardFault) → IsErrAnd r (λ e. e ≡ fault) → read ≡ Err fault
    → Gives view r read
passed_on view (Ok x) fault read is e = elim is [ ]
passed_on view (Err f) fault read is e = λ _. e ∙ ap Err (sym is)

pub passed_on_unless : {X Y : Type 0} (view : X → Y) (r : Result X BoardFault) (fault : BoardFault)
    (read : Result Y BoardFault) → IsErrAnd r (λ e. e ≡ fault)
    → (fault ≢ memory → read ≡ Err fault) → Gives view r read
passed_on_unless view (Ok x) fault read is e = elim is [ ]
passed_on_unless view (Err f) fault read is e = λ real. e (λ m. real (is ∙ m)) ∙ ap Err (sym is)

pub out_of_memory : {X Y : Type 0} (view : X → Y) (r : Result X BoardFault)
    (read : Result Y BoardFault) → IsErrAnd r (λ e. e ≡ memory) → Gives view r read
out_of_memory view (Ok x) read is = elim is [ ]
out_of_memory view (Err f) read is = λ real. absurd (real is)
