-- The form and the command of an entry that is read.
use Rattle.std.proofs.Common.{◌≡◌, ◌≢◌, ℕ, List, Bool, true, false, cond, Option, Some, None}
use Rattle.std.proofs.Common.{option_map, option_and_then, unwrap_or, codes, Ok, refl}
use Rattle.std.specs.Prelude.{IsTrue}
use Rattle.std.specs.Str.{bytes_eq}
use Rattle.toml.specs.Data.{Members}
use Rattle.smbus.specs.declared.message.Form.{Form}
use Rattle.smbus.specs.declared.message.Form.TheVariants.{Quick, SendByte, ReceiveByte, WriteByte}
use Rattle.smbus.specs.declared.message.Form.TheVariants.{WriteWord, ReadByte, ReadWord}
use Rattle.smbus.specs.declared.message.Form.TheVariants.{ProcessCall, BlockWrite, BlockRead}
use Rattle.smbus.specs.declared.message.Form.TheVariants.{BlockProcessCall, Alert}
use Rattle.smbus.specs.FormWords.{form_named, carries_code}
use Rattle.texts.specs.Reading.{some_or}
use Rattle.pmbus_table.specs.Commands.{command_named, takes_form}
use Rattle.board.specs.declared.key.Key.TheVariants as key
use Rattle.board.specs.declared.fault.FaultKind.TheVariants.{UnknownCommand}
use Rattle.board.specs.declared.site.Place.{Place}
use Rattle.board.specs.Sites.{key_fault}
use Rattle.board.specs.Fields.{text_at}
use Rattle.board.specs.Entries.{form_at, command_at, command_for}
use Rattle.board.proofs.Steps.{some_ok, chosen_some}

next : (b : Bool) (g f : Form) (rest : Option Form) → g ≢ Alert → (rest ≡ Some f → f ≢ Alert)
    → cond b (Some g) rest ≡ Some f → f ≢ Alert
next true g f rest n k e a = n (cc)
next false g f rest n k e a = k e a

none_next : (f : Form) → None ≡ Some f → f ≢ Alert
none_next f e = absurd cc

named : (w : List ℕ) (f : Form) → form_named w ≡ Some f → f ≢ Alert
unfolding form_named
named w f =
    next (bytes_eq w (codes "quickwrite")) (Quick false) f _ (λ e. cc)
    (next (bytes_eq w (codes "quickread")) (Quick true) f _ (λ e. cc)
    (next (bytes_eq w (codes "send")) SendByte f _ (λ e. cc)
    (next (bytes_eq w (codes "receive")) ReceiveByte f _ (λ e. cc)
    (next (bytes_eq w (codes "writebyte")) WriteByte f _ (λ e. cc)
    (next (bytes_eq w (codes "writeword")) WriteWord f _ (λ e. cc)
    (next (bytes_eq w (codes "readbyte")) ReadByte f _ (λ e. cc)
    (next (bytes_eq w (codes "readword")) ReadWord f _ (λ e. cc)
    (next (bytes_eq w (codes "call")) ProcessCall f _ (λ e. cc)
    (next (bytes_eq w (codes "blockwrite")) BlockWrite f _ (λ e. cc)
    (next (bytes_eq w (codes "blockread")) BlockRead f _ (λ e. cc)
    (next (bytes_eq w (codes "blockcall")) BlockProcessCall f None (λ e. cc)
    (none_next f))))))))))))

pub form_to_target : (ms : Members) (f : Form) → form_at ms ≡ Some f → f ≢ Alert
form_to_target ms f e = by (text_at key.Form ms) e
  where
    by : (o : Option (List ℕ)) → option_and_then form_named o ≡ Some f → f ≢ Alert
    by None e = absurd cc
    by (Some w) e = named w f e

-- what is known of an entry's command
pub record CommandFits (f : Form) (command : Option ℕ) : Type 0 where
  pub takes : IsTrue (carries_code f) → IsTrue (takes_form (unwrap_or command 0) f)
  pub bare : carries_code f ≡ false → unwrap_or command 0 ≡ 0

command_takes : (f : Form) (ms : Members) (c : ℕ) → command_at f ms ≡ Some c → takes_form c f ≡ true
command_takes f ms c e = by (option_and_then command_named (text_at key.Command ms)) e
  where
    by : (o : Option ℕ) → option_and_then (λ c. cond (takes_form c f) (Some c) None) o ≡ Some c
        → takes_form c f ≡ true
    by None e = absurd cc
    by (Some d) e =
        let p = chosen_some (takes_form d f) d c e in
        rw (← p.1) p.0

pub command_fits : (table : Place) (f : Form) (ms : Members) (command : Option ℕ)
    → command_for table f ms ≡ Ok command → CommandFits f command
command_fits table f ms command e = by (carries_code f) refl e
  where
    taken : (o : Option ℕ) → command_at f ms ≡ o → option_map Some o ≡ Some command
        → carries_code f ≡ true → CommandFits f command
    taken None s e h = absurd cc
    taken (Some c) s e h =
        let same : Some c ≡ command = cc in
        rw (← same) (record { takes = λ t. command_takes f ms c s; bare = λ n. absurd cc })

    by : (b : Bool) → carries_code f ≡ b
        → cond b
        (some_or (key_fault UnknownCommand table key.Command) (option_map Some (command_at f ms)))
        (Ok None) ≡ Ok command
        → CommandFits f command
    by true h e =
        taken (command_at f ms) refl
        (some_ok _ (option_map Some (command_at f ms)) command e) h
    by false h e =
        let same : None ≡ command = cc in
        rw (← same) (record { takes = λ t. absurd cc; bare = λ n. refl })
