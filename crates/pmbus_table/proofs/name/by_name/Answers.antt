use Rattle.std.proofs.Common.{◌≡◌, ◌∙◌, ap}
use Rattle.pmbus_table.specs.Commands.{command_in, command_named}
use Rattle.pmbus_table.proofs.NameLaws.{row_command, row_spelled, row_only}
use Rattle.pmbus_table.proofs.NameLaws.{digits_spelled, digits_only}
use Rattle.pmbus_table.proofs.name.by_name.Goals as goal

pub returns-in-Some : goal.returns-in-Some
returns-in-Some c =
    let read : c.by_code.result ≡ command_named c.args.name.now =
    c.by_code.ensures.value ∙ row_command _ _ c.in-Some.ensures in
    record {
      value = read;
      spelled = row_spelled _ _ _ c.in-Some.ensures read;
      only = row_only _ _ _ c.in-Some.ensures read;
    }

pub returns-in-None : goal.returns-in-None
returns-in-None c =
    let read : c.manufacturer_named.result ≡ command_named c.args.name.now =
    c.manufacturer_named.ensures.value ∙ ap (command_in c.args.name.now) c.in-None.ensures in
    record {
      value = read;
      spelled = digits_spelled _ _ c.manufacturer_named.ensures.spelled;
      only = digits_only _ _ read c.manufacturer_named.ensures.only;
    }
