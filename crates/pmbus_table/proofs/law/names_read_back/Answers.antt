use Rattle.pmbus_table.proofs.NameLaws.{command_named-name_text, text_of_digits}
use Rattle.pmbus_table.proofs.law.names_read_back.Goals as goal

pub returns-clause-read : goal.returns-clause-read
returns-clause-read c = command_named-name_text c.numbers_read_back.ensures.pair

pub returns-clause-digits : goal.returns-clause-digits
returns-clause-digits c = text_of_digits
