-- Which device failed, from why a reader wasn't read to its end.
use Rattle.session.specs.declared.intake.ReadFault.{ReadFault}
use Rattle.session.specs.declared.intake.ReadFault.TheVariants as reading
use Rattle.session.specs.declared.answering.DeviceFault.{DeviceFault}
use Rattle.session.specs.declared.answering.DeviceFault.TheVariants as devices

abbrev pub device_of : ReadFault → DeviceFault
device_of reading.Memory = devices.Memory
device_of reading.Reader = devices.Reader
