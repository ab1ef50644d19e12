-- How a run ends, by what stopped it.
use Rattle.run_app.specs.declared.status.Status.{Status}
use Rattle.run_app.specs.declared.status.Status.TheVariants.{Usage, BadInput, Limit, WriteFault, KeepFault, NoMemory}
use Rattle.run_app.specs.declared.status.LimitKind.TheVariants.{Line, Ratio}
use Rattle.run_app.specs.declared.status.LineStop.{LineStop}
use Rattle.run_app.specs.declared.status.LineStop.TheVariants as stop
use Rattle.run_words.specs.declared.fault.WordsFault.{WordsFault}
use Rattle.run_words.specs.declared.fault.WordsFault.TheVariants as words

abbrev pub status_of : LineStop → Status
status_of (stop.BadInput n fault) = BadInput n fault
status_of (stop.Long n) = Limit n Line
status_of (stop.Ratio n over) = Limit n (Ratio over)
status_of stop.Write = WriteFault
status_of stop.Keep = KeepFault
status_of stop.NoMemory = NoMemory

-- of a run whose words ask for nothing
abbrev pub status_of_words : WordsFault → Status
status_of_words words.Usage = Usage
status_of_words words.NoMemory = NoMemory
