-- What a run writes that has one text to write.
use Rattle.std.specs.Prelude.{◌≡◌, ℕ, List, Option, Result, Ok, Err, ⊤}
use Rattle.base_io.specs.declared.outside.SinkFault.{SinkFault}
use Rattle.base_io.specs.declared.outside.SinkFault.TheVariants as fault
use Rattle.run_generated.specs.Writing.{Grows, IsFront}
use Rattle.run_app.specs.declared.status.Status.{Status}
use Rattle.run_app.specs.Seen.{SinkTold, SourceTold}
use Rattle.run_app.specs.declared.status.Status.TheVariants.{Done, WriteFault, NoMemory}

-- how a run ends that has written its text, or could not
abbrev pub status_of_sink : Result ⊤ SinkFault → Status
status_of_sink (Ok done) = Done
status_of_sink (Err fault.Failed) = WriteFault
status_of_sink (Err fault.NoMemory) = NoMemory

-- What a run has written that is to write this text: all of it, or a front of it at a fault of the sink and where memory is
-- wanting. At a fault the front is all of it where the flush failed.
abbrev pub IsWritten : List ℕ → Status → List ℕ → Type 0
IsWritten whole Done text = text ≡ whole
IsWritten whole WriteFault text = IsFront text whole
IsWritten whole NoMemory text = IsFront text whole
IsWritten whole _ text = ⊥

-- There is a text that came to the sink, as the sink tells it where it does, and it is so.
abbrev pub Adds : Option (List ℕ) → Option (List ℕ) → (List ℕ → Type 0) → Type 0
Adds written written' P = (text : List ℕ) × Grows written written' text × P text

abbrev pub Writes : List ℕ → Option (List ℕ) → Option (List ℕ) → Status → Type 0
Writes whole written written' status = Adds written written' (IsWritten whole status)

-- nothing was taken from the source, and this came to the sink
abbrev pub Leaves : SourceTold → SinkTold → (List ℕ → Type 0) → Type 0
Leaves source sink P = (source.left' ≡ source.left) × Adds sink.written sink.written' P
