-- The statuses of the client.
use Rattle.std.specs.Prelude.{ℕ}
use Rattle.omos_client.specs.declared.ending.Ending.{Ending}
use Rattle.omos_client.specs.declared.ending.Ending.TheVariants as ends

abbrev pub client_status : Ending → ℕ
client_status ends.Done = 0
client_status ends.Refused = 1
client_status ends.Usage = 2
client_status ends.SourceFailed = 3
client_status ends.SinkFailed = 4
client_status ends.NotReply = 5
client_status ends.FileFailed = 6
client_status ends.Ended = 7
client_status ends.NoMemory = 8
client_status ends.FileTooLong = 10
client_status ends.OutputFailed = 11
client_status ends.ServerNoMemory = 12
