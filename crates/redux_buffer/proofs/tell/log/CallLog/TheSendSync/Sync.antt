-- A `&` to a log holds a share of what a log owns, which is nothing.
use denote.Param.Send.{IsSync, owning_send, part_keyless}
use Rattle.redux_buffer.specs.contracts.tell.log.CallLog.{the_row, the_type}

pub sync : IsSync the_row
sync = record { shared = λ d b o κ q. part_keyless the_row (owning_send the_type tt (λ d. tt) (λ k x w. tt)) q d b o }
