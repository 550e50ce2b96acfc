-- A first read that succeeded is the only one.
use Rattle.redux_buffer.specs.Retried.{Retried-once}
use Rattle.buffer_redux.proofs.all_bytes.read_behind.Goals as goal

pub returns-in-Ok : goal.returns-in-Ok
returns-in-Ok g c = record { row = λ s was one. Retried-once _ (s, was) _ _ (rw (← c.in-Ok.is) one) }
