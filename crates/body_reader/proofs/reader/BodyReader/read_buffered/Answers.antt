-- Nobody was asked, so what was taken and what is left are together what was buffered.
use Rattle.body_reader.proofs.Showing.{shown_reads}
use Rattle.body_reader.proofs.Said.{buffered_says}
use Rattle.body_reader.proofs.reader.BodyReader.read_buffered.Goals as goal

pub invariant_of-self : goal.invariant_of-self
invariant_of-self g c =
    (shown_reads _ _ _ (g.met.C.Coding.lawful _) _ _ _ _ _ c.self.invariant _ _ _ _ _ c.hand_buffered-count.ensures.hands _
    c.note_some.ensures).whole

pub returns : goal.returns
returns g c =
    let says = buffered_says _ _
    (shown_reads _ _ _ (g.met.C.Coding.lawful _) _ _ _ _ _ c.self.invariant _ _ _ _ _ c.hand_buffered-count.ensures.hands _
    c.note_some.ensures) in
    rw (← c.self.view_is)
    (record { least = says.least; taken = says.taken; rest = c.hand_buffered-count.ensures.rest; reads = says.reads })
