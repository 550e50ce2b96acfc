-- The counts of faults follow from the steps of its writes.
use Rattle.buffer_redux.proofs.WriteAllCounts.{all_few, all_often}
use Rattle.buffer_redux.proofs.buf_writer.BufWriterWrite.write_all.Goals as goal

pub returns-clause-few : goal.returns-clause-few
returns-clause-few g c = all_few _ _ _ _ _ _ _ c.write_whole.ensures.steps

pub returns-clause-often : goal.returns-clause-often
returns-clause-often g c = all_often _ _ _ _ _ _ _ c.write_whole.ensures.steps
