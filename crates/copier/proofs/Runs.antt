-- What a copy between buffers that were empty says of the streams inside, by how it ended.
use Rattle.std.proofs.Common.{◌≡◌, ◌∙◌, ◌<◌, ◌⊎◌, inl, inr, ℕ, List, length, Option, Result, Ok, Err, IfOk, IfErr, MatchResult, IsErrAnd, arith}
use Rattle.std.specs.IoError.{error_kind}
use Rattle.std.specs.declared.io.Error.{Error}
use Rattle.std.specs.declared.io.ErrorKind.TheVariants.{WriteZero}
use Rattle.buffer_redux.specs.Block.{IsBlock}
use Rattle.buffer_redux.specs.Buffered.{Buffered}
use Rattle.buffer_redux.specs.BufWriter.{WasFlushed}
use Rattle.buffer_redux.specs.Copy.{CopyBuf, CopyRows}
use Rattle.buffer_redux.specs.Policy.{std_read_rules, std_write_rules}
use Rattle.buffer_redux.specs.ReaderTells.{ReaderWent, reader_log}
use Rattle.buffer_redux.specs.StreamLog.{StreamLog}
use Rattle.buffer_redux.specs.WriterTells.{WriterCalled, WriterWent, writer_log}
use Rattle.buffer_redux.specs.declared.policy.StdPolicy.{StdPolicy}
use Rattle.programs.specs.Streams.{EndsOnce, IsEmptyBuffer}
use Rattle.copier.specs.Copy.{CopiesAll, Copied, HoldsBackAtMost, IsBeginning, RunStopped, most_held}
use Rattle.copier.proofs.Holding.{copy_holds, flush_holds}
use Rattle.copier.proofs.Moving.{copy_begins, copy_caused, copy_often, copy_once, copy_unflushed, flush_begins, flush_caused, flush_copied, flush_often, flushed_at_most, left_caused, offers_all}

module _ {R W : Type 0} (remaining : R → Option (List ℕ)) (tells : W → StreamLog) (trace : W → W → Type 0)
    (s s' : Buffered R StdPolicy) (t : Buffered W StdPolicy) (source : IsEmptyBuffer 1 s.block) (target : IsEmptyBuffer 1 t.block)
    (whole : IsBlock s.block) (went : ReaderWent remaining std_read_rules s s') where
  -- what was moved, and what came of it
  abbrev Comes : Result ℕ Error → Buffered W StdPolicy → Type 0
  Comes answer v = IsBeginning s.log s'.log t.log v.log × IfOk answer (λ total. Copied total s.log s'.log t.log v.log)
      × IfErr answer (λ e. RunStopped e s.log s'.log t.log v.log)
      × HoldsBackAtMost (most_held t.block.capacity) s.log s'.log t.log v.log

  abbrev Copies : Result ℕ Error → Buffered W StdPolicy → Type 0
  Copies answer m = CopyBuf writer_log (WriterWent trace std_write_rules) (WriterCalled tells trace std_write_rules) answer
      (reader_log s).fills (reader_log s').fills t m

  abbrev Ends : Result ℕ Error → Result ℕ Error → Buffered W StdPolicy → Buffered W StdPolicy → Type 0
  Ends copying answer m v = MatchResult copying
      (λ total. ((0 < length s'.block.bytes) × IsErrAnd answer (λ e. error_kind e ≡ WriteZero) × (v ≡ m))
      ⊎ ((length s'.block.bytes ≡ 0) × MatchResult answer (λ n. (n ≡ total) × WasFlushed tells trace m (Ok tt) v)
      (λ e. WasFlushed tells trace m (Err e) v)))
      (λ e. (answer ≡ Err e) × (v ≡ m))

  module _ (m v : Buffered W StdPolicy) (went' : WriterWent trace std_write_rules t m)
      (holds : HoldsBackAtMost (most_held t.block.capacity) s.log s'.log t.log m.log) where
    comes : (copying answer : Result ℕ Error) → Copies copying m → Ends copying answer m v → Comes answer v
    comes (Err e) answer copy (is, same) = rw (is, same) (
      copy_begins went went' source.bytes target.bytes copy.moved.0 copy.moved.1,
      tt,
      record {
        caused = copy_caused went went' source.bytes target.bytes e copy.failed;
        often = copy_often went went' source.bytes target.bytes e copy.failed copy.often;
        not_flushed = copy.moved.1.not_flushed;
        flushes = inl (copy_unflushed went went' source.bytes target.bytes copy.moved.0 copy.moved.1);
      },
      holds,
    )
    comes (Ok total) (Ok n) copy (inl left) = absurd left.1
    comes (Ok total) (Err e) copy (inl (some, zero, same)) = rw same (
      copy_begins went went' source.bytes target.bytes total copy.moved,
      tt,
      record {
        caused = inl (left_caused went went' source.bytes target.bytes copy.ended e zero some
            (omega (arith, target.capacity)));
        often = λ is. (let kind = zero in cc);
        not_flushed = copy.moved.not_flushed;
        flushes = inl (copy_unflushed went went' source.bytes target.bytes total copy.moved);
      },
      holds,
    )
    comes (Ok total) (Ok n) copy (inr (none, all)) =
        let flushed = all.1 in (
          flush_begins went went' source.bytes target.bytes total copy.moved v flushed.in_order,
          rw all.0 (flush_copied went went' source.bytes target.bytes copy.ended none v total copy.moved
              (omega (arith, source.capacity)) flushed.in_order flushed.steps flushed.ok),
          tt,
          flush_holds (most_held t.block.capacity) s.log s'.log t.log m v holds flushed.in_order,
        )
    comes (Ok total) (Err e) copy (inr (none, flushed)) =
        let room : 0 < s.block.capacity = omega (arith, source.capacity) in (
          flush_begins went went' source.bytes target.bytes total copy.moved v flushed.in_order,
          tt,
          record {
            caused = inl (flush_caused went went' source.bytes target.bytes copy.ended none v e flushed.caused);
            often = flush_often went went' source.bytes target.bytes copy.ended none v total copy.moved room flushed.in_order e
                flushed.steps;
            not_flushed = flushed.not_flushed ∙ copy.moved.not_flushed;
            flushes = flushed_at_most went went' source.bytes target.bytes copy.ended none v total copy.moved room
                flushed.in_order e flushed.steps;
          },
          flush_holds (most_held t.block.capacity) s.log s'.log t.log m v holds flushed.in_order,
        )

  ends_once : (copying : Result ℕ Error) (m : Buffered W StdPolicy) → WriterWent trace std_write_rules t m → Copies copying m
      → EndsOnce s.log.reads s'.log.reads
  ends_once (Ok n) m went' copy =
      copy_once went went' source.bytes target.bytes tells (omega (arith, target.capacity)) copy.one_end
  ends_once (Err e) m went' copy = copy_once went went' source.bytes target.bytes tells (omega (arith, target.capacity))
      (λ takes. omega (arith, copy.one_end takes))

  -- all that a copy comes to
  pub copies_say : (copying answer : Result ℕ Error) (m v : Buffered W StdPolicy) → Copies copying m
      → CopyRows reader_log writer_log (ReaderWent remaining std_read_rules) (WriterWent trace std_write_rules)
      (WriterCalled tells trace std_write_rules) copying (record { source = s; target = t }) (record { source = s'; target = m })
      → WriterWent trace std_write_rules t m → Ends copying answer m v
      → record {
        a_beginning : IsBeginning s.log s'.log t.log v.log;
        copied : IfOk answer (λ total. Copied total s.log s'.log t.log v.log);
        stopped : IfErr answer (λ e. RunStopped e s.log s'.log t.log v.log);
        once : EndsOnce s.log.reads s'.log.reads;
        all : CopiesAll remaining tells trace answer s s' t v;
        offers : (s'.log.reads ≡ s.log.reads) ⊎ (s'.log.reads.offer ≡ s.block.capacity);
        sends : HoldsBackAtMost (most_held t.block.capacity) s.log s'.log t.log v.log;
      }
  copies_say copying answer m v copy turns went' ended =
      let came = comes m v went' (copy_holds remaining tells trace went went' source.bytes target.bytes whole copying copy turns)
      copying answer copy ended in
      record {
        a_beginning = came.0;
        copied = came.1;
        stopped = came.2;
        once = ends_once copying m went' copy;
        all = record {
          copying = copying;
          copied = m;
          copy = copy;
          turns = turns;
          source = went;
          target = went';
          ended = ended;
        };
        offers = offers_all went whole;
        sends = came.3;
      }
