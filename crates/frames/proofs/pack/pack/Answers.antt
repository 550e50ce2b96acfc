-- Buffers of such sizes are refused for want of memory alone, before any call; else what `pack_all` says holds.
use Rattle.std.proofs.Common.{◌≡◌, ◌+◌, ◌^◌, ◌∙◌, Err, arith, subst}
use Rattle.std.specs.declared.io.ErrorKind.TheVariants.{OutOfMemory}
use Rattle.buffer_redux.specs.GrowError.{FitsWithin}
use Rattle.frames.specs.Words.{error_kind, room_for}
use Rattle.frames.proofs.Packs.{only_memory, pack_refused}
use Rattle.frames.proofs.pack.pack.Goals as goal

pub returns-in-Err : goal.returns-in-Err
returns-in-Err g c =
    rw c.in-Err.ensures.handed_back
    (pack_refused c.args.most _ _ c.into.result
    (c.into.ensures ∙ only_memory 8192 (1 + c.args.most) c.in-Err.field-0.1 (omega arith) (omega (arith, c.ranges.most.fits))
    (subst (λ n. FitsWithin {T = Unit {0}} (Err c.in-Err.field-0.1) (room_for 8192 (1 + n)) (2 ^ 62)) c.from.ensures
    c.in-Err.ensures.within)))

pub returns-in-Err-with_capacity : goal.returns-in-Err-with_capacity
returns-in-Err-with_capacity g c =
    let memory : error_kind c.into-in-Err-with_capacity.result ≡ OutOfMemory =
    c.into-in-Err-with_capacity.ensures
    ∙ only_memory _ (2 + c.args.most) c.in-Err-with_capacity.field-0.1 (omega (arith, c.ranges.most.fits, c.from-2.ensures))
    (omega (arith, c.ranges.most.fits)) c.in-Err-with_capacity.ensures.within in
    rw (c.into_inner.ensures.log, c.in-Ok.ensures.made.log, c.in-Err-with_capacity.ensures.handed_back)
    (pack_refused c.args.most _ _ c.into-in-Err-with_capacity.result memory)
