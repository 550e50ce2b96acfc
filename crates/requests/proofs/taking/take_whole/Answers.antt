-- Where no more of the body comes it has ended, so it can be finished, and the stream is asked for nothing.
use Rattle.std.proofs.Common.{◌≡◌, ◌++◌, ◌∙◌, ap, false, length, Ok, subst, sym}
use Rattle.requests.proofs.Names.{body_rules, handed_of, is_large, IsAwaited, Prompt, stream_in, TakesWhole, TookWholeBody, whole_body}
use Rattle.requests.proofs.Reading.{finishes, inside_went, left_there}
use Rattle.requests.proofs.taking.take_whole.Goals as goal

pub returns-in-Ok-finish-clause-whole : goal.returns-in-Ok-finish-clause-whole
returns-in-Ok-finish-clause-whole g c =
    let b = c.args.body in
    let m = c.payload_len.new.body in
    let len = c.in-Ok.len in
    let read = c.in-Ok.ensures in
    let goes = read.goes.1 in
    let enters = c.requires.enters in
    let payload : handed_of m.body ≡ read.goes.0 =
    goes.went.handed ∙ ap (λ x. handed_of x.body ++ read.goes.0) enters.is in
    let wire : m.body.taken ≡ goes.went.wire = goes.went.taken ∙ ap (λ x. x.body.taken ++ goes.went.wire) enters.is in
    let many : len ≡ length read.goes.0 = read.many ∙ ap length payload in
    subst (λ u. TakesWhole g.R.TellRead.remaining b u len) (sym (left_there read.ended c.in-Ok-finish.ensures.ends)) (
      goes.went.wire,
      read.goes.0,
      inside_went goes,
      whole_body g.R.TellRead.remaining enters goes.went
          (subst (λ x. TookWholeBody (body_rules x) m.body) goes.went.coding read.ended),
      many,
      subst (λ n. is_large b.said.extent (length goes.went.wire) n ≡ false) many
          (subst (λ l. is_large b.said.extent (length l) len ≡ false) wire
          (subst (λ x. is_large x.extent (length m.body.taken) len ≡ false) goes.said read.small)),
    )

pub returns-in-Ok-finish-clause-writes : goal.returns-in-Ok-finish-clause-writes
returns-in-Ok-finish-clause-writes g c = subst (λ u. Prompt g.W.Tell.log g.W.TellWrite.trace
    (IsAwaited c.args.body.said.extent) (stream_in c.args.body, c.args.writer.now) (Ok tt) (u, c.payload_len.new.writer))
    (sym (left_there c.in-Ok.ensures.ended c.in-Ok-finish.ensures.ends)) c.in-Ok.ensures.writes

pub unreachable-requires : goal.unreachable-requires
unreachable-requires g c = finishes c.in-Ok.ensures.ended c.in-Err-finish.ensures.ends
