-- The reader is new over the stream, so its lines are those of the text, and the writer holds just what was flushed.
use Rattle.std.proofs.Common.{◌≡◌, ◌∙◌, ◌^◌, [], ap, arith, inl, inr, refl, sym}
use Rattle.std.proofs.lemmas.Option.{IfSome_then}
use Rattle.buffer_redux.specs.Block.{Plain}
use Rattle.buffer_redux.specs.LineWriter.{line_rules}
use Rattle.buffer_redux.specs.Policy.{std_read_rules}
use Rattle.buffer_redux.specs.ReaderLaws.{Makes-left, ReadsToEnd-known, WantsBytes-std}
use Rattle.buffer_redux.specs.Told.{ToldWrites-joins, told_log, told_stream}
use Rattle.buffer_redux.specs.WritesAlongLaws.{FlushedAlong-held, FlushedAlong-of}
use Rattle.uses.proofs.Lines.{HandsLines-known}
use Rattle.uses.proofs.filter.filter.Goals as goal

pub returns : goal.returns
returns g c =
    let s = c.new-lines.result in
    let (lines, last, m, went, ended) = c.in_ok-matching.ensures in
    let left = Makes-left (λ t. g.R.Read.remaining (told_stream t)) std_read_rules told_log Plain 8192 (2 ^ 62) c.new.result
    c.in_ok-reader.reader c.in_ok-reader.ensures.made (WantsBytes-std c.in_ok-reader.reader.policy) (omega arith)
    ∙ ap g.R.Read.remaining c.new.ensures.stream in
    let known = rw left at (HandsLines-known _ _ lines c.in_ok-reader.reader last went.hands) in
    let made = c.in_ok-new.ensures.made.made in
    let is : s ≡ c.in_ok-new.field-0 = c.new-lines.ensures in
    let inner = ap (λ x. x.inner) is ∙ made.inner in
    let made = c.in_ok-new.ensures.made.made in
    let is : s ≡ c.in_ok-new.field-0 = c.new-lines.ensures in
    let inner = ap (λ x. x.inner) is ∙ made.inner in
    let before : told_stream s.inner ≡ c.args.to = ap told_stream inner ∙ c.new-3.ensures.stream in
    let after : told_stream c.matching.new.writer.inner ≡ c.into_inner-2.result =
    sym (c.into_inner-2.ensures
    ∙ ap told_stream (c.into_inner_with_buffer.ensures.inner ∙ ap (λ x. x.inner) c.into_inner.ensures)) in
    let none : s.block.bytes ≡ [] = ap (λ x. x.block.bytes) is ∙ made.new.bytes in
    elim ended [
      | inr odd ↦ absurd odd
      | inl (at, end, flushed) ↦
          let along = FlushedAlong-of _ _ _ (ToldWrites-joins g.W.Write.contents) s m c.matching.new.writer went.out _ went.along
          flushed in
          let held = FlushedAlong-held g.W.Write.contents line_rules s went.out c.matching.new.writer
          (ap (λ x. x.log) is ∙ made.log ∙ sym (ap told_log inner)) along in
          IfSome_then (g.R.Read.remaining c.args.from) known (λ text (rest, left, are). record {
            lines = lines;
            are = rw (rw left at (ReadsToEnd-known _ _ last [] c.matching.new.reader (λ xs. xs ≡ []) end refl)) at are;
            out = went.out;
            goes_on = went.goes_on;
            written = rw (before, after, none) at held;
          })
    ]
