-- Laws of a writer of pieces, for the proofs of those who call one.
use Rattle.std.specs.Prelude.{◌≡◌, ℕ, List, [], ◌++◌}
use Rattle.std.proofs.Common.{sym, ap, subst, ◌∙◌, refl}
use Rattle.std.proofs.lemmas.List.Concat.{flat_map-append}
use Rattle.std.proofs.lemmas.List.Elements.{All-nil, All-append}
use Rattle.buffer_redux.specs.BufWriter.{WritesInOrder}
use Rattle.buffer_redux.specs.StreamLog.{StreamLog}
use Rattle.buffer_redux.specs.WriterLaws.{WritesInOrder-none, WritesInOrder-joins, WritesInOrder-fresh}
use Rattle.codec.specs.Encoding.{Encoding, coded, all_coded}
use Rattle.codec.specs.PieceWriter.{WriterState, IsUnused, unsent}
use Rattle.codec.specs.WritePiece.{PiecesTaken}

module _ {S E W : Type 0} (trace : S → S → Type 0) (e : Encoding W) where
  -- no call takes in nothing, and calls join
  pub PiecesTaken-none : ((x : S) → trace x x) → (s : WriterState S E) → PiecesTaken trace e s [] s
  PiecesTaken-none none s = record {
    fit = All-nil e.takes;
    in_order = WritesInOrder-none s.writer;
    calls = none s.writer.inner;
    capacity = refl;
    limit = refl;
    encoder = refl;
  }

  pub PiecesTaken-joins : ((a b c : S) → trace a b → trace b c → trace a c) → (s m t : WriterState S E)
      (ps qs : List (List ℕ)) → PiecesTaken trace e s ps m → PiecesTaken trace e m qs t
      → PiecesTaken trace e s (ps ++ qs) t
  PiecesTaken-joins joins s m t ps qs p q = record {
    fit = All-append e.takes ps qs p.fit q.fit;
    in_order = subst (λ l. WritesInOrder s.writer l t.writer) (sym (flat_map-append (coded e) ps qs))
        (WritesInOrder-joins s.writer m.writer t.writer (all_coded e ps) (all_coded e qs) p.in_order q.in_order);
    calls = joins s.writer.inner m.writer.inner t.writer.inner p.calls q.calls;
    capacity = q.capacity ∙ p.capacity;
    limit = q.limit ∙ p.limit;
    encoder = q.encoder ∙ p.encoder;
  }

  -- since the writer was made, what the stream received, then what is buffered, is the pieces that were taken in
  pub PiecesTaken-since : (tells : S → StreamLog) (least most : ℕ) (stream : S) (maker : E) (s t : WriterState S E)
      (payloads : List (List ℕ)) → IsUnused tells least most stream maker s → PiecesTaken trace e s payloads t
      → t.writer.log.writes.received ++ unsent t ≡ (tells stream).writes.received ++ all_coded e payloads
  PiecesTaken-since tells least most stream maker s t payloads unused taken =
      WritesInOrder-fresh s.writer t.writer (all_coded e payloads) unused.empty taken.in_order
      ∙ ap (λ l. l.writes.received ++ all_coded e payloads) unused.log
