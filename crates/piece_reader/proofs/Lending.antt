-- Where the payload is that a step went on to.
use Rattle.std.proofs.Common.{◌≡◌, ℕ, ◌+◌, length, take, drop, sym, ap, subst, ◌∙◌, arith, inl, inr, refl, Option, Result, Ok, Err, Some, None, IfOk, IfSome}
use Rattle.std.proofs.lemmas.List.{drop-drop, drop-take}
use Rattle.piece_reader.specs.declared.decoder.Found.TheVariants as found
use Rattle.piece_reader.specs.declared.decoder.Span.{Span}
use Rattle.piece_reader.specs.declared.error.NextError.{NextError}
use Rattle.piece_reader.specs.declared.error.NextError.TheVariants.{Wrong, Io}
use Rattle.piece_reader.specs.Decoding.{IsLent, bytes_at}
use Rattle.piece_reader.specs.Grammar.{Grammar, IsOpen}
use Rattle.piece_reader.specs.PieceReader.{ReaderState, IsPieceReader, rest}
use Rattle.piece_reader.specs.Steps.{Takes, TakesEnd}
use Rattle.piece_reader.proofs.Reading.{rest_whole}

-- the span is lent out of this reader
abbrev pub Lends : {S D W : Type 0} → (D → Grammar W) → ReaderState S D → Span → Type 0
Lends grammar t span = IsLent (grammar t.decoder) t.handed t.reader.block.bytes span

module _ {S D W : Type 0} (grammar : D → Grammar W) (s t : ReaderState S D) where
  -- of a piece that was buffered whole, as the place was told of what was left
  pub lends_piece : (at : ℕ) → at ≡ s.handed → IsPieceReader (grammar s.decoder) t → (span : Span) (used : ℕ)
      → Takes (grammar s.decoder) s (found.Piece span used) t → Lends grammar t (record { from = at + span.from; len = span.len })
  lends_piece at is whole span used takes =
      let bytes = s.reader.block.bytes in
      let there : Span = record { from = at + span.from; len = span.len } in
      let same = takes.1 in
      let shown : bytes_at span (rest s) ≡ bytes_at there bytes =
      ap (take span.len) (drop-drop span.from s.handed bytes) ∙ ap (λ n. take span.len (drop (n + span.from) bytes)) (sym is) in
      let piece : take used (rest s) ≡ drop s.handed (take (s.handed + used) bytes) = sym (drop-take s.handed used bytes) in
      subst (λ x. Lends grammar x there) (sym same) (record {
        start = s.handed;
        after = omega (arith, is);
        within = omega (arith, is, takes.0.within);
        inside = omega (arith, (subst (IsPieceReader (grammar s.decoder)) same whole).handed);
        is = inl (subst (λ p. (grammar s.decoder).piece p (bytes_at there bytes)) piece
            (subst ((grammar s.decoder).piece (take used (rest s))) shown takes.0.is));
      })

  -- of one that stands at the front
  pub lends_first : s.handed ≡ 0 → IsPieceReader (grammar s.decoder) t → (span : Span) (used : ℕ)
      → Takes (grammar s.decoder) s (found.Piece span used) t → Lends grammar t span
  lends_first none whole span used takes =
      let here : 0 + span.from ≡ span.from = omega arith in
      subst (λ n. Lends grammar t (record { from = n; len = span.len })) here (lends_piece 0 (sym none) whole span used takes)

  -- of the last one
  pub lends_end : s.handed ≡ 0 → IsOpen (grammar s.decoder) (rest s) → (r : Result (Option Span) (NextError W))
      → TakesEnd (grammar s.decoder) s r t
      → IfOk r (λ found. IfSome found (Lends grammar t))
  lends_end none open' (Ok None) takes = tt
  lends_end none open' (Err (Wrong e)) takes = tt
  lends_end none open' (Err (Io e)) takes = tt
  lends_end none open' (Ok (Some span)) (some, within, last, same) =
      let g = grammar s.decoder in
      let bytes = s.reader.block.bytes in
      let len = length (rest s) in
      let left : rest s ≡ bytes = rest_whole s none in
      subst (λ x. Lends grammar x span) (sym same) (record {
        start = 0;
        after = omega arith;
        within = within;
        inside = omega (arith, ap length left);
        is = inr (
          refl,
          ap length left,
          subst (IsOpen g) left open',
          subst (λ l. g.last l (bytes_at span l)) left last,
        );
      })
