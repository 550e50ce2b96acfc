-- Laws of which looks a reader of pieces makes.
use Rattle.std.specs.Prelude.{◌≡◌, ℕ, zero, suc, List, ◌++◌, drop, length, take, false, Option}
use Rattle.std.proofs.Common.{inl, inr, sym, subst}
use Rattle.std.proofs.lemmas.List.{take-append-drop}
use Rattle.buffer_redux.specs.Asking.{AskedWhere}
use Rattle.buffer_redux.specs.AskingLaws.{AskedWhere-of}
use Rattle.piece_reader.specs.declared.decoder.Found.TheVariants.{Piece, More, Wrong}
use Rattle.piece_reader.specs.Decoding.{bytes_at}
use Rattle.piece_reader.specs.Grammar.{Grammar, IsLawful}
use Rattle.piece_reader.specs.Looking.{IsAskedFor, LooksFromLast, LooksInTurn, LookSays, LookTells}
use Rattle.piece_reader.specs.NextPiece.{AskedUnlessEnded, NextAnswer, NextPiece}
use Rattle.piece_reader.specs.NextPieceLaws.{NextPiece-ready, NextPiece-wrong}
use Rattle.piece_reader.specs.PieceReader.{ReaderState, left_of, rest}

-- these bytes are fewer than a look at the first of them asked for, and an offer has room for as many
abbrev pub WasAskedFor : {W : Type 0} → LookTells W → ℕ → List ℕ → Type 0
WasAskedFor looks offer bytes =
    (looked : List ℕ) × (seen asked : ℕ) × looks looked seen (More asked) × IsAskedFor looked asked offer bytes

-- what the last look in turn asked for was asked for by a look
last_look : {W : Type 0} (looks : LookTells W) (first : List ℕ) (seen need count : ℕ) (bytes : List ℕ) (asked : ℕ)
    → looks first seen (More need) → LooksInTurn looks first need count bytes asked
    → (seen : ℕ) × looks bytes seen (More asked)
last_look looks first seen need zero bytes asked look (same, is) =
    (seen, subst (λ n. looks bytes seen (More n)) (sym is) (subst (λ l. looks l seen (More need)) same look))
last_look looks first seen need (suc count) bytes asked look turn =
    let (before, more, n, turns, equal, enough, last) = turn in (length before, last)

module _ {S D W : Type 0} (remaining : S → Option (List ℕ)) (grammar : D → Grammar W) (law : (d : D) → IsLawful (grammar d))
    (looks : D → LookTells W) (s t : ReaderState S D) (answer : NextAnswer W)
    (next : NextPiece remaining (grammar s.decoder) s answer t) where
  abbrev pub offer : ℕ
  offer = t.reader.log.reads.offer

  last_asked : s.ended ≡ false → LooksFromLast (LookSays grammar looks) s t
      → AskedWhere (WasAskedFor (looks s.decoder) offer) (left_of s) (left_of t)
  last_asked going (Piece span used, look, on) =
      inl (NextPiece-ready remaining (grammar s.decoder) (law s.decoder) s answer t next (take used (rest s))
      (bytes_at span (rest s)) (drop used (rest s)) look.0.is (sym (take-append-drop used (rest s)))).2
  last_asked going (Wrong e, look, on) =
      inl (NextPiece-wrong remaining (grammar s.decoder) (law s.decoder) s answer t next e look.0).2
  last_asked going (More need, look, on) =
      let last = last_look (LookSays grammar looks s.decoder) (rest s) s.seen need on.count on.bytes on.asked look on.turns in
      AskedWhere-of (IsAskedFor on.bytes on.asked offer) (WasAskedFor (looks s.decoder) offer) (left_of s) (left_of t)
      (λ more is. (on.bytes, last.0, on.asked, last.1.1, is)) (inr (on.last going))

  -- a step asked the stream the last time for as many bytes as a look at what was there asked for, if that settles this much
  pub LooksFromLast-asked : (Such : List ℕ → Type 0) → ((bytes : List ℕ) → WasAskedFor (looks s.decoder) offer bytes → Such bytes)
      → LooksFromLast (LookSays grammar looks) s t → AskedUnlessEnded Such s t
  LooksFromLast-asked Such so looked = elim next.asked [
    | inl same ↦ inl same
    | inr over ↦ elim (AskedWhere-of (WasAskedFor (looks s.decoder) offer) Such (left_of s) (left_of t)
        (λ more was. so (rest s ++ more) was) (last_asked over.0 looked)) [
          | inl same ↦ inl same
          | inr last ↦ inr (over.0, last)
        ]
  ]
