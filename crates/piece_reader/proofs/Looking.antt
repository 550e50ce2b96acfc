-- Which looks the turns of `step_on` make.
use Rattle.std.proofs.Common.{◌≡◌, ℕ, suc, List, [], length, true, Bool, Option, Some, None, Result, Ok, Err, refl, sym, ap, subst, ◌∙◌, inr}
use Rattle.std.specs.declared.io.Error.{Error}
use Rattle.buffer_redux.specs.Asking.{AskedOver}
use Rattle.buffer_redux.specs.AskingLaws.{AskedOver-same}
use Rattle.piece_reader.specs.declared.decoder.Found.{Found}
use Rattle.piece_reader.specs.declared.decoder.Found.TheVariants.{More}
use Rattle.piece_reader.specs.declared.decoder.Span.{Span}
use Rattle.piece_reader.specs.declared.error.NextError.{NextError}
use Rattle.piece_reader.specs.declared.error.NextError.TheVariants.{Wrong, Io}
use Rattle.piece_reader.specs.Decoding.{OnMore}
use Rattle.piece_reader.specs.Grammar.{Grammar}
use Rattle.piece_reader.specs.Looking.{EndsLooks, IsAskedFor, LooksFromLast, LooksInTurn, LooksForMore, LookTells}
use Rattle.piece_reader.specs.PiecesWentLaws.{PiecesWent-joins}
use Rattle.piece_reader.specs.PieceReader.{ReaderState, left_of, rest}
use Rattle.piece_reader.specs.Steps.{AsksFor, TakesEnd}
use Rattle.piece_reader.proofs.Headers.{asked_last}
use Rattle.piece_reader.proofs.Loading.{LoadHead}

module _ {S D W : Type 0} (looks : D → LookTells W) (s : ReaderState S D) (need : ℕ) where
  -- these bytes were looked at in turn, and the last look asked for so many
  abbrev pub LooksTo : List ℕ → ℕ → Type 0
  LooksTo bytes asked = (count : ℕ) × LooksInTurn (looks s.decoder) (rest s) need count bytes asked

  module _ (remaining : S → Option (List ℕ)) (g : Grammar W) (m t : ReaderState S D) (asked : ℕ)
      (h : LoadHead remaining g s m asked) (to : LooksTo (rest m) asked) where
    module _ (a : AsksFor remaining g asked m (Ok true) t) (found : Found W) (look : looks t.decoder (rest t) t.seen found) where
      -- as many bytes came as were asked for, and are looked at from where the last look ended
      look_on : looks s.decoder (rest t) (length (rest m)) found
      look_on = subst (λ n. looks s.decoder (rest t) n found) (a.seen ∙ h.seen)
          (subst (λ d. looks d (rest t) t.seen found) (a.went.decoder ∙ h.header.went.decoder) look)

      pub looks_settle : OnMore found (λ _. ⊥) → EndsLooks (looks s.decoder) (rest m) asked (rest t)
      looks_settle settles = inr ((a.more refl).0, found, look_on, settles)

    pub looks_more : (a : AsksFor remaining g asked m (Ok true) t) (n : ℕ) → looks t.decoder (rest t) t.seen (More n)
        → LooksTo (rest t) n
    looks_more a n look = (
      suc to.0,
      (rest m, a.went.hands.got, asked, to.1, a.went.hands.equal, (a.more refl).0, look_on a (More n) look),
    )

    -- what came ends the looks, and no call of the reader inside follows
    pub looked_last : (answer : Result Bool Error) (v : ReaderState S D) → AsksFor remaining g asked m answer t
        → EndsLooks (looks s.decoder) (rest m) asked (rest t) → v.reader ≡ t.reader → LooksForMore looks s need v
    looked_last answer v a ends same =
        let went = PiecesWent-joins remaining g.most s m t [] [] h.header.went a.went in record {
          count = to.0;
          bytes = rest m;
          asked = asked;
          turns = to.1;
          last = λ going. subst
              (λ x. AskedOver (IsAskedFor (rest m) asked x.log.reads.offer) (left_of s) (record (left_of v) { log = x.log }))
              (sym same) (AskedOver-same (IsAskedFor (rest m) asked t.reader.log.reads.offer) (left_of s) (left_of t)
              (record (left_of v) { log = t.reader.log }) refl
              (asked_last remaining g s m h.header asked h.lacks answer t a going));
          got = went.hands.got;
          given = ap (λ x. x.log.reads.given) same ∙ went.hands.given;
          more = a.went.hands.got;
          all = sym went.hands.equal ∙ a.went.hands.equal;
          ends = subst (EndsLooks (looks s.decoder) (rest m) asked) went.hands.equal ends;
        }

-- at the end the reader inside isn't called
pub end_inside : {S D W : Type 0} (g : Grammar W) (s t : ReaderState S D) (answer : Result (Option Span) (NextError W))
    → TakesEnd g s answer t → t.reader ≡ s.reader
end_inside g s t (Ok None) (none, is) = ap (λ x. x.reader) is
end_inside g s t (Ok (Some span)) (some, within, last, is) = ap (λ x. x.reader) is
end_inside g s t (Err (Wrong e)) (some, cut, is) = ap (λ x. x.reader) is
end_inside g s t (Err (Io e)) ends = absurd ends

-- behind a look that asked for more, all that was left and came was looked at from where the last look ended
pub looks_on : {S D W : Type 0} (looks : D → LookTells W) (s m t : ReaderState S D) (need : ℕ)
    → looks s.decoder (rest s) s.seen (More need) → m ≡ record s { seen = length (rest s) } → LooksForMore looks m need t
    → LooksFromLast looks s t
looks_on looks s m t need look same on =
    let on' : LooksForMore looks (record s { seen = length (rest s) }) need t =
    subst (λ x. LooksForMore looks x need t) same on in (
      More need,
      look,
      record {
        count = on'.count;
        bytes = on'.bytes;
        asked = on'.asked;
        turns = on'.turns;
        last = on'.last;
        got = on'.got;
        given = on'.given;
        more = on'.more;
        all = on'.all;
        ends = on'.ends;
      },
    )
