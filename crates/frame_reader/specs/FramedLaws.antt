-- Laws of frames as pieces.
use Rattle.std.specs.Prelude.{◌≡◌, ℕ, suc, ◌+◌, ◌<◌, ◌≤◌, ◌^◌, List, [], ◌∷◌, ◌++◌, length, take, drop}
use Rattle.std.proofs.Common.{sym, ap, ◌∙◌, arith, refl, inl, append_assoc, append-nil, length-append, length-drop, length-take-le}
use Rattle.std.proofs.lemmas.List.Elements.{All-head, All-tail}
use Rattle.std.specs.List.{All}
use Rattle.codec.specs.Decoding.{IsPiece}
use Rattle.codec.specs.Encoding.{IsWritable, all_coded, coded}
use Rattle.codec.specs.Grammar.{IsLawful}
use Rattle.codec.specs.TextLaws as pieces
use Rattle.codec.specs.Texts.{HasPieces, IsPieces}
use Rattle.frame_reader.specs.declared.frame.FrameFault.TheVariants.{TooLong}
use Rattle.frame_reader.specs.Framed.{SplitsIntoFrames, framed, framed_out}
use Rattle.frame_reader.specs.Frames.{BeginsWith, Fits, frame, frames, header}
use Rattle.frame_reader.specs.FramesLaws.{frame-same, header-same}

begins-same : (a b : ℕ) (bytes : List ℕ) → BeginsWith a bytes → BeginsWith b bytes → a ≡ b
begins-same a b bytes s t = (header-same a b s.more t.more s.word t.word (sym s.equal ∙ t.equal)).0

begins-more : (len : ℕ) (bytes more : List ℕ) → BeginsWith len bytes → BeginsWith len (bytes ++ more)
begins-more len bytes more s = record {
  word = s.word;
  more = s.more ++ more;
  equal = ap (λ l. l ++ more) s.equal ∙ append_assoc (header len) s.more more;
}

size : (max : ℕ) (p a : List ℕ) → (framed max).piece p a → length p ≡ 2 + length a
size max p a is = ap length is.equal ∙ length-append (header (length a)) a

-- a whole frame is there
pub frame_there : (max len : ℕ) (bytes : List ℕ) → BeginsWith len bytes → len ≤ max → 2 + len ≤ length bytes
    → IsPiece (framed max) bytes (record { from = 2; len = len }) (2 + len)
frame_there max len bytes begins fits inside =
    let payload = take len (drop 2 bytes) in
    let size : length payload ≡ len = length-take-le len (drop 2 bytes) (omega (arith, inside, length-drop 2 bytes)) in
    record {
      inside = inside;
      within = omega arith;
      is = record {
        fits = omega (arith, size, fits);
        equal = front bytes len begins.more begins.equal ∙ ap (λ n. header n ++ payload) (sym size);
      };
    }
  where
    front : (bytes : List ℕ) (n : ℕ) (more : List ℕ) → bytes ≡ header n ++ more
        → take (2 + n) bytes ≡ header n ++ take n (drop 2 bytes)
    front bytes n more is =
        let count : 2 + n ≡ suc (suc n) = omega arith in
        ap (take (2 + n)) is ∙ ap (λ k. take k (header n ++ more)) count
        ∙ ap (λ l. header n ++ take n (drop 2 l)) (sym is)

module _ (max : ℕ) (word : max < 2 ^ 16) where
  begins-frame : (p a more : List ℕ) → (framed max).piece p a → BeginsWith (length a) (p ++ more)
  begins-frame p a more is = record {
    word = omega (arith, word, is.fits);
    more = a ++ more;
    equal = ap (λ l. l ++ more) is.equal ∙ append_assoc (header (length a)) a more;
  }

  pub framed_lawful : IsLawful (framed max)
  framed_lawful = record {
    one = λ p q xs ys a b is is' same.
        let parts = frame-same a b xs ys (omega (arith, word, is.fits)) (omega (arith, word, is'.fits))
        (ap (λ l. l ++ xs) (sym is.equal) ∙ same ∙ ap (λ l. l ++ ys) is'.equal) in
        (is.equal ∙ ap frame parts.0 ∙ sym is'.equal, parts.0);
    some = λ p a is. omega (arith, size max p a is);
    room = omega arith;
    apart = λ p a more e is wrong.
        let same = begins-same (length a) wrong.0.len (p ++ more) (begins-frame p a more is) wrong.0.begins in
        omega (arith, is.fits, wrong.0.above, same);
    reason = λ bytes e e' wrong wrong'.
        wrong.1 ∙ ap (λ n. TooLong n) (begins-same wrong.0.len wrong'.0.len bytes wrong.0.begins wrong'.0.begins)
        ∙ sym wrong'.1;
    stays = λ bytes more e wrong. (
      record {
        len = wrong.0.len;
        above = wrong.0.above;
        begins = begins-more wrong.0.len bytes more wrong.0.begins;
      },
      wrong.1,
    );
    nothing = λ e wrong.
        absurd (omega (
          arith,
          ap length wrong.0.begins.equal,
          length-append (header wrong.0.len) wrong.0.begins.more,
        ));
    one_last = λ bytes a b is is'. absurd is;
    end_apart = λ bytes a e is cut. is;
  }

  -- two readings of a stream are one
  pub SplitsIntoFrames-same : (stream : List ℕ) (ps qs : List (List ℕ)) (xs ys : List ℕ) → SplitsIntoFrames max stream ps xs
      → SplitsIntoFrames max stream qs ys → (ps ≡ qs) × (xs ≡ ys)
  SplitsIntoFrames-same stream ps qs xs ys a b = pieces.Splits-same (framed max) framed_lawful stream ps qs xs ys
      (record { equal = pieces_of max stream ps xs a.fit a.equal; no_more = a.no_more })
      (record { equal = pieces_of max stream qs ys b.fit b.equal; no_more = b.no_more })
    where
      pieces_of : (max : ℕ) (stream : List ℕ) (payloads : List (List ℕ)) (left : List ℕ) → All (Fits max) payloads
          → stream ≡ frames payloads ++ left → IsPieces (framed max) stream payloads left
      pieces_of max stream [] left fit is = is
      pieces_of max stream (p ∷ payloads) left fit is = (
        frames payloads ++ left,
        record {
          piece = frame p;
          is = record { fits = All-head (Fits max) p payloads fit; equal = refl };
          equal = is ∙ append_assoc (frame p) (frames payloads) left;
        },
        pieces_of max (frames payloads ++ left) payloads left (All-tail (Fits max) p payloads fit) refl,
      )

-- frames are a text of pieces
pub text_of : (max : ℕ) (payloads : List (List ℕ)) → All (Fits max) payloads
    → HasPieces (framed max) (frames payloads) payloads
text_of max [] fit = refl
text_of max (p ∷ payloads) fit = inl (
  frames payloads,
  record {
    piece = frame p;
    is = record { fits = All-head (Fits max) p payloads fit; equal = refl };
    equal = refl;
  },
  text_of max payloads (All-tail (Fits max) p payloads fit),
)

-- what is written of payloads is their frames
pub coded_frame : (max : ℕ) (payload : List ℕ) → coded (framed_out max) payload ≡ frame payload
coded_frame max payload = ap (λ l. header (length payload) ++ l) (append-nil payload)

pub coded_frames : (max : ℕ) (payloads : List (List ℕ)) → all_coded (framed_out max) payloads ≡ frames payloads
coded_frames max [] = refl
coded_frames max (p ∷ payloads) =
    ap (λ l. l ++ all_coded (framed_out max) payloads) (coded_frame max p)
    ∙ ap (λ l. frame p ++ l) (coded_frames max payloads)

pub framed_writable : (max : ℕ) → IsWritable (framed_out max)
framed_writable max = record {
  some = λ payload. omega (arith, length-append (header (length payload)) (payload ++ []));
  most = λ payload fits.
      omega (arith, fits, ap length (coded_frame max payload), length-append (header (length payload)) payload);
  apart = λ payload len fits refused. omega (arith, fits, refused.0, refused.1);
}

pub framed_back : (max : ℕ) (payload : List ℕ) → Fits max payload → (framed max).piece (coded (framed_out max) payload) payload
framed_back max payload fits = record { fits = fits; equal = coded_frame max payload }
