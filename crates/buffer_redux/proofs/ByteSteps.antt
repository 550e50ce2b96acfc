-- The ends of a call for one byte.
use Rattle.std.proofs.Common.{◌≡◌, ℕ, ◌<◌, List, [], ◌∷◌, length, Result, Ok, Err, Option, None, Some, sym, ap, subst, arith}
use Rattle.std.specs.declared.io.Error.{Error}
use Rattle.buffer_redux.specs.Policy.{ReadRules}
use Rattle.buffer_redux.specs.Buffered.{Buffered}
use Rattle.buffer_redux.specs.BufReader.{ReadsToEnd}
use Rattle.buffer_redux.specs.ReadAll.{HandedFront}
use Rattle.buffer_redux.specs.ReadByte.{FillsAndTakes, ReadsByte, handed_byte}
use Rattle.buffer_redux.specs.ReaderLaws.{ReaderKeeps-along, WantsBytes}
use Rattle.buffer_redux.specs.ReadAllLaws.{HandedFront-joins}
use Rattle.buffer_redux.proofs.Retrying.{refilling, retried_dry}

module _ {S P : Type 0} (remaining : S → Option (List ℕ)) (rules : ReadRules P) where
  filled_front : (s : Buffered S P) (answer : Result (Option ℕ) Error) (t : Buffered S P)
      → FillsAndTakes remaining rules s answer t → HandedFront remaining rules s (handed_byte answer) t
  filled_front s (Ok (Some byte)) t f =
      HandedFront-joins remaining rules s f.0 t [] (byte ∷ []) ((refilling remaining rules).front s (Ok tt) f.0 f.1) f.2.0
  filled_front s (Ok None) t f =
      subst (HandedFront remaining rules s []) (sym f.2.1) ((refilling remaining rules).front s (Ok tt) f.0 f.1)
  filled_front s (Err e) t f = (refilling remaining rules).front s (Err e) t f

  -- the fill showed nothing
  filled_end : (s : Buffered S P) (t : Buffered S P) → FillsAndTakes remaining rules s (Ok None) t
      → WantsBytes (rules.claims s.policy) → 0 < s.block.capacity → ReadsToEnd remaining rules s [] t
  filled_end s t f wants some =
      let m = f.0 in
      let front = (refilling remaining rules).front s (Ok tt) m f.1 in
      subst (ReadsToEnd remaining rules s []) (sym f.2.1) (record {
        along = ReaderKeeps-along remaining rules s [] m front.in_order front.keeps;
        none = f.2.0;
        dry = retried_dry remaining rules s m f.1 wants some (ap length f.2.0);
      })

  -- nothing was buffered
  pub reads_filled : (s : Buffered S P) (answer : Result (Option ℕ) Error) (t : Buffered S P) → s.block.bytes ≡ []
      → FillsAndTakes remaining rules s answer t → ReadsByte remaining rules s answer t
  reads_filled s answer t none f = record {
    front = filled_front s answer t f;
    buffered = λ some. absurd (omega (arith, some, ap length none));
    filled = λ _. f;
    end = λ is. filled_end s t (subst (λ a. FillsAndTakes remaining rules s a t) is f);
  }
