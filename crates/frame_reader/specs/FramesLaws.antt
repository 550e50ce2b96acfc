-- Laws of frames.
use Rattle.std.specs.Prelude.{◌≡◌, ℕ, ◌/◌, ◌%◌, ◌<◌, ◌^◌, List, ◌++◌, length, take}
use Rattle.std.proofs.Common.{sym, ap, ◌∙◌, arith, append_assoc}
use Rattle.std.proofs.Math.Seq.{take-append_seam}
use Rattle.std.proofs.lemmas.List.{append_cancel_left}
use Rattle.frame_reader.specs.Frames.{header, frame}

-- no length begins with another
pub header-same : (a b : ℕ) (xs ys : List ℕ) → a < 2 ^ 16 → b < 2 ^ 16 → header a ++ xs ≡ header b ++ ys
    → (a ≡ b) × (xs ≡ ys)
header-same a b xs ys small small' same =
    let high : a / 256 % 256 ≡ b / 256 % 256 = cc in
    let low : a % 256 ≡ b % 256 = cc in
    (omega arith, cc)

-- no frame begins another
pub frame-same : (p q xs ys : List ℕ) → length p < 2 ^ 16 → length q < 2 ^ 16 → frame p ++ xs ≡ frame q ++ ys
    → (p ≡ q) × (xs ≡ ys)
frame-same p q xs ys small small' same =
    let parts = header-same (length p) (length q) (p ++ xs) (q ++ ys) small small'
    (sym (append_assoc (header (length p)) p xs) ∙ same ∙ append_assoc (header (length q)) q ys) in
    let first : p ≡ q =
    sym (take-append_seam p xs) ∙ ap (λ l. take (length p) l) parts.1
    ∙ ap (λ n. take n (q ++ ys)) parts.0 ∙ take-append_seam q ys in
    (first, append_cancel_left p xs ys (parts.1 ∙ ap (λ l. l ++ ys) (sym first)))
