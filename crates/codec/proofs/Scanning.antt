-- A header is read byte by byte.
use Rattle.std.specs.Prelude.{◌≡◌, ℕ, zero, suc, ◌+◌, ◌-◌, ◌<◌, ◌≤◌, List, [], ◌∷◌, ◌++◌, length, take, drop, get_or}
use Rattle.std.proofs.Common.{sym, ap, subst, ◌∙◌, arith, refl, length-take-le}
use Rattle.std.proofs.lemmas.List.{drop_all, drop_more, take-append-drop, take_more}
use Rattle.codec.specs.Scanning.{LeadsTo, says, scan_on}
use Rattle.codec.specs.ScanningLaws.{leads_on, leads_then}
use Rattle.piece_reader.specs.declared.header.Header.TheVariants as header
use Rattle.codec.specs.declared.scan.ScanStep.{ScanStep}
use Rattle.codec.specs.declared.scan.ScanStep.TheVariants.{More}

module _ {S : Type 0} (go : S → ℕ → ScanStep S) where
  -- one byte more is read, where one may be the header's
  pub read : (left : ℕ) (state : S) (used byte : ℕ) (more : List ℕ) (t : ScanStep S) → 0 < left → go state byte ≡ t
      → (fewer : ℕ) × (fewer + 1 ≡ left)
      × (scan_on go left state used (byte ∷ more) ≡ says t (used + 1) (λ next. scan_on go fewer next (used + 1) more))
  read zero state used byte more t some is = absurd (omega (arith, some))
  read (suc left) state used byte more t some is =
      (left, omega arith, ap (λ t. says t (used + 1) (λ next. scan_on go left next (used + 1) more)) is)

  no_byte : (left : ℕ) (state : S) (used : ℕ) → 0 < left → scan_on go left state used [] ≡ header.Short
  no_byte zero state used some = absurd (omega (arith, some))
  no_byte (suc left) state used some = refl

  module _ (most : ℕ) (start : S) (bytes : List ℕ) where
    -- the first so many bytes were read, and this is where the header stands
    pub record ScansOn (state : S) (used : ℕ) : Type 0 where
      pub left : ℕ
      pub all : left + used ≡ most
      pub goes : scan_on go most start 0 bytes ≡ scan_on go left state used (drop used bytes)
      pub leads : LeadsTo go start (take used bytes) state

    -- those that led to a place were
    pub scans_from : (state : S) (seen : ℕ) → seen ≤ length bytes → LeadsTo go start (take seen bytes) state
        → length (take seen bytes) < most → ScansOn state seen
    scans_from state seen inside leads some =
        let all : length (take seen bytes) ≡ seen = length-take-le seen bytes inside in
        record {
          left = most - seen;
          all = omega (arith, all, some);
          goes = ap (λ l. scan_on go most start 0 l) (sym (take-append-drop seen bytes))
              ∙ leads_on go most start 0 (take seen bytes) (drop seen bytes) state leads (most - seen) seen
              (omega (arith, all, some)) (omega (arith, all));
          leads = leads;
        }

    module _ (state : S) (used : ℕ) (so : ScansOn state used) where
      -- there is none
      pub scans_short : length bytes ≤ used → ¬ (used ≡ most) → scan_on go most start 0 bytes ≡ header.Short
      scans_short end some =
          so.goes ∙ ap (λ l. scan_on go so.left state used l) (drop_all used bytes end)
          ∙ no_byte so.left state used (omega (arith, some, so.all))

      module _ (byte other : ℕ) (inside : used < length bytes) (is : byte ≡ get_or bytes used other) (some : ¬ (used ≡ most))
          (t : ScanStep S) (turns : go state byte ≡ t) where
        abbrev next_read : (fewer : ℕ) × (fewer + 1 ≡ so.left) × (scan_on go so.left state used (byte ∷ drop (used + 1) bytes)
            ≡ says t (used + 1) (λ next. scan_on go fewer next (used + 1) (drop (used + 1) bytes)))
        next_read = read so.left state used byte (drop (used + 1) bytes) t (omega (arith, some, so.all)) turns

        -- what the next one makes of it
        pub scans_says : scan_on go most start 0 bytes
            ≡ says t (used + 1) (λ next. scan_on go next_read.0 next (used + 1) (drop (used + 1) bytes))
        scans_says =
            so.goes ∙ ap (λ l. scan_on go so.left state used l)
            (drop_more bytes used other inside ∙ ap (λ b. b ∷ drop (used + 1) bytes) (sym is)) ∙ next_read.2

      pub scans_more : (byte other : ℕ) → used < length bytes → byte ≡ get_or bytes used other → ¬ (used ≡ most)
          → (next : S) → go state byte ≡ More next → ScansOn next (used + 1)
      scans_more byte other inside is some next turns = record {
        left = (next_read byte other inside is some (More next) turns).0;
        all = omega (arith, (next_read byte other inside is some (More next) turns).1, so.all);
        goes = scans_says byte other inside is some (More next) turns;
        leads = subst (λ l. LeadsTo go start l next)
            (ap (λ b. take used bytes ++ b ∷ []) is ∙ sym (take_more bytes used other inside))
            (leads_then go start (take used bytes) state (byte ∷ []) next so.leads (next, turns, refl));
      }
